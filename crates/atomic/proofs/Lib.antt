pub mod AccessLaws
pub mod NewestLaws
