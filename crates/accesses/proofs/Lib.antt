pub mod OpLaws
pub mod AccessLaws
