pub mod OrderLaws
pub mod TouchLaws
