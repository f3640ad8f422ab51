pub mod FrontLaws
pub mod TraceLaws
pub mod ZeroLaws
