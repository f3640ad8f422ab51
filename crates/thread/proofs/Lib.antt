pub mod FillLaws
pub mod ThreadLaws
