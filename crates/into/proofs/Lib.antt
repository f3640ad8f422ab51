pub mod ListedLaws
pub mod Same
