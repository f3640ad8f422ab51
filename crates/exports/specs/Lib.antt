pub mod Entry
pub mod Same
pub mod Texts
