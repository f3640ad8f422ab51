pub mod Explores
pub mod Runs
pub mod Same
