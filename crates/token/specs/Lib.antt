pub mod Finds
pub mod Places
