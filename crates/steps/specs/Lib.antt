pub mod Entries
pub mod Holds
