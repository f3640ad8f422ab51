pub mod Branches
pub mod Entries
pub mod Stands
