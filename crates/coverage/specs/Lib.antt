pub mod Covered
pub mod Says
