pub mod Begins
pub mod Pendings
