pub mod Accesses
pub mod Exclusive
