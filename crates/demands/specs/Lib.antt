pub mod Demands
pub mod Exchanged
pub mod Wrong
