pub mod Bounds
pub mod Range
