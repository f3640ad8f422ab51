pub mod Kept
pub mod Held
pub mod Possible
pub mod Rules
pub mod Example
