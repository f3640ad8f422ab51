pub mod Answers
pub mod Bounds
pub mod Choices
pub mod Holds
pub mod Places
pub mod Pushes
pub mod Steps
pub mod Walks
