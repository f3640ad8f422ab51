pub mod Answers
pub mod Choices
pub mod Fields
pub mod Places
pub mod Schedules
pub mod Stands
pub mod Steps
