pub mod Alone
pub mod Answers
pub mod Next
pub mod Stores
