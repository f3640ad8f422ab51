pub mod Chosen
pub mod Offered
pub mod Seen
