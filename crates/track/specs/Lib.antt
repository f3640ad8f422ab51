pub mod LastAccess
pub mod Tracked
