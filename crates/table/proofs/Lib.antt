pub mod Header
pub mod Places
pub mod ShapeLaws
pub mod Walks
pub mod Within
