pub mod Compared
pub mod Whom
