mod TellLaws
pub mod Told
