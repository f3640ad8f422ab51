pub mod Answered
pub mod Demanded
pub mod Exchanged
pub mod WrongRuns
pub mod Wrong
