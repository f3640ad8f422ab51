pub mod Facts
pub mod Rows
pub mod Schedules
pub mod Slots
pub mod Standing
pub mod Start
pub mod Steps
pub mod Ticks
