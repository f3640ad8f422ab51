pub mod ScheduleLaws
pub mod SeedLaws
