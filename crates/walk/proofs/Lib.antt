pub mod MeetLaws
pub mod TakeLaws
pub mod TickLaws
pub mod WalkLaws
pub mod WholeLaws
