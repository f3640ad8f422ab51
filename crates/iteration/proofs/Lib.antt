pub mod ReadyLaws
pub mod GoneLaws
pub mod WalkedLaws
pub mod ExecuteLaws
