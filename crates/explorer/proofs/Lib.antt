pub mod ReadyLaws
pub mod RefuseLaws
pub mod RunLaws
pub mod EndLaws
pub mod Same
