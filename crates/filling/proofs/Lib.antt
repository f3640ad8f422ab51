pub mod HeldLaws
pub mod LineLaws
mod OneLaws
