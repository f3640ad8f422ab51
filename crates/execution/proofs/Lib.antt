pub mod ActLaws
pub mod StoreLaws
pub mod TickLaws
