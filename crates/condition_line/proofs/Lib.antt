pub mod FineLaws
mod UnitLaws
