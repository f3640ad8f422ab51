pub mod NumberLaws
pub mod RowLaws
