pub mod BackLaws
pub mod EntryLaws
pub mod HoldLaws
pub mod OpLaws
pub mod RowLaws
