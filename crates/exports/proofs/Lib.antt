pub mod EntryLaws
pub mod Same
pub mod TextLaws
