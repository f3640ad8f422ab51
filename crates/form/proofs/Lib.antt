mod ByteLaws
mod FollowLaws
pub mod LetterLaws
pub mod RowLaws
pub mod TriedLaws
