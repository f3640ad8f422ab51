pub mod BranchLaws
pub mod ComesLaws
pub mod MarkedLaws
pub mod MetLaws
pub mod ReplyLaws
