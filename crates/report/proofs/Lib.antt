pub mod AnswerLaws
pub mod CaseLaws
pub mod RecordLaws
