mod NumberLaws
pub mod PutLaws
