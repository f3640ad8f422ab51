mod Laws
pub mod BackLaws
