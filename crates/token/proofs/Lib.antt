pub mod ListLaws
pub mod PlaceLaws
mod WordLaws
