pub mod AheadLaws
pub mod LastAccessLaws
pub mod TrackLaws
