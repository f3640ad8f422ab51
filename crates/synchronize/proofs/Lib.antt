pub mod SeenLaws
pub mod SyncLaws
