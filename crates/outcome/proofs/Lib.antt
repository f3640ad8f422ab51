pub mod CameLaws
