mod LineLaws
mod LookLaws
