mod ReadLaws
mod WholeLaws
