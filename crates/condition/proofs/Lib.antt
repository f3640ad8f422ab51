mod GroupLaws
mod ReadLaws
mod WholeLaws
