mod BeforeLaws
mod LineLaws
mod RowLaws
mod SeenLaws
