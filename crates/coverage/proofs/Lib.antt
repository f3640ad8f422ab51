mod SaysLaws
mod SearchLaws
