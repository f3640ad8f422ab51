mod IntoLaws
mod LengthLaws
mod TextLaws
