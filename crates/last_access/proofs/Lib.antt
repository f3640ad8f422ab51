mod AccessLaws
mod OpLaws
