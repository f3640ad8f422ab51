mod ClaimLaws
mod ConcludeLaws
mod UnitLaws
