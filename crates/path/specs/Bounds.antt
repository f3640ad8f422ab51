-- The bound on preemptions, as the code has it. Assumes nothing.
--     bound_of      the definition's bound
--     reaches      whether so many preemptions are as many as it
use Rattle.std.specs.Prelude.{ℕ, Bool, false, eqb, Option, Some, None}
use Rattle.rules.specs.Path as rules

abbrev pub bound_of : Option ℕ → rules.Bound
bound_of None = rules.unbounded
bound_of (Some n) = rules.at_most n

abbrev pub reaches : Option ℕ → ℕ → Bool
reaches None p = false
reaches (Some n) p = eqb p n
