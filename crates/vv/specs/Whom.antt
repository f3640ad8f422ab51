-- What each answer of `ahead` stands for. Assumes nothing.
use Rattle.std.specs.Prelude.{ℕ, Option, Some, None}
use Rattle.rules.specs.Vector as rules

abbrev pub whom : Option ℕ → rules.Whom
whom None = rules.nobody
whom (Some t) = rules.thread t
