-- What the code's changes and their answers stand for. Assumes nothing.
use Rattle.std.specs.Prelude.{ℕ, Option, Some, None}
use Rattle.rules.specs.Change as rules
use Rattle.change.specs.declared.Change.{Change}
use Rattle.change.specs.declared.Change.TheVariants as code

abbrev pub change_meant : Change → rules.Change
change_meant (code.Swap a) = rules.swap a
change_meant (code.Add a) = rules.add a
change_meant (code.Subtract a) = rules.subtract a
change_meant (code.And a) = rules.and a
change_meant (code.Or a) = rules.or a
change_meant (code.Xor a) = rules.xor a
change_meant (code.Nand a) = rules.nand a
change_meant (code.Max a) = rules.max a
change_meant (code.Min a) = rules.min a
change_meant (code.SignedMax a) = rules.signed_max a
change_meant (code.SignedMin a) = rules.signed_min a
change_meant (code.Compare a b) = rules.compare a b
change_meant code.Decrement = rules.decrement

abbrev pub changed_of : Option ℕ → rules.Changed
changed_of (Some v) = rules.success v
changed_of None = rules.failure
