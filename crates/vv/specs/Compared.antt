-- What the answer of `partial_cmp` is for two vectors. Assumes nothing.
use Rattle.std.specs.Prelude.{ℕ, List, cond}
use Rattle.rules.specs.Vector.{equal, less}
use Rattle.vv.specs.declared.Ordering.{Ordering}
use Rattle.vv.specs.declared.Ordering.TheVariants.{Less, Equal, Neither}

-- `Equal` where "all equal", `Less` where "x < y", and `Neither` where it is neither
abbrev pub ordering_of : List ℕ → List ℕ → Ordering
ordering_of xs ys = cond (equal xs ys) Equal (cond (less xs ys) Less Neither)
