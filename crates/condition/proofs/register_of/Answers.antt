use native.Mathlib.Omega.{arith}
use mathlib.Core.Path.{sym, ap, ◌∙◌}
use Prim.Native.Nat.{ℕ, ◌+◌}
use lib.ListN.{get_or-eq_default, get_or}
use Rattle.condition.proofs.register_of.Goals as goal

pub overflow_add-at : goal.overflow_add-at
overflow_add-at c = omega (arith, c.register_at-at.ensures, c.requires.0, c.requires.1)

pub returns-then-at-values : goal.returns-then-at-values
returns-then-at-values c =
    ap (λ (n : ℕ). get_or c.args.values.now (28 + n) 0) c.register_at-at.ensures

pub returns : goal.returns
returns c =
    let values = c.args.values.now in
    sym (get_or-eq_default values 0 c.if-at-values.false) ∙ ap (λ (n : ℕ). get_or values (28 + n) 0) c.register_at-at.ensures
