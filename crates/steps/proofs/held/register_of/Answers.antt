use mathlib.Core.Path.{ap}
use Prim.Native.Nat.{ℕ, ◌+◌}
use Rattle.steps.specs.Holds as holds
use Rattle.steps.proofs.HoldLaws.{reads, both}
use Rattle.steps.proofs.held.register_of.Goals as goal

pub returns : goal.returns
returns c =
    let g = c.args in
    reads g.held.now (holds.register g.thread g.register) (ap (λ (n : ℕ). 36 + n) c.register_at.ensures) (both _ _ 5 4 c.requires.0 c.requires.1)
