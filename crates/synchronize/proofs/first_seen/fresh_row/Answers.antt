use mathlib.Core.Path.{ap, ◌∙◌}
use Prim.Native.Nat.{ℕ}
use mathlib.Core.List.{List}
use Rattle.rules.specs.Seen.{touched}
use Rattle.synchronize.proofs.first_seen.fresh_row.Goals as goal

pub returns : goal.returns
returns c =
    let args = c.args in
    c.touched_row.ensures ∙ ap (λ (row : List ℕ). touched row args.thread args.version) c.new-fresh.ensures
