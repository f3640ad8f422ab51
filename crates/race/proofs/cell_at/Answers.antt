use Rattle.std.specs.Prelude.{ℕ, Option, unwrap_or}
use mathlib.Core.Path.{ap, sym, ◌∙◌}
use Rattle.steps.proofs.OpLaws.{says, refuses}
use Rattle.race.specs.Races.{cell_named, cell_at}
use Rattle.race.proofs.cell_at.Goals as goal

pub returns-in_default : goal.returns-in_default
unfolding cell_at
returns-in_default c = ap cell_named (sym (refuses c.row_of.ensures c.in_default.is))

pub returns : goal.returns
unfolding cell_at
returns c =
    c.unwrap_or.ensures ∙ (ap (λ (m : Option ℕ). unwrap_or m 255) c.cell_of.ensures) ∙ ap cell_named (sym (says c.row_of.ensures c.in-Some.is))
