use mathlib.Core.Path.{ap, sym, ◌∙◌}
use Prim.Native.Nat.{ℕ}
use lib.ListN.{replicate}
use borrow.Author.Rules.{rules}
use Rattle.trace.proofs.clear_all.Goals as goal

pub returns : goal.returns
returns c = record {
  is = c.fill.ensures.after (search rules) ∙ ap (λ (n : ℕ). replicate n 0) (sym c.fill.ensures.len);
  long = c.fill.ensures.len;
}
