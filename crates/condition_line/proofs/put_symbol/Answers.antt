use Prim.Native.Nat.{ℕ}
use mathlib.Core.List.{List, []}
use mathlib.Core.Path.{ap, ◌∙◌}
use lib.ListN.{get_or}
use Rattle.rules.specs.Token.{bytes_of}
use Rattle.rules.specs.Text.{symbols}
use Rattle.token.proofs.ListLaws.{symbols-line}
use Rattle.put.proofs.PutLaws.{puts-are}
use Rattle.condition_line.proofs.put_symbol.Goals as goal

pub returns : goal.returns
unfolding bytes_of
returns c =
    puts-are _ _ _ _ _ _
    (c.word_at.ensures
    ∙ ap (λ (ws : List (List ℕ)). get_or ws c.saturating_sub-place.result []) symbols-line
    ∙ ap (λ (n : ℕ). get_or symbols n []) c.saturating_sub-place.ensures)
    c.put_bytes.ensures
