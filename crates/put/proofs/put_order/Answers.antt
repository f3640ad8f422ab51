use mathlib.Core.List.{List, []}
use mathlib.Core.Path.{ap, ◌∙◌}
use Prim.Native.Nat.{ℕ}
use lib.ListN.{get_or}
use Rattle.rules.specs.Token.{bytes_of}
use Rattle.token.proofs.ListLaws.{orders-line}
use Rattle.put.proofs.PutLaws.{puts-are}
use Rattle.put.proofs.put_order.Goals as goal

pub returns : goal.returns
unfolding bytes_of
returns c =
    let order = c.args.order in
    puts-are _ _ _ _ _ _ (c.word_at.ensures ∙ ap (λ (ws : List (List ℕ)). get_or ws order []) orders-line) c.put_bytes.ensures
