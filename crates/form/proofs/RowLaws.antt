-- What was read of a line. Assumes nothing.
--     follows_stuck, follows_on  a line that is stuck; one that was followed from a place further on
use Prim.Native.Nat.{ℕ}
use mathlib.Core.List.{List}
use mathlib.Core.Path.{◌≡◌, ◌∙◌}
use lib.ListN.{drop}
use Rattle.std.proofs.Common.{Result, Err}
use Rattle.rules.specs.Form.{Followed, stuck}
use Rattle.token.specs.Places.{Between}
use Rattle.token.proofs.PlaceLaws.{between-on}
use Rattle.form.specs.Rows.{FollowsForm}
use Rattle.form.specs.declared.RowRead.{RowRead}

module _ (text : List ℕ) where
  pub follows_stuck : (at here : ℕ) {whole : Followed} → stuck (drop here text) ≡ whole → Between text at here → FollowsForm text at whole (Err here)
  follows_stuck at here s b = record { said = s; between = b }

  pub follows_on : (r : Result RowRead ℕ) (at here : ℕ) {some whole : Followed} → FollowsForm text here some r → some ≡ whole → Between text at here → FollowsForm text at whole r
  follows_on r at here p e b = record { said = p.said ∙ e; between = between-on text at here _ b p.between }
