-- The last token before a place, token by token. Assumes nothing.
use Prim.Native.Nat.{ℕ, suc, ◌+◌, ◌-◌, ◌≤◌, ◌<◌}
use mathlib.Core.List.{List}
use mathlib.Core.Bool.{Bool, true, false, cond}
use mathlib.Core.Path.{◌≡◌, refl, ap, sym, ◌∙◌}
use native.Mathlib.Omega.{arith}
use borrow.Author.Tests.{le-leb, lt-leb}
use lib.Dec.{leb}
use lib.ListN.{drop}
use Rattle.rules.specs.Token.{token_length}
use Rattle.excerpt.specs.Excerpts.{past_blanks_from, token_before}

module _ (text : List ℕ) (at : ℕ) where
  -- what comes of a token at this place
  abbrev onward : ℕ → ℕ → ℕ → Bool → ℕ
  onward n found here t = cond t found (token_before text at n here (here + token_length (drop here text)))

  onward-next : (n found from : ℕ) → token_before text at (suc n) found from ≡ onward n found (past_blanks_from text from) (leb at (past_blanks_from text from))
  unfolding token_before
  onward-next n found from = refl

  none : (found from : ℕ) → token_before text at 0 found from ≡ found
  unfolding token_before
  none found from = refl

  pub before-out : (left found from : ℕ) → left ≤ 0 → token_before text at left found from ≡ found
  before-out left found from h = let e : left ≡ 0 = omega arith in ap (λ (n : ℕ). token_before text at n found from) e ∙ none found from

  module _ (left found from here : ℕ) (more : 0 < left) (is : here ≡ past_blanks_from text from) where
    one : (t : Bool) → leb at here ≡ t → token_before text at left found from ≡ onward (left - 1) found here t
    one t e =
        let s : left ≡ suc (left - 1) = omega arith in
        ap (λ (n : ℕ). token_before text at n found from) s
        ∙ onward-next (left - 1) found from
        ∙ ap (λ (i : ℕ). onward (left - 1) found i (leb at i)) (sym is)
        ∙ ap (onward (left - 1) found here) e

    pub before_here : at ≤ here → token_before text at left found from ≡ found
    before_here h = one true (le-leb at here h)

    pub before_on : (less to : ℕ) → less ≡ left - 1 → here < at → to ≡ here + token_length (drop here text) → token_before text at less here to ≡ token_before text at left found from
    before_on less to k h e = rw k (ap (token_before text at (left - 1) here) e ∙ sym (one false (lt-leb at here h)))
