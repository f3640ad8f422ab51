-- The rows of a thread before a line, line by line. Assumes nothing.
--     with-.., line-adds     one line more: bare, `thread`, a row
--     rows-..                a line passed over; none left
use Prim.Native.Nat.{ℕ, suc, ◌+◌, ◌≤◌}
use mathlib.Core.List.{List, [], ◌∷◌}
use mathlib.Core.Bool.{Bool, true, false, cond}
use mathlib.Core.Path.{◌≡◌, refl, ap, sym, ◌∙◌}
use native.Mathlib.Omega.{arith}
use lib.ListN.{drop}
use Rattle.rules.specs.Vector.{equal}
use Rattle.rules.specs.Token.{is_blank, run_length, past_blanks, token, token_length, ends_line, line_length, next_line, bytes_of}
use Rattle.token.specs.Places.{part}
use Rattle.token.proofs.PlaceLaws.{left_by, part-token}
use Rattle.excerpt.specs.Excerpts.{with_line, rows_behind}

module _ (text : List ℕ) (at rows here : ℕ) (is : here ≡ at + run_length is_blank (drop at text)) where
  skipped : drop here text ≡ past_blanks (drop at text)
  skipped = left_by text at here _ is

  abbrev line_by : Bool → Bool → ℕ
  line_by bare thread = cond bare rows (cond thread 0 (rows + 1))

  by_tests : (bare thread : Bool) → ends_line (drop here text) ≡ bare → equal (token (drop here text)) (bytes_of "thread") ≡ thread → with_line rows (drop at text) ≡ line_by bare thread
  by_tests bare thread e f =
      ap (λ (bs : List ℕ). line_by (ends_line bs) (equal (token bs) (bytes_of "thread"))) (sym skipped)
      ∙ ap (λ (b : Bool). line_by b (equal (token (drop here text)) (bytes_of "thread"))) e
      ∙ ap (line_by bare) f

  pub with-bare : ends_line (drop here text) ≡ true → rows ≡ with_line rows (drop at text)
  with-bare e = sym (by_tests true _ e refl)

  module _ (some : ends_line (drop here text) ≡ false) (to : ℕ) (ends : to ≡ here + token_length (drop here text)) where
    says : (r : Bool) → r ≡ equal (part here to text) (116 ∷ 104 ∷ 114 ∷ 101 ∷ 97 ∷ 100 ∷ []) → (t : Bool) → r ≡ t → equal (token (drop here text)) (bytes_of "thread") ≡ t
    unfolding bytes_of
    says r e t h = ap (λ (w : List ℕ). equal w (bytes_of "thread")) (sym (part-token text here to ends)) ∙ sym e ∙ h

    module _ (r : Bool) (e : r ≡ equal (part here to text) (116 ∷ 104 ∷ 114 ∷ 101 ∷ 97 ∷ 100 ∷ [])) where
      pub with-thread : r ≡ true → 0 ≡ with_line rows (drop at text)
      with-thread h = sym (by_tests false true some (says r e true h))

      pub with_row : r ≡ false → rows + 1 ≡ with_line rows (drop at text)
      with_row h = sym (by_tests false false some (says r e false h))

with-most : (rows : ℕ) (bare thread : Bool) → cond bare rows (cond thread 0 (rows + 1)) ≤ rows + 1
with-most rows true thread = omega arith
with-most rows false true = omega arith
with-most rows false false = omega arith

-- no line adds more than one
pub line-adds : (rows : ℕ) (bs : List ℕ) {r : ℕ} → r ≡ with_line rows bs → r ≤ rows + 1
line-adds rows bs e = omega (arith, e, with-most rows (ends_line (past_blanks bs)) (equal (token (past_blanks bs)) (bytes_of "thread")))

rows_next : (n rows : ℕ) (bs : List ℕ) → rows_behind (suc n) rows bs ≡ rows_behind n (with_line rows bs) (next_line bs)
unfolding rows_behind
rows_next n rows bs = refl

module _ (text : List ℕ) (at left rows : ℕ) where
  pub rows_on : (less more r : ℕ) → left ≡ suc less → more ≡ with_line rows (drop at text) → r ≡ at + line_length (drop at text)
      → rows_behind less more (drop r text) ≡ rows_behind left rows (drop at text)
  rows_on less more r s w e =
      ap (λ (n : ℕ). rows_behind less n (drop r text)) w
      ∙ ap (rows_behind less (with_line rows (drop at text))) (left_by text at r _ e)
      ∙ sym (ap (λ (n : ℕ). rows_behind n rows (drop at text)) s ∙ rows_next less rows (drop at text))

  pub rows_end : left ≤ 0 → rows ≡ rows_behind left rows (drop at text)
  unfolding rows_behind
  rows_end h = let e : left ≡ 0 = omega arith in rw e
