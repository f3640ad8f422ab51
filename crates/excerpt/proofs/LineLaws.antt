-- Where a line begins and ends, and what of it is shown. Assumes nothing.
--     begin-.., shown-.., feeds-..     a line passed over; a byte more, the line's end; where a line feeds
--     place-.., first-.., last-..      the tests on a column, and on the ends of what is shown
use Prim.Native.Nat.{ℕ, suc, ◌+◌, ◌-◌, ◌≤◌, ◌<◌}
use mathlib.Core.List.{List}
use mathlib.Core.Bool.{true, false, cond, ◌&&◌, ◌||◌}
use mathlib.Core.Path.{◌≡◌, refl, ap, sym, ◌∙◌}
use native.Mathlib.Numerals.{add-one}
use native.Mathlib.Omega.{arith}
use native.Mathlib.Decide.{dec_le}
use borrow.Author.Tests.{eq-eqb, ne_eqb, le-leb, lt-leb}
use lib.Dec.{eqb}
use lib.ListN.{length, get_or, drop, drop_of_length-le}
use lib.Seq.{drop-cons, get_or-drop}
use Rattle.rules.specs.Token.{line_length, next_line}
use Rattle.token.proofs.PlaceLaws.{left_by}
use Rattle.excerpt.specs.Excerpts.{behind_lines, feeds, shown_length, place_from, first_shown, last_shown}

-- Lines passed over

behind-next : (n : ℕ) (bs : List ℕ) → behind_lines (suc n) bs ≡ line_length bs + behind_lines n (next_line bs)
unfolding behind_lines
behind-next n bs = refl

module _ (text : List ℕ) (at left : ℕ) where
  pub begin-on : (less r : ℕ) → left ≡ suc less → r ≡ at + line_length (drop at text) → r + behind_lines less (drop r text) ≡ at + behind_lines left (drop at text)
  begin-on less r s e =
      let one : behind_lines left (drop at text) ≡ line_length (drop at text) + behind_lines less (drop r text) =
      ap (λ (n : ℕ). behind_lines n (drop at text)) s
      ∙ behind-next less (drop at text)
      ∙ ap (λ (bs : List ℕ). line_length (drop at text) + behind_lines less bs) (sym (left_by text at r _ e)) in
      omega arith

  pub begin-end : left ≤ 0 → behind_lines left (drop at text) ≡ 0
  unfolding behind_lines
  begin-end h = let e : left ≡ 0 = omega arith in rw e

-- The line's end

module _ (text : List ℕ) (at : ℕ) where
  pub feeds-past : length text ≤ at → false ≡ feeds (drop at text)
  unfolding feeds
  feeds-past h = rw (drop_of_length-le text {i = at} h)

  module _ (h : at < length text) where
    feeds-at : feeds (drop at text) ≡ eqb (get_or text at 0) 10 || (eqb (get_or text at 0) 13 && eqb (get_or text (at + 1) 0) 10)
    unfolding feeds
    feeds-at =
        let e : suc at + 0 ≡ at + 1 = omega arith in
        let next : get_or (drop (suc at) text) 0 0 ≡ get_or text (at + 1) 0 = get_or-drop (suc at) text 0 0 ∙ ap (λ (i : ℕ). get_or text i 0) e in
        rw (drop-cons text at 0, next)

    pub feeds-feed : get_or text at 0 ≡ 10 → true ≡ feeds (drop at text)
    feeds-feed e = sym (feeds-at ∙ (simp (eq-eqb _ _ e)))

    pub feeds-not : (get_or text at 0 ≡ 10 → ⊥) → (get_or text at 0 ≡ 13 → ⊥) → false ≡ feeds (drop at text)
    feeds-not n m = sym (feeds-at ∙ (simp (ne_eqb _ _ n, ne_eqb _ _ m)))

    pub feeds-return : (get_or text at 0 ≡ 10 → ⊥) → get_or text at 0 ≡ 13 → eqb (get_or text (at + 1) 0) 10 ≡ feeds (drop at text)
    feeds-return n e = sym (feeds-at ∙ (simp (ne_eqb _ _ n, eq-eqb _ _ e)))

    pub feeds-last : (get_or text at 0 ≡ 10 → ⊥) → get_or text at 0 ≡ 13 → length text ≤ at + 1 → false ≡ feeds (drop at text)
    feeds-last n e l =
        let z : get_or text (at + 1) 0 ≡ 0 = sym (get_or-drop (at + 1) text 0 0 ∙ ap (λ (i : ℕ). get_or text i 0) (omega arith)) ∙ ap (λ (bs : List ℕ). get_or bs 0 0) (drop_of_length-le text {i = at + 1} l) in
        sym (ap (λ (k : ℕ). eqb k 10) z) ∙ feeds-return n e

    shown-at : shown_length (drop at text) ≡ cond (feeds (drop at text)) 0 (suc (shown_length (drop (at + 1) text)))
    unfolding shown_length
    shown-at = rw (add-one, drop-cons text at 0)

    pub shown-on : feeds (drop at text) ≡ false → shown_length (drop at text) ≡ suc (shown_length (drop (at + 1) text))
    shown-on e = shown-at ∙ (rw e)

    pub shown-stops : feeds (drop at text) ≡ true → shown_length (drop at text) ≡ 0
    shown-stops e = shown-at ∙ (rw e)

  pub shown-past : length text ≤ at → shown_length (drop at text) ≡ 0
  unfolding shown_length
  shown-past h = rw (drop_of_length-le text {i = at} h)

-- Columns, and what is shown

module _ (begin end column : ℕ) where
  pub place-there : column ≤ end - begin → (r : ℕ) → r ≡ begin + (column - 1) → r ≡ place_from begin end column
  place-there h r e = rw (le-leb column (end - begin) h) e

  pub place-past : end - begin < column → end ≡ place_from begin end column
  place-past h = rw (lt-leb column (end - begin) h)

module _ (begin at r : ℕ) where
  pub first-is : (begin ≤ at - 100 → r ≡ at - 100) → (at - 100 < begin → r ≡ begin) → r ≡ first_shown begin at
  first-is f g =
      elim (dec_le begin (at - 100)) [
        | yes h ↦ rw (le-leb begin (at - 100) h) (f h)
        | no h ↦ rw (lt-leb begin (at - 100) (omega arith)) (g (omega arith))
      ]

module _ (from end : ℕ) where
  pub last_end : end - from ≤ 200 → end ≡ last_shown from end
  last_end h = rw (le-leb (end - from) 200 h)

  pub last-cut : 200 < end - from → (r : ℕ) → r ≡ from + 200 → r ≡ last_shown from end
  last-cut h r e = rw (lt-leb (end - from) 200 h) e
