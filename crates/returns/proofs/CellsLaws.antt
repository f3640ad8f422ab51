-- The lines of a written text that have start values: the cells', and the plain cells' where there are any. Assumes nothing.
--     values-line                 such a line is one line
--     values-read                 its values are read back
--     cells_made, cells-read       so are the cells
--     plains_made, plains-read     and the plain cells behind them
use Prim.Native.Nat.{ℕ, zero, suc, ◌+◌, ◌-◌, ◌*◌, ◌^◌, ◌≤◌, ◌<◌}
use mathlib.Core.List.{List, [], ◌∷◌, ◌++◌, append_assoc}
use mathlib.Core.Bool.{Bool, true, false, not}
use mathlib.Core.Logic.{◌⊎◌, inl, inr}
use mathlib.Core.Path.{◌≡◌, refl, ap, sym, subst, ◌∙◌}
use native.Mathlib.Omega.{arith}
use lib.Dec.{leb, eqb}
use lib.ListN.{length, take, drop, replicate, length-append}
use borrow.Author.Tests.{le-leb, leb-true, leb-false, lt-ltb}
use Rattle.rules.specs.Vector.{equal}
use Rattle.rules.specs.ConditionTree.{AllBytes}
use Rattle.rules.specs.Event.{little}
use Rattle.rules.specs.Table.{max_threads, max_cells, max_plains, max_values, cells_of, plains_of, values_of, u64_at, start_value}
use Rattle.rules.specs.Token.{bytes_of, space, line_feed, run_length, token_length, line_length, ends_line, past_blanks, token, past_token, found, number_in}
use Rattle.rules.specs.Text.{Draft, with_cell, with_plain, goes_on, values_line}
use Rattle.rules.specs.Writer.{shown, values_shown, plains_shown}
use Rattle.returns.proofs.TokenLaws.{all_append, Parted, Stands, is_word, word_stands, stands-skip, stands-token, stands-past, no_feed, word-no-feed}
use Rattle.returns.proofs.NumberLaws.{number-back, shown-word}
use Rattle.returns.proofs.ByteLaws.{parts, little-at, u64-below}
use Rattle.returns.proofs.RowLine.{PlainLine, Other, plain-line}
use Rattle.returns.proofs.TableLaws.{Fine}

module _ (more : Draft → ℕ → Draft) (many : Draft → ℕ) where
  -- one value, and the line's end
  value-step : (n : ℕ) (m : Draft) (w behind : List ℕ) (v : ℕ) → Stands w behind → number_in w ≡ found v →
      values_line more many (suc n) m (space ∷ (w ++ behind)) ≡ values_line more many n (more m v) behind
  unfolding values_line run_length
  value-step n m w behind v s e =
      let f : number_in (token (past_blanks (space ∷ (w ++ behind)))) ≡ found v = ap (λ (l : List ℕ). number_in (token l)) (stands-skip s) ∙ ap number_in (stands-token s) ∙ e in
      rw (values_line, f) (ap (λ (l : List ℕ). values_line more many n (more m v) l) (ap past_token (stands-skip s) ∙ stands-past s))

  values-end : (n : ℕ) (m : Draft) (rest : List ℕ) → 1 ≤ many m → values_line more many n m (line_feed ∷ rest) ≡ goes_on 0 m rest
  unfolding values_line run_length ends_line line_length token_length number_in
  values-end zero m rest h = refl
  values-end (suc n) m rest h = rw (le-leb 1 (many m) h) refl

pub values-parted : (t : List ℕ) (q i : ℕ) (rest : List ℕ) → Parted (values_shown t q i ++ (line_feed ∷ rest))
unfolding values_shown
values-parted t zero i rest = (refl, refl)
values-parted t (suc q) i rest = (refl, refl)

values-no-feed : (t : List ℕ) (q i : ℕ) → no_feed (values_shown t q i) ≡ true
unfolding values_shown
values-no-feed t zero i = refl
values-no-feed t (suc q) i =
    all_append (λ (b : ℕ). not (eqb b line_feed)) (shown (start_value t i)) (values_shown t q (i + 1)) (word-no-feed (shown (start_value t i)) (shown-word (start_value t i))) (values-no-feed t q (i + 1))

-- a word and start values
abbrev pub values_text : List ℕ → List ℕ → ℕ → ℕ → List ℕ
values_text w t q i = w ++ (values_shown t q i ++ (line_feed ∷ []))

pub values-text : (w t : List ℕ) (q i : ℕ) (rest : List ℕ) → values_text w t q i ++ rest ≡ w ++ (values_shown t q i ++ (line_feed ∷ rest))
values-text w t q i rest =
    append_assoc w (values_shown t q i ++ (line_feed ∷ [])) rest ∙ ap (λ (l : List ℕ). w ++ l) (append_assoc (values_shown t q i) (line_feed ∷ []) rest)

-- are one line
pub values-line : (w t : List ℕ) (q i : ℕ) → is_word w ≡ true → Other w → PlainLine (values_text w t q i)
values-line w t q i h o =
    let stands : (rest : List ℕ) → Stands w (values_shown t q i ++ (line_feed ∷ rest)) = λ rest. word_stands w (values_shown t q i ++ (line_feed ∷ rest)) h (values-parted t q i rest) in
    plain-line (values_text w t q i) (record {
      word = w;
      behind = values_shown t q i;
      stands = stands;
      other = o;
      skips = λ rest. ap past_blanks (values-text w t q i rest) ∙ stands-skip (stands rest);
      one_line = all_append (λ (b : ℕ). not (eqb b line_feed)) w (values_shown t q i) (word-no-feed w h) (values-no-feed t q i);
      long = omega (arith, length-append w (values_shown t q i ++ (line_feed ∷ [])), length-append (values_shown t q i) (line_feed ∷ []));
    })

pub cells-line : (t : List ℕ) → PlainLine (values_text (bytes_of "cells") t (cells_of t) 0)
unfolding bytes_of is_word equal
cells-line t = values-line (bytes_of "cells") t (cells_of t) 0 refl (refl, refl)

-- the plain cells' line
abbrev pub plains_text : List ℕ → List ℕ
plains_text t = values_text (bytes_of "plain") t (plains_of t) (cells_of t)

pub plains-line : (t : List ℕ) → PlainLine (plains_text t)
unfolding bytes_of is_word equal
plains-line t = values-line (bytes_of "plain") t (plains_of t) (cells_of t) refl (refl, refl)

-- where there are any
pub plains-shown : (t : List ℕ) → ((plains_of t ≡ 0) × (plains_shown t ≡ [])) ⊎ ((1 ≤ plains_of t) × (plains_shown t ≡ plains_text t))
unfolding plains_shown
plains-shown t = by (leb 1 (plains_of t)) refl
  where
    by : (x : Bool) → leb 1 (plains_of t) ≡ x → ((plains_of t ≡ 0) × (plains_shown t ≡ [])) ⊎ ((1 ≤ plains_of t) × (plains_shown t ≡ plains_text t))
    by true e = inr (leb-true 1 (plains_of t) e, rw (plains_shown, e) refl)
    by false e = inl (omega (arith, leb-false 1 (plains_of t) e), rw (plains_shown, e) refl)

module _ (t : List ℕ) (bytes : AllBytes t) (fine : Fine t) where
  -- the values before this one
  abbrev up_to : ℕ → List ℕ
  up_to i = take (8 * i) (drop 8 t)

  value-is : (i : ℕ) → i < values_of t → start_value t i ≡ u64_at t (8 + 8 * i)
  unfolding start_value
  value-is i h =
      let few = fine.header.cells-few in
      let fewer = fine.header.plains-few in
      let size = fine.header.size in
      rw (lt-ltb i max_values (omega arith), le-leb (8 + 8 * i + 8) (length t) (omega arith)) refl

  one-more : (i : ℕ) → i < values_of t → up_to i ++ little 8 (start_value t i) ≡ up_to (i + 1)
  one-more i h =
      let size = fine.header.size in
      let e : 8 * i + 8 ≡ 8 * (i + 1) = omega arith in
      ap (λ (l : List ℕ). up_to i ++ l) (ap (little 8) (value-is i h) ∙ little-at t bytes (8 + 8 * i) (omega arith))
      ∙ sym (parts t bytes (8 * i) 8 8) ∙ ap (λ (n : ℕ). take n (drop 8 t)) e

  value-below : (i : ℕ) → i < values_of t → start_value t i < 2 ^ 64
  value-below i h = subst (λ (v : ℕ). v < 2 ^ 64) (sym (value-is i h)) (u64-below t bytes (8 + 8 * i))

  -- a line of values from the first up to the last, where `so i` has been made of the values before number i
  module _ (more : Draft → ℕ → Draft) (many : Draft → ℕ) (so : ℕ → Draft) (first last : ℕ) (within : last ≤ values_of t)
      (next : (i : ℕ) → first ≤ i → i < last → more (so i) (start_value t i) ≡ so (i + 1)) (some : 1 ≤ many (so last)) where
    values-read : (q i n : ℕ) (rest : List ℕ) → first ≤ i → i + q ≡ last → q ≤ n →
        values_line more many n (so i) (values_shown t q i ++ (line_feed ∷ rest)) ≡ goes_on 0 (so last) rest
    unfolding values_shown
    values-read zero i n rest k e l =
        let f : i ≡ last = omega arith in
        ap (λ (x : ℕ). values_line more many n (so x) (line_feed ∷ rest)) f ∙ values-end more many n (so last) rest some
    values-read (suc q) i zero rest k e l = absurd (omega arith)
    values-read (suc q) i (suc n) rest k e l =
        let v = start_value t i in
        let behind = values_shown t q (i + 1) ++ (line_feed ∷ rest) in
        ap (λ (x : List ℕ). values_line more many (suc n) (so i) (space ∷ x)) (append_assoc (shown v) (values_shown t q (i + 1)) (line_feed ∷ rest))
        ∙ value-step more many n (so i) (shown v) behind v (word_stands (shown v) behind (shown-word v) (values-parted t q (i + 1) rest)) (number-back v (value-below i (omega arith)))
        ∙ ap (λ (m : Draft). values_line more many n m behind) (next i k (omega arith))
        ∙ values-read q (i + 1) n rest (omega arith) (omega arith) (omega arith)

  abbrev pub cells_made : ℕ → Draft
  cells_made i = record { cells = i; plains = 0; threads = 0; counts = replicate max_threads 0; body = up_to i }

  pub cells-read : (rest : List ℕ) →
      values_line with_cell (λ (m : Draft). m.cells) max_cells (cells_made 0) (values_shown t (cells_of t) 0 ++ (line_feed ∷ rest)) ≡ goes_on 0 (cells_made (cells_of t)) rest
  cells-read rest =
      let few = fine.header.cells-few in
      values-read with_cell (λ (m : Draft). m.cells) cells_made 0 (cells_of t) (omega arith)
      (λ i l h. let body = one-more i (omega arith) in λ k. record { cells = i + 1; plains = 0; threads = 0; counts = replicate max_threads 0; body = body k })
      fine.header.cells-some (cells_of t) 0 max_cells rest (omega arith) (omega arith) (omega arith)

  abbrev pub plains_made : ℕ → Draft
  plains_made i = record { cells = cells_of t; plains = i - cells_of t; threads = 0; counts = replicate max_threads 0; body = up_to i }

  pub plains-read : 1 ≤ plains_of t → (rest : List ℕ) →
      values_line with_plain (λ (m : Draft). m.plains) max_plains (plains_made (cells_of t)) (values_shown t (plains_of t) (cells_of t) ++ (line_feed ∷ rest))
      ≡ goes_on 0 (plains_made (values_of t)) rest
  plains-read some rest =
      let few = fine.header.plains-few in
      values-read with_plain (λ (m : Draft). m.plains) plains_made (cells_of t) (values_of t) (omega arith)
      (λ i l h.
      let body = one-more i h in
      let one : i - cells_of t + 1 ≡ i + 1 - cells_of t = omega arith in
      λ k. record { cells = cells_of t; plains = one k; threads = 0; counts = replicate max_threads 0; body = body k })
      (omega arith) (plains_of t) (cells_of t) max_plains rest (omega arith) (omega arith) (omega arith)

  -- behind the cells there is no plain cell yet
  pub none_yet : cells_made (cells_of t) ≡ plains_made (cells_of t)
  none_yet =
      let none : 0 ≡ cells_of t - cells_of t = omega arith in
      λ k. record { cells = cells_of t; plains = none k; threads = 0; counts = replicate max_threads 0; body = up_to (cells_of t) }
