-- How a line comes out. Assumes nothing.
--     lined-by                   an answer to a line that is the same
--     passed_up                  what a `?` hands on
--     bare-on, bare-refused      nothing else may stand in the line
--     Underway, values-..        start values
--     thread-.., row-..          a thread, a row
use Prim.Native.Nat.{ℕ, suc, ◌+◌, ◌-◌, ◌≤◌, ◌<◌}
use mathlib.Core.List.{List}
use mathlib.Core.Bool.{Bool, true, false, cond, ◌&&◌}
use mathlib.Core.Path.{◌≡◌, refl, ap, sym, ◌∙◌, subst}
use native.Mathlib.Omega.{arith}
use borrow.Author.Tests.{lt-ltb, le-ltb, le-leb, lt-leb, ltb-true, ltb-false}
use lib.Dec.{ltb, leb}
use lib.ListN.{drop, get_or}
use Rattle.rules.specs.Table.{Room, max_rows}
use Rattle.rules.specs.Token.{Found, nothing, found, ends_line, past_blanks, token, past_token, token_length, next_line, number_in}
use Rattle.rules.specs.Form.{Followed, stuck, fits, row_in}
use Rattle.rules.specs.Text as rules
use Rattle.rules.specs.Text.{Draft, bare_then, values_line, with_row, rows_so_far}
use Rattle.token.specs.Places.{part}
use Rattle.token.proofs.PlaceLaws.{left_by, part-token}
use Rattle.filling.specs.Tables.{HeldTable, how_many, with_cell_or_plain}
use Rattle.filling.proofs.HeldLaws.{held-threads}
use Rattle.filling.specs.Steps.{Lined, LineSteps, Bare, a_thread_at, a_row_at}
use Rattle.filling.specs.declared.Line.{Line}
use Rattle.filling.specs.declared.Line.TheVariants.{GoesOn, Concludes}
use Rattle.std.proofs.Common.{Result, Ok, Err}
use Rattle.std.specs.Result.{IsErrAnd}

-- a place at which something is refused, as `?` passes it up
pub passed_up : {A : Type 0} (r : Result A ℕ) (at : ℕ) → IsErrAnd r (λ (e : ℕ). e ≡ at) → r ≡ Err at
passed_up (Ok x) at u = absurd u
passed_up (Err e) at u = ap Err u

abbrev bare_by : ℕ → Draft → List ℕ → Bool → rules.Line
bare_by rows m bs t = cond t (rules.goes_on rows m (next_line bs)) (rules.refused_line bs)

module _ (text : List ℕ) (from here rows : ℕ) (skipped : drop here text ≡ past_blanks (drop from text)) where
  bare-is : (m : Draft) (t : Bool) → ends_line (drop here text) ≡ t → bare_then rows m (drop from text) ≡ bare_by rows m (drop here text) t
  bare-is m t e = ap (λ (bs : List ℕ). bare_by rows m bs (ends_line bs)) (sym skipped) ∙ ap (bare_by rows m (drop here text)) e

  pub bare-on : (next more : ℕ) → drop next text ≡ next_line (drop here text) → ends_line (drop here text) ≡ true
      → (table : List ℕ) (n : ℕ) (m : Draft) → HeldTable table more m → Lined text table n (bare_then rows m (drop from text)) (Ok (GoesOn (record { rows = rows; length = more; at = next })))
  bare-on next more onward e table n m held = (m, (bare-is m true e ∙ ap (rules.goes_on rows m) (sym onward), held))

  pub bare-refused : ends_line (drop here text) ≡ false
      → (table : List ℕ) (n : ℕ) (m : Draft) → Lined text table n (bare_then rows m (drop from text)) (Err here)
  bare-refused e table n m = bare-is m false e

pub lined-by : (text table : List ℕ) (n : ℕ) (line other : rules.Line) (r : Result Line ℕ) → line ≡ other → Lined text table n line r → Lined text table n other r
lined-by text table n line other r e x = subst (λ (l : rules.Line). Lined text table n l r) e x

pub lined-bare : (text : List ℕ) (from rows more : ℕ) (r : Result Line ℕ) → Bare text from rows more r
    → (table : List ℕ) (n : ℕ) (m : Draft) → HeldTable table more m → (other : rules.Line) → bare_then rows m (drop from text) ≡ other → Lined text table n other r
lined-bare text from rows more r bare table n m held other e = lined-by text table n (bare_then rows m (drop from text)) other r e (bare table n m held)

pub lined-steps : (text entry exit : List ℕ) (n : ℕ) (r : Result Line ℕ) (line : Draft → rules.Line) → LineSteps text entry exit n r line
    → (m : Draft) → HeldTable entry n m → (other : rules.Line) → line m ≡ other → Lined text exit n other r
lined-steps text entry exit n r line steps m held other e = lined-by text exit n (line m) other r e (steps.is m held)

-- `finally`: by whether the buffer has a thread
module _ (text table : List ℕ) (n here to : ℕ) (line : rules.Line) (m : Draft) (held : HeldTable table n m)
    (some : 1 ≤ m.threads → line ≡ rules.concludes m (drop to text)) (none : m.threads < 1 → line ≡ rules.refused_line (drop here text)) where
  condition-by : (b : Bool) → ltb 0 (get_or table 0 0) ≡ b → Lined text table n line (cond b (Ok (Concludes to)) (Err here))
  condition-by true e = (m, (some (omega (arith, ltb-true 0 (get_or table 0 0) e, held-threads table n m held)), held))
  condition-by false e = none (omega (arith, ltb-false 0 (get_or table 0 0) e, held-threads table n m held))

  pub lined-condition : (r : Result Line ℕ) → r ≡ cond (ltb 0 (get_or table 0 0)) (Ok (Concludes to)) (Err here) → Lined text table n line r
  lined-condition r e = subst (Lined text table n line) (sym e) (condition-by (ltb 0 (get_or table 0 0)) refl)

-- Start values

-- on the way, with so many more that may come
pub record Underway (text table : List ℕ) (place n left from : ℕ) (whole : rules.Line) : Type 0 where
  pub made : Draft
  pub held : HeldTable table n made
  pub count : how_many place made + left ≤ 4
  pub same : values_line (with_cell_or_plain place) (how_many place) left made (drop from text) ≡ whole

module _ (more : Draft → ℕ → Draft) (many : Draft → ℕ) where
  abbrev values_by : ℕ → Draft → List ℕ → List ℕ → Found → rules.Line
  values_by n m bs here f =
      elim f [
        | found v ↦ values_line more many n (more m v) (past_token here)
        | nothing ↦ cond (leb 1 (many m)) (bare_then 0 m bs) (rules.refused_line here)
      ]

  values-next : (n : ℕ) (m : Draft) (bs : List ℕ) → values_line more many (suc n) m bs ≡ values_by n m bs (past_blanks bs) (number_in (token (past_blanks bs)))
  unfolding values_line
  values-next n m bs = refl

  values-zero : (m : Draft) (bs : List ℕ) → values_line more many 0 m bs ≡ bare_then 0 m bs
  unfolding values_line
  values-zero m bs = refl

  module _ (text : List ℕ) (from left : ℕ) (m : Draft) where
    pub values-out : left ≤ 0 → bare_then 0 m (drop from text) ≡ values_line more many left m (drop from text)
    values-out h = let e : left ≡ 0 = omega arith in sym (ap (λ (n : ℕ). values_line more many n m (drop from text)) e ∙ values-zero m (drop from text))

    module _ (here to : ℕ) (skipped : drop here text ≡ past_blanks (drop from text)) (long : to ≡ here + token_length (drop here text)) (some : 0 < left) where
      values_one : (f : Found) → number_in (part here to text) ≡ f → values_by (left - 1) m (drop from text) (drop here text) f ≡ values_line more many left m (drop from text)
      values_one f e =
          let s : left ≡ suc (left - 1) = omega arith in
          ap (values_by (left - 1) m (drop from text) (drop here text)) (sym e ∙ ap number_in (part-token text here to long))
          ∙ ap (λ (bs : List ℕ). values_by (left - 1) m (drop from text) bs (number_in (token bs))) skipped
          ∙ sym (values-next (left - 1) m (drop from text))
          ∙ ap (λ (n : ℕ). values_line more many n m (drop from text)) (sym s)

      pub values-found : (v : ℕ) → number_in (part here to text) ≡ found v → values_line more many (left - 1) (more m v) (drop to text) ≡ values_line more many left m (drop from text)
      values-found v e = ap (values_line more many (left - 1) (more m v)) (left_by text here to _ long) ∙ values_one (found v) e

      values-last : (t : Bool) → leb 1 (many m) ≡ t → number_in (part here to text) ≡ nothing → cond t (bare_then 0 m (drop from text)) (rules.refused_line (drop here text)) ≡ values_line more many left m (drop from text)
      values-last t c e = ap (λ (b : Bool). cond b (bare_then 0 m (drop from text)) (rules.refused_line (drop here text))) (sym c) ∙ values_one nothing e

      pub values-bare : number_in (part here to text) ≡ nothing → 1 ≤ many m → bare_then 0 m (drop from text) ≡ values_line more many left m (drop from text)
      values-bare e h = values-last true (le-leb 1 (many m) h) e

      pub values-none : number_in (part here to text) ≡ nothing → many m < 1 → values_line more many left m (drop from text) ≡ rules.refused_line (drop here text)
      values-none e h = sym (values-last false (lt-leb 1 (many m) h) e)

-- A thread, a row

module _ (lines : ℕ) (m : Draft) (here past : List ℕ) where
  pub thread-refused : 5 ≤ m.threads → a_thread_at lines m here past ≡ rules.refused_line here
  thread-refused h = rw (le-ltb m.threads 5 h)

  pub thread-begun : m.threads < 5 → rules.bare_then (rules.rows_ahead lines (next_line here)) (rules.with_thread m) past ≡ a_thread_at lines m here past
  thread-begun h = rw (lt-ltb m.threads 5 h)

module _ (all rows : ℕ) (m : Draft) (bs here : List ℕ) where
  -- what it may name
  abbrev room : Room
  room = record { threads = all; cells = m.cells; plains = m.plains; rows = rows; row = rows_so_far m }

  abbrev row_by : Bool → Bool → Followed → rules.Line
  row_by s t f = cond (s && t) (rules.row_line rows m f) (rules.refused_line here)

  row-by : (s t : Bool) → leb 1 m.threads ≡ s → ltb (rows_so_far m) max_rows ≡ t → (f : Followed) → row_in room bs ≡ f
      → a_row_at all rows m bs here ≡ row_by s t f
  row-by s t e d f g =
      ap (λ (b : Bool). row_by b (ltb (rows_so_far m) max_rows) (row_in room bs)) e
      ∙ ap (λ (b : Bool). row_by s b (row_in room bs)) d
      ∙ ap (row_by s t) g

  pub row-early : m.threads < 1 → a_row_at all rows m bs here ≡ rules.refused_line here
  row-early h = row-by false _ (lt-leb 1 m.threads h) refl _ refl

  pub row-full : 1 ≤ m.threads → max_rows ≤ rows_so_far m → a_row_at all rows m bs here ≡ rules.refused_line here
  row-full h l = row-by true false (le-leb 1 m.threads h) (le-ltb (rows_so_far m) max_rows l) _ refl

  pub row-stuck : 1 ≤ m.threads → rows_so_far m < max_rows → (rest : List ℕ) → row_in room bs ≡ stuck rest → a_row_at all rows m bs here ≡ rules.refused_line rest
  row-stuck h l rest e = row-by true true (le-leb 1 m.threads h) (lt-ltb (rows_so_far m) max_rows l) (stuck rest) e

  pub row_fits : 1 ≤ m.threads → rows_so_far m < max_rows → (fields rest : List ℕ) → row_in room bs ≡ fits fields rest
      → a_row_at all rows m bs here ≡ rules.goes_on rows (with_row m fields) rest
  row_fits h l fields rest e = row-by true true (le-leb 1 m.threads h) (lt-ltb (rows_so_far m) max_rows l) (fits fields rest) e
