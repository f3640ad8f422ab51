-- The listing of an execution: how wide its rows are, what its texts come to, and one turn of each loop. Assumes nothing.
--     row-long      where a row ends that is put at a page's begin
--     widest-more   one step more in the search for the longest row
--     width_low     no row has 256 bytes
--     head-put, step-put     the calls that put a text, one behind the other
--     each-*        one turn of the loop over the slots of a mask, and its end
--     between-*     an execution that is shortened
use Prim.Native.Nat.{ℕ, zero, suc, ◌+◌, ◌-◌, ◌/◌, ◌%◌, ◌≤◌, ◌<◌, max}
use mathlib.Core.Bool.{Bool, true, false, cond}
use mathlib.Core.List.{List, [], ◌∷◌}
use mathlib.Core.Path.{◌≡◌, ap, ◌∙◌}
use native.Mathlib.Decide.{dec_lt, dec_le}
use native.Mathlib.Omega.{arith}
use native.Mathlib.Numerals.{add-one}
use Rattle.std.proofs.Math.Nat.{max-eq_left, max-eq_right}
use borrow.Author.Tests.{lt-ltb, le-ltb, le-leb, lt-leb, eq-eqb, ne_eqb}
use lib.Dec.{eqb}
use lib.ListN.{length, take, length-append}
use lib.Seq.{take_all}
use Rattle.rules.specs.Token.{bytes_of}
use Rattle.rules.specs.Table.{Row}
use Rattle.rules.specs.Form.{forms}
use Rattle.rules.specs.Writer.{form_in, form_shown, fields_of, row_shown}
use Rattle.page.specs.Pages.{Page, page_of, put_text, put_filled, padded}
use Rattle.page.proofs.PageLaws.{text-put}
use Rattle.steps.specs.Entries.{entry_read, entries}
use Rattle.std.specs.Prelude.{Option}
use Rattle.outcome.specs.Comes.{came_of_step}
use Rattle.outcome.specs.declared.Came.{Came}
use Rattle.row_text.specs.Rows.{row_words, row_said}
use Rattle.listing.specs.Words.{put_came}
use Rattle.listing.specs.Steps.{row_of_step, larger, widest, width_of, rows_end, put_head, slots_in, put_offer, put_each, put_numbers, put_slots, put_step, put_between}

-- A row's length

abbrev words : Row → List ℕ
words r = form_shown (form_in r.opcode r.kind forms).words (fields_of r)

-- two blanks before the words and the line's end behind them
shown-long : (r : Row) → length (row_shown r) ≡ length (words r) + 3
unfolding row_shown
shown-long r = omega (arith, length-append (words r) (10 ∷ []))

words-low : (r : Row) → length (row_words r) ≤ 253
unfolding row_words
words-low r =
    elim (dec_le (length (row_shown r)) 256) [
      | yes h ↦ rw (le-leb (length (row_shown r)) 256 h) (omega (arith, shown-long r))
      | no h ↦ rw (lt-leb (length (row_shown r)) 256 (omega arith)) (omega arith)
    ]

said-low : (table : List ℕ) (thread number : ℕ) → length (row_said table thread number) ≤ 253
unfolding row_said
said-low table thread number =
    elim (dec_lt thread 5) [
      | yes h ↦ rw (lt-ltb thread 5 h) (words-low _)
      | no h ↦ rw (le-ltb thread 5 (omega arith)) (omega arith)
    ]

row_low : (table trace : List ℕ) (i : ℕ) → length (row_of_step table trace i) ≤ 253
row_low table trace i = said-low table (entry_read trace i).thread (entry_read trace i).row

-- put at a page's begin it ends there
pub row-long : (table trace : List ℕ) (i : ℕ) (bytes page : List ℕ) (to : ℕ) →
    page_of page to ≡ put_text (page_of bytes 0) (row_of_step table trace i) → to ≡ length (row_of_step table trace i)
row-long table trace i bytes page to put =
    let row : List ℕ = row_of_step table trace i in
    let low : length row ≤ 16384 = omega (arith, row_low table trace i) in
    let end : to ≡ 0 + length (take 16384 row) = ap (λ (l : Page). l.end) (put ∙ text-put row bytes 0) in
    let whole : take 16384 row ≡ row = take_all 16384 row low in
    omega (arith, ap length whole)

-- The longest row

max-larger : (m n : ℕ) → max m n ≡ larger m n
max-larger m n =
    elim (dec_lt m n) [
      | yes h ↦ rw (lt-ltb m n h) (max-eq_right (omega arith))
      | no h ↦ rw (le-ltb m n (omega arith)) (max-eq_left (omega arith))
    ]

pub widest-more : (table trace : List ℕ) (i most width : ℕ) → most ≡ widest table trace i → width ≡ length (row_of_step table trace i) →
    {m : ℕ} → m ≡ max most width → m ≡ widest table trace (i + 1)
unfolding widest
widest-more table trace i most width is row h = rw (add-one i, ← is, ← row) (h ∙ max-larger most width)

widest-low : (table trace : List ℕ) (n : ℕ) → widest table trace n ≤ 253
unfolding widest
widest-low table trace zero = omega arith
widest-low table trace (suc n) =
    let most : ℕ = widest table trace n in
    let row : ℕ = length (row_of_step table trace n) in
    elim (dec_lt most row) [
      | yes h ↦ rw (lt-ltb most row h) (row_low table trace n)
      | no h ↦ rw (le-ltb most row (omega arith)) (widest-low table trace n)
    ]

pub width_low : (table trace : List ℕ) → width_of table trace < 256
width_low table trace = omega (arith, widest-low table trace (entries trace))

-- Texts, one behind the other

pub head-put : (width end : ℕ) (l p q r s m : Page) → end ≡ rows_end width → p ≡ put_text l (bytes_of "step  thread  row  operation") →
    q ≡ padded p (end + 2) → r ≡ put_text q (bytes_of "slot  offered") → s ≡ padded r (end + 23) →
    m ≡ put_text s (bytes_of "what came of it\n") → m ≡ put_head l width
unfolding put_head
head-put width end l p q r s m e e1 e2 e3 e4 e5 = rw (e5, e4, e3, e2, e1, e)

pub step-put : (table trace : List ℕ) (i : ℕ) (held : List ℕ) (width end : ℕ) (came : Option Came) (l p q r s t u m : Page) → end ≡ rows_end width →
    p ≡ put_numbers l i (entry_read trace i) → q ≡ padded p 19 → r ≡ put_text q (row_of_step table trace i) →
    s ≡ put_slots r end (entry_read trace i) → t ≡ padded s (end + 23) → came ≡ came_of_step table trace held i →
    u ≡ put_came t came → m ≡ put_text u (bytes_of "\n") → m ≡ put_step l table trace held width i
unfolding put_step
step-put table trace i held width end came l p q r s t u m e e1 e2 e3 e4 e5 e6 e7 e8 = rw (e8, e7, e6, e5, e4, e3, e2, e1, e)

-- The slots of a mask: those that are left to be put at slot i

slots-one : (mask i : ℕ) → i < 7 →
    slots_in mask (7 - i) i ≡ cond (eqb (mask % 2) 1) (i ∷ slots_in (mask / 2) (7 - (i + 1)) (i + 1)) (slots_in (mask / 2) (7 - (i + 1)) (i + 1))
unfolding slots_in
slots-one mask i h = let e : 7 - i ≡ suc (7 - (i + 1)) = omega arith in rw e

slots-none : (mask i : ℕ) → 7 ≤ i → slots_in mask (7 - i) i ≡ []
unfolding slots_in
slots-none mask i h = let e : 7 - i ≡ 0 = omega arith in rw e

module _ (l whole : Page) (first : Bool) (rest i : ℕ) (left : put_each l first (slots_in rest (7 - i) i) ≡ whole) where
  pub each-put : i < 7 → rest % 2 ≡ 1 → (m : Page) → m ≡ put_offer l first i →
      put_each m false (slots_in (rest / 2) (7 - (i + 1)) (i + 1)) ≡ whole
  unfolding put_each
  each-put h e m put = rw put (rw (slots-one rest i h, eq-eqb (rest % 2) 1 e) at left)

  pub each-skipped : i < 7 → (rest % 2 ≡ 1 → ⊥) → put_each l first (slots_in (rest / 2) (7 - (i + 1)) (i + 1)) ≡ whole
  each-skipped h e = rw (slots-one rest i h, ne_eqb (rest % 2) 1 e) at left

  pub each_none : 7 ≤ i → first ≡ true → (m : Page) → m ≡ put_text l (bytes_of "-") → m ≡ whole
  unfolding put_each
  each_none h e m put = rw put (rw (slots-none rest i h, e) at left)

  pub each-end : 7 ≤ i → first ≡ false → l ≡ whole
  unfolding put_each
  each-end h e = rw (slots-none rest i h, e) at left

-- An execution that is shortened

module _ (l : Page) (n : ℕ) where
  pub between-some : (m : Page) → 20 < n → m ≡ put_filled l (bytes_of "   ..  # steps between; --all-rows shows them\n") (n - 20) 0 0 → m ≡ put_between l n
  unfolding put_between
  between-some m h put = rw (lt-ltb 20 n h) put

  pub between_none : n ≤ 20 → l ≡ put_between l n
  unfolding put_between
  between_none h = rw (le-ltb 20 n h)
