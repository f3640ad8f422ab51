-- What a line that is a row says: fields that document 01 accepts. Assumes nothing.
--     Filled, follow-filled       the fields that a form's letters were given
--     filled-fine, filled-kept    they are in range, and the others are as the form has them
--     keeps-made                  the others, as a test
use Prim.Native.Nat.{ℕ, zero, suc, ◌+◌, ◌^◌, ◌<◌}
use mathlib.Core.List.{List, [], ◌∷◌}
use mathlib.Core.Bool.{Bool, true, false, cond, not, ◌&&◌, ◌||◌, true≢false}
use mathlib.Core.Path.{◌≡◌, refl, ap, sym, subst, ◌∙◌}
use native.Mathlib.Omega.{arith}
use lib.Dec.{eqb}
use lib.ListN.{length, get_or, set, drop, length-set}
use lib.Seq.{get_or-set_same, get_or-set_other, get_or-drop}
use borrow.Author.Tests.{eqb-true, eqb-false, eq-eqb, ltb-true, not-true}
use Rattle.rules.specs.Vector.{equal}
use Rattle.rules.specs.ConditionTree.{FineAll}
use Rattle.rules.specs.Table.{Room}
use Rattle.rules.specs.Token.{run_length, ends_line, past_blanks, token, past_token, next_line, Found, nothing, found, found_if}
use Rattle.rules.specs.Form.{field_of, letter_in, is_field, value_of, with_field, stuck, fits, follow}
use Rattle.rules.proofs.MeasureRows.{both_left, both_right}
use Rattle.returns.proofs.TokenLaws.{also, either, is_word, word_stands}
use Rattle.returns.proofs.PieceLaws.{spaced, against, follow-word, parted-words}
use Rattle.returns.proofs.FieldLaws.{is_letter_of, in_range, letter-known}
use Rattle.returns.proofs.RowFine.{letters_fine, names, keeps}
use Rattle.returns.proofs.RowBack.{letters_on}
use Rattle.returns.proofs.NextLaws.{next-skip, next_past}

pub stuck-fits : {A : Type 0} (at fields rest : List ℕ) → stuck at ≡ fits fields rest → A
stuck-fits at fields rest e = let z : ◌≡◌ {A = ℕ} 0 1 = cc in absurd (omega arith)

-- the fields that these letters were given, from some fields on
pub data Filled (room : Room) : List ℕ → List ℕ → List ℕ → Type 0 where
  done : (fields : List ℕ) → Filled room [] fields fields
  more : (b v : ℕ) (ls fields result : List ℕ) → is_letter_of b ≡ true → in_range room b v ≡ true → v < 2 ^ 64 → Filled room ls (set fields (field_of b) v) result → Filled room (b ∷ ls) fields result

module _ (room : Room) where
  -- a line that is of this form
  pub record Fits (ps : List (List ℕ)) (fields bs result rest : List ℕ) : Type 0 where
    pub filled : Filled room (letters_on ps) fields result
    pub next : rest ≡ next_line bs

  one-more : (p : List ℕ) (ps : List (List ℕ)) (fields bs result rest : List ℕ) (w : List ℕ) (v : ℕ) → value_of room p w ≡ found v →
      Fits ps (with_field fields p v) (past_token (past_blanks bs)) result rest → Fits (p ∷ ps) fields bs result rest
  unfolding value_of
  one-more p ps fields bs result rest w v e f = record { filled = by (is_field p) refl e f.filled; next = f.next ∙ next_past (past_blanks bs) ∙ next-skip bs }
    where
      by : (x : Bool) → is_field p ≡ x → cond x (letter_in room (get_or p 0 0) w) (found_if (equal p w) 0) ≡ found v →
          Filled room (letters_on ps) (cond x (set fields (field_of (get_or p 0 0)) v) fields) result → Filled room (cond x (get_or p 0 0 ∷ letters_on ps) (letters_on ps)) fields result
      by true g h k =
          let letter = both_right (eqb (length p) 1) (is_letter_of (get_or p 0 0)) g in
          let known = letter-known room w v (get_or p 0 0) letter h in
          more (get_or p 0 0) v (letters_on ps) fields result letter known.0 known.1 k
      by false g h k = k

  against-none : (n : ℕ) (fields p w words behind at : List ℕ) → value_of room p w ≡ nothing → against n room fields p w words behind at ≡ stuck at
  unfolding against
  against-none n fields p w words behind at e = rw (against, e) refl

  against-found : (n : ℕ) (fields p w words behind at : List ℕ) (v : ℕ) → value_of room p w ≡ found v →
      against n room fields p w words behind at ≡ follow n room words (with_field fields p v) behind
  unfolding against
  against-found n fields p w words behind at v e = rw (against, e) refl

  pub follow-filled : (ps : List (List ℕ)) (n : ℕ) (fields bs result rest : List ℕ) → FineAll (λ (p : List ℕ). is_word p ≡ true) ps →
      follow n room (spaced ps) fields bs ≡ fits result rest → Fits ps fields bs result rest
  unfolding follow run_length
  follow-filled ps zero fields bs result rest h e = stuck-fits (past_blanks bs) result rest e
  follow-filled [] (suc n) fields bs result rest h e = by (ends_line (past_blanks bs)) e
    where
      by : (x : Bool) → cond x (fits fields (next_line (past_blanks bs))) (stuck (past_blanks bs)) ≡ fits result rest → Fits [] fields bs result rest
      by false g = stuck-fits (past_blanks bs) result rest g
      by true g =
          let a : fields ≡ result = cc in
          let b : next_line (past_blanks bs) ≡ rest = cc in
          record { filled = subst (Filled room [] fields) a (done fields); next = sym b ∙ next-skip bs }
  follow-filled (p ∷ ps) (suc n) fields bs result rest h e =
      by (value_of room p (token (past_blanks bs))) refl (sym (follow-word room n p (spaced ps) fields bs (word_stands p (spaced ps) h.0 (parted-words ps))) ∙ e)
      (λ v f. follow-filled ps n (with_field fields p v) (past_token (past_blanks bs)) result rest h.1 f)
    where
      by : (x : Found) → value_of room p (token (past_blanks bs)) ≡ x → against n room fields p (token (past_blanks bs)) (spaced ps) (past_token (past_blanks bs)) (past_blanks bs) ≡ fits result rest →
          ((v : ℕ) → follow n room (spaced ps) (with_field fields p v) (past_token (past_blanks bs)) ≡ fits result rest → Fits ps (with_field fields p v) (past_token (past_blanks bs)) result rest) →
          Fits (p ∷ ps) fields bs result rest
      by nothing f g later = stuck-fits (past_blanks bs) result rest (sym (against-none n fields p (token (past_blanks bs)) (spaced ps) (past_token (past_blanks bs)) (past_blanks bs) f) ∙ g)
      by (found v) f g later =
          one-more p ps fields bs result rest (token (past_blanks bs)) v f
          (later v (sym (against-found n fields p (token (past_blanks bs)) (spaced ps) (past_token (past_blanks bs)) (past_blanks bs) v f) ∙ g))

-- Fields that were given

no-first : (x y : Bool) → (x || y) ≡ false → x ≡ false
no-first true y e = e
no-first false y e = refl

no_second : (x y : Bool) → (x || y) ≡ false → y ≡ false
no_second true y e = absurd (true≢false e)
no_second false y e = e

unfoldable pub distinct : List ℕ → Bool
distinct [] = true
distinct (b ∷ bs) = not (names bs (field_of b)) && distinct bs

-- what a letter's field holds, where one stands for field i
abbrev pub Given : Room → ℕ → ℕ → Type 0
Given room i v = (b : ℕ) × (field_of b ≡ i) × (is_letter_of b ≡ true) × (in_range room b v ≡ true) × (v < 2 ^ 64)

module _ (room : Room) where
  pub filled-long : {ls fields result : List ℕ} → Filled room ls fields result → length result ≡ length fields
  filled-long (done fields) = refl
  filled-long (more b v ls fields result a r s f) = filled-long f ∙ length-set fields (field_of b) v

  -- what no letter stands for is left
  pub filled-kept : {ls fields result : List ℕ} → Filled room ls fields result → (i : ℕ) → names ls i ≡ false → get_or result i 0 ≡ get_or fields i 0
  unfolding names
  filled-kept (done fields) i n = refl
  filled-kept (more b v ls fields result a r s f) i n =
      filled-kept f i (no_second (eqb (field_of b) i) (names ls i) n)
      ∙ get_or-set_other fields (field_of b) i v 0 (λ e. eqb-false (field_of b) i (no-first (eqb (field_of b) i) (names ls i) n) (sym e))

  -- the last letter that stands for a field sets it
  last_set : (b v : ℕ) (ls fields result : List ℕ) → is_letter_of b ≡ true → length fields ≡ 9 → Filled room ls (set fields (field_of b) v) result → names ls (field_of b) ≡ false →
      get_or result (field_of b) 0 ≡ v
  last_set b v ls fields result a l f n =
      let h = ltb-true (field_of b) 9 a in filled-kept f (field_of b) n ∙ get_or-set_same fields (field_of b) v 0 (omega arith)

  pub filled_at : {ls fields result : List ℕ} → Filled room ls fields result → length fields ≡ 9 → (i : ℕ) → names ls i ≡ true → Given room i (get_or result i 0)
  unfolding names
  filled_at (done fields) l i n = absurd (true≢false (sym n))
  filled_at (more b v ls fields result a r s f) l i n = by (names ls i) refl (λ m. filled_at f (length-set fields (field_of b) v ∙ l) i m)
    where
      by : (x : Bool) → names ls i ≡ x → (names ls i ≡ true → Given room i (get_or result i 0)) → Given room i (get_or result i 0)
      by true m later = later m
      by false m later =
          let e : field_of b ≡ i = either (eqb (field_of b) i) (names ls i) n (λ y. eqb-true (field_of b) i y) (λ y. absurd (true≢false (sym y ∙ m))) in
          let k : get_or result i 0 ≡ v = subst (λ (j : ℕ). get_or result j 0 ≡ v) e (last_set b v ls fields result a l f (ap (names ls) e ∙ m)) in
          (b, e, a, ap (in_range room b) k ∙ r, (omega arith))

  pub filled-fine : {ls fields result : List ℕ} → Filled room ls fields result → length fields ≡ 9 → distinct ls ≡ true → letters_fine room result ls ≡ true
  unfolding distinct letters_fine
  filled-fine (done fields) l d = refl
  filled-fine (more b v ls fields result a r s f) l d =
      let n = not-true (names ls (field_of b)) (both_left (not (names ls (field_of b))) _ d) in
      also (ap (in_range room b) (last_set b v ls fields result a l f n) ∙ r) (filled-fine f (length-set fields (field_of b) v ∙ l) (both_right (not (names ls (field_of b))) _ d))

pub keeps-made : (ls : List ℕ) (i : ℕ) (xs base : List ℕ) → ((j : ℕ) → j < length xs → names ls (i + j) ≡ false → get_or xs j 0 ≡ get_or base j 0) → keeps ls i xs base ≡ true
unfolding keeps
keeps-made ls i [] base h = refl
keeps-made ls i (x ∷ xs) base h =
    also (by (names ls i) refl)
    (keeps-made ls (i + 1) xs (drop 1 base)
    (λ j l n.
    let e : i + suc j ≡ i + 1 + j = omega arith in
    let f : 1 + j ≡ suc j = omega arith in
    h (suc j) (omega arith) (ap (names ls) e ∙ n) ∙ ap (λ (k : ℕ). get_or base k 0) (sym f) ∙ sym (get_or-drop 1 base j 0)))
  where
    by : (y : Bool) → names ls i ≡ y → (y || eqb x (get_or base 0 0)) ≡ true
    by true n = refl
    by false n = let e : i + 0 ≡ i = omega arith in eq-eqb x (get_or base 0 0) (h 0 (omega arith) (ap (names ls) e ∙ n))
