-- A row's words as they are written. Assumes nothing.
--     piece-..              a byte of a form's words, by what it stands for
--     words-next, words-end     the words one by one
--     row-whole             a row's line
use Prim.Native.Nat.{ℕ, suc, ◌+◌, ◌≤◌, ◌<◌}
use mathlib.Core.List.{List, [], ◌∷◌, ◌++◌}
use mathlib.Core.Bool.{Bool, true, false, cond, ◌||◌}
use mathlib.Core.Path.{◌≡◌, refl, ap, sym, ◌∙◌}
use native.Mathlib.Numerals.{add-one}
use borrow.Author.Tests.{lt-ltb, le-ltb, ne_eqb}
use lib.Dec.{eqb}
use lib.ListN.{length, get_or, drop, drop_of_length-le}
use lib.Seq.{drop-cons}
use Rattle.rules.specs.Table.{Row}
use Rattle.rules.specs.Form.{forms, field_of}
use Rattle.rules.specs.Writer.{shown, order_shown, letter_shown, form_shown, form_in, fields_of, row_shown}
use Rattle.std.specs.Prelude.{Some, None, is_some}
use Rattle.form.specs.Letters.{found_field}
use Rattle.form.proofs.LetterLaws.{field-some, field-found, field-lost}
use Rattle.row_line.specs.Pieces.{piece_shown}

-- Pieces

pub piece-self : (b : ℕ) (fields : List ℕ) → found_field (field_of b) ≡ None → b ∷ [] ≡ piece_shown b fields
piece-self b fields e = rw (le-ltb (field_of b) 9 (field-lost (field_of b) (ap is_some e)))

module _ (b : ℕ) (fields : List ℕ) (field : ℕ) (found : found_field (field_of b) ≡ Some field) where
  h : field_of b < 9
  h = field-found (field_of b) (ap is_some found)

  e : field ≡ field_of b
  e = let s = field-some (field_of b) h in cc

  letter : letter_shown b fields ≡ piece_shown b fields
  letter = rw (lt-ltb (field_of b) 9 h)

  -- a letter that is written before the number
  module _ (k small : ℕ) (at : ℕ) (is_at : field_of k ≡ at) (made : letter_shown k fields ≡ small ∷ shown (get_or fields at 0)) where
    piece-lettered : b ≡ k → (small ∷ []) ++ shown (get_or fields field 0) ≡ piece_shown b fields
    piece-lettered r =
        ap (λ (i : ℕ). small ∷ shown (get_or fields i 0)) (e ∙ ap field_of r ∙ is_at)
        ∙ sym (ap (λ (x : ℕ). letter_shown x fields) r ∙ made)
        ∙ letter

  pub piece-register : b ≡ 82 → (114 ∷ []) ++ shown (get_or fields field 0) ≡ piece_shown b fields
  unfolding letter_shown field_of
  piece-register r = piece-lettered 82 114 5 refl refl r

  pub piece-plain : b ≡ 80 → (112 ∷ []) ++ shown (get_or fields field 0) ≡ piece_shown b fields
  unfolding letter_shown field_of
  piece-plain r = piece-lettered 80 112 1 refl refl r

  abbrev other : Bool → List ℕ
  other t = cond t (order_shown (get_or fields (field_of b) 0)) (shown (get_or fields (field_of b) 0))

  module _ (n : b ≡ 82 → ⊥) (p : b ≡ 80 → ⊥) where
    piece-other : (t : Bool) → (eqb field 2 || eqb field 3) ≡ t → other t ≡ piece_shown b fields
    unfolding letter_shown
    piece-other t s =
        let made : letter_shown b fields ≡ other (eqb (field_of b) 2 || eqb (field_of b) 3) = rw (ne_eqb b 82 n, ne_eqb b 80 p) in
        ap other (sym s ∙ ap (λ (i : ℕ). eqb i 2 || eqb i 3) e) ∙ sym made ∙ letter

    pub piece-order : (eqb field 2 || eqb field 3) ≡ true → order_shown (get_or fields field 0) ≡ piece_shown b fields
    piece-order s = ap (λ (i : ℕ). order_shown (get_or fields i 0)) e ∙ piece-other true s

    pub piece-number : (eqb field 2 || eqb field 3) ≡ false → shown (get_or fields field 0) ≡ piece_shown b fields
    piece-number s = ap (λ (i : ℕ). shown (get_or fields i 0)) e ∙ piece-other false s

-- Words

words-cons : (b : ℕ) (bs fields : List ℕ) → form_shown (b ∷ bs) fields ≡ piece_shown b fields ++ form_shown bs fields
unfolding form_shown
words-cons b bs fields = refl

module _ (words fields : List ℕ) (i : ℕ) where
  pub words-next : i < length words → form_shown (drop i words) fields ≡ piece_shown (get_or words i 0) fields ++ form_shown (drop (i + 1) words) fields
  words-next h =
      ap (λ (ws : List ℕ). form_shown ws fields) (drop-cons words i 0 h)
      ∙ words-cons (get_or words i 0) (drop (suc i) words) fields
      ∙ ap (λ (k : ℕ). piece_shown (get_or words i 0) fields ++ form_shown (drop k words) fields) (sym (add-one i))

  pub words-end : length words ≤ i → form_shown (drop i words) fields ≡ []
  unfolding form_shown
  words-end h = ap (λ (ws : List ℕ). form_shown ws fields) (drop_of_length-le words {i = i} h)

pub row-whole : (r : Row) (fields : List ℕ) → fields ≡ fields_of r
    → (32 ∷ 32 ∷ []) ++ (form_shown (form_in (get_or fields 0 0) (get_or fields 4 0) forms).words fields ++ (10 ∷ [])) ≡ row_shown r
unfolding row_shown
row-whole r fields e = rw e
