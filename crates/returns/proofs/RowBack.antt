-- A row that document 01 accepts is read back as it was written. Assumes nothing.
--     letters-spaced        the letters of a form's pieces
--     fields-same           the fields that they set, and those that are kept, are all
--     row_back              a row
use Prim.Native.Nat.{ℕ, ◌+◌, ◌^◌, ◌≤◌, ◌<◌}
use mathlib.Core.List.{List, [], ◌∷◌, ◌++◌, map, append_assoc}
use mathlib.Core.Bool.{Bool, true, false, cond, not, ◌||◌, true≢false}
use mathlib.Core.Path.{◌≡◌, refl, ap, sym, ◌∙◌}
use mathlib.Core.Logic.{◌⊎◌, inl, inr}
use native.Mathlib.Omega.{arith}
use native.Mathlib.Decide.{ℕ_discrete}
use lib.Dec.{ltb, eqb}
use lib.ListN.{length, get_or, set, length-set}
use lib.Seq.{get_or-set_same, get_or-set_other, ext_get_or}
use borrow.Author.Tests.{eqb-true, ltb-true, not-true}
use Rattle.rules.specs.ConditionTree.{FineAll}
use Rattle.rules.specs.Table.{Room, Row, is_fine, row_decoded}
use Rattle.rules.specs.Token.{space, line_feed}
use Rattle.rules.specs.Form.{Form, forms, field_of, is_field, value_of, blank_fields, most_words, fits, follow, row_in}
use Rattle.rules.specs.Writer.{form_shown, form_in, fields_of, row_shown}
use Rattle.rules.proofs.VectorLaws.{equal-refl}
use Rattle.rules.proofs.MeasureRows.{both_left, both_right}
use Rattle.returns.proofs.TokenLaws.{either, is_word}
use Rattle.returns.proofs.PieceLaws.{spaced, piece_shown, is_plain, all_pieces, pieces-shown, PieceBack, fields_set, follow-own}
use Rattle.returns.proofs.FormLaws.{pieces_of, Pieces, form-pieces, words-pieces, row-found}
use Rattle.returns.proofs.FieldLaws.{is_letter_of, in_range, letter-back, letter-word}
use Rattle.returns.proofs.RowFine.{letters_in, letters_of, letters_fine, names, keeps, keeps-at, row_fine, fine-so}

-- The letters of pieces

abbrev pub letters_on : List (List ℕ) → List ℕ
letters_on [] = []
letters_on (p ∷ ps) = cond (is_field p) (get_or p 0 0 ∷ letters_on ps) (letters_on ps)

letters-plain : (p rest : List ℕ) → is_plain p ≡ true → letters_in (p ++ rest) ≡ letters_in rest
unfolding letters_in
letters-plain [] rest h = refl
letters-plain (b ∷ p) rest h =
    rw (letters_in, not-true (is_letter_of b) (both_left (not (is_letter_of b)) (is_plain p) h)) (letters-plain p rest (both_right (not (is_letter_of b)) (is_plain p) h))

letters-field : (p rest : List ℕ) → is_field p ≡ true → letters_in (p ++ rest) ≡ get_or p 0 0 ∷ letters_in rest
unfolding letters_in
letters-field [] rest h = absurd (true≢false (sym h))
letters-field (b ∷ []) rest h = rw (letters_in, both_right (eqb 1 1) (is_letter_of b) h) refl
letters-field (b ∷ c ∷ p) rest h =
    absurd (omega (arith, eqb-true (length (b ∷ c ∷ p)) 1 (both_left (eqb (length (b ∷ c ∷ p)) 1) (is_letter_of b) h)))

pub letters-spaced : (ps : List (List ℕ)) → all_pieces (λ (p : List ℕ). is_field p || is_plain p) ps ≡ true → letters_in (spaced ps) ≡ letters_on ps
unfolding letters_in field_of
letters-spaced [] h = refl
letters-spaced (p ∷ ps) h = by (letters-spaced ps (both_right (is_field p || is_plain p) _ h)) (is_field p) refl (both_left (is_field p || is_plain p) _ h)
  where
    by : letters_in (spaced ps) ≡ letters_on ps → (x : Bool) → is_field p ≡ x → (x || is_plain p) ≡ true →
        letters_in (p ++ spaced ps) ≡ cond x (get_or p 0 0 ∷ letters_on ps) (letters_on ps)
    by more true e k = letters-field p (spaced ps) e ∙ ap (λ (l : List ℕ). get_or p 0 0 ∷ l) more
    by more false e k = letters-plain p (spaced ps) k ∙ more

-- What they set

abbrev pub letters_set : List ℕ → List ℕ → List ℕ → List ℕ
letters_set [] from fields = fields
letters_set (b ∷ bs) from fields = letters_set bs from (set fields (field_of b) (get_or from (field_of b) 0))

pub pieces-set : (ps : List (List ℕ)) (from fields : List ℕ) → fields_set ps from fields ≡ letters_set (letters_on ps) from fields
pieces-set [] from fields = refl
pieces-set (p ∷ ps) from fields = by (is_field p) (λ (x : List ℕ). pieces-set ps from x)
  where
    by : (x : Bool) → ((given : List ℕ) → fields_set ps from given ≡ letters_set (letters_on ps) from given) →
        fields_set ps from (cond x (set fields (field_of (get_or p 0 0)) (cond x (get_or from (field_of (get_or p 0 0)) 0) 0)) fields)
        ≡ letters_set (cond x (get_or p 0 0 ∷ letters_on ps) (letters_on ps)) from fields
    by true more = more (set fields (field_of (get_or p 0 0)) (get_or from (field_of (get_or p 0 0)) 0))
    by false more = more fields

pub fields-same : (ls from fields : List ℕ) → length from ≡ length fields →
    ((i : ℕ) → i < length from → (names ls i ≡ true) ⊎ (get_or from i 0 ≡ get_or fields i 0)) → letters_set ls from fields ≡ from
unfolding names
fields-same [] from fields e h =
    ext_get_or 0 fields from (sym e) (λ i l. elim (h i (omega arith)) [ inl n ↦ absurd (true≢false (sym n)) | inr g ↦ sym g ])
fields-same (b ∷ bs) from fields e h =
    fields-same bs from (set fields (field_of b) (get_or from (field_of b) 0)) (e ∙ sym (length-set fields (field_of b) (get_or from (field_of b) 0)))
    (λ i l. elim (ℕ_discrete i (field_of b)) [
      | yes q ↦ inr (ap (λ (j : ℕ). get_or from j 0) q ∙ sym (ap (λ (j : ℕ). get_or (set fields (field_of b) (get_or from (field_of b) 0)) j 0) q
          ∙ get_or-set_same fields (field_of b) (get_or from (field_of b) 0) 0 (omega arith)))
      | no d ↦ elim (h i l) [
        | inr g ↦ inr (g ∙ sym (get_or-set_other fields (field_of b) i (get_or from (field_of b) 0) 0 d))
        | inl n ↦ inl (either (eqb (field_of b) i) (names bs i) n (λ y. absurd (d (sym (eqb-true (field_of b) i y)))) (λ y. y))
      ]
    ])

-- Every piece is read back

abbrev pub Small : List ℕ → Type 0
Small fields = (i : ℕ) → get_or fields i 0 < 2 ^ 64

module _ (room : Room) (few : room.plains ≤ 4) (fields : List ℕ) (small : Small fields) where
  piece_back : (p : List ℕ) → is_word p ≡ true → (is_field p ≡ true → in_range room (get_or p 0 0) (get_or fields (field_of (get_or p 0 0)) 0) ≡ true) → PieceBack room fields p
  unfolding value_of piece_shown
  piece_back p w h = by (is_field p) refl
    where
      letter : is_field p ≡ true → is_letter_of (get_or p 0 0) ≡ true
      letter e = both_right (eqb (length p) 1) (is_letter_of (get_or p 0 0)) e

      by : (x : Bool) → is_field p ≡ x → PieceBack room fields p
      by true e = record {
        value = rw e (letter-back room fields few (get_or p 0 0) (letter e) (h e) (small (field_of (get_or p 0 0))));
        written = rw e (letter-word room fields (get_or p 0 0) (letter e) (h e));
        word = w;
      }
      by false e = record { value = rw (e, equal-refl p) refl; written = rw e w; word = w }

  pieces-back : (ps : List (List ℕ)) → FineAll (λ (p : List ℕ). is_word p ≡ true) ps → letters_fine room fields (letters_on ps) ≡ true → FineAll (PieceBack room fields) ps
  unfolding letters_fine
  pieces-back [] w h = tt
  pieces-back (p ∷ ps) w h = by (is_field p) refl h (λ k. pieces-back ps w.1 k)
    where
      by : (x : Bool) → is_field p ≡ x → letters_fine room fields (cond x (get_or p 0 0 ∷ letters_on ps) (letters_on ps)) ≡ true →
          (letters_fine room fields (letters_on ps) ≡ true → FineAll (PieceBack room fields) ps) → FineAll (PieceBack room fields) (p ∷ ps)
      by true e k more = (
        piece_back p w.0 (λ g. both_left (in_range room (get_or p 0 0) (get_or fields (field_of (get_or p 0 0)) 0)) _ k),
        more (both_right (in_range room (get_or p 0 0) (get_or fields (field_of (get_or p 0 0)) 0)) _ k),
      )
      by false e k more = (piece_back p w.0 (λ g. absurd (true≢false (sym g ∙ e))), more k)

written_all : (room : Room) (fields : List ℕ) (ps : List (List ℕ)) → FineAll (PieceBack room fields) ps → FineAll (λ (p : List ℕ). is_word (piece_shown fields p) ≡ true) ps
written_all room fields [] h = tt
written_all room fields (p ∷ ps) h = (h.0.written, written_all room fields ps h.1)

-- A row

abbrev pub form_for : Row → Form
form_for r = form_in r.opcode r.kind forms

blank-shown : (words fields : List ℕ) → space ∷ form_shown words fields ≡ form_shown (space ∷ words) fields
unfolding form_shown field_of
blank-shown words fields = refl

pub row-text : (r : Row) (rest : List ℕ) → Pieces (form_for r) →
    row_shown r ++ rest ≡ space ∷ (spaced (map (piece_shown (fields_of r)) (pieces_of (form_for r))) ++ (line_feed ∷ rest))
unfolding row_shown
row-text r rest p =
    let words = (form_for r).words in
    let fields = fields_of r in
    ap (λ (l : List ℕ). space ∷ l)
    (append_assoc (space ∷ form_shown words fields) (line_feed ∷ []) rest
    ∙ ap (λ (l : List ℕ). l ++ (line_feed ∷ rest))
    (blank-shown words fields ∙ ap (λ (l : List ℕ). form_shown l fields) p.words ∙ pieces-shown (pieces_of (form_for r)) fields p.kinds))

-- what is known of a row that is accepted, by its form
pub record Known (room : Room) (r : Row) : Type 0 where
  pub real : (form_for r).opcode < 19
  pub pieces : Pieces (form_for r)
  pub back : FineAll (PieceBack room (fields_of r)) (pieces_of (form_for r))
  pub others : keeps (letters_on (pieces_of (form_for r))) 0 (fields_of r) (blank_fields (form_for r)) ≡ true

blank-letters : (words : List ℕ) → letters_in words ≡ letters_in (space ∷ words)
unfolding letters_in field_of
blank-letters words = refl

pub letters-same : (f : Form) → Pieces f → letters_of f ≡ letters_on (pieces_of f)
letters-same f p = blank-letters f.words ∙ ap letters_in p.words ∙ letters-spaced (pieces_of f) p.kinds

pub row-known : (room : Room) (r : Row) → room.plains ≤ 4 → Small (fields_of r) → is_fine (row_decoded room r) ≡ true → Known room r
unfolding row_fine
row-known room r few small h =
    let g = sym (fine-so room r) ∙ h in
    let l = ltb-true (form_for r).opcode 19 (both_left (ltb (form_for r).opcode 19) _ g) in
    let k = both_right (ltb (form_for r).opcode 19) _ g in
    let p = form-pieces r.opcode r.kind l in
    let e = letters-same (form_for r) p in
    record {
      real = l;
      pieces = p;
      back = pieces-back room few (fields_of r) small (pieces_of (form_for r)) p.own (rw e at (both_left (letters_fine room (fields_of r) (letters_of (form_for r))) _ k));
      others = rw e at (both_right (letters_fine room (fields_of r) (letters_of (form_for r))) _ k);
    }

pub row_back : (room : Room) (r : Row) (rest : List ℕ) → Known room r → row_in room (row_shown r ++ rest) ≡ fits (fields_of r) rest
row_back room r rest k =
    let f = form_for r in
    let fields = fields_of r in
    let bs = spaced (map (piece_shown fields) (pieces_of f)) ++ (line_feed ∷ rest) in
    row-found room r.opcode r.kind fields rest (row_shown r ++ rest) (record {
      real = k.real;
      text = row-text r rest k.pieces;
      written = written_all room fields (pieces_of f) k.back;
      read =
          ap (follow most_words room f.words (blank_fields f)) (row-text r rest k.pieces)
          ∙ words-pieces room f k.pieces (blank_fields f) bs
          ∙ follow-own room fields (pieces_of f) most_words (blank_fields f) rest k.back k.pieces.few
          ∙ ap (λ (l : List ℕ). fits l rest)
          (pieces-set (pieces_of f) fields (blank_fields f)
          ∙ fields-same (letters_on (pieces_of f)) fields (blank_fields f) refl (λ i l. kept f fields i l k.others));
    })
  where
    kept : (f : Form) (fields : List ℕ) (i : ℕ) → i < length fields → keeps (letters_on (pieces_of f)) 0 fields (blank_fields f) ≡ true →
        (names (letters_on (pieces_of f)) i ≡ true) ⊎ (get_or fields i 0 ≡ get_or (blank_fields f) i 0)
    kept f fields i l h =
        let e : 0 + i ≡ i = omega arith in
        rw e at (keeps-at (letters_on (pieces_of f)) 0 fields (blank_fields f) i h l)
