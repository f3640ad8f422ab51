-- A row that is read is one that document 01 accepts. Assumes nothing.
--     tried-from          it is of one of the forms
--     row_with             the row of some fields
--     RowRead, row_read   its fields are a row's, in range, and the next line follows it
use Prim.Native.Nat.{ℕ, zero, suc, ◌+◌, ◌^◌, ◌≤◌, ◌<◌}
use mathlib.Core.List.{List, [], ◌∷◌}
use mathlib.Core.Bool.{Bool, true, false, cond, not, ◌&&◌}
use mathlib.Core.Path.{◌≡◌, refl, ap, sym, subst, ◌∙◌}
use native.Mathlib.Omega.{arith}
use lib.Dec.{ltb, leb, eqb}
use lib.ListN.{length, get_or}
use lib.Seq.{ext_get_or}
use borrow.Author.Tests.{eqb-true, ltb-true, leb-true, lt-ltb, not-true}
use Rattle.rules.specs.Vector.{equal}
use Rattle.rules.specs.Table.{max_rows, Room, Row, is_fine, row_decoded}
use Rattle.rules.specs.Token.{bytes_of, run_length, token_length, ends_line, past_blanks, next_line}
use Rattle.rules.specs.Form.{Form, forms, field_of, blank_fields, most_words, Followed, stuck, fits, follow, tried, further, row_in}
use Rattle.rules.specs.Writer.{form_in, fields_of}
use Rattle.rules.proofs.VectorLaws.{equal-true}
use Rattle.rules.proofs.MeasureRows.{both_left, both_right}
use Rattle.returns.proofs.TokenLaws.{also}
use Rattle.returns.proofs.PieceLaws.{pieces_in}
use Rattle.returns.proofs.FormLaws.{pieces_of, every_form, Pieces, forms-pieces, words-spaced}
use Rattle.returns.proofs.FieldLaws.{in_range, letter-cases, any_below, load-any, store-any, fence-any}
use Rattle.returns.proofs.RowFine.{letters_fine, names, keeps, row_fine, fine-so}
use Rattle.returns.proofs.RowBack.{letters_on, letters-same}
use Rattle.returns.proofs.FollowLaws.{Filled, follow-filled, distinct, filled-long, filled-kept, filled_at, filled-fine, keeps-made, stuck-fits}

-- One of these forms: whatever holds of all of them
abbrev Among : Form → List Form → Type 0
Among f fs = (p : Form → Bool) → every_form p fs ≡ true → p f ≡ true

tried-from : (room : Room) (fs : List Form) (best bs fields rest : List ℕ) → tried room fs best bs ≡ fits fields rest →
    (f : Form) × Among f fs × (follow most_words room f.words (blank_fields f) bs ≡ fits fields rest)
unfolding tried
tried-from room [] best bs fields rest e = stuck-fits best fields rest e
tried-from room (f ∷ fs) best bs fields rest e =
    by (follow most_words room f.words (blank_fields f) bs) refl e (λ at g. tried-from room fs at bs fields rest g)
  where
    by : (r : Followed) → follow most_words room f.words (blank_fields f) bs ≡ r →
        elim r [ stuck at ↦ tried room fs (further best at) bs | fits given left ↦ fits given left ] ≡ fits fields rest →
        ((at : List ℕ) → tried room fs at bs ≡ fits fields rest → (g : Form) × Among g fs × (follow most_words room g.words (blank_fields g) bs ≡ fits fields rest)) →
        (g : Form) × Among g (f ∷ fs) × (follow most_words room g.words (blank_fields g) bs ≡ fits fields rest)
    by (stuck at) g h later =
        let k = later (further best at) h in (k.0, (λ p a. k.1 p (both_right (p f) (every_form p fs) a)), k.2)
    by (fits given left) g h later = (f, (λ p a. both_left (p f) (every_form p fs) a), g ∙ h)

-- Fields and rows

abbrev pub row_with : List ℕ → Row
row_with fields = record {
  opcode = get_or fields 0 0;
  object = get_or fields 1 0;
  order = get_or fields 2 0;
  failure = get_or fields 3 0;
  kind = get_or fields 4 0;
  register = get_or fields 5 0;
  target = get_or fields 6 0;
  a = get_or fields 7 0;
  b = get_or fields 8 0;
}

-- what holds of each of the nine fields
nine : (P : ℕ → Type 0) → P 0 → P 1 → P 2 → P 3 → P 4 → P 5 → P 6 → P 7 → P 8 → (i : ℕ) → i < 9 → P i
nine P p0 p1 p2 p3 p4 p5 p6 p7 p8 zero l = p0
nine P p0 p1 p2 p3 p4 p5 p6 p7 p8 (suc zero) l = p1
nine P p0 p1 p2 p3 p4 p5 p6 p7 p8 (suc (suc zero)) l = p2
nine P p0 p1 p2 p3 p4 p5 p6 p7 p8 (suc (suc (suc zero))) l = p3
nine P p0 p1 p2 p3 p4 p5 p6 p7 p8 (suc (suc (suc (suc zero)))) l = p4
nine P p0 p1 p2 p3 p4 p5 p6 p7 p8 (suc (suc (suc (suc (suc zero))))) l = p5
nine P p0 p1 p2 p3 p4 p5 p6 p7 p8 (suc (suc (suc (suc (suc (suc zero)))))) l = p6
nine P p0 p1 p2 p3 p4 p5 p6 p7 p8 (suc (suc (suc (suc (suc (suc (suc zero))))))) l = p7
nine P p0 p1 p2 p3 p4 p5 p6 p7 p8 (suc (suc (suc (suc (suc (suc (suc (suc zero)))))))) l = p8
nine P p0 p1 p2 p3 p4 p5 p6 p7 p8 (suc (suc (suc (suc (suc (suc (suc (suc (suc i))))))))) l = absurd (omega arith)

pub fields_back : (fields : List ℕ) → length fields ≡ 9 → fields_of (row_with fields) ≡ fields
fields_back fields e =
    ext_get_or 0 (fields_of (row_with fields)) fields (sym e)
    (nine (λ (i : ℕ). get_or (fields_of (row_with fields)) i 0 ≡ get_or fields i 0) refl refl refl refl refl refl refl refl refl)

-- How large a field may be: a byte each, then two, eight and eight
abbrev pub limit_at : ℕ → ℕ
limit_at i = cond (ltb i 6) 256 (cond (eqb i 6) 65536 (2 ^ 64))

letter-limit : (room : Room) (v : ℕ) → room.cells ≤ 4 → room.plains ≤ 4 → room.threads ≤ 5 → room.rows ≤ max_rows → v < 2 ^ 64 → (b : ℕ) → ltb (field_of b) 9 ≡ true → in_range room b v ≡ true → v < limit_at (field_of b)
unfolding field_of in_range
letter-limit room v c p t r s b h =
    letter-cases (λ (x : ℕ). in_range room x v ≡ true → v < limit_at (field_of x)) b h
    (λ e. omega (arith, ltb-true v 4 e))
    (λ e. omega (arith, ltb-true v room.cells e))
    (λ e. omega (arith, ltb-true v room.plains e))
    (λ e. omega (arith, ltb-true v room.threads e))
    (λ e. omega (arith, leb-true v room.rows e))
    (λ e. omega (arith, leb-true v room.rows (both_left (leb v room.rows) _ e)))
    (λ e. s)
    (λ e. s)
    (λ e. omega (arith, any_below v (load-any v e)))
    (λ e. omega (arith, any_below v (store-any v e)))
    (λ e. omega (arith, any_below v e))
    (λ e. omega (arith, any_below v (fence-any v e)))
    (λ e. omega (arith, any_below v (load-any v e)))

blank-limit : (f : Form) → f.opcode < 19 → f.kind < 13 → (i : ℕ) → i < 9 → get_or (blank_fields f) i 0 < limit_at i
blank-limit f o k =
    nine (λ (i : ℕ). get_or (blank_fields f) i 0 < limit_at i) (omega arith) (omega arith) (omega arith) (omega arith) (omega arith) (omega arith) (omega arith) (omega arith) (omega arith)

-- What is computed of each form: its opcode and kind are its own, no letter stands for them, and none for a field twice
sound : Form → Bool
sound f =
    ltb f.opcode 19 && (ltb f.kind 13 && (distinct (letters_on (pieces_of f)) && (not (names (letters_on (pieces_of f)) 0) && (not (names (letters_on (pieces_of f)) 4)
    && (eqb (form_in f.opcode f.kind forms).opcode f.opcode && (eqb (form_in f.opcode f.kind forms).kind f.kind && equal (form_in f.opcode f.kind forms).words f.words))))))

forms-sound : every_form sound forms ≡ true
unfolding sound forms bytes_of form_in pieces_in run_length token_length ends_line equal field_of distinct names
forms-sound = refl

record Sound (f : Form) : Type 0 where
  opcode : f.opcode < 19
  kind : f.kind < 13
  once : distinct (letters_on (pieces_of f)) ≡ true
  no_opcode : names (letters_on (pieces_of f)) 0 ≡ false
  no_kind : names (letters_on (pieces_of f)) 4 ≡ false
  own : form_in f.opcode f.kind forms ≡ f

sound-so : (f : Form) → sound f ≡ true → Sound f
unfolding sound
sound-so f e =
    let ls = letters_on (pieces_of f) in
    let g = form_in f.opcode f.kind forms in
    let e1 = both_right (ltb f.opcode 19) _ e in
    let e2 = both_right (ltb f.kind 13) _ e1 in
    let e3 = both_right (distinct ls) _ e2 in
    let e4 = both_right (not (names ls 0)) _ e3 in
    let e5 = both_right (not (names ls 4)) _ e4 in
    let e6 = both_right (eqb g.opcode f.opcode) _ e5 in
    let o = eqb-true g.opcode f.opcode (both_left (eqb g.opcode f.opcode) _ e5) in
    let k = eqb-true g.kind f.kind (both_left (eqb g.kind f.kind) _ e6) in
    let w = equal-true g.words f.words (both_right (eqb g.kind f.kind) _ e6) in
    record {
      opcode = ltb-true f.opcode 19 (both_left (ltb f.opcode 19) _ e);
      kind = ltb-true f.kind 13 (both_left (ltb f.kind 13) _ e1);
      once = both_left (distinct ls) _ e2;
      no_opcode = not-true (names ls 0) (both_left (not (names ls 0)) _ e3);
      no_kind = not-true (names ls 4) (both_left (not (names ls 4)) _ e4);
      own = λ i. record { opcode = o i; kind = k i; words = w i };
    }

-- A row that is read

pub record RowRead (room : Room) (bs fields rest : List ℕ) : Type 0 where
  pub fine : is_fine (row_decoded room (row_with fields)) ≡ true
  pub within : room.cells ≤ 4 → room.plains ≤ 4 → room.threads ≤ 5 → room.rows ≤ max_rows → (i : ℕ) → i < 9 → get_or fields i 0 < limit_at i
  pub long : length fields ≡ 9
  pub next : rest ≡ next_line bs

module _ (room : Room) (f : Form) (s : Sound f) (p : Pieces f) (fields : List ℕ) (filled : Filled room (letters_on (pieces_of f)) (blank_fields f) fields) where
  nine-long : length fields ≡ 9
  nine-long = filled-long room filled

  fine-by : row_fine room f fields ≡ true
  unfolding row_fine
  fine-by =
      let e = letters-same f p in
      also (lt-ltb f.opcode 19 s.opcode)
      (also (ap (letters_fine room fields) e ∙ filled-fine room filled refl s.once)
      (ap (λ (ls : List ℕ). keeps ls 0 fields (blank_fields f)) e
      ∙ keeps-made (letters_on (pieces_of f)) 0 fields (blank_fields f)
      (λ j l n. let z : 0 + j ≡ j = omega arith in filled-kept room filled j (ap (names (letters_on (pieces_of f))) (sym z) ∙ n))))

  fine-row : is_fine (row_decoded room (row_with fields)) ≡ true
  fine-row =
      let o : get_or fields 0 0 ≡ f.opcode = filled-kept room filled 0 s.no_opcode in
      let k : get_or fields 4 0 ≡ f.kind = filled-kept room filled 4 s.no_kind in
      fine-so room (row_with fields)
      ∙ ap (row_fine room (form_in (get_or fields 0 0) (get_or fields 4 0) forms)) (fields_back fields nine-long)
      ∙ (λ i. row_fine room (form_in (o i) (k i) forms) fields)
      ∙ ap (λ (g : Form). row_fine room g fields) s.own
      ∙ fine-by

  limits : room.cells ≤ 4 → room.plains ≤ 4 → room.threads ≤ 5 → room.rows ≤ max_rows → (i : ℕ) → i < 9 → get_or fields i 0 < limit_at i
  limits c pl t r i l = by (names (letters_on (pieces_of f)) i) refl
    where
      by : (x : Bool) → names (letters_on (pieces_of f)) i ≡ x → get_or fields i 0 < limit_at i
      by true n =
          let g = filled_at room filled refl i n in
          subst (λ (j : ℕ). get_or fields i 0 < limit_at j) g.1 (letter-limit room (get_or fields i 0) c pl t r g.4 g.0 g.2 g.3)
      by false n = subst (λ (v : ℕ). v < limit_at i) (sym (filled-kept room filled i n)) (blank-limit f s.opcode s.kind i l)

pub row_read : (room : Room) (bs fields rest : List ℕ) → row_in room bs ≡ fits fields rest → RowRead room bs fields rest
unfolding row_in
row_read room bs fields rest e =
    let t = tried-from room forms (past_blanks bs) bs fields rest e in
    let f = t.0 in
    let p = forms-pieces f t.1 in
    let s = sound-so f (t.1 sound forms-sound) in
    let g = follow-filled room (pieces_of f) most_words (blank_fields f) bs fields rest p.own (sym (words-spaced room f p (blank_fields f) bs) ∙ t.2) in
    record {
      fine = fine-row room f s p fields g.filled;
      within = limits room f s p fields g.filled;
      long = nine-long room f s p fields g.filled;
      next = g.next;
    }
