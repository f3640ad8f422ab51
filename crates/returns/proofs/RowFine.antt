-- A row is one that document 01 accepts exactly if the fields that its form names are in range and all others are as the form has
-- them. Assumes nothing.
--     letters_in, letters_fine, keeps     the fields that a form names, in range; the others
--     row_fine                           a row by a form
--     fine-so                           is how a row is judged
use Prim.Native.Nat.{ℕ, zero, suc, ◌+◌, ◌≤◌, ◌<◌}
use mathlib.Core.List.{List, [], ◌∷◌}
use mathlib.Core.Bool.{Bool, true, false, not, ◌&&◌, ◌||◌, true≢false, and_assoc, and_comm, and-true, and-false}
use mathlib.Core.Path.{◌≡◌, refl, ap, sym, ◌∙◌}
use mathlib.Core.Logic.{◌⊎◌, inl, inr}
use native.Mathlib.Omega.{arith}
use native.Mathlib.Decide.{ℕ_discrete}
use lib.Dec.{ltb, leb, eqb}
use lib.ListN.{length, get_or, drop}
use lib.Seq.{get_or-drop}
use borrow.Author.Tests.{eqb-true, ltb-true, ltb-false, eq-eqb, ne_eqb, not-true}
use Rattle.rules.specs.Change.{Change}
use Rattle.rules.specs.Table.{Room, Row, Op, refused, only_if, is_fine, row_decoded, change_decoded, rmw_row, with_mut_row, is_register, is_load_order, is_store_order, is_fence_order, any_order, is_failure_order, unused}
use Rattle.rules.specs.Token.{bytes_of}
use Rattle.rules.specs.Form.{Form, forms, field_of, blank_fields}
use Rattle.rules.specs.Writer.{form_in, fields_of}
use Rattle.rules.proofs.MeasureRows.{both_left, both_right}
use Rattle.returns.proofs.TokenLaws.{also, either}
use Rattle.returns.proofs.FormLaws.{every_form}
use Rattle.returns.proofs.FieldLaws.{is_letter_of, in_range}

unfoldable pub letters_in : List ℕ → List ℕ
letters_in [] = []
letters_in (b ∷ bs) = elim (is_letter_of b) [ true ↦ b ∷ letters_in bs | false ↦ letters_in bs ]

abbrev pub letters_of : Form → List ℕ
letters_of f = letters_in f.words

unfoldable pub letters_fine : Room → List ℕ → List ℕ → Bool
letters_fine room fields [] = true
letters_fine room fields (b ∷ bs) = in_range room b (get_or fields (field_of b) 0) && letters_fine room fields bs

-- whether one of the letters stands for this field
unfoldable pub names : List ℕ → ℕ → Bool
names [] i = false
names (b ∷ bs) i = eqb (field_of b) i || names bs i

-- the fields from number i on that no letter stands for are those of the base
unfoldable pub keeps : List ℕ → ℕ → List ℕ → List ℕ → Bool
keeps ls i [] base = true
keeps ls i (x ∷ xs) base = (names ls i || eqb x (get_or base 0 0)) && keeps ls (i + 1) xs (drop 1 base)

unfoldable pub row_fine : Room → Form → List ℕ → Bool
row_fine room f fields = ltb f.opcode 19 && (letters_fine room fields (letters_of f) && keeps (letters_of f) 0 fields (blank_fields f))

and-left-comm : (a b c : Bool) → (a && (b && c)) ≡ (b && (a && c))
and-left-comm true b c = refl
and-left-comm false true c = refl
and-left-comm false false c = refl

only-fine : (x : Bool) (op : Op) → is_fine (only_if x op) ≡ x
only-fine true op = refl
only-fine false op = refl

-- The tests of a row as document 01 orders them, and as its form does; z: that the others are as the form has them

one : (x z : Bool) → (x && z) ≡ ((x && true) && z)
one x z = simp and-true

two : (x y z : Bool) → (x && y && z) ≡ ((x && (y && true)) && z)
two x y z = simp (and_assoc, and-true)

turned : (x y z : Bool) → (x && y && z) ≡ ((y && (x && true)) && z)
turned x y z = simp and-true (simp (and_assoc, and_comm, and-left-comm))

last-first : (x y g z : Bool) → (x && y && g && z) ≡ ((g && (x && (y && true))) && z)
last-first x y g z = simp and-true (simp (and_assoc, and_comm, and-left-comm))

rmw-plain : (c o f g t b : Bool) → (b && (c && o && f && g && (t && true))) ≡ ((g && (c && (o && true))) && (f && (t && (b && true))))
rmw-plain c o f g t b = simp and-true (simp (and_assoc, and_comm, and-left-comm))

rmw-compare : (c o f g t : Bool) → (c && o && f && g && (t && true)) ≡ ((g && (c && (o && (f && true)))) && (t && true))
rmw-compare c o f g t = simp and-true (simp (and_assoc, and_comm, and-left-comm))

rmw-decrement : (c o f g t a b : Bool) → ((a && b) && (c && o && f && g && (t && true))) ≡ ((g && (c && (o && (f && true)))) && (t && (a && (b && true))))
rmw-decrement c o f g t a b = simp and-true (simp (and_assoc, and_comm, and-left-comm))

mut-plain : (c g o f t b : Bool) → (b && (c && g && (o && (f && (t && true))))) ≡ ((g && (c && true)) && (o && (f && (t && (b && true)))))
mut-plain c g o f t b = simp and-true (simp (and_assoc, and_comm, and-left-comm))

mut-decrement : (c g o f t a b : Bool) → ((a && b) && (c && g && (o && (f && (t && true))))) ≡ ((g && (c && true)) && (o && (f && (t && (a && (b && true))))))
mut-decrement c g o f t a b = simp and-true (simp (and_assoc, and_comm, and-left-comm))

-- what holds of each number below n
infixl 20 ◌▸◌
data Below (P : ℕ → Type 0) : ℕ → Type 0 where
  none : Below P 0
  ◌▸◌ : {n : ℕ} → Below P n → P n → Below P (suc n)

below : (P : ℕ → Type 0) {n : ℕ} → Below P n → (m : ℕ) → m < n → P m
below P none m l = absurd (omega arith)
below P (◌▸◌ {n} h p) m l = elim (ℕ_discrete m n) [ yes e ↦ rw e p | no d ↦ below P h m (omega arith) ]

abbrev row_of : (o ob or fa k re t a b : ℕ) → Row
row_of o ob or fa k re t a b = record { opcode = o; object = ob; order = or; failure = fa; kind = k; register = re; target = t; a = a; b = b }

module _ (room : Room) (ob or fa re t a b : ℕ) where
  -- a row of this opcode and change kind, as document 01 judges it and by a form
  abbrev judges : ℕ → ℕ → Bool
  judges o k = is_fine (row_decoded room (row_of o ob or fa k re t a b))

  abbrev by_form : ℕ → ℕ → Form → Bool
  by_form o k f = row_fine room f (fields_of (row_of o ob or fa k re t a b))

  -- the opcodes without changes have one form each
  abbrev Single : ℕ → ℕ → Type 0
  Single k o = judges o k ≡ by_form o k (form_in o 0 forms)

  record Singles (k : ℕ) : Type 0 where
    load : Single k 0
    store : Single k 1
    store_register : Single k 2
    fence : Single k 4
    unsync_load : Single k 5
    yield : Single k 7
    join : Single k 8
    jump : Single k 9
    jump_if : Single k 10
    jump_unless : Single k 11
    check : Single k 12
    critical : Single k 13
    explore_state : Single k 14
    skip_branch : Single k 15
    spurious : Single k 16
    plain_read : Single k 17
    plain_write : Single k 18

  singles : (k : ℕ) → Singles k
  unfolding row_decoded row_fine form_in forms letters_in letters_fine names keeps bytes_of field_of in_range
  singles k = record {
    load = only-fine _ _ ∙ last-first (ltb ob room.cells) (is_load_order or) (is_register re) (unused (fa ∷ k ∷ t ∷ a ∷ b ∷ []));
    store = only-fine _ _ ∙ two (ltb ob room.cells) (is_store_order or) (unused (fa ∷ k ∷ re ∷ t ∷ b ∷ []));
    store_register = only-fine _ _ ∙ last-first (ltb ob room.cells) (is_store_order or) (is_register re) (unused (fa ∷ k ∷ t ∷ a ∷ b ∷ []));
    fence = only-fine _ _ ∙ one (is_fence_order or) (unused (ob ∷ fa ∷ k ∷ re ∷ t ∷ a ∷ b ∷ []));
    unsync_load = only-fine _ _ ∙ turned (ltb ob room.cells) (is_register re) (unused (or ∷ fa ∷ k ∷ t ∷ a ∷ b ∷ []));
    yield = only-fine _ _;
    join = only-fine _ _ ∙ one (ltb ob room.threads) (unused (or ∷ fa ∷ k ∷ re ∷ t ∷ a ∷ b ∷ []));
    jump = only-fine _ _ ∙ one (leb t room.rows && not (eqb t room.row)) (unused (ob ∷ or ∷ fa ∷ k ∷ re ∷ a ∷ b ∷ []));
    jump_if = only-fine _ _ ∙ two (is_register re) (leb t room.rows) (unused (ob ∷ or ∷ fa ∷ k ∷ b ∷ []));
    jump_unless = only-fine _ _ ∙ two (is_register re) (leb t room.rows) (unused (ob ∷ or ∷ fa ∷ k ∷ b ∷ []));
    check = only-fine _ _ ∙ one (is_register re) (unused (ob ∷ or ∷ fa ∷ k ∷ t ∷ b ∷ []));
    critical = only-fine _ _;
    explore_state = only-fine _ _;
    skip_branch = only-fine _ _;
    spurious = only-fine _ _ ∙ one (is_register re) (unused (ob ∷ or ∷ fa ∷ k ∷ t ∷ a ∷ b ∷ []));
    plain_read = only-fine _ _ ∙ turned (ltb ob room.plains) (is_register re) (unused (or ∷ fa ∷ k ∷ t ∷ a ∷ b ∷ []));
    plain_write = only-fine _ _ ∙ one (ltb ob room.plains) (unused (or ∷ fa ∷ k ∷ re ∷ t ∷ b ∷ []));
  }

  -- those with changes have one for each kind
  rmw-only : (k : ℕ) (x : Bool) (c : Change) → is_fine (rmw_row room.cells (row_of 3 ob or fa k re t a b) (only_if x c)) ≡
      (x && (ltb ob room.cells && any_order or && is_failure_order k fa && is_register re && (eqb t 0 && true)))
  rmw-only k true c = only-fine _ _
  rmw-only k false c = refl

  mut-only : (k : ℕ) (x : Bool) (c : Change) → is_fine (with_mut_row room.cells (row_of 6 ob or fa k re t a b) (only_if x c)) ≡
      (x && (ltb ob room.cells && is_register re && (eqb or 0 && (eqb fa 0 && (eqb t 0 && true)))))
  mut-only k true c = only-fine _ _
  mut-only k false c = refl

  abbrev Kind : ℕ → ℕ → Type 0
  Kind o k = judges o k ≡ by_form o k (form_in o k forms)

  rmw-simple : (k : ℕ) (c : Change) → is_fine (rmw_row room.cells (row_of 3 ob or fa k re t a b) (only_if (eqb b 0) c)) ≡
      ((is_register re && (ltb ob room.cells && (any_order or && true))) && (is_failure_order k fa && (eqb t 0 && (eqb b 0 && true))))
  rmw-simple k c =
      rmw-only k (eqb b 0) c ∙ rmw-plain (ltb ob room.cells) (any_order or) (is_failure_order k fa) (is_register re) (eqb t 0) (eqb b 0)

  rmw-kinds : Below (Kind 3) 13
  unfolding row_decoded change_decoded row_fine form_in forms letters_in letters_fine names keeps bytes_of field_of in_range
  rmw-kinds =
      none
      ▸ rmw-simple 0 (Change.swap a)
      ▸ rmw-simple 1 (Change.add a)
      ▸ rmw-simple 2 (Change.subtract a)
      ▸ rmw-simple 3 (Change.and a)
      ▸ rmw-simple 4 (Change.or a)
      ▸ rmw-simple 5 (Change.xor a)
      ▸ rmw-simple 6 (Change.nand a)
      ▸ rmw-simple 7 (Change.max a)
      ▸ rmw-simple 8 (Change.min a)
      ▸ rmw-simple 9 (Change.signed_max a)
      ▸ rmw-simple 10 (Change.signed_min a)
      ▸ (only-fine _ _ ∙ rmw-compare (ltb ob room.cells) (any_order or) (is_failure_order 11 fa) (is_register re) (eqb t 0))
      ▸ (rmw-only 12 (eqb a 0 && eqb b 0) Change.decrement
      ∙ rmw-decrement (ltb ob room.cells) (any_order or) (is_failure_order 12 fa) (is_register re) (eqb t 0) (eqb a 0) (eqb b 0))

  mut-simple : (k : ℕ) (c : Change) → is_fine (with_mut_row room.cells (row_of 6 ob or fa k re t a b) (only_if (eqb b 0) c)) ≡
      ((is_register re && (ltb ob room.cells && true)) && (eqb or 0 && (eqb fa 0 && (eqb t 0 && (eqb b 0 && true)))))
  mut-simple k c = mut-only k (eqb b 0) c ∙ mut-plain (ltb ob room.cells) (is_register re) (eqb or 0) (eqb fa 0) (eqb t 0) (eqb b 0)

  mut-kinds : Below (Kind 6) 13
  unfolding row_decoded change_decoded row_fine form_in forms letters_in letters_fine names keeps bytes_of field_of in_range
  mut-kinds =
      none
      ▸ mut-simple 0 (Change.swap a)
      ▸ mut-simple 1 (Change.add a)
      ▸ mut-simple 2 (Change.subtract a)
      ▸ mut-simple 3 (Change.and a)
      ▸ mut-simple 4 (Change.or a)
      ▸ mut-simple 5 (Change.xor a)
      ▸ mut-simple 6 (Change.nand a)
      ▸ mut-simple 7 (Change.max a)
      ▸ mut-simple 8 (Change.min a)
      ▸ mut-simple 9 (Change.signed_max a)
      ▸ mut-simple 10 (Change.signed_min a)
      ▸ (only-fine _ _ ∙ turned (ltb ob room.cells) (is_register re) (eqb or 0 && (eqb fa 0 && (eqb t 0 && true))))
      ▸ (mut-only 12 (eqb a 0 && eqb b 0) Change.decrement
      ∙ mut-decrement (ltb ob room.cells) (is_register re) (eqb or 0) (eqb fa 0) (eqb t 0) (eqb a 0) (eqb b 0))

-- the fields that are kept
pub keeps-at : (ls : List ℕ) (i : ℕ) (xs base : List ℕ) (j : ℕ) → keeps ls i xs base ≡ true → j < length xs →
    (names ls (i + j) ≡ true) ⊎ (get_or xs j 0 ≡ get_or base j 0)
unfolding keeps
keeps-at ls i [] base j h l = absurd (omega arith)
keeps-at ls i (x ∷ xs) base zero h l =
    let e : i + 0 ≡ i = omega arith in
    either (names ls i) (eqb x (get_or base 0 0)) (both_left (names ls i || eqb x (get_or base 0 0)) _ h)
    (λ n. inl (rw e n)) (λ n. inr (eqb-true x (get_or base 0 0) n))
keeps-at ls i (x ∷ xs) base (suc j) h l =
    let e : i + suc j ≡ i + 1 + j = omega arith in
    let f : 1 + j ≡ suc j = omega arith in
    rw (e, ← f, ← get_or-drop 1 base j 0) (keeps-at ls (i + 1) xs (drop 1 base) j (both_right (names ls i || eqb x (get_or base 0 0)) _ h) (omega arith))

abbrev no_form : Form
no_form = record { opcode = 255; kind = 0; words = [] }

-- no form has an opcode from 19 on, or a kind from 13 on
form-none : (o k : ℕ) (fs : List Form) → every_form (λ (f : Form). not (eqb f.opcode o && eqb f.kind k)) fs ≡ true → form_in o k fs ≡ no_form
unfolding form_in
form-none o k [] h = refl
form-none o k (f ∷ fs) h =
    rw (form_in, not-true (eqb f.opcode o && eqb f.kind k) (both_left (not (eqb f.opcode o && eqb f.kind k)) _ h))
    (form-none o k fs (both_right (not (eqb f.opcode o && eqb f.kind k)) _ h))

every-so : (p q : Form → Bool) → ((f : Form) → p f ≡ true → q f ≡ true) → (fs : List Form) → every_form p fs ≡ true → every_form q fs ≡ true
every-so p q g [] h = refl
every-so p q g (f ∷ fs) h = also (g f (both_left (p f) (every_form p fs) h)) (every-so p q g fs (both_right (p f) (every_form p fs) h))

forms-few : every_form (λ (f : Form). ltb f.opcode 19 && ltb f.kind 13) forms ≡ true
unfolding forms
forms-few = refl

opcode-none : (o k : ℕ) → 19 ≤ o → form_in o k forms ≡ no_form
opcode-none o k h =
    form-none o k forms
    (every-so (λ (f : Form). ltb f.opcode 19 && ltb f.kind 13) (λ (f : Form). not (eqb f.opcode o && eqb f.kind k))
    (λ f e.
    let l = ltb-true f.opcode 19 (both_left (ltb f.opcode 19) _ e) in
    rw (ne_eqb f.opcode o (λ g. omega arith)) refl) forms forms-few)

kind-none : (o k : ℕ) → 13 ≤ k → form_in o k forms ≡ no_form
kind-none o k h =
    form-none o k forms
    (every-so (λ (f : Form). ltb f.opcode 19 && ltb f.kind 13) (λ (f : Form). not (eqb f.opcode o && eqb f.kind k))
    (λ f e.
    let l = ltb-true f.kind 13 (both_right (ltb f.opcode 19) _ e) in
    rw (ne_eqb f.kind k (λ g. omega arith), and-false) refl) forms forms-few)

past : (n x i : ℕ) → n ≤ x → i < n → eqb x i ≡ false
past n x i h l = ne_eqb x i (λ (e : x ≡ i). omega arith)

change-none : (k a b : ℕ) → 13 ≤ k → change_decoded k a b ≡ refused
unfolding change_decoded
change-none k a b h =
    rw
    (past 13 k 0 h (omega arith), past 13 k 1 h (omega arith), past 13 k 2 h (omega arith), past 13 k 3 h (omega arith), past 13 k 4 h (omega arith), past 13 k 5 h (omega arith), past 13 k 6 h (omega arith), past 13 k 7 h (omega arith), past 13 k 8 h (omega arith), past 13 k 9 h (omega arith), past 13 k 10 h (omega arith), past 13 k 11 h (omega arith), past 13 k 12 h (omega arith))

row-none : (room : Room) (r : Row) → 19 ≤ r.opcode → row_decoded room r ≡ refused
unfolding row_decoded
row-none room r h =
    let o = r.opcode in
    rw
    (past 19 o 0 h (omega arith), past 19 o 1 h (omega arith), past 19 o 2 h (omega arith), past 19 o 3 h (omega arith), past 19 o 4 h (omega arith), past 19 o 5 h (omega arith), past 19 o 6 h (omega arith), past 19 o 7 h (omega arith), past 19 o 8 h (omega arith), past 19 o 9 h (omega arith), past 19 o 10 h (omega arith), past 19 o 11 h (omega arith), past 19 o 12 h (omega arith), past 19 o 13 h (omega arith), past 19 o 14 h (omega arith), past 19 o 15 h (omega arith), past 19 o 16 h (omega arith), past 19 o 17 h (omega arith), past 19 o 18 h (omega arith))

-- a row of a form whose letters do not stand for the kind has the form's kind
kind-kept : (room : Room) (f : Form) (fields : List ℕ) → 4 < length fields → names (letters_of f) 4 ≡ false → row_fine room f fields ≡ true → get_or fields 4 0 ≡ f.kind
unfolding row_fine
kind-kept room f fields l n h =
    let k = both_right (letters_fine room fields (letters_of f)) _ (both_right (ltb f.opcode 19) _ h) in
    elim (keeps-at (letters_of f) 0 fields (blank_fields f) 4 k l) [ inl y ↦ absurd (true≢false (sym y ∙ n)) | inr y ↦ y ]

module _ (room : Room) (ob or fa re t a b : ℕ) where
  abbrev Judged : ℕ → ℕ → Type 0
  Judged o k = Kind room ob or fa re t a b o k

  none-fine : (o k : ℕ) → judges room ob or fa re t a b o k ≡ false → form_in o k forms ≡ no_form → Judged o k
  unfolding row_fine
  none-fine o k h e = rw e h

  single : (o k : ℕ) → names (letters_of (form_in o 0 forms)) 4 ≡ false → (form_in o 0 forms).kind ≡ 0 →
      form_in o k forms ≡ elim (eqb 0 k) [ true ↦ form_in o 0 forms | false ↦ no_form ] → Single room ob or fa re t a b k o → Judged o k
  single o k n z e h = by (eqb 0 k) refl e
    where
      f : Form
      f = form_in o 0 forms

      other : (y : Bool) → by_form room ob or fa re t a b o k f ≡ y → eqb 0 k ≡ false → judges room ob or fa re t a b o k ≡ false
      other false g x = h ∙ g
      other true g x =
          absurd (true≢false (sym (eq-eqb 0 k (sym (kind-kept room f (fields_of (row_of o ob or fa k re t a b)) (omega arith) n g ∙ z))) ∙ x))

      by : (x : Bool) → eqb 0 k ≡ x → form_in o k forms ≡ elim x [ true ↦ form_in o 0 forms | false ↦ no_form ] → Judged o k
      by true x y = h ∙ ap (by_form room ob or fa re t a b o k) (sym y)
      by false x y = none-fine o k (other (by_form room ob or fa re t a b o k f) refl x) y

  rmw-fine : (k : ℕ) → Judged 3 k
  unfolding row_decoded
  rmw-fine k = by (ltb k 13) refl
    where
      by : (x : Bool) → ltb k 13 ≡ x → Judged 3 k
      by true x = below (Kind room ob or fa re t a b 3) (rmw-kinds room ob or fa re t a b) k (ltb-true k 13 x)
      by false x = none-fine 3 k (rw (change-none k a b (ltb-false k 13 x)) refl) (kind-none 3 k (ltb-false k 13 x))

  mut-fine : (k : ℕ) → Judged 6 k
  unfolding row_decoded
  mut-fine k = by (ltb k 13) refl
    where
      by : (x : Bool) → ltb k 13 ≡ x → Judged 6 k
      by true x = below (Kind room ob or fa re t a b 6) (mut-kinds room ob or fa re t a b) k (ltb-true k 13 x)
      by false x = none-fine 6 k (rw (change-none k a b (ltb-false k 13 x)) refl) (kind-none 6 k (ltb-false k 13 x))

  opcodes : (k : ℕ) → Below (λ (o : ℕ). Judged o k) 19
  unfolding form_in forms letters_in names bytes_of field_of
  opcodes k =
      let s = singles room ob or fa re t a b k in
      none
      ▸ single 0 k refl refl refl s.load
      ▸ single 1 k refl refl refl s.store
      ▸ single 2 k refl refl refl s.store_register
      ▸ rmw-fine k
      ▸ single 4 k refl refl refl s.fence
      ▸ single 5 k refl refl refl s.unsync_load
      ▸ mut-fine k
      ▸ single 7 k refl refl refl s.yield
      ▸ single 8 k refl refl refl s.join
      ▸ single 9 k refl refl refl s.jump
      ▸ single 10 k refl refl refl s.jump_if
      ▸ single 11 k refl refl refl s.jump_unless
      ▸ single 12 k refl refl refl s.check
      ▸ single 13 k refl refl refl s.critical
      ▸ single 14 k refl refl refl s.explore_state
      ▸ single 15 k refl refl refl s.skip_branch
      ▸ single 16 k refl refl refl s.spurious
      ▸ single 17 k refl refl refl s.plain_read
      ▸ single 18 k refl refl refl s.plain_write

  fine-fields : (o k : ℕ) → Judged o k
  fine-fields o k = by (ltb o 19) refl
    where
      by : (x : Bool) → ltb o 19 ≡ x → Judged o k
      by true x = below (λ (i : ℕ). Judged i k) (opcodes k) o (ltb-true o 19 x)
      by false x =
          none-fine o k (ap is_fine (row-none room (row_of o ob or fa k re t a b) (ltb-false o 19 x))) (opcode-none o k (ltb-false o 19 x))

pub fine-so : (room : Room) (r : Row) → is_fine (row_decoded room r) ≡ row_fine room (form_in r.opcode r.kind forms) (fields_of r)
fine-so room r = fine-fields room r.object r.order r.failure r.register r.target r.a r.b r.opcode r.kind
