-- What is wrong with a field, put in words. Assumes nothing.
--     part_left                  what is to be put of a list once so many commas are passed
--     part-whole, part-comma, part-byte, part-other, part_end      of the whole list, and one turn of its loop
--     cell-named, plain-named, thread-named, none-named      what an object is called, by what it may be
use Prim.Native.Nat.{ℕ, suc, ◌+◌, ◌-◌, ◌≤◌, ◌<◌}
use mathlib.Core.Bool.{Bool, true, false, cond}
use mathlib.Core.List.{List, [], ◌∷◌}
use mathlib.Core.Path.{◌≡◌, refl}
use native.Mathlib.Decide.{dec_lt}
use native.Mathlib.Omega.{arith}
use native.Mathlib.Numerals.{add-one}
use borrow.Author.Tests.{le-leb, lt-leb, eq-eqb, ne_eqb}
use types.Run.{OneOf, miss}
use denote.Enum.Declared.{tag_of}
use lib.Dec.{eqb, leb}
use lib.ListN.{length, get_or, take, drop, drop_of_length-le}
use lib.Seq.{drop-cons}
use Rattle.rules.specs.Table.{Row, Room}
use Rattle.page.specs.Pages.{Page, put_text}
use Rattle.reasons.specs.contracts.May.{the_type}
use Rattle.reasons.specs.declared.May.{May}
use Rattle.reasons.specs.declared.May.TheVariants.{AnyCell, AnyPlain, AnyThread}
use Rattle.reasons.specs.declared.Unused.{Unused}
use Rattle.reasons.specs.declared.Unused.TheVariants.{ByOpcode}
use Rattle.std.specs.Prelude.{Result, Ok, Err}
use Rattle.reasons.specs.Wrong.{has_cell, has_plain, may_object}
use Prim.Native.String.{String}
use Rattle.bad_row.specs.Words.{object_name, part_past}

-- The part of a list past n commas, of which so many are passed

unfoldable pub part_left : ℕ → ℕ → List ℕ → List ℕ
part_left n past bs = cond (leb past n) (part_past (n - past) bs) []

left-none : (n past : ℕ) (bs : List ℕ) → n < past → part_left n past bs ≡ []
unfolding part_left
left-none n past bs h = rw (lt-leb past n h)

left-some : (n past k : ℕ) (bs : List ℕ) → past + k ≡ n → part_left n past bs ≡ part_past k bs
unfolding part_left
left-some n past k bs e = let d : n - past ≡ k = omega arith in rw (le-leb past n (omega arith), d)

pub part-whole : (n : ℕ) (bs : List ℕ) → part_left n 0 bs ≡ part_past n bs
part-whole n bs = left-some n 0 n bs (omega arith)

left-nil : (n past : ℕ) → part_left n past [] ≡ []
unfolding part_past
left-nil n past =
    elim (dec_lt n past) [
      | yes h ↦ left-none n past [] h
      | no h ↦ left-some n past (n - past) [] (omega arith)
    ]

module _ (n past b : ℕ) (bs : List ℕ) where
  left-comma : b ≡ 44 → part_left n past (b ∷ bs) ≡ part_left n (past + 1) bs
  unfolding part_past
  left-comma e =
      let k : ℕ = n - (past + 1) in
      elim (dec_lt past n) [
        | yes h ↦ rw (left-some n past (suc k) (b ∷ bs) (omega arith), left-some n (past + 1) k bs (omega arith), eq-eqb b 44 e)
        | no h ↦
            rw (left-none n (past + 1) bs (omega arith))
            (elim (dec_lt n past) [
              | yes m ↦ left-none n past (b ∷ bs) m
              | no m ↦ rw (left-some n past 0 (b ∷ bs) (omega arith), eq-eqb b 44 e)
            ])
      ]

  left-byte : (b ≡ 44 → ⊥) → past ≡ n → part_left n past (b ∷ bs) ≡ b ∷ part_left n past bs
  unfolding part_past
  left-byte e h = rw (left-some n past 0 (b ∷ bs) (omega arith), left-some n past 0 bs (omega arith), ne_eqb b 44 e)

  left_other : (b ≡ 44 → ⊥) → (past ≡ n → ⊥) → part_left n past (b ∷ bs) ≡ part_left n past bs
  unfolding part_past
  left_other e m =
      let k : ℕ = n - (past + 1) in
      elim (dec_lt past n) [
        | yes h ↦ rw (left-some n past (suc k) (b ∷ bs) (omega arith), left-some n past (suc k) bs (omega arith), ne_eqb b 44 e)
        | no h ↦ rw (left-none n past (b ∷ bs) (omega arith), left-none n past bs (omega arith))
      ]

module _ (list : List ℕ) (i n past : ℕ) (l whole : Page) (left : put_text l (part_left n past (drop i list)) ≡ whole) where
  pub part_end : length list ≤ i → l ≡ whole
  unfolding put_text
  part_end h = rw (drop_of_length-le list {i = i} h, left-nil n past) at left

  module _ (h : i < length list) where
    on : drop i list ≡ get_or list i 0 ∷ drop (i + 1) list
    on = rw (add-one i) (drop-cons list i 0 h)

    pub part-comma : get_or list i 0 ≡ 44 → put_text l (part_left n (past + 1) (drop (i + 1) list)) ≡ whole
    part-comma e = rw (on, left-comma n past _ _ e) at left

    pub part-byte : (m : Page) → m ≡ put_text l (take (i + 1 - i) (drop i list)) →
        (get_or list i 0 ≡ 44 → ⊥) → past ≡ n → put_text m (part_left n past (drop (i + 1) list)) ≡ whole
    unfolding put_text
    part-byte m put e k = let one : i + 1 - i ≡ 1 = omega arith in rw (put, one, on) (rw (on, left-byte n past _ _ e k) at left)

    pub part-other : (get_or list i 0 ≡ 44 → ⊥) → (past ≡ n → ⊥) → put_text l (part_left n past (drop (i + 1) list)) ≡ whole
    part-other e k = rw (on, left_other n past _ _ e k) at left

-- The four names of what an object may be, by three tests: what it may be, and its name

abbrev may : Bool → Bool → Bool → Result May Unused
may x y z = cond x (Ok AnyCell) (cond y (Ok AnyPlain) (cond z (Ok AnyThread) (Err ByOpcode)))

abbrev name : Bool → Bool → Bool → String
name x y z = cond x "cell" (cond y "plain cell" (cond z "thread" "the cell, plain cell or thread"))

by-cell : (x y z : Bool) → may x y z ≡ Ok AnyCell → name x y z ≡ "cell"
by-cell true y z e = refl
by-cell false true z e = absurd (cc)
by-cell false false true e = absurd (cc)
by-cell false false false e = absurd (cc)

by-plain : (x y z : Bool) → may x y z ≡ Ok AnyPlain → name x y z ≡ "plain cell"
by-plain true y z e = absurd (cc)
by-plain false true z e = refl
by-plain false false true e = absurd (cc)
by-plain false false false e = absurd (cc)

by-none : (x y z : Bool) (u : Unused) → may x y z ≡ Err u → name x y z ≡ "the cell, plain cell or thread"
by-none true y z u e = absurd (cc)
by-none false true z u e = absurd (cc)
by-none false false true u e = absurd (cc)
by-none false false false u e = refl

-- the places among the variants of all but a cell and a plain cell
abbrev rest : List ℕ
rest = 0 ∷ 3 ∷ 4 ∷ 5 ∷ 6 ∷ 7 ∷ 8 ∷ 9 ∷ 10 ∷ 11 ∷ []

by-thread : (x y z : Bool) (m : May) → may x y z ≡ Ok m → OneOf rest (tag_of the_type m) → name x y z ≡ "thread"
by-thread true y z m e k = let p : m ≡ AnyCell = cc in absurd (miss rest 1 tt (rw p at k))
by-thread false true z m e k = let p : m ≡ AnyPlain = cc in absurd (miss rest 2 tt (rw p at k))
by-thread false false true m e k = refl
by-thread false false false m e k = absurd (cc)

module _ (opcode : ℕ) where
  pub cell-named : may_object opcode ≡ Ok AnyCell → object_name opcode ≡ "cell"
  cell-named = by-cell (has_cell opcode) (has_plain opcode) (eqb opcode 8)

  pub plain-named : may_object opcode ≡ Ok AnyPlain → object_name opcode ≡ "plain cell"
  plain-named = by-plain (has_cell opcode) (has_plain opcode) (eqb opcode 8)

  pub thread-named : (m : May) → may_object opcode ≡ Ok m → OneOf rest (tag_of the_type m) → object_name opcode ≡ "thread"
  thread-named = by-thread (has_cell opcode) (has_plain opcode) (eqb opcode 8)

  pub none-named : (u : Unused) → may_object opcode ≡ Err u → object_name opcode ≡ "the cell, plain cell or thread"
  none-named = by-none (has_cell opcode) (has_plain opcode) (eqb opcode 8)
