-- The laws of a tick: a thread past its last row ends; else its row is refused, begins, or acts. Assumes nothing.
--     row_within                                what a row names
--     begun-other, begun-acts                   a row that has begun: the event is what it comes to, or it acts
--     such                                      there is a program with any limit and any number of cells
--     next-with                                 of the table's count and row, it is the definition's
--     next-ended, next-refused, next-begins, next-acts     by where the thread stands
use Prim.Native.Nat.{ℕ, ◌≤◌, ◌<◌}
use mathlib.Core.List.{List, [], ◌∷◌}
use mathlib.Core.Bool.{Bool, true, false, ◌&&◌}
use mathlib.Core.Path.{◌≡◌, refl, ap, sym, ◌∙◌}
use mathlib.Core.Logic.{◌⊎◌, inl, inr}
use lib.Dec.{leb}
use borrow.Author.Tests.{le-leb, lt-leb}
use types.Run.{OneOf, miss}
use denote.Enum.Declared.{tag_of}
use Rattle.rules.specs.Event as Event
use Rattle.rules.specs.Event.{Matched, Move, stops}
use Rattle.rules.specs.State.{State}
use Rattle.rules.specs.Machine.{Program, row_count, row_of, is_to_begin, schedules, thread_ended, begins, acts, next_at}
use Rattle.rules.specs.Table as rules
use Rattle.rules.specs.Table.{cells_of, opcode_of, opcode_in}
use Rattle.event.specs.declared.Fault.{Fault}
use Rattle.event.specs.declared.Moved.{Moved}
use Rattle.event.specs.declared.Moved.TheVariants as event
use Rattle.event.specs.contracts.Moved as Event'
use Rattle.event.specs.declared.Question.TheVariants as question
use Rattle.std.specs.Prelude.{Ok, Err}
use Rattle.event.specs.Moves.{Happening, move_of, matched_for}
use Rattle.decode.specs.declared.Op.{Op}
use Rattle.std.specs.Prelude.{Option, Some, None}
use Rattle.decode.specs.Ops.{op_of, decoded_of, InRange, OpWithin}
use Rattle.rows.specs.Begins.{begun_to, then_acts}
use Rattle.rows.proofs.RowLaws.{begins-to}
use Rattle.execution.specs.Next.{next_with}

pub row_within : (row : Option Op) (op : Op) → row ≡ Some op → OpWithin row → InRange (op_of op)
row_within row op e h = rw e at h

-- the places of the events that are not that it moves, among the variants
abbrev comes : List ℕ
comes = 1 ∷ 2 ∷ 3 ∷ []

-- what begins and does not move is not acted on
stays-so : (p : Program) (t k opcode : ℕ) (op : rules.Op) (m : Matched) (left : State) (e : Moved) → OneOf comes (tag_of Event'.the_type e) →
    move_of (Ok e) t k opcode m left ≡ then_acts p t k op (move_of (Ok e) t k opcode m left)
unfolding schedules
stays-so p t k opcode op m left event.Moves h = absurd (miss comes 0 tt h)
stays-so p t k opcode op m left (event.Done slot mask value) h = refl
stays-so p t k opcode op m left (event.Asks question.Thread yielded) h = refl
stays-so p t k opcode op m left (event.Asks question.Slot yielded) h = refl
stays-so p t k opcode op m left (event.Asks question.Bit yielded) h = refl
stays-so p t k opcode op m left event.Ends h = refl

module _ (p : Program) (st left : State) (t k opcode limit : ℕ) (op : rules.Op) (m : Matched) (r : Happening) (limited : p.operations ≡ limit)
    (begun : move_of r t k opcode m left ≡ begun_to limit st t op) where
  begins-by : then_acts p t k op (move_of r t k opcode m left) ≡ begins p st t k op
  begins-by =
      ap (then_acts p t k op) (begun ∙ ap (λ (n : ℕ). begun_to n st t op) (sym limited)) ∙ sym (begins-to p t k op st)

  -- the row is at fault, or begins and does not move
  pub begun-stops : (f g : Fault) (out : Happening) → r ≡ Err f → out ≡ Err g → g ≡ f → move_of out t k opcode m left ≡ begins p st t k op
  begun-stops f g out is e same = rw (e, same) (rw is at begins-by)

  pub begun-other : (e : Moved) → r ≡ Ok e → OneOf comes (tag_of Event'.the_type e) → move_of (Ok e) t k opcode m left ≡ begins p st t k op
  begun-other e is h = stays-so p t k opcode op m left e h ∙ (rw is at begins-by)

  pub begun-acts : r ≡ Ok event.Moves → (now : State) → now ≡ left → acts p now t k op ≡ begins p st t k op
  begun-acts e now s = rw s (rw e at begins-by)

not-both : (x y : Bool) → y ≡ false → x && y ≡ false
not-both true y e = e
not-both false y e = refl

-- a program with this limit and so many cells. There is one, so that what `next` promises of such a program speaks of every call
pub record Such (limit cells : ℕ) : Type 0 where
  pub program : Program
  pub limited : program.operations ≡ limit
  pub celled : cells_of program.table ≡ cells

pub such : (limit cells : ℕ) → Such limit cells
such limit cells =
    record {
      program = record { table = 0 ∷ cells ∷ []; condition = []; operations = limit; exploring = false };
      limited = refl;
      celled = refl;
    }

-- where the count and the row are those of the table
pub next-with : (p : Program) (st : State) (t k count : ℕ) (row : rules.Decoded rules.Op) → row_count p t ≡ count → row_of p t k ≡ row →
    next_with p st t k count row ≡ next_at p st t k
unfolding next_with next_at
next-with p st t k count row e f = rw (← e, ← f)

module _ (p : Program) (st : State) (t k count : ℕ) (b : Bool) (asked : b ≡ is_to_begin st t) (row : Option Op) where
  pub next-ended : b ≡ true → count ≤ k → (left : State) → left ≡ thread_ended st t → schedules left [] ≡ next_with p st t k count (decoded_of row)
  unfolding next_with
  next-ended y h left e =
      let f : is_to_begin st t ≡ true = sym asked ∙ y in
      rw (f, le-leb count k h) (ap (λ (s : State). schedules s []) e)

  not-past : (k < count) ⊎ (b ≡ false) → is_to_begin st t && leb count k ≡ false
  not-past (inl h) = not-both (is_to_begin st t) (leb count k) (lt-leb count k h)
  not-past (inr n) = let f : is_to_begin st t ≡ false = sym asked ∙ n in rw f

  module _ (stays : (k < count) ⊎ (b ≡ false)) where
    pub next-refused : row ≡ None → stops st Event.impossible ≡ next_with p st t k count (decoded_of row)
    unfolding next_with
    next-refused e = rw (not-past stays, e)

    module _ (op : Op) (e : row ≡ Some op) where
      pub next-begins : b ≡ true → (out : Move State) → out ≡ begins p st t k (op_of op) → out ≡ next_with p st t k count (decoded_of row)
      unfolding next_with
      next-begins y out h =
          let f : is_to_begin st t ≡ true = sym asked ∙ y in
          rw (not-past stays, e, f) h

      acts-on : b ≡ false → acts p st t k (op_of op) ≡ next_with p st t k count (decoded_of row)
      unfolding next_with
      acts-on n = let f : is_to_begin st t ≡ false = sym asked ∙ n in rw (not-past stays, e, f)

      -- the row has just begun, or had begun before
      acting : (now : State) → ((b ≡ true) × (acts p now t k (op_of op) ≡ begins p st t k (op_of op))) ⊎ ((b ≡ false) × (now ≡ st)) →
          acts p now t k (op_of op) ≡ next_with p st t k count (decoded_of row)
      acting now (inl w) = next-begins w.0 _ w.1
      acting now (inr w) = ap (λ (s : State). acts p s t k (op_of op)) w.1 ∙ acts-on w.0

      pub next-acts : (now : State) → ((b ≡ true) × (acts p now t k (op_of op) ≡ begins p st t k (op_of op))) ⊎ ((b ≡ false) × (now ≡ st)) →
          (r : Happening) (left : State) →
          move_of r t k (opcode_of (op_of op)) (matched_for left t (decoded_of (Some op))) left ≡ acts p now t k (op_of op) →
          move_of r t k (opcode_in (decoded_of row)) (matched_for left t (decoded_of row)) left ≡ next_with p st t k count (decoded_of row)
      next-acts now came r left h = rw e (h ∙ (rw e at (acting now came)))
