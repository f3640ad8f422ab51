-- The laws of a mark in the schedule at a position, with a bound. Assumes nothing.
--     length_marked        as many states as before
--     marks-by, bound_by   the schedule marked, and one that takes no mark
use Prim.Native.Nat.{ℕ}
use mathlib.Core.List.{List, map}
use mathlib.Core.Bool.{Bool, true, false, cond, not}
use mathlib.Core.Path.{◌≡◌, refl, ap, sym, ◌∙◌}
use native.Mathlib.Omega.{arith}
use lib.Dec.{eqb}
use lib.ListN.{length, get_or, set, length-set, length-map}
use lib.Seq.{set-get_or}
use Rattle.rules.specs.Path.{Branch, Schedule, schedule, skip_to_pending, marked, made_pending, takes_marks, schedule_marked, no_branch, disabled, visited}
use Rattle.rules.proofs.MarkLaws.{made-same}
use Rattle.record.specs.Fields.{record_byte, with_states_at}
use Rattle.record.specs.Schedules as one
use Rattle.record.proofs.ScheduleLaws.{stands-preemptions}
use Rattle.path.specs.Bounds.{bound_of, reaches}
use Rattle.path.specs.Walks.{HoldsAt, MarksAt}
use Rattle.std.specs.Prelude.{Option, Some, None}
use Rattle.std.specs.Option.{option_eq}
use Rattle.path.proofs.HoldsLaws.{at-stands, at_five, at-states, holds-states-put}

length-either : (b : Bool) (l m n : List ℕ) → length m ≡ length l → length n ≡ length l → length (cond b m n) ≡ length l
length-either true l m n e f = e
length-either false l m n e f = f

length_marked : (l : List ℕ) (t : ℕ) → length (marked l t) ≡ length l
unfolding marked
length_marked l t =
    length-either (eqb (get_or l t visited) disabled) l (map skip_to_pending l) (set l t (skip_to_pending (get_or l t visited))) (length-map l skip_to_pending) (length-set l t (skip_to_pending (get_or l t visited)))

takes-by : (bound : Option ℕ) (s : Schedule) (f : ℕ) → f ≡ s.preemptions → takes_marks (bound_of bound) s ≡ not (reaches bound f)
unfolding takes_marks
takes-by None s f e = refl
takes-by (Some n) s f e = ap (λ (x : ℕ). not (eqb x n)) (sym e)

module _ (bytes : List ℕ) (k : ℕ) (bound : Option ℕ) (t : ℕ) (full : Bool) (e : full ≡ reaches bound (record_byte bytes k 7)) where
  takes : {bs : List Branch} {s : Schedule} → HoldsAt bytes bs k s → takes_marks (bound_of bound) s ≡ not full
  takes {bs} {s} h = takes-by bound s (record_byte bytes k 7) (stands-preemptions (at-stands h)) ∙ ap not (sym e)

  pub marks-by : full ≡ false → (exit : List ℕ) (r : ℕ) → one.RecordMarked bytes exit k t r → MarksAt bytes exit k (bound_of bound) t r
  unfolding schedule_marked
  marks-by f exit r c = record {
    few = c.few;
    marks = λ bs s h.
        let y : takes_marks (bound_of bound) s ≡ true = takes h ∙ ap not f in
        let p : exit ≡ with_states_at bytes k (marked s.states t) = c.puts ∙ ap (λ (x : List ℕ). with_states_at bytes k (marked x t)) (at-states h) in
        let l : length (marked s.states t) ≡ 5 = length_marked s.states t ∙ at_five h in
        record {
          holds = rw (y, p) (holds-states-put h (marked s.states t) l);
          opens = rw y (c.opens ∙ ap (λ (x : List ℕ). made_pending x (marked x t)) (at-states h));
        };
  }

  pub bound_by : full ≡ true → MarksAt bytes bytes k (bound_of bound) t 0
  unfolding schedule_marked
  bound_by f = record {
    few = omega arith;
    marks = λ bs s h.
        let y : takes_marks (bound_of bound) s ≡ false = takes h ∙ ap not f in
        let p : set bs k (schedule s) ≡ bs = ap (set bs k) (sym h.there) ∙ set-get_or bs k no_branch in
        record { holds = rw (y, p) h.path; opens = rw y (sym (made-same s.states)) };
  }

-- Whether it takes marks

pub reaches-by : (b : Option ℕ) (f : ℕ) → option_eq eqb (Some f) b ≡ reaches b f
reaches-by None f = refl
reaches-by (Some n) f = refl
