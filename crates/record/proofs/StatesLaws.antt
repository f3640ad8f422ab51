-- The laws of the five states in a record. Assumes nothing.
--     state-at, state-put          a byte of the path is a state
--     states-now, states-again     what is read after states were put; a second time
--     states-same                  the states that stand there already
--     schedule-states, -put        the states of a schedule's record
--     first-is                     the lowest place of a state
--     counts-are                   how many are Pending
use Prim.Native.Nat.{ℕ, ◌+◌, ◌*◌, ◌/◌, ◌%◌, ◌≤◌, ◌<◌}
use mathlib.Core.List.{List, [], ◌∷◌, ◌++◌, append_assoc}
use mathlib.Core.Bool.{Bool, cond, true, false}
use mathlib.Core.Path.{◌≡◌, refl, ap, sym, ◌∙◌}
use native.Mathlib.Omega.{arith}
use lib.Dec.{eqb, ltb}
use Rattle.std.specs.List.{position_from, position_or_len, filter, count_by}
use Rattle.std.proofs.lemmas.Iterator.Adapters.{position_from-zero}
use Rattle.std.proofs.lemmas.List.Recursion.{is_count_by}
use Rattle.std.proofs.lemmas.List.Sums.{length-filter, count_by-le-length}
use Rattle.record.specs.Answers.{CountIs}
use lib.ListN.{length, get_or, set, take, drop, replicate, length-append, length-take, length-drop}
use lib.Seq.{take_at, drop_at, get_or-take, get_or-drop, set-append_left, length-take-le}
use Rattle.rules.specs.Vector.{Whom, nobody, thread, one_up}
use Rattle.rules.specs.Path.{Schedule, schedule, encoded, with_states, first_in, flag, pendings, pending}
use Rattle.rules.specs.Records.{record_at, with_record}
use Rattle.rules.proofs.RecordLaws.{length-record_at, record_same, length-with_record, record-now, record-again, byte_at, byte_put, set-append-add, three}
use Rattle.std.specs.Prelude.{Option, Some, None}
use Rattle.record.specs.Places.{found_as}
use Rattle.record.specs.Fields.{record_byte, with_record_byte, states_in, with_states_in, states_at, with_states_at}

-- Among a record's bytes

module _ (r : List ℕ) (e : length r ≡ 16) where
  length-states_in : length (states_in r) ≡ 5
  unfolding states_in
  length-states_in = simp (length-take, length-drop) (omega arith)

  in-at : (j : ℕ) → j < 5 → get_or r (2 + j) 0 ≡ get_or (states_in r) j 0
  unfolding states_in
  in-at j b = sym (get_or-take 5 (drop 2 r) j 0 b ∙ get_or-drop 2 r j 0)

  in-put : (j v : ℕ) → j < 5 → set r (2 + j) v ≡ with_states_in r (set (states_in r) j v)
  unfolding states_in with_states_in
  in-put j v b =
      let front : List ℕ = take 2 r in
      let own : List ℕ = take 5 (drop 2 r) in
      let l : length own ≡ 5 = simp (length-take, length-drop) (omega arith) in
      let f : 2 + j ≡ length front + j = omega (arith, length-take-le 2 r (omega arith)) in
      ap (λ (x : List ℕ). set x (2 + j) v) (three r 2 5)
      ∙ ap (λ (n : ℕ). set (front ++ (own ++ drop 7 r)) n v) f
      ∙ set-append-add front (own ++ drop 7 r) j v
      ∙ ap (λ (x : List ℕ). front ++ x) (set-append_left own (drop 7 r) j v (omega arith))

  in-same : with_states_in r (states_in r) ≡ r
  unfolding states_in with_states_in
  in-same = sym (three r 2 5)

  module _ (s : List ℕ) (l : length s ≡ 5) where
    length-with_states_in : length (with_states_in r s) ≡ 16
    unfolding with_states_in
    length-with_states_in = simp (length-append, length-take, length-drop) (omega arith)

    in-now : states_in (with_states_in r s) ≡ s
    unfolding states_in with_states_in
    in-now = rw (drop_at (take 2 r) (s ++ drop 7 r) 2 (length-take-le 2 r (omega arith)), take_at s (drop 7 r) 5 l)

    in-again : (t : List ℕ) → with_states_in (with_states_in r s) t ≡ with_states_in r t
    unfolding with_states_in
    in-again t =
        let f : length (take 2 r) ≡ 2 = length-take-le 2 r (omega arith) in
        let n : length (take 2 r ++ s) ≡ 7 = length-append (take 2 r) s ∙ (omega arith) in
        let d : drop 7 (take 2 r ++ (s ++ drop 7 r)) ≡ drop 7 r = ap (drop 7) (sym (append_assoc (take 2 r) s (drop 7 r))) ∙ drop_at (take 2 r ++ s) (drop 7 r) 7 n in
        let k : take 2 (take 2 r ++ (s ++ drop 7 r)) ≡ take 2 r = take_at (take 2 r) (s ++ drop 7 r) 2 f in
        cc

-- In the record at a position

module _ (bytes : List ℕ) (at : ℕ) (fits : 16 * at + 16 ≤ length bytes) where
  pub length-states_at : length (states_at bytes at) ≡ 5
  unfolding states_at
  length-states_at = length-states_in (record_at bytes at) (length-record_at bytes at fits)

  pub state-at : (j : ℕ) → j < 5 → record_byte bytes at (2 + j) ≡ get_or (states_at bytes at) j 0
  unfolding states_at
  state-at j b = byte_at bytes at fits (2 + j) (omega arith) ∙ in-at (record_at bytes at) (length-record_at bytes at fits) j b

  pub state-put : (j v : ℕ) → j < 5 → with_record_byte bytes at (2 + j) v ≡ with_states_at bytes at (set (states_at bytes at) j v)
  unfolding states_at with_states_at
  state-put j v b =
      byte_put bytes at fits (2 + j) v (omega arith)
      ∙ ap (with_record bytes at) (in-put (record_at bytes at) (length-record_at bytes at fits) j v b)

  pub states-same : with_states_at bytes at (states_at bytes at) ≡ bytes
  unfolding states_at with_states_at
  states-same = ap (with_record bytes at) (in-same (record_at bytes at) (length-record_at bytes at fits)) ∙ record_same bytes at fits

  module _ (s : List ℕ) (l : length s ≡ 5) where
    long : length (with_states_in (record_at bytes at) s) ≡ 16
    long = length-with_states_in (record_at bytes at) (length-record_at bytes at fits) s l

    pub length-with_states_at : length (with_states_at bytes at s) ≡ length bytes
    unfolding with_states_at
    length-with_states_at = length-with_record bytes at fits (with_states_in (record_at bytes at) s) long

    pub states-now : states_at (with_states_at bytes at s) at ≡ s
    unfolding states_at with_states_at
    states-now =
        ap states_in (record-now bytes at fits (with_states_in (record_at bytes at) s) long)
        ∙ in-now (record_at bytes at) (length-record_at bytes at fits) s l

    pub states-again : (t : List ℕ) → with_states_at (with_states_at bytes at s) at t ≡ with_states_at bytes at t
    unfolding with_states_at
    states-again t =
        ap (λ (x : List ℕ). with_record (with_record bytes at (with_states_in (record_at bytes at) s)) at (with_states_in x t)) (record-now bytes at fits (with_states_in (record_at bytes at) s) long)
        ∙ record-again bytes at fits (with_states_in (record_at bytes at) s) (with_states_in (with_states_in (record_at bytes at) s) t) long
        ∙ ap (with_record bytes at) (in-again (record_at bytes at) (length-record_at bytes at fits) s l t)

-- Of a schedule

module _ (s : Schedule) (l : length s.states ≡ 5) where
  pub schedule-states : states_in (encoded (schedule s)) ≡ s.states
  unfolding states_in encoded
  schedule-states = take_at s.states (s.preemptions ∷ s.initial ∷ s.prev % 256 ∷ s.prev / 256 ∷ replicate 5 0) 5 l

  pub schedule-put : (t : List ℕ) → with_states_in (encoded (schedule s)) t ≡ encoded (schedule (with_states s t))
  unfolding with_states_in encoded
  schedule-put t =
      ap (λ (x : List ℕ). 1 ∷ flag s.exploring ∷ (t ++ x))
      (drop_at s.states (s.preemptions ∷ s.initial ∷ s.prev % 256 ∷ s.prev / 256 ∷ replicate 5 0) 5 l)

-- The lowest place of a state: what is found where the list begins at place i

abbrev from : ℕ → Whom → Option ℕ
from i nobody = None
from i (thread t) = Some (i + t)

from-next : (b : Bool) (i : ℕ) (w : Whom) → cond b (Some i) (from (i + 1) w) ≡ from i (cond b (thread 0) (one_up w))
from-next true i w = let e : i ≡ i + 0 = omega arith in ap Some e
from-next false i nobody = refl
from-next false i (thread t) = let e : i + 1 + t ≡ i + (t + 1) = omega arith in ap Some e

from_zero : (w : Whom) → from 0 w ≡ found_as w
from_zero nobody = refl
from_zero (thread t) = let e : 0 + t ≡ t = omega arith in ap Some e

from-first : (x i : ℕ) (l : List ℕ) → position_from (λ s. eqb s x) i l ≡ from i (first_in x l)
unfolding first_in
from-first x i [] = refl
from-first x i (s ∷ l) = ap (cond (eqb s x) (Some i)) (from-first x (i + 1) l) ∙ from-next (eqb s x) i (first_in x l)

-- as `position` answers
pub first-is : (x : ℕ) (l : List ℕ) (r : Option ℕ) → r ≡ cond (ltb (position_or_len (λ s. eqb s x) l) (length l)) (Some (position_or_len (λ s. eqb s x) l)) None → r ≡ found_as (first_in x l)
first-is x l r e = e ∙ position_from-zero (λ s. eqb s x) l ∙ from-first x 0 l ∙ from_zero (first_in x l)

-- How many are Pending, as `filter` and `count` answer

counts-next : (b : Bool) (n : ℕ) → cond b 1 0 + n ≡ cond b (1 + n) n
counts-next true n = refl
counts-next false n = omega arith

pub counts-are : (l : List ℕ) → length l ≡ 5 → CountIs 5 (pendings l) (length (filter (λ s. eqb s pending) l))
unfolding pendings
counts-are l e =
    let is : pendings l ≡ count_by (λ s. eqb s pending) l = is_count_by pendings (λ s. eqb s pending) refl (λ x xs. counts-next (eqb x pending) (pendings xs)) l in
    record { few = omega (arith, length-filter (λ s. eqb s pending) l, count_by-le-length (λ s. eqb s pending) l); is = length-filter (λ s. eqb s pending) l ∙ sym is }
