-- The laws of a record at its next choice. Assumes nothing.
--     visited-..       a schedule's Active is left
--     turned-..        and its first Pending chosen
--     moved-..         a load's next value
use Prim.Native.Nat.{ℕ, zero, suc, ◌+◌, ◌*◌, ◌≤◌, ◌<◌}
use mathlib.Core.List.{List, [], ◌∷◌}
use mathlib.Core.Bool.{Bool, true, false}
use mathlib.Core.Path.{◌≡◌, refl, ap, sym, ◌∙◌}
use mathlib.Core.Logic.{◌⊎◌, inl, inr, ⊎_elim}
use native.Mathlib.Omega.{arith}
use native.Mathlib.Numerals.{add-one}
use borrow.Author.Tests.{eqb-true, lt-ltb, le-ltb}
use lib.Dec.{eqb}
use lib.ListN.{length, get_or, set, length-set}
use Rattle.rules.specs.Vector.{Whom, nobody, thread, one_up}
use Rattle.rules.specs.Path.{first_in, active_in, to_visited, to_active, left, turned, pendings, is_pending, active, pending, visited}
use Rattle.record.specs.Fields.{record_byte, with_record_byte, states_at, with_states_at}
use Rattle.record.specs.Places.{found_as, First}
use Rattle.std.specs.Prelude.{Option, Some, None}
use Rattle.record.specs.Steps.{Visits, Moves}
use Rattle.record.proofs.Places.{none_of, some_of}
use Rattle.record.proofs.StatesLaws.{length-states_at, state-put, states-same, states-now, states-again, length-with_states_at}

pub either : (b : Bool) → (b ≡ true) ⊎ (b ≡ false)
either true = inl refl
either false = inr refl

-- Who was found

visited-at : (w : Whom) (s : List ℕ) (t : ℕ) → Some t ≡ found_as w → set s t visited ≡ to_visited w s
visited-at w s t e = rw (some_of w t e)

nobody-visited : (w : Whom) (s : List ℕ) → None ≡ found_as w → s ≡ to_visited w s
nobody-visited w s e = rw (none_of w e)

active-at : (w : Whom) (s : List ℕ) (t : ℕ) → Some t ≡ found_as w → set s t active ≡ to_active w s
active-at w s t e = rw (some_of w t e)

nobody-active : (w : Whom) (s : List ℕ) → None ≡ found_as w → s ≡ to_active w s
nobody-active w s e = rw (none_of w e)

length-visited : (w : Whom) (s : List ℕ) → length (to_visited w s) ≡ length s
length-visited nobody s = refl
length-visited (thread t) s = length-set s t visited

length-active : (w : Whom) (s : List ℕ) → length (to_active w s) ≡ length s
length-active nobody s = refl
length-active (thread t) s = length-set s t active

pub length-left : (s : List ℕ) → length (left s) ≡ length s
length-left s = length-visited (active_in s) s

pub length-turned : (s : List ℕ) → length (turned s) ≡ length s
unfolding turned
length-turned s = length-active (first_in pending (left s)) (left s) ∙ length-left s

-- the state of whoever was found
abbrev In : ℕ → List ℕ → Whom → Type 0
In x s nobody = Unit
In x s (thread t) = get_or s t 0 ≡ x

in-next : (x y : ℕ) (s : List ℕ) (w : Whom) → In x s w → In x (y ∷ s) (one_up w)
in-next x y s nobody h = tt
in-next x y s (thread t) h = rw add-one h

first-in : (x : ℕ) (s : List ℕ) → In x s (first_in x s)
unfolding first_in
first-in x [] = tt
first-in x (y ∷ s) = ⊎_elim (λ e. rw e (eqb-true y x e)) (λ e. rw e (in-next x y s (first_in x s) (first-in x s))) (either (eqb y x))

-- Pending

pendings-set : (s : List ℕ) (i v : ℕ) → is_pending v ≡ is_pending (get_or s i 0) → pendings (set s i v) ≡ pendings s
unfolding pendings
pendings-set [] i v e = refl
pendings-set (y ∷ s) zero v e = ap (λ (x : ℕ). x + pendings s) e
pendings-set (y ∷ s) (suc i) v e = ap (λ (x : ℕ). is_pending y + x) (pendings-set s i v e)

pendings-visited : (s : List ℕ) (w : Whom) → In active s w → pendings (to_visited w s) ≡ pendings s
pendings-visited s nobody h = refl
pendings-visited s (thread t) h = pendings-set s t visited (ap is_pending (sym h))

pub pendings-left : (s : List ℕ) → pendings (left s) ≡ pendings s
pendings-left s = pendings-visited s (active_in s) (first-in active s)

abbrev pub SomeIn : List ℕ → Whom → Type 0
SomeIn s nobody = pendings s ≡ 0
SomeIn s (thread t) = (0 < pendings s) × (t < length s)

some_next : (y : ℕ) (s : List ℕ) (w : Whom) → eqb y pending ≡ false → SomeIn s w → SomeIn (y ∷ s) (one_up w)
unfolding pendings
some_next y s nobody e h = rw (e, h)
some_next y s (thread t) e h = rw e (omega (arith, h.0), omega (arith, h.1))

pub some_in : (s : List ℕ) → SomeIn s (first_in pending s)
unfolding first_in pendings
some_in [] = refl
some_in (y ∷ s) = ⊎_elim (λ e. let one : is_pending y ≡ 1 = rw e in rw e (omega arith, omega arith)) (λ e. rw e (some_next y s (first_in pending s) e (some_in s))) (either (eqb y pending))

is_some : (s : List ℕ) (w : Whom) (t : ℕ) → SomeIn s w → Some t ≡ found_as w → 0 < pendings s
is_some s w t p e = let q = rw (some_of w t e) at p in q.0

is_none : (s : List ℕ) (w : Whom) → SomeIn s w → None ≡ found_as w → pendings s ≡ 0
is_none s w p e = rw (none_of w e) at p

-- The record at a position: mid is the path once its Active is left

module _ (bytes : List ℕ) (at : ℕ) (fits : 16 * at + 16 ≤ length bytes) where
  pub visited-by : (exit : List ℕ) (t : ℕ) → First (states_at bytes at) active (Some t) → exit ≡ with_record_byte bytes at (2 + t) visited → exit ≡ with_states_at bytes at (left (states_at bytes at))
  visited-by exit t f e =
      e ∙ state-put bytes at fits t visited f.few ∙ ap (with_states_at bytes at) (visited-at (active_in (states_at bytes at)) (states_at bytes at) t f.is)

  pub visited-nobody : First (states_at bytes at) active None → bytes ≡ with_states_at bytes at (left (states_at bytes at))
  visited-nobody f =
      sym (states-same bytes at fits)
      ∙ ap (with_states_at bytes at) (nobody-visited (active_in (states_at bytes at)) (states_at bytes at) f.is)

  five-left : length (left (states_at bytes at)) ≡ 5
  five-left = length-visited (active_in (states_at bytes at)) (states_at bytes at) ∙ length-states_at bytes at fits

  module _ (mid : List ℕ) (m : mid ≡ with_states_at bytes at (left (states_at bytes at))) where
    mid-states : states_at mid at ≡ left (states_at bytes at)
    mid-states = ap (λ (x : List ℕ). states_at x at) m ∙ states-now bytes at fits (left (states_at bytes at)) five-left

    found : (r : Option ℕ) → First (states_at mid at) pending r → r ≡ found_as (first_in pending (left (states_at bytes at)))
    found r f = f.is ∙ ap (λ (x : List ℕ). found_as (first_in pending x)) mid-states

    mid-fits : 16 * at + 16 ≤ length mid
    mid-fits = omega (arith, ap length m, length-with_states_at bytes at fits (left (states_at bytes at)) five-left)

    again : (s : List ℕ) → with_states_at mid at s ≡ with_states_at bytes at s
    again s = ap (λ (x : List ℕ). with_states_at x at s) m ∙ states-again bytes at fits (left (states_at bytes at)) five-left s

    pub turned_by : (exit : List ℕ) (t : ℕ) → First (states_at mid at) pending (Some t) → exit ≡ with_record_byte mid at (2 + t) active → Visits bytes exit at true
    unfolding turned
    turned_by exit t f e =
        let s : List ℕ = left (states_at bytes at) in
        let w : Whom = first_in pending s in
        let p : 0 < pendings (states_at bytes at) = omega (arith, is_some s w t (some_in s) (found (Some t) f), pendings-left (states_at bytes at)) in
        record {
          said = sym (lt-ltb 0 (pendings (states_at bytes at)) p);
          now = e
              ∙ state-put mid at mid-fits t active f.few
              ∙ again (set (states_at mid at) t active)
              ∙ ap (λ (x : List ℕ). with_states_at bytes at (set x t active)) mid-states
              ∙ ap (with_states_at bytes at) (active-at w s t (found (Some t) f));
        }

    pub turned-nobody : First (states_at mid at) pending None → Visits bytes mid at false
    unfolding turned
    turned-nobody f =
        let s : List ℕ = left (states_at bytes at) in
        let w : Whom = first_in pending s in
        let p : pendings (states_at bytes at) ≤ 0 = omega (arith, is_none s w (some_in s) (found None f), pendings-left (states_at bytes at)) in
        record {
          said = sym (le-ltb 0 (pendings (states_at bytes at)) p);
          now = m ∙ ap (with_states_at bytes at) (nobody-active w s (found None f));
        }

-- A load's record, with its position and length as they were read

module _ (bytes : List ℕ) (at pos len : ℕ) (ep : pos ≡ record_byte bytes at 9) (el : len ≡ record_byte bytes at 10) where
  pub moved_by : (exit : List ℕ) (v : ℕ) → pos + 1 < len → v ≡ pos + 1 → exit ≡ with_record_byte bytes at 9 v → Moves bytes exit at true
  moved_by exit v h e f = record {
    said = sym (lt-ltb (record_byte bytes at 9 + 1) (record_byte bytes at 10) (omega arith));
    now = f ∙ ap (with_record_byte bytes at 9) (e ∙ ap (λ (x : ℕ). x + 1) ep);
  }

  pub moved-not : len ≤ pos + 1 → Moves bytes bytes at false
  moved-not h = record { said = sym (le-ltb (record_byte bytes at 9 + 1) (record_byte bytes at 10) (omega arith)); now = refl }
