-- What the kind of a record says of the path that the bytes hold. Assumes nothing.
--     There, there, not_there      whether it is a schedule
--     prev-says                    the schedule before one, by the prev of its record
--     kind-..                      a record that was looked for: where there is one of that kind, and where not
use Prim.Native.Nat.{ℕ, suc, ◌+◌, ◌*◌, ◌≤◌, ◌<◌}
use mathlib.Core.List.{List}
use mathlib.Core.Bool.{Bool, true, false, ◌&&◌, and-eq-true_iff}
use mathlib.Core.Path.{◌≡◌, refl, ap, sym, ◌∙◌}
use mathlib.Core.Logic.{◌≢◌}
use native.Mathlib.Omega.{arith}
use borrow.Author.Tests.{ltb-true, ltb-false, eqb-true, eqb-false, lt-ltb, le-ltb}
use lib.Dec.{ltb, eqb}
use lib.ListN.{length, get_or, get_or-eq_default}
use Rattle.rules.specs.Path as rules
use Rattle.rules.specs.Path.{Branch, Schedule, schedule, load, spurious, none, at, encoded, no_branch, schedule_at, the_schedule, schedules_below, prev_of}
use Rattle.record.specs.Fields.{record_byte}
use Rattle.record.specs.Schedules.{PrevOf, position_at, prev_in}
use Rattle.std.specs.Prelude.{Option}
use Rattle.record.proofs.StandsLaws.{stands-field}
use Rattle.record.proofs.ScheduleLaws.{stands-prev}
use Rattle.path.specs.Holds.{Holds, last_in}
use Rattle.path.specs.Places.{HasKind, records_of}
use Rattle.path.specs.Walks.{HoldsAt, schedule_at_as}
use Rattle.path.proofs.HoldsLaws.{holds-room, holds-stands, blank-field, at-stands}
use Rattle.path.proofs.PrevLaws.{Newest, newest-is, none_below, stands-inside}

pub record There (bs : List Branch) (k : ℕ) : Type 0 where
  pub of : Schedule
  pub is : get_or bs k no_branch ≡ schedule of

record Is (b : Branch) : Type 0 where
  of : Schedule
  is : b ≡ schedule of

kind-one : (b : Branch) → get_or (encoded b) 0 0 ≡ 1 → Is b
unfolding encoded
kind-one (schedule s) e = record { of = s; is = refl }
kind-one (load l) e = absurd (omega arith)
kind-one (spurious u) e = absurd (omega arith)

kind-other : (b : Branch) (k : ℕ) → get_or (encoded b) 0 0 ≢ 1 → the_schedule k b ≡ none
unfolding encoded
kind-other (schedule s) k n = absurd (n refl)
kind-other (load l) k n = refl
kind-other (spurious u) k n = refl

module _ {bytes : List ℕ} {bs : List Branch} (h : Holds bytes bs) (k : ℕ) where
  first_byte : k < length bs → record_byte bytes k 0 ≡ get_or (encoded (get_or bs k no_branch)) 0 0
  first_byte l = stands-field (holds-stands h k (get_or bs k no_branch) l refl) 0 (omega arith)

  some-inside : (t : Bool) → ltb k (length bs) ≡ t → (x : ℕ) → record_byte bytes k 0 ≡ suc x → k < length bs
  some-inside true e x f = ltb-true k (length bs) e
  some-inside false e x f = absurd (omega (arith, blank-field h k 0 (ltb-false k (length bs) e)))

  pub there : eqb (record_byte bytes k 0) 1 ≡ true → There bs k
  there e =
      let f : record_byte bytes k 0 ≡ 1 = eqb-true (record_byte bytes k 0) 1 e in
      let one : Is (get_or bs k no_branch) = kind-one (get_or bs k no_branch) (sym (first_byte (some-inside (ltb k (length bs)) refl 0 f)) ∙ f) in
      record { of = one.of; is = one.is }

  other-by : (t : Bool) → ltb k (length bs) ≡ t → record_byte bytes k 0 ≢ 1 → schedule_at bs k ≡ none
  unfolding schedule_at
  other-by true e n = kind-other (get_or bs k no_branch) k (λ q. n (first_byte (ltb-true k (length bs) e) ∙ q))
  other-by false e n = ap (the_schedule k) (get_or-eq_default bs no_branch {n = k} (ltb-false k (length bs) e))

  pub not_there : eqb (record_byte bytes k 0) 1 ≡ false → schedule_at bs k ≡ none
  not_there e = other-by (ltb k (length bs)) refl (eqb-false (record_byte bytes k 0) 1 e)

  is-there : (s : Schedule) → get_or bs k no_branch ≡ schedule s → eqb (record_byte bytes k 0) 1 ≡ true
  unfolding encoded
  is-there s e =
      let f : record_byte bytes k 0 ≡ 1 = first_byte (stands-inside bs k s e) ∙ ap (λ (b : Branch). get_or (encoded b) 0 0) e in
      ap (λ (x : ℕ). eqb x 1) f

-- The schedule before one

module _ {bytes : List ℕ} {bs : List Branch} {k : ℕ} {s : Schedule} (h : HoldsAt bytes bs k s) where
  position-now : position_at bytes k ≡ prev_of (last_in (schedules_below bs k))
  position-now = stands-prev (at-stands h) ∙ h.path.prevs k s h.there

  nothing-at : last_in (schedules_below bs k) ≡ none → (p : ℕ) (t u : Bool) → ltb p k ≡ t → eqb (record_byte bytes p 0) 1 ≡ u → t && u ≡ false
  nothing-at e p true true f g = let t : There bs p = there h.path p g in absurd (none_below bs k p t.of e (ltb-true p k f) t.is)
  nothing-at e p true false f g = refl
  nothing-at e p false u f g = refl

  prev-by : (l : rules.ScheduleAt) → last_in (schedules_below bs k) ≡ l → prev_in bytes k ≡ schedule_at_as l
  unfolding prev_in
  prev-by none e =
      let p : ℕ = position_at bytes k in
      rw (nothing-at e p (ltb p k) (eqb (record_byte bytes p 0) 1) refl refl)
  prev-by (at p q) e =
      let i : position_at bytes k ≡ p = position-now ∙ ap prev_of e in
      let n : Newest bs k p q = newest-is bs k p q e in
      rw (i, lt-ltb p k n.below, is-there h.path p q n.stands)

  pub prev-says : (f : Option ℕ) → PrevOf bytes k f → f ≡ schedule_at_as (last_in (schedules_below bs k))
  prev-says f g = g.is ∙ prev-by (last_in (schedules_below bs k)) refl

-- A record that was looked for

two-true : (a b : Bool) → a && b ≡ true → (a ≡ true) × (b ≡ true)
two-true a b = (and-eq-true_iff a b).0

pub kind-no : (bytes : List ℕ) (k x : ℕ) → records_of bytes ≤ k → HasKind bytes k x false
kind-no bytes k x l = record { fits = λ e. never e; is = rw (le-ltb k (records_of bytes) l) }
  where
    never : false ≡ true → 16 * k + 16 ≤ length bytes
    never e = let z : ◌≡◌ {A = ℕ} 0 1 = cc in absurd (omega arith)

pub kind-by : (bytes : List ℕ) (k x : ℕ) → k < records_of bytes → (r : Bool) → r ≡ eqb (record_byte bytes k 0) x → HasKind bytes k x r
kind-by bytes k x l r e = record { fits = λ f. omega arith; is = rw (lt-ltb k (records_of bytes) l) e }

module _ {bytes : List ℕ} {k x : ℕ} {r : Bool} (g : HasKind bytes k x r) where
  pub kind-yes : r ≡ true → eqb (record_byte bytes k 0) x ≡ true
  kind-yes e = (two-true (ltb k (records_of bytes)) (eqb (record_byte bytes k 0) x) (sym g.is ∙ e)).1

  pub kind-past : r ≡ true → length bytes < 16 * k + 16 → ⊥
  kind-past e l = omega (arith, g.fits e)

  pub kind-unlike : r ≡ true → eqb (record_byte bytes k 0) x ≡ false → ⊥
  kind-unlike e f = let y : eqb (record_byte bytes k 0) x ≡ true = kind-yes e in let z : ◌≡◌ {A = ℕ} 0 1 = cc in omega arith

  pub kind-not : {bs : List Branch} → Holds bytes bs → r ≡ false → k < length bs → eqb (record_byte bytes k 0) x ≡ false
  kind-not {bs} h e l =
      let t : ltb k (records_of bytes) ≡ true = lt-ltb k (records_of bytes) (omega (arith, holds-room h)) in
      ap (λ (b : Bool). b && eqb (record_byte bytes k 0) x) (sym t) ∙ sym g.is ∙ e

  pub kind-inside : {bs : List Branch} → Holds bytes bs → (y : ℕ) → x ≡ suc y → r ≡ true → k < length bs
  kind-inside {bs} h y i e = some-inside h k (ltb k (length bs)) refl y (eqb-true (record_byte bytes k 0) x (kind-yes e) ∙ i)
