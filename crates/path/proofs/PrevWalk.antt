-- The second backtrack's walk along `prev`, as the source makes it, finds what the definition finds among the schedules before,
-- newest first. Assumes nothing.
--     before           the schedule that a schedule's prev names
--     switch_from       the walk
--     walk_is          the law
use Prim.Native.Nat.{ℕ, zero, suc, ◌≤◌, ◌<◌}
use mathlib.Core.List.{List}
use mathlib.Core.Bool.{Bool, true, false, cond, not, ◌&&◌}
use mathlib.Core.Path.{◌≡◌, refl, ap, sym, ◌∙◌}
use native.Mathlib.Omega.{arith}
use borrow.Author.Tests.{ltb-true, lt-ltb}
use lib.Dec.{ltb, eqb}
use lib.ListN.{length, get_or}
use Rattle.rules.specs.Path.{Branch, Schedule, ScheduleAt, schedule, load, spurious, none, at, no_branch, the_schedule, schedule_at, if_exploring, active_of, prev_of, schedules_below, switch_in}
use Rattle.path.specs.Holds.{Prevs, last_in}
use Rattle.path.proofs.PrevLaws.{stands-inside, schedule-there, Newest, newest-is, none_is, none_below, switch-first, switch-here, switch-quiet, switch-same}

-- one that does not stand below it, which no path has, counts as none
unfoldable pub before : List Branch → ScheduleAt → ScheduleAt
before bs none = none
before bs (at k s) = cond (ltb s.prev k) (schedule_at bs s.prev) none

-- from a schedule down to the last exploring one whose Active is not that of the schedule before it; the very first counts, if it
-- is exploring. The walk takes at most n steps
unfoldable pub switch_from : List Branch → ℕ → ScheduleAt → ScheduleAt
switch_from bs n none = none
switch_from bs zero (at k s) = none
switch_from bs (suc n) (at k s) =
    elim (before bs (at k s)) [
      | none ↦ if_exploring (at k s) none
      | at p q ↦ elim (s.exploring && not (eqb (active_of s) (active_of q))) [ true ↦ at k s | false ↦ switch_from bs n (at p q) ]
    ]

module _ (bs : List Branch) (h : Prevs bs) where
  -- the schedule before is the newest of those below
  nothing-at : (k p : ℕ) → last_in (schedules_below bs k) ≡ none → p < k → (b : Branch) → get_or bs p no_branch ≡ b → the_schedule p b ≡ none
  nothing-at k p e l (schedule q) f = absurd (none_below bs k p q e l f)
  nothing-at k p e l (load m) f = refl
  nothing-at k p e l (spurious u) f = refl

  none-by : (k p : ℕ) → last_in (schedules_below bs k) ≡ none → (t : Bool) → ltb p k ≡ t → cond t (schedule_at bs p) none ≡ none
  unfolding schedule_at
  none-by k p e true f = nothing-at k p e (ltb-true p k f) (get_or bs p no_branch) refl
  none-by k p e false f = refl

  module _ (k : ℕ) (s : Schedule) (there : get_or bs k no_branch ≡ schedule s) where
    before-by : (l : ScheduleAt) → last_in (schedules_below bs k) ≡ l → before bs (at k s) ≡ l
    unfolding before
    before-by none e = none-by k s.prev e (ltb s.prev k) refl
    before-by (at p q) e =
        let n : Newest bs k p q = newest-is bs k p q e in
        let i : s.prev ≡ p = h k s there ∙ ap prev_of e in
        rw (i, lt-ltb p k n.below, schedule-there bs p q n.stands)

    before-is : before bs (at k s) ≡ last_in (schedules_below bs k)
    before-is = before-by (last_in (schedules_below bs k)) refl

    -- a step of the walk, by the schedule before
    abbrev turn : ℕ → ScheduleAt → ScheduleAt
    turn n l = elim l [
      | none ↦ if_exploring (at k s) none
      | at p q ↦ elim (s.exploring && not (eqb (active_of s) (active_of q))) [ true ↦ at k s | false ↦ switch_from bs n (at p q) ]
    ]

    turn_is : (n : ℕ) (l : ScheduleAt) → last_in (schedules_below bs k) ≡ l → switch_from bs (suc n) (at k s) ≡ turn n l
    unfolding switch_from
    turn_is n l e = ap (turn n) (before-is ∙ e)

    module _ (n p : ℕ) (q : Schedule) (e : last_in (schedules_below bs k) ≡ at p q) (ih : switch_from bs n (at p q) ≡ switch_in (schedules_below bs k)) where
      onwards : switch_from bs n (at p q) ≡ switch_in (schedules_below bs (suc p))
      onwards = ih ∙ ap switch_in (newest-is bs k p q e).same

      abbrev pick : Bool → Bool → ScheduleAt
      pick x a = elim (x && not a) [ true ↦ at k s | false ↦ switch_from bs n (at p q) ]

      pick_is : (x a : Bool) → s.exploring ≡ x → eqb (active_of s) (active_of q) ≡ a → pick x a ≡ switch_in (schedules_below bs (suc k))
      pick_is false a f g = onwards ∙ sym (switch-quiet bs k s there p q e f)
      pick_is true false f g = sym (switch-here bs k s there p q e f g)
      pick_is true true f g = onwards ∙ sym (switch-same bs k s there p q e f g)

      on : switch_from bs (suc n) (at k s) ≡ switch_in (schedules_below bs (suc k))
      on = turn_is n (at p q) e ∙ pick_is s.exploring (eqb (active_of s) (active_of q)) refl refl

    step : (n : ℕ) → switch_from bs n (last_in (schedules_below bs k)) ≡ switch_in (schedules_below bs k) → (l : ScheduleAt) → last_in (schedules_below bs k) ≡ l → switch_from bs (suc n) (at k s) ≡ switch_in (schedules_below bs (suc k))
    step n ih none e = turn_is n none e ∙ sym (switch-first bs k s there e)
    step n ih (at p q) e = on n p q e (ap (switch_from bs n) (sym e) ∙ ih)

  nowhere : (n k : ℕ) → last_in (schedules_below bs k) ≡ none → switch_from bs n (last_in (schedules_below bs k)) ≡ switch_in (schedules_below bs k)
  unfolding switch_from switch_in
  nowhere zero k e = ap (switch_from bs zero) e ∙ ap switch_in (sym (none_is bs k e))
  nowhere (suc n) k e = ap (switch_from bs (suc n)) e ∙ ap switch_in (sym (none_is bs k e))

  further : (n : ℕ) → ((p : ℕ) → p ≤ n → switch_from bs n (last_in (schedules_below bs p)) ≡ switch_in (schedules_below bs p)) → (k : ℕ) → k ≤ suc n → (l : ScheduleAt) → last_in (schedules_below bs k) ≡ l → switch_from bs (suc n) (last_in (schedules_below bs k)) ≡ switch_in (schedules_below bs k)
  further n ih k b none e = nowhere (suc n) k e
  further n ih k b (at p q) e =
      let m : Newest bs k p q = newest-is bs k p q e in
      ap (switch_from bs (suc n)) e
      ∙ step p q m.stands n (ih p (omega (arith, m.below))) (last_in (schedules_below bs p)) refl
      ∙ ap switch_in (sym m.same)

  walks : (n k : ℕ) → k ≤ n → switch_from bs n (last_in (schedules_below bs k)) ≡ switch_in (schedules_below bs k)
  unfolding schedules_below
  walks zero zero b = nowhere zero zero refl
  walks zero (suc k) b = absurd (omega arith)
  walks (suc n) k b = further n (walks n) k b (last_in (schedules_below bs k)) refl

  pub walk_is : (k : ℕ) (s : Schedule) → get_or bs k no_branch ≡ schedule s → switch_from bs (length bs) (before bs (at k s)) ≡ switch_in (schedules_below bs k)
  walk_is k s e =
      let l : k < length bs = stands-inside bs k s e in
      ap (switch_from bs (length bs)) (before-is k s e) ∙ walks (length bs) k (omega arith)
