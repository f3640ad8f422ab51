-- Laws of marks: a backtrack marks exploring schedules of the path only, and counts what it opens. Assumes nothing.
--     Stands            that a place found in a path is there
--     Explores          and that it is exploring
--     exploring_below-explores, second-explores     what a backtrack finds is
--     backtracked-open  after the marks as much more is open as was counted
--     backtracked-kept  a record that is not exploring takes none
use Prim.Native.Nat.{ℕ, zero, suc, ◌+◌, ◌<◌}
use mathlib.Core.List.{List, [], ◌∷◌}
use mathlib.Core.Bool.{Bool, true, false, cond, not, ◌&&◌, true≢false, and-eq-true_iff}
use mathlib.Core.Path.{◌≡◌, refl, ap, sym, ◌∙◌}
use mathlib.Core.Logic.{⊎_elim}
use native.Mathlib.Omega.{arith}
use lib.Dec.{ltb, eqb}
use lib.ListN.{length, get_or, get_or-eq_default}
use lib.Seq.{get_or-set_other}
use borrow.Author.Tests.{ltb-true, ltb-false}
use Rattle.rules.specs.Path.{Branch, schedule, load, spurious, Schedule, Bound, unbounded, at_most, ScheduleAt, none, at}
use Rattle.rules.specs.Path.{Placed, is_exploring, takes_marks, schedule_marked, made_pending, Marked, marked_at, the_schedule, no_branch}
use Rattle.rules.specs.Path.{schedule_at, if_exploring, exploring_below, and_schedule, schedules_below, active_of, switch_in, marked_before, backtracked, open_at, open_in}
use Rattle.ledger.specs.History.{Every}
use Rattle.ledger.proofs.Counts.{flag, open_in-set}
use Rattle.ledger.proofs.Events.{pendings-marked, none_made}

-- What a backtrack finds

-- that a place found in a path is there
abbrev pub Stands : List Branch → ScheduleAt → Type 0
Stands bs none = Unit {0}
Stands bs (at k s) = get_or bs k no_branch ≡ schedule s

-- and that the schedule there is exploring
abbrev pub Explores : List Branch → ScheduleAt → Type 0
Explores bs none = Unit {0}
Explores bs (at k s) = (get_or bs k no_branch ≡ schedule s) × (s.exploring ≡ true)

the_schedule-stands : (bs : List Branch) (k : ℕ) (b : Branch) → get_or bs k no_branch ≡ b → Stands bs (the_schedule k b)
the_schedule-stands bs k (schedule s) e = e
the_schedule-stands bs k (load l) e = tt
the_schedule-stands bs k (spurious u) e = tt

pub schedule_at-stands : (bs : List Branch) (k : ℕ) → Stands bs (schedule_at bs k)
unfolding schedule_at
schedule_at-stands bs k = the_schedule-stands bs k (get_or bs k no_branch) refl

cond-explores : (bs : List Branch) (k : ℕ) (s : Schedule) (other : ScheduleAt) → Stands bs (at k s) → Explores bs other →
    (b : Bool) → s.exploring ≡ b → Explores bs (cond b (at k s) other)
cond-explores bs k s other p q true e = (p, e)
cond-explores bs k s other p q false e = q

if_exploring-explores : (bs : List Branch) (l other : ScheduleAt) → Stands bs l → Explores bs other → Explores bs (if_exploring l other)
if_exploring-explores bs none other p q = q
if_exploring-explores bs (at k s) other p q = cond-explores bs k s other p q s.exploring refl

pub exploring_below-explores : (bs : List Branch) (n : ℕ) → Explores bs (exploring_below bs n)
unfolding exploring_below
exploring_below-explores bs zero = tt
exploring_below-explores bs (suc k) = if_exploring-explores bs (schedule_at bs k) (exploring_below bs k) (schedule_at-stands bs k) (exploring_below-explores bs k)

-- the schedules that the second mark is looked for among

abbrev pub StandsAt : List Branch → Placed → Type 0
StandsAt bs p = get_or bs p.place no_branch ≡ schedule p.schedule

and-stands : (bs : List Branch) (k : ℕ) (b : Branch) (ps : List Placed) → get_or bs k no_branch ≡ b → Every (StandsAt bs) ps →
    Every (StandsAt bs) (and_schedule k b ps)
and-stands bs k (schedule s) ps e h = (e, h)
and-stands bs k (load l) ps e h = h
and-stands bs k (spurious u) ps e h = h

below-stand : (bs : List Branch) (n : ℕ) → Every (StandsAt bs) (schedules_below bs n)
unfolding schedules_below
below-stand bs zero = tt
below-stand bs (suc k) = and-stands bs k (get_or bs k no_branch) (schedules_below bs k) refl (below-stand bs k)

and_left : (a b : Bool) → a && b ≡ true → a ≡ true
and_left a b e = ((and-eq-true_iff a b).0 e).0

switch_in-explores : (bs : List Branch) (ps : List Placed) → Every (StandsAt bs) ps → Explores bs (switch_in ps)
unfolding switch_in
switch_in-explores bs [] h = tt
switch_in-explores bs (a ∷ []) h = if_exploring-explores bs (at a.place a.schedule) none h.0 tt
switch_in-explores bs (a ∷ b ∷ more) h =
    let c = a.schedule.exploring && not (eqb (active_of a.schedule) (active_of b.schedule)) in
    go c refl (switch_in-explores bs (b ∷ more) h.1)
  where
    go : (c : Bool) → a.schedule.exploring && not (eqb (active_of a.schedule) (active_of b.schedule)) ≡ c →
        Explores bs (switch_in (b ∷ more)) → Explores bs (cond c (at a.place a.schedule) (switch_in (b ∷ more)))
    go true e k = (h.0, and_left a.schedule.exploring _ e)
    go false e k = k

pub second-explores : (bs : List Branch) (k : ℕ) → Explores bs (switch_in (schedules_below bs k))
second-explores bs k = switch_in-explores bs (schedules_below bs k) (below-stand bs k)

-- Marks

-- an exploring schedule's marks are what is counted
pub schedule_marked-open : (bound : Bound) (s : Schedule) (t : ℕ) → s.exploring ≡ true →
    open_at (schedule (schedule_marked bound s t)) ≡ open_at (schedule s) + made_pending s.states (schedule_marked bound s t).states
unfolding open_at schedule_marked
schedule_marked-open bound s t e =
    ⊎_elim
    (λ (m : takes_marks bound s ≡ true). rw (m, e) (pendings-marked s.states t))
    (λ (m : takes_marks bound s ≡ false). rw m (omega (arith, none_made s.states)))
    (flag (takes_marks bound s))

-- a schedule that stands in a path stands below its length
stands-below : (bs : List Branch) (k : ℕ) (s : Schedule) → get_or bs k no_branch ≡ schedule s → k < length bs
stands-below bs k s e =
    ⊎_elim
    (λ (h : ltb k (length bs) ≡ true). ltb-true k (length bs) h)
    (λ (h : ltb k (length bs) ≡ false).
    let none-there = get_or-eq_default bs no_branch (ltb-false k (length bs) h) in
    let z : ◌≡◌ {A = ℕ} 0 1 = cc in
    absurd (omega arith))
    (flag (ltb k (length bs)))

pub marked_at-open : (bound : Bound) (bs : List Branch) (l : ScheduleAt) (t : ℕ) → Explores bs l →
    open_in (marked_at bound bs l t).path ≡ open_in bs + (marked_at bound bs l t).opened
marked_at-open bound bs none t p = omega arith
marked_at-open bound bs (at k s) t p =
    let b = schedule (schedule_marked bound s t) in
    let here : open_at (get_or bs k no_branch) ≡ open_at (schedule s) = ap open_at p.0 in
    omega (arith, open_in-set bs k b (stands-below bs k s p.0), here, schedule_marked-open bound s t p.1)

marked_before-open : (bound : Bound) (bs : List Branch) (m : Marked) (first : ScheduleAt) (t : ℕ) → open_in m.path ≡ open_in bs + m.opened →
    open_in (marked_before bound m first t).path ≡ open_in bs + (marked_before bound m first t).opened
unfolding marked_before
marked_before-open bound bs m none t e = e
marked_before-open bound bs m (at k s) t e =
    omega (arith, marked_at-open bound m.path (switch_in (schedules_below m.path k)) t (second-explores m.path k))

-- "Opened: each Skip turned Pending on an exploring record": after the marks as much more is open as was counted
pub backtracked-open : (bound : Bound) (bs : List Branch) (point t : ℕ) →
    open_in (backtracked bound bs point t).path ≡ open_in bs + (backtracked bound bs point t).opened
unfolding backtracked
backtracked-open unbounded bs point t = marked_at-open unbounded bs (exploring_below bs (point + 1)) t (exploring_below-explores bs (point + 1))
backtracked-open (at_most n) bs point t =
    let first = exploring_below bs (point + 1) in
    let m = marked_at (at_most n) bs first t in
    marked_before-open (at_most n) bs m first t (marked_at-open (at_most n) bs first t (exploring_below-explores bs (point + 1)))

-- Records that are not exploring take no marks

marked_at-kept : (bound : Bound) (bs : List Branch) (l : ScheduleAt) (t : ℕ) → Explores bs l → (j : ℕ) → is_exploring (get_or bs j no_branch) ≡ false →
    get_or (marked_at bound bs l t).path j no_branch ≡ get_or bs j no_branch
marked_at-kept bound bs none t p j e = refl
marked_at-kept bound bs (at k s) t p j e =
    let b = schedule (schedule_marked bound s t) in
    get_or-set_other bs k j b no_branch
    (λ (q : j ≡ k).
    let f : is_exploring (get_or bs k no_branch) ≡ false = rw q at e in
    let g : is_exploring (get_or bs k no_branch) ≡ true = ap is_exploring p.0 ∙ p.1 in
    true≢false (sym g ∙ f))

marked_before-kept : (bound : Bound) (m : Marked) (first : ScheduleAt) (t j : ℕ) → is_exploring (get_or m.path j no_branch) ≡ false →
    get_or (marked_before bound m first t).path j no_branch ≡ get_or m.path j no_branch
unfolding marked_before
marked_before-kept bound m none t j e = refl
marked_before-kept bound m (at k s) t j e =
    marked_at-kept bound m.path (switch_in (schedules_below m.path k)) t (second-explores m.path k) j e

pub backtracked-kept : (bound : Bound) (bs : List Branch) (point t j : ℕ) → is_exploring (get_or bs j no_branch) ≡ false →
    get_or (backtracked bound bs point t).path j no_branch ≡ get_or bs j no_branch
unfolding backtracked
backtracked-kept unbounded bs point t j e = marked_at-kept unbounded bs (exploring_below bs (point + 1)) t (exploring_below-explores bs (point + 1)) j e
backtracked-kept (at_most n) bs point t j e =
    let first = exploring_below bs (point + 1) in
    let m = marked_at (at_most n) bs first t in
    let same = marked_at-kept (at_most n) bs first t (exploring_below-explores bs (point + 1)) j e in
    let f : is_exploring (get_or m.path j no_branch) ≡ false = ap is_exploring same ∙ e in
    marked_before-kept (at_most n) m first t j f ∙ same
