-- No schedule's preemptions pass the bound: one that has as many as the bound takes no marks, so it chooses no other thread. Assumes
-- nothing.
--     Bounded, Within                               a schedule's, a record's: with its choice, and with one that is open
--     within-there                                  at a place of a path
--     within-marks, within-stepped, within_new      what marks, a step and an addition leave of it
use Prim.Native.Nat.{ℕ, zero, suc, ◌+◌, ◌≤◌, ◌<◌}
use mathlib.Core.List.{List, [], ◌∷◌}
use mathlib.Core.Bool.{Bool, true, false, cond, not, ◌||◌}
use mathlib.Core.Path.{◌≡◌, refl}
use native.Mathlib.Omega.{arith}
use lib.Dec.{ltb, leb, eqb}
use lib.ListN.{length, get_or, set}
use borrow.Author.Tests.{ltb-true, eqb-false, eq-eqb}
use Rattle.rules.specs.Path.{Branch, schedule, load, spurious, Schedule, Bound, unbounded, at_most, no_thread, active_in, active_of, or_none, preemptions_with, ScheduleAt, none, at, one_further, or_first, last_schedule, preemptions_after, initial_after, new_schedule, thread_added, load_added, spurious_added, marked, takes_marks, with_states, schedule_marked, Marked, marked_at, no_branch, exploring_below, schedules_below, switch_in, marked_before, backtracked, pendings, open_at, turned, turned_branch, or_turned, stepped}
use Rattle.rules.specs.Event as Event
use Rattle.rules.specs.Event.{Point, nowhere, branch, Question, which_thread, which_slot, which_bit, offers}
use Rattle.rules.specs.Explorer.{Ledger, backtrack_from, all_marked, first_marked, pushed, pushes}
use Rattle.ledger.specs.History.{Every}
use Rattle.ledger.proofs.Counts.{pendings-seed_of}
use Rattle.ledger.proofs.Events.{marked-states, states-active}
use Rattle.ledger.proofs.Marks.{Explores, exploring_below-explores, second-explores}
use Rattle.ledger.proofs.Records.{open-pending}
use Rattle.ledger.proofs.Outcomes.{only-branch, just-branch}

-- A schedule

-- with the thread that it chooses it is within the bound; one that is Pending may come to be chosen, and adds one at most
pub record Bounded (n : ℕ) (s : Schedule) : Type 0 where
  pub chosen : preemptions_with s ≤ n
  pub further : 0 < pendings s.states → s.preemptions < n

abbrev pub Within : Bound → Branch → Type 0
Within bound (schedule s) = (n : ℕ) → bound ≡ at_most n → Bounded n s
Within bound (load l) = Unit {0}
Within bound (spurious u) = Unit {0}

-- a choice adds one at most
one-more : (s : Schedule) → (s.preemptions ≤ preemptions_with s) × (preemptions_with s ≤ s.preemptions + 1)
unfolding preemptions_with
one-more s = go (eqb s.initial no_thread || eqb s.initial (active_of s))
  where
    go : (y : Bool) →
        (s.preemptions ≤ cond y s.preemptions (s.preemptions + 1))
        × (cond y s.preemptions (s.preemptions + 1) ≤ s.preemptions + 1)
    go true = (omega arith, omega arith)
    go false = (omega arith, omega arith)

few : (n : ℕ) (s : Schedule) → Bounded n s → s.preemptions ≤ n
few n s b = omega (arith, (one-more s).0, b.chosen)

-- Marks

-- they leave the Active, and so what it adds
marked-with : (s : Schedule) (t : ℕ) → preemptions_with (with_states s (marked s.states t)) ≡ preemptions_with s
unfolding preemptions_with active_of
marked-with s t = rw (states-active s.states (marked s.states t) (marked-states s.states t))

-- they are made only where the preemptions are not as many as the bound
takes-fewer : (n : ℕ) (s : Schedule) → takes_marks (at_most n) s ≡ true → s.preemptions ≡ n → ⊥
unfolding takes_marks
takes-fewer n s e = go (eqb s.preemptions n) refl e
  where
    go : (y : Bool) → eqb s.preemptions n ≡ y → not y ≡ true → s.preemptions ≡ n → ⊥
    go true f g = let z : ◌≡◌ {A = ℕ} 0 1 = cc in absurd (omega arith)
    go false f g = eqb-false s.preemptions n f

within-marked : (bound : Bound) (s : Schedule) (t : ℕ) → Within bound (schedule s) → Within bound (schedule (schedule_marked bound s t))
unfolding schedule_marked
within-marked bound s t w n e = go (takes_marks bound s) refl
  where
    go : (y : Bool) → takes_marks bound s ≡ y → Bounded n (cond y (with_states s (marked s.states t)) s)
    go true f =
        let b = w n e in
        record {
          chosen = rw marked-with b.chosen;
          further = λ h. omega (arith, few n s b, takes-fewer n s (rw e at f));
        }
    go false f = w n e

-- on a path

within-set : (bound : Bound) (bs : List Branch) (k : ℕ) (b : Branch) → Within bound b → Every (Within bound) bs →
    Every (Within bound) (set bs k b)
within-set bound [] k b h w = tt
within-set bound (c ∷ bs) zero b h w = (h, w.1)
within-set bound (c ∷ bs) (suc k) b h w = (w.0, within-set bound bs k b h w.1)

pub within-there : (bound : Bound) (bs : List Branch) (k : ℕ) → Every (Within bound) bs → Within bound (get_or bs k no_branch)
within-there bound [] k w = tt
within-there bound (b ∷ bs) zero w = w.0
within-there bound (b ∷ bs) (suc k) w = within-there bound bs k w.1

within-at : (bound : Bound) (bs : List Branch) (p : ScheduleAt) (t : ℕ) → Explores bs p → Every (Within bound) bs →
    Every (Within bound) (marked_at bound bs p t).path
within-at bound bs none t a w = w
within-at bound bs (at k s) t a w = within-set bound bs k _ (within-marked bound s t (rw a.0 at (within-there bound bs k w))) w

within-before : (bound : Bound) (m : Marked) (first : ScheduleAt) (t : ℕ) → Every (Within bound) m.path →
    Every (Within bound) (marked_before bound m first t).path
unfolding marked_before
within-before bound m none t w = w
within-before bound m (at k s) t w =
    within-at bound m.path (switch_in (schedules_below m.path k)) t (second-explores m.path k) w

within-backtracked : (bound : Bound) (bs : List Branch) (point t : ℕ) → Every (Within bound) bs →
    Every (Within bound) (backtracked bound bs point t).path
unfolding backtracked
within-backtracked unbounded bs point t w =
    within-at unbounded bs (exploring_below bs (point + 1)) t (exploring_below-explores bs (point + 1)) w
within-backtracked (at_most n) bs point t w =
    let first = exploring_below bs (point + 1) in
    within-before (at_most n) (marked_at (at_most n) bs first t) first t
    (within-at (at_most n) bs first t (exploring_below-explores bs (point + 1)) w)

within-from : (bound : Bound) (l : Ledger) (p : Point) (t : ℕ) → Every (Within bound) l.path →
    Every (Within bound) (backtrack_from bound l p t).path
within-from bound l nowhere t w = w
within-from bound l (branch point) t w = within-backtracked bound l.path point t w

within_all : (bound : Bound) (l : Ledger) (points : List Point) (t : ℕ) → Every (Within bound) l.path →
    Every (Within bound) (all_marked bound l points t).path
unfolding all_marked
within_all bound l [] t w = w
within_all bound l (p ∷ points) t w =
    within_all bound (backtrack_from bound l p t) points (t + 1) (within-from bound l p t w)

pub within-marks : (bound : Bound) (l : Ledger) (q : Question) → Every (Within bound) l.path →
    Every (Within bound) (first_marked bound l q).path
within-marks bound l (which_thread points initial standings) w = within_all bound l points 0 w
within-marks bound l (which_slot m) w = w
within-marks bound l which_bit w = w

-- Steps

-- a step is made only where something is Pending
within-turned : (bound : Bound) (b : Branch) → 0 < open_at b → Within bound b → Within bound (turned_branch b)
unfolding turned_branch
within-turned bound (schedule s) h w = λ n e.
    let k = (w n e).further (open-pending s h) in
    record { chosen = omega (arith, (one-more (with_states s (turned s.states))).1); further = λ p. k }
within-turned bound (load l) h w = tt
within-turned bound (spurious u) h w = tt

pub within-stepped : (bound : Bound) (bs : List Branch) → Every (Within bound) bs → Every (Within bound) (stepped bs)
unfolding stepped
within-stepped bound [] w = tt
within-stepped bound (b ∷ bs) w = go (stepped bs) (within-stepped bound bs w.1)
  where
    on : (y : Bool) → ltb 0 (open_at b) ≡ y → Every (Within bound) (cond y (turned_branch b ∷ []) [])
    on true h = (within-turned bound b (ltb-true 0 (open_at b) h) w.0, tt)
    on false h = tt

    go : (cs : List Branch) → Every (Within bound) cs → Every (Within bound) (or_turned cs b)
    go [] v = on (ltb 0 (open_at b)) refl
    go (c ∷ cs) v = (w.0, v)

-- Additions

-- a new schedule has the preemptions of the one before it, with that one's choice
within-last : (bound : Bound) (bs : List Branch) → Every (Within bound) bs → (n : ℕ) → bound ≡ at_most n →
    preemptions_after (last_schedule bs) ≤ n
unfolding last_schedule
within-last bound [] w n e = omega arith
within-last bound (b ∷ bs) w n e = go b (last_schedule bs) w.0 (within-last bound bs w.1 n e)
  where
    go : (b : Branch) (l : ScheduleAt) → Within bound b → preemptions_after l ≤ n → preemptions_after (or_first (one_further l) b) ≤ n
    go b (at k s) v h = h
    go (schedule s) none v h = (v n e).chosen
    go (load l) none v h = h
    go (spurious u) none v h = h

-- and none by its own: the thread that is active at first is the Active, or there is none
new-with : (x : Bool) (l : ScheduleAt) (states : List ℕ) → preemptions_with (new_schedule x l states) ≡ preemptions_after l
unfolding preemptions_with active_of
new-with x l states = go (or_none (active_in states)) l
  where
    or-true : (y z : Bool) (p : ℕ) → z ≡ true → cond (y || z) p (p + 1) ≡ p
    or-true true z p e = refl
    or-true false z p e = rw e

    go : (now : ℕ) (l : ScheduleAt) →
        cond (eqb (initial_after l now) no_thread || eqb (initial_after l now) now) (preemptions_after l) (preemptions_after l + 1)
        ≡ preemptions_after l
    go now none = or-true (eqb now no_thread) (eqb now now) 0 (eq-eqb now now refl)
    go now (at k s) = either (eqb now (active_of s))
      where
        either : (y : Bool) →
            cond (eqb (cond y now no_thread) no_thread || eqb (cond y now no_thread) now) (preemptions_with s) (preemptions_with s + 1)
            ≡ preemptions_with s
        either true = or-true (eqb now no_thread) (eqb now now) (preemptions_with s) (eq-eqb now now refl)
        either false = refl

pub within_new : (bound : Bound) (B : ℕ) (bs : List Branch) (x : Bool) (q : Question) (b : Branch) → pushed B bs x q ≡ pushes b →
    Every (Within bound) bs → Within bound b
unfolding pushed thread_added load_added spurious_added
within_new bound B bs x (which_thread points initial standings) b e w =
    let z = only-branch (leb B (length bs)) (ltb 255 (preemptions_after (last_schedule bs))) _ b e in
    rw (← z) (λ n f.
    record {
      chosen = rw new-with (within-last bound bs w n f);
      further = λ h. absurd (omega (arith, pendings-seed_of initial standings));
    })
within_new bound B bs x (which_slot (offers slots)) b e w = let z = just-branch (leb B (length bs)) _ b e in rw (← z) tt
within_new bound B bs x (which_slot Event.equal) b e w = let z : ◌≡◌ {A = ℕ} 0 1 = cc in absurd (omega arith)
within_new bound B bs x which_bit b e w = let z = just-branch (leb B (length bs)) _ b e in rw (← z) tt
