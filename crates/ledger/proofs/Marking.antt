-- Marks on a path: what the definition's `backtrack` does to a record, whatever it is asked for, is a number of marks on an
-- exploring schedule, and no mark alters what a record chooses.
--     Marking, AllMarking        a record, a path after some marks
--     first_marked-marks          the marks that a question makes
use Prim.Native.Nat.{ℕ, zero, suc, ◌+◌}
use mathlib.Core.List.{List, [], ◌∷◌, ◌++◌}
use mathlib.Core.Bool.{Bool, true, false, cond}
use mathlib.Core.Path.{◌≡◌, refl, ap, ◌∙◌}
use lib.ListN.{length, get_or, set}
use Rattle.rules.specs.Path.{Branch, schedule, Schedule, Bound, ScheduleAt, none, at, runs}
use Rattle.rules.specs.Path.{marked, with_states, schedule_marked, takes_marks, Marked, marked_at, no_branch, unbounded, at_most, exploring_below, schedules_below, switch_in, marked_before, backtracked, choice_of}
use Rattle.rules.specs.Event.{Point, nowhere, branch, Question, which_thread, which_slot, which_bit}
use Rattle.rules.specs.Explorer.{Ledger, backtrack_from, all_marked, first_marked, reply}
use Rattle.ledger.proofs.Events.{marked-states, states-active}
use Rattle.ledger.proofs.Marks.{Explores, exploring_below-explores, second-explores}

-- Records

-- a record after some marks, each on an exploring schedule
pub data Marking (b : Branch) : Branch → Type 0 where
  same : Marking b b
  mark : (s : Schedule) (t : ℕ) → s.exploring ≡ true → Marking b (schedule s) → Marking b (schedule (with_states s (marked s.states t)))

pub marking-trans : {b c d : Branch} → Marking b c → Marking c d → Marking b d
marking-trans p same = p
marking-trans p (mark s t e q) = mark s t e (marking-trans p q)

-- a record's choice and reply are as they were
pub marking-choice : {b c : Branch} → Marking b c → choice_of c ≡ choice_of b
unfolding choice_of
marking-choice same = refl
marking-choice (mark s t e p) =
    ap runs (states-active s.states (marked s.states t) (marked-states s.states t)) ∙ marking-choice p

reply-marked : (k : ℕ) (s : Schedule) (t : ℕ) (q : Question) →
    reply k (schedule (with_states s (marked s.states t))) q ≡ reply k (schedule s) q
unfolding reply
reply-marked k s t (which_thread points initial standings) =
    rw (states-active s.states (marked s.states t) (marked-states s.states t))
reply-marked k s t (which_slot m) = refl
reply-marked k s t which_bit = refl

pub marking-reply : {b c : Branch} (k : ℕ) (q : Question) → Marking b c → reply k c q ≡ reply k b q
marking-reply k q same = refl
marking-reply k q (mark s t e p) = reply-marked k s t q ∙ marking-reply k q p

-- Paths

abbrev pub AllMarking : List Branch → List Branch → Type 0
AllMarking [] [] = Unit {0}
AllMarking [] (c ∷ cs) = ⊥
AllMarking (b ∷ bs) [] = ⊥
AllMarking (b ∷ bs) (c ∷ cs) = Marking b c × AllMarking bs cs

pub all-refl : (bs : List Branch) → AllMarking bs bs
all-refl [] = tt
all-refl (b ∷ bs) = (same, all-refl bs)

pub all-trans : (bs cs ds : List Branch) → AllMarking bs cs → AllMarking cs ds → AllMarking bs ds
all-trans [] [] [] p q = tt
all-trans [] [] (d ∷ ds) p q = q
all-trans [] (c ∷ cs) ds p q = absurd p
all-trans (b ∷ bs) [] ds p q = absurd p
all-trans (b ∷ bs) (c ∷ cs) [] p q = absurd q
all-trans (b ∷ bs) (c ∷ cs) (d ∷ ds) p q = (marking-trans p.0 q.0, all-trans bs cs ds p.1 q.1)

pub all-length : (bs cs : List Branch) → AllMarking bs cs → length cs ≡ length bs
all-length [] [] p = refl
all-length [] (c ∷ cs) p = absurd p
all-length (b ∷ bs) [] p = absurd p
all-length (b ∷ bs) (c ∷ cs) p = ap suc (all-length bs cs p.1)

all_set : (bs : List Branch) (k : ℕ) (c : Branch) → Marking (get_or bs k no_branch) c → AllMarking bs (set bs k c)
all_set [] k c p = tt
all_set (b ∷ bs) zero c p = (p, all-refl bs)
all_set (b ∷ bs) (suc k) c p = (same, all_set bs k c p)

-- What `backtrack` does

schedule_marked-marking : (bound : Bound) (s : Schedule) (t : ℕ) → s.exploring ≡ true →
    Marking (schedule s) (schedule (schedule_marked bound s t))
unfolding schedule_marked
schedule_marked-marking bound s t e = go (takes_marks bound s)
  where
    go : (x : Bool) → Marking (schedule s) (schedule (cond x (with_states s (marked s.states t)) s))
    go true = mark s t e same
    go false = same

marked_at-marking : (bound : Bound) (bs : List Branch) (p : ScheduleAt) (t : ℕ) → Explores bs p → AllMarking bs (marked_at bound bs p t).path
marked_at-marking bound bs none t a = all-refl bs
marked_at-marking bound bs (at k s) t a = all_set bs k _ (rw a.0 (schedule_marked-marking bound s t a.1))

marked_before-marking : (bound : Bound) (m : Marked) (first : ScheduleAt) (t : ℕ) → AllMarking m.path (marked_before bound m first t).path
unfolding marked_before
marked_before-marking bound m none t = all-refl m.path
marked_before-marking bound m (at k s) t =
    marked_at-marking bound m.path (switch_in (schedules_below m.path k)) t (second-explores m.path k)

backtracked-marking : (bound : Bound) (bs : List Branch) (point t : ℕ) → AllMarking bs (backtracked bound bs point t).path
unfolding backtracked
backtracked-marking unbounded bs point t = marked_at-marking unbounded bs (exploring_below bs (point + 1)) t (exploring_below-explores bs (point + 1))
backtracked-marking (at_most n) bs point t =
    let first = exploring_below bs (point + 1) in
    let m = marked_at (at_most n) bs first t in
    all-trans bs m.path (marked_before (at_most n) m first t).path
    (marked_at-marking (at_most n) bs first t (exploring_below-explores bs (point + 1)))
    (marked_before-marking (at_most n) m first t)

backtrack_from-marking : (bound : Bound) (l : Ledger) (p : Point) (t : ℕ) → AllMarking l.path (backtrack_from bound l p t).path
backtrack_from-marking bound l nowhere t = all-refl l.path
backtrack_from-marking bound l (branch point) t = backtracked-marking bound l.path point t

all_marked-marking : (bound : Bound) (l : Ledger) (points : List Point) (t : ℕ) → AllMarking l.path (all_marked bound l points t).path
unfolding all_marked
all_marked-marking bound l [] t = all-refl l.path
all_marked-marking bound l (p ∷ points) t =
    all-trans l.path _ _ (backtrack_from-marking bound l p t) (all_marked-marking bound (backtrack_from bound l p t) points (t + 1))

-- the marks that a question makes before it is answered
pub first_marked-marks : (bound : Bound) (l : Ledger) (q : Question) → AllMarking l.path (first_marked bound l q).path
first_marked-marks bound l (which_thread points initial standings) = all_marked-marking bound l points 0
first_marked-marks bound l (which_slot m) = all-refl l.path
first_marked-marks bound l which_bit = all-refl l.path

-- what is before and after a place keeps its place
pub all_split : (pre rest cs : List Branch) → AllMarking (pre ++ rest) cs →
    (pre' : List Branch) × (rest' : List Branch) × (cs ≡ pre' ++ rest') × AllMarking pre pre' × AllMarking rest rest'
all_split [] rest cs p = ([], cs, refl, tt, p)
all_split (b ∷ pre) rest [] p = absurd p
all_split (b ∷ pre) rest (c ∷ cs) p =
    let r = all_split pre rest cs p.1 in (c ∷ r.0, r.1, ap (λ (l : List Branch). c ∷ l) r.2, (p.0, r.3), r.4)
