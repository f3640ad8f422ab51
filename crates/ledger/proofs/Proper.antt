-- What every record has, whatever was asked: a schedule has at most one Active, and a load's values rise.
--     Lacks, One                         no thread, at most one thread in a state
--     Proper                             such a record
--     proper-marking, proper-turned, pushed-proper     marks and visits keep it, and a record that is added has it
--     turned-choice                      a visit turns to the first Pending
use Prim.Native.Nat.{ℕ, zero, suc, ◌<◌}
use mathlib.Core.List.{List, [], ◌∷◌, map}
use mathlib.Core.Bool.{Bool, true, false, cond}
use mathlib.Core.Path.{◌≡◌, refl, ap, sym, ◌∙◌}
use mathlib.Core.Logic.{◌≢◌, inl, inr}
use native.Mathlib.Omega.{arith}
use lib.Dec.{ltb, leb, eqb}
use lib.ListN.{length, get_or, set, length-set, get_or-eq_default}
use lib.Seq.{get_or-set_same, get_or-set_other}
use borrow.Author.Tests.{ltb-true, ltb-false, eqb-true, eqb-false}
use Rattle.rules.specs.Vector.{Whom, nobody, thread}
use Rattle.rules.specs.Path.{Branch, schedule, load, spurious, pending, active, visited, yield, first_in, active_in, to_active, to_visited, left, unless_active, toggled, turned, pendings, open_at, turned_branch, marked, stepped, or_turned, last_schedule, preemptions_after, thread_added, load_added, spurious_added}
use Rattle.rules.specs.Event as Event
use Rattle.rules.specs.Event.{Standing, yielded, cannot_run, other, Question, which_thread, which_slot, which_bit, offers}
use Rattle.rules.specs.Explorer.{seed_of, seed_state, pushed, pushes}
use Rattle.ledger.specs.History.{Every}
use Rattle.ledger.proofs.Events.{StatesMarked, marked-states}
use Rattle.ledger.proofs.Marking.{Marking, same, mark}
use Rattle.ledger.proofs.States.{found, present, some-pending, left_at, turned-shape}
use Rattle.ledger.proofs.Records.{Sound, open-pending, open-values}
use Rattle.ledger.proofs.Outcomes.{only-branch, just-branch}
use Rattle.ledger.proofs.Lists.{Rising, rising-at, slots-rising}

-- States

abbrev pub Lacks : ℕ → List ℕ → Type 0
Lacks x states = (i : ℕ) → get_or states i 0 ≢ x

abbrev pub One : List ℕ → Type 0
One states = (i j : ℕ) → get_or states i 0 ≡ active → get_or states j 0 ≡ active → i ≡ j

lacks-one : (xs : List ℕ) → Lacks active xs → One xs
lacks-one xs n i j p q = absurd (n i p)

only_at : (xs : List ℕ) (t i : ℕ) → Lacks active xs → get_or (set xs t active) i 0 ≡ active → i ≡ t
only_at xs t i n p = go (eqb i t) refl
  where
    go : (b : Bool) → eqb i t ≡ b → i ≡ t
    go true e = eqb-true i t e
    go false e = absurd (n i (sym (get_or-set_other xs t i active 0 (eqb-false i t e)) ∙ p))

set-one : (xs : List ℕ) (t : ℕ) → Lacks active xs → One (set xs t active)
set-one xs t n i j p q = only_at xs t i n p ∙ sym (only_at xs t j n q)

unfound : (xs : List ℕ) → active_in xs ≡ nobody → Lacks active xs
unfound xs e i p = go (ltb i (length xs)) refl
  where
    go : (b : Bool) → ltb i (length xs) ≡ b → ⊥
    go true h = present active xs i (ltb-true i (length xs) h) p e
    go false h = let z : get_or xs i 0 ≡ 0 = get_or-eq_default xs 0 (ltb-false i (length xs) h) in omega arith

-- a seed's states before its Active
seed-lacks-active : (standings : List Standing) → Lacks active (map seed_state standings)
seed-lacks-active [] i p = omega arith
seed-lacks-active (yielded ∷ standings) zero p = omega arith
seed-lacks-active (cannot_run ∷ standings) zero p = omega arith
seed-lacks-active (other ∷ standings) zero p = omega arith
seed-lacks-active (yielded ∷ standings) (suc i) p = seed-lacks-active standings i p
seed-lacks-active (cannot_run ∷ standings) (suc i) p = seed-lacks-active standings i p
seed-lacks-active (other ∷ standings) (suc i) p = seed-lacks-active standings i p

seed-one : (initial : Whom) (standings : List Standing) → One (seed_of initial standings)
unfolding seed_of
seed-one nobody standings = lacks-one (map seed_state standings) (seed-lacks-active standings)
seed-one (thread t) standings = set-one (map seed_state standings) t (seed-lacks-active standings)

toggled-one : (xs : List ℕ) → One xs → One (toggled xs)
unfolding toggled
toggled-one xs o = go (active_in xs) refl
  where
    on : (w : Whom) → Lacks active xs → One (to_active w xs)
    on nobody n = lacks-one xs n
    on (thread t) n = set-one xs t n

    go : (w : Whom) → active_in xs ≡ w → One (unless_active w xs)
    go nobody e = on (first_in yield xs) (unfound xs e)
    go (thread t) e = o

-- marks and visits

marked-active : (xs ys : List ℕ) (i : ℕ) → StatesMarked xs ys → get_or ys i 0 ≡ active → get_or xs i 0 ≡ active
marked-active [] [] i p e = e
marked-active [] (y ∷ ys) i p e = absurd p
marked-active (x ∷ xs) [] i p e = absurd p
marked-active (x ∷ xs) (y ∷ ys) zero (inl q, p) e = q ∙ e
marked-active (x ∷ xs) (y ∷ ys) zero (inr q, p) e = absurd (omega arith)
marked-active (x ∷ xs) (y ∷ ys) (suc i) p e = marked-active xs ys i p.1 e

marked-one : (xs ys : List ℕ) → StatesMarked xs ys → One xs → One ys
marked-one xs ys p o i j e f = o i j (marked-active xs ys i p e) (marked-active xs ys j p f)

pub left-lacks : (xs : List ℕ) → One xs → Lacks active (left xs)
left-lacks xs o = go (active_in xs) refl
  where
    go : (w : Whom) → active_in xs ≡ w → Lacks active (to_visited w xs)
    go nobody e i p = unfound xs e i p
    go (thread a) e i p = on (eqb i a) refl
      where
        on : (b : Bool) → eqb i a ≡ b → ⊥
        on true h =
            let z : get_or (set xs a visited) i 0 ≡ visited = rw (eqb-true i a h) (get_or-set_same xs a visited 0 (found active xs a e).0) in
            omega arith
        on false h =
            let n = eqb-false i a h in
            let q : get_or xs i 0 ≡ active = sym (get_or-set_other xs a i visited 0 n) ∙ p in
            n (o i a q (found active xs a e).1)

turned-one : (xs : List ℕ) → 0 < pendings xs → One xs → One (turned xs)
turned-one xs h o =
    let q = some-pending xs h in rw (turned-shape xs q.0 q.1) (set-one (left xs) q.0 (left-lacks xs o))

-- a visit turns to the first Pending
pub turned-choice : (xs : List ℕ) (p : ℕ) → first_in pending xs ≡ thread p → One xs → active_in (turned xs) ≡ thread p
turned-choice xs p e o = rw (turned-shape xs p e) (go (active_in (set (left xs) p active)) refl)
  where
    r : (p < length (left xs)) × (get_or (left xs) p 0 ≡ pending)
    r = left_at xs p e

    go : (w : Whom) → active_in (set (left xs) p active) ≡ w → w ≡ thread p
    go nobody f =
        absurd (present active (set (left xs) p active) p (rw length-set r.0) (get_or-set_same (left xs) p active 0 r.0) f)
    go (thread t) f = ap thread (only_at (left xs) p t (left-lacks xs o) (found active (set (left xs) p active) t f).1)

-- Records

abbrev pub Proper : Branch → Type 0
Proper (schedule s) = One s.states
Proper (load l) = Rising l.values × (0 < l.pos → l.pos < length l.values)
Proper (spurious u) = Unit {0}

pub proper-sound : (b : Branch) → Proper b → Sound b
proper-sound (schedule s) p = tt
proper-sound (load l) p = λ j h. rising-at l.values j l.pos p.0 h (p.1 (omega arith))
proper-sound (spurious u) p = tt

pub proper-marking : {b c : Branch} → Marking b c → Proper b → Proper c
proper-marking same p = p
proper-marking (mark s t e m) p =
    marked-one s.states (marked s.states t) (marked-states s.states t) (proper-marking m p)

pub proper-turned : (b : Branch) → 0 < open_at b → Proper b → Proper (turned_branch b)
unfolding turned_branch
proper-turned (schedule s) h p = turned-one s.states (open-pending s h) p
proper-turned (load l) h p = (p.0, λ k. open-values l h)
proper-turned (spurious u) h p = tt

-- a record that is added
pub pushed-proper : (B : ℕ) (bs : List Branch) (x : Bool) (q : Question) (b : Branch) → pushed B bs x q ≡ pushes b → Proper b
unfolding pushed thread_added load_added spurious_added
pushed-proper B bs x (which_thread points initial standings) b e =
    let z = only-branch (leb B (length bs)) (ltb 255 (preemptions_after (last_schedule bs))) _ b e in
    rw (← z) (toggled-one (seed_of initial standings) (seed-one initial standings))
pushed-proper B bs x (which_slot (offers slots)) b e =
    let z = just-branch (leb B (length bs)) _ b e in rw (← z) (slots-rising 0 slots, λ h. absurd (omega arith))
pushed-proper B bs x (which_slot Event.equal) b e = let z : ◌≡◌ {A = ℕ} 0 1 = cc in absurd (omega arith)
pushed-proper B bs x which_bit b e = let z = just-branch (leb B (length bs)) _ b e in rw (← z) tt

-- Paths

pub proper-stepped : (bs : List Branch) → Every Proper bs → Every Proper (stepped bs)
unfolding stepped
proper-stepped [] e = tt
proper-stepped (b ∷ bs) e = go (stepped bs) (proper-stepped bs e.1)
  where
    on : (y : Bool) → ltb 0 (open_at b) ≡ y → Every Proper (cond y (turned_branch b ∷ []) [])
    on true h = (proper-turned b (ltb-true 0 (open_at b) h) e.0, tt)
    on false h = tt

    go : (cs : List Branch) → Every Proper cs → Every Proper (or_turned cs b)
    go [] f = on (ltb 0 (open_at b)) refl
    go (c ∷ cs) f = (e.0, f)
