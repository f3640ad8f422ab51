-- A record that agrees with a question that can be answered answers it, with an answer that fits. Assumes nothing.
--     comes-length, comes-disabled, comes-nobody     what marks and visits leave
--     seed-..                                        how a thread stands in the seed
--     added-agrees                                   a new record agrees
--     slot-offered                                   a slot that fits is one of those that are offered
--     answers                                        the answer
use Prim.Native.Nat.{ℕ, zero, suc, ◌+◌, ◌≤◌, ◌<◌}
use mathlib.Core.List.{List, [], ◌∷◌, map}
use mathlib.Core.Bool.{Bool, true, false}
use mathlib.Core.Path.{◌≡◌, refl, ap, sym, ◌∙◌}
use mathlib.Core.Logic.{◌≢◌, inl, inr}
use native.Mathlib.Omega.{arith}
use lib.Dec.{ltb, leb}
use lib.ListN.{length, get_or, set, length-set, length-map, get_or-eq_default}
use lib.Seq.{get_or-set_same, get_or-set_other}
use borrow.Author.Tests.{lt-ltb, ltb-true, ltb-false}
use Rattle.rules.specs.Vector.{Whom, nobody, thread}
use Rattle.rules.specs.Path.{Branch, schedule, load, spurious, disabled, yield, pending, active, visited, first_in, active_in, to_active, to_visited, left, unless_active, toggled, turned, marked, last_schedule, preemptions_after, thread_added, load_added, spurious_added}
use Rattle.rules.specs.Event as Event
use Rattle.rules.specs.Event.{Standing, yielded, cannot_run, other, Matched, offers, slots_from, slots_of, Question, which_thread, which_slot, which_bit, Pick, run_thread, read_slot, take_bit}
use Rattle.rules.specs.Explorer.{seed_of, seed_state, pushed, pushes, reply, says, all_below, max_slots}
use Rattle.rules.proofs.SlotLaws.{slots-below}
use Rattle.ledger.specs.Replay.{Comes, here, marks, visits, Agrees}
use Rattle.ledger.proofs.Events.{StatesMarked, marked-states, states-active}
use Rattle.ledger.proofs.States.{found, present, turned-someone}
use Rattle.ledger.proofs.Outcomes.{only-branch, just-branch}
use Rattle.kept.specs.Kept.{FittingThread, FittingSlot, Fitting, FineScheduling, Answerable}

-- A state put in a place

to_active-length : (w : Whom) (xs : List ℕ) → length (to_active w xs) ≡ length xs
to_active-length nobody xs = refl
to_active-length (thread t) xs = length-set xs t active

to_visited-length : (w : Whom) (xs : List ℕ) → length (to_visited w xs) ≡ length xs
to_visited-length nobody xs = refl
to_visited-length (thread t) xs = length-set xs t visited

-- a thread that is in one state is not the one found in another
set-leaves : (xs : List ℕ) (a i x v : ℕ) → get_or xs a 0 ≡ x → get_or xs i 0 ≢ x → get_or (set xs a v) i 0 ≡ get_or xs i 0
set-leaves xs a i x v e n = get_or-set_other xs a i v 0 (λ z. n (ap (λ (j : ℕ). get_or xs j 0) z ∙ e))

to_active-leaves : (x : ℕ) (xs : List ℕ) (i : ℕ) (w : Whom) → first_in x xs ≡ w → get_or xs i 0 ≢ x →
    get_or (to_active w xs) i 0 ≡ get_or xs i 0
to_active-leaves x xs i nobody e n = refl
to_active-leaves x xs i (thread a) e n = set-leaves xs a i x active (found x xs a e).1 n

to_visited-leaves : (x : ℕ) (xs : List ℕ) (i : ℕ) (w : Whom) → first_in x xs ≡ w → get_or xs i 0 ≢ x →
    get_or (to_visited w xs) i 0 ≡ get_or xs i 0
to_visited-leaves x xs i nobody e n = refl
to_visited-leaves x xs i (thread a) e n = set-leaves xs a i x visited (found x xs a e).1 n

-- nobody is in a state where none is found
unfound : (x : ℕ) (xs : List ℕ) (i : ℕ) → 0 < x → first_in x xs ≡ nobody → get_or xs i 0 ≢ x
unfound x xs i h e p = go (ltb i (length xs)) refl
  where
    go : (b : Bool) → ltb i (length xs) ≡ b → ⊥
    go true f = present x xs i (ltb-true i (length xs) f) p e
    go false f = let z : get_or xs i 0 ≡ 0 = get_or-eq_default xs 0 (ltb-false i (length xs) f) in omega arith

-- Marks and visits

pub marked-length : (xs ys : List ℕ) → StatesMarked xs ys → length ys ≡ length xs
marked-length [] [] p = refl
marked-length [] (y ∷ ys) p = absurd p
marked-length (x ∷ xs) [] p = absurd p
marked-length (x ∷ xs) (y ∷ ys) p = ap suc (marked-length xs ys p.1)

pub turned-length : (xs : List ℕ) → length (turned xs) ≡ length xs
unfolding turned
turned-length xs = to_active-length (first_in pending (left xs)) (left xs) ∙ to_visited-length (active_in xs) xs

comes-length : {first states : List ℕ} → Comes first states → length states ≡ length first
comes-length here = refl
comes-length (marks {states} t c) = marked-length states (marked states t) (marked-states states t) ∙ comes-length c
comes-length (visits {states} h c) = turned-length states ∙ comes-length c

marked-disabled : (xs ys : List ℕ) (i : ℕ) → StatesMarked xs ys → get_or xs i 0 ≡ disabled → get_or ys i 0 ≡ disabled
marked-disabled [] [] i p e = e
marked-disabled [] (y ∷ ys) i p e = absurd p
marked-disabled (x ∷ xs) [] i p e = absurd p
marked-disabled (x ∷ xs) (y ∷ ys) zero (inl q, p) e = sym q ∙ e
marked-disabled (x ∷ xs) (y ∷ ys) zero (inr q, p) e = absurd (omega arith)
marked-disabled (x ∷ xs) (y ∷ ys) (suc i) p e = marked-disabled xs ys i p.1 e

turned-disabled : (xs : List ℕ) (i : ℕ) → get_or xs i 0 ≡ disabled → get_or (turned xs) i 0 ≡ disabled
unfolding turned
turned-disabled xs i e =
    let l : get_or (left xs) i 0 ≡ disabled = to_visited-leaves active xs i (active_in xs) refl (λ z. omega arith) ∙ e in
    to_active-leaves pending (left xs) i (first_in pending (left xs)) refl (λ z. omega arith) ∙ l

-- a thread that is Disabled stays so
comes-disabled : {first states : List ℕ} (i : ℕ) → Comes first states → get_or first i 0 ≡ disabled → get_or states i 0 ≡ disabled
comes-disabled i here e = e
comes-disabled i (marks {states} t c) e = marked-disabled states (marked states t) i (marked-states states t) (comes-disabled i c e)
comes-disabled i (visits {states} h c) e = turned-disabled states i (comes-disabled i c e)

-- where nobody is Active, nobody was at first
comes-nobody : {first states : List ℕ} → Comes first states → active_in states ≡ nobody → active_in first ≡ nobody
comes-nobody here e = e
comes-nobody (marks {states} t c) e = comes-nobody c (sym (states-active states (marked states t) (marked-states states t)) ∙ e)
comes-nobody (visits {states} h c) e = absurd (turned-someone states h e)

-- The seed

toggled-length : (xs : List ℕ) → length (toggled xs) ≡ length xs
unfolding toggled
toggled-length xs = go (active_in xs)
  where
    go : (w : Whom) → length (unless_active w xs) ≡ length xs
    go nobody = to_active-length (first_in yield xs) xs
    go (thread t) = refl

pub seed-length : (initial : Whom) (standings : List Standing) → length (toggled (seed_of initial standings)) ≡ length standings
unfolding seed_of
seed-length initial standings =
    toggled-length (to_active initial (map seed_state standings))
    ∙ to_active-length initial (map seed_state standings)
    ∙ length-map standings seed_state

seed-state : (standings : List Standing) (t : ℕ) → get_or (map seed_state standings) t 0 ≡ seed_state (get_or standings t cannot_run)
seed-state [] t = refl
seed-state (s ∷ standings) zero = refl
seed-state (s ∷ standings) (suc t) = seed-state standings t

toggled-disabled : (xs : List ℕ) (i : ℕ) → get_or xs i 0 ≡ disabled → get_or (toggled xs) i 0 ≡ disabled
unfolding toggled
toggled-disabled xs i e = go (active_in xs)
  where
    go : (w : Whom) → get_or (unless_active w xs) i 0 ≡ disabled
    go nobody = to_active-leaves yield xs i (first_in yield xs) refl (λ z. omega arith) ∙ e
    go (thread t) = e

toggled-nobody : (xs : List ℕ) → active_in (toggled xs) ≡ nobody → (active_in xs ≡ nobody) × (first_in yield xs ≡ nobody)
unfolding toggled
toggled-nobody xs = go (active_in xs) refl
  where
    on : (w : Whom) → first_in yield xs ≡ w → active_in (to_active w xs) ≡ nobody → w ≡ nobody
    on nobody e h = refl
    on (thread t) e h =
        let l = (found yield xs t e).0 in
        absurd (present active (set xs t active) t (rw length-set l) (get_or-set_same xs t active 0 l) h)

    go : (w : Whom) → active_in xs ≡ w → active_in (unless_active w xs) ≡ nobody → (w ≡ nobody) × (first_in yield xs ≡ nobody)
    go nobody e h = (refl, on (first_in yield xs) refl h)
    go (thread t) e h = (sym e ∙ h, absurd (let z : ◌≡◌ {A = ℕ} 0 1 = cc in omega arith))

-- Slots

slots-all : (i n : ℕ) (bs : List Bool) → i + length bs ≤ n → all_below n (slots_from i bs) ≡ true
unfolding all_below slots_from
slots-all i n [] h = refl
slots-all i n (true ∷ bs) h = rw (lt-ltb i n (omega arith), slots-all (i + 1) n bs (omega arith))
slots-all i n (false ∷ bs) h = slots-all (i + 1) n bs (omega arith)

-- one that is chosen is one of those that were looked at
pub slot-offered : (m : Matched) (slot : ℕ) (values : List ℕ) (fit : FittingSlot m slot values) → slot < length fit.offered
slot-offered m slot values fit =
    let within : fit.at < length (slots_of fit.offered) = rw fit.all at fit.within in
    let chosen : slot ≡ get_or (slots_of fit.offered) fit.at 0 = rw fit.all at fit.chosen in
    omega (arith, slots-below 0 fit.offered fit.at within)

-- Questions that can be answered

-- a thread that cannot run is Disabled in the seed
seed-disabled : (initial : Whom) (standings : List Standing) (t : ℕ) → FineScheduling initial standings →
    get_or standings t cannot_run ≡ cannot_run → get_or (seed_of initial standings) t 0 ≡ disabled
unfolding seed_of
seed-disabled nobody standings t p e = seed-state standings t ∙ ap seed_state e
seed-disabled (thread u) standings t p e =
    let n : t ≢ u = λ z. (p.can u refl).1 (sym (ap (λ (j : ℕ). get_or standings j cannot_run) z) ∙ e) in
    get_or-set_other (map seed_state standings) u t active 0 n ∙ seed-state standings t ∙ ap seed_state e

-- where nobody is Active in a seed, there is no initial thread and no other can run
seed-nobody : (initial : Whom) (standings : List Standing) → FineScheduling initial standings →
    active_in (toggled (seed_of initial standings)) ≡ nobody → FittingThread initial standings nobody
unfolding seed_of
seed-nobody nobody standings p e = (refl, λ t. go t (get_or standings t cannot_run) refl)
  where
    none : first_in yield (map seed_state standings) ≡ nobody
    none = (toggled-nobody (map seed_state standings) e).1

    go : (t : ℕ) (s : Standing) → get_or standings t cannot_run ≡ s → s ≡ cannot_run
    go t yielded f = absurd (unfound yield (map seed_state standings) t (omega arith) none (seed-state standings t ∙ ap seed_state f))
    go t cannot_run f = refl
    go t other f = absurd (p.none refl t f)
seed-nobody (thread u) standings p e =
    let l : u < length (map seed_state standings) = rw length-map (omega (arith, (p.can u refl).0, p.five)) in
    absurd (present active (set (map seed_state standings) u active) u (rw length-set l)
    (get_or-set_same (map seed_state standings) u active 0 l) (toggled-nobody (set (map seed_state standings) u active) e).0)

-- the thread that a schedule chooses
thread-fits : (initial : Whom) (standings : List Standing) (states : List ℕ) (whom : Whom) → FineScheduling initial standings →
    Comes (toggled (seed_of initial standings)) states → active_in states ≡ whom → FittingThread initial standings whom
thread-fits initial standings states nobody p c e = seed-nobody initial standings p (comes-nobody c e)
thread-fits initial standings states (thread t) p c e =
    let f = found active states t e in
    let l = comes-length c ∙ seed-length initial standings in (
      omega (arith, l, f.0),
      λ z.
          let d = comes-disabled t c (toggled-disabled (seed_of initial standings) t (seed-disabled initial standings t p z)) in
          omega (arith, f.1, d),
    )

-- A new record agrees with its question

pub added-agrees : (B : ℕ) (bs : List Branch) (x : Bool) (q : Question) (b : Branch) → Answerable q →
    pushed B bs x q ≡ pushes b → Agrees x b q
unfolding pushed thread_added load_added spurious_added
added-agrees B bs x (which_thread points initial standings) b p e =
    let z = only-branch (leb B (length bs)) (ltb 255 (preemptions_after (last_schedule bs))) _ b e in
    rw (← z) (refl, here)
added-agrees B bs x (which_slot (offers slots)) b p e =
    let z = just-branch (leb B (length bs)) _ b e in rw (← z) (refl, slots, refl, refl, p.some slots refl)
added-agrees B bs x (which_slot Event.equal) b p e = let z : ◌≡◌ {A = ℕ} 0 1 = cc in absurd (omega arith)
added-agrees B bs x which_bit b p e = let z = just-branch (leb B (length bs)) _ b e in rw (← z) refl

-- And a record that agrees answers

pub answers : (x : Bool) (k : ℕ) (b : Branch) (q : Question) → Answerable q → Agrees x b q →
    (a : Pick) × (reply k b q ≡ says a) × Fitting q a
unfolding reply
answers x k (schedule s) (which_thread points initial standings) p g =
    (run_thread (active_in s.states) k, refl, thread-fits initial standings s.states (active_in s.states) p g.1 refl)
answers x k (schedule s) (which_slot m) p g = absurd g
answers x k (schedule s) which_bit p g = absurd g
answers x k (load l) (which_thread points initial standings) p g = absurd g
answers x k (load l) (which_slot m) p g =
    let within = lt-ltb l.pos (length l.values) g.4 in
    let few = p.few g.1 g.2 in
    let slots : all_below max_slots l.values ≡ true = rw g.3 (slots-all 0 max_slots g.1 (omega arith)) in (
      read_slot (get_or l.values l.pos 0) l.values,
      rw (within, slots),
      record { offered = g.1; is = g.2; all = g.3; at = l.pos; within = g.4; chosen = refl },
    )
answers x k (load l) which_bit p g = absurd g
answers x k (spurious u) (which_thread points initial standings) p g = absurd g
answers x k (spurious u) (which_slot m) p g = absurd g
answers x k (spurious u) which_bit p g = (take_bit u.bit, refl, tt)
