-- What marks, visits and additions leave of the rules of path records. Assumes nothing.
--     Low, PrevRule                           states that are states; the schedule before
--     rules-after, rules-marking              a record after marks
--     rules-turned                            at its next choice
--     rules-new, room-new                     that is added
--     Obeys, obeys-rules                      a path, as the statement has it
--     obeys-marks, obeys-added, obeys-stepped     and what keeps it
use Prim.Native.Nat.{ℕ, zero, suc, ◌+◌, ◌≤◌, ◌<◌}
use mathlib.Core.List.{List, [], ◌∷◌, ◌++◌, map, append_assoc, append-nil}
use mathlib.Core.Bool.{Bool, true, false, cond}
use mathlib.Core.Path.{◌≡◌, refl, ◌∙◌}
use mathlib.Core.Logic.{◌⊎◌, inl, inr}
use native.Mathlib.Omega.{arith}
use native.Mathlib.Numerals.{add-one}
use lib.Dec.{ltb, leb, eqb}
use lib.ListN.{length, get_or, set, take, length-append}
use borrow.Author.Tests.{ltb-true, ltb-false, leb-false}
use Rattle.rules.specs.Vector.{Whom, nobody, thread}
use Rattle.rules.specs.Path.{Branch, schedule, load, spurious, yield, pending, active, visited, no_thread, no_prev, no_branch, first_in, active_in, active_of, or_none, to_active, to_visited, left, unless_active, toggled, turned, turned_branch, marked, open_at, stepped, or_turned, ScheduleAt, none, at, or_first, one_further, last_schedule, prev_of, initial_after, preemptions_after, Added, thread_added, load_added, spurious_added}
use Rattle.rules.specs.Event as Event
use Rattle.rules.specs.Event.{Standing, yielded, cannot_run, other, Question, which_thread, which_slot, which_bit, offers, slots_from, slots_of}
use Rattle.rules.specs.Explorer.{Limits, Ledger, first_marked, seed_of, seed_state, or_fault, pushed, pushes}
use Rattle.ledger.proofs.Events.{StatesMarked, marked-states}
use Rattle.ledger.specs.History.{Every}
use Rattle.ledger.proofs.Marking.{Marking, same, mark, AllMarking, all-length, first_marked-marks}
use Rattle.ledger.proofs.States.{found}
use Rattle.ledger.proofs.Records.{open-values}
use Rattle.ledger.proofs.Proper.{Proper, proper-marking, proper-turned, pushed-proper}
use Rattle.ledger.proofs.Outcomes.{only-branch, just-branch}
use Rattle.rules.proofs.SlotLaws.{slots-below}
use Rattle.ledger.proofs.Lists.{rising-at, slots-rising, every_append}
use Rattle.kept.specs.Kept.{Answerable}
use Rattle.kept.specs.Rules.{IsSchedule, NoSchedule, NewestSchedule, RecordRules, PathRules}
use Rattle.kept.proofs.Answers.{marked-length, turned-length, seed-length}
use Rattle.kept.proofs.Preemptions.{Within, within-there, within-marks, within_new, within-stepped}

-- States are at most 5

abbrev Low : List ℕ → Type 0
Low xs = (t : ℕ) → get_or xs t 0 ≤ 5

low-set : (xs : List ℕ) (a v : ℕ) → v ≤ 5 → Low xs → Low (set xs a v)
low-set [] a v h l t = l t
low-set (x ∷ xs) zero v h l zero = h
low-set (x ∷ xs) zero v h l (suc t) = l (suc t)
low-set (x ∷ xs) (suc a) v h l zero = l zero
low-set (x ∷ xs) (suc a) v h l (suc t) = low-set xs a v h (λ u. l (suc u)) t

low-active : (w : Whom) (xs : List ℕ) → Low xs → Low (to_active w xs)
low-active nobody xs l = l
low-active (thread t) xs l = low-set xs t active (omega arith) l

low-visited : (w : Whom) (xs : List ℕ) → Low xs → Low (to_visited w xs)
low-visited nobody xs l = l
low-visited (thread t) xs l = low-set xs t visited (omega arith) l

low-turned : (xs : List ℕ) → Low xs → Low (turned xs)
unfolding turned
low-turned xs l = low-active (first_in pending (left xs)) (left xs) (low-visited (active_in xs) xs l)

low-marked : (xs ys : List ℕ) → StatesMarked xs ys → Low xs → Low ys
low-marked [] [] p l t = l t
low-marked [] (y ∷ ys) p l t = absurd p
low-marked (x ∷ xs) [] p l t = absurd p
low-marked (x ∷ xs) (y ∷ ys) (inl e, p) l zero = let h : x ≤ 5 = l zero in omega arith
low-marked (x ∷ xs) (y ∷ ys) (inr e, p) l zero = omega (arith, e.1)
low-marked (x ∷ xs) (y ∷ ys) p l (suc t) = low-marked xs ys p.1 (λ u. l (suc u)) t

low-standings : (standings : List Standing) → Low (map seed_state standings)
low-standings [] t = omega arith
low-standings (yielded ∷ standings) zero = omega arith
low-standings (cannot_run ∷ standings) zero = omega arith
low-standings (other ∷ standings) zero = omega arith
low-standings (s ∷ standings) (suc t) = low-standings standings t

low-toggled : (xs : List ℕ) → Low xs → Low (toggled xs)
unfolding toggled
low-toggled xs l = go (active_in xs)
  where
    go : (w : Whom) → Low (unless_active w xs)
    go nobody = low-active (first_in yield xs) xs l
    go (thread t) = l

low-seed : (initial : Whom) (standings : List Standing) → Low (toggled (seed_of initial standings))
unfolding seed_of
low-seed initial standings =
    low-toggled (to_active initial (map seed_state standings)) (low-active initial (map seed_state standings) (low-standings standings))

-- The schedule before

abbrev LastRule : List Branch → ScheduleAt → Type 0
LastRule bs none = NoSchedule bs
LastRule bs (at k s) = NewestSchedule bs k

last-rule : (bs : List Branch) → LastRule bs (last_schedule bs)
unfolding last_schedule
last-rule [] = λ k h. h
last-rule (b ∷ bs) = go b (last_schedule bs) (last-rule bs)
  where
    go : (b : Branch) (l : ScheduleAt) → LastRule bs l → LastRule (b ∷ bs) (or_first (one_further l) b)
    go b (at k s) r =
        record {
          within = omega (arith, r.within);
          is = rw add-one r.is;
          newest = λ j h. past j h;
        }
      where
        past : (j : ℕ) → k + 1 < j → IsSchedule (get_or (b ∷ bs) j no_branch) → ⊥
        past zero h = absurd (omega arith)
        past (suc j) h = r.newest j (omega arith)
    go (schedule s) none r = record { within = omega arith; is = tt; newest = λ j h. past j h }
      where
        past : (j : ℕ) → 0 < j → IsSchedule (get_or (schedule s ∷ bs) j no_branch) → ⊥
        past zero h = absurd (omega arith)
        past (suc j) h = r j
    go (load l) none r = λ k. past k
      where
        past : (j : ℕ) → IsSchedule (get_or (load l ∷ bs) j no_branch) → ⊥
        past zero h = h
        past (suc j) h = r j h
    go (spurious u) none r = λ k. past k
      where
        past : (j : ℕ) → IsSchedule (get_or (spurious u ∷ bs) j no_branch) → ⊥
        past zero h = h
        past (suc j) h = r j h

abbrev PrevRule : List Branch → ℕ → Type 0
PrevRule before p = ((p ≡ no_prev) × NoSchedule before) ⊎ NewestSchedule before p

prev-rule : (bs : List Branch) → PrevRule bs (prev_of (last_schedule bs))
prev-rule bs = go (last_schedule bs) (last-rule bs)
  where
    go : (l : ScheduleAt) → LastRule bs l → PrevRule bs (prev_of l)
    go none r = inl (refl, r)
    go (at k s) r = inr r

initial-rule : (states : List ℕ) (l : ScheduleAt) → length states ≡ 5 →
    (initial_after l (or_none (active_in states)) ≡ no_thread) ⊎ (initial_after l (or_none (active_in states)) < 5)
initial-rule states l e = go (active_in states) refl l
  where
    on : (w : Whom) → active_in states ≡ w → (or_none w ≡ no_thread) ⊎ (or_none w < 5)
    on nobody f = inl refl
    on (thread t) f = inr (omega (arith, (found active states t f).0))

    go : (w : Whom) → active_in states ≡ w → (l : ScheduleAt) → (initial_after l (or_none w) ≡ no_thread) ⊎ (initial_after l (or_none w) < 5)
    go w f none = on w f
    go w f (at k s) = either (eqb (or_none w) (active_of s))
      where
        either : (y : Bool) → (cond y (or_none w) no_thread ≡ no_thread) ⊎ (cond y (or_none w) no_thread < 5)
        either true = on w f
        either false = inl refl

-- Marks keep what kind a record is

kind-after : {b c : Branch} → Marking b c → IsSchedule b → IsSchedule c
kind-after same h = h
kind-after (mark s t e m) h = tt

kind-before : {b c : Branch} → Marking b c → IsSchedule c → IsSchedule b
kind-before same h = h
kind-before (mark s t e m) h = kind-before m tt

kinds-after : (bs cs : List Branch) (k : ℕ) → AllMarking bs cs → IsSchedule (get_or bs k no_branch) → IsSchedule (get_or cs k no_branch)
kinds-after [] [] k p h = h
kinds-after [] (c ∷ cs) k p h = absurd p
kinds-after (b ∷ bs) [] k p h = absurd p
kinds-after (b ∷ bs) (c ∷ cs) zero p h = kind-after p.0 h
kinds-after (b ∷ bs) (c ∷ cs) (suc k) p h = kinds-after bs cs k p.1 h

kinds-before : (bs cs : List Branch) (k : ℕ) → AllMarking bs cs → IsSchedule (get_or cs k no_branch) → IsSchedule (get_or bs k no_branch)
kinds-before [] [] k p h = h
kinds-before [] (c ∷ cs) k p h = absurd p
kinds-before (b ∷ bs) [] k p h = absurd p
kinds-before (b ∷ bs) (c ∷ cs) zero p h = kind-before p.0 h
kinds-before (b ∷ bs) (c ∷ cs) (suc k) p h = kinds-before bs cs k p.1 h

prev-marking : (bs cs : List Branch) (p : ℕ) → AllMarking bs cs → PrevRule bs p → PrevRule cs p
prev-marking bs cs p m (inl r) = inl (r.0, λ k h. r.1 k (kinds-before bs cs k m h))
prev-marking bs cs p m (inr r) =
    inr (record {
      within = rw (all-length bs cs m) r.within;
      is = kinds-after bs cs p m r.is;
      newest = λ k h i. r.newest k h (kinds-before bs cs k m i);
    })

-- A record

-- after records that are marked
rules-after : (bs cs : List Branch) (b : Branch) → AllMarking bs cs → RecordRules bs b → RecordRules cs b
rules-after bs cs (schedule s) m r =
    record {
      five = r.five;
      states = r.states;
      one-active = r.one-active;
      preemptions = r.preemptions;
      initial = r.initial;
      prev = prev-marking bs cs s.prev m r.prev;
    }
rules-after bs cs (load l) m r = r
rules-after bs cs (spurious u) m r = r

-- that is marked itself
rules-marking : {b c : Branch} (bs : List Branch) → Marking b c → RecordRules bs b → RecordRules bs c
rules-marking bs same r = r
rules-marking bs (mark s t e m) r =
    let q = rules-marking bs m r in
    record {
      five = marked-length s.states (marked s.states t) (marked-states s.states t) ∙ q.five;
      states = low-marked s.states (marked s.states t) (marked-states s.states t) q.states;
      one-active = proper-marking (mark s t e same) q.one-active;
      preemptions = q.preemptions;
      initial = q.initial;
      prev = q.prev;
    }

-- at its next choice
rules-turned : (bs : List Branch) (b : Branch) → 0 < open_at b → RecordRules bs b → RecordRules bs (turned_branch b)
unfolding turned_branch
rules-turned bs (schedule s) h r =
    record {
      five = turned-length s.states ∙ r.five;
      states = low-turned s.states r.states;
      one-active = proper-turned (schedule s) h r.one-active;
      preemptions = r.preemptions;
      initial = r.initial;
      prev = r.prev;
    }
rules-turned bs (load l) h r =
    record { some = r.some; seven = r.seven; rise = r.rise; slots = r.slots; pos = open-values l h }
rules-turned bs (spurious u) h r = tt

-- that is added

full-not : (c : Bool) (a : Added) (b : Branch) → or_fault (cond c Added.full a) ≡ pushes b → c ≡ false
full-not true a b e = let z : ◌≡◌ {A = ℕ} 0 1 = cc in absurd (omega arith)
full-not false a b e = refl

few-preemptions : (c d : Bool) (a : Added) (b : Branch) → or_fault (cond c Added.full (cond d Added.preempted a)) ≡ pushes b → d ≡ false
few-preemptions true d a b e = let z : ◌≡◌ {A = ℕ} 0 1 = cc in absurd (omega arith)
few-preemptions false true a b e = let z : ◌≡◌ {A = ℕ} 0 1 = cc in absurd (omega arith)
few-preemptions false false a b e = refl

slots-few : (i : ℕ) (bs : List Bool) → length (slots_from i bs) ≤ length bs
unfolding slots_from
slots-few i [] = omega arith
slots-few i (true ∷ bs) = omega (arith, slots-few (i + 1) bs)
slots-few i (false ∷ bs) = omega (arith, slots-few (i + 1) bs)

rules-new : (B : ℕ) (bs : List Branch) (x : Bool) (q : Question) (b : Branch) → Answerable q → pushed B bs x q ≡ pushes b →
    RecordRules bs b
unfolding pushed thread_added load_added spurious_added
rules-new B bs x (which_thread points initial standings) b p e =
    let z = only-branch (leb B (length bs)) (ltb 255 (preemptions_after (last_schedule bs))) _ b e in
    let f = few-preemptions (leb B (length bs)) (ltb 255 (preemptions_after (last_schedule bs))) _ b e in
    let five : length (toggled (seed_of initial standings)) ≡ 5 = seed-length initial standings ∙ p.five in
    let one : Proper b = pushed-proper B bs x (which_thread points initial standings) b e in
    rw (← z) (record {
      five = five;
      states = low-seed initial standings;
      one-active = rw (← z) at one;
      preemptions = ltb-false 255 (preemptions_after (last_schedule bs)) f;
      initial = initial-rule (toggled (seed_of initial standings)) (last_schedule bs) five;
      prev = prev-rule bs;
    })
rules-new B bs x (which_slot (offers slots)) b p e =
    let z = just-branch (leb B (length bs)) _ b e in
    let few = p.few slots refl in
    rw (← z) (record {
      some = p.some slots refl;
      seven = omega (arith, slots-few 0 slots);
      rise = λ j k h l. rising-at (slots_of slots) j k (slots-rising 0 slots) h l;
      slots = λ k l. omega (arith, slots-below 0 slots k l);
      pos = p.some slots refl;
    })
rules-new B bs x (which_slot Event.equal) b p e = let z : ◌≡◌ {A = ℕ} 0 1 = cc in absurd (omega arith)
rules-new B bs x which_bit b p e = let z = just-branch (leb B (length bs)) _ b e in rw (← z) tt

room-new : (B : ℕ) (bs : List Branch) (x : Bool) (q : Question) (b : Branch) → pushed B bs x q ≡ pushes b → length bs < B
unfolding pushed thread_added load_added spurious_added
room-new B bs x (which_thread points initial standings) b e = leb-false B (length bs) (full-not (leb B (length bs)) _ b e)
room-new B bs x (which_slot (offers slots)) b e = leb-false B (length bs) (full-not (leb B (length bs)) _ b e)
room-new B bs x (which_slot Event.equal) b e = let z : ◌≡◌ {A = ℕ} 0 1 = cc in absurd (omega arith)
room-new B bs x which_bit b e = leb-false B (length bs) (full-not (leb B (length bs)) _ b e)

-- A path

-- records, after others
abbrev Ruled : List Branch → List Branch → Type 0
Ruled before [] = Unit {0}
Ruled before (b ∷ bs) = RecordRules before b × Ruled (before ++ (b ∷ [])) bs

all_append : (pre bs cs ds : List Branch) → AllMarking pre bs → AllMarking cs ds → AllMarking (pre ++ cs) (bs ++ ds)
all_append [] [] cs ds p q = q
all_append [] (b ∷ bs) cs ds p q = absurd p
all_append (a ∷ pre) [] cs ds p q = absurd p
all_append (a ∷ pre) (b ∷ bs) cs ds p q = (p.0, all_append pre bs cs ds p.1 q)

ruled-marking : (pre bs cs ds : List Branch) → AllMarking pre bs → AllMarking cs ds → Ruled pre cs → Ruled bs ds
ruled-marking pre bs [] [] p q r = tt
ruled-marking pre bs [] (d ∷ ds) p q r = absurd q
ruled-marking pre bs (c ∷ cs) [] p q r = absurd q
ruled-marking pre bs (c ∷ cs) (d ∷ ds) p q r = (
  rules-marking bs q.0 (rules-after pre bs c p r.0),
  ruled-marking (pre ++ (c ∷ [])) (bs ++ (d ∷ [])) cs ds (all_append pre bs (c ∷ []) (d ∷ []) p (q.0, tt)) q.1 r.1,
)

ruled-added : (pre bs : List Branch) (b : Branch) → Ruled pre bs → RecordRules (pre ++ bs) b → Ruled pre (bs ++ (b ∷ []))
ruled-added pre [] b r h = (rw append-nil at h, tt)
ruled-added pre (c ∷ bs) b r h = (r.0, ruled-added (pre ++ (c ∷ [])) bs b r.1 (rw append_assoc h))

ruled-stepped : (pre bs : List Branch) → Ruled pre bs → Ruled pre (stepped bs)
unfolding stepped
ruled-stepped pre [] r = tt
ruled-stepped pre (b ∷ bs) r = go (stepped bs) (ruled-stepped (pre ++ (b ∷ [])) bs r.1)
  where
    on : (y : Bool) → ltb 0 (open_at b) ≡ y → Ruled pre (cond y (turned_branch b ∷ []) [])
    on true h = (rules-turned pre b (ltb-true 0 (open_at b) h) r.0, tt)
    on false h = tt

    go : (cs : List Branch) → Ruled (pre ++ (b ∷ [])) cs → Ruled pre (or_turned cs b)
    go [] q = on (ltb 0 (open_at b)) refl
    go (c ∷ cs) q = (r.0, q)

stepped-length : (bs : List Branch) → length (stepped bs) ≤ length bs
unfolding stepped
stepped-length [] = omega arith
stepped-length (b ∷ bs) = go (stepped bs) (stepped-length bs)
  where
    on : (y : Bool) → length (cond y (turned_branch b ∷ []) []) ≤ length (b ∷ bs)
    on true = omega arith
    on false = omega arith

    go : (cs : List Branch) → length cs ≤ length bs → length (or_turned cs b) ≤ length (b ∷ bs)
    go [] h = on (ltb 0 (open_at b))
    go (c ∷ cs) h = omega arith

ruled-at : (pre bs : List Branch) (k : ℕ) → Ruled pre bs → k < length bs → RecordRules (pre ++ take k bs) (get_or bs k no_branch)
ruled-at pre [] k r h = absurd (omega arith)
ruled-at pre (b ∷ bs) zero r h = rw append-nil r.0
ruled-at pre (b ∷ bs) (suc k) r h = rw append_assoc at (ruled-at (pre ++ (b ∷ [])) bs k r.1 (omega arith))

-- of a whole path
pub record Obeys (limits : Limits) (bs : List Branch) : Type 0 where
  pub room : length bs ≤ limits.branches
  pub ruled : Ruled [] bs
  pub within : Every (Within limits.bound) bs

pub obeys-rules : (limits : Limits) (bs : List Branch) → Obeys limits bs → PathRules limits bs
obeys-rules limits bs o = record {
  room = o.room;
  records = λ k h. ruled-at [] bs k o.ruled h;
  bounded = λ n e k s f. let w : Within limits.bound (schedule s) = rw f at (within-there limits.bound bs k o.within) in (w n e).chosen;
}

pub obeys-none : (limits : Limits) → Obeys limits []
obeys-none limits = record { room = omega arith; ruled = tt; within = tt }

-- after the marks that a question makes
pub obeys-marks : (limits : Limits) (l : Ledger) (q : Question) → Obeys limits l.path →
    Obeys limits (first_marked limits.bound l q).path
obeys-marks limits l q o =
    let after = (first_marked limits.bound l q).path in
    let m = first_marked-marks limits.bound l q in
    record {
      room = rw (all-length l.path after m) o.room;
      ruled = ruled-marking [] [] l.path after tt m o.ruled;
      within = within-marks limits.bound l q o.within;
    }

pub obeys-added : (limits : Limits) (bs : List Branch) (x : Bool) (q : Question) (b : Branch) → Answerable q →
    pushed limits.branches bs x q ≡ pushes b → Obeys limits bs → Obeys limits (bs ++ (b ∷ []))
obeys-added limits bs x q b p e o =
    let B = limits.branches in
    record {
      room = rw length-append (omega (arith, room-new B bs x q b e));
      ruled = ruled-added [] bs b o.ruled (rules-new B bs x q b p e);
      within = every_append (Within limits.bound) bs (b ∷ []) o.within (within_new limits.bound B bs x q b e o.within, tt);
    }

pub obeys-stepped : (limits : Limits) (bs : List Branch) → Obeys limits bs → Obeys limits (stepped bs)
obeys-stepped limits bs o =
    record {
      room = omega (arith, o.room, stepped-length bs);
      ruled = ruled-stepped [] bs o.ruled;
      within = within-stepped limits.bound bs o.within;
    }
