-- How a tick along a path that leads may come out.
--     pushed-agrees                  a new record agrees with the question that it is added for
--     Stays, Overs, Ends, Fine       the tick goes on, the execution is over, or it has met a fault
use Prim.Native.Nat.{ℕ, ◌≤◌, ◌<◌}
use mathlib.Core.List.{List, ◌++◌}
use mathlib.Core.Bool.{Bool, true, false, cond, and-eq-true_iff}
use mathlib.Core.Path.{◌≡◌, refl}
use native.Mathlib.Omega.{arith}
use lib.Dec.{ltb, leb}
use lib.ListN.{length, get_or, take}
use borrow.Author.Tests.{ltb-true}
use Rattle.rules.specs.Path.{Branch, load, no_branch, Added, added, thread_added, load_added, spurious_added, last_schedule, preemptions_after}
use Rattle.rules.specs.Event as Event
use Rattle.rules.specs.Event.{Machine, asks, Entry, Question, which_thread, which_slot, which_bit, offers, slots_of, Pick}
use Rattle.rules.specs.Explorer.{Limits, Walk, Tick, goes, over, faulted, says, unexpected, reply}
use Rattle.rules.specs.Explorer.{pushes, or_fault, pushed, load_pushed}
use Rattle.ledger.specs.Replay.{Agrees, here}
use Rattle.ledger.proofs.Marking.{AllMarking}
use Rattle.ledger.proofs.Growth.{Grown}
use Rattle.ledger.proofs.Records.{Answers}
use Rattle.ledger.proofs.Leads.{Asks, Leads}

-- A new record agrees with the question that it is added for

pub only-branch : (c d : Bool) (x b : Branch) → or_fault (cond c Added.full (cond d Added.preempted (added x))) ≡ pushes b → x ≡ b
only-branch true d x b e = let z : ◌≡◌ {A = ℕ} 0 1 = cc in absurd (omega arith)
only-branch false true x b e = let z : ◌≡◌ {A = ℕ} 0 1 = cc in absurd (omega arith)
only-branch false false x b e = cc

pub just-branch : (c : Bool) (x b : Branch) → or_fault (cond c Added.full (added x)) ≡ pushes b → x ≡ b
just-branch true x b e = let z : ◌≡◌ {A = ℕ} 0 1 = cc in absurd (omega arith)
just-branch false x b e = cc

pub answers-test : (c : Bool) (a : Pick) → Answers (cond c (says a) unexpected) → c ≡ true
answers-test true a h = refl
answers-test false a h = absurd h

load-agrees : (B : ℕ) (bs : List Branch) (x : Bool) (slots : List Bool) (b : Branch) (k : ℕ) →
    load_pushed B bs x (offers slots) ≡ pushes b → Answers (reply k b (which_slot (offers slots))) → Agrees x b (which_slot (offers slots))
unfolding load_added reply
load-agrees B bs x slots b k e h =
    let z = just-branch (leb B (length bs)) (load (record { exploring = x; values = slots_of slots; pos = 0 })) b e in
    let t = answers-test _ _ (rw (← z) at h) in
    rw (← z) (refl, slots, refl, refl, ltb-true 0 (length (slots_of slots)) ((and-eq-true_iff _ _).0 t).0)

pub pushed-agrees : (B : ℕ) (bs : List Branch) (x : Bool) (q : Question) (b : Branch) (k : ℕ) →
    pushed B bs x q ≡ pushes b → Answers (reply k b q) → Agrees x b q
unfolding pushed thread_added spurious_added
pushed-agrees B bs x (which_thread points initial standings) b k e h =
    let z = only-branch (leb B (length bs)) (ltb 255 (preemptions_after (last_schedule bs))) _ b e in
    rw (← z) (refl, here)
pushed-agrees B bs x (which_slot (offers slots)) b k e h = load-agrees B bs x slots b k e h
pushed-agrees B bs x (which_slot Event.equal) b k e h = let z : ◌≡◌ {A = ℕ} 0 1 = cc in absurd (omega arith)
pushed-agrees B bs x which_bit b k e h = let z = just-branch (leb B (length bs)) _ b e in rw (← z) refl

-- How a tick comes out

module _ (M : Machine) (limits : Limits) where
  -- a branch that is passed has been asked for, and its record agrees
  abbrev pub Passed : Event.Move M.State → Walk M.State → Walk M.State → Type 0
  Passed e w v =
      w.pos < v.pos →
      (s : M.State) × (es : List Entry) × (x : Bool) × (q : Question) × (e ≡ asks s es x q) ×
      Agrees x (get_or v.ledger.path w.pos no_branch) q

  -- the path left, from the place where this tick site, leads from there
  abbrev pub Back : ℕ → Walk M.State → List Branch → Event.Move M.State → List Branch → Type 0
  Back n w pre e whole =
      (pre' : List Branch) × (rest : List Branch) × (whole ≡ pre' ++ rest) × AllMarking pre pre' ×
      Asks M limits (Leads M limits n) w.trace w.pos rest e

  -- it goes on
  pub record Stays (n : ℕ) (w : Walk M.State) (pre : List Branch) (e : Event.Move M.State) (v : Walk M.State) : Type 0 where
    pub done : List Branch
    pub rest : List Branch
    pub path-is : v.ledger.path ≡ done ++ rest
    pub pos-is : v.pos ≡ length done
    pub ahead : Leads M limits n v.state v.trace v.pos rest
    pub grown : Grown w.ledger.path v.ledger.path
    pub back : (pre' rest' : List Branch) → AllMarking done pre' → Leads M limits n v.state v.trace v.pos rest' →
        Back n w pre e (pre' ++ rest')
    pub passed : Passed e w v

  -- the execution is over
  pub record Overs (n : ℕ) (w : Walk M.State) (pre : List Branch) (e : Event.Move M.State) (v : Walk M.State) : Type 0 where
    pub at-end : v.pos ≡ length v.ledger.path
    pub grown : Grown w.ledger.path v.ledger.path
    pub back : Back n w pre e v.ledger.path
    pub passed : Passed e w v

  -- it has met a fault
  pub record Ends (w : Walk M.State) (e : Event.Move M.State) (v : Walk M.State) : Type 0 where
    pub within : v.pos ≤ length v.ledger.path
    pub grown : Grown w.ledger.path (take v.pos v.ledger.path)
    pub passed : Passed e w v

  abbrev pub Fine : ℕ → Walk M.State → List Branch → Event.Move M.State → Tick M.State → Type 0
  Fine n w pre e (goes v) = Stays n w pre e v
  Fine n w pre e (over v) = Overs n w pre e v
  Fine n w pre e (faulted f s v) = Ends w e v
