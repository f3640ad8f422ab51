-- Demand 3, replay, over any machine: an execution that goes along a known path asks there what was asked before.
--     Comes        states that come from others by marks and visits alone
--     Agrees       a record that agrees with the question asked at it
--     Replay       the statement
use Rattle.std.specs.Prelude.{ℕ, ◌≤◌, ◌<◌, List, [], Bool, ◌≡◌, length, get_or}
use Rattle.rules.specs.Path.{Branch, schedule, load, spurious, toggled, marked, turned, pendings, no_branch}
use Rattle.rules.specs.Event.{Machine, Entry, Question, which_thread, which_slot, which_bit, offers, slots_of, asks}
use Rattle.rules.specs.Explorer.{Limits, Walk, tick, seed_of}
use Rattle.ledger.specs.History.{Every, Course, courses, end, executed, left_by}
use Rattle.ledger.specs.Play.{EndsAs, played}

-- states that come from a record's first ones by marks and visits alone: a mark is the definition's, and a visit is made where
-- something is Pending: the Active becomes Visited and the first Pending Active
pub data Comes (first : List ℕ) : List ℕ → Type 0 where
  here : Comes first first
  marks : {states : List ℕ} (t : ℕ) → Comes first states → Comes first (marked states t)
  visits : {states : List ℕ} → 0 < pendings states → Comes first states → Comes first (turned states)

-- For a load the recorded values are the offers of this very execution, judged as the slot is chosen; for a schedule the states
-- come by marks and visits alone from those that a record added for this question has; for a spurious branch it is one. A record
-- is exploring where the asker is
abbrev pub Agrees : Bool → Branch → Question → Type 0
Agrees exploring (schedule s) (which_thread points initial standings) =
    (s.exploring ≡ exploring) × Comes (toggled (seed_of initial standings)) s.states
Agrees exploring (schedule s) (which_slot m) = ⊥
Agrees exploring (schedule s) which_bit = ⊥
Agrees exploring (load l) (which_thread points initial standings) = ⊥
Agrees exploring (load l) (which_slot m) =
    (l.exploring ≡ exploring)
    × (slots : List Bool)
    × (m ≡ offers slots)
    × (l.values ≡ slots_of slots)
    × (l.pos < length l.values)
Agrees exploring (load l) which_bit = ⊥
Agrees exploring (spurious u) (which_thread points initial standings) = ⊥
Agrees exploring (spurious u) (which_slot m) = ⊥
Agrees exploring (spurious u) which_bit = u.exploring ≡ exploring

module _ (M : Machine) (limits : Limits) where
  -- a tick that passes a branch: it has asked, and the record there, which has answered, agrees with the question
  unfoldable pub Answered : Walk M.State → Type 0
  Answered w =
      w.pos < (left_by (tick M limits w)).pos →
      (s : M.State) ×
      (es : List Entry) ×
      (exploring : Bool) ×
      (q : Question) ×
      ((M.next w.state).move ≡ asks s es exploring q) ×
      Agrees exploring (get_or (left_by (tick M limits w)).ledger.path w.pos no_branch) q

  -- an execution: each branch is answered by a record that agrees; the known path has been gone through whenever it is over or
  -- has met a fault; and it comes out as the play of its choices ends
  pub record Follows (c : Course M.State) : Type 0 where
    pub answered : Every Answered c.ticks
    pub gone-through : length c.known ≤ (end c).pos
    pub by-choices : EndsAs c.outcome (played M limits limits.ticks M.start [] 0 (executed c).choices)

-- At every branch of every execution the record that answers agrees with the question asked there. So an execution is a
-- function of its choices, and a fault never comes before the known path has been gone through
unfoldable pub Replay : Type 1
Replay = (M : Machine) (limits : Limits) (n : ℕ) → Every (Follows M limits) (courses M limits n)
