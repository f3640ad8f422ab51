-- The machine played with choices alone, without a path: each question is answered by the next choice, and the play stops
-- where the machine stops or no choice is left.
--     Ending, Final      how a play has ended, with its state and its trace
--     answer_to           a choice as the answer to a question
--     played             the play
--     EndsAs             an execution that came out as a play has ended
use Rattle.std.specs.Prelude.{ℕ, zero, suc, ◌+◌, List, [], ◌∷◌, ◌++◌, cond, ◌≡◌, ◌⊎◌, leb, length}
use Rattle.rules.specs.Path.{Choice, runs, reads}
use Rattle.rules.specs.Event as Event
use Rattle.rules.specs.Event.{Machine, Move, moves, asks, stops, ends, Entry, Question, which_thread, which_slot, which_bit, offers, equal, slots_of, run_thread, read_slot, take_bit}
use Rattle.rules.specs.Event.{Fault, impossible, Site, no_site}
use Rattle.rules.specs.Explorer.{Limits, Tick, goes, over, faulted, Reply, says, unexpected}

-- the execution is over; it has met a fault; or it has asked, at this site, and no choice is left
pub data Ending : Type 0 where
  is_over : Ending
  meets : Fault → Site → Ending
  unanswered : Site → Ending

pub record Final (S : Type 0) : Type 0 where
  pub ending : Ending
  pub state : S
  pub trace : List Entry

abbrev pub final_of : {S : Type 0} → Ending → S → List Entry → Final S
final_of e s tr = record { ending = e; state = s; trace = tr }

-- at the branch of this number: a thread for a scheduling, a slot for what is offered, a bit for a spurious branch
abbrev pub answer_to : ℕ → Choice → Question → Reply
answer_to k (runs w) (which_thread points initial standings) = says (run_thread w k)
answer_to k (runs w) (which_slot m) = unexpected
answer_to k (runs w) which_bit = unexpected
answer_to k (reads v) (which_thread points initial standings) = unexpected
answer_to k (reads v) (which_slot (offers slots)) = says (read_slot v (slots_of slots))
answer_to k (reads v) (which_slot equal) = unexpected
answer_to k (reads v) which_bit = unexpected
answer_to k (Choice.says b) (which_thread points initial standings) = unexpected
answer_to k (Choice.says b) (which_slot m) = unexpected
answer_to k (Choice.says b) which_bit = says (take_bit b)

module _ (M : Machine) (limits : Limits) where
  -- how the play goes on: from a state, with a trace, at a branch, with these choices left
  abbrev pub Going : Type 0
  Going = M.State → List Entry → ℕ → List Choice → Final M.State

  -- as in the definition: with room for the entries or not
  abbrev pub onto : Going → Site → List Entry → ℕ → List Choice → M.State → List Entry → Final M.State
  onto F site tr k cs s es =
      cond (leb (length tr + length es) limits.operations) (F s (tr ++ es) k cs) (final_of (meets impossible site) s tr)

  abbrev pub after_answer : Going → Site → List Entry → ℕ → List Choice → Move M.State → Final M.State
  after_answer F site tr k cs (moves s es) = onto F site tr k cs s es
  after_answer F site tr k cs (asks s es x q) = final_of (meets impossible site) s tr
  after_answer F site tr k cs (stops s f) = final_of (meets f site) s tr
  after_answer F site tr k cs (ends s) = final_of is_over s tr

  abbrev pub at_reply : Going → Site → M.State → List Entry → ℕ → List Choice → Reply → Final M.State
  at_reply F site s tr k cs (says a) = after_answer F site tr (k + 1) cs (M.answered s a)
  at_reply F site s tr k cs unexpected = final_of (meets impossible site) s tr

  abbrev pub at_question : Going → Site → M.State → List Entry → ℕ → List Choice → Question → Final M.State
  at_question F site s tr k [] q = final_of (unanswered site) s tr
  at_question F site s tr k (c ∷ cs) q = at_reply F site s tr k cs (answer_to k c q)

  abbrev pub at_tick : Going → Site → List Entry → ℕ → List Choice → Move M.State → Final M.State
  at_tick F site tr k cs (moves s es) = onto F site tr k cs s es
  at_tick F site tr k cs (asks s es x q) =
      cond (leb (length tr + length es) limits.operations) (at_question F site s (tr ++ es) k cs q) (final_of (meets impossible site) s tr)
  at_tick F site tr k cs (stops s f) = final_of (meets f site) s tr
  at_tick F site tr k cs (ends s) = final_of is_over s tr

  -- at most n ticks
  unfoldable pub played : ℕ → Going
  played zero s tr k cs = final_of (meets impossible no_site) s tr
  played (suc n) s tr k cs = at_tick (played n) (M.next s).site tr k cs (M.next s).move

-- Executions and plays

-- the faults that a question meets for which no record can be added, or none that answers
abbrev pub AtQuestion : Fault → Type 0
AtQuestion Event.deadlock = ⊥
AtQuestion Event.full = Unit {0}
AtQuestion Event.rows = ⊥
AtQuestion Event.equal_orders = Unit {0}
AtQuestion (Event.race kind other) = ⊥
AtQuestion Event.check = ⊥
AtQuestion Event.flags = ⊥
AtQuestion Event.preemptions = Unit {0}
AtQuestion impossible = Unit {0}

-- it is over where the play is, and has met the play's fault at its site; where the play has no choice left for a question, it
-- has met a fault at that question
abbrev pub EndsAs : {S : Type 0} → Tick S → Final S → Type 0
EndsAs (goes w) p = ⊥
EndsAs (over w) p = p ≡ final_of is_over w.state w.trace
EndsAs (faulted f site w) p =
    (p ≡ final_of (meets f site) w.state w.trace) ⊎ (AtQuestion f × (p ≡ final_of (unanswered site) w.state w.trace))
