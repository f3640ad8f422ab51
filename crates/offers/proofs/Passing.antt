-- A tick that asks and passes a branch, over any machine: it goes on with the answer of the record there. Assumes nothing.
--     Passing            what has answered, and how it goes on
--     tick-passes        every tick that asks: where it passes a branch, and that it does where it goes on
use Prim.Native.Nat.{ℕ, ◌<◌}
use mathlib.Core.List.{List, []}
use mathlib.Core.Bool.{Bool, true, false, cond}
use mathlib.Core.Path.{◌≡◌, refl, ap, sym}
use native.Mathlib.Omega.{arith}
use lib.Dec.{eqb}
use lib.ListN.{length, get_or}
use lib.Seq.{get_or_at}
use borrow.Author.Tests.{eqb-true}
use Rattle.rules.specs.Path.{Branch, no_branch}
use Rattle.rules.specs.Event as Event
use Rattle.rules.specs.Event.{Entry, Question, Pick, Site, Move, Machine, moves, asks, stops, ends}
use Rattle.rules.specs.Explorer.{Limits, Walk, Tick, goes, faulted, Reply, says, unexpected, reply, Pushed, pushes, faults, pushed, with_branch, with_ledger, with_state, noted, onward, first_marked, fits, followed, replied, new_branch, met, asked, taken, tick}
use Rattle.ledger.specs.History.{left_by}

module _ (M : Machine) (limits : Limits) (site : Site) where
  -- from a walk that asks: the record at its position answers, and the tick is what follows
  pub record Passing (w : Walk M.State) (q : Question) (t : Tick M.State) : Type 0 where
    pub answer : Pick
    pub replies : reply w.pos (get_or (left_by t).ledger.path w.pos no_branch) q ≡ says answer
    pub on : Walk M.State
    pub trace-is : on.trace ≡ w.trace
    pub tick_is : t ≡ followed M limits site on (M.answered w.state answer)

  -- both that it passes where it goes on, and what has answered
  pub record Passes (w : Walk M.State) (q : Question) (t : Tick M.State) : Type 0 where
    pub goes-past : (v : Walk M.State) → t ≡ goes v → w.pos < v.pos
    pub passing : w.pos < (left_by t).pos → Passing w q t

  -- a fault that passes nothing
  stays : (w v : Walk M.State) (q : Question) (f : Event.Fault) → v.pos ≡ w.pos → Passes w q (faulted f site v)
  stays w v q f e = record {
    goes-past = λ u g. let z : ◌≡◌ {A = ℕ} 0 1 = cc in absurd (omega arith);
    passing = λ h. absurd (omega arith);
  }

  -- what follows an answer leaves the path and is one branch on
  fitted : (b : Bool) (w : Walk M.State) (s : M.State) (es : List Entry) →
      ((left_by (cond b (goes (noted w s es)) (faulted Event.impossible site (with_state w s)))).ledger ≡ w.ledger)
      × ((left_by (cond b (goes (noted w s es)) (faulted Event.impossible site (with_state w s)))).pos ≡ w.pos)
  fitted true w s es = (refl, refl)
  fitted false w s es = (refl, refl)

  following : (w : Walk M.State) (m : Move M.State) →
      ((left_by (followed M limits site w m)).ledger ≡ w.ledger) × ((left_by (followed M limits site w m)).pos ≡ w.pos)
  following w (moves s es) = fitted (fits M limits w es) w s es
  following w (asks s es exploring q) = (refl, refl)
  following w (stops s f) = (refl, refl)
  following w (ends s) = (refl, refl)

  replied-passes : (w : Walk M.State) (q : Question) (r : Reply) →
      reply w.pos (get_or w.ledger.path w.pos no_branch) q ≡ r →
      Passes w q (replied M limits site w r)
  replied-passes w q (says a) e =
      let f = following (onward w) (M.answered w.state a) in
      record {
        goes-past = λ v g. let h = ap (λ (t : Tick M.State). (left_by t).pos) g in omega (arith, f.1, h);
        passing = λ h. record { answer = a; replies = rw f.0 e; on = onward w; trace-is = refl; tick_is = refl };
      }
  replied-passes w q unexpected e = stays w w q Event.impossible refl

  -- with a branch that is added at the end
  added-passes : (w : Walk M.State) (q : Question) (x : Pushed) → w.pos ≡ length w.ledger.path →
      Passes w q (new_branch M limits site w q x)
  added-passes w q (pushes b) e =
      let u = with_ledger w (with_branch w.ledger b) in
      let f : get_or u.ledger.path w.pos no_branch ≡ b = get_or_at w.ledger.path b [] no_branch w.pos (sym e) in
      let h = replied-passes u q (reply w.pos b q) (ap (λ (x : Branch). reply w.pos x q) f) in
      record {
        goes-past = h.goes-past;
        passing = λ l. let k = h.passing l in record {
          answer = k.answer;
          replies = k.replies;
          on = k.on;
          trace-is = k.trace-is;
          tick_is = k.tick_is;
        };
      }
  added-passes w q (faults f) e = stays w w q f refl

  met-passes : (w : Walk M.State) (exploring : Bool) (q : Question) → Passes w q (met M limits site w exploring q)
  met-passes w exploring q = go (eqb w.pos (length w.ledger.path)) refl
    where
      go : (b : Bool) → eqb w.pos (length w.ledger.path) ≡ b →
          Passes w q
          (cond b (new_branch M limits site w q (pushed limits.branches w.ledger.path exploring q))
          (replied M limits site w (reply w.pos (get_or w.ledger.path w.pos no_branch) q)))
      go true e = added-passes w q (pushed limits.branches w.ledger.path exploring q) (eqb-true _ _ e)
      go false e = replied-passes w q (reply w.pos (get_or w.ledger.path w.pos no_branch) q) refl

  -- with the marks made first
  asked-passes : (w : Walk M.State) (exploring : Bool) (q : Question) → Passes w q (asked M limits site w exploring q)
  asked-passes w exploring q =
      let h = met-passes (with_ledger w (first_marked limits.bound w.ledger q)) exploring q in
      record {
        goes-past = h.goes-past;
        passing = λ l. let k = h.passing l in record {
          answer = k.answer;
          replies = k.replies;
          on = k.on;
          trace-is = k.trace-is;
          tick_is = k.tick_is;
        };
      }

  taken-passes : (w : Walk M.State) (s : M.State) (es : List Entry) (exploring : Bool) (q : Question) →
      Passes (noted w s es) q (taken M limits site w (asks s es exploring q))
  taken-passes w s es exploring q = go (fits M limits w es)
    where
      go : (b : Bool) →
          Passes (noted w s es) q (cond b (asked M limits site (noted w s es) exploring q)
          (faulted Event.impossible site (with_state w s)))
      go true = asked-passes (noted w s es) exploring q
      go false = stays (noted w s es) (with_state w s) q Event.impossible refl

pub tick-passes : (M : Machine) (limits : Limits) (w : Walk M.State) (s : M.State) (es : List Entry) (exploring : Bool) (q : Question) →
    (M.next w.state).move ≡ asks s es exploring q →
    Passes M limits (M.next w.state).site (noted w s es) q (tick M limits w)
unfolding tick
tick-passes M limits w s es exploring q e = rw e (taken-passes M limits (M.next w.state).site w s es exploring q)
