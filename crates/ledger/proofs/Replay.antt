-- Replay: every execution goes through the path that it knows, and each record that answers agrees with its question.
use Prim.Native.Nat.{ℕ, zero, suc, ◌≤◌}
use mathlib.Core.List.{List, [], ◌∷◌, ◌++◌}
use mathlib.Core.Path.{◌≡◌, refl}
use native.Mathlib.Omega.{arith}
use lib.ListN.{length, take, length-take}
use Rattle.rules.specs.Path.{Branch}
use Rattle.rules.specs.Event.{Machine}
use Rattle.rules.specs.Explorer.{Limits, Ledger, Walk, Tick, goes, over, faulted, tick, execution, Verdict, next_ledger, empty, run}
use Rattle.ledger.specs.History.{left_by, Every, Course, ticks_from, starting, course_of, courses, Made, Real}
use Rattle.ledger.specs.Replay.{Answered, Follows, Replay}
use Rattle.ledger.proofs.Growth.{Grown}
use Rattle.ledger.proofs.Leads.{Leads, leads-nil}
use Rattle.ledger.proofs.Outcomes.{Stays, Passed, Fine}
use Rattle.ledger.proofs.Ticks.{tick-fine}
use Rattle.ledger.proofs.Runs.{Walked, Known, execution-fine, next_known}
use Rattle.ledger.proofs.History.{real}
use Rattle.ledger.proofs.Plays.{walk-plays}

grown-length : (bs cs : List Branch) → Grown bs cs → length bs ≤ length cs
grown-length [] cs p = omega arith
grown-length (b ∷ bs) [] p = absurd p
grown-length (b ∷ bs) (c ∷ cs) p = let k = grown-length bs cs p.1 in omega arith

module _ (M : Machine) (limits : Limits) where
  fine-passed : (n : ℕ) (w : Walk M.State) (pre : List Branch) (t : Tick M.State) → Fine M limits n w pre (M.next w.state).move t →
      Passed M limits (M.next w.state).move w (left_by t)
  fine-passed n w pre (goes v) r = r.passed
  fine-passed n w pre (over v) r = r.passed
  fine-passed n w pre (faulted f s v) r = r.passed

  later-ticks : (n : ℕ) (w : Walk M.State) (pre : List Branch) (t : Tick M.State) → Fine M limits n w pre (M.next w.state).move t →
      ((v : Walk M.State) → Stays M limits n w pre (M.next w.state).move v → Every (Answered M limits) (ticks_from M limits n v)) →
      Every (Answered M limits) (elim t [ goes v ↦ ticks_from M limits n v | over v ↦ [] | faulted f s v ↦ [] ])
  later-ticks n w pre (goes v) r h = h v r
  later-ticks n w pre (over v) r h = tt
  later-ticks n w pre (faulted f s v) r h = tt

  -- the ticks of an execution
  ticks-answered : (n : ℕ) (w : Walk M.State) (pre rest : List Branch) → w.pos ≡ length pre → w.ledger.path ≡ pre ++ rest →
      Leads M limits n w.state w.trace w.pos rest → Every (Answered M limits) (ticks_from M limits n w)
  unfolding ticks_from Answered
  ticks-answered zero w pre rest k e o = tt
  ticks-answered (suc n) w pre rest k e o =
      let t = tick-fine M limits n w pre k rest e o in (
        fine-passed n w pre (tick M limits w) t,
        later-ticks n w pre (tick M limits w) t (λ v r. ticks-answered n v r.done r.rest r.pos-is r.path-is r.ahead),
      )

  gone : (l : Ledger) (t : Tick M.State) → Walked M limits limits.ticks (starting M limits l) [] t → length l.path ≤ (left_by t).pos
  gone l (goes v) c = absurd c
  gone l (over v) c = let k = grown-length l.path v.ledger.path c.grown in omega (arith, c.at-end)
  gone l (faulted f s v) c =
      let k = grown-length l.path (take v.pos v.ledger.path) c.grown in
      omega (arith, k, length-take v.pos v.ledger.path)

  follows : (l : Ledger) → Known M limits l.path → Follows M limits (course_of M limits l)
  unfolding course_of execution
  follows l o =
      record {
        answered = ticks-answered limits.ticks (starting M limits l) [] l.path refl refl o;
        gone-through = gone l (execution M limits l) (execution-fine M limits l o);
        by-choices = let k = walk-plays M limits limits.ticks (starting M limits l) [] l.path refl refl o in rw k.1 k.2;
      }

  all-follow : (n : ℕ) (w : Walk M.State) (v : Verdict) (l : Ledger) (cs : List (Course M.State)) → Known M limits l.path →
      Made M limits n w v l cs → Every (Follows M limits) cs
  all-follow n w v l [] o m = tt
  all-follow n w v l (c ∷ []) o m = (rw m.0 (follows l o), tt)
  all-follow n w v l (c ∷ d ∷ cs) o m = (
    rw m.0 (follows l o),
    all-follow n w v (next_ledger m.1.ledger) (d ∷ cs) (next_known M limits l o m.1 m.2) m.6,
  )

pub replay : Replay
unfolding Replay Real
replay M limits n =
    all-follow M limits n (run M limits n).walk (run M limits n).verdict empty (courses M limits n)
    (leads-nil M limits limits.ticks M.start [] 0) (real M limits n).made
