-- The history is real. Assumes nothing.
use Prim.Native.Nat.{ℕ, zero, suc, ◌+◌, ◌<◌}
use mathlib.Core.List.{List, [], ◌∷◌, ◌++◌, map}
use mathlib.Core.Bool.{Bool, true, false, cond, not, true≢false}
use mathlib.Core.Path.{◌≡◌, refl, ap, sym, subst, ◌∙◌}
use mathlib.Core.Logic.{◌≢◌}
use native.Mathlib.Omega.{arith}
use lib.Dec.{eqb}
use lib.Seq.{append_snoc}
use borrow.Author.Tests.{eqb-true, eqb-false}
use Rattle.rules.specs.Path.{open_in}
use Rattle.rules.specs.Event.{Machine}
use Rattle.rules.specs.Explorer.{Limits, Ledger, Walk, Tick, goes, over, faulted, execution, Execution, execution_of, Verdict, exhausted, spent, unmet, stopped, Stop, stop, After, stops_here, goes_on, next_ledger, empty, after, run_from, run}
use Rattle.ledger.specs.History.{left_by, Course, course_of, courses_from, courses, executed, Stops, Made, Real}
use Rattle.ledger.proofs.Ledgers.{never-goes, execution-begun}

-- after an execution that is over: with its condition not met, with nothing open, with the budget spent, or with the next path
abbrev after_over : {S : Type 0} → Bool → Bool → Bool → List Execution → Walk S → After S
after_over met none last past w =
    cond (not met) (stops_here (stop unmet w past))
    (cond none (stops_here (stop exhausted w past))
    (cond last (stops_here (stop spent w past))
    (goes_on (next_ledger w.ledger) (past ++ (execution_of w ∷ [])))))

module _ (M : Machine) (limits : Limits) (n : ℕ) where
  -- a run from a ledger after some executions: those, and then these
  record Goes (l : Ledger) (past : List Execution) (cs : List (Course M.State)) (r : Stop M.State) : Type 0 where
    made : Made M limits n r.walk r.verdict l cs
    history : r.history ≡ past ++ map executed cs

  -- the last one
  lastly : (l : Ledger) (past : List Execution) (w : Walk M.State) (v : Verdict) → left_by (execution M limits l) ≡ w →
      Stops M limits n w v (execution M limits l) → Goes l past (course_of M limits l ∷ []) (stop v w past)
  unfolding course_of
  lastly l past w v e s = record { made = (refl, s); history = rw e }

  -- one that was over with a choice open, and those from the next path on
  and_on : (l : Ledger) (past : List Execution) (u : Walk M.State) → execution M limits l ≡ over u → M.final u.state ≡ true →
      0 < open_in u.ledger.path → u.ledger.begun < n → (d : Course M.State) (ds : List (Course M.State)) (r : Stop M.State) →
      Goes (next_ledger u.ledger) (past ++ (execution_of u ∷ [])) (d ∷ ds) r → Goes l past (course_of M limits l ∷ d ∷ ds) r
  unfolding course_of
  and_on l past u e met o b d ds r g = record {
    made = (refl, u, e, met, o, b, g.made);
    history = g.history ∙ append_snoc past (execution_of u) (map executed (d ∷ ds)) ∙ rw e;
  }

  -- what follows an execution: it is the last that is allowed, or there may be more
  further : (last : Bool) (l : Ledger) (past : List Execution) → (last ≡ true → l.begun + 1 ≡ n) → (last ≡ false → l.begun + 1 < n) →
      (k : Ledger → List Execution → List (Course M.State)) (h : Ledger → List Execution → Stop M.State) →
      (last ≡ false → (m : Ledger) (more : List Execution) → m.begun ≡ l.begun + 1 →
      (d : Course M.State) × (ds : List (Course M.State)) × (k m more ≡ d ∷ ds) × Goes m more (d ∷ ds) (h m more)) →
      (t : Tick M.State) → execution M limits l ≡ t →
      Goes l past (course_of M limits l ∷ elim (after M.final last past t) [ stops_here r ↦ [] | goes_on m more ↦ k m more ])
      (elim (after M.final last past t) [ stops_here r ↦ r | goes_on m more ↦ h m more ])
  unfolding after
  further last l past x y k h f (goes w) e = absurd (never-goes M limits l w e)
  further last l past x y k h f (over w) e = go (M.final w.state) refl (eqb (open_in w.ledger.path) 0) refl last refl
    where
      b : w.ledger.begun ≡ l.begun + 1
      b = rw e at (execution-begun M limits l)

      go : (met : Bool) → M.final w.state ≡ met → (none : Bool) → eqb (open_in w.ledger.path) 0 ≡ none → (at_last : Bool) → last ≡ at_last →
          Goes l past
          (course_of M limits l ∷ elim (after_over met none at_last past w) [ stops_here r ↦ [] | goes_on m more ↦ k m more ])
          (elim (after_over met none at_last past w) [ stops_here r ↦ r | goes_on m more ↦ h m more ])
      go false c none o at_last q = lastly l past w unmet (ap left_by e) (e, c)
      go true c true o at_last q = lastly l past w exhausted (ap left_by e) (e, c, eqb-true (open_in w.ledger.path) 0 o)
      go true c false o true q =
          let z : open_in w.ledger.path ≢ 0 = eqb-false (open_in w.ledger.path) 0 o in
          lastly l past w spent (ap left_by e) (e, c, omega arith, omega (arith, b, x q))
      go true c false o false q =
          let z : open_in w.ledger.path ≢ 0 = eqb-false (open_in w.ledger.path) 0 o in
          let m = next_ledger w.ledger in
          let more = past ++ (execution_of w ∷ []) in
          let r = f q m more b in
          subst (λ cs. Goes l past (course_of M limits l ∷ cs) (h m more)) (sym r.2)
          (and_on l past w e c (omega arith) (omega (arith, b, y q)) r.0 r.1 (h m more) r.3)
  further last l past x y k h f (faulted g s w) e = lastly l past w (stopped g s) (ap left_by e) e

  -- the executions after the first
  after_first : ℕ → Ledger → List Execution → List (Course M.State)
  after_first k l past =
      elim (after M.final (eqb k 0) past (execution M limits l)) [ stops_here r ↦ [] | goes_on m more ↦ courses_from M limits k m more ]

  told : (k : ℕ) (l : Ledger) (past : List Execution) → l.begun + suc k ≡ n →
      Goes l past (course_of M limits l ∷ after_first k l past) (run_from M limits (suc k) l past)
  unfolding after_first courses_from run_from
  told zero l past b =
      further true l past (λ q. omega arith) (λ q. absurd (true≢false q)) (courses_from M limits zero) (run_from M limits zero)
      (λ q. absurd (true≢false q)) (execution M limits l) refl
  told (suc k) l past b =
      further (eqb (suc k) 0) l past (λ q. absurd (omega (arith, eqb-true (suc k) 0 q))) (λ q. omega arith) (courses_from M limits (suc k)) (run_from M limits (suc k))
      (λ q m more c. (course_of M limits m, after_first k m more, refl, told k m more (omega arith))) (execution M limits l) refl

pub real : Real
unfolding Real courses courses_from run run_from after_first
real M limits zero = record { made = (refl, refl, refl); history = refl }
real M limits (suc n) =
    let g = told M limits (suc n) n empty [] (omega arith) in record { made = g.made; history = g.history }
