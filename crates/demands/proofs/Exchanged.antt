-- The explorer over its parts, with the definition's own, is the right one. Assumes nothing.
--     walked_same, ticks-same     an execution: how it comes out, and its ticks
--     exchanged                   the explorer
use Prim.Native.Nat.{ℕ, zero, suc}
use mathlib.Core.List.{List, [], ◌∷◌}
use mathlib.Core.Bool.{Bool, true, false, cond}
use mathlib.Core.Path.{◌≡◌, refl, sym, ap, ◌∙◌}
use lib.Dec.{eqb}
use lib.ListN.{length}
use Rattle.rules.specs.Event.{Machine, Fault, Site, Move, moves, asks, stops, ends}
use Rattle.rules.specs.Machine.{machine}
use Rattle.rules.specs.Explorer.{Limits, Ledger, Walk, Tick, goes, over, faulted, Execution, After, stops_here, goes_on, taken, tick, walked, execution, after, empty}
use Rattle.rules.specs.Explored.{Settings, Explored, explored, ran, is_refusal, stop_of, program_of, limits_of}
use Rattle.ledger.specs.History.{Course, starting, ticks_from, course_of, courses_from, courses}
use Rattle.ledger.specs.Wrong as ledger
use Rattle.ledger.specs.Wrong.{taken_by, tick_by, walked_by, execution_by}
use Rattle.ledger.proofs.Same.{same}
use Rattle.demands.specs.Exchanged.{own, ticks_from_by, course_by, courses_from_by, courses_by, ran_by, running_by, SameExplorer}
use Rattle.demands.proofs.Answered.{has-run}

-- Executions

module _ (M : Machine) (limits : Limits) where
  tick-same : (w : Walk M.State) → tick_by M limits ledger.right_parts w ≡ tick M limits w
  unfolding tick
  tick-same w = go (M.next w.state).site (M.next w.state).move
    where
      go : (site : Site) (e : Move M.State) → taken_by M limits ledger.right_parts site w e ≡ taken M limits site w e
      go site (moves s es) = refl
      go site (asks s es exploring q) = refl
      go site (stops s f) = refl
      go site (ends s) = refl

  -- what follows the same tick, where it goes on alike
  after_same : {A : Type 0} (f g h : Walk M.State → A) (k : Fault → Site → Walk M.State → A) → ((v : Walk M.State) → f v ≡ g v)
      → (t u : Tick M.State) → t ≡ u
      → ◌≡◌ {A = A} (elim t [ goes v ↦ f v | over v ↦ h v | faulted x s v ↦ k x s v ]) (elim u [ goes v ↦ g v | over v ↦ h v | faulted x s v ↦ k x s v ])
  after_same f g h k alike (goes v) u e = rw (← e) (alike v)
  after_same f g h k alike (over v) u e = rw (← e) refl
  after_same f g h k alike (faulted x s v) u e = rw (← e) refl

  walked_same : (n : ℕ) (w : Walk M.State) → walked_by M limits ledger.right_parts n w ≡ walked M limits n w
  unfolding walked_by walked
  walked_same zero w = refl
  walked_same (suc n) w =
      after_same (walked_by M limits ledger.right_parts n) (walked M limits n) over faulted (λ v. walked_same n v) (tick_by M limits ledger.right_parts w) (tick M limits w) (tick-same w)

  ticks-same : (n : ℕ) (w : Walk M.State) → ticks_from_by M limits ledger.right_parts n w ≡ ticks_from M limits n w
  unfolding ticks_from_by ticks_from
  ticks-same zero w = refl
  ticks-same (suc n) w =
      ap (λ (ws : List (Walk M.State)). w ∷ ws)
      (after_same (ticks_from_by M limits ledger.right_parts n) (ticks_from M limits n) (λ v. []) (λ x s v. []) (λ v. ticks-same n v) (tick_by M limits ledger.right_parts w) (tick M limits w) (tick-same w))

  execution-same : (l : Ledger) → execution_by M limits ledger.right_parts l ≡ execution M limits l
  unfolding execution
  execution-same l = walked_same limits.ticks (starting M limits l)

  course-same : (l : Ledger) → course_by M limits ledger.right_parts l ≡ course_of M limits l
  unfolding course_by course_of
  course-same l = cc (ticks-same limits.ticks (starting M limits l), execution-same l)

  courses-same : (n : ℕ) (l : Ledger) (past : List Execution) → courses_from_by M limits ledger.right_parts n l past ≡ courses_from M limits n l past
  unfolding courses_from_by courses_from
  courses-same zero l past = refl
  courses-same (suc n) l past =
      cc (course-same l, go (λ m more. courses-same n m more) (after M.final (eqb n 0) past (execution_by M limits ledger.right_parts l)) (after M.final (eqb n 0) past (execution M limits l)) (ap (after M.final (eqb n 0) past) (execution-same l)))
    where
      go : ((m : Ledger) (more : List Execution) → courses_from_by M limits ledger.right_parts n m more ≡ courses_from M limits n m more) → (a b : After M.State) → a ≡ b
          → ◌≡◌ {A = List (Course M.State)} (elim a [ stops_here r ↦ [] | goes_on m more ↦ courses_from_by M limits ledger.right_parts n m more ])
          (elim b [ stops_here r ↦ [] | goes_on m more ↦ courses_from M limits n m more ])
      go alike (stops_here r) b e = rw (← e) refl
      go alike (goes_on m more) b e = rw (← e) (alike m more)

-- The explorer

run-same : (table condition : List ℕ) (s : Settings) → running_by own table condition s ≡ stop_of table condition s
unfolding running_by stop_of ledger.Same
run-same table condition s = same (machine (program_of table condition s)) (limits_of s) s.executions

-- where the definition refuses so does it, and else it has that run
explored-same : (table condition : List ℕ) (s : Settings) (path trace : List ℕ) → ran_by (running_by own) table condition s path trace ≡ explored table condition s path trace
explored-same table condition s path trace = go (is_refusal (explored table condition s path trace).report.answer) refl
  where
    go : (b : Bool) → is_refusal (explored table condition s path trace).report.answer ≡ b
        → ◌≡◌ {A = Explored} (cond b (explored table condition s path trace) (ran (length path) (length trace) (running_by own table condition s))) (explored table condition s path trace)
    go true e = refl
    go false e = ap (ran (length path) (length trace)) (run-same table condition s) ∙ sym (has-run table condition s path trace e).is

pub exchanged : SameExplorer
unfolding courses_by courses
exchanged = record {
  explored = explored-same;
  run = run-same;
  executions = λ table condition s. courses-same (machine (program_of table condition s)) (limits_of s) s.executions empty [];
}
