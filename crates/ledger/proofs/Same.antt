-- The explorer over parts, with the definition's parts, is the definition's. Assumes nothing.
use Prim.Native.Nat.{ℕ, zero, suc}
use mathlib.Core.List.{List, []}
use mathlib.Core.Path.{◌≡◌, refl, ap, ◌∙◌}
use lib.Dec.{eqb}
use Rattle.rules.specs.Event.{Machine, Site, Move, moves, asks, stops, ends}
use Rattle.rules.specs.Explorer.{Limits, Ledger, Walk, Tick, goes, over, faulted, Execution, Stop, After, stops_here, goes_on}
use Rattle.rules.specs.Explorer.{taken, tick, walked, execution, empty, after, run_from, run}
use Rattle.ledger.specs.History.{starting}
use Rattle.ledger.specs.Wrong.{right_parts, taken_by, tick_by, walked_by, execution_by, run_from_by, run_by, Same}

module _ (M : Machine) (limits : Limits) where
  taken-same : (site : Site) (w : Walk M.State) (e : Move M.State) → taken_by M limits right_parts site w e ≡ taken M limits site w e
  taken-same site w (moves s es) = refl
  taken-same site w (asks s es exploring q) = refl
  taken-same site w (stops s f) = refl
  taken-same site w (ends s) = refl

  tick-same : (w : Walk M.State) → tick_by M limits right_parts w ≡ tick M limits w
  unfolding tick
  tick-same w = taken-same (M.next w.state).site w (M.next w.state).move

  walked_step : (n : ℕ) → ((v : Walk M.State) → walked_by M limits right_parts n v ≡ walked M limits n v) → (t : Tick M.State) →
      ◌≡◌ {A = Tick M.State} (elim t [ goes v ↦ walked_by M limits right_parts n v | over v ↦ over v | faulted f s v ↦ faulted f s v ])
      (elim t [ goes v ↦ walked M limits n v | over v ↦ over v | faulted f s v ↦ faulted f s v ])
  walked_step n more (goes v) = more v
  walked_step n more (over v) = refl
  walked_step n more (faulted f s v) = refl

  walked_same : (n : ℕ) (w : Walk M.State) → walked_by M limits right_parts n w ≡ walked M limits n w
  unfolding walked_by walked
  walked_same zero w = refl
  walked_same (suc n) w =
      walked_step n (λ v. walked_same n v) (tick_by M limits right_parts w)
      ∙ ap (λ (t : Tick M.State). elim t [ goes v ↦ walked M limits n v | over v ↦ over v | faulted f s v ↦ faulted f s v ]) (tick-same w)

  execution-same : (l : Ledger) → execution_by M limits right_parts l ≡ execution M limits l
  unfolding execution
  execution-same l = walked_same limits.ticks (starting M limits l)

  run_step : (n : ℕ) → ((l : Ledger) (past : List Execution) → run_from_by M limits right_parts n l past ≡ run_from M limits n l past) → (a : After M.State) →
      ◌≡◌ {A = Stop M.State} (elim a [ stops_here r ↦ r | goes_on m more ↦ run_from_by M limits right_parts n m more ])
      (elim a [ stops_here r ↦ r | goes_on m more ↦ run_from M limits n m more ])
  run_step n rest (stops_here r) = refl
  run_step n rest (goes_on m more) = rest m more

  run_from-same : (n : ℕ) (l : Ledger) (past : List Execution) → run_from_by M limits right_parts n l past ≡ run_from M limits n l past
  unfolding run_from_by run_from
  run_from-same zero l past = refl
  run_from-same (suc n) l past =
      run_step n (λ m more. run_from-same n m more) (after M.final (eqb n 0) past (execution_by M limits right_parts l))
      ∙ ap (λ (t : Tick M.State). elim (after M.final (eqb n 0) past t) [ stops_here r ↦ r | goes_on m more ↦ run_from M limits n m more ]) (execution-same l)

pub same : Same
unfolding Same run_by run
same M limits n = run_from-same M limits n empty []
