-- No execution of a table whose header is fine, as that of an accepted one is, runs out of ticks. Assumes nothing.
--     good-header          an accepted table's header is fine
--     header-within, operations-within     how many threads and cells there are, and the operation limit
--     execution-enough     more ticks than an execution is given would change nothing
--     execution-last       it comes out as its last tick does
use Prim.Native.Nat.{ℕ, ◌≤◌}
use mathlib.Core.List.{List}
use mathlib.Core.Bool.{Bool, true, false, cond, and-eq-true_iff}
use mathlib.Core.Path.{◌≡◌, refl}
use native.Mathlib.Omega.{arith}
use borrow.Author.Tests.{leb-true}
use Rattle.rules.specs.Vector.{largest}
use Rattle.rules.specs.Table.{Judged, good, bad_header, judged, header_fine, threads_of, cells_of}
use Rattle.rules.specs.State.{State, threads, cells}
use Rattle.rules.specs.Machine.{Program, machine}
use Rattle.rules.specs.Explorer.{Ledger, Walk, tick, walked, fresh, one_begun, execution}
use Rattle.rules.specs.Explored.{Settings, settings_fine, program_of, limits_of, ticks_of}
use Rattle.rules.specs.Measure.{Ready}
use Rattle.rules.proofs.LimitLaws.{operations-most, operations-fit}
use Rattle.rules.proofs.MeasureStart.{start-ready, start-measure}
use Rattle.rules.proofs.MeasureWalk.{ticks-enough, last-tick}

pub good-header : (table : List ℕ) → judged table ≡ good → header_fine table ≡ true
unfolding judged
good-header table = fine (header_fine table) _
  where
    fine : (b : Bool) (v : Judged) → cond b v bad_header ≡ good → b ≡ true
    fine true v e = refl
    fine false v e = cc

-- "threads 1..5, cells 1..4"
pub header-within : (table : List ℕ) → header_fine table ≡ true → (1 ≤ threads_of table) × (threads_of table ≤ threads) × (cells_of table ≤ cells)
unfolding header_fine
header-within table e = let f = simp and-eq-true_iff at e in omega (arith, leb-true)

pub operations-within : (s : Settings) → settings_fine s ≡ true → s.operations ≤ largest
operations-within s e = omega (arith, operations-most s e, operations-fit)

module _ (table condition : List ℕ) (s : Settings) (header : header_fine table ≡ true) (settings : settings_fine s ≡ true) (l : Ledger) where
  abbrev p : Program
  p = program_of table condition s

  abbrev begins : Walk State
  begins = fresh (machine p) (limits_of s) (one_begun (machine p) (limits_of s) l)

  -- With any larger number of ticks an execution comes out the same
  pub execution-enough : (n : ℕ) → ticks_of s.operations ≤ n →
      execution (machine p) (limits_of s) l ≡ walked (machine p) (limits_of s) n begins
  unfolding execution
  execution-enough n h =
      let d = header-within table header in
      let less = start-measure p d.0 d.1 d.2 in
      ticks-enough p (limits_of s) (operations-within s settings) (ticks_of s.operations) n begins
      (start-ready p d.0 d.1 d.2) (omega arith) (omega arith)

  -- It comes out as its last tick does: it never runs out of ticks
  pub execution-last : (u : Walk State) × Ready u.state × (tick (machine p) (limits_of s) u ≡ execution (machine p) (limits_of s) l)
  unfolding execution
  execution-last =
      let d = header-within table header in
      let less = start-measure p d.0 d.1 d.2 in
      last-tick p (limits_of s) (operations-within s settings) (ticks_of s.operations) begins
      (start-ready p d.0 d.1 d.2) (omega arith)
