-- How a row begins, before it acts, and how it goes on then. Assumes nothing.
--     begun_to      the row is begun, or the rows are as many as they may be
--     then_acts     where it has begun and asks nothing, it acts at once
use Rattle.std.specs.Prelude.{ℕ, [], ◌∷◌, cond, leb}
use Rattle.rules.specs.Event as Event
use Rattle.rules.specs.Event.{Move, moves, asks, stops, ends}
use Rattle.rules.specs.State.{State, number, rows_begun}
use Rattle.rules.specs.Table.{Op}
use Rattle.rules.specs.Machine.{Program, Pending, nothing, pends, pending_of, row_begun, with_operation, schedules, acts}

-- "Scheduling is called before opcodes 0, 1, 2, 3 act (pending operation set first)"; any other row sets none
abbrev pub pending_set : State → ℕ → Pending → Move State
pending_set st t nothing = moves st []
pending_set st t (pends action c) = schedules (with_operation st t action c) []

-- "12 a row is to begin with L begun", and is then counted nowhere
abbrev pub begun_to : ℕ → State → ℕ → Op → Move State
begun_to limit st t op =
    cond (leb limit (number st.numbers rows_begun)) (stops st Event.rows) (pending_set (row_begun st t) t (pending_of op))

-- the definition's `begins` is this of `begun_to` (`begins-to` in proofs/RowLaws)
abbrev pub then_acts : Program → ℕ → ℕ → Op → Move State → Move State
then_acts p t k op (moves st []) = acts p st t k op
then_acts p t k op (moves st (e ∷ es)) = moves st (e ∷ es)
then_acts p t k op (asks st es exploring q) = asks st es exploring q
then_acts p t k op (stops st f) = stops st f
then_acts p t k op (ends st) = ends st
