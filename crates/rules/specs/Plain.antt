-- A plain cell: races, and what each access does: document 02, §5, after the purpose of loom's cell.rs. Every function takes the
-- tables that it reads, and is defined on every table. Assumes nothing.
--     plain_read_done, plain_write_done       the accesses
use Rattle.std.specs.Prelude.{ℕ}
use Rattle.rules.specs.Cell.{Race, race_with, or_else, recorded, AccessResult, read, unless_race, with_clocks, with_values}
use Rattle.rules.specs.State.{State, Clocks, value, with_value, read_access, write_access, of_plain}

-- "A read is refused if a write vector has a thread ahead (race kind 10)."
unfoldable pub plain_read_race : Clocks → ℕ → ℕ → Race
plain_read_race clocks t c = race_with clocks t (write_access c) 10

-- "A write is refused if a read vector (kind 11), then a write vector (kind 12), has one."
unfoldable pub plain_write_race : Clocks → ℕ → ℕ → Race
plain_write_race clocks t c = or_else (race_with clocks t (read_access c) 11) (race_with clocks t (write_access c) 12)

-- "Each then joins the causality into its own vector." (cell.rs: track_read, track_write)
unfoldable pub plain_read_tracked : Clocks → ℕ → ℕ → Clocks
plain_read_tracked clocks t c = recorded (plain_read_race clocks t c) clocks (read_access c) t

unfoldable pub plain_write_tracked : Clocks → ℕ → ℕ → Clocks
plain_write_tracked clocks t c = recorded (plain_write_race clocks t c) clocks (write_access c) t

-- "Opcode 17 puts the value in the register"
unfoldable pub plain_read_done : State → ℕ → ℕ → AccessResult
plain_read_done st t c =
    unless_race (plain_read_race st.clocks t c) st
    (read (value st.values (of_plain c)) (with_clocks st (plain_read_tracked st.clocks t c)))

-- "18 writes operand a": where there is no race
unfoldable pub plain_write_done : State → ℕ → ℕ → ℕ → State
plain_write_done st t c v =
    with_values (with_clocks st (plain_write_tracked st.clocks t c)) (with_value st.values (of_plain c) v)
