-- What a thread does next that has so many rows, at a row that does this. Assumes nothing.
use Rattle.std.specs.Prelude.{ℕ, [], cond, ◌&&◌, leb}
use Rattle.rules.specs.Event.{Move}
use Rattle.rules.specs.State.{State}
use Rattle.rules.specs.Table.{Op, Decoded}
use Rattle.rules.specs.Machine.{Program, is_to_begin, schedules, thread_ended, of_row}

-- the definition's `next_at`, where the count and the row are those of the program's table (`next-with` in proofs/TickLaws)
unfoldable pub next_with : Program → State → ℕ → ℕ → ℕ → Decoded Op → Move State
next_with p st t k count row =
    cond (is_to_begin st t && leb count k) (schedules (thread_ended st t) []) (of_row p st t k row)
