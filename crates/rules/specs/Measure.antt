-- How many ticks an execution may still take, and what every tick needs and keeps: no execution goes on for ever. Assumes
-- nothing.
--     measure        falls at every tick
--     CanAct, Ready  what a tick begins with
use Rattle.std.specs.Prelude.{ℕ, ◌+◌, ◌-◌, ◌*◌, ◌<◌, cond, ◌≡◌, ◌⊎◌, eqb, length}
use Rattle.rules.specs.State as State
use Rattle.rules.specs.State.{State, Numbers, number, numbers_held, threads, cells, operates_on, phase, rows_begun}
use Rattle.rules.specs.Machine.{Program, current, runnable, blocked, yielded, ended, to_begin}

-- what a thread in this state, with its row to begin or to act, may still take: no tick for a row that is to begin, one for a
-- row that is to act where the thread is blocked, else two, since it may block once; and five for its end, which may free the
-- joins of four others
unfoldable pub ticks_left : ℕ → ℕ → ℕ
ticks_left standing row = cond (eqb row to_begin) 0 (cond (eqb standing blocked) 1 2) + cond (eqb standing ended) 0 5

abbrev pub ticks_left_of : Numbers → ℕ → ℕ
ticks_left_of numbers t = ticks_left (number numbers (State.state t)) (number numbers (phase t))

-- of the five threads
abbrev pub work : Numbers → ℕ
work numbers = ticks_left_of numbers 0 + ticks_left_of numbers 1 + ticks_left_of numbers 2 + ticks_left_of numbers 3 + ticks_left_of numbers 4

-- "12 a row is to begin with L begun": so many rows may still begin, and each takes at most three ticks
unfoldable pub measure : Program → State → ℕ
measure p st = 3 * (p.operations - number st.numbers rows_begun) + work st.numbers

-- the numbers are all there, and every pending operation is on a cell: the access that a scheduling records is then among
-- that cell's numbers
pub record Whole (numbers : Numbers) : Type 0 where
  pub long : length numbers ≡ numbers_held
  pub on_cell : (t : ℕ) → t < threads → number numbers (operates_on t) < cells

-- a thread that is active is runnable, or has yielded and was chosen nevertheless
abbrev pub CanAct : ℕ → Type 0
CanAct standing = (standing ≡ runnable) ⊎ (standing ≡ yielded)

-- and the active thread is one that can act
pub record Ready (st : State) : Type 0 where
  pub whole : Whole st.numbers
  pub below : current st < threads
  pub runs : CanAct (number st.numbers (State.state (current st)))
