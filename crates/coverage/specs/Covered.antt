-- The rows of a table that matter to what a run covers: those that switch exploring on or off, and those that store. Assumes
-- nothing.
--     row_op          what a row of a thread does
--     first_switch    the first row, thread by thread, that switches exploring on, or off
--     store_count     how many rows may store to a cell
use Rattle.std.specs.Prelude.{ℕ, zero, suc, ◌+◌, List, Option, Some, None, Bool, true, false, cond, not, ◌&&◌, ◌||◌, ltb, eqb, get_or}
use Rattle.rules.specs.Table.{Op, Decoded, opcode_in, op_at, shape_of, first_not, max_threads}
use Rattle.table.specs.Answers.{room_in}
use Rattle.rules.specs.Machine.{Pending, nothing, pends, role_in, pending_as, aLoad}
use Rattle.coverage.specs.declared.search.RowAt.{RowAt}

-- Rows, in a table of this shape

abbrev pub count_of : List ℕ → ℕ → ℕ
count_of shape thread = get_or shape (2 + thread) 0

abbrev pub row_op : List ℕ → List ℕ → ℕ → ℕ → Decoded Op
row_op t shape thread row = op_at t (room_in shape thread row) (get_or shape (7 + thread) 0 + row)

-- Rows that switch exploring

-- "14 `explore_state`" switches it on, "13 `critical`" and "15 `skip_branch`" switch it off
abbrev pub switches : Bool → Decoded Op → Bool
switches true row = eqb (opcode_in row) 14
switches false row = eqb (opcode_in row) 13 || eqb (opcode_in row) 15

-- a number below this one
abbrev pub one_below : ℕ → ℕ → Option ℕ
one_below n i = cond (ltb i n) (Some i) None

-- the first row of a thread that does
unfoldable pub first_in_thread : List ℕ → List ℕ → Bool → ℕ → Option ℕ
first_in_thread t shape on thread =
    one_below (count_of shape thread) (first_not (λ (row : ℕ). not (switches on (row_op t shape thread row))) (count_of shape thread) 0)

-- this row of the thread, or else what is found behind it
abbrev pub site_or : ℕ → Option ℕ → Option RowAt → Option RowAt
site_or thread (Some row) rest = Some (record { thread = thread; row = row })
site_or thread None rest = rest

-- of the n threads from this one on
unfoldable pub first_from : List ℕ → List ℕ → Bool → ℕ → ℕ → Option RowAt
first_from t shape on zero thread = None
first_from t shape on (suc n) thread =
    site_or thread (first_in_thread t shape on thread) (first_from t shape on n (thread + 1))

abbrev pub first_switch : List ℕ → Bool → Option RowAt
first_switch t on = first_from t (shape_of t) on max_threads 0

-- Rows that store

-- rows whose pending operation is a store or an RMW; a plain cell keeps no stores
abbrev pub stores_pending : ℕ → Pending → Bool
stores_pending cell nothing = false
stores_pending cell (pends operation c) = not (eqb operation aLoad) && eqb c cell

abbrev pub stores_to : ℕ → Decoded Op → Bool
stores_to cell row = stores_pending cell (pending_as (role_in row))

abbrev pub one_if : Bool → ℕ
one_if b = cond b 1 0

-- the sum of the n numbers from number i on
unfoldable pub summed : (ℕ → ℕ) → ℕ → ℕ → ℕ
summed f zero i = 0
summed f (suc n) i = f i + summed f n (i + 1)

unfoldable pub stores_in : List ℕ → List ℕ → ℕ → ℕ → ℕ
stores_in t shape cell thread = summed (λ (row : ℕ). one_if (stores_to cell (row_op t shape thread row))) (count_of shape thread) 0

abbrev pub store_count : List ℕ → ℕ → ℕ
store_count t cell = summed (stores_in t (shape_of t) cell) max_threads 0
