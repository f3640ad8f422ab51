-- Whether an execution ends in a loop. Assumes nothing.
--     period_of     over how many steps it does
--     yields_in     whether one of the last steps is a yield
use Rattle.std.specs.Prelude.{ℕ, zero, suc, ◌+◌, ◌-◌, ◌*◌, List, Option, Some, None, Bool, true, false, cond, not, ◌&&◌, leb, eqb}
use Rattle.rules.specs.Table.{max_rows}
use Rattle.steps.specs.Entries.{entry_read}

-- what is found at the first of the n numbers from i on that passes the test, or what stands for none
unfoldable pub first_of : {A : Type 0} → (ℕ → Bool) → (ℕ → A) → A → ℕ → ℕ → A
first_of test found none zero i = none
first_of test found none (suc n) i = cond (test i) (found i) (first_of test found none n (i + 1))

-- whether each of them passes the test, whether one does, and the least that does
abbrev pub every : (ℕ → Bool) → ℕ → ℕ → Bool
every test = first_of (λ (i : ℕ). not (test i)) (λ (i : ℕ). false) true

abbrev pub some : (ℕ → Bool) → ℕ → ℕ → Bool
some test = first_of test (λ (i : ℕ). true) false

abbrev pub least : (ℕ → Bool) → ℕ → ℕ → Option ℕ
least test = first_of test (λ (i : ℕ). Some i) None

-- two steps of the same thread and row
abbrev pub same_row : List ℕ → ℕ → ℕ → Bool
same_row trace i j =
    eqb (entry_read trace i).thread (entry_read trace j).thread && eqb (entry_read trace i).row (entry_read trace j).row

-- the last of n steps are three times the same p rows: each of the last 2·p is of the same row as the one p before it
unfoldable pub repeats_in : List ℕ → ℕ → ℕ → Bool
repeats_in trace n p = leb (3 * p) n && every (λ (i : ℕ). same_row trace i (i - p)) (2 * p) (n - 2 * p)

-- the least such p up to the most rows that a thread may have
unfoldable pub period_of : List ℕ → ℕ → Option ℕ
period_of trace n = least (repeats_in trace n) max_rows 1

-- "7 yield"
abbrev pub is_yield : List ℕ → ℕ → Bool
is_yield trace i = eqb (entry_read trace i).opcode 7

-- one of the last p of n steps is a yield
unfoldable pub yields_in : List ℕ → ℕ → ℕ → Bool
yields_in trace n p = some (is_yield trace) (n - (n - p)) (n - p)
