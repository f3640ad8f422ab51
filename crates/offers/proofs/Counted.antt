-- How many stores the cells have. Assumes nothing.
--     start-counts       at the start each has at most one
use Prim.Native.Nat.{ℕ, zero, suc, ◌+◌, ◌≤◌, ◌<◌}
use mathlib.Core.List.{List}
use mathlib.Core.Bool.{Bool, cond}
use mathlib.Core.Path.{◌≡◌}
use mathlib.Core.Logic.{◌≢◌}
use native.Mathlib.Omega.{arith}
use lib.Dec.{ltb}
use lib.ListN.{replicate}
use Rattle.rules.specs.Vector.{one_more, largest}
use Rattle.rules.specs.Table.{threads_of, cells_of, plains_of}
use Rattle.rules.specs.State as State
use Rattle.rules.specs.State.{State, Numbers, Number, number, with_number, number_at, numbers_held, store_at, none, count, is_seq_cst, access_branch, non_load_branch, last_yield, exploring, threads, cells}
use Rattle.rules.specs.Cell.{store_done, slot_of, seq_cst_flag}
use Rattle.rules.specs.Machine
use Rattle.rules.specs.Machine.{Program, start, for_threads}
use Rattle.rules.proofs.StateLaws.{number-other}
use Rattle.rules.proofs.MeasureRows.{pick}
use Rattle.rules.proofs.MeasureStart.{plains-new}
use Rattle.offers.proofs.Growing.{set-has}
use Rattle.offers.proofs.Starts.{replicate-has}

-- every cell that is made has at most one store, and from cell c on there is none
abbrev Few : ℕ → Numbers → Type 0
Few c a = (d : ℕ) → d < 4 → (number a (count d) ≤ 1) × (c ≤ d → number a (count d) ≤ 0)

few-write : (c : ℕ) (a : Numbers) (k : Number) (v : ℕ) → ((d : ℕ) → d < 4 → number_at (count d) ≢ number_at k) → Few c a →
    Few c (with_number a k v)
few-write c a k v apart few d h = rw (number-other a k (count d) v (apart d h)) (few d h)

few-threads : (c : ℕ) (f : ℕ → Numbers → Numbers) → ((t : ℕ) (a : Numbers) → t < 5 → Few c a → Few c (f t a)) →
    (n t : ℕ) (a : Numbers) →
    t + n ≤ 5 → Few c a → Few c (for_threads f n t a)
unfolding for_threads
few-threads c f each zero t a h few = few
few-threads c f each (suc n) t a h few = few-threads c f each n (t + 1) (f t a) (omega arith) (each t a (omega arith) few)

zeros-few : Few 0 (replicate numbers_held 0)
zeros-few d h =
    replicate-has (λ (x : ℕ). (x ≤ 1) × (0 ≤ d → x ≤ 0)) numbers_held (number_at (count d)) 0 0 (omega arith) (omega arith)

blank-few : (explores : Bool) → Few 0 (Machine.blank explores).numbers
unfolding Machine.blank
blank-few explores =
    let zero-all : Numbers = replicate numbers_held 0 in
    let unyielded = for_threads Machine.no_yield 5 0 zero-all in
    let unused = for_threads Machine.no_access 4 0 unyielded in
    few-write 0 unused exploring (cond explores 1 0) (omega arith)
    (few-threads 0 Machine.no_access
    (λ i a h few. few-write 0 (with_number a (access_branch i) none) (non_load_branch i) none (omega arith)
    (few-write 0 a (access_branch i) none (omega arith) few))
    4 0 unyielded (omega arith)
    (few-threads 0 Machine.no_yield (λ i a h few. few-write 0 a (last_yield i) none (omega arith) few) 5 0 zero-all
    (omega arith) zeros-few))

-- a cell is made
made-few : (table : List ℕ) (st : State) (c : ℕ) → c < 4 → Few c st.numbers →
    Few (c + 1) (Machine.cell_made table st c).numbers
unfolding store_done
made-few table st c below few =
    let a = st.numbers in
    let n = number a (count c) in
    few-write (c + 1) (with_number a (count c) (one_more n)) (is_seq_cst (store_at c (slot_of n))) (seq_cst_flag 1) (omega arith)
    (λ d h.
    set-has (λ (x : ℕ). (x ≤ 1) × (c + 1 ≤ d → x ≤ 0)) a (number_at (count c)) (number_at (count d)) (one_more n) 0
    ((few d h).0, λ l. (few d h).1 (omega arith))
    (λ e. (one-most n ((few c below).1 (omega arith)), λ l. absurd (omega arith))))
  where
    one-most : (x : ℕ) → x ≤ 0 → one_more x ≤ 1
    one-most x h = pick (λ (y : ℕ). y ≤ 1) (ltb x largest) (λ e. omega arith) (λ e. omega arith)

cells-few : (table : List ℕ) (left c : ℕ) (st : State) → c + left ≤ cells → Few c st.numbers →
    Few (c + left) (Machine.cells_made table st left c).numbers
unfolding Machine.cells_made
cells-few table zero c st h few = let e : c + 0 ≡ c = omega arith in rw e few
cells-few table (suc left) c st h few =
    let e : c + suc left ≡ c + 1 + left = omega arith in
    rw e (cells-few table left (c + 1) (Machine.cell_made table st c) (omega arith) (made-few table st c (omega arith) few))

started-few : (c left t : ℕ) (st : State) → t + left ≤ threads → Few c st.numbers →
    Few c (Machine.threads_started st left t).numbers
unfolding Machine.threads_started
started-few c zero t st h few = few
started-few c (suc left) t st h few =
    started-few c left (t + 1) (Machine.thread_started st t) (omega arith)
    (few-write c st.numbers (State.state t) Machine.runnable (omega arith) few)

abbrev cells-made : Program → State
cells-made p = Machine.cells_made p.table (Machine.thread0_making (Machine.blank p.exploring)) (cells_of p.table) 0

pub start-counts : (p : Program) → threads_of p.table ≤ threads → cells_of p.table ≤ cells → (c : ℕ) → c < 4 →
    number (start p).numbers (count c) ≤ 1
unfolding start
start-counts p few held c h =
    (started-few (0 + cells_of p.table) (threads_of p.table) 0
    (Machine.plains_made p.table (cells-made p) (plains_of p.table) 0) (omega arith)
    (rw (plains-new p.table (plains_of p.table) 0 (cells-made p))
    (cells-few p.table (cells_of p.table) 0 (Machine.thread0_making (Machine.blank p.exploring)) (omega arith)
    (blank-few p.exploring)))
    c h).0
