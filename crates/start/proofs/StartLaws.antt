-- The laws of an execution's start. Assumes nothing.
--     first-at                    the causality that a thread starts with
--     threads-..                  the walk that starts the threads
--     making-..                   a walk that makes one after the other
--     cells_stay, cells-go, plains-stay, plains-go      such are those that make the cells and the plain cells
--     cell_as, plain-as           a cell is made, and a plain cell
--     flag-told                   the number of whether it is exploring
--     blank-as                    nothing is left over
--     start-as                    the whole
use Prim.Native.Nat.{ℕ, suc, ◌+◌, ◌-◌, ◌≤◌, ◌<◌}
use mathlib.Core.Bool.{Bool, true, false, cond}
use mathlib.Core.List.{List}
use mathlib.Core.Path.{◌≡◌, refl}
use native.Mathlib.Omega.{arith}
use lib.ListN.{set, replicate}
use mir.Val.{bool_byte}
use Rattle.rules.specs.Cell.{join_into, store_done}
use Rattle.rules.specs.Plain.{plain_write_tracked, plain_write_done}
use Rattle.rules.specs.State.{State, Clocks, Marks, Values, Numbers, with_vector, with_value, with_number, causality, mutated, exploring, of_plain, vectors_held, values_held, numbers_held}
use Rattle.rules.specs.State as names
use Rattle.rules.specs.Seen.{unseens}
use Rattle.rules.specs.Table.{start_value, threads_of, cells_of, plains_of}
use Rattle.rules.specs.Vector.{zeros}
use Rattle.rules.specs.Machine.{Program, runnable, for_threads, no_yield, no_access, blank, cell_made, cells_made, plain_made, plains_made, first_causality, threads_started, start}
use Rattle.layout.specs.Tables.{state}
use Rattle.thread.proofs.ThreadLaws.{one_left, none_left}

pub first-at : (t k : ℕ) → t ≡ k → first_causality k ≡ first_causality t
first-at t k e = rw e

-- Threads

module _ (clocks : Clocks) (marks : Marks) (values : Values) (numbers : Numbers) (n t : ℕ) where
  pub threads-on : t < n → (parts : List ℕ) → parts ≡ first_causality t →
      threads_started (state (with_vector clocks (causality t) parts) marks values (with_number numbers (names.state t) runnable)) (n - (t + 1)) (t + 1)
      ≡ threads_started (state clocks marks values numbers) (n - t) t
  unfolding threads_started
  threads-on h parts e = rw (one_left n t h, e)

  pub threads-start : threads_started (state clocks marks values numbers) (n - 0) t ≡ threads_started (state clocks marks values numbers) n t
  threads-start = let z : n - 0 ≡ n = omega arith in rw z

  pub threads_end : n ≤ t → state clocks marks values numbers ≡ threads_started (state clocks marks values numbers) (n - t) t
  unfolding threads_started
  threads_end h = rw (none_left n t h)

-- Cells and plain cells

-- so many are to be made, from this one on
module _ (made : State → ℕ → ℕ → State) (one : State → ℕ → State)
    (stay : (st : State) (c : ℕ) → st ≡ made st 0 c) (go : (st : State) (n c : ℕ) → made (one st c) n (c + 1) ≡ made st (suc n) c)
    (st : State) (n c : ℕ) where
  pub making-on : c < n → (left : State) → left ≡ one st c → made left (n - (c + 1)) (c + 1) ≡ made st (n - c) c
  making-on h left e = rw (one_left n c h, e) (go st (n - (c + 1)) c)

  pub making-start : made st (n - 0) c ≡ made st n c
  making-start = let z : n - 0 ≡ n = omega arith in rw z

  pub making-end : n ≤ c → st ≡ made st (n - c) c
  making-end h = rw (none_left n c h) (stay st c)

module _ (table : List ℕ) (st : State) where
  pub cells_stay : (c : ℕ) → st ≡ cells_made table st 0 c
  unfolding cells_made
  cells_stay c = refl

  pub cells-go : (n c : ℕ) → cells_made table (cell_made table st c) n (c + 1) ≡ cells_made table st (suc n) c
  unfolding cells_made
  cells-go n c = refl

  pub plains-stay : (c : ℕ) → st ≡ plains_made table st 0 c
  unfolding plains_made
  plains-stay c = refl

  pub plains-go : (n c : ℕ) → plains_made table (plain_made table st c) n (c + 1) ≡ plains_made table st (suc n) c
  unfolding plains_made
  plains-go n c = refl

pub cell_as : (table : List ℕ) (clocks joined : Clocks) (marks : Marks) (values : Values) (numbers : Numbers) (c v : ℕ) (left : State) →
    joined ≡ join_into clocks (mutated c) (causality 0) → v ≡ start_value table c →
    left ≡ store_done (state joined marks values numbers) 0 c (zeros 5) v 1 →
    left ≡ cell_made table (state clocks marks values numbers) c
cell_as table clocks joined marks values numbers c v left e f g = rw (← f, ← e) g

pub plain-as : (table : List ℕ) (clocks tracked : Clocks) (marks : Marks) (values : Values) (numbers : Numbers) (cells c v : ℕ) →
    tracked ≡ plain_write_tracked clocks 0 c → v ≡ start_value table (cells + c) → cells_of table ≡ cells →
    state tracked marks (with_value values (of_plain c) v) numbers ≡ plain_made table (state clocks marks values numbers) c
unfolding plain_write_done
plain-as table clocks tracked marks values numbers cells c v e f g = rw (e, f, ← g)

-- The whole

pub flag-told : (b : Bool) (x : ℕ) → x ≡ bool_byte b → x ≡ cond b 1 0
flag-told true x e = e
flag-told false x e = e

pub blank-as : (yielded numbers : Numbers) (explores : Bool) (x : ℕ) →
    yielded ≡ for_threads no_yield 5 0 (replicate numbers_held 0) → numbers ≡ for_threads no_access 4 0 yielded → x ≡ cond explores 1 0 →
    state (replicate vectors_held (zeros 5)) (replicate 4 (replicate 7 (unseens 5))) (replicate values_held 0) (with_number numbers exploring x) ≡ blank explores
unfolding blank
blank-as yielded numbers explores x e f g = rw (g, f, e)

module _ (p : Program) (clocks : Clocks) (marks : Marks) (values : Values) (numbers : Numbers) where
  pub start-as : (table : List ℕ) (explores : Bool) (threads cells plains : ℕ) (made plained left : State) →
      p.table ≡ table → p.exploring ≡ explores → threads_of p.table ≡ threads → cells_of p.table ≡ cells → plains_of p.table ≡ plains →
      state clocks marks values numbers ≡ blank explores →
      made ≡ cells_made table (state (with_vector clocks (causality 0) (set (zeros 5) 0 1)) marks values numbers) cells 0 →
      plained ≡ plains_made table made plains 0 →
      left ≡ threads_started plained threads 0 → left ≡ start p
  unfolding start
  start-as table explores threads cells plains made plained left a b c d n e f h g = rw (c, d, n, a, b, ← e, ← f, ← h) g
