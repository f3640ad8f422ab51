-- What is said of the numbers, where a cell is accessed and where a scheduling records an access. Assumes nothing.
--     Leaves                                                     of the state that an access leaves
--     load-leaves, rmw-leaves, unsync-leaves, mut-leaves, plain-leaves      so it is after each
--     access-kept                                                and after the access that a scheduling records
use Prim.Native.Nat.{ℕ, ◌<◌}
use mathlib.Core.List.{List}
use lib.Dec.{eqb}
use Rattle.rules.specs.Change.{Change, Changed, success, failure}
use Rattle.rules.specs.State.{State, Numbers, with_number, cells, access_branch, non_load_branch, with_vector, last_access, last_non_load, schedule_of}
use Rattle.rules.specs.Cell.{store_done, AccessResult, raced, read, Race, no_race, race_of, unless_race, sighted, load_done, by_change, succeeded, rmw_done, unsync_load_done, mut_done, with_clocks}
use Rattle.rules.specs.Plain.{plain_read_done}
use Rattle.rules.specs.Machine
use Rattle.rules.specs.Machine.{no_operation}
use Rattle.rules.proofs.MeasureRows.{pick}

module _ (Q : Numbers → Type 0) where
  -- where a race stops it, and where it has read
  pub data Leaves : AccessResult → Type 0 where
    is_raced : {kind other : ℕ} {st : State} → Q st.numbers → Leaves (raced kind other st)
    is_read : {v : ℕ} {st : State} → Q st.numbers → Leaves (read v st)

  unless-race : (r : Race) (st : State) (x : AccessResult) → Q st.numbers → Leaves x → Leaves (unless_race r st x)
  unless-race no_race st x q h = h
  unless-race (race_of kind other) st x q h = is_raced q

  pub load-leaves : (st : State) (t c slot o : ℕ) → Q st.numbers → Leaves (load_done st t c slot o)
  unfolding load_done sighted
  load-leaves st t c slot o q = search (unless-race, is_read)

  pub unsync-leaves : (st : State) (t c : ℕ) → Q st.numbers → Leaves (unsync_load_done st t c)
  unfolding unsync_load_done
  unsync-leaves st t c q = search (unless-race, is_read)

  pub mut-leaves : (st : State) (t c : ℕ) (change : Change) → Q st.numbers → Leaves (mut_done st t c change)
  unfolding mut_done
  mut-leaves st t c change q = search (unless-race, is_read)

  pub plain-leaves : (st : State) (t c : ℕ) → Q st.numbers → Leaves (plain_read_done st t c)
  unfolding plain_read_done
  plain-leaves st t c q = search (unless-race, is_read)

  -- what a store of one of so many cells keeps
  module _ (top : ℕ) (store : (st : State) (u c : ℕ) (from : List ℕ) (v o : ℕ) → c < top → Q st.numbers → Q (store_done st u c from v o).numbers) where
    change-leaves : (x : Changed) (st : State) (t c slot v o f : ℕ) → c < top → Q st.numbers → Leaves (by_change x st t c slot v o f)
    unfolding succeeded
    change-leaves (success new) st t c slot v o f h q = search (unless-race, is_read, store)
    change-leaves failure st t c slot v o f h q = is_read q

    pub rmw-leaves : (st : State) (t c slot : ℕ) (change : Change) (o f : ℕ) → c < top → Q st.numbers → Leaves (rmw_done st t c slot change o f)
    unfolding rmw_done sighted
    rmw-leaves st t c slot change o f h q = search (unless-race, change-leaves)

  -- what the position of a cell's last access, and of its last store or RMW, keep
  module _ (last : (a : Numbers) (c at : ℕ) → c < cells → Q a → Q (with_number a (access_branch c) at))
      (last_not : (a : Numbers) (c at : ℕ) → c < cells → Q a → Q (with_number a (non_load_branch c) at)) where
    recorded-kept : (st : State) (op c at : ℕ) (parts : List ℕ) → c < cells → Q st.numbers →
        Q (Machine.access_recorded st op c at parts).numbers
    recorded-kept st op c at parts h q =
        let clocks = with_vector st.clocks (last_access c) parts in
        let numbers = with_number st.numbers (access_branch c) at in
        pick (λ (x : State). Q x.numbers) (eqb op Machine.aLoad)
        {x = Machine.with_numbers (with_clocks st clocks) numbers}
        {y = Machine.with_numbers (with_clocks st (with_vector clocks (last_non_load c) parts)) (with_number numbers (non_load_branch c) at)}
        (λ e. last st.numbers c at h q) (λ e. last_not numbers c at h (last st.numbers c at h q))

    pub access-kept : (st : State) (t at : ℕ) → Machine.cell_of st t < cells → Q st.numbers → Q (Machine.access_made st t at).numbers
    unfolding Machine.access_made
    access-kept st t at h q =
        let parts = Machine.schedule_grown st t in
        let op = Machine.operation_of st t in
        let c = Machine.cell_of st t in
        let grown = with_clocks st (with_vector st.clocks (schedule_of t) parts) in
        pick (λ (x : State). Q x.numbers) (eqb op no_operation) {x = st} {y = Machine.access_recorded grown op c at parts}
        (λ e. q) (λ e. recorded-kept grown op c at parts h q)
