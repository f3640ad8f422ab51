-- The laws of a cell's last accesses: which one an operation depends on, and how one is recorded. Assumes nothing.
--     branch-.., vector-..          the last dependent access of a load, and of any other operation
--     conflict-..                   whether it is concurrent, by the tests that the function makes
--     grown-..                      the schedule vector, where there is such an access and where there is none
--     recorded-..                   the access recorded, a load's and any other's
-- and what these are in rules' Machine:
--     conflict-is                   a thread's conflict, by whether its operation is concurrent with the access that it depends on
--     access_made-is                 what a chosen thread records, by its pending operation
use Prim.Native.Nat.{ℕ, ◌+◌}
use mathlib.Core.List.{List, []}
use mathlib.Core.Bool.{Bool, true, false, cond, not, ◌||◌}
use mathlib.Core.Path.{◌≡◌, refl}
use mathlib.Core.Logic.{◌≢◌}
use lib.Dec.{eqb}
use lib.ListN.{get_or}
use borrow.Author.Tests.{eq-eqb, ne_eqb}
use Rattle.rules.specs.Event.{nowhere, branch}
use Rattle.rules.specs.Machine.{aLoad, no_operation, dependent_branch, dependent_vector, operation_of, cell_of, conflict, access_made}
use Rattle.rules.specs.State.{State, Clocks, Marks, Values, Numbers, vector, with_vector, vector_at, with_number, number_at, schedule_of, last_access, last_non_load, access_branch, non_load_branch, none}
use Rattle.rules.specs.Vector.{joined, raised, at_most}
use Rattle.layout.specs.Tables.{state}
use Rattle.track.specs.LastAccess.{grown_by, accessed}
use Rattle.synchronize.proofs.SeenLaws.{or-or}

module _ (op c at : ℕ) where
  pub branch-load : (numbers : Numbers) → op ≡ aLoad → at + c ≡ number_at (non_load_branch c) → get_or numbers (at + c) 0 ≡ dependent_branch numbers op c
  branch-load numbers e f = rw (eq-eqb op aLoad e, f)

  pub branch-other : (numbers : Numbers) → op ≢ aLoad → at + c ≡ number_at (access_branch c) → get_or numbers (at + c) 0 ≡ dependent_branch numbers op c
  branch-other numbers n f = rw (ne_eqb op aLoad n, f)

  pub vector-load : (clocks : Clocks) → op ≡ aLoad → at + c ≡ vector_at (last_non_load c) → get_or clocks (at + c) [] ≡ dependent_vector clocks op c
  vector-load clocks e f = rw (eq-eqb op aLoad e, f)

  pub vector-other : (clocks : Clocks) → op ≢ aLoad → at + c ≡ vector_at (last_access c) → get_or clocks (at + c) [] ≡ dependent_vector clocks op c
  vector-other clocks n f = rw (ne_eqb op aLoad n, f)

module _ (at k : ℕ) (xs ys vs : List ℕ) (b : Bool) (met : k ≡ at) where
  pub conflict-none : k ≡ none → false ≡ not (eqb at none || at_most xs ys)
  conflict-none e = rw (← met, eq-eqb k none e)

  pub conflict-asked : k ≢ none → vs ≡ xs → b ≡ at_most vs ys → not b ≡ not (eqb at none || at_most xs ys)
  conflict-asked n e f = rw (← met, ne_eqb k none n, ← e, f)

module _ (st : State) (t op c k : ℕ) (own row : List ℕ) (met : k ≡ dependent_branch st.numbers op c) (raise : row ≡ raised own t) where
  pub grown-none : k ≡ none → own ≡ vector st.clocks (schedule_of t) → row ≡ grown_by st t op c
  unfolding grown_by
  grown-none e f = rw (← met, eq-eqb k none e, ← f) raise

  pub grown-joined : k ≢ none → (version : List ℕ) → version ≡ dependent_vector st.clocks op c →
      own ≡ joined (vector st.clocks (schedule_of t)) version → row ≡ grown_by st t op c
  unfolding grown_by
  grown-joined n version e f = rw (← met, ne_eqb k none n, ← e, ← f) raise

module _ (clocks : Clocks) (marks : Marks) (values : Values) (numbers : Numbers) (t op c at : ℕ) (row : List ℕ) (grew : row ≡ grown_by (state clocks marks values numbers) t op c) where
  pub recorded-load : op ≡ aLoad →
      state (with_vector (with_vector clocks (schedule_of t) row) (last_access c) row) marks values (with_number numbers (access_branch c) at)
      ≡ accessed (state clocks marks values numbers) t op c at
  unfolding accessed
  recorded-load e = rw (← grew, eq-eqb op aLoad e)

  pub recorded-other : op ≢ aLoad →
      state (with_vector (with_vector (with_vector clocks (schedule_of t) row) (last_access c) row) (last_non_load c) row) marks values (with_number (with_number numbers (access_branch c) at) (non_load_branch c) at)
      ≡ accessed (state clocks marks values numbers) t op c at
  unfolding accessed
  recorded-other n = rw (← grew, ne_eqb op aLoad n)

-- a choice that is made the other way round
turned : {A : Type 0} (a b : Bool) (x y : A) → cond (a || b) x y ≡ cond a x (cond (not b) y x)
turned true b x y = refl
turned false true x y = refl
turned false false x y = refl

module _ (st : State) (t : ℕ) where
  pub conflict-is : (b : Bool) →
      b ≡ not (eqb (dependent_branch st.numbers (operation_of st t) (cell_of st t)) none || at_most (dependent_vector st.clocks (operation_of st t) (cell_of st t)) (vector st.clocks (schedule_of t))) →
      conflict st t
      ≡ cond (eqb (operation_of st t) no_operation) nowhere (cond b (branch (dependent_branch st.numbers (operation_of st t) (cell_of st t))) nowhere)
  unfolding conflict
  conflict-is b e = rw (or-or, turned, e)

  pub access_made-is : (at : ℕ) →
      access_made st t at ≡ cond (eqb (operation_of st t) no_operation) st (accessed st t (operation_of st t) (cell_of st t) at)
  unfolding access_made accessed grown_by
  access_made-is at = refl
