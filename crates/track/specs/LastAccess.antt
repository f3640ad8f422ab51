-- What recording an access comes to, for an operation on a cell that is given: rules' Machine takes both from the thread's
-- pending operation. Assumes nothing.
use Rattle.std.specs.Prelude.{ℕ, List, cond, eqb}
use Rattle.rules.specs.Machine.{dependent_branch, dependent_vector, access_recorded}
use Rattle.rules.specs.Cell.{with_clocks}
use Rattle.rules.specs.State.{State, vector, with_vector, schedule_of, none}
use Rattle.rules.specs.Vector.{joined, raised}

-- "join the last dependent access's vector into its schedule vector, raise its own part"
unfoldable pub grown_by : State → ℕ → ℕ → ℕ → List ℕ
grown_by st t op c =
    let own = vector st.clocks (schedule_of t) in
    raised (cond (eqb (dependent_branch st.numbers op c) none) own (joined own (dependent_vector st.clocks op c))) t

-- "record access with this branch and vector"
unfoldable pub accessed : State → ℕ → ℕ → ℕ → ℕ → State
accessed st t op c at =
    access_recorded (with_clocks st (with_vector st.clocks (schedule_of t) (grown_by st t op c))) op c at (grown_by st t op c)
