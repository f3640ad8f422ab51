-- The laws of scheduling. Assumes nothing.
--     operation-..     a thread's pending operation
--     means-..         what an answer that is one of the two says
--     conflict-..      rule (a)
--     fewest-..        the walk for the fewest yields, with the best so far as an index
--     initial-..       rule (b)
--     access-..        the chosen thread's access
--     left_as          tables that are those of a state
--     switched-as      the chosen thread runs
--     nobody-..        where a branch chooses none
--     chosen-..        where it chooses a thread
use Prim.Native.Nat.{ℕ, ◌+◌, ◌-◌, ◌≤◌, ◌<◌}
use mathlib.Core.Bool.{Bool, true, false, cond, not, ◌&&◌, ◌||◌}
use mathlib.Core.List.{[]}
use mathlib.Core.Path.{◌≡◌, refl, ap, sym, ◌∙◌}
use mathlib.Core.Logic.{◌≢◌, ◌⊎◌, inl, inr, ⊎_elim}
use native.Mathlib.Omega.{arith}
use lib.Dec.{ltb, eqb}
use borrow.Author.Tests.{lt-ltb, le-ltb, ltb-true, eq-eqb, ne_eqb, not-true, not-false}
use Rattle.rules.specs.Event as rules
use Rattle.rules.specs.Event.{Point, nowhere, branch}
use Rattle.rules.specs.State.{State, Clocks, Marks, Values, Numbers, number, with_number, vector, schedule_of, operation, operates_on, yields, active_thread, none}
use Rattle.rules.specs.State as names
use Rattle.rules.specs.Vector.{Whom, nobody, thread, at_most}
use Rattle.rules.specs.Machine.{is_in, runnable, can_run, no_operation, operation_of, cell_of, dependent_branch, dependent_vector, conflict, yields_less, fewest_from, initial, access_made, others_awake, switched, scheduled, all_over, some_can_run}
use Rattle.layout.specs.Tables.{state}
use Rattle.layout.specs.declared.Operation.{Operation}
use Rattle.track.specs.LastAccess.{grown_by, accessed}
use Rattle.thread.proofs.ThreadLaws.{one_left, none_left}
use Rattle.scheduling.specs.Schedules.{On, OperationMeans}
use Rattle.vv.specs.Whom.{whom}
use Rattle.std.specs.Prelude.{Option, Some, None}

-- A thread's pending operation

none_anyway : (b : Bool) → cond b no_operation no_operation ≡ no_operation
none_anyway true = refl
none_anyway false = refl

pub operation-none : (clocks : Clocks) (marks : Marks) (values : Values) (numbers : Numbers) (t : ℕ) →
    number numbers (operation t) ≡ no_operation → operation_of (state clocks marks values numbers) t ≡ no_operation
operation-none clocks marks values numbers t e = rw e (none_anyway (ltb (number numbers (operates_on t)) 4))

module _ (clocks : Clocks) (marks : Marks) (values : Values) (numbers : Numbers) (t c : ℕ) (on : c ≡ number numbers (operates_on t)) where
  abbrev here : State
  here = state clocks marks values numbers

  pub operation-away : 4 ≤ c → operation_of here t ≡ no_operation
  operation-away h = rw (← on, le-ltb c 4 h)

  pub operation-some : c < 4 → number numbers (operation t) ≢ no_operation → On here t (number numbers (operation t)) c
  operation-some h n = record { is = rw (← on, lt-ltb c 4 h); some = n; on = sym on; within = h }

module _ (r : Option Operation) (st : State) (t : ℕ) (means : OperationMeans r st t) where
  pub means-none : r ≡ None → operation_of st t ≡ no_operation
  means-none e = rw e at means

  pub means-on : (o : Operation) → r ≡ Some o → On st t o.action o.cell
  means-on o e = rw e at means

-- Rule (a)

-- whether the last dependent access is absent or before what the thread has scheduled
abbrev calm : State → ℕ → ℕ → ℕ → Bool
calm st t op c = eqb (dependent_branch st.numbers op c) none || at_most (dependent_vector st.clocks op c) (vector st.clocks (schedule_of t))

judged : State → ℕ → ℕ → ℕ → Point
judged st t op c =
    cond (eqb op no_operation || eqb (dependent_branch st.numbers op c) none || at_most (dependent_vector st.clocks op c) (vector st.clocks (schedule_of t)))
    nowhere
    (branch (dependent_branch st.numbers op c))

module _ (st : State) (t : ℕ) where
  own-judged : judged st t (operation_of st t) (cell_of st t) ≡ conflict st t
  unfolding conflict judged
  own-judged = refl

  pub conflict-none : operation_of st t ≡ no_operation → nowhere ≡ conflict st t
  unfolding judged
  conflict-none e = (rw (eq-eqb (operation_of st t) no_operation e)) ∙ own-judged

  module _ (action cell : ℕ) (on : On st t action cell) where
    on-judged : judged st t action cell ≡ conflict st t
    on-judged =
        ap (λ (op : ℕ). judged st t op cell) (sym on.is)
        ∙ ap (λ (c : ℕ). judged st t (operation_of st t) c) (sym on.on)
        ∙ own-judged

    module _ (b : Bool) (asked : b ≡ not (calm st t action cell)) where
      pub conflict-apart : b ≡ false → nowhere ≡ conflict st t
      unfolding judged
      conflict-apart f = (rw (ne_eqb action no_operation on.some, not-false (calm st t action cell) (sym asked ∙ f))) ∙ on-judged

      pub conflict-there : b ≡ true → (r : ℕ) → r ≡ dependent_branch st.numbers action cell → branch r ≡ conflict st t
      unfolding judged
      conflict-there f r e = (rw (ne_eqb action no_operation on.some, not-true (calm st t action cell) (sym asked ∙ f), e)) ∙ on-judged

-- Rule (b)

module _ (numbers : Numbers) (best : Option ℕ) (n t : ℕ) (more : t < n) where
  -- one turn, with what is best after it
  turn : (left : Whom) → left ≡ cond (is_in numbers runnable t && yields_less numbers t (whom best)) (thread t) (whom best) →
      fewest_from numbers left (n - (t + 1)) (t + 1) ≡ fewest_from numbers (whom best) (n - t) t
  unfolding fewest_from
  turn left e = rw (one_left n t more, e)

  pub fewest-not : (left : Option ℕ) → number numbers (names.state t) ≢ runnable → left ≡ best →
      fewest_from numbers (whom left) (n - (t + 1)) (t + 1) ≡ fewest_from numbers (whom best) (n - t) t
  fewest-not left e f = turn (whom left) (rw (ne_eqb (number numbers (names.state t)) runnable e, f))

  module _ (less : Bool) (asked : less ≡ yields_less numbers t (whom best)) (e : number numbers (names.state t) ≡ runnable) (left : Option ℕ) where
    pub fewest-fewer : less ≡ true → left ≡ Some t →
        fewest_from numbers (whom left) (n - (t + 1)) (t + 1) ≡ fewest_from numbers (whom best) (n - t) t
    fewest-fewer f g = turn (whom left) (rw (g, e, ← asked, f))

    pub fewest-as_many : less ≡ false → left ≡ best →
        fewest_from numbers (whom left) (n - (t + 1)) (t + 1) ≡ fewest_from numbers (whom best) (n - t) t
    fewest-as_many f g = turn (whom left) (rw (g, e, ← asked, f))

pub fewest-end : (numbers : Numbers) (best : Whom) (n t : ℕ) → n ≤ t → best ≡ fewest_from numbers best (n - t) t
unfolding fewest_from
fewest-end numbers best n t h = rw (none_left n t h)

module _ (numbers : Numbers) (w : ℕ) (is : w ≡ number numbers active_thread) where
  pub initial-active : w < 5 → number numbers (names.state w) ≡ runnable → thread w ≡ initial numbers
  unfolding initial
  initial-active h e = rw (← is, lt-ltb w 5 h, e)

  pub initial-not : w < 5 → number numbers (names.state w) ≢ runnable → (r : Whom) → r ≡ fewest_from numbers nobody 5 0 → r ≡ initial numbers
  unfolding initial
  initial-not h e r f = rw (← is, lt-ltb w 5 h, ne_eqb (number numbers (names.state w)) runnable e) f

  pub initial-away : 5 ≤ w → (r : Whom) → r ≡ fewest_from numbers nobody 5 0 → r ≡ initial numbers
  unfolding initial
  initial-away h r f = rw (← is, le-ltb w 5 h) f

flag : (b : Bool) → (b ≡ true) ⊎ (b ≡ false)
flag true = inl refl
flag false = inr refl

-- Rules (d) and (e)

module _ (st : State) (t at : ℕ) where
  pub access-none : operation_of st t ≡ no_operation → st ≡ access_made st t at
  unfolding access_made
  access-none e = rw (eq-eqb (operation_of st t) no_operation e)

  own : operation_of st t ≢ no_operation → accessed st t (operation_of st t) (cell_of st t) at ≡ access_made st t at
  unfolding access_made accessed grown_by
  own n = rw (ne_eqb (operation_of st t) no_operation n)

  pub access-on : (action cell : ℕ) → On st t action cell → accessed st t action cell at ≡ access_made st t at
  access-on action cell on =
      ap (λ (a : ℕ). accessed st t a cell at) (sym on.is)
      ∙ ap (λ (c : ℕ). accessed st t (operation_of st t) c at) (sym on.on)
      ∙ own (λ e. on.some (sym on.is ∙ e))

-- tables that are those of a state
pub left_as : (clocks made : Clocks) (marks : Marks) (values : Values) (numbers there : Numbers) → clocks ≡ made → numbers ≡ there →
    state clocks marks values numbers ≡ state made marks values there
left_as clocks made marks values numbers there e f = rw (e, f)

pub switched-as : (clocks made : Clocks) (marks : Marks) (values : Values) (numbers there left : Numbers) (t at : ℕ) →
    state made marks values there ≡ access_made (state clocks marks values (with_number numbers active_thread t)) t at → left ≡ others_awake t there →
    state made marks values left ≡ switched (state clocks marks values numbers) t at
unfolding switched
switched-as clocks made marks values numbers there left t at e f = rw (← e, f)

module _ (st : State) (over : Bool) (is_over : over ≡ all_over st.numbers 5 0) (at : ℕ) where
  pub nobody-ends : over ≡ true → rules.ends st ≡ scheduled st nobody at
  unfolding scheduled
  nobody-ends e = rw (← is_over, e)

  module _ (left : over ≡ false) (can : Bool) (some : can ≡ some_can_run st.numbers 5 0) where
    pub nobody-impossible : can ≡ true → rules.stops st rules.impossible ≡ scheduled st nobody at
    unfolding scheduled
    nobody-impossible e = rw (← is_over, left, ← some, e)

    pub nobody-deadlock : can ≡ false → rules.stops st rules.deadlock ≡ scheduled st nobody at
    unfolding scheduled
    nobody-deadlock e = rw (← is_over, left, ← some, e)

module _ (st : State) (t at : ℕ) (can : Bool) (asked : can ≡ can_run st.numbers t) where
  pub chosen-impossible : not can ≡ true → rules.stops st rules.impossible ≡ scheduled st (thread t) at
  unfolding scheduled
  chosen-impossible e = rw (← asked, not-true can e)

  pub chosen-moves : not can ≡ false → (left : State) → left ≡ switched st t at → rules.moves left [] ≡ scheduled st (thread t) at
  unfolding scheduled
  chosen-moves e left f = rw (← asked, not-false can e, f)

differ : false ≡ true → ⊥
differ e = let z : ◌≡◌ {A = ℕ} 0 1 = cc in omega arith

-- a thread that can run is one
pub runs-within : (numbers : Numbers) (t : ℕ) (can : Bool) → can ≡ can_run numbers t → not can ≡ false → t < 5
runs-within numbers t can e f =
    ⊎_elim (λ (h : ltb t 5 ≡ true). ltb-true t 5 h) (λ (h : ltb t 5 ≡ false). absurd (differ (rw h at (sym e ∙ not-false can f)))) (flag (ltb t 5))
