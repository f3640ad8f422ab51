-- Demand 3, turning points, over any machine: which choices were opened, which were turned to, and which are open.
--     Name                        an opened choice: the choices before it, and the alternative
--     alternatives, open_names     what a record, a path has open
--     newly_pending, opened_names   what is opened from one path to the next of the same execution
--     opened_of, turned_of, open_of  the three lists of a run
--     Turning                     the statement
use Rattle.std.specs.Prelude.{ℕ, suc, ◌+◌, ◌<◌, Bool, true, false, cond, not, ◌&&◌, ◌≡◌, ◌≢◌, eqb, length, take, drop, get_or}
use mathlib.Core.List.{List, [], ◌∷◌, ◌++◌, map, Perm, Nodup}
use Rattle.rules.specs.Vector.{Whom, nobody, thread}
use Rattle.rules.specs.Path.{Branch, schedule, load, spurious, Choice, runs, reads, choice_of, skip, pending}
use Rattle.rules.specs.Event.{Machine}
use Rattle.rules.specs.Explorer.{Limits, Walk, tick, run, exhausted, Execution}
use Rattle.ledger.specs.History.{Course, courses, executed, left_by}
use Rattle.ledger.specs.Tree.{no_choice}
use Rattle.ledger.specs.Balance.{opened, open-in}

-- a choice is one at a place in the tree: the choices before it and the alternative, which stands last
abbrev pub Name : Type 0
Name = List Choice

-- What is open

-- the threads from t on that are in a state
unfoldable pub threads_from : ℕ → ℕ → List ℕ → List ℕ
threads_from t x [] = []
threads_from t x (s ∷ states) = cond (eqb s x) (t ∷ threads_from (t + 1) x states) (threads_from (t + 1) x states)

abbrev pub running : ℕ → Choice
running t = runs (thread t)

-- "Open: Pending marks, len−1−pos, unset bits, on exploring records"
unfoldable pub alternatives : Branch → List Choice
alternatives (schedule s) = cond s.exploring (map running (threads_from 0 pending s.states)) []
alternatives (load l) = cond l.exploring (map reads (drop (l.pos + 1) l.values)) []
alternatives (spurious u) = cond u.exploring (cond u.bit [] (Choice.says true ∷ [])) []

-- an alternative here, or one further on, after this record's choice
abbrev pub name_here : Choice → Name
name_here c = c ∷ []

abbrev pub beyond : Choice → Name → Name
beyond c n = c ∷ n

unfoldable pub open_names : List Branch → List Name
open_names [] = []
open_names (b ∷ bs) = map name_here (alternatives b) ++ map (beyond (choice_of b)) (open_names bs)

-- What is opened

-- "each Skip turned Pending on an exploring record": the threads from t on that were Skip and are Pending
unfoldable pub newly_pending : ℕ → List ℕ → List ℕ → List ℕ
newly_pending t [] ys = []
newly_pending t (x ∷ xs) [] = []
newly_pending t (x ∷ xs) (y ∷ ys) = cond (eqb x skip && eqb y pending) (t ∷ newly_pending (t + 1) xs ys) (newly_pending (t + 1) xs ys)

unfoldable pub marked_alternatives : Branch → Branch → List Choice
marked_alternatives (schedule s) (schedule r) = cond s.exploring (map running (newly_pending 0 s.states r.states)) []
marked_alternatives (schedule s) (load l) = []
marked_alternatives (schedule s) (spurious u) = []
marked_alternatives (load l) c = []
marked_alternatives (spurious u) c = []

-- from a path to a later one of the same execution: marks on the records that it had, and records added after them, which open
-- what they then have open
unfoldable pub opened_names : List Branch → List Branch → List Name
opened_names [] cs = open_names cs
opened_names (b ∷ bs) [] = []
opened_names (b ∷ bs) (c ∷ cs) = map name_here (marked_alternatives b c) ++ map (beyond (choice_of c)) (opened_names bs cs)

-- The lists of a run

unfoldable pub joined_over : {A B : Type 0} → (A → List B) → List A → List B
joined_over f [] = []
joined_over f (x ∷ xs) = f x ++ joined_over f xs

-- where an execution turns: the choices of the path that it began with, of which the last is new
abbrev pub turning_point : {S : Type 0} → Course S → Name
turning_point c = map choice_of c.known

abbrev pub choices_of : {S : Type 0} → Course S → List Choice
choices_of c = (executed c).choices

-- the same from the history alone: the choices up to the first that the execution before did not make, with it
abbrev pub same_whom : Whom → Whom → Bool
same_whom nobody nobody = true
same_whom nobody (thread t) = false
same_whom (thread t) nobody = false
same_whom (thread t) (thread u) = eqb t u

abbrev pub same_bit : Bool → Bool → Bool
same_bit a b = cond a b (not b)

abbrev pub same_choice : Choice → Choice → Bool
same_choice (runs w) (runs v) = same_whom w v
same_choice (runs w) (reads v) = false
same_choice (runs w) (Choice.says b) = false
same_choice (reads v) (runs w) = false
same_choice (reads v) (reads u) = eqb v u
same_choice (reads v) (Choice.says b) = false
same_choice (Choice.says a) (runs w) = false
same_choice (Choice.says a) (reads v) = false
same_choice (Choice.says a) (Choice.says b) = same_bit a b

unfoldable pub parting : List Choice → List Choice → Name
parting xs [] = []
parting [] (y ∷ ys) = y ∷ []
parting (x ∷ xs) (y ∷ ys) = cond (same_choice x y) (y ∷ parting xs ys) (y ∷ [])

unfoldable pub partings : List Execution → List Name
partings [] = []
partings (e ∷ []) = []
partings (e ∷ f ∷ more) = parting e.choices f.choices ∷ partings (f ∷ more)

-- all but the first
abbrev pub others : {A : Type 0} → List A → List A
others [] = []
others (x ∷ xs) = xs

module _ (M : Machine) (limits : Limits) where
  -- at a tick, in an execution, in a run
  abbrev pub opened_tick : Walk M.State → List Name
  opened_tick w = opened_names w.ledger.path (left_by (tick M limits w)).ledger.path

  abbrev pub opened_course : Course M.State → List Name
  opened_course c = joined_over opened_tick c.ticks

  unfoldable pub opened_of : ℕ → List Name
  opened_of n = joined_over opened_course (courses M limits n)

  -- the turning points of all executions but the first
  unfoldable pub turned_of : ℕ → List Name
  turned_of n = map turning_point (others (courses M limits n))

  unfoldable pub open_of : ℕ → List Name
  open_of n = open_names (run M limits n).walk.ledger.path

-- an execution after another: both reach the turning point's branch with the choices before it, there the second makes the
-- alternative, and the first did not
pub record Turns {S : Type 0} (c d : Course S) : Type 0 where
  pub place : ℕ
  pub point : length (turning_point d) ≡ suc place
  pub through : take (suc place) (choices_of d) ≡ turning_point d
  pub reached : place < length (choices_of c)
  pub before : take place (choices_of c) ≡ take place (turning_point d)
  pub new : get_or (choices_of c) place no_choice ≢ get_or (turning_point d) place no_choice

abbrev pub Each : {A : Type 0} → (A → A → Type 0) → List A → Type 0
Each R [] = Unit {0}
Each R (x ∷ []) = Unit {0}
Each R (x ∷ y ∷ xs) = R x y × Each R (y ∷ xs)

pub record Turned (M : Machine) (limits : Limits) (n : ℕ) : Type 0 where
  -- each execution but the first has one turning point, which the one before has not passed
  pub turns : Each Turns (courses M limits n)
  -- it is where the execution parts from the one before
  pub parts : turned_of M limits n ≡ partings (run M limits n).history
  -- no two executions have the same
  pub different : Nodup (turned_of M limits n)
  -- at any stop the opened ones are the turned ones together with the open ones, without repetition
  pub together : Perm (opened_of M limits n) (turned_of M limits n ++ open_of M limits n)
  pub once : Nodup (opened_of M limits n)
  -- they are those that the run counts
  pub counted : length (opened_of M limits n) ≡ opened (run M limits n)
  -- and the open ones are those that it has open
  pub as_many : length (open_of M limits n) ≡ open-in (run M limits n)
  -- "At exhaustion nothing is open and each opened choice was the turning point of exactly one execution."
  pub in-the-end : (run M limits n).verdict ≡ exhausted → (open_of M limits n ≡ []) × Perm (opened_of M limits n) (turned_of M limits n)

unfoldable pub Turning : Type 1
Turning = (M : Machine) (limits : Limits) (n : ℕ) → Turned M limits n
