-- The choices of the small machine's runs by name, which the checker computes: P3's four opened choices, and how each execution
-- but the first turns at one of them; and what each execution knew when it began. Assumes nothing.
use Rattle.std.specs.Prelude.{ℕ, [], ◌∷◌, ◌++◌, map, ◌≡◌, length}
use Rattle.rules.specs.Vector.{nobody}
use Rattle.rules.specs.Path.{unbounded, runs, reads}
use Rattle.rules.specs.Event.{Entry}
use Rattle.ledger.specs.Small.{small, small_limits}
use Rattle.ledger.specs.History.{Course, end, courses}
use Rattle.ledger.specs.Play.{is_over, unanswered, played}
use Rattle.ledger.specs.Turning.{Name, running, opened_of, turned_of, open_of}

-- the loading thread is chosen first, instead of the storing one
abbrev pub loader_first : Name
loader_first = running 1 ∷ []

-- the loading thread's load reads 1, after the store
abbrev pub reads_one : Name
reads_one = running 0 ∷ running 1 ∷ running 1 ∷ reads 1 ∷ []

-- the storing thread is chosen before the load
abbrev pub storer_next : Name
storer_next = running 1 ∷ running 0 ∷ []

-- and the load then reads 1
abbrev pub then_one : Name
then_one = running 1 ∷ running 0 ∷ running 1 ∷ reads 1 ∷ []

-- "Trace entry": the store, in slot 1; the load of that slot, with both offered
abbrev pub store_entry : Entry
store_entry = record { thread = 0; row = 0; opcode = 1; slot = 1; mask = 0; value = 1 }

abbrev pub load_entry : Entry
load_entry = record { thread = 1; row = 0; opcode = 0; slot = 1; mask = 3; value = 1 }

abbrev pub known_to : {S : Type 0} → Course S → ℕ
known_to c = length c.known

abbrev pub passed_by : {S : Type 0} → Course S → ℕ
passed_by c = (end c).pos

pub record Named : Type 0 where
  -- "P3 .. 5 executions .. opened 4", in the order in which they were opened
  pub opened : opened_of small (small_limits 16 unbounded) 100 ≡ loader_first ∷ reads_one ∷ storer_next ∷ then_one ∷ []
  -- and in the order in which they were turned to
  pub turned : turned_of small (small_limits 16 unbounded) 100 ≡ reads_one ∷ loader_first ∷ storer_next ∷ then_one ∷ []
  pub none_open : open_of small (small_limits 16 unbounded) 100 ≡ []
  -- with the budget spent: after the first execution, and after the fourth
  pub open-after-one : open_of small (small_limits 16 unbounded) 1 ≡ loader_first ∷ reads_one ∷ []
  pub open-after-four : open_of small (small_limits 16 unbounded) 4 ≡ then_one ∷ []
  -- how many records each of the five executions knew when it began, and how many branches it has passed
  pub known : map known_to (courses small (small_limits 16 unbounded) 100) ≡ 0 ∷ 4 ∷ 1 ∷ 2 ∷ 4 ∷ []
  pub passed : map passed_by (courses small (small_limits 16 unbounded) 100) ≡ 5 ∷ 5 ∷ 5 ∷ 5 ∷ 5 ∷ []
  -- the last one's choices, played without a path: the store's entry, then the load of 1, with both slots offered
  pub play : (played small (small_limits 16 unbounded) 32 small.start [] 0 (then_one ++ (runs nobody ∷ []))).trace ≡ store_entry ∷ load_entry ∷ []
  -- then it is over; with one choice less thread 1 asks at its end who runs next
  pub play-over : (played small (small_limits 16 unbounded) 32 small.start [] 0 (then_one ++ (runs nobody ∷ []))).ending ≡ is_over
  pub play-short : (played small (small_limits 16 unbounded) 32 small.start [] 0 then_one).ending ≡ unanswered (record { thread = 1; row = 1 })
