-- Demand 3, the balance, of every run of every machine. Assumes nothing of the machine.
--     begun, opened, open-in   the three counts of a run that has stopped
--     Balance, Balanced        what they come to
--     Begun                    the executions begun are those of the history
--     Adds, AddedOpens         what a record opens that is added
--     Quiet                    records that are not exploring
--     Counted                  what a mark is counted for
use Rattle.std.specs.Prelude.{ℕ, ◌+◌, ◌-◌, ◌≤◌, ◌<◌, List, Bool, false, cond, ◌≡◌, length, get_or}
use Rattle.rules.specs.Path.{Branch, Bound, is_exploring, open_at, open_in, backtracked, no_branch, skip, marked, made_pending, pendings, visited}
use Rattle.rules.specs.Vector.{Whom}
use Rattle.rules.specs.Event.{Machine, Point, Standing, offers, slots_of, which_thread, which_slot, which_bit}
use Rattle.rules.specs.Explorer.{pushed, pushes, Limits, Stop, run, exhausted, spent}

-- The three counts

-- "executions begun", as the report gives it
abbrev pub begun : {S : Type 0} → Stop S → ℕ
begun r = r.walk.ledger.begun

-- "choices opened in the whole history"
abbrev pub opened : {S : Type 0} → Stop S → ℕ
opened r = r.walk.ledger.opened

-- "choices open in the path left"
abbrev pub open-in : {S : Type 0} → Stop S → ℕ
open-in r = open_in r.walk.ledger.path

-- The balance of a run with a budget of n executions

pub record Balance {S : Type 0} (n : ℕ) (r : Stop S) : Type 0 where
  -- "executions begun = 1 + choices opened in the whole history − choices open in the path left"
  pub equation : begun r ≡ 1 + opened r - open-in r
  -- where nothing is lost by the subtraction
  pub within : open-in r ≤ opened r
  -- the same as a sum
  pub sum : begun r + open-in r ≡ 1 + opened r
  -- "0 an execution ended, no choice open": then every choice opened has had its execution
  pub none_left : r.verdict ≡ exhausted → (open-in r ≡ 0) × (begun r ≡ 1 + opened r)
  -- "1 N executions ended, some choice open"
  pub some_left : r.verdict ≡ spent → (0 < open-in r) × (begun r ≡ n)
  -- "execution budget N"
  pub budget : (1 ≤ begun r) × (begun r ≤ n)

-- "at every stop": exhausted, with the budget spent, or at whatever fault; and where a condition is not met, "the balance holds at
-- that stop too"
unfoldable pub Balanced : Type 1
Balanced = (M : Machine) (limits : Limits) (n : ℕ) → 1 ≤ n → Balance n (run M limits n)

-- Each execution begun has its place in the history, the last one too, however it stopped
unfoldable pub Begun : Type 1
Begun = (M : Machine) (limits : Limits) (n : ℕ) → begun (run M limits n) ≡ length (run M limits n).history

-- What an added record opens is what it then has open. "Opened: .. len−1 at each exploring load added; 1 at each exploring spurious
-- added": so it is; and a schedule opens none, for no thread of a seed is Pending
pub record Adds (B : ℕ) (bs : List Branch) (exploring : Bool) (b : Branch) : Type 0 where
  pub a-schedule : (points : List Point) (initial : Whom) (standings : List Standing) →
      pushed B bs exploring (which_thread points initial standings) ≡ pushes b → open_at b ≡ 0
  pub a-load : (slots : List Bool) → pushed B bs exploring (which_slot (offers slots)) ≡ pushes b →
      open_at b ≡ cond exploring (length (slots_of slots) - 1) 0
  pub a-bit : pushed B bs exploring which_bit ≡ pushes b → open_at b ≡ cond exploring 1 0

unfoldable pub AddedOpens : Type 0
AddedOpens = (B : ℕ) (bs : List Branch) (exploring : Bool) (b : Branch) → Adds B bs exploring b

-- Records that are not exploring open nothing and keep nothing open
pub record Quiet : Type 0 where
  -- they take no mark
  pub takes-no-mark : (bound : Bound) (bs : List Branch) (point t k : ℕ) → is_exploring (get_or bs k no_branch) ≡ false →
      get_or (backtracked bound bs point t).path k no_branch ≡ get_or bs k no_branch
  -- and have nothing open, so that none is opened when they are added
  pub keeps-none : (b : Branch) → is_exploring b ≡ false → open_at b ≡ 0

-- "Opened: each Skip turned Pending": a mark is counted for those that it makes Pending, and it turns no other state
pub record Counted : Type 0 where
  pub each : (states : List ℕ) (t : ℕ) → pendings (marked states t) ≡ pendings states + made_pending states (marked states t)
  pub only : (states : List ℕ) (t k : ℕ) → (get_or states k visited ≡ skip → ⊥) → get_or (marked states t) k visited ≡ get_or states k visited
