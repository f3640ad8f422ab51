-- The path: the branches of an execution in the order in which they were met, and how they are added, marked and stepped:
-- document 01, "`Path`", "Path record", "Opened" and "Open". Assumes nothing: every function is defined on every list.
--     Branch, encoded            a branch, and its 16 bytes
--     thread_added, load_added, spurious_added     a branch added at the end
--     backtracked                marks made from a point, and what they open
--     open_at, open_in             what is open
--     stepped                    the next path to be tried
--     choice_of                   what a branch chooses
use Rattle.std.specs.Prelude.{ℕ, zero, suc, ◌+◌, ◌-◌, ◌*◌, ◌/◌, ◌%◌, List, [], ◌∷◌, ◌++◌, map, Bool, true, false, cond, not, ◌&&◌, ◌||◌, ltb, leb, eqb, length, get_or, set, replicate}
use Rattle.rules.specs.State.{history}
use Rattle.rules.specs.Vector.{Whom, nobody, thread, one_up}

-- Branches

-- "five states (0 Disabled, 1 Skip, 2 Yield, 3 Pending, 4 Active, 5 Visited)"
abbrev pub disabled : ℕ
disabled = 0

abbrev pub skip : ℕ
skip = 1

abbrev pub yield : ℕ
yield = 2

abbrev pub pending : ℕ
pending = 3

abbrev pub active : ℕ
active = 4

abbrev pub visited : ℕ
visited = 5

-- "initial active or 255", "prev u16 or 65535": the numbers that stand for none
abbrev pub no_thread : ℕ
no_thread = 255

abbrev pub no_prev : ℕ
no_prev = 65535

-- "prev u16": so many positions can be told apart in it, and in an access's branch
abbrev pub positions : ℕ
positions = 65536

-- "schedule: five states .., preemptions, initial active or 255, prev u16 or 65535"
pub record Schedule : Type 0 where
  pub exploring : Bool
  pub states : List ℕ
  pub preemptions : ℕ
  pub initial : ℕ
  pub prev : ℕ

-- "load: seven values, pos, len": the values are the offers, and len is how many there are
pub record Load : Type 0 where
  pub exploring : Bool
  pub values : List ℕ
  pub pos : ℕ

-- "spurious: bit"
pub record Spurious : Type 0 where
  pub exploring : Bool
  pub bit : Bool

-- "Path record: kind (1 schedule, 2 load, 3 spurious), exploring"
pub data Branch : Type 0 where
  schedule : Schedule → Branch
  load : Load → Branch
  spurious : Spurious → Branch

abbrev pub is_exploring : Branch → Bool
is_exploring (schedule s) = s.exploring
is_exploring (load l) = l.exploring
is_exploring (spurious u) = u.exploring

-- The bytes of a record

abbrev pub record_bytes : ℕ
record_bytes = 16

abbrev pub flag : Bool → ℕ
flag b = cond b 1 0

-- "Path record: kind .., exploring; schedule: five states .., preemptions, initial active or 255, prev u16 or 65535; load: seven
-- values, pos, len; spurious: bit. Rest zero." [Q20]
unfoldable pub encoded : Branch → List ℕ
encoded (schedule s) =
    1 ∷ flag s.exploring ∷ (s.states ++ (s.preemptions ∷ s.initial ∷ s.prev % 256 ∷ s.prev / 256 ∷ replicate 5 0))
encoded (load l) =
    2
    ∷ flag l.exploring
    ∷ (l.values ++ (replicate (history - length l.values) 0 ++ (l.pos ∷ length l.values ∷ replicate 5 0)))
encoded (spurious u) = 3 ∷ flag u.exploring ∷ flag u.bit ∷ replicate 13 0

unfoldable pub encoded_all : List Branch → List ℕ
encoded_all [] = []
encoded_all (b ∷ bs) = encoded b ++ encoded_all bs

-- "all bytes past the last path record .. are zero": a buffer of n bytes that holds this path
unfoldable pub written : ℕ → List Branch → List ℕ
written n bs = encoded_all bs ++ replicate (n - record_bytes * length bs) 0

-- The threads of a schedule

-- the lowest thread that is in a state
unfoldable pub first_in : ℕ → List ℕ → Whom
first_in x [] = nobody
first_in x (s ∷ states) = cond (eqb s x) (thread 0) (one_up (first_in x states))

abbrev pub active_in : List ℕ → Whom
active_in = first_in active

-- a thread as the record's number: "or 255"
abbrev pub or_none : Whom → ℕ
or_none nobody = no_thread
or_none (thread t) = t

unfoldable pub active_of : Schedule → ℕ
active_of s = or_none (active_in s.states)

-- "Without Active in the seed the first Yield becomes Active."
abbrev pub to_active : Whom → List ℕ → List ℕ
to_active nobody states = states
to_active (thread t) states = set states t active

abbrev pub unless_active : Whom → List ℕ → List ℕ
unless_active nobody seed = to_active (first_in yield seed) seed
unless_active (thread t) seed = seed

unfoldable pub toggled : List ℕ → List ℕ
toggled seed = unless_active (active_in seed) seed

-- the preemptions up to a schedule and with it: one more where it chooses another than the thread that was active at first
-- (path.rs: Schedule::preemptions)
unfoldable pub preemptions_with : Schedule → ℕ
preemptions_with s =
    cond (eqb s.initial no_thread || eqb s.initial (active_of s)) s.preemptions (s.preemptions + 1)

-- A schedule with its position among all branches, or none

pub data ScheduleAt : Type 0 where
  none : ScheduleAt
  at : ℕ → Schedule → ScheduleAt

-- one branch further on
abbrev pub one_further : ScheduleAt → ScheduleAt
one_further none = none
one_further (at k s) = at (k + 1) s

abbrev pub or_first : ScheduleAt → Branch → ScheduleAt
or_first (at k s) b = at k s
or_first none (schedule s) = at 0 s
or_first none (load l) = none
or_first none (spurious u) = none

-- the schedule before a new branch: the last of the path (path.rs: last_schedule)
unfoldable pub last_schedule : List Branch → ScheduleAt
last_schedule [] = none
last_schedule (b ∷ bs) = or_first (one_further (last_schedule bs)) b

-- the preemptions before a new branch [Q20]
abbrev pub preemptions_after : ScheduleAt → ℕ
preemptions_after none = 0
preemptions_after (at k s) = preemptions_with s

-- the Active of the new branch, unless the schedule before has another [Q20] (path.rs: branch_thread)
abbrev pub initial_after : ScheduleAt → ℕ → ℕ
initial_after none now = now
initial_after (at k s) now = cond (eqb now (active_of s)) now no_thread

abbrev pub prev_of : ScheduleAt → ℕ
prev_of none = no_prev
prev_of (at k s) = k

-- Adding a branch

pub data Added : Type 0 where
  added : Branch → Added
  full : Added
  preempted : Added

abbrev pub new_schedule : Bool → ScheduleAt → List ℕ → Schedule
new_schedule exploring last states = record {
  exploring = exploring;
  states = states;
  preemptions = preemptions_after last;
  initial = initial_after last (or_none (active_in states));
  prev = prev_of last;
}

-- "11 a branch is to be added with B present"; "17 a new schedule branch's preemptions would pass 255 (tested after 11; the
-- branch isn't added)" [Q10]. A branch in which nobody is Active is one too [Q9]
unfoldable pub thread_added : ℕ → List Branch → Bool → List ℕ → Added
thread_added B bs exploring seed =
    cond (leb B (length bs)) full
    (cond (ltb 255 (preemptions_after (last_schedule bs))) preempted
    (added (schedule (new_schedule exploring (last_schedule bs) (toggled seed)))))

-- a load branch reads its first value first (path.rs: push_load)
unfoldable pub load_added : ℕ → List Branch → Bool → List ℕ → Added
load_added B bs exploring offers =
    cond (leb B (length bs)) full (added (load (record { exploring = exploring; values = offers; pos = 0 })))

-- a spurious branch says 0 first (path.rs: branch_spurious)
unfoldable pub spurious_added : ℕ → List Branch → Bool → Added
spurious_added B bs exploring =
    cond (leb B (length bs)) full (added (spurious (record { exploring = exploring; bit = false })))

-- Marks

-- "`explore` turns only Skip into Pending"
abbrev pub skip_to_pending : ℕ → ℕ
skip_to_pending s = cond (eqb s skip) pending s

-- "a disabled target explores all Skip". A thread that is none is no target (path.rs: Schedule::backtrack)
unfoldable pub marked : List ℕ → ℕ → List ℕ
marked states t = cond (eqb (get_or states t visited) disabled) (map skip_to_pending states) (set states t (skip_to_pending (get_or states t visited)))

-- "Opened: each Skip turned Pending": how many are Skip in the first states and Pending in the second
unfoldable pub made_pending : List ℕ → List ℕ → ℕ
made_pending [] ys = 0
made_pending (x ∷ xs) [] = 0
made_pending (x ∷ xs) (y ∷ ys) = cond (eqb x skip && eqb y pending) 1 0 + made_pending xs ys

-- "preemption bound none or 0..255"
pub data Bound : Type 0 where
  unbounded : Bound
  at_most : ℕ → Bound

-- a record whose preemptions equal the bound takes no marks [Q32] (path.rs: Schedule::backtrack)
unfoldable pub takes_marks : Bound → Schedule → Bool
takes_marks unbounded s = true
takes_marks (at_most n) s = not (eqb s.preemptions n)

abbrev pub with_states : Schedule → List ℕ → Schedule
with_states s states = record {
  exploring = s.exploring;
  states = states;
  preemptions = s.preemptions;
  initial = s.initial;
  prev = s.prev;
}

unfoldable pub schedule_marked : Bound → Schedule → ℕ → Schedule
schedule_marked bound s t = cond (takes_marks bound s) (with_states s (marked s.states t)) s

-- a path, and how many choices were opened in it
pub record Marked : Type 0 where
  pub path : List Branch
  pub opened : ℕ

-- no schedule at the place: nothing is marked
abbrev pub unmarked : List Branch → Marked
unmarked bs = record { path = bs; opened = 0 }

abbrev pub marked_at : Bound → List Branch → ScheduleAt → ℕ → Marked
marked_at bound bs none t = unmarked bs
marked_at bound bs (at k s) t = record {
  path = set bs k (schedule (schedule_marked bound s t));
  opened = made_pending s.states (schedule_marked bound s t).states;
}

-- the schedule at a position, if there is one
abbrev pub the_schedule : ℕ → Branch → ScheduleAt
the_schedule k (schedule s) = at k s
the_schedule k (load l) = none
the_schedule k (spurious u) = none

-- what stands where there is no branch
abbrev pub no_branch : Branch
no_branch = load (record { exploring = false; values = []; pos = 0 })

unfoldable pub schedule_at : List Branch → ℕ → ScheduleAt
schedule_at bs k = the_schedule k (get_or bs k no_branch)

abbrev pub if_exploring : ScheduleAt → ScheduleAt → ScheduleAt
if_exploring none other = other
if_exploring (at k s) other = cond s.exploring (at k s) other

-- the last exploring schedule among the first n branches (path.rs: backtrack)
unfoldable pub exploring_below : List Branch → ℕ → ScheduleAt
exploring_below bs zero = none
exploring_below bs (suc k) = let below = exploring_below bs k in if_exploring (schedule_at bs k) below

-- a schedule, at its position among all branches
pub record Placed : Type 0 where
  pub place : ℕ
  pub schedule : Schedule

abbrev pub and_schedule : ℕ → Branch → List Placed → List Placed
and_schedule k (schedule s) more = record { place = k; schedule = s } ∷ more
and_schedule k (load l) more = more
and_schedule k (spurious u) more = more

-- the schedules among the first n branches, newest first
unfoldable pub schedules_below : List Branch → ℕ → List Placed
schedules_below bs zero = []
schedules_below bs (suc k) = and_schedule k (get_or bs k no_branch) (schedules_below bs k)

-- "With a bound, the second backtrack walks `prev` as in the source" (path.rs: backtrack): of these schedules, newest first,
-- the first exploring one whose Active is not that of the schedule before it; the very first of all counts, if it is exploring
unfoldable pub switch_in : List Placed → ScheduleAt
switch_in [] = none
switch_in (a ∷ []) = if_exploring (at a.place a.schedule) none
switch_in (a ∷ b ∷ more) =
    cond (a.schedule.exploring && not (eqb (active_of a.schedule) (active_of b.schedule)))
    (at a.place a.schedule)
    (switch_in (b ∷ more))

abbrev pub with_opened : ℕ → Marked → Marked
with_opened n m = record { path = m.path; opened = n + m.opened }

-- the second mark, where the first was looked for at this schedule: not where no exploring schedule was found, nor where none
-- stands before it [Q32]
unfoldable pub marked_before : Bound → Marked → ScheduleAt → ℕ → Marked
marked_before bound m none t = m
marked_before bound m (at k s) t =
    with_opened m.opened (marked_at bound m.path (switch_in (schedules_below m.path k)) t)

-- `backtrack` from a branch for a thread. With a bound the second mark is made also where the first left none [Q22]
unfoldable pub backtracked : Bound → List Branch → ℕ → ℕ → Marked
backtracked unbounded bs point t = marked_at unbounded bs (exploring_below bs (point + 1)) t
backtracked (at_most n) bs point t =
    marked_before (at_most n) (marked_at (at_most n) bs (exploring_below bs (point + 1)) t) (exploring_below bs (point + 1)) t

-- What is open, and the next path

abbrev pub is_pending : ℕ → ℕ
is_pending s = cond (eqb s pending) 1 0

unfoldable pub pendings : List ℕ → ℕ
pendings [] = 0
pendings (s ∷ states) = is_pending s + pendings states

-- "Open: Pending marks, len−1−pos, unset bits, on exploring records". It is also what a branch opens that is just added: "len−1
-- at each exploring load added; 1 at each exploring spurious added", and nothing at a schedule, whose seed has no Pending
unfoldable pub open_at : Branch → ℕ
open_at (schedule s) = cond s.exploring (pendings s.states) 0
open_at (load l) = cond l.exploring (length l.values - 1 - l.pos) 0
open_at (spurious u) = cond u.exploring (cond u.bit 0 1) 0

unfoldable pub open_in : List Branch → ℕ
open_in [] = 0
open_in (b ∷ bs) = open_at b + open_in bs

abbrev pub to_visited : Whom → List ℕ → List ℕ
to_visited nobody states = states
to_visited (thread t) states = set states t visited

abbrev pub left : List ℕ → List ℕ
left states = to_visited (active_in states) states

-- the Active becomes Visited, and the first Pending Active (path.rs: step)
unfoldable pub turned : List ℕ → List ℕ
turned states = to_active (first_in pending (left states)) (left states)

-- a branch at its next choice (path.rs: step)
unfoldable pub turned_branch : Branch → Branch
turned_branch (schedule s) = schedule (with_states s (turned s.states))
turned_branch (load l) = load (record { exploring = l.exploring; values = l.values; pos = l.pos + 1 })
turned_branch (spurious u) = spurious (record { exploring = u.exploring; bit = true })

-- the next path (path.rs: step): the last branch with an open choice is set to its next one, and every branch after it is
-- dropped. Nothing is left where nothing is open
abbrev pub or_turned : List Branch → Branch → List Branch
or_turned [] b = cond (ltb 0 (open_at b)) (turned_branch b ∷ []) []
or_turned (c ∷ cs) b = b ∷ c ∷ cs

unfoldable pub stepped : List Branch → List Branch
stepped [] = []
stepped (b ∷ bs) = or_turned (stepped bs) b

-- What a branch chooses

pub data Choice : Type 0 where
  runs : Whom → Choice
  reads : ℕ → Choice
  says : Bool → Choice

unfoldable pub choice_of : Branch → Choice
choice_of (schedule s) = runs (active_in s.states)
choice_of (load l) = reads (get_or l.values l.pos 0)
choice_of (spurious u) = says u.bit
