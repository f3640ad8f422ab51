-- The demands, sentence by sentence, of the definition's `explored`, which is what `explore` returns and leaves in the buffers,
-- for all bytes, settings and buffers. What is looked at is named first, so that the same sentences can be said of an explorer
-- that is wrong (Wrong); they are demanded of the right one. A quotation stands in document 01, in document 02, or in the demands
-- themselves. Assumes nothing.
--     Explorer, right             what is looked at, and the definition's own
--     Answered                    demand 1: one of document 01's answers or 18, refusals exactly when, and what is left
--     Balances, Apart, Turns      demand 3: the ledger, the tree, the turning points
--     Offered                     demand 3: what loads and RMWs are offered
--     Stops                       why a run stopped
--     Sound                       what holds at every tick: nothing impossible, everything in range
--     Demands                     all of it
use Rattle.std.specs.Prelude.{ℕ, ◌+◌, ◌-◌, ◌*◌, ◌≤◌, ◌<◌, true, false, ◌≡◌, ◌≢◌, ◌⊎◌, length, get_or}
use mathlib.Core.List.{List, [], ◌∷◌, ◌++◌, map, Perm, Nodup}
use Rattle.rules.specs.Path.{written, record_bytes}
use Rattle.rules.specs.Table.{judged, good, bad_header, bad_row, threads_of}
use Rattle.rules.specs.Condition.{is_condition}
use Rattle.rules.specs.Event.{Machine, Fault, Site, impossible}
use Rattle.rules.specs.State.{State}
use Rattle.rules.specs.Machine.{machine}
use Rattle.rules.specs.Explorer.{Walk, Tick, over, faulted, Stop, exhausted, spent, unmet, stopped}
use Rattle.rules.specs.Explored.{Settings, Explored, Report, explored, refused, reported, is_refusal, settings_fine, stop_of, program_of, limits_of, trace_left, verdict_number}
use Rattle.ledger.specs.History.{Every, Course, courses, end, Told}
use Rattle.ledger.specs.Tree.{Parted, no_execution}
use Rattle.ledger.specs.Turning as turning
use Rattle.ledger.specs.Turning.{Each, Name, joined_over, turning_point, others, open_names}
use Rattle.ledger.specs.Replay as replay
use Rattle.kept.specs.Held.{HoldsOfWalk}
use Rattle.kept.specs.Rules.{RuledIn}
use Rattle.standing.specs.Standing as standing
use Rattle.bounds.specs.Range.{RangeIn}
use Rattle.offers.specs.Offered.{Among}
use Rattle.offers.specs.Chosen.{OfferingCourse}
use Rattle.offers.specs.Seen.{Seeing}

-- one thing exactly when another
pub record Exactly (A B : Type 0) : Type 0 where
  pub only : A → B
  pub whenever : B → A

-- document 01's table of answers: "Answer 18 joins document 01's table"
abbrev pub the_answers : List ℕ
the_answers = 0 ∷ 1 ∷ 2 ∷ 3 ∷ 4 ∷ 5 ∷ 10 ∷ 11 ∷ 12 ∷ 13 ∷ 14 ∷ 15 ∷ 16 ∷ 17 ∷ 18 ∷ []

-- how the last of these executions came out
abbrev pub LastIs : List (Course State) → Tick State → Type 0
LastIs [] t = ⊥
LastIs (c ∷ []) t = c.outcome ≡ t
LastIs (c ∷ d ∷ more) t = LastIs (d ∷ more) t

-- that each of these but the last has a property
abbrev pub ButLast : (Course State → Type 0) → List (Course State) → Type 0
ButLast P [] = Unit {0}
ButLast P (c ∷ []) = Unit {0}
ButLast P (c ∷ d ∷ more) = P c × ButLast P (d ∷ more)

-- What is looked at: what is returned and left for any bytes, settings and buffers; the run behind it; and its executions, each
-- from its beginning to its end
pub record Explorer : Type 0 where
  pub explored : List ℕ → List ℕ → Settings → List ℕ → List ℕ → Explored
  pub run : List ℕ → List ℕ → Settings → Stop State
  pub executions : List ℕ → List ℕ → Settings → List (Course State)

-- those of the definition
abbrev pub right : Explorer
right = record {
  explored = explored;
  run = stop_of;
  executions = λ table condition s. courses (machine (program_of table condition s)) (limits_of s) s.executions;
}

module _ (x : Explorer) (table condition : List ℕ) (s : Settings) (path trace : List ℕ) where
  -- what `explore` returns and leaves
  abbrev pub it : Explored
  it = x.explored table condition s path trace

  abbrev pub report : Report
  report = it.report

  -- the run behind it, and its executions
  abbrev pub run : Stop State
  run = x.run table condition s

  abbrev pub executions : List (Course State)
  executions = x.executions table condition s

  -- the machine that they are judged by, and the choices by name: opened at their ticks, turned to by all but the first, and open
  -- in the path left
  abbrev pub the_machine : Machine
  the_machine = machine (program_of table condition s)

  abbrev pub opened_choices : List Name
  opened_choices = joined_over (turning.opened_course the_machine (limits_of s)) executions

  abbrev pub turned_choices : List Name
  turned_choices = map turning_point (others executions)

  abbrev pub open_choices : List Name
  open_choices = open_names run.walk.ledger.path

  -- Demand 1

  abbrev pub SettingsInRange : Type 0
  SettingsInRange = settings_fine s ≡ true

  abbrev pub PathFits : Type 0
  PathFits = length path ≡ record_bytes * s.branches

  abbrev pub TraceFits : Type 0
  TraceFits = length trace ≡ record_bytes * s.operations

  -- the table is refused, or the bytes of the condition are none
  abbrev pub BadInput : Type 0
  BadInput = (judged table ≢ good) ⊎ (is_condition (threads_of table) condition ≡ false)

  pub record Answered : Type 0 where
    -- "Any bytes as a table, any settings, any buffers get an answer.": one of document 01's, and no other
    pub one : Among report.answer the_answers
    -- "Each refusal is given exactly when document 01 says": "Checks run 2, 3, 4, 5"
    pub two : Exactly (report.answer ≡ 2) (settings_fine s ≡ false)
    pub three : Exactly (report.answer ≡ 3) (SettingsInRange × (PathFits → ⊥))
    pub four : Exactly (report.answer ≡ 4) (SettingsInRange × PathFits × (TraceFits → ⊥))
    pub five : Exactly (report.answer ≡ 5) (SettingsInRange × PathFits × TraceFits × BadInput)
    -- "for 5 the first bad row, or 255, 255 if header or length is bad"
    pub header : report.answer ≡ 5 → judged table ≡ bad_header → (report.thread ≡ 255) × (report.row ≡ 255)
    pub row : report.answer ≡ 5 → (t k : ℕ) → judged table ≡ bad_row t k → (report.thread ≡ t) × (report.row ≡ k)
    -- and where the table is good, "the condition's place (thread and row 255)"
    pub claim : report.answer ≡ 5 → judged table ≡ good → (report.thread ≡ 255) × (report.row ≡ 255)
    -- "and what it leaves in the buffers is fixed": as they are, with zero counts and summaries
    pub leaves : is_refusal report.answer ≡ true → it ≡ refused report.answer report.thread report.row path trace
    -- else there was a run: the report is that of its stop
    pub reports : is_refusal report.answer ≡ false → report ≡ reported run
    -- and the buffers hold the records of its path and the entries of its last execution, and zeros past them
    pub ran :
        is_refusal report.answer ≡ false
        → (it.path ≡ written (length path) run.walk.ledger.path) × (it.trace ≡ trace_left (length trace) run.walk.trace)

  -- Demand 3

  pub record Balances : Type 0 where
    -- "at every stop, executions begun = 1 + choices opened in the whole history − choices open in the path left"
    pub equation : report.begun ≡ 1 + report.opened - report.still_open
    -- where nothing is lost by the subtraction
    pub within : report.still_open ≤ report.opened
    -- what is counted is what there is: the executions, the choices opened at each tick of each, those open in the path left
    pub begun : report.begun ≡ length executions
    pub opened : report.opened ≡ length opened_choices
    pub left : report.still_open ≡ length open_choices
    -- the executions are those that the machine makes one after another, each from the next path, and the history is theirs
    pub told : Told the_machine (limits_of s) s.executions executions run

  -- "Any two executions made equal choices up to some branch, which both reach, then different ones."
  abbrev pub Apart : Type 0
  Apart =
      (i j : ℕ) → i < j → j < length run.history
      → Parted (get_or run.history i no_execution).choices (get_or run.history j no_execution).choices

  pub record Turns : Type 0 where
    -- each execution but the first turns where the one before has not: to a choice that was opened and that none turned to before
    pub turns : Each turning.Turns executions
    pub different : Nodup turned_choices
    -- at any stop the choices opened are those turned to, and those open
    pub together : Perm opened_choices (turned_choices ++ open_choices)
    pub once : Nodup opened_choices
    -- "At exhaustion nothing is open and each opened choice was the turning point of exactly one execution."
    pub exhausted : report.answer ≡ 0 → (report.still_open ≡ 0) × Perm opened_choices turned_choices

  pub record Offered : Type 0 where
    -- "Every unrefused load and RMW is offered, judged as its slot is chosen, each live store recorded below no other, and never one
    -- recorded below another live store that its thread has seen by then.", on new and on known branches alike
    pub offers : Every (OfferingCourse (program_of table condition s) (limits_of s)) executions
    -- what a thread has itself read or written, and what is still live of it, counts as seen by it
    pub seen : Every (Seeing (program_of table condition s) (limits_of s)) executions

  -- an execution came to its end, and its condition was true there
  abbrev pub ConditionMet : Course State → Type 0
  ConditionMet c = (c.outcome ≡ over (end c)) × (the_machine.final (end c).state ≡ true)

  pub record Stops : Type 0 where
    -- the answer is the verdict's
    pub says : report.answer ≡ verdict_number run.verdict
    -- "0 an execution ended, no choice open"
    pub exhausted : run.verdict ≡ exhausted → LastIs executions (over run.walk) × (report.still_open ≡ 0)
    -- "1 N executions ended, some choice open"
    pub spent :
        run.verdict ≡ spent → LastIs executions (over run.walk) × (0 < report.still_open) × (report.begun ≡ s.executions)
    -- "The condition is judged when all threads have ended; a false one is answer 18 .., with the condition's place (thread and row
    -- 255)"
    pub unmet :
        Exactly (run.verdict ≡ unmet) (LastIs executions (over run.walk) × (the_machine.final run.walk.state ≡ false))
    pub place : report.answer ≡ 18 → (report.thread ≡ 255) × (report.row ≡ 255)
    -- "ahead of 0 and 1 .., and the run stops there": it was true at the end of every execution but the last; with 0 and 1, of all
    pub earlier : ButLast ConditionMet executions
    pub met : report.answer ≤ 1 → Every ConditionMet executions
    -- "In a run the first fault stops everything": the last execution met that very fault, there
    pub fault : (f : Fault) (site : Site) → run.verdict ≡ stopped f site → LastIs executions (faulted f site run.walk)

  pub record Sound : Type 0 where
    -- no execution comes to the impossible outcome
    pub possible : Every (λ c. (site : Site) (w : Walk State) → c.outcome ≡ faulted impossible site w → ⊥) executions
    -- threads, rows and entries stand as they should at every tick, and where an execution has ended or stopped
    pub stands : Every (λ c. Every (HoldsOfWalk the_machine (standing.FactsHold (program_of table condition s))) c.ticks) executions
    pub stood : Every (λ c. HoldsOfWalk the_machine (standing.FactsLeft (program_of table condition s)) (end c)) executions
    -- every part of every vector, every count and every mark is in range, by the rows that were begun
    pub ranges : Every (RangeIn (program_of table condition s)) executions
    -- every record of the path obeys document 01's rules, and no preemption bound is passed, at every moment
    pub records : Every (RuledIn the_machine (limits_of s)) executions
    -- an execution is a function of its choices, and goes along the path that it knows
    pub follows : Every (replay.Follows the_machine (limits_of s)) executions

  pub record Run : Type 0 where
    pub balances : Balances
    pub apart : Apart
    pub turns : Turns
    pub offered : Offered
    pub stops : Stops
    pub sound : Sound

-- For any input
pub record Demanded (x : Explorer) (table condition : List ℕ) (s : Settings) (path trace : List ℕ) : Type 0 where
  pub answered : Answered x table condition s path trace
  pub run : is_refusal (report x table condition s path trace).answer ≡ false → Run x table condition s path trace

unfoldable pub Demands : Type 0
Demands = (table condition : List ℕ) (s : Settings) (path trace : List ℕ) → Demanded right table condition s path trace
