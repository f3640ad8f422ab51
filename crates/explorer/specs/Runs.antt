-- What the functions of a run promise. Assumes nothing.
--     Greater, Further    the greater of two numbers; what a run has come to with one execution more
--     RunComing, Running  a run before its next execution
--     Stepped             with the next path
--     RunStopped          the report of a run that stops, and the trace that it leaves
--     Empty, Ran          buffers that hold nothing; the report and the buffers that a run leaves
use Rattle.std.specs.Prelude.{ℕ, ◌+◌, ◌-◌, ◌*◌, ◌≤◌, ◌<◌, List, ◌≡◌, length, get_or}
use Rattle.rules.specs.State.{Clocks, Numbers}
use Rattle.rules.specs.Explorer as explorer
use Rattle.rules.specs.Explorer.{Ledger, Execution}
use Rattle.rules.specs.Explored as rules
use Rattle.rules.specs.Explored.{Settings, limits_of}
use Rattle.path.specs.Steps.{StepsPath}
use Rattle.trace.specs.Entries.{Cleared}
use Rattle.report.specs.declared.Answer.{Answer}
use Rattle.report.specs.declared.Report.{Report}
use Rattle.meeting.specs.declared.Cursor.{Cursor}
use Rattle.meeting.specs.declared.Ticked.{Ticked}
use Rattle.iteration.specs.Executes.{most_opened, machine_of, RunReady, Knows}
use Rattle.ending.specs.Ends.{Finished}
use Rattle.explorer.specs.Explores.{explored_of}
use Rattle.explorer.specs.declared.run.Progress.{Progress}

pub record Greater (x y r : ℕ) : Type 0 where
  pub left : x ≤ r
  pub right : y ≤ r
  pub least : (n : ℕ) → x ≤ n → y ≤ n → r ≤ n

pub record Further (p : Progress) (over : Ticked) (q : Progress) : Type 0 where
  pub same-cursor : q.cursor ≡ over.cursor
  pub longer : Greater p.longest over.cursor.entries q.longest
  pub more : q.begun ≡ p.begun + 1

-- after so many executions: the rest of the run is that from a ledger
pub record RunComing (table condition : List ℕ) (s : Settings) (path : List ℕ) (c : Cursor) (begun : ℕ) : Type 0 where
  pub ledger : Ledger
  pub past : List Execution
  pub knows : Knows path c ledger
  pub is-begun : ledger.begun ≡ begun
  pub rest :
      rules.stop_of table condition s
      ≡ explorer.run_from (machine_of table condition s) (limits_of s) (s.executions - begun) ledger past

-- and the bytes past the longest trace so far hold nothing
pub record Running (table condition : List ℕ) (s : Settings) (path trace : List ℕ) (p : Progress) : Type 0 where
  pub allowed : p.begun < s.executions
  pub within : 16 * p.cursor.len ≤ length path
  pub few : p.cursor.opened ≤ most_opened * p.begun
  pub room : 16 * p.longest ≤ length trace
  pub ready : RunReady table s path trace
  pub clean : (i : ℕ) → 16 * p.longest ≤ i → get_or trace i 0 ≡ 0
  pub coming : RunComing table condition s path p.cursor p.begun

pub record Stepped (entry exit : List ℕ) (p q : Progress) : Type 0 where
  pub steps : StepsPath entry exit p.cursor.len q.cursor.len
  pub same-opened : q.cursor.opened ≡ p.cursor.opened
  pub same-longest : q.longest ≡ p.longest
  pub same-begun : q.begun ≡ p.begun

pub record RunStopped (clocks : Clocks) (numbers : Numbers) (path trace exit_trace : List ℕ) (a : Answer) (p : Progress) (r : Report) : Type 0 where
  pub cleared : Cleared trace exit_trace (16 * p.cursor.entries) (16 * p.longest)
  pub finished : Finished clocks numbers path a p.begun p.cursor r

abbrev pub Empty : List ℕ → Type 0
Empty bytes = (i : ℕ) → get_or bytes i 0 ≡ 0

-- the report and both buffers are the definition's
abbrev pub Ran : List ℕ → List ℕ → Settings → List ℕ → List ℕ → Report → List ℕ → List ℕ → Type 0
Ran table condition s path trace r exit_path exit_trace =
    explored_of r exit_path exit_trace ≡ rules.ran (length path) (length trace) (rules.stop_of table condition s)
