-- What an execution that is over says of the run. Assumes nothing.
--     met_by               whether the final condition holds at the end of an execution
--     at_no_site             no thread and no row
--     ended_as, judged_as, Continues, Judges      what it says of the run
--     Finished            the report of a run that stops
use Rattle.std.specs.Prelude.{ℕ, List, Bool, false, cond, not, ◌≡◌, eqb, length, Option, Some, None}
use Rattle.rules.specs.State.{Clocks, Marks, Values, Numbers}
use Rattle.rules.specs.Table.{threads_of}
use Rattle.rules.specs.Condition as claims
use Rattle.rules.specs.Event.{no_site}
use Rattle.rules.specs.Path.{Branch, open_in}
use Rattle.layout.specs.Tables.{state}
use Rattle.condition.specs.Reads.{register_value}
use Rattle.path.specs.Holds.{Holds}
use Rattle.event.specs.declared.Fault.TheVariants as fault
use Rattle.event.specs.declared.Site.{Site}
use Rattle.report.specs.Answers.{report_of, ran_report}
use Rattle.report.specs.declared.Answer.{Answer}
use Rattle.report.specs.declared.Answer.TheVariants as answer
use Rattle.report.specs.declared.Report.{Report}
use Rattle.meeting.specs.declared.Cursor.{Cursor}
use Rattle.meeting.specs.declared.Outcome.{Outcome}
use Rattle.meeting.specs.declared.Outcome.TheVariants as outcome

-- whether the final condition holds of the registers in these values
abbrev pub met_by : List ℕ → List ℕ → Values → Bool
met_by table condition values = claims.holds (threads_of table) (register_value values) condition

-- the site of a fault that no thread meets
abbrev pub at_no_site : Site
at_no_site = record { thread = no_site.thread; row = no_site.row }

-- with so many choices open
abbrev pub ended_as : Bool → ℕ → Bool → Option Answer
ended_as met n last =
    cond (not met) (Some answer.Unmet)
    (cond (eqb n 0) (Some answer.Exhausted) (cond last (Some answer.Spent) None))

-- case by case as the definition's `after`: one that would still go on is the impossible outcome
abbrev pub judged_as : Bool → Outcome → ℕ → Bool → Option Answer
judged_as met outcome.Goes n last = Some (answer.Stopped fault.Impossible at_no_site)
judged_as met outcome.Over n last = ended_as met n last
judged_as met (outcome.Faulted f site) n last = Some (answer.Stopped f site)

abbrev pub Continues : Option Answer → Bool → Type 0
Continues None last = last ≡ false
Continues (Some a) last = Unit

pub record Judges (path : List ℕ) (met : Bool) (o : Outcome) (len : ℕ) (last : Bool) (v : Option Answer) : Type 0 where
  pub continues : Continues v last
  pub is : (bs : List Branch) → Holds path bs → length bs ≡ len → v ≡ judged_as met o (open_in bs) last

abbrev pub Finished : Clocks → Numbers → List ℕ → Answer → ℕ → Cursor → Report → Type 0
Finished clocks numbers path a begun c r =
    (bs : List Branch) (marks : Marks) (values : Values) → Holds path bs → length bs ≡ c.len
    → report_of r ≡ ran_report a begun c.opened (open_in bs) (state clocks marks values numbers)
