-- What the entry with a list of summaries is given and leaves, as the definition has it. Assumes nothing.
--     explored_into_of      a report with both buffers and the list
--     miscounts           the list's length is wrong, and neither the settings nor the path buffer is
use Rattle.std.specs.Prelude.{ℕ, ◌*◌, List, Bool, not, ◌||◌, eqb}
use Rattle.rules.specs.Explored as rules
use Rattle.report.specs.Answers.{summaries_of}
use Rattle.report.specs.declared.Report.{Report}
use Rattle.report.specs.declared.Summary.{Summary}
use Rattle.explorer.specs.Explores.{explored_of}

abbrev pub explored_into_of : Report → List ℕ → List ℕ → List Summary → rules.ExploredInto
explored_into_of r path trace list = record { explored = explored_of r path trace; list = summaries_of list }

abbrev pub miscounts : rules.Settings → ℕ → ℕ → Bool
miscounts s bytes listed = not (eqb listed 5 || not (rules.settings_fine s) || not (eqb bytes (16 * s.branches)))
