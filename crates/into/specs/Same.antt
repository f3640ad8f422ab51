-- Two answers of the second entry that meet its promise are equal: the report, number by number, both buffers, and the list. Assumes
-- nothing.
use Rattle.std.specs.Prelude.{ℕ, List, ◌≡◌}
use Rattle.rules.specs.Explored as rules
use Rattle.report.specs.Answers.{report_of, summaries_of}
use Rattle.report.specs.declared.Report.{Report}
use Rattle.report.specs.declared.Summary.{Summary}
use Rattle.settings.specs.Given.{settings_of}
use Rattle.settings.specs.declared.Settings.{Settings}
use Rattle.into.specs.Listed.{explored_into_of}

unfoldable pub OneInto : Type 0
OneInto =
    (table condition : List ℕ) (s : Settings) (path trace : List ℕ) (list : List Summary)
    (r q : Report) (left_path left_trace other_path other_trace : List ℕ) (left_list other_list : List Summary)
    → explored_into_of r left_path left_trace left_list ≡ rules.explored_into table condition (settings_of s) path trace (summaries_of list)
    → explored_into_of q other_path other_trace other_list ≡ rules.explored_into table condition (settings_of s) path trace (summaries_of list)
    → (report_of r ≡ report_of q) × (left_path ≡ other_path) × (left_trace ≡ other_trace) × (left_list ≡ other_list)
