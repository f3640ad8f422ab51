-- What the explorer leaves, as the definition has it. Assumes nothing.
use Rattle.std.specs.Prelude.{ℕ, List}
use Rattle.rules.specs.Explored as rules
use Rattle.report.specs.Answers.{report_of}
use Rattle.report.specs.declared.Report.{Report}

-- a report with both buffers
abbrev pub explored_of : Report → List ℕ → List ℕ → rules.Explored
explored_of r path trace = record { report = report_of r; path = path; trace = trace }
