-- Two answers that meet a promise are equal. Assumes nothing.
--     OneAnswer      of any function whose promise is an equation between what its answer stands for and a definition
--     OneExplored    of `explore`: the report, number by number, and both buffers
use Rattle.std.specs.Prelude.{ℕ, List, ◌≡◌}
use Rattle.rules.specs.Explored as rules
use Rattle.report.specs.Answers.{report_of}
use Rattle.report.specs.declared.Report.{Report}
use Rattle.settings.specs.Given.{settings_of}
use Rattle.explorer.specs.Explores.{explored_of}
use Rattle.settings.specs.declared.Settings.{Settings}

unfoldable pub OneAnswer : Type 1
OneAnswer = (A B : Type 0) (stands-for : A → B) (definition : B) (x y : A) → stands-for x ≡ definition → stands-for y ≡ definition → stands-for x ≡ stands-for y

-- what `explore` promises of a report and of both buffers as they are left
abbrev pub Promised : List ℕ → List ℕ → Settings → List ℕ → List ℕ → Report → List ℕ → List ℕ → Type 0
Promised table condition s path trace r left_path left_trace =
    explored_of r left_path left_trace ≡ rules.explored table condition (settings_of s) path trace

unfoldable pub OneExplored : Type 0
OneExplored =
    (table condition : List ℕ) (s : Settings) (path trace : List ℕ) (r q : Report) (left_path left_trace other_path other_trace : List ℕ)
    → Promised table condition s path trace r left_path left_trace → Promised table condition s path trace q other_path other_trace
    → (report_of r ≡ report_of q) × (left_path ≡ other_path) × (left_trace ≡ other_trace)
