-- What the entries for Rust and C are given and leave: numbers and bytes alone. Assumes nothing.
--     settings_for    the settings that five numbers stand for
--     Entered        what is answered, and what the three buffers are left as
--     no_condition    the final condition of the entry that takes none
--     entered        for any input
use Rattle.std.specs.Prelude.{ℕ, List, [], Bool, true, false, cond, not, ◌||◌, ltb, eqb, length}
use Rattle.rules.specs.Explored.{Settings, Explored, explored}
use Rattle.settings.specs.Given.{bound_for}
use Rattle.numbers.specs.Numbers.{numbers_of}

abbrev pub settings_for : ℕ → ℕ → ℕ → ℕ → ℕ → Settings
settings_for branches operations executions bound exploring = record {
  branches = branches;
  operations = operations;
  executions = executions;
  bound = bound_for bound;
  exploring = eqb exploring 1;
}

pub record Entered : Type 0 where
  pub answer : ℕ
  pub path : List ℕ
  pub trace : List ℕ
  pub report : List ℕ

-- a bound or an exploring that stands for nothing, or a report of another length than 29
abbrev pub out_of_range : ℕ → ℕ → List ℕ → Bool
out_of_range bound exploring report = ltb 256 bound || ltb 1 exploring || not (eqb (length report) 29)

abbrev pub entered_by : Explored → Entered
entered_by e = record { answer = e.report.answer; path = e.path; trace = e.trace; report = numbers_of e.report }

abbrev pub no_condition : List ℕ
no_condition = []

-- 255, which is no answer of document 01, and nothing written; else what the definition's `explored` is, in numbers
unfoldable pub entered : List ℕ → List ℕ → ℕ → ℕ → ℕ → ℕ → ℕ → List ℕ → List ℕ → List ℕ → Entered
entered table condition branches operations executions bound exploring path trace report =
    cond (out_of_range bound exploring report)
    (record { answer = 255; path = path; trace = trace; report = report })
    (entered_by (explored table condition (settings_for branches operations executions bound exploring) path trace))

abbrev pub left_behind : ℕ → List ℕ → List ℕ → List ℕ → Entered
left_behind answer path trace report = record { answer = answer; path = path; trace = trace; report = report }
