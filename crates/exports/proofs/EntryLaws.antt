-- The entry in numbers. Assumes nothing.
--     entered-bound, entered-exploring, entered-report      an argument that is out of range
--     explored-so, entered-run          all are in range
use Prim.Native.Nat.{ℕ, zero, suc, ◌+◌, ◌%◌, ◌≤◌, ◌<◌}
use mathlib.Core.List.{List, [], ◌∷◌}
use mathlib.Core.Bool.{Bool, true, false}
use mathlib.Core.Path.{◌≡◌, refl, sym, ap, ◌∙◌}
use native.Mathlib.Omega.{arith}
use lib.Dec.{ltb, eqb}
use lib.ListN.{length, get_or, set}
use lib.Seq.{ext_get_or, get_or-set_same, get_or-set_other}
use borrow.Author.Tests.{lt-ltb, le-ltb, eq-eqb, ne_eqb, eqb-true, eqb-false}
use Rattle.rules.specs.Explored as rules
use Rattle.rules.specs.Explored.{Explored}
use Rattle.path.specs.Bounds.{bound_of}
use Rattle.std.specs.Prelude.{Option}
use Rattle.report.specs.Answers.{report_of, answer_number}
use Rattle.report.specs.declared.Report.{Report}
use Rattle.explorer.specs.Explores.{explored_of}
use Rattle.numbers.specs.Numbers.{numbers_of}
use Rattle.settings.specs.Given.{bound_for}
use Rattle.exports.specs.Entry.{settings_for, Entered, left_behind, entered, entered_by}

module _ (table condition : List ℕ) (branches operations executions bound exploring : ℕ) (path trace report : List ℕ) where
  abbrev whole : Entered
  whole = entered table condition branches operations executions bound exploring path trace report

  pub entered-bound : 256 < bound → left_behind 255 path trace report ≡ whole
  unfolding entered
  entered-bound h = rw (lt-ltb 256 bound h) refl

  pub entered-exploring : bound ≤ 256 → 1 < exploring → left_behind 255 path trace report ≡ whole
  unfolding entered
  entered-exploring h k = rw (le-ltb 256 bound h, lt-ltb 1 exploring k) refl

  module _ (h : bound ≤ 256) (k : exploring ≤ 1) where
    pub entered-report : (length report ≡ 29 → ⊥) → left_behind 255 path trace report ≡ whole
    unfolding entered
    entered-report n = rw (le-ltb 256 bound h, le-ltb 1 exploring k, ne_eqb (length report) 29 n) refl

    entered_so : length report ≡ 29 → whole ≡ entered_by (rules.explored table condition (settings_for branches operations executions bound exploring) path trace)
    unfolding entered
    entered_so n = rw (le-ltb 256 bound h, le-ltb 1 exploring k, eq-eqb (length report) 29 n) refl

    pub entered-run : length report ≡ 29 → (done : Report) (number : ℕ) (numbers : List ℕ) {exit_path exit_trace : List ℕ}
        → explored_of done exit_path exit_trace ≡ rules.explored table condition (settings_for branches operations executions bound exploring) path trace
        → number ≡ answer_number done.answer → numbers ≡ numbers_of (report_of done)
        → left_behind number exit_path exit_trace numbers ≡ whole
    entered-run n done number numbers e f g = rw (f, g) (ap entered_by e ∙ sym (entered_so n))

-- with the settings that the numbers stand for
pub explored-so : (table condition path trace : List ℕ) (branches operations executions bound exploring : ℕ) (b : Option ℕ) {x : Explored}
    → bound_of b ≡ bound_for bound
    → x ≡ rules.explored table condition (record { branches = branches; operations = operations; executions = executions; bound = bound_of b; exploring = eqb exploring 1 }) path trace
    → x ≡ rules.explored table condition (settings_for branches operations executions bound exploring) path trace
explored-so table condition path trace branches operations executions bound exploring b e h = h ∙ (cc e)
