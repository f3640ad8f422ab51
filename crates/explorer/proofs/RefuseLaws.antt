-- The answer for each refusal, and for a run that is ready. Assumes nothing.
--     refuse-settings, refuse-path, refuse-trace, refuse-header, refuse-row, refuse-condition      a check has failed
--     judged-by                                                                                    the condition, with the table's threads
--     ready_made, ran-ready                                                                        none has
use Prim.Native.Nat.{ℕ, ◌*◌}
use mathlib.Core.List.{List}
use mathlib.Core.Bool.{Bool, true, false}
use mathlib.Core.Path.{◌≡◌, ap, sym, ◌∙◌}
use lib.Dec.{eqb}
use lib.ListN.{length}
use borrow.Author.Tests.{eqb-true, eqb-false}
use Rattle.rules.specs.Table.{judged, threads_of}
use Rattle.rules.specs.Condition.{is_condition}
use Rattle.rules.specs.Explored as rules
use Rattle.rules.specs.Explored.{refused, settings_fine}
use Rattle.rules.proofs.ExploredLaws.{explored-2, explored-3, explored-4, explored-5-header, explored-5-row, explored-5-condition, explored-ran}
use Rattle.table.specs.Answers.{judged_of}
use Rattle.std.specs.Prelude.{Result, Ok, Err}
use Rattle.table.specs.declared.BadTable.{BadTable}
use Rattle.table.specs.declared.BadTable.TheVariants as code
use Rattle.report.specs.Answers.{report_of, refusal}
use Rattle.report.specs.declared.Report.{Report}
use Rattle.report.specs.declared.Answer.TheVariants as answer
use Rattle.report.proofs.AnswerLaws.{bad-settings, bad-path, bad-trace, bad-table}
use Rattle.settings.specs.declared.Settings.{Settings}
use Rattle.iteration.specs.Executes.{RunReady}
use Rattle.settings.specs.Given.{settings_of}
use Rattle.explorer.specs.Explores.{explored_of}
use Rattle.explorer.specs.Runs.{Ran}

module _ (r : Report) (table condition : List ℕ) (s : Settings) (path trace : List ℕ) where
  abbrev left : rules.Report → rules.Explored
  left x = record { report = x; path = path; trace = trace }

  refused-is : (a t k : ℕ) → report_of r ≡ (refused a t k path trace).report → explored_of r path trace ≡ refused a t k path trace
  unfolding refused
  refused-is a t k e = ap (λ (x : rules.Report). left x) e

  pub refuse-settings : settings_fine (settings_of s) ≡ false → report_of r ≡ refusal answer.BadSettings → explored_of r path trace ≡ rules.explored table condition (settings_of s) path trace
  refuse-settings a e =
      refused-is 2 255 255 (e ∙ bad-settings path trace) ∙ sym (explored-2 table condition (settings_of s) path trace a)

  module _ (a : settings_fine (settings_of s) ≡ true) where
    pub refuse-path : eqb (length path) (16 * s.branches) ≡ false → report_of r ≡ refusal answer.BadPath → explored_of r path trace ≡ rules.explored table condition (settings_of s) path trace
    refuse-path b e =
        refused-is 3 255 255 (e ∙ bad-path path trace) ∙ sym (explored-3 table condition (settings_of s) path trace a (eqb-false (length path) (16 * s.branches) b))

    module _ (b : eqb (length path) (16 * s.branches) ≡ true) where
      pub refuse-trace : eqb (length trace) (16 * s.operations) ≡ false → report_of r ≡ refusal answer.BadTrace → explored_of r path trace ≡ rules.explored table condition (settings_of s) path trace
      refuse-trace c e =
          refused-is 4 255 255 (e ∙ bad-trace path trace) ∙ sym (explored-4 table condition (settings_of s) path trace a (eqb-true (length path) (16 * s.branches) b) (eqb-false (length trace) (16 * s.operations) c))

      module _ (c : eqb (length trace) (16 * s.operations) ≡ true) (j : Result (Unit {0}) BadTable) (judges : judged_of j ≡ judged table) where
        pub refuse-header : j ≡ Err code.Header → report_of r ≡ refusal (answer.BadTable 255 255) → explored_of r path trace ≡ rules.explored table condition (settings_of s) path trace
        refuse-header i e =
            refused-is 5 255 255 (e ∙ bad-table path trace 255 255) ∙ sym (explored-5-header table condition (settings_of s) path trace a (eqb-true (length path) (16 * s.branches) b) (eqb-true (length trace) (16 * s.operations) c) (sym judges ∙ ap judged_of i))

        pub refuse-row : (t k : ℕ) → j ≡ Err (code.Row t k) → report_of r ≡ refusal (answer.BadTable t k) → explored_of r path trace ≡ rules.explored table condition (settings_of s) path trace
        refuse-row t k i e =
            refused-is 5 t k (e ∙ bad-table path trace t k) ∙ sym (explored-5-row table condition (settings_of s) path trace a (eqb-true (length path) (16 * s.branches) b) (eqb-true (length trace) (16 * s.operations) c) t k (sym judges ∙ ap judged_of i))

module _ (table : List ℕ) (s : Settings) (path trace : List ℕ) where
  pub ready_made : settings_fine (settings_of s) ≡ true → eqb (length path) (16 * s.branches) ≡ true → eqb (length trace) (16 * s.operations) ≡ true → (j : Result (Unit {0}) BadTable) → judged_of j ≡ judged table → j ≡ Ok tt → RunReady table (settings_of s) path trace
  ready_made a b c j judges i =
      record {
        in-range = a;
        path-long = eqb-true (length path) (16 * s.branches) b;
        trace-long = eqb-true (length trace) (16 * s.operations) c;
        accepted = sym judges ∙ ap judged_of i;
      }

pub judged-by : (table condition : List ℕ) {threads : ℕ} {fine : Bool} → threads ≡ threads_of table → fine ≡ is_condition threads condition → fine ≡ is_condition (threads_of table) condition
judged-by table condition e h = rw e at h

module _ (table condition : List ℕ) (s : Settings) (path trace : List ℕ) (ready : RunReady table (settings_of s) path trace) (r : Report) {fine : Bool} (is-fine : fine ≡ is_condition (threads_of table) condition) where
  pub refuse-condition : fine ≡ false → report_of r ≡ refusal (answer.BadTable 255 255) → explored_of r path trace ≡ rules.explored table condition (settings_of s) path trace
  refuse-condition f e =
      refused-is r table condition s path trace 5 255 255 (e ∙ bad-table path trace 255 255) ∙ sym (explored-5-condition table condition (settings_of s) path trace ready.in-range ready.path-long ready.trace-long ready.accepted (sym is-fine ∙ f))

  pub ran-ready : fine ≡ true → {exit_path exit_trace : List ℕ} → Ran table condition (settings_of s) path trace r exit_path exit_trace
      → explored_of r exit_path exit_trace ≡ rules.explored table condition (settings_of s) path trace
  ran-ready f h =
      h ∙ sym (explored-ran table condition (settings_of s) path trace ready.in-range ready.path-long ready.trace-long ready.accepted (sym is-fine ∙ f))
