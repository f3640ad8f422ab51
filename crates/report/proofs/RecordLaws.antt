-- A report and its summaries, field by field. Assumes nothing.
--     summary-absent, summary-present      of one thread
--     of-five                              of all
--     refused-so, finished-so              the report
use Prim.Native.Nat.{ℕ, ◌+◌}
use mathlib.Core.List.{List, [], ◌∷◌, map}
use mathlib.Core.Path.{◌≡◌, refl}
use borrow.Author.Tests.{eq-eqb, ne_eqb}
use lib.ListN.{get_or}
use Rattle.rules.specs.Explored as explored
use Rattle.rules.specs.Explored.{summary}
use Rattle.rules.specs.Machine.{every_thread}
use Rattle.rules.specs.State.{State, Clocks, Marks, Values, Numbers, rows_begun, number}
use Rattle.rules.specs.Cell.{version}
use Rattle.layout.specs.Tables.{state}
use Rattle.report.specs.declared.Answer.{Answer}
use Rattle.report.specs.declared.Summary.{Summary}
use Rattle.report.specs.declared.Report as code
use Rattle.report.specs.Answers.{summary_of, summaries_of, report_of, refusal, ran_report}

module _ (clocks : Clocks) (numbers : Numbers) (t : ℕ) (r : Summary) where
  pub summary-absent : get_or numbers (0 + t) 0 ≡ 0 → summary_of r ≡ explored.no_summary → (marks : Marks) (values : Values) → summary_of r ≡ summary (state clocks marks values numbers) t
  unfolding summary
  summary-absent e s marks values = rw (eq-eqb _ _ e) s

  pub summary-present :
      (get_or numbers (0 + t) 0 ≡ 0 → ⊥)
      → r.state ≡ get_or numbers (0 + t) 0
      → r.rows ≡ get_or numbers (10 + t) 0
      → r.yields ≡ get_or numbers (15 + t) 0
      → r.version ≡ version clocks t
      → (marks : Marks) (values : Values)
      → summary_of r ≡ summary (state clocks marks values numbers) t
  unfolding summary
  summary-present n s k y v marks values = rw (ne_eqb _ _ n) (cc)

pub of-five :
    (st : State) (a b c d e : Summary)
    → summary_of a ≡ summary st 0
    → summary_of b ≡ summary st 1
    → summary_of c ≡ summary st 2
    → summary_of d ≡ summary st 3
    → summary_of e ≡ summary st 4
    → summaries_of (a ∷ b ∷ c ∷ d ∷ e ∷ []) ≡ map (summary st) every_thread
of-five st a b c d e f g h i j = cc

pub refused-so :
    (a : Answer) (r : Summary)
    → summary_of r ≡ explored.no_summary
    → report_of (record { answer = a; begun = 0; opened = 0; still_open = 0; rows = 0; threads = r ∷ r ∷ r ∷ r ∷ r ∷ [] }) ≡ refusal a
refused-so a r s = cc

pub finished-so :
    (a : Answer) (executions opened still_open rows : ℕ) (rs : List Summary) (st : State)
    → rows ≡ number st.numbers rows_begun
    → summaries_of rs ≡ map (summary st) every_thread
    → report_of (record { answer = a; begun = executions; opened = opened; still_open = still_open; rows = rows; threads = rs })
    ≡ ran_report a executions opened still_open st
finished-so a executions opened still_open rows rs st r s = cc
