-- What each answer of a run stands for: document 01's number, race kind, other thread, thread and row, for every case; and the
-- report. Assumes nothing.
--     answer_number, race_kind_of, other_of              of an answer
--     thread_at_fault, row_at_fault                      and its place
--     summary_of, report_of                            the definition's summary and report
--     refusal, ran_report                             the report of a refusal, and of a run that stopped
--     AnswerFits, SaysAs                             an answer that says what a verdict of the definition says
use Rattle.std.specs.Prelude.{ℕ, List, map, ◌≡◌, replicate}
use Rattle.rules.specs.Event as rules
use Rattle.rules.specs.Explorer as explorer
use Rattle.rules.specs.Explorer.{Verdict}
use Rattle.rules.specs.Explored as explored
use Rattle.rules.specs.Explored.{Summary, Report, verdict_number, verdict_kind, verdict_other, verdict_site, refused, summary}
use Rattle.rules.specs.Machine.{every_thread}
use Rattle.rules.specs.State.{State, number, rows_begun}
use Rattle.event.specs.Moves.{fault_of}
pub use Rattle.event.specs.Moves.{site_of}
use Rattle.event.specs.declared.Site.{Site}
use Rattle.report.specs.declared.Answer.{Answer}
use Rattle.report.specs.declared.Answer.TheVariants as answer
use Rattle.report.specs.declared.Summary as of_thread
use Rattle.report.specs.declared.Report as code

-- the answer's number: "0 an execution ended, no choice open", "1 N executions ended, some choice open", "2 B, L or N out of range",
-- "3 path buffer length wrong", "4 trace buffer or thread list length wrong", "5 table refused", those of the faults, and "a false
-- one is answer 18"
abbrev pub answer_number : Answer → ℕ
answer_number answer.Exhausted = verdict_number explorer.exhausted
answer_number answer.Spent = verdict_number explorer.spent
answer_number answer.BadSettings = 2
answer_number answer.BadPath = 3
answer_number answer.BadTrace = 4
answer_number (answer.BadTable t k) = 5
answer_number (answer.Stopped f s) = verdict_number (explorer.stopped (fault_of f) (site_of s))
answer_number answer.Unmet = verdict_number explorer.unmet

-- "race kind (else 0)"
abbrev pub race_kind_of : Answer → ℕ
race_kind_of answer.Exhausted = verdict_kind explorer.exhausted
race_kind_of answer.Spent = verdict_kind explorer.spent
race_kind_of answer.BadSettings = 0
race_kind_of answer.BadPath = 0
race_kind_of answer.BadTrace = 0
race_kind_of (answer.BadTable t k) = 0
race_kind_of (answer.Stopped f s) = verdict_kind (explorer.stopped (fault_of f) (site_of s))
race_kind_of answer.Unmet = verdict_kind explorer.unmet

-- "other thread (else 255)"
abbrev pub other_of : Answer → ℕ
other_of answer.Exhausted = verdict_other explorer.exhausted
other_of answer.Spent = verdict_other explorer.spent
other_of answer.BadSettings = 255
other_of answer.BadPath = 255
other_of answer.BadTrace = 255
other_of (answer.BadTable t k) = 255
other_of (answer.Stopped f s) = verdict_other (explorer.stopped (fault_of f) (site_of s))
other_of answer.Unmet = verdict_other explorer.unmet

-- "thread and row at fault (from 11 on the current thread and its row, the row count if it is ending; for 5 the first bad row, or
-- 255, 255 if header or length is bad ..; 255, 255 for 0 to 4 and 10)"; 18 has "the condition's place (thread and row 255)"
abbrev pub thread_at_fault : Answer → ℕ
thread_at_fault answer.Exhausted = 255
thread_at_fault answer.Spent = 255
thread_at_fault answer.BadSettings = 255
thread_at_fault answer.BadPath = 255
thread_at_fault answer.BadTrace = 255
thread_at_fault (answer.BadTable t k) = t
thread_at_fault (answer.Stopped f s) = (verdict_site (explorer.stopped (fault_of f) (site_of s))).thread
thread_at_fault answer.Unmet = 255

abbrev pub row_at_fault : Answer → ℕ
row_at_fault answer.Exhausted = 255
row_at_fault answer.Spent = 255
row_at_fault answer.BadSettings = 255
row_at_fault answer.BadPath = 255
row_at_fault answer.BadTrace = 255
row_at_fault (answer.BadTable t k) = k
row_at_fault (answer.Stopped f s) = (verdict_site (explorer.stopped (fault_of f) (site_of s))).row
row_at_fault answer.Unmet = 255

abbrev pub summary_of : of_thread.Summary → Summary
summary_of r = record { state = r.state; rows = r.rows; yields = r.yields; version = r.version }

abbrev pub summaries_of : List of_thread.Summary → List Summary
summaries_of rs = map summary_of rs

abbrev pub report_of : code.Report → Report
report_of r = record {
  answer = answer_number r.answer;
  begun = r.begun;
  opened = r.opened;
  still_open = r.still_open;
  rows = r.rows;
  thread = thread_at_fault r.answer;
  row = row_at_fault r.answer;
  kind = race_kind_of r.answer;
  other = other_of r.answer;
  threads = summaries_of r.threads;
}

-- the report of an answer that begins nothing
abbrev pub refusal : Answer → Report
refusal a = record {
  answer = answer_number a;
  begun = 0;
  opened = 0;
  still_open = 0;
  rows = 0;
  thread = thread_at_fault a;
  row = row_at_fault a;
  kind = race_kind_of a;
  other = other_of a;
  threads = replicate 5 explored.no_summary;
}

-- and of one that a run stopped with, in this state
abbrev pub ran_report : Answer → ℕ → ℕ → ℕ → State → Report
ran_report a executions opened still_open st = record {
  answer = answer_number a;
  begun = executions;
  opened = opened;
  still_open = still_open;
  rows = number st.numbers rows_begun;
  thread = thread_at_fault a;
  row = row_at_fault a;
  kind = race_kind_of a;
  other = other_of a;
  threads = map (summary st) every_thread;
}

-- an answer that says what a verdict says: the same number, race kind, other thread, thread and row
pub record SaysAs (a : Answer) (v : Verdict) : Type 0 where
  pub number : answer_number a ≡ verdict_number v
  pub kind : race_kind_of a ≡ verdict_kind v
  pub other : other_of a ≡ verdict_other v
  pub thread : thread_at_fault a ≡ (verdict_site v).thread
  pub row : row_at_fault a ≡ (verdict_site v).row

-- and such an answer by its case, for a run: a refusal is none of its verdicts
abbrev pub AnswerFits : Answer → Verdict → Type 0
AnswerFits answer.Exhausted v = v ≡ explorer.exhausted
AnswerFits answer.Spent v = v ≡ explorer.spent
AnswerFits answer.BadSettings v = ⊥
AnswerFits answer.BadPath v = ⊥
AnswerFits answer.BadTrace v = ⊥
AnswerFits (answer.BadTable t k) v = ⊥
AnswerFits (answer.Stopped f s) v = v ≡ explorer.stopped (fault_of f) (site_of s)
AnswerFits answer.Unmet v = v ≡ explorer.unmet
