-- What `explore` answers for any bytes, settings and buffers, and what it leaves in the buffers: document 01, "Settings,
-- buffers, answers", and document 02, §3, for a final condition. Assumes nothing.
use Rattle.std.specs.Prelude.{ℕ, ◌+◌, ◌-◌, ◌*◌, List, [], ◌∷◌, ◌++◌, map, Bool, true, false, cond, not, ◌&&◌, ◌||◌, leb, eqb, length, replicate}
use Rattle.rules.specs.Path.{Bound, open_in, written, record_bytes}
use Rattle.rules.specs.Table.{judged, good, bad_header, bad_row, threads_of}
use Rattle.rules.specs.Condition.{is_condition}
use Rattle.rules.specs.Event.{Site, no_site, Entry, entry_bytes, fault_number, race_kind, other_thread}
use Rattle.rules.specs.State as State
use Rattle.rules.specs.State.{State, number, rows_of, yields, rows_begun}
use Rattle.rules.specs.Cell.{version}
use Rattle.rules.specs.Machine.{Program, machine, absent, is_in, every_thread}
use Rattle.rules.specs.Explorer.{Limits, Stop, Verdict, exhausted, spent, unmet, stopped, run}

-- "Branch limit B ..; operation limit L ..; execution budget N ..; preemption bound none or 0..255; exploring on start yes or
-- no.": in the code a bound is a byte, so that one above 255 cannot be given; here such a bound would be taken as it stands
pub record Settings : Type 0 where
  pub branches : ℕ
  pub operations : ℕ
  pub executions : ℕ
  pub bound : Bound
  pub exploring : Bool

-- "summaries: state .., rows begun, yields, own version", all of the last execution [Q6]
pub record Summary : Type 0 where
  pub state : ℕ
  pub rows : ℕ
  pub yields : ℕ
  pub version : ℕ

-- "The report gives answer, executions begun, choices opened, choices open, rows begun in the last execution, thread and row at
-- fault .., race kind .., other thread .., and five thread summaries"
pub record Report : Type 0 where
  pub answer : ℕ
  pub begun : ℕ
  pub opened : ℕ
  pub still_open : ℕ
  pub rows : ℕ
  pub thread : ℕ
  pub row : ℕ
  pub kind : ℕ
  pub other : ℕ
  pub threads : List Summary

-- a report with both buffers as they are left
pub record Explored : Type 0 where
  pub report : Report
  pub path : List ℕ
  pub trace : List ℕ

-- "0 for an absent thread"
abbrev pub no_summary : Summary
no_summary = record { state = 0; rows = 0; yields = 0; version = 0 }

unfoldable pub summary : State → ℕ → Summary
summary st t =
    cond (is_in st.numbers absent t) no_summary
    (record {
      state = number st.numbers (State.state t);
      rows = number st.numbers (rows_of t);
      yields = number st.numbers (yields t);
      version = version st.clocks t;
    })

-- "Checks run 2, 3, 4, 5; these give zero counts and summaries.", race kind 0 and other thread 255 [Q11]
unfoldable pub refused : ℕ → ℕ → ℕ → List ℕ → List ℕ → Explored
refused answer t k path trace = record {
  report = record {
    answer = answer;
    begun = 0;
    opened = 0;
    still_open = 0;
    rows = 0;
    thread = t;
    row = k;
    kind = 0;
    other = 255;
    threads = replicate State.threads no_summary;
  };
  path = path;
  trace = trace;
}

-- "a false one is answer 18"
abbrev pub verdict_number : Verdict → ℕ
verdict_number exhausted = 0
verdict_number spent = 1
verdict_number unmet = 18
verdict_number (stopped f site) = fault_number f

abbrev pub verdict_kind : Verdict → ℕ
verdict_kind exhausted = 0
verdict_kind spent = 0
verdict_kind unmet = 0
verdict_kind (stopped f site) = race_kind f

abbrev pub verdict_other : Verdict → ℕ
verdict_other exhausted = 255
verdict_other spent = 255
verdict_other unmet = 255
verdict_other (stopped f site) = other_thread f

-- "255, 255 for 0 to 4 and 10", "from 11 on the current thread and its row, the row count if it is ending": in a scheduling the
-- thread that called it [Q5]. Of 18 "the condition's place (thread and row 255)"
unfoldable pub verdict_site : Verdict → Site
verdict_site exhausted = no_site
verdict_site spent = no_site
verdict_site unmet = no_site
verdict_site (stopped f site) = cond (leb 11 (fault_number f)) site no_site

unfoldable pub reported : Stop State → Report
reported r = record {
  answer = verdict_number r.verdict;
  begun = r.walk.ledger.begun;
  opened = r.walk.ledger.opened;
  still_open = open_in r.walk.ledger.path;
  rows = number r.walk.state.numbers rows_begun;
  thread = (verdict_site r.verdict).thread;
  row = (verdict_site r.verdict).row;
  kind = verdict_kind r.verdict;
  other = verdict_other r.verdict;
  threads = map (summary r.walk.state) every_thread;
}

unfoldable pub entries_bytes : List Entry → List ℕ
entries_bytes [] = []
entries_bytes (e ∷ es) = entry_bytes e ++ entries_bytes es

-- "when it stops, all bytes past .. the last execution's last trace entry are zero"
unfoldable pub trace_left : ℕ → List Entry → List ℕ
trace_left n es = entries_bytes es ++ replicate (n - record_bytes * length es) 0

-- more ticks than an execution can take: one more than the measure of its start can be, 3·L + 25 (Measure). Each of L rows that
-- begin takes at most three (it begins, may block once, acts); each of five threads ends, and may free the joins of four others
abbrev pub ticks_of : ℕ → ℕ
ticks_of operations = 3 * operations + 26

abbrev pub limits_of : Settings → Limits
limits_of s = record {
  branches = s.branches;
  operations = s.operations;
  bound = s.bound;
  ticks = ticks_of s.operations;
}

abbrev pub program_of : List ℕ → List ℕ → Settings → Program
program_of table condition s = record {
  table = table;
  condition = condition;
  operations = s.operations;
  exploring = s.exploring;
}

unfoldable pub stop_of : List ℕ → List ℕ → Settings → Stop State
stop_of table condition s = run (machine (program_of table condition s)) (limits_of s) s.executions

unfoldable pub ran : ℕ → ℕ → Stop State → Explored
ran path_bytes trace_bytes r = record {
  report = reported r;
  path = written path_bytes r.walk.ledger.path;
  trace = trace_left trace_bytes r.walk.trace;
}

-- "operation limit L 1..4,096; execution budget N 1..65,535", and of B "branches from 1,024 to 4,096" (document 02, §4): each limit
-- here alone. What proofs need of their size is in proofs/LimitLaws
abbrev pub max_branches : ℕ
max_branches = 4096

abbrev pub max_operations : ℕ
max_operations = 4096

abbrev pub max_executions : ℕ
max_executions = 65535

abbrev pub within : ℕ → ℕ → Bool
within n most = leb 1 n && leb n most

unfoldable pub settings_fine : Settings → Bool
settings_fine s =
    within s.branches max_branches && within s.operations max_operations && within s.executions max_executions

-- 2: "B, L or N out of range"; 3: "path buffer length wrong"; 4: "trace buffer or thread list length wrong"; 5: "table refused". "The
-- path buffer has exactly 16·B bytes, the trace buffer 16·L." Bytes that are no condition are answer 5 with thread and row 255; a
-- bad table is answered first (docs/GRAMMAR.md)
unfoldable pub explored : List ℕ → List ℕ → Settings → List ℕ → List ℕ → Explored
explored table condition s path trace =
    elim (settings_fine s) [
      | false ↦ refused 2 255 255 path trace
      | true ↦
          elim (eqb (length path) (record_bytes * s.branches)) [
            | false ↦ refused 3 255 255 path trace
            | true ↦
                elim (eqb (length trace) (record_bytes * s.operations)) [
                  | false ↦ refused 4 255 255 path trace
                  | true ↦
                      elim (judged table) [
                        | bad_header ↦ refused 5 255 255 path trace
                        | bad_row t k ↦ refused 5 t k path trace
                        | good ↦
                            elim (is_condition (threads_of table) condition) [
                              | false ↦ refused 5 255 255 path trace
                              | true ↦ ran (length path) (length trace) (stop_of table condition s)
                            ]
                      ]
                ]
          ]
    ]

-- "a second thin entry copies them into the caller's list of thread records, which must hold exactly five and stays unchanged
-- on 2 to 5"
pub record ExploredInto : Type 0 where
  pub explored : Explored
  pub list : List Summary

-- an answer from 2 to 5 is a refusal
abbrev pub is_refusal : ℕ → Bool
is_refusal answer = leb 2 answer && leb answer 5

abbrev pub copied : Explored → List Summary → ExploredInto
copied e list = record { explored = e; list = cond (is_refusal e.report.answer) list e.report.threads }

-- "4 trace buffer or thread list length wrong": judged with the trace buffer, so before the table [Q13]
unfoldable pub explored_into : List ℕ → List ℕ → Settings → List ℕ → List ℕ → List Summary → ExploredInto
explored_into table condition s path trace list =
    elim (eqb (length list) State.threads || not (settings_fine s) || not (eqb (length path) (record_bytes * s.branches))) [
      | true ↦ copied (explored table condition s path trace) list
      | false ↦ record { explored = refused 4 255 255 path trace; list = list }
    ]
