-- Small hand-offs with known outcomes: document 01's cases P, in one table, some of them under a final condition, and some with plain
-- cells. Each has what the definition gives and what the document says; that the two columns are equal is one statement, computed
-- by the checker (proofs/Worked.antt).
use Rattle.std.specs.Prelude.{ℕ, zero, suc, ◌+◌, ◌-◌, ◌*◌, ◌^◌, List, [], ◌∷◌, ◌++◌, map, true, cond, eqb, length, replicate}
use Rattle.rules.specs.Path.{Bound, unbounded, at_most}
use Rattle.rules.specs.Event.{Entry, little}
use Rattle.rules.specs.Change.{Change, Changed, success, failure, applied}
use Rattle.rules.specs.Table.{Row, Decoded, refused, decoded, change_decoded}
use Rattle.rules.specs.Condition.{equals, differs, opens, closes, either}
use Rattle.rules.specs.Cell.{kth_oldest, live_stores}
use Rattle.rules.specs.Explorer.{Execution}
use Rattle.rules.specs.Explored.{Settings, Explored, explored, stop_of}

-- Programs, as the bytes of their tables

abbrev pub row : ℕ → ℕ → ℕ → ℕ → ℕ → ℕ → Row
row opcode object order kind register a = record {
  opcode = opcode;
  object = object;
  order = order;
  failure = 0;
  kind = kind;
  register = register;
  target = 0;
  a = a;
  b = 0;
}

-- "Row: opcode, cell or thread, order, failure order, change kind, register 0..3, jump target u16 .., operand a u64, operand b u64."
abbrev pub row_as_bytes : Row → List ℕ
row_as_bytes r =
    r.opcode
    ∷ r.object
    ∷ r.order
    ∷ r.failure
    ∷ r.kind
    ∷ r.register
    ∷ (little 2 r.target ++ (little 8 r.a ++ little 8 r.b))

unfoldable pub rows_as_bytes : List Row → List ℕ
rows_as_bytes [] = []
rows_as_bytes (r ∷ rows) = row_as_bytes r ++ rows_as_bytes rows

unfoldable pub threads_as_bytes : List (List Row) → List ℕ
threads_as_bytes [] = []
threads_as_bytes (rows ∷ threads) = rows_as_bytes rows ++ threads_as_bytes threads

unfoldable pub values_as_bytes : List ℕ → List ℕ
values_as_bytes [] = []
values_as_bytes (v ∷ values) = little 8 v ++ values_as_bytes values

-- a cell for each of these start values, a plain cell for each of those, and these threads
unfoldable pub table_with : List ℕ → List ℕ → List (List Row) → List ℕ
table_with starts plains threads =
    length threads
    ∷ length starts
    ∷ (map (λ (rows : List Row). length rows) threads
    ++ (replicate (5 - length threads) 0
    ++ (length plains ∷ (values_as_bytes starts ++ (values_as_bytes plains ++ threads_as_bytes threads)))))

-- without plain cells
abbrev pub table : List ℕ → List (List Row) → List ℕ
table starts threads = table_with starts [] threads

-- Rows: loads and changes of a cell, by register 0; stores in cell 0

abbrev pub load : ℕ → Row
load cell = row 0 cell 0 0 0 0

abbrev pub store : ℕ → Row
store a = row 1 0 0 0 0 a

abbrev pub store_release : ℕ → Row
store_release a = row 1 0 1 0 0 a

abbrev pub decrement : ℕ → Row
decrement cell = row 3 cell 0 12 0 0

abbrev pub fence_acquire : Row
fence_acquire = row 4 0 2 0 0 0

abbrev pub unsync_load : ℕ → Row
unsync_load cell = row 5 cell 0 0 0 0

abbrev pub exclusive : ℕ → Row
exclusive cell = row 6 cell 0 0 0 0

abbrev pub join : ℕ → Row
join t = row 8 t 0 0 0 0

abbrev pub check : ℕ → Row
check a = row 12 0 0 0 0 a

-- the only plain cell, by register 1
abbrev pub plain_read : Row
plain_read = row 17 0 0 0 1 0

abbrev pub plain_write : ℕ → Row
plain_write a = row 18 0 0 0 0 a

-- Settings: "All explore on start; no bound unless named."
abbrev pub limits : ℕ → ℕ → Bound → Settings
limits B L bound = record { branches = B; operations = L; executions = 100; bound = bound; exploring = true }

-- What is looked at

abbrev pub run_under : List ℕ → List ℕ → Settings → Explored
run_under t condition s = explored t condition s (replicate (16 * s.branches) 165) (replicate (16 * s.operations) 90)

-- without a condition
abbrev pub run_free : List ℕ → Settings → Explored
run_free t s = run_under t [] s

abbrev pub answer_of : Explored → List ℕ
answer_of e = e.report.answer ∷ []

abbrev pub answer_and_begun : Explored → List ℕ
answer_and_begun e = e.report.answer ∷ e.report.begun ∷ []

-- the values that loads read, in all executions of the run
unfoldable pub loads_in : List Entry → List ℕ
loads_in [] = []
loads_in (e ∷ es) = cond (eqb e.opcode 0) (e.value ∷ loads_in es) (loads_in es)

unfoldable pub loads_in_all : List Execution → List ℕ
loads_in_all [] = []
loads_in_all (x ∷ xs) = loads_in x.trace ++ loads_in_all xs

-- n numbers from i on
unfoldable pub numbers_from : ℕ → ℕ → List ℕ
numbers_from zero i = []
numbers_from (suc n) i = i ∷ numbers_from n (i + 1)

abbrev pub changed_to : Changed → List ℕ
changed_to (success v) = v ∷ []
changed_to failure = []

-- what the change of a kind and an operand makes of a value
abbrev pub made_by : Decoded Change → ℕ → List ℕ
made_by refused v = []
made_by (decoded change) v = changed_to (applied change v)

-- The table

pub record Worked : Type 0 where
  pub given : List ℕ
  pub said : List ℕ

-- "P1 one thread, cell 7, load Relaxed, B=3, L=1: answer 0. Trace 00 00 00 00 01 00 00 00 07 then seven zeros. Path: 01 01 04 00
-- 00 00 00 00 00 FF FF then five zeros; 02 01, eight zeros, 01, five zeros; 01 01, six zeros, FF, seven zeros."
abbrev pub one_load : List ℕ
one_load = table (7 ∷ []) ((load 0 ∷ []) ∷ [])

abbrev pub p1 : Worked
p1 = record { given = answer_of (run_free one_load (limits 3 1 unbounded)); said = 0 ∷ [] }

abbrev pub p1_trace : Worked
p1_trace = record {
  given = (run_free one_load (limits 3 1 unbounded)).trace;
  said = 0 ∷ 0 ∷ 0 ∷ 0 ∷ 1 ∷ 0 ∷ 0 ∷ 0 ∷ 7 ∷ replicate 7 0;
}

abbrev pub p1_path : Worked
p1_path = record {
  given = (run_free one_load (limits 3 1 unbounded)).path;
  said =
      1 ∷ 1 ∷ 4 ∷ 0 ∷ 0 ∷ 0 ∷ 0 ∷ 0 ∷ 0 ∷ 255 ∷ 255 ∷ (replicate 5 0
      ++ (2 ∷ 1 ∷ (replicate 8 0 ++ (1 ∷ (replicate 5 0 ++ (1 ∷ 1 ∷ (replicate 6 0 ++ (255 ∷ replicate 7 0))))))));
}

-- "P2 B=2: 11."
abbrev pub p2 : Worked
p2 = record { given = answer_of (run_free one_load (limits 2 1 unbounded)); said = 11 ∷ [] }

-- "P3 thread 0 stores 1, thread 1 loads, Relaxed, one cell starting at 0: 5 executions, values 0,1,0,0,1, opened 4."
abbrev pub store_and_load : List ℕ
store_and_load = table (0 ∷ []) ((store 1 ∷ []) ∷ (load 0 ∷ []) ∷ [])

abbrev pub p3 : Worked
p3 = record { given = answer_and_begun (run_free store_and_load (limits 8 4 unbounded)); said = 0 ∷ 5 ∷ [] }

abbrev pub p3_values : Worked
p3_values = record {
  given = loads_in_all (stop_of store_and_load [] (limits 8 4 unbounded)).history;
  said = 0 ∷ 1 ∷ 0 ∷ 0 ∷ 1 ∷ [];
}

abbrev pub p3_opened : Worked
p3_opened = record { given = (run_free store_and_load (limits 8 4 unbounded)).report.opened ∷ []; said = 4 ∷ [] }

-- "P4 bound 0: 2 executions. P5 bound 1: 3."
abbrev pub p4 : Worked
p4 = record { given = answer_and_begun (run_free store_and_load (limits 8 4 (at_most 0))); said = 0 ∷ 2 ∷ [] }

abbrev pub p5 : Worked
p5 = record { given = answer_and_begun (run_free store_and_load (limits 8 4 (at_most 1))); said = 0 ∷ 3 ∷ [] }

-- "P6 a thread joins itself: 10."
abbrev pub p6 : Worked
p6 = record { given = answer_of (run_free (table (0 ∷ []) ((join 0 ∷ []) ∷ [])) (limits 8 4 unbounded)); said = 10 ∷ [] }

-- "P7 thread 0 exclusive, thread 1 load: 14, kind 1, other 0."
abbrev pub race_in : Explored → List ℕ
race_in e = e.report.answer ∷ e.report.kind ∷ e.report.other ∷ []

abbrev pub p7 : Worked
p7 = record {
  given = race_in (run_free (table (0 ∷ []) ((exclusive 0 ∷ []) ∷ (load 0 ∷ []) ∷ [])) (limits 8 4 unbounded));
  said = 14 ∷ 1 ∷ 0 ∷ [];
}

-- "P8 fence order at cnt 9: 2,3,4,5,6,0,1.": by its meaning, and in a run
abbrev pub p8 : Worked
p8 = record { given = map (kth_oldest 9) (numbers_from (live_stores 9) 0); said = 2 ∷ 3 ∷ 4 ∷ 5 ∷ 6 ∷ 0 ∷ 1 ∷ [] }

-- Cell 0 has nine stores, its start value the first. Thread 1's change fails, so it has seen slot 6, thread 0's Release store, and
-- synchronises with nothing; then it stores slots 0 and 1. Thread 2 has seen slot 0. Its fence passes slot 6 before slot 0, whose
-- join would let it be seen: so thread 0's exclusive change is unordered, and the first execution has a race. By slot number, slot
-- 0 would come first, and there would be none
abbrev pub fence_over_nine : List ℕ
fence_over_nine =
    table (0 ∷ 0 ∷ [])
    ((exclusive 1 ∷ store 1 ∷ store 2 ∷ store 3 ∷ store 4 ∷ store 5 ∷ store_release 0 ∷ [])
    ∷ (decrement 0 ∷ store_release 7 ∷ store 8 ∷ [])
    ∷ (load 0 ∷ fence_acquire ∷ unsync_load 1 ∷ [])
    ∷ [])

abbrev pub race_and_begun : Explored → List ℕ
race_and_begun e = race_in e ++ (e.report.begun ∷ [])

abbrev pub p8_run : Worked
p8_run = record {
  given = race_and_begun (run_free fence_over_nine (limits 20 16 unbounded));
  said = 14 ∷ 2 ∷ 0 ∷ 1 ∷ [];
}

-- "P9 signed max of 2^64−1 and 0 is 0. P10 signed max of 2^63 and 2^63−1 is 2^63−1."
abbrev pub p9 : Worked
p9 = record { given = made_by (change_decoded 9 0 0) (2 ^ 64 - 1); said = 0 ∷ [] }

abbrev pub p10 : Worked
p10 = record { given = made_by (change_decoded 9 (2 ^ 63 - 1) 0) (2 ^ 63); said = (2 ^ 63 - 1) ∷ [] }

-- "P11 decrement at 0 fails, register 0.": by its meaning, and in runs. The register holds 7 before, and then 0
abbrev pub p11 : Worked
p11 = record { given = made_by (change_decoded 12 0 0) 0; said = [] }

abbrev pub decrement_then_check : ℕ → List ℕ
decrement_then_check a = table (0 ∷ 7 ∷ []) ((load 1 ∷ decrement 0 ∷ check a ∷ []) ∷ [])

abbrev pub p11_register : Worked
p11_register = record { given = answer_of (run_free (decrement_then_check 0) (limits 8 4 unbounded)); said = 0 ∷ [] }

abbrev pub p11_not_kept : Worked
p11_not_kept = record { given = answer_of (run_free (decrement_then_check 7) (limits 8 4 unbounded)); said = 15 ∷ [] }

-- "a comparison of a thread's register with a number": register 0, the number a small one
abbrev pub comparing : ℕ → ℕ → ℕ → List ℕ
comparing sign t n = sign ∷ t ∷ 0 ∷ little 8 n

-- "with the condition's place (thread and row 255)"
abbrev pub place_and_begun : Explored → List ℕ
place_and_begun e = e.report.answer ∷ e.report.thread ∷ e.report.row ∷ e.report.kind ∷ e.report.other ∷ e.report.begun ∷ []

-- P3, whose thread 1 reads 0,1,0,0,1: that it reads 0 is false of the second execution; that it reads 0 or 1, of none
abbrev pub p3_unmet : Worked
p3_unmet = record {
  given = place_and_begun (run_under store_and_load (comparing equals 1 0) (limits 8 4 unbounded));
  said = 18 ∷ 255 ∷ 255 ∷ 0 ∷ 255 ∷ 2 ∷ [];
}

abbrev pub p3_met : Worked
p3_met = record {
  given =
      answer_and_begun
      (run_under store_and_load (opens ∷ comparing equals 1 0 ++ (either ∷ comparing equals 1 1 ++ (closes ∷ []))) (limits 8 4 unbounded));
  said = 0 ∷ 5 ∷ [];
}

-- P1, which reads 7 in its only execution: "ahead of 0 and 1", "leaving what 0 leaves"
abbrev pub p1_unmet : Worked
p1_unmet = record {
  given = answer_and_begun (run_under one_load (comparing differs 0 7) (limits 3 1 unbounded));
  said = 18 ∷ 1 ∷ [];
}

abbrev pub p1_leaves : Worked
p1_leaves = record {
  given =
      (run_under one_load (comparing differs 0 7) (limits 3 1 unbounded)).path
      ++ (run_under one_load (comparing differs 0 7) (limits 3 1 unbounded)).trace;
  said = p1_path.said ++ p1_trace.said;
}

-- P1 has no thread 1
abbrev pub p1_no_thread : Worked
p1_no_thread = record {
  given = place_and_begun (run_under one_load (comparing equals 1 7) (limits 3 1 unbounded));
  said = 5 ∷ 255 ∷ 255 ∷ 0 ∷ 255 ∷ 0 ∷ [];
}

-- One plain cell: thread 0 has one of these rows or two, thread 1 the next. "A read is refused if a write vector has a thread ahead
-- (race kind 10). A write is refused if a read vector (kind 11), then a write vector (kind 12), has one." (document 02, §5)
abbrev pub plain_race : List Row → Row → List ℕ
plain_race first second = race_and_begun (run_free (table_with (0 ∷ []) (9 ∷ []) (first ∷ (second ∷ []) ∷ [])) (limits 8 4 unbounded))

abbrev pub read_of_written : Worked
read_of_written = record { given = plain_race (plain_write 7 ∷ []) plain_read; said = 14 ∷ 10 ∷ 0 ∷ 1 ∷ [] }

abbrev pub write_of_read : Worked
write_of_read = record { given = plain_race (plain_read ∷ []) (plain_write 7); said = 14 ∷ 11 ∷ 0 ∷ 1 ∷ [] }

abbrev pub write_of_written : Worked
write_of_written = record { given = plain_race (plain_write 7 ∷ []) (plain_write 8); said = 14 ∷ 12 ∷ 0 ∷ 1 ∷ [] }

abbrev pub write_of_both : Worked
write_of_both = record { given = plain_race (plain_write 7 ∷ plain_read ∷ []) (plain_write 8); said = 14 ∷ 11 ∷ 0 ∷ 1 ∷ [] }

-- reads race with no read, and the start value is ahead of nobody
abbrev pub read_of_read : Worked
read_of_read = record { given = plain_race (plain_read ∷ []) plain_read; said = 0 ∷ 0 ∷ 255 ∷ 1 ∷ [] }

-- "the trace gives the value read or written, slot 255": the start value is read, then 7 written
abbrev pub plain_trace : Worked
plain_trace = record {
  given = (run_free (table_with (0 ∷ []) (9 ∷ []) ((plain_read ∷ plain_write 7 ∷ []) ∷ [])) (limits 3 2 unbounded)).trace;
  said = 0 ∷ 0 ∷ 17 ∷ 255 ∷ (replicate 4 0 ++ (9 ∷ (replicate 7 0 ++ (0 ∷ 1 ∷ 18 ∷ 255 ∷ (replicate 4 0 ++ (7 ∷ replicate 7 0))))));
}

-- Row 1 jumps to itself, or to the next row, or to itself if register 0 holds 0. "Refuse such a table with answer 5 at that row."
-- (document 02, §6)
abbrev pub jumping : ℕ → ℕ → Row
jumping opcode target = record { opcode = opcode; object = 0; order = 0; failure = 0; kind = 0; register = 0; target = target; a = 0; b = 0 }

abbrev pub jump_there : Row → List ℕ
jump_there r = place_and_begun (run_free (table (0 ∷ []) ((load 0 ∷ r ∷ []) ∷ [])) (limits 8 4 unbounded))

abbrev pub to_itself : Worked
to_itself = record { given = jump_there (jumping 9 1); said = 5 ∷ 0 ∷ 1 ∷ 0 ∷ 255 ∷ 0 ∷ [] }

abbrev pub to_the_next : Worked
to_the_next = record { given = jump_there (jumping 9 2); said = 0 ∷ 255 ∷ 255 ∷ 0 ∷ 255 ∷ 1 ∷ [] }

abbrev pub to_itself_on_test : Worked
to_itself_on_test = record { given = jump_there (jumping 10 1); said = 12 ∷ 0 ∷ 1 ∷ 0 ∷ 255 ∷ 1 ∷ [] }

abbrev pub worked : List Worked
worked =
    p1
    ∷ p1_trace
    ∷ p1_path
    ∷ p2
    ∷ p3
    ∷ p3_values
    ∷ p3_opened
    ∷ p4
    ∷ p5
    ∷ p6
    ∷ p7
    ∷ p8
    ∷ p8_run
    ∷ p9
    ∷ p10
    ∷ p11
    ∷ p11_register
    ∷ p11_not_kept
    ∷ p3_unmet
    ∷ p3_met
    ∷ p1_unmet
    ∷ p1_leaves
    ∷ p1_no_thread
    ∷ read_of_written
    ∷ write_of_read
    ∷ write_of_written
    ∷ write_of_both
    ∷ read_of_read
    ∷ plain_trace
    ∷ to_itself
    ∷ to_the_next
    ∷ to_itself_on_test
    ∷ []
