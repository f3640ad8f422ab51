-- Vectors and counts stay in range, by the rows that each thread began: no part of a vector reaches the largest number, so none
-- ever stays where it is. Assumes nothing.
--     Counter, counter_of   a vector counts versions or choices
--     owed, waiting        a row that has begun and not acted; a pending operation
--     PartBounded          how far a part of a vector may have come
--     Vectors, Sights      the vectors, the marks of first sight
--     NumbersBounded       the numbers
--     Bounded              the three, of a state
--     BoundsHold           between ticks
--     BoundsAsked          where the machine asks: BoundsScheduling, BoundsReading
--     BoundsLeft           where it has asked, stopped or ended
--     InRange              what follows for every part, count and mark
use Rattle.std.specs.Prelude.{ℕ, ◌+◌, ◌≤◌, ◌<◌, List, [], Bool, cond, ◌≡◌, ◌⊎◌, eqb, length, get_or}
use Rattle.rules.specs.Vector.{largest}
use Rattle.rules.specs.Seen.{unseen, mark_of}
use Rattle.rules.specs.Table.{threads_of, cells_of, plains_of}
use Rattle.rules.specs.Event.{offers, Question, which_thread, which_slot, which_bit}
use Rattle.rules.specs.State as State
use Rattle.rules.specs.State.{State, Clocks, Numbers, Vector, vector, number, marks_of, vectors_held, numbers_held, threads, cells, plains, history}
use Rattle.rules.specs.State.{rows_of, yields, last_yield, operation, phase, count, active_thread, rows_begun}
use Rattle.rules.specs.Cell.{version, live_in}
use Rattle.rules.specs.Machine.{Program, to_begin, no_operation, current}
use Rattle.rules.proofs.StateLaws.{InVectors}

-- A program whose threads, cells and plain cells have their numbers, and whose operation limit leaves versions room
pub record ProgramFits (p : Program) : Type 0 where
  pub few : threads_of p.table ≤ threads
  pub held : cells_of p.table ≤ cells
  pub plain : plains_of p.table ≤ plains
  pub limited : p.operations + 2 < largest

-- Versions are raised by rows that act; choices, by a scheduling that chooses a thread with a pending operation
pub data Counter : Type 0 where
  of_versions : Counter
  of_choices : Counter

abbrev pub counter_of : Vector → Counter
counter_of (State.causality t) = of_versions
counter_of (State.released t) = of_versions
counter_of (State.schedule_of t) = of_choices
counter_of State.seq_cst = of_versions
counter_of (State.loaded c) = of_versions
counter_of (State.unsync_loaded c) = of_versions
counter_of (State.stored c) = of_versions
counter_of (State.mutated c) = of_versions
counter_of (State.last_access c) = of_choices
counter_of (State.last_non_load c) = of_choices
counter_of (State.happens_before s) = of_versions
counter_of (State.modification_order s) = of_versions
counter_of (State.sync s) = of_versions
counter_of (State.read_access c) = of_versions
counter_of (State.write_access c) = of_versions

-- of the five threads
abbrev pub of_all : (ℕ → ℕ) → ℕ
of_all f = f 0 + f 1 + f 2 + f 3 + f 4

-- of every thread but one, and of that one so much
unfoldable pub given : ℕ → ℕ → (ℕ → ℕ) → ℕ → ℕ
given t v f u = cond (eqb u t) v (f u)

abbrev pub but : ℕ → (ℕ → ℕ) → ℕ → ℕ
but t f = given t 0 f

abbrev pub nothing : ℕ → ℕ
nothing u = 0

-- the rows that a thread began
abbrev pub rows_in : Numbers → ℕ → ℕ
rows_in a u = number a (rows_of u)

-- 1 where a thread's row has begun and not acted, else 0
abbrev pub owed : Numbers → ℕ → ℕ
owed a u = cond (eqb (number a (phase u)) to_begin) 0 1

-- 1 where a thread has a pending operation, else 0
abbrev pub waiting : Numbers → ℕ → ℕ
waiting a u = cond (eqb (number a (operation u)) no_operation) 0 1

-- Thread u's part of a vector. A version is at most 2 at the start, and a row raises it at most once: one that is still to act has
-- not. A thread is chosen with a pending operation at most once for each row that set one: from then on it runs, until it makes
-- a scheduling itself, with a new row or with the operation gone
abbrev pub PartBounded : (rows owing waits : ℕ → ℕ) → Counter → ℕ → ℕ → Type 0
PartBounded rows owing waits of_versions u x = x + owing u ≤ 2 + rows u
PartBounded rows owing waits of_choices u x = x + waits u ≤ rows u

-- every vector has five parts, and each part has come no further than it may
pub record Vectors (P : Counter → ℕ → ℕ → Type 0) (clocks : Clocks) : Type 0 where
  pub held : length clocks ≡ vectors_held
  pub five : (v : Vector) → InVectors v → length (vector clocks v) ≡ threads
  pub parts : (v : Vector) → InVectors v → (u : ℕ) → u < threads → P (counter_of v) u (get_or (vector clocks v) u 0)

-- the number that stands for none, or at most this: marks have one, last yields another
abbrev pub Or : ℕ → ℕ → ℕ → Type 0
Or absent most x = (x ≡ absent) ⊎ (x ≤ most)

-- "Marks form seven rows of five numbers": each is unseen, or a version that its thread has reached
pub record Sights (most : ℕ → ℕ) (marks : State.Marks) : Type 0 where
  pub held : length marks ≡ cells
  pub seven : (c : ℕ) → c < cells → length (marks_of marks c) ≡ history
  pub five : (c slot : ℕ) → c < cells → slot < history → length (get_or (marks_of marks c) slot []) ≡ threads
  pub marked : (c slot u : ℕ) → c < cells → slot < history → u < threads →
      Or unseen (most u) (mark_of (get_or (marks_of marks c) slot []) u)

-- with n entries in the trace
pub record NumbersBounded (p : Program) (n : ℕ) (owing most : ℕ → ℕ) (a : Numbers) : Type 0 where
  pub held : length a ≡ numbers_held
  -- one of the five threads is active
  pub runs : number a active_thread < threads
  -- rows begun are those that the threads began, and at most L
  pub rows : of_all (rows_in a) ≡ number a rows_begun
  pub limit : number a rows_begun ≤ p.operations
  -- each has its entry, or is still to act
  pub entries : n + of_all owing ≡ number a rows_begun
  -- a cell has the store that it was made with, and at most one from each row that has acted
  pub counts : (c : ℕ) → c < cells → number a (count c) + of_all owing ≤ 1 + number a rows_begun
  -- a thread yields at most once for each row that it began
  pub yielded : (u : ℕ) → u < threads → number a (yields u) + owing u ≤ number a (rows_of u)
  -- its last yield is none, or a version that it has reached
  pub lasts : (u : ℕ) → u < threads → Or State.none (most u) (number a (last_yield u))

-- a state, where threads owe so much to their versions and so much to their choices
pub record Bounded (p : Program) (owing waits : ℕ → ℕ) (st : State) (n : ℕ) : Type 0 where
  pub vectors : Vectors (PartBounded (rows_in st.numbers) owing waits) st.clocks
  pub sights : Sights (version st.clocks) st.marks
  pub tally : NumbersBounded p n (owed st.numbers) (version st.clocks) st.numbers

-- between ticks the active thread runs, so its pending operation has been chosen
abbrev pub BoundsHold : Program → State → ℕ → Type 0
BoundsHold p st n = Bounded p (owed st.numbers) (but (current st) (waiting st.numbers)) st n

-- a slot or a bit is asked for by a row that is to act, and may have raised the version already; slots are at most seven
abbrev pub BoundsReading : Program → State → ℕ → Type 0
BoundsReading p st n =
    Bounded p (but (current st) (owed st.numbers)) (but (current st) (waiting st.numbers)) st n
    × (owed st.numbers (current st) ≡ 1)

-- a scheduling may choose any thread that waits
abbrev pub BoundsScheduling : Program → State → ℕ → Type 0
BoundsScheduling p st n = Bounded p (owed st.numbers) (waiting st.numbers) st n

abbrev pub BoundsAsked : Program → State → ℕ → Question → Type 0
BoundsAsked p st n (which_thread points initial standings) = BoundsScheduling p st n
BoundsAsked p st n (which_slot m) = BoundsReading p st n × ((offered : List Bool) → m ≡ offers offered → length offered ≤ history)
BoundsAsked p st n which_bit = BoundsReading p st n

abbrev pub BoundsLeft : Program → State → ℕ → Type 0
BoundsLeft p st n = Bounded p nothing nothing st n

-- What follows: numbers that a u16 holds, and that are none of those that stand for none
pub record InRange (st : State) : Type 0 where
  pub parts : (v : Vector) → InVectors v → (u : ℕ) → u < threads → get_or (vector st.clocks v) u 0 < largest
  pub counts : (c : ℕ) → c < cells → number st.numbers (count c) < largest
  -- at most seven of a cell's stores are live
  pub live : (c : ℕ) → c < cells → live_in st.numbers c ≤ history
  -- a mark that is not unseen is at most its thread's version, which is less than unseen
  pub marks : (c slot u : ℕ) → c < cells → slot < history → u < threads →
      Or unseen (version st.clocks u) (mark_of (get_or (marks_of st.marks c) slot []) u)
  pub yielded : (u : ℕ) → u < threads → number st.numbers (yields u) < largest
  pub rows : (u : ℕ) → u < threads → number st.numbers (rows_of u) < largest
