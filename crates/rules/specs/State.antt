-- The state of an execution: four tables, and a name for each thing that they hold. Positions are worked out here and nowhere
-- else: a vector, a number or a value is read and written by its name. Assumes nothing.
-- In the comments of these files a quotation stands in document 01 or 02, with .. for what is left out; [Q23] is question 23 of those
-- that docs/DECISIONS.md settles, 1 to 32; (path.rs: step) is a function of loom 0.7.2's source.
--     vector, with_vector     a vector of five parts, by its name
--     marks_of, with_marks     a cell's marks of first sight
--     value, with_value       a store's value, a register or what a plain cell holds
--     number, with_number     a number
use Rattle.std.specs.Prelude.{ℕ, ◌+◌, ◌*◌, List, [], get_or, set}

-- "MAX_THREADS is 5, MAX_ATOMIC_HISTORY 7.", "cells 1..4", "register 0..3"; "up to four unsynchronised cells" (document 02, §5)
abbrev pub threads : ℕ
threads = 5

abbrev pub history : ℕ
history = 7

abbrev pub cells : ℕ
cells = 4

abbrev pub plains : ℕ
plains = 4

abbrev pub registers : ℕ
registers = 4

-- a number that stands for none: no last yield, no last access (docs/DECISIONS.md, 50)
abbrev pub none : ℕ
none = 65535

-- the number of a cell's slot among those of all cells
abbrev pub store_at : ℕ → ℕ → ℕ
store_at cell slot = history * cell + slot

-- the number of a thread's register among those of all threads
abbrev pub register_at : ℕ → ℕ → ℕ
register_at t r = registers * t + r

-- Vectors

pub data Vector : Type 0 where
  -- of a thread
  causality : ℕ → Vector
  released : ℕ → Vector
  schedule_of : ℕ → Vector
  -- "the global SeqCst vector"
  seq_cst : Vector
  -- of a cell: the accesses that races are judged by, and the last accesses (atomic.rs: State)
  loaded : ℕ → Vector
  unsync_loaded : ℕ → Vector
  stored : ℕ → Vector
  mutated : ℕ → Vector
  last_access : ℕ → Vector
  last_non_load : ℕ → Vector
  -- of a store (atomic.rs: Store)
  happens_before : ℕ → Vector
  modification_order : ℕ → Vector
  sync : ℕ → Vector
  -- of a plain cell: the accesses that races are judged by (cell.rs: State)
  read_access : ℕ → Vector
  write_access : ℕ → Vector

abbrev pub vector_at : Vector → ℕ
vector_at (causality t) = 0 + t
vector_at (released t) = 5 + t
vector_at (schedule_of t) = 10 + t
vector_at seq_cst = 15
vector_at (loaded c) = 16 + c
vector_at (unsync_loaded c) = 20 + c
vector_at (stored c) = 24 + c
vector_at (mutated c) = 28 + c
vector_at (last_access c) = 32 + c
vector_at (last_non_load c) = 36 + c
vector_at (happens_before s) = 40 + s
vector_at (modification_order s) = 68 + s
vector_at (sync s) = 96 + s
vector_at (read_access c) = 124 + c
vector_at (write_access c) = 128 + c

abbrev pub Clocks : Type 0
Clocks = List (List ℕ)

abbrev pub vector : Clocks → Vector → List ℕ
vector clocks v = get_or clocks (vector_at v) []

abbrev pub with_vector : Clocks → Vector → List ℕ → Clocks
with_vector clocks v parts = set clocks (vector_at v) parts

-- Marks: "Marks form seven rows of five numbers"

abbrev pub Marks : Type 0
Marks = List (List (List ℕ))

abbrev pub marks_of : Marks → ℕ → List (List ℕ)
marks_of marks cell = get_or marks cell []

abbrev pub with_marks : Marks → ℕ → List (List ℕ) → Marks
with_marks marks cell rows = set marks cell rows

-- Values

pub data Value : Type 0 where
  of_store : ℕ → Value
  of_register : ℕ → Value
  of_plain : ℕ → Value

abbrev pub value_at : Value → ℕ
value_at (of_store s) = 0 + s
value_at (of_register r) = 28 + r
value_at (of_plain c) = 48 + c

abbrev pub Values : Type 0
Values = List ℕ

abbrev pub value : Values → Value → ℕ
value values v = get_or values (value_at v) 0

abbrev pub with_value : Values → Value → ℕ → Values
with_value values v n = set values (value_at v) n

-- Numbers

pub data Number : Type 0 where
  -- of a thread
  state : ℕ → Number
  next_row : ℕ → Number
  rows_of : ℕ → Number
  yields : ℕ → Number
  last_yield : ℕ → Number
  operation : ℕ → Number
  operates_on : ℕ → Number
  phase : ℕ → Number
  -- of a cell
  count : ℕ → Number
  access_branch : ℕ → Number
  non_load_branch : ℕ → Number
  -- of a store
  is_seq_cst : ℕ → Number
  -- one each
  active_thread : Number
  rows_begun : Number
  exploring : Number
  skipping : Number
  -- of a thread
  awaits : ℕ → Number

abbrev pub number_at : Number → ℕ
number_at (state t) = 0 + t
number_at (next_row t) = 5 + t
number_at (rows_of t) = 10 + t
number_at (yields t) = 15 + t
number_at (last_yield t) = 20 + t
number_at (operation t) = 25 + t
number_at (operates_on t) = 30 + t
number_at (phase t) = 35 + t
number_at (count c) = 40 + c
number_at (access_branch c) = 44 + c
number_at (non_load_branch c) = 48 + c
number_at (is_seq_cst s) = 52 + s
number_at active_thread = 80
number_at rows_begun = 81
number_at exploring = 82
number_at skipping = 83
number_at (awaits t) = 84 + t

abbrev pub Numbers : Type 0
Numbers = List ℕ

abbrev pub number : Numbers → Number → ℕ
number numbers n = get_or numbers (number_at n) 0

abbrev pub with_number : Numbers → Number → ℕ → Numbers
with_number numbers n k = set numbers (number_at n) k

-- The whole

pub record State : Type 0 where
  pub clocks : Clocks
  pub marks : Marks
  pub values : Values
  pub numbers : Numbers

-- how long the tables are: every name is within
abbrev pub vectors_held : ℕ
vectors_held = 132

abbrev pub values_held : ℕ
values_held = 52

abbrev pub numbers_held : ℕ
numbers_held = 89
