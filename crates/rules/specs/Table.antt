-- Which bytes are a table, which row of one is the first bad one, and what a row says: document 01, "Table". A table is the list
-- of its bytes. Assumes nothing.
--     header_fine             whether the header and the length are those of a table
--     Op, row_decoded         what a row does, by its opcode with just the fields that the opcode uses; or that it is refused
--     judged                 the whole table, and its first bad row
--     start_value, row_at      a start value, and a row's fields by its number among all rows
use Rattle.std.specs.Prelude.{ℕ, zero, suc, ◌+◌, ◌*◌, List, [], ◌∷◌, ◌++◌, Bool, true, false, cond, not, ◌&&◌, ◌||◌, ltb, leb, eqb, length, get_or, take, drop, replicate}
use Rattle.rules.specs.Change.{Change}
use Rattle.rules.specs.State as State

-- Limits

-- "MAX_THREADS is 5"
abbrev pub max_threads : ℕ
max_threads = State.threads

-- "cells 1..4"
abbrev pub max_cells : ℕ
max_cells = State.cells

-- "Add up to four unsynchronised cells" (document 02, §5): plain cells
abbrev pub max_plains : ℕ
max_plains = State.plains

-- the start values of the largest table
abbrev pub max_values : ℕ
max_values = max_cells + max_plains

-- "Raise rows for each thread from 32 to 64" (document 02, §4)
abbrev pub max_rows : ℕ
max_rows = 64

-- the rows of the largest table
abbrev pub all_rows : ℕ
all_rows = max_threads * max_rows

-- "Header of 8 bytes"
abbrev pub header_bytes : ℕ
header_bytes = 8

-- "a u64 start value for each cell"
abbrev pub value_bytes : ℕ
value_bytes = 8

-- "rows of 24 bytes"
abbrev pub row_bytes : ℕ
row_bytes = 24

-- "register 0..3"
abbrev pub registers : ℕ
registers = State.registers

-- Numbers

-- "Little-endian.": the lower half stands first
unfoldable pub u16_at : List ℕ → ℕ → ℕ
u16_at t at = get_or t at 0 + 256 * get_or t (at + 1) 0

unfoldable pub u32_at : List ℕ → ℕ → ℕ
u32_at t at = u16_at t at + 65536 * u16_at t (at + 2)

unfoldable pub u64_at : List ℕ → ℕ → ℕ
u64_at t at = u32_at t at + 4294967296 * u32_at t (at + 4)

-- The header

-- byte 0, byte 1, and the five bytes from 2 on
abbrev pub threads_of : List ℕ → ℕ
threads_of t = get_or t 0 0

abbrev pub cells_of : List ℕ → ℕ
cells_of t = get_or t 1 0

unfoldable pub counts_of : List ℕ → List ℕ
counts_of t = take max_threads (drop 2 t)

-- "The table header's last byte becomes the plain-cell count" (document 02, §5)
abbrev pub plains_of : List ℕ → ℕ
plains_of t = get_or t 7 0

-- "their starting values follow the atomic ones": so many start values in all
abbrev pub values_of : List ℕ → ℕ
values_of t = cells_of t + plains_of t

-- "five row counts .. (0 past the thread count)"
abbrev pub count_fine : ℕ → ℕ → ℕ → Bool
count_fine threads i c = cond (ltb i threads) (leb c max_rows) (eqb c 0)

-- the counts from thread i on
unfoldable pub counts_fine : ℕ → ℕ → List ℕ → Bool
counts_fine threads i [] = true
counts_fine threads i (c ∷ cs) = count_fine threads i c && counts_fine threads (i + 1) cs

unfoldable pub total : List ℕ → ℕ
total [] = 0
total (c ∷ cs) = c + total cs

-- "Then a u64 start value for each cell, then rows of 24 bytes, thread 0 first. No byte more or less.": the bytes of a table
-- of so many start values and rows, which is where the next row would stand
abbrev pub size_of : ℕ → ℕ → ℕ
size_of values rows = header_bytes + value_bytes * values + row_bytes * rows

-- "Header of 8 bytes: threads 1..5, cells 1..4, five row counts .. (0 past the thread count)", the plain-cell count, and the length [Q14]
unfoldable pub header_fine : List ℕ → Bool
header_fine t =
    leb header_bytes (length t)
    && (leb 1 (threads_of t) && leb (threads_of t) max_threads)
    && (leb 1 (cells_of t) && leb (cells_of t) max_cells)
    && counts_fine (threads_of t) 0 (counts_of t)
    && leb (plains_of t) max_plains
    && eqb (length t) (size_of (values_of t) (total (counts_of t)))

-- the number of each thread's first row among all rows: "thread 0 first"
unfoldable pub first_rows : ℕ → List ℕ → List ℕ
first_rows n [] = []
first_rows n (c ∷ cs) = n ∷ first_rows (n + c) cs

-- threads, cells, five row counts, five first rows, plain cells; zeros where there is no header
unfoldable pub shape_of : List ℕ → List ℕ
shape_of t =
    cond (leb header_bytes (length t))
    (threads_of t ∷ cells_of t ∷ (counts_of t ++ (first_rows 0 (counts_of t) ++ (plains_of t ∷ []))))
    (replicate 13 0)

-- "Then a u64 start value for each cell", "their starting values follow the atomic ones" (document 02, §5): 0 where the table has no such value
unfoldable pub start_value : List ℕ → ℕ → ℕ
start_value t i =
    cond (ltb i max_values && leb (header_bytes + value_bytes * i + value_bytes) (length t))
    (u64_at t (header_bytes + value_bytes * i))
    0

-- Rows

-- "Row: opcode, cell or thread, order, failure order, change kind, register 0..3, jump target u16 (0..row count), operand a u64, operand b u64."
pub record Row : Type 0 where
  pub opcode : ℕ
  pub object : ℕ
  pub order : ℕ
  pub failure : ℕ
  pub kind : ℕ
  pub register : ℕ
  pub target : ℕ
  pub a : ℕ
  pub b : ℕ

unfoldable pub row_from : List ℕ → ℕ → Row
row_from t at = record {
  opcode = get_or t at 0;
  object = get_or t (at + 1) 0;
  order = get_or t (at + 2) 0;
  failure = get_or t (at + 3) 0;
  kind = get_or t (at + 4) 0;
  register = get_or t (at + 5) 0;
  target = u16_at t (at + 6);
  a = u64_at t (at + 8);
  b = u64_at t (at + 16);
}

-- what stands for a row that the table does not hold: no opcode is 255 (docs/DECISIONS.md, 41)
abbrev pub no_row : Row
no_row = record { opcode = 255; object = 0; order = 0; failure = 0; kind = 0; register = 0; target = 0; a = 0; b = 0 }

-- the row of this number among all rows of a table with this many start values
unfoldable pub row_at : List ℕ → ℕ → ℕ → Row
row_at t values index =
    cond (leb values max_values && ltb index all_rows && leb (size_of values index + row_bytes) (length t))
    (row_from t (size_of values index))
    no_row

-- What a row does

-- "anything else is refused"
pub data Decoded (A : Type 0) : Type 0 where
  refused : Decoded A
  decoded : A → Decoded A

abbrev pub only_if : {A : Type 0} → Bool → A → Decoded A
only_if true x = decoded x
only_if false x = refused

-- "Opcodes: 0 load; 1 store a; 2 store register; 3 RMW; 4 fence; 5 unsynchronised load; 6 exclusive change (`with_mut`); 7 yield; 8
-- join thread; 9 jump; 10 jump if register = a; 11 jump if not; 12 check register = a; 13 `critical`; 14 `explore_state`; 15
-- `skip_branch`; 16 `branch_spurious` into register (0 or 1)." "a plain read (opcode 17) and a plain write (opcode 18)" (document 02, §5).
-- Each with the fields that it uses, and no others [Q15]
pub data Op : Type 0 where
  load : (cell order register : ℕ) → Op
  store : (cell order a : ℕ) → Op
  store_register : (cell order register : ℕ) → Op
  rmw : (cell order failure : ℕ) (change : Change) (register : ℕ) → Op
  fence : (order : ℕ) → Op
  unsync_load : (cell register : ℕ) → Op
  with_mut : (cell : ℕ) (change : Change) (register : ℕ) → Op
  yield : Op
  join : (thread : ℕ) → Op
  jump : (target : ℕ) → Op
  jump_if : (register a target : ℕ) → Op
  jump_unless : (register a target : ℕ) → Op
  check : (register a : ℕ) → Op
  critical : Op
  explore_state : Op
  skip_branch : Op
  spurious : (register : ℕ) → Op
  plain_read : (plain register : ℕ) → Op
  plain_write : (plain a : ℕ) → Op

-- the opcode's number
abbrev pub opcode_of : Op → ℕ
opcode_of (load cell order register) = 0
opcode_of (store cell order a) = 1
opcode_of (store_register cell order register) = 2
opcode_of (rmw cell order failure change register) = 3
opcode_of (fence order) = 4
opcode_of (unsync_load cell register) = 5
opcode_of (with_mut cell change register) = 6
opcode_of yield = 7
opcode_of (join thread) = 8
opcode_of (jump target) = 9
opcode_of (jump_if register a target) = 10
opcode_of (jump_unless register a target) = 11
opcode_of (check register a) = 12
opcode_of critical = 13
opcode_of explore_state = 14
opcode_of skip_branch = 15
opcode_of (spurious register) = 16
opcode_of (plain_read plain register) = 17
opcode_of (plain_write plain a) = 18

-- of a row that is none, 255
abbrev pub opcode_in : Decoded Op → ℕ
opcode_in refused = 255
opcode_in (decoded op) = opcode_of op

-- What a field may be

-- "Orders: 0 Relaxed, 1 Release, 2 Acquire, 3 AcqRel, 4 SeqCst."
abbrev pub any_order : ℕ → Bool
any_order o = leb o 4

-- "Refused: load or failure order 1 or 3"
abbrev pub is_load_order : ℕ → Bool
is_load_order o = any_order o && not (eqb o 1) && not (eqb o 3)

-- "store order 2 or 3"
abbrev pub is_store_order : ℕ → Bool
is_store_order o = any_order o && not (eqb o 2) && not (eqb o 3)

-- "fence 0"
abbrev pub is_fence_order : ℕ → Bool
is_fence_order o = any_order o && not (eqb o 0)

-- "Only kinds 11 and 12 may fail, and only they, in RMW, use a failure order."
abbrev pub is_failure_order : ℕ → ℕ → Bool
is_failure_order kind f = cond (eqb kind 11 || eqb kind 12) (is_load_order f) (eqb f 0)

-- "register 0..3"
abbrev pub is_register : ℕ → Bool
is_register r = ltb r registers

-- "Fields that the opcode or change kind doesn't use are zero"
abbrev pub unused : List ℕ → Bool
unused [] = true
unused (x ∷ xs) = eqb x 0 && unused xs

-- "Changes (both in RMW and exclusive): 0 swap, 1 add, 2 subtract .., 3 and, 4 or, 5 xor, 6 nand, 7 unsigned max, 8 unsigned min, 9
-- signed max, 10 signed min, 11 compare a, write b, 12 decrement unless zero."
unfoldable pub change_decoded : ℕ → ℕ → ℕ → Decoded Change
change_decoded kind a b =
    cond (eqb kind 0) (only_if (eqb b 0) (Change.swap a))
    (cond (eqb kind 1) (only_if (eqb b 0) (Change.add a))
    (cond (eqb kind 2) (only_if (eqb b 0) (Change.subtract a))
    (cond (eqb kind 3) (only_if (eqb b 0) (Change.and a))
    (cond (eqb kind 4) (only_if (eqb b 0) (Change.or a))
    (cond (eqb kind 5) (only_if (eqb b 0) (Change.xor a))
    (cond (eqb kind 6) (only_if (eqb b 0) (Change.nand a))
    (cond (eqb kind 7) (only_if (eqb b 0) (Change.max a))
    (cond (eqb kind 8) (only_if (eqb b 0) (Change.min a))
    (cond (eqb kind 9) (only_if (eqb b 0) (Change.signed_max a))
    (cond (eqb kind 10) (only_if (eqb b 0) (Change.signed_min a))
    (cond (eqb kind 11) (decoded (Change.compare a b))
    (cond (eqb kind 12) (only_if (eqb a 0 && eqb b 0) Change.decrement)
    refused))))))))))))

-- What a row may name: "A cell or thread named must exist.", "jump target u16 (0..row count)"; and the row's own number
pub record Room : Type 0 where
  pub threads : ℕ
  pub cells : ℕ
  pub plains : ℕ
  pub rows : ℕ
  pub row : ℕ

-- that of a row of this number, in a thread of so many rows
abbrev pub room_of : List ℕ → ℕ → ℕ → Room
room_of t rows row = record { threads = threads_of t; cells = cells_of t; plains = plains_of t; rows = rows; row = row }

-- A row of each opcode, in a table of so many cells or threads, in a thread of so many rows

abbrev pub load_row : ℕ → Row → Decoded Op
load_row cells r =
    only_if
    (ltb r.object cells && is_load_order r.order && is_register r.register
    && unused (r.failure ∷ r.kind ∷ r.target ∷ r.a ∷ r.b ∷ []))
    (load r.object r.order r.register)

abbrev pub store_row : ℕ → Row → Decoded Op
store_row cells r =
    only_if
    (ltb r.object cells && is_store_order r.order
    && unused (r.failure ∷ r.kind ∷ r.register ∷ r.target ∷ r.b ∷ []))
    (store r.object r.order r.a)

abbrev pub store_register_row : ℕ → Row → Decoded Op
store_register_row cells r =
    only_if
    (ltb r.object cells && is_store_order r.order && is_register r.register
    && unused (r.failure ∷ r.kind ∷ r.target ∷ r.a ∷ r.b ∷ []))
    (store_register r.object r.order r.register)

-- an RMW may have any order, and its failure order is not compared with it [Q16]
abbrev pub rmw_row : ℕ → Row → Decoded Change → Decoded Op
rmw_row cells r refused = refused
rmw_row cells r (decoded change) =
    only_if
    (ltb r.object cells && any_order r.order && is_failure_order r.kind r.failure && is_register r.register
    && unused (r.target ∷ []))
    (rmw r.object r.order r.failure change r.register)

abbrev pub fence_row : Row → Decoded Op
fence_row r =
    only_if
    (is_fence_order r.order
    && unused (r.object ∷ r.failure ∷ r.kind ∷ r.register ∷ r.target ∷ r.a ∷ r.b ∷ []))
    (fence r.order)

abbrev pub unsync_load_row : ℕ → Row → Decoded Op
unsync_load_row cells r =
    only_if
    (ltb r.object cells && is_register r.register
    && unused (r.order ∷ r.failure ∷ r.kind ∷ r.target ∷ r.a ∷ r.b ∷ []))
    (unsync_load r.object r.register)

abbrev pub with_mut_row : ℕ → Row → Decoded Change → Decoded Op
with_mut_row cells r refused = refused
with_mut_row cells r (decoded change) =
    only_if
    (ltb r.object cells && is_register r.register && unused (r.order ∷ r.failure ∷ r.target ∷ []))
    (with_mut r.object change r.register)

-- yield, `critical`, `explore_state`, `skip_branch`
abbrev pub bare_row : Op → Row → Decoded Op
bare_row op r =
    only_if (unused (r.object ∷ r.order ∷ r.failure ∷ r.kind ∷ r.register ∷ r.target ∷ r.a ∷ r.b ∷ [])) op

-- a join may name its own thread: that is a deadlock [Q16]
abbrev pub join_row : ℕ → Row → Decoded Op
join_row threads r =
    only_if
    (ltb r.object threads
    && unused (r.order ∷ r.failure ∷ r.kind ∷ r.register ∷ r.target ∷ r.a ∷ r.b ∷ []))
    (join r.object)

-- "jump target u16 (0..row count)"; "a row that jumps unconditionally to its own row", "Refuse such a table with answer 5 at that row."
-- (document 02, §6)
abbrev pub jump_row : ℕ → ℕ → Row → Decoded Op
jump_row count row r =
    only_if
    (leb r.target count && not (eqb r.target row)
    && unused (r.object ∷ r.order ∷ r.failure ∷ r.kind ∷ r.register ∷ r.a ∷ r.b ∷ []))
    (jump r.target)

-- a jump on a test of the register: "Conditional jumps to their own row stay legal" (document 02, §6)
abbrev pub jump_on_row : (ℕ → ℕ → ℕ → Op) → ℕ → Row → Decoded Op
jump_on_row op count r =
    only_if
    (is_register r.register && leb r.target count
    && unused (r.object ∷ r.order ∷ r.failure ∷ r.kind ∷ r.b ∷ []))
    (op r.register r.a r.target)

abbrev pub check_row : Row → Decoded Op
check_row r =
    only_if
    (is_register r.register && unused (r.object ∷ r.order ∷ r.failure ∷ r.kind ∷ r.target ∷ r.b ∷ []))
    (check r.register r.a)

abbrev pub spurious_row : Row → Decoded Op
spurious_row r =
    only_if
    (is_register r.register && unused (r.object ∷ r.order ∷ r.failure ∷ r.kind ∷ r.target ∷ r.a ∷ r.b ∷ []))
    (spurious r.register)

-- "Opcode 17 puts the value in the register, 18 writes operand a" (document 02, §5)
abbrev pub plain_read_row : ℕ → Row → Decoded Op
plain_read_row plains r =
    only_if
    (ltb r.object plains && is_register r.register
    && unused (r.order ∷ r.failure ∷ r.kind ∷ r.target ∷ r.a ∷ r.b ∷ []))
    (plain_read r.object r.register)

abbrev pub plain_write_row : ℕ → Row → Decoded Op
plain_write_row plains r =
    only_if
    (ltb r.object plains
    && unused (r.order ∷ r.failure ∷ r.kind ∷ r.register ∷ r.target ∷ r.b ∷ []))
    (plain_write r.object r.a)

-- by the opcode. "Opcodes from 19 are refused." (document 02, §5)
unfoldable pub row_decoded : Room → Row → Decoded Op
row_decoded room r =
    cond (eqb r.opcode 0) (load_row room.cells r)
    (cond (eqb r.opcode 1) (store_row room.cells r)
    (cond (eqb r.opcode 2) (store_register_row room.cells r)
    (cond (eqb r.opcode 3) (rmw_row room.cells r (change_decoded r.kind r.a r.b))
    (cond (eqb r.opcode 4) (fence_row r)
    (cond (eqb r.opcode 5) (unsync_load_row room.cells r)
    (cond (eqb r.opcode 6) (with_mut_row room.cells r (change_decoded r.kind r.a r.b))
    (cond (eqb r.opcode 7) (bare_row yield r)
    (cond (eqb r.opcode 8) (join_row room.threads r)
    (cond (eqb r.opcode 9) (jump_row room.rows room.row r)
    (cond (eqb r.opcode 10) (jump_on_row jump_if room.rows r)
    (cond (eqb r.opcode 11) (jump_on_row jump_unless room.rows r)
    (cond (eqb r.opcode 12) (check_row r)
    (cond (eqb r.opcode 13) (bare_row critical r)
    (cond (eqb r.opcode 14) (bare_row explore_state r)
    (cond (eqb r.opcode 15) (bare_row skip_branch r)
    (cond (eqb r.opcode 16) (spurious_row r)
    (cond (eqb r.opcode 17) (plain_read_row room.plains r)
    (cond (eqb r.opcode 18) (plain_write_row room.plains r)
    refused))))))))))))))))))

-- a row is fine where it says something
abbrev pub is_fine : Decoded Op → Bool
is_fine refused = false
is_fine (decoded op) = true

-- the row of this number among all rows, in this room. With more threads, cells or plain cells than there can be, no row is one
unfoldable pub op_at : List ℕ → Room → ℕ → Decoded Op
op_at t room index =
    cond (leb room.threads max_threads && leb room.cells max_cells && leb room.plains max_plains)
    (row_decoded room (row_at t (room.cells + room.plains) index))
    refused

-- The whole table

-- the first of the n rows from row i on that is not fine, or the row after them
unfoldable pub first_not : (ℕ → Bool) → ℕ → ℕ → ℕ
first_not fine zero i = i
first_not fine (suc n) i = cond (fine i) (first_not fine n (i + 1)) i

-- the first bad row of a thread of c rows, of which the first has this number among all rows; c where there is none
unfoldable pub first_bad : List ℕ → ℕ → ℕ → ℕ
first_bad t first c = first_not (λ (i : ℕ). is_fine (op_at t (room_of t c i) (first + i))) c 0

pub data Judged : Type 0 where
  good : Judged
  bad_header : Judged
  bad_row : ℕ → ℕ → Judged

-- "the first bad row", thread and row within the thread: of the threads from this one on, whose counts are these and whose
-- rows begin at this number [Q14]
unfoldable pub rows_judged : List ℕ → ℕ → ℕ → List ℕ → Judged
rows_judged t thread first [] = good
rows_judged t thread first (c ∷ cs) =
    cond (ltb (first_bad t first c) c)
    (bad_row thread (first_bad t first c))
    (rows_judged t (thread + 1) (first + c) cs)

-- "for 5 the first bad row, or 255, 255 if header or length is bad, which is judged first"
unfoldable pub judged : List ℕ → Judged
judged t = cond (header_fine t) (rows_judged t 0 0 (counts_of t)) bad_header
