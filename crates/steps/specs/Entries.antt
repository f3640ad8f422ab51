-- A trace read back: what each of its entries says, how many there are, and what the row of one does. A trace is the list of its
-- bytes; proofs/BackLaws has what this comes to on the trace that a run leaves. Assumes nothing.
--     entry_read                an entry
--     entries                  how many there are
--     row_says, operation_at     what a row does, by its thread and number; the row of an entry
use Rattle.std.specs.Prelude.{ℕ, ◌+◌, ◌*◌, ◌/◌, List, [], Bool, false, cond, not, ◌||◌, ltb, eqb, length, get_or}
use Rattle.rules.specs.Event.{Entry}
use Rattle.rules.specs.Machine.{Program, row_of}
use Rattle.rules.specs.Table.{Op, Decoded, refused, max_threads, u64_at, first_not}

-- an entry has 16 bytes, and a trace holds those that are whole
abbrev pub room : List ℕ → ℕ
room trace = length trace / 16

-- what stands in an entry; 0 where the trace does not hold it
abbrev pub of_entry : List ℕ → ℕ → ℕ → ℕ
of_entry trace i x = cond (ltb i (room trace)) x 0

-- a byte of an entry, by its place there
unfoldable pub byte_at : List ℕ → ℕ → ℕ → ℕ
byte_at trace i place = of_entry trace i (get_or trace (16 * i + place) 0)

-- "Trace entry ..: thread, row, opcode, slot .. or 255, offer mask .., three zeros, u64 value"
abbrev pub entry_read : List ℕ → ℕ → Entry
entry_read trace i = record {
  thread = byte_at trace i 0;
  row = byte_at trace i 1;
  opcode = byte_at trace i 2;
  slot = byte_at trace i 3;
  mask = byte_at trace i 4;
  value = of_entry trace i (u64_at trace (16 * i + 8));
}

-- "all bytes past .. the last execution's last trace entry are zero": zeros are none, since a load, opcode 0, has an offer mask
abbrev pub is_entry : Entry → Bool
is_entry e = not (eqb e.opcode 0) || not (eqb e.mask 0)

-- how many entries stand before the first that is none
unfoldable pub entries : List ℕ → ℕ
entries trace = first_not (λ (i : ℕ). is_entry (entry_read trace i)) (room trace) 0

-- a table as the machine has it; neither limit nor flag is looked at here
abbrev pub program : List ℕ → Program
program table = record { table = table; condition = []; operations = 0; exploring = false }

-- what a thread's row of this number does; refused for a thread that no table has
unfoldable pub row_says : List ℕ → ℕ → ℕ → Decoded Op
row_says table thread row = cond (ltb thread max_threads) (row_of (program table) thread row) refused

-- what the row that an entry names does; refused where the trace does not hold the entry
unfoldable pub operation_at : List ℕ → List ℕ → ℕ → Decoded Op
operation_at table trace i =
    cond (ltb i (room trace)) (row_says table (entry_read trace i).thread (entry_read trace i).row) refused
