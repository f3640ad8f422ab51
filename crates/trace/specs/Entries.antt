-- What an entry stands for, and what a buffer of entries is left as. Assumes nothing.
--     entry_of      the definition's entry
--     Notes        an entry written past the first n
--     Cleared, Zeros      zeros in a part of the bytes, in all of them
--     Front        the bytes begin with these entries
--     Appended     they begin with these, of which the last came past the first n, and are else as they were
use Rattle.std.specs.Prelude.{ℕ, ◌+◌, ◌*◌, ◌/◌, ◌<◌, ◌≤◌, List, Bool, cond, ◌≡◌, ltb, length, get_or, take, replicate}
use Rattle.std.proofs.Math.Seq.{paste}
use Rattle.rules.specs.Event as rules
use Rattle.rules.specs.Event.{entry_bytes}
use Rattle.rules.specs.Explored.{entries_bytes}
use Rattle.trace.specs.declared.Entry.{Entry}

abbrev pub entry_of : Entry → rules.Entry
entry_of e = record {
  thread = e.thread;
  row = e.row;
  opcode = e.opcode;
  slot = e.slot;
  mask = e.mask;
  value = e.value;
}

pub record Notes (entry exit : List ℕ) (n : ℕ) (e : rules.Entry) (r : Bool) : Type 0 where
  pub said : r ≡ ltb n (length entry / 16)
  pub left : exit ≡ cond r (paste entry (16 * n) (entry_bytes e) 16) entry

pub record Cleared (entry exit : List ℕ) (from to : ℕ) : Type 0 where
  pub long : length exit ≡ length entry
  pub zero : (i : ℕ) → from ≤ i → i < to → get_or exit i 0 ≡ 0
  pub below : (i : ℕ) → i < from → get_or exit i 0 ≡ get_or entry i 0
  pub above : (i : ℕ) → to ≤ i → get_or exit i 0 ≡ get_or entry i 0

-- zeros in all of them
pub record Zeros (entry exit : List ℕ) : Type 0 where
  pub is : exit ≡ replicate (length exit) 0
  pub long : length exit ≡ length entry

abbrev pub Front : List ℕ → List rules.Entry → Type 0
Front bytes es = take (16 * length es) bytes ≡ entries_bytes es

pub record Appended (entry exit : List ℕ) (n : ℕ) (es : List rules.Entry) : Type 0 where
  pub front : Front exit es
  pub long : length exit ≡ length entry
  pub rest : (i : ℕ) → 16 * (n + 1) ≤ i → get_or exit i 0 ≡ get_or entry i 0
