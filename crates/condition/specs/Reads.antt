-- What the answers of this crate stand for in the definition. Assumes nothing.
use Rattle.std.specs.Prelude.{ℕ, ◌-◌, ◌≤◌, ◌<◌, List, ◌≡◌, length, drop, Result, Ok, Err}
use Rattle.rules.specs.Condition as rules
use Rattle.rules.specs.State.{Values, value, of_register, register_at}
use Rattle.condition.specs.declared.Read.{Read}
use Rattle.condition.specs.declared.BadByte.{BadByte}

-- a thread's register in the table of values
abbrev pub register_value : Values → ℕ → ℕ → ℕ
register_value values t r = value values (of_register (register_at t r))

-- what was read by places is what the definition reads by what follows
abbrev pub read_of : List ℕ → Result Read BadByte → rules.Read
read_of bytes (Err bad) = rules.bad (drop bad.at bytes)
read_of bytes (Ok read) = rules.read read.holds (drop read.end bytes)

abbrev pub read_to : Result Read BadByte → ℕ
read_to (Err bad) = bad.at
read_to (Ok read) = read.end

-- what was read from this place on, and where it ends
pub record ReadsCondition (bytes : List ℕ) (at : ℕ) (r : Result Read BadByte) (answer : rules.Read) : Type 0 where
  pub is : read_of bytes r ≡ answer
  pub on : at ≤ read_to r
  pub within : read_to r ≤ length bytes

-- of bytes that are so many: the place from which those that follow are left
abbrev pub found_in : ℕ → rules.Read → Result ℕ BadByte
found_in all (rules.bad rest) = Err (record { at = all - length rest })
found_in all (rules.read holds rest) = Ok (all - length rest)

-- the byte at a place, 0 at the end and behind it
pub record NextByte (bytes : List ℕ) (at r : ℕ) : Type 0 where
  pub is : r ≡ rules.next_byte (drop at bytes)
  pub there : 0 < r → at < length bytes
