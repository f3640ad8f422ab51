-- Rows that are taken together, by their opcodes. Assumes nothing.
--     Alone      those that concern their own thread alone: neither a cell, plain or not, nor another thread
--     Unsync     these, and those that access a cell, plain or not, without synchronisation
--     Storing    these, and those that store
use Rattle.std.specs.Prelude.{ℕ, List, [], ◌∷◌}
use types.Run.{OneOf}
use Rattle.rules.specs.Table.{Op, opcode_of}

abbrev pub alone : List ℕ
alone = 9 ∷ 10 ∷ 11 ∷ 12 ∷ 13 ∷ 14 ∷ 15 ∷ 16 ∷ []

abbrev pub unsync : List ℕ
unsync = 5 ∷ 6 ∷ 9 ∷ 10 ∷ 11 ∷ 12 ∷ 13 ∷ 14 ∷ 15 ∷ 16 ∷ 17 ∷ 18 ∷ []

abbrev pub storing : List ℕ
storing = 1 ∷ 2 ∷ 5 ∷ 6 ∷ 9 ∷ 10 ∷ 11 ∷ 12 ∷ 13 ∷ 14 ∷ 15 ∷ 16 ∷ 17 ∷ 18 ∷ []

abbrev pub Alone : Op → Type 0
Alone op = OneOf alone (opcode_of op)

abbrev pub Unsync : Op → Type 0
Unsync op = OneOf unsync (opcode_of op)

abbrev pub Storing : Op → Type 0
Storing op = OneOf storing (opcode_of op)
