-- Worked texts: docs/GRAMMAR.md's example read and written again, and texts with the place at which each is refused. That both columns
-- are equal is computed by the checker (proofs/WorkedTexts.antt).
use Rattle.std.specs.Prelude.{ℕ, List, [], ◌∷◌, ◌++◌, replicate}
use Prim.Native.String.{String}
use Rattle.rules.specs.Event.{little}
use Rattle.rules.specs.Condition.{equals, opens, closes, either, condition_bytes}
use Rattle.rules.specs.Token.{bytes_of}
use Rattle.rules.specs.Text.{TextAnswer, refused, read_into, table_bytes}
use Rattle.rules.specs.Worked.{row, table, table_with}

-- The example

abbrev pub hand_off : String
hand_off = "cells 0 0\nthread\n  store 7 to 0 relaxed\n  store 1 to 1 release\nthread\n  r0 = load 1 acquire\n  if r0 != 1 jump 4\n  r1 = load 0 relaxed\n  check r1 = 7\nfinally (1.r0 = 0 or 1.r1 = 7)\n"

-- the same with other blanks, comments, line ends, and the condition on two lines
abbrev pub hand_off_loose : String
hand_off_loose = "# a buffer\r\n\r\ncells\t0 0 # two\r\nthread\nstore 7 to 0 relaxed\n\n  store 1 to 1 release\nthread\n  r0=load 1 acquire\n  if r0!=1 jump 4\n  r1 = load 0 relaxed\n  check r1 = 7#all\nfinally (1.r0 = 0\n  or 1.r1=7 )"

-- opcode, cell, order, change kind, register, a: the rows of both threads, the jump's target in place
abbrev pub hand_off_table : List ℕ
hand_off_table =
    table (0 ∷ 0 ∷ []) (
    (row 1 0 0 0 0 7 ∷ row 1 1 1 0 0 1 ∷ [])
    ∷ (row 0 1 2 0 0 0 ∷ record { opcode = 11; object = 0; order = 0; failure = 0; kind = 0; register = 0; target = 4; a = 1; b = 0 } ∷ row 0 0 0 0 1 0 ∷ row 12 0 0 0 1 7 ∷ [])
    ∷ [])

abbrev pub hand_off_condition : List ℕ
hand_off_condition = opens ∷ ((equals ∷ 1 ∷ 0 ∷ little 8 0) ++ (either ∷ ((equals ∷ 1 ∷ 1 ∷ little 8 7) ++ (closes ∷ []))))

-- the buffer as a plain cell
abbrev pub hand_off_plain : String
hand_off_plain = "cells 0\nplain 0 5\nthread\n  write 7 to p1\n  store 1 to 0 release\nthread\n  r0 = load 0 acquire\n  r3 = read p1\n"

abbrev pub hand_off_plain_table : List ℕ
hand_off_plain_table =
    table_with (0 ∷ []) (0 ∷ 5 ∷ []) (
    (row 18 1 0 0 0 7 ∷ row 1 0 1 0 0 1 ∷ [])
    ∷ (row 0 0 2 0 0 0 ∷ row 17 1 0 0 3 0 ∷ [])
    ∷ [])

-- Texts that are refused

pub record Refusal : Type 0 where
  pub text : String
  pub line : ℕ
  pub column : ℕ

abbrev pub at : String → ℕ → ℕ → Refusal
at text line column = record { text = text; line = line; column = column }

abbrev pub refusals : List Refusal
refusals =
    at "" 1 1
    ∷ at "thread\n" 1 1
    ∷ at "cells\n" 1 6
    ∷ at "cells 1" 1 8
    ∷ at "cells 1 2 3 4 5\n" 1 15
    ∷ at "cells 0\n  yield\nthread\n" 2 3
    ∷ at "cells 0\nthread x\n" 2 8
    ∷ at "cells 0\nthread\nthread\nthread\nthread\nthread\nthread\n" 7 1
    ∷ at "cells 0\nthread\n  r0 = load 0 release\n" 3 15
    ∷ at "cells 0\nthread\n  r0 = load 1 relaxed\n" 3 13
    ∷ at "cells 0\nthread\n  r0 = lod 1 relaxed\n" 3 8
    ∷ at "cells 0\nthread\n  r4 = load 0 relaxed\n" 3 3
    ∷ at "cells 0\nthread\n  store 7 to 0" 3 15
    ∷ at "cells 0\nthread\n  store 7 to 0 acquire" 3 16
    ∷ at "cells 0\nthread\n  jump 2\n" 3 8
    ∷ at "cells 0\nthread\n  jump 1 x\n" 3 10
    ∷ at "cells 0\r\nthread\r\n  yield\r\n  join 1\r\n" 4 8
    ∷ at "cells 0\nthread\n  check r0 = 18446744073709551616" 3 14
    ∷ at "cells 0\nthread\n  check r0 = 01" 3 14
    ∷ at "cells 0\nthread\nfinally" 3 8
    ∷ at "cells 0\nthread\nfinally 1.r0 = 7\n" 3 9
    ∷ at "cells 0\nthread\nfinally 0.r0 == 7\n" 3 14
    ∷ at "cells 0\nthread\nfinally 0.r0 = 1 and 0.r1 = 1\n" 3 18
    ∷ at "cells 0\nthread\nfinally (0.r0 = 7\n and 0.r1 = 1 or 0.r2 = 2)" 4 15
    ∷ at "cells 0\nthread\nfinally (((((((((0.r0 = 1)))))))))" 3 17
    ∷ at "cells 0\nthread\nfinally 0.r0 = 7\nthread" 4 1
    ∷ at "plain 1\ncells 0\nthread\n" 1 1
    ∷ at "cells 0\nplain\nthread\n" 2 6
    ∷ at "cells 0\nplain x\nthread\n" 2 7
    ∷ at "cells 0\nplain 1 2 3 4 5\nthread\n" 2 15
    ∷ at "cells 0\nplain 1\nplain 1\nthread\n" 3 1
    ∷ at "cells 0\nthread\nplain 1\n" 3 1
    ∷ at "cells 0\nthread\n  r0 = read p0\n" 3 13
    ∷ at "cells 0\nplain 1\nthread\n  r0 = read p1\n" 4 13
    ∷ at "cells 0\nplain 1\nthread\n  write 7 to 0\n" 4 14
    ∷ at "cells 0\nthread\n  jump 0\n" 3 8
    ∷ at "cells 0\nthread\n  jump 1\n  if r0 = 0 jump 1\n  jump 2\n" 5 8
    ∷ []

abbrev pub text_answered : Refusal → TextAnswer
text_answered r = (read_into (bytes_of r.text) (replicate table_bytes 0) (replicate condition_bytes 0)).answer

abbrev pub expected : Refusal → TextAnswer
expected r = refused r.line r.column
