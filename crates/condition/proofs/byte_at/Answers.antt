use native.Mathlib.Omega.{arith}
use Rattle.condition.proofs.ReadLaws.{here, past}
use Rattle.condition.proofs.byte_at.Goals as goal

pub returns-then-at-bytes : goal.returns-then-at-bytes
returns-then-at-bytes c = let g = c.args in record { is = here g.bytes.now g.at; there = λ z. c.if-at-bytes.true }

pub returns : goal.returns
returns c = record { is = past _ _ c.if-at-bytes.false; there = λ z. omega arith }
