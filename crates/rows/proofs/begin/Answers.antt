use native.Mathlib.Omega.{arith}
use Rattle.layout.specs.Tables.{state}
use Rattle.decode.specs.Ops.{op_of}
use Rattle.rows.proofs.RowLaws.{sets-none, sets-one, sets-within, begun-not, begun-bare, begun-asking}
use Rattle.rows.proofs.begin.Goals as goal

pub returns-then-limit-numbers : goal.returns-then-limit-numbers
returns-then-limit-numbers c =
    let args = c.args in
    λ clocks marks values k opcode m. begun-not (state clocks marks values args.numbers.now) args.thread args.limit (op_of args.op) c.if-limit-numbers.true

pub returns-in_default : goal.returns-in_default
returns-in_default c =
    let args = c.args in
    λ clocks marks values k opcode m.
    begun-bare clocks marks values args.numbers.now args.thread _ _ args.limit (op_of args.op) c.one_more.ensures c.one_more-2.ensures c.if-limit-numbers.false
    (sets-none _ (op_of args.op) c.pending_of.ensures c.in_default.is)

pub overflow_cast-numbers : goal.overflow_cast-numbers
overflow_cast-numbers c =
    let args = c.args in
    omega (arith, sets-within _ (op_of args.op) c.pending_of.ensures _ c.in-Some.is)

pub returns : goal.returns
returns c =
    let args = c.args in
    λ clocks marks values k opcode m.
    begun-asking clocks marks values args.numbers.now args.thread _ _ args.limit (op_of args.op) c.one_more.ensures c.one_more-2.ensures c.if-limit-numbers.false _ _
    (sets-one _ (op_of args.op) c.pending_of.ensures _ c.in-Some.is)
