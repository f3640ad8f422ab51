use borrow.Enum.Refused.{opened}
use native.Mathlib.Omega.{arith}
use Prim.Native.Nat.{◌+◌}
use mathlib.Core.Bool.{cond}
use lib.ListN.{set}
use Rattle.layout.specs.Tables.{state}
use Rattle.rows.proofs.RowLaws.{number-of, bit-refused, bit-other, bit-within, bit-taken}
use borrow.Author.Rules.{rules}
use Rattle.rows.proofs.take_bit.Goals as goal

pub returns-in_default : goal.returns-in_default
returns-in_default c =
    let args = c.args in
    λ clocks marks m. bit-refused (state clocks marks args.values.now args.numbers.now) args.here.site.thread args.here.site.row (cond args.bit 1 0) args.here.row c.in_default.is

pub returns-in_default-op : goal.returns-in_default-op
returns-in_default-op c =
    let args = c.args in
    λ clocks marks m.
    bit-other (state clocks marks args.values.now args.numbers.now) args.here.site.thread args.here.site.row (cond args.bit 1 0) args.here.row _ c.in-Some.is (opened c.in_default-op.in_default-op-own.keys2)

pub register_at-requires : goal.register_at-requires
register_at-requires c =
    let args = c.args in
    (search rules, omega (arith, bit-within args.here.row _ _ c.in-Some.is c.in-Spurious.is c.requires.names))

pub overflow_add-values : goal.overflow_add-values
overflow_add-values c =
    let args = c.args in
    omega (arith, c.register_at.ensures, bit-within args.here.row _ _ c.in-Some.is c.in-Spurious.is c.requires.names)

pub offset_bounds-values-register_at : goal.offset_bounds-values-register_at
offset_bounds-values-register_at c =
    let args = c.args in
    omega (arith, c.register_at.ensures, bit-within args.here.row _ _ c.in-Some.is c.in-Spurious.is c.requires.names)

pub bounds-values-register_at : goal.bounds-values-register_at
bounds-values-register_at c =
    let args = c.args in
    omega (arith, c.register_at.ensures, bit-within args.here.row _ _ c.in-Some.is c.in-Spurious.is c.requires.names)

pub returns : goal.returns
returns c =
    let args = c.args in
    λ clocks marks m.
    bit-taken clocks marks args.values.now args.numbers.now _ args.here.site.thread args.here.site.row args.here.row _ _ _ _ (cond args.bit 1 0) _
    c.in-Some.is c.in-Spurious.is c.register_at.ensures
    (number-of args.bit _ c.from-value.ensures)
    c.one_more.ensures
    (c.complete.ensures clocks marks (set args.values.now (28 + c.register_at.result) c.from-value.result))
