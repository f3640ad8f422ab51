use Prim.Native.Nat.{◌+◌}
use mathlib.Core.Path.{sym, ◌∙◌}
use native.Mathlib.Omega.{arith}
use lib.ListN.{get_or, drop}
use Rattle.put.proofs.PutLaws.{puts_then, puts-are}
use Rattle.condition_line.proofs.UnitLaws.{sign-there, unit-sign, unit-word}
use Rattle.condition_line.proofs.put_unit.Goals as goal

pub put_comparison-requires : goal.put_comparison-requires
put_comparison-requires c =
    sign-there c.args.condition.now c.args.from c.requires.1 c.requires.0 (sym c.is_sign.ensures ∙ c.if-is_sign.true)

pub returns-then-is_sign : goal.returns-then-is_sign
returns-then-is_sign c =
    let a = c.args in
    puts-are _ _ _ _ _ _ (unit-sign a.opened (get_or a.condition.now a.from 0) (drop (a.from + 1) a.condition.now) (sym c.is_sign.ensures ∙ c.if-is_sign.true))
    (puts_then _ _ _ _ _ _ _ _ (omega arith) c.put_blank-first.ensures c.put_comparison.ensures)

pub returns : goal.returns
returns c =
    let a = c.args in
    puts-are _ _ _ _ _ _ (unit-word a.opened (get_or a.condition.now a.from 0) (drop (a.from + 1) a.condition.now) (sym c.is_sign.ensures ∙ c.if-is_sign.false))
    (puts_then _ _ _ _ _ _ _ _ (omega arith) c.put_blank-first.ensures c.put_symbol.ensures)
