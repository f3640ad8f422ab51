use Rattle.std.proofs.Common.{refl, ap, arith}
use Rattle.rules.specs.Change.{applied, success}
use Rattle.change.proofs.ChangeLaws.{meant, subtracted, greater-by, lesser-by}
use Rattle.change.proofs.apply.Goals as goal

pub returns-in-Swap : goal.returns-in-Swap
unfolding applied
returns-in-Swap c = meant _ _ _ _ c.in-Swap.is refl

pub returns-in-Add : goal.returns-in-Add
unfolding applied
returns-in-Add c = meant _ _ _ _ c.in-Add.is (ap success c.wrapping_add_u64.ensures.value)

pub returns-in-Subtract : goal.returns-in-Subtract
unfolding applied
returns-in-Subtract c = meant _ _ _ _ c.in-Subtract.is (ap success (subtracted _ _ _ (omega (arith, c.wrapping_sub_u64.type_inv)) (omega arith) c.wrapping_sub_u64.ensures.value))

pub returns-in-And : goal.returns-in-And
unfolding applied
returns-in-And c = meant _ _ _ _ c.in-And.is refl

pub returns-in-Or : goal.returns-in-Or
unfolding applied
returns-in-Or c = meant _ _ _ _ c.in-Or.is refl

pub returns-in-Xor : goal.returns-in-Xor
unfolding applied
returns-in-Xor c = meant _ _ _ _ c.in-Xor.is refl

pub returns-in-Nand : goal.returns-in-Nand
unfolding applied
returns-in-Nand c = meant _ _ _ _ c.in-Nand.is refl

pub returns-in-Max : goal.returns-in-Max
unfolding applied
returns-in-Max c = meant _ _ _ _ c.in-Max.is (ap success (greater-by c.args.value c.in-Max.a c.max.result (λ l. omega (arith, l, c.max.ensures)) (λ l. omega (arith, l, c.max.ensures))))

pub returns-in-Min : goal.returns-in-Min
unfolding applied
returns-in-Min c = meant _ _ _ _ c.in-Min.is (ap success (lesser-by c.args.value c.in-Min.a c.min.result (λ l. omega (arith, l, c.min.ensures)) (λ l. omega (arith, l, c.min.ensures))))

pub returns-in-SignedMax : goal.returns-in-SignedMax
unfolding applied
returns-in-SignedMax c = meant _ _ _ _ c.in-SignedMax.is (ap success c.signed_greater.ensures)

pub returns-in-SignedMin : goal.returns-in-SignedMin
unfolding applied
returns-in-SignedMin c = meant _ _ _ _ c.in-SignedMin.is (ap success c.signed_lesser.ensures)

pub returns-in-Compare : goal.returns-in-Compare
returns-in-Compare c = meant _ _ _ _ c.in-Compare.is c.compare.ensures

pub returns-in-Decrement : goal.returns-in-Decrement
returns-in-Decrement c = meant _ _ _ _ c.in-Decrement.is c.decrement.ensures
