use mathlib.Core.Path.{refl}
use Rattle.rules.specs.Table.{change_decoded}
use Rattle.decode.proofs.RowLaws.{then-change, change-arm, change-beyond, none_below}
use Rattle.decode.proofs.fields.change_of.Goals as goal

pub returns-in-0 : goal.returns-in-0
unfolding change_decoded
returns-in-0 c = let g = c.args in change-arm g.kind g.a g.b 0 _ c.in-0.is (then-change _ _ c.then_some.ensures)

pub returns-in-1 : goal.returns-in-1
unfolding change_decoded
returns-in-1 c = let g = c.args in change-arm g.kind g.a g.b 1 _ c.in-1.is (then-change _ _ c.then_some-in-1.ensures)

pub returns-in-2 : goal.returns-in-2
unfolding change_decoded
returns-in-2 c = let g = c.args in change-arm g.kind g.a g.b 2 _ c.in-2.is (then-change _ _ c.then_some-in-2.ensures)

pub returns-in-3 : goal.returns-in-3
unfolding change_decoded
returns-in-3 c = let g = c.args in change-arm g.kind g.a g.b 3 _ c.in-3.is (then-change _ _ c.then_some-in-3.ensures)

pub returns-in-4 : goal.returns-in-4
unfolding change_decoded
returns-in-4 c = let g = c.args in change-arm g.kind g.a g.b 4 _ c.in-4.is (then-change _ _ c.then_some-in-4.ensures)

pub returns-in-5 : goal.returns-in-5
unfolding change_decoded
returns-in-5 c = let g = c.args in change-arm g.kind g.a g.b 5 _ c.in-5.is (then-change _ _ c.then_some-in-5.ensures)

pub returns-in-6 : goal.returns-in-6
unfolding change_decoded
returns-in-6 c = let g = c.args in change-arm g.kind g.a g.b 6 _ c.in-6.is (then-change _ _ c.then_some-in-6.ensures)

pub returns-in-7 : goal.returns-in-7
unfolding change_decoded
returns-in-7 c = let g = c.args in change-arm g.kind g.a g.b 7 _ c.in-7.is (then-change _ _ c.then_some-in-7.ensures)

pub returns-in-8 : goal.returns-in-8
unfolding change_decoded
returns-in-8 c = let g = c.args in change-arm g.kind g.a g.b 8 _ c.in-8.is (then-change _ _ c.then_some-in-8.ensures)

pub returns-in-9 : goal.returns-in-9
unfolding change_decoded
returns-in-9 c = let g = c.args in change-arm g.kind g.a g.b 9 _ c.in-9.is (then-change _ _ c.then_some-in-9.ensures)

pub returns-in-10 : goal.returns-in-10
unfolding change_decoded
returns-in-10 c = let g = c.args in change-arm g.kind g.a g.b 10 _ c.in-10.is (then-change _ _ c.then_some-in-10.ensures)

pub returns-in-11 : goal.returns-in-11
unfolding change_decoded
returns-in-11 c = let g = c.args in change-arm g.kind g.a g.b 11 _ c.in-11.is refl

pub returns-in-12 : goal.returns-in-12
unfolding change_decoded
returns-in-12 c = let g = c.args in change-arm g.kind g.a g.b 12 _ c.in-12.is (then-change _ _ c.then_some-in-12.ensures)

pub returns-in-13-to-255 : goal.returns-in-13-to-255
returns-in-13-to-255 c = change-beyond _ _ _ (none_below 13 _ c.in-13-to-255.in-13-to-255-own.rest)
