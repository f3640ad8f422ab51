use mathlib.Core.Path.{ap, ◌∙◌}
use mathlib.Core.Logic.{inl, inr}
use native.Mathlib.Omega.{arith}
use Rattle.rules.specs.Table.{is_load_order, is_store_order, is_fence_order}
use Rattle.decode.specs.Ops.{room_meant}
use Rattle.form.specs.Letters.{may_stand}
use Rattle.form.proofs.LetterLaws.{may-stand-any, as_load, as_store, as-fence}
use Rattle.form.proofs.may_stand.Goals as goal

pub returns-in-67 : goal.returns-in-67
unfolding may_stand
returns-in-67 c = rw c.in-67.is

pub returns-in-80 : goal.returns-in-80
unfolding may_stand
returns-in-80 c = rw c.in-80.is

pub returns-in-84 : goal.returns-in-84
unfolding may_stand
returns-in-84 c = rw c.in-84.is

pub returns-in-74 : goal.returns-in-74
unfolding may_stand
returns-in-74 c = rw c.in-74.is

pub returns-in-71 : goal.returns-in-71
unfolding may_stand
returns-in-71 c = rw c.in-71.is

pub returns-in-76 : goal.returns-in-76
unfolding may_stand
returns-in-76 c =
    let load = c.is_load_order.ensures ∙ ap is_load_order c.order_of.ensures ∙ as_load c.args.value in
    elim c.in-76.is [ inl e ↦ rw e load | inr e ↦ rw e load ]

pub returns-in-83 : goal.returns-in-83
unfolding may_stand
returns-in-83 c = rw c.in-83.is (c.is_store_order.ensures ∙ ap is_store_order c.order_of-in-83.ensures ∙ as_store c.args.value)

pub returns-in-70 : goal.returns-in-70
unfolding may_stand
returns-in-70 c = rw c.in-70.is (c.is_fence_order.ensures ∙ ap is_fence_order c.order_of-in-70.ensures ∙ as-fence c.args.value)

pub returns-in_default : goal.returns-in_default
returns-in_default c =
    may-stand-any _ (room_meant c.args.room) _ (grind arith) (grind arith) (grind arith) (grind arith) (grind arith) (grind arith) (grind arith) (grind arith) (grind arith)
