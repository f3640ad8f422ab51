use Prim.Native.Nat.{◌+◌, ◌<◌}
use mathlib.Core.Path.{refl, ap, ◌∙◌}
use native.Mathlib.Omega.{arith}
use lib.ListN.{length, get_or}
use Rattle.form.proofs.TriedLaws.{two-there, past_two}
use Rattle.row_line.proofs.LookLaws.{Next, look-first, look-next, look-found, look-on, look_none, test-there, put-found, put-nothing}
use borrow.Author.Rules.{rules}
use Rattle.row_line.proofs.put_form.Goals as goal

pub loop-from-init : goal.loop-from-init
loop-from-init c = (look-first _ _ _ c.requires, refl)

pub overflow_add-from-in-loop-from : goal.overflow_add-from-in-loop-from
overflow_add-from-in-loop-from c =
    let turn : Next c.args.forms.now (get_or c.args.fields 0 0) (get_or c.args.fields 4 0) c.loop-from.from =
    look-next _ _ _ _ c.loop-from-test.true c.loop-from.invariant.0 in
    let two : c.loop-from.from + 1 < length c.args.forms.now =
    let n = turn in two-there n.form n.rest c.args.forms.now c.loop-from.from n.left in
    omega (arith, two)

pub bounds-forms-from-in-loop-from : goal.bounds-forms-from-in-loop-from
bounds-forms-from-in-loop-from c =
    let turn : Next c.args.forms.now (get_or c.args.fields 0 0) (get_or c.args.fields 4 0) c.loop-from.from =
    look-next _ _ _ _ c.loop-from-test.true c.loop-from.invariant.0 in
    let two : c.loop-from.from + 1 < length c.args.forms.now =
    let n = turn in two-there n.form n.rest c.args.forms.now c.loop-from.from n.left in
    two

pub overflow_sub-to : goal.overflow_sub-to
overflow_sub-to c =
    let turn : Next c.args.forms.now (get_or c.args.fields 0 0) (get_or c.args.fields 4 0) c.loop-from.from =
    look-next _ _ _ _ c.loop-from-test.true c.loop-from.invariant.0 in
    let past : c.loop-from.from + 2 < c.next_line-to.result =
    let n = turn in
    past_two n.form n.rest c.args.forms.now c.loop-from.from n.left n.none c.next_line-to.result c.next_line-to.ensures in
    omega (arith, past)

pub shape_of-text-then-long8-opcode : goal.shape_of-text-then-long8-opcode
shape_of-text-then-long8-opcode c =
    let same = ap length c.loop-from.invariant.1 in
    search rules

pub returns-then-long8-opcode : goal.returns-then-long8-opcode
returns-then-long8-opcode c =
    let turn : Next c.args.forms.now (get_or c.args.fields 0 0) (get_or c.args.fields 4 0) c.loop-from.from =
    look-next _ _ _ _ c.loop-from-test.true c.loop-from.invariant.0 in
    put-found _ _ _ _ _ _ _ _ c.loop-from.invariant.1
    (c.part.ensures ∙ look-found _ _ _ _ turn c.next_line-to.result c.next_line-to.ensures (test-there _ _ _ _ _ _ _ c.long8.ensures c.long8-in-loop-from.ensures c.if-long8-opcode.true))
    c.put_words.ensures

pub loop-from-smaller : goal.loop-from-smaller
loop-from-smaller c =
    let turn : Next c.args.forms.now (get_or c.args.fields 0 0) (get_or c.args.fields 4 0) c.loop-from.from =
    look-next _ _ _ _ c.loop-from-test.true c.loop-from.invariant.0 in
    let past : c.loop-from.from + 2 < c.next_line-to.result =
    let n = turn in
    past_two n.form n.rest c.args.forms.now c.loop-from.from n.left n.none c.next_line-to.result c.next_line-to.ensures in
    omega (arith, past)

pub loop-from-preserved : goal.loop-from-preserved
loop-from-preserved c =
    let turn : Next c.args.forms.now (get_or c.args.fields 0 0) (get_or c.args.fields 4 0) c.loop-from.from =
    look-next _ _ _ _ c.loop-from-test.true c.loop-from.invariant.0 in
    (look-on _ _ _ _ turn c.next_line-to.result c.next_line-to.ensures (test-there _ _ _ _ _ _ _ c.long8.ensures c.long8-in-loop-from.ensures c.if-long8-opcode.false), c.loop-from.invariant.1)

pub returns : goal.returns
returns c =
    put-nothing _ _ _ _ _ c.loop-from.invariant.1 (look_none _ _ _ _ c.loop-from-test.false c.loop-from.invariant.0) (omega arith)
