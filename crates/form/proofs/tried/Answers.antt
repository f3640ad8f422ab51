use mathlib.Core.Path.{◌≡◌, ap, sym, ◌∙◌}
use native.Mathlib.Omega.{arith}
use lib.ListN.{drop}
use Rattle.rules.specs.Token.{is_blank}
use Rattle.rules.specs.Form.{follow, most_words, blank_fields}
use Rattle.token.proofs.PlaceLaws.{left_by, between_run}
use Rattle.decode.specs.Ops.{room_meant}
use Rattle.form.specs.Rows.{followed_of, followed_to}
use Rattle.form.proofs.RowLaws.{follows_stuck}
use Rattle.form.proofs.TriedLaws.{Next, by-these, two-there, opcode-there, kind-there, words-there, past_two, trying-none, trying-all, trying-next, tried-fits, tried-on, further_max}
use Rattle.form.proofs.tried.Goals as goal

pub loop-from-init : goal.loop-from-init
loop-from-init c =
    let a = c.args in
    trying-none (room_meant a.room) a.forms.now a.text.now a.at c.requires c.past_blanks-best.result (left_by a.text.now a.at c.past_blanks-best.result _ c.past_blanks-best.ensures) (between_run _ _ _ is_blank c.past_blanks-best.ensures)

pub overflow_sub-to : goal.overflow_sub-to
overflow_sub-to c =
    let n : Next (room_meant c.args.room) c.args.forms.now c.args.text.now c.args.at c.loop-from.from c.loop-from.best =
    trying-next _ _ _ _ _ _ c.loop-from-test.true c.loop-from.invariant in
    omega (arith, past_two n.form n.rest _ _ n.left n.none c.next_line-to.result c.next_line-to.ensures)

pub overflow_add-from-in-loop-from-2 : goal.overflow_add-from-in-loop-from-2
overflow_add-from-in-loop-from-2 c =
    let n : Next (room_meant c.args.room) c.args.forms.now c.args.text.now c.args.at c.loop-from.from c.loop-from.best =
    trying-next _ _ _ _ _ _ c.loop-from-test.true c.loop-from.invariant in
    omega (arith, two-there n.form n.rest c.args.forms.now c.loop-from.from n.left)

pub bounds-forms-from-in-loop-from : goal.bounds-forms-from-in-loop-from
bounds-forms-from-in-loop-from c =
    let n : Next (room_meant c.args.room) c.args.forms.now c.args.text.now c.args.at c.loop-from.from c.loop-from.best =
    trying-next _ _ _ _ _ _ c.loop-from-test.true c.loop-from.invariant in
    two-there n.form n.rest c.args.forms.now c.loop-from.from n.left

pub returns-in-Ok : goal.returns-in-Ok
returns-in-Ok c =
    let n : Next (room_meant c.args.room) c.args.forms.now c.args.text.now c.args.at c.loop-from.from c.loop-from.best =
    trying-next _ _ _ _ _ _ c.loop-from-test.true c.loop-from.invariant in
    let a = c.args in
    let by_form : followed_of a.text.now c.followed.result ≡ follow most_words (room_meant a.room) n.form.words (blank_fields n.form) (drop a.at a.text.now) =
    by-these _ n.form _ _ _ _ _ c.followed.ensures.said
    (c.part-words.ensures ∙ words-there n.form n.rest _ _ n.left n.none c.next_line-to.result c.next_line-to.ensures)
    c.blank-blank.ensures
    (opcode-there n.form n.rest a.forms.now c.loop-from.from n.left)
    (kind-there n.form n.rest a.forms.now c.loop-from.from n.left) in
    record {
      said = tried-fits _ _ _ _ _ _ n _ _ (sym (ap (followed_of a.text.now) c.in-Ok.is) ∙ by_form);
      between = rw (ap followed_to c.in-Ok.is) at c.followed.ensures.between;
    }

pub loop-from-smaller : goal.loop-from-smaller
loop-from-smaller c =
    let n : Next (room_meant c.args.room) c.args.forms.now c.args.text.now c.args.at c.loop-from.from c.loop-from.best =
    trying-next _ _ _ _ _ _ c.loop-from-test.true c.loop-from.invariant in
    omega (arith, past_two n.form n.rest _ _ n.left n.none c.next_line-to.result c.next_line-to.ensures)

pub loop-from-preserved : goal.loop-from-preserved
loop-from-preserved c =
    let n : Next (room_meant c.args.room) c.args.forms.now c.args.text.now c.args.at c.loop-from.from c.loop-from.best =
    trying-next _ _ _ _ _ _ c.loop-from-test.true c.loop-from.invariant in
    let a = c.args in
    let by_form : followed_of a.text.now c.followed.result ≡ follow most_words (room_meant a.room) n.form.words (blank_fields n.form) (drop a.at a.text.now) =
    by-these _ n.form _ _ _ _ _ c.followed.ensures.said
    (c.part-words.ensures ∙ words-there n.form n.rest _ _ n.left n.none c.next_line-to.result c.next_line-to.ensures)
    c.blank-blank.ensures
    (opcode-there n.form n.rest a.forms.now c.loop-from.from n.left)
    (kind-there n.form n.rest a.forms.now c.loop-from.from n.left) in
    tried-on (room_meant a.room) a.forms.now a.text.now a.at c.loop-from.from c.loop-from.best n c.next_line-to.result c.in-Err.stuck c.max-best.result c.next_line-to.ensures
    (sym (ap (followed_of a.text.now) c.in-Err.is) ∙ by_form) (rw (ap followed_to c.in-Err.is) at c.followed.ensures.between) (c.max-best.ensures ∙ further_max _ _)

pub returns : goal.returns
returns c =
    follows_stuck c.args.text.now c.args.at c.loop-from.best (trying-all _ _ _ _ _ _ c.loop-from-test.false c.loop-from.invariant) c.loop-from.invariant.between
