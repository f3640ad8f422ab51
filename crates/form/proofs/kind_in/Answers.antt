use mathlib.Core.Path.{◌∙◌}
use native.Mathlib.Omega.{arith}
use Rattle.std.proofs.lemmas.Bool.Decides.{nat_tests}
use Rattle.form.proofs.LetterLaws.{kind-register, kind-plain, kind-number, kind-none}
use Rattle.form.proofs.kind_in.Goals as goal

pub returns-in-82 : goal.returns-in-82
returns-in-82 c = c.register.ensures ∙ kind-register _ _ c.in-82.is

pub returns-in-80 : goal.returns-in-80
returns-in-80 c = c.plain.ensures ∙ kind-plain _ _ c.in-80.is

pub returns-in_default : goal.returns-in_default
returns-in_default c =
    c.order.ensures
    ∙ kind-none c.args.letter _ (grind arith) (grind arith) (grind arith) (grind arith) (grind arith) (grind arith) (grind arith) (grind arith)

pub returns-in-67 : goal.returns-in-67
returns-in-67 c = c.number.ensures ∙ kind-number c.args.letter _ (grind arith) (grind arith) (grind (arith, nat_tests))
