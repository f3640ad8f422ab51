use mathlib.Core.Bool.{Bool, cond}
use mathlib.Core.Path.{ap, sym}
use borrow.Author.Tests.{le-leb, lt-leb}
use Rattle.form.proofs.order_of.Goals as goal

pub returns-then-value : goal.returns-then-value
returns-then-value c = let v = c.args.value in ap (λ (t : Bool). cond t v 255) (sym (le-leb v 4 c.if-value.true))

pub returns : goal.returns
returns c = let v = c.args.value in ap (λ (t : Bool). cond t v 255) (sym (lt-leb v 4 c.if-value.false))
