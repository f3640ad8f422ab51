use mathlib.Core.Path.{ap, sym}
use mathlib.Core.Bool.{Bool, cond}
use borrow.Author.Tests.{lt-ltb, le-ltb}
use Rattle.filling.specs.declared.Line.TheVariants.{Concludes}
use Rattle.std.proofs.Common.{Ok, Err}
use Rattle.filling.proofs.the_condition.Goals as goal

pub returns-then-header-gt0 : goal.returns-then-header-gt0
returns-then-header-gt0 c =
    let a = c.args in
    sym (ap (λ (b : Bool). cond b (Ok (Concludes a.first.to)) (Err a.first.here)) (lt-ltb 0 _ c.if-header-gt0.true))

pub returns : goal.returns
returns c =
    let a = c.args in
    sym (ap (λ (b : Bool). cond b (Ok (Concludes a.first.to)) (Err a.first.here)) (le-ltb 0 _ c.if-header-gt0.false))
