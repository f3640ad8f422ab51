use mathlib.Core.Path.{refl}
use Rattle.condition.proofs.ReadLaws.{short, wrong, right}
use Rattle.condition.proofs.comparison.Goals as goal

pub returns-then-bytes-at-lt-COMPARISON : goal.returns-then-bytes-at-lt-COMPARISON
returns-then-bytes-at-lt-COMPARISON c =
    short _ _ c.args.bytes.now c.args.at c.requires c.if-bytes-at-lt-COMPARISON.true

pub returns-then-is_sign-thread : goal.returns-then-is_sign-thread
returns-then-is_sign-thread c =
    let g = c.args in
    right g.threads _ g.bytes.now g.at c.if-bytes-at-lt-COMPARISON.false refl c.wide8-thread.ensures.same c.wide8-register.ensures.same c.is_sign.ensures c.if-is_sign-thread.true
    c.register_of-x.ensures c.u64_at-n.ensures c.compared.ensures

pub returns : goal.returns
returns c =
    let g = c.args in
    wrong g.threads _ g.bytes.now g.at c.if-bytes-at-lt-COMPARISON.false refl c.wide8-thread.ensures.same c.wide8-register.ensures.same c.is_sign.ensures c.if-is_sign-thread.false
