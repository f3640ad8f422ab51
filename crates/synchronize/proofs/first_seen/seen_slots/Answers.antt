use borrow.Author.Rules.{rules}
use native.Mathlib.Omega.{arith}
use mathlib.Core.Path.{◌≡◌, refl, sym, ◌∙◌}
use lib.ListN.{length, length-set}
use Rattle.synchronize.proofs.SeenLaws.{slots-on, slots-all}
use Rattle.synchronize.proofs.first_seen.seen_slots.Goals as goal

pub loop-i-init : goal.loop-i-init
loop-i-init c = (search rules, refl)

pub loop-i-preserved : goal.loop-i-preserved
loop-i-preserved c =
    let len : length c.args.marks ≡ 7 = search rules in (
      simp length-set c.loop-i.invariant.0,
      slots-on _ _ _ c.loop-i.i (omega arith) (omega (arith, len)) _ c.is_seen_by_current.ensures ∙ c.loop-i.invariant.1,
    )

pub returns : goal.returns
returns c =
    let len : length c.args.marks ≡ 7 = search rules in
    sym (slots-all _ _ _ c.loop-i.i (omega arith) (omega (arith, len))) ∙ c.loop-i.invariant.1
