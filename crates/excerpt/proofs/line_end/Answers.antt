use mathlib.Core.Path.{sym, ◌∙◌}
use native.Mathlib.Omega.{arith}
use native.Mathlib.Decide.{dec_le}
use lib.ListN.{length}
use Rattle.excerpt.proofs.LineLaws.{shown-on, shown-stops, shown-past}
use Rattle.excerpt.proofs.line_end.Goals as goal

pub returns-then-is_feed : goal.returns-then-is_feed
returns-then-is_feed c =
    omega (arith, shown-stops c.args.text.now c.loop-to.to (omega arith) (sym c.is_feed.ensures ∙ c.if-is_feed.true))

pub loop-to-preserved : goal.loop-to-preserved
loop-to-preserved c =
    omega (arith, shown-on c.args.text.now c.loop-to.to (omega arith) (sym c.is_feed.ensures ∙ c.if-is_feed.false))

pub returns : goal.returns
returns c =
    let text = c.args.text.now in
    let past = shown-past text c.loop-to.to (omega arith) in
    elim (dec_le (length text) c.args.at) [
      | yes h ↦ omega (arith, past, shown-past text c.args.at h)
      | no h ↦ omega (arith, past)
    ]
