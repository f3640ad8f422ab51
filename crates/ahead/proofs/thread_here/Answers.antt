use mathlib.Core.Path.{ap, sym, ◌∙◌}
use lib.ListN.{length}
use Rattle.rules.specs.Vector.{equal}
use Rattle.token.specs.Places.{part}
use Rattle.ahead.proofs.AheadLaws.{thread-bytes, thread-counted}
use Rattle.ahead.proofs.thread_here.Goals as goal

pub returns : goal.returns
returns c =
    let a = c.args in
    thread-counted a.text.now a.at a.to _ _ c.from.ensures (c.is_word.ensures ∙ ap (equal (part a.at a.to a.text.now)) (sym thread-bytes))
