-- Two answers that meet a promise are equal. Assumes nothing.
use mathlib.Core.Path.{ap, sym, ◌∙◌}
use Rattle.rules.specs.Explored as rules
use Rattle.explorer.specs.Same.{OneAnswer, OneExplored}

pub one_answer : OneAnswer
unfolding OneAnswer
one_answer A B stands-for definition x y p q = p ∙ sym q

pub one-explored : OneExplored
unfolding OneExplored
one-explored table condition s path trace r q left_path left_trace other_path other_trace h k =
    (ap (λ (x : rules.Explored). x.report) (h ∙ sym k), ap (λ (x : rules.Explored). x.path) (h ∙ sym k), ap (λ (x : rules.Explored). x.trace) (h ∙ sym k))
