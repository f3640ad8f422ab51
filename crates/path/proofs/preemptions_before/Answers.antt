use borrow.Author.Rules.{rules}
use mathlib.Core.Path.{sym, ◌∙◌}
use Rattle.path.proofs.WalkLaws.{before-none, before_at}
use native.Mathlib.Omega.{arith}
use Rattle.record.proofs.Places.{place-below}
use Rattle.path.proofs.preemptions_before.Goals as goal

pub returns-in_default : goal.returns-in_default
returns-in_default c = record { few = search rules; says = λ bs h l s e. before-none l (sym c.in_default.is ∙ e) }

pub preemptions-requires : goal.preemptions-requires
preemptions-requires c = omega (arith, place-below c.in-Some.is c.requires.1)

pub returns : goal.returns
returns c =
    record { few = c.preemptions.ensures.few; says = λ bs h l s e. before_at h l _ _ s (sym c.in-Some.is ∙ e) c.preemptions.ensures }
