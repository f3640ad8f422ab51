use borrow.Author.Rules.{rules}
use mathlib.Core.Path.{sym, ◌∙◌}
use Rattle.record.proofs.ScheduleLaws.{preempts-none, preempts-same, preempts-more}
use Rattle.record.proofs.schedule.preemptions.Goals as goal

pub returns-then-initial : goal.returns-then-initial
returns-then-initial c =
    record { few = search rules; says = λ s h. preempts-none h _ _ (c.wide8-before.ensures.same ∙ c.field.ensures) c.field-initial.ensures c.if-initial.true }

pub returns-then-initial-thread_byte : goal.returns-then-initial-thread_byte
returns-then-initial-thread_byte c =
    record { few = search rules; says = λ s h. preempts-same h _ _ (c.wide8-before.ensures.same ∙ c.field.ensures) c.field-initial.ensures _ c.active_thread_index.ensures c.if-initial.false (c.if-initial-thread_byte.true ∙ c.thread_byte.ensures) }

pub returns : goal.returns
returns c =
    record { few = search rules; says = λ s h. preempts-more h _ _ (c.wide8-before.ensures.same ∙ c.field.ensures) c.field-initial.ensures _ c.active_thread_index.ensures c.if-initial.false (λ q. c.if-initial-thread_byte.false (q ∙ sym c.thread_byte.ensures)) }
