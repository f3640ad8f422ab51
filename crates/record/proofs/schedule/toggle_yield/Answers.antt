use mathlib.Core.Path.{sym, ◌∙◌}
use Rattle.record.proofs.ThreadLaws.{toggled-kept, toggled-none, toggled-put}
use Rattle.record.proofs.schedule.toggle_yield.Goals as goal

pub returns-then-is_some : goal.returns-then-is_some
returns-then-is_some c = toggled-kept _ _ c.requires _ c.active_thread_index.ensures (sym c.is_some.ensures ∙ c.if-is_some.true)

pub returns-in-Some : goal.returns-in-Some
returns-in-Some c = toggled-put _ _ c.requires _ c.active_thread_index.ensures (sym c.is_some.ensures ∙ c.if-is_some.false) _ c.in-Some.ensures _ c.put.ensures

pub returns-in_default : goal.returns-in_default
returns-in_default c = toggled-none _ _ c.requires _ c.active_thread_index.ensures (sym c.is_some.ensures ∙ c.if-is_some.false) c.in_default.ensures
