use native.Mathlib.Omega.{arith}
use mathlib.Core.Path.{sym, ◌∙◌}
use Rattle.record.proofs.Places.{place-below}
use Rattle.record.proofs.ThreadLaws.{initial-first, initial-other, initial-same}
use Rattle.record.proofs.schedule.initial_active.Goals as goal

pub returns-in_default : goal.returns-in_default
returns-in_default c =
    initial-first _ _ c.requires.0 _ c.active_thread_index-active.ensures _ _ c.in_default.is c.thread_byte.ensures

pub active_thread_index-requires : goal.active_thread_index-requires
active_thread_index-requires c =
    omega (arith, place-below c.in-Some.is c.requires.1)

pub returns-then-ne : goal.returns-then-ne
returns-then-ne c =
    initial-other _ _ c.requires.0 _ c.active_thread_index-active.ensures _ _ _ (omega (arith, place-below c.in-Some.is c.requires.1)) c.in-Some.is c.active_thread_index.ensures (sym c.ne.ensures ∙ c.if-ne.true)

pub returns : goal.returns
returns c =
    initial-same _ _ c.requires.0 _ c.active_thread_index-active.ensures _ _ _ (omega (arith, place-below c.in-Some.is c.requires.1)) c.in-Some.is c.active_thread_index.ensures (sym c.ne.ensures ∙ c.if-ne.false) _ c.thread_byte-2.ensures
