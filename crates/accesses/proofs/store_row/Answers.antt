use mathlib.Core.Path.{◌∙◌}
use Rattle.accesses.proofs.AccessLaws.{raced, store-raced, store-done}
use Rattle.accesses.proofs.store_row.Goals as goal

pub returns-in_err-track_store : goal.returns-in_err-track_store
returns-in_err-track_store c =
    λ opcode m.
    raced _ _ c.from_residual.ensures.1 _ _ _ _ _
    ∙ store-raced _ _ opcode _ c.args.access.order c.args.value _ c.args.marks.now c.args.values.now c.args.numbers.now _
    c.track_store.ensures.left _ (c.raise.ensures _ _ _) _ c.in_err-track_store.ensures.answer

pub returns : goal.returns
returns c =
    λ opcode m.
    store-done _ _ opcode _ c.args.access.order _ _ c.args.marks.now c.args.values.now c.args.numbers.now _
    c.track_store.ensures.left _ (c.raise.ensures _ _ _)
    c.in_ok-track_store.ensures.answer
    _ _ c.index-slot.ensures.is c.one_more.ensures _ _ c.store.ensures (c.complete.ensures _ _ _)
