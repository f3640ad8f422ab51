use mathlib.Core.Path.{◌∙◌}
use Rattle.accesses.proofs.AccessLaws.{raced, mut-raced, mut-done}
use Rattle.accesses.proofs.with_mut_row.Goals as goal

pub returns-in_err-mutated : goal.returns-in_err-mutated
returns-in_err-mutated c =
    λ marks opcode m.
    raced _ _ c.from_residual.ensures.1 _ _ _ _ _ ∙ mut-raced _ _ opcode _ _ _ _ marks _ c.args.numbers.now _ (c.with_mut.ensures.access marks) _ c.in_err-mutated.was

pub returns : goal.returns
returns c =
    λ marks opcode m.
    mut-done _ _ opcode _ _ _ _ marks _ c.args.numbers.now _ (c.with_mut.ensures.access marks) _ c.in_ok-mutated.was _ _ _ _
    c.newest-slot.ensures.is c.store_at.ensures c.register_at.ensures c.one_more.ensures _ (c.complete.ensures _ _ _)
