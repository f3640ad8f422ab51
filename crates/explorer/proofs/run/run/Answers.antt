use native.Mathlib.Omega.{arith}
use Rattle.settings.specs.Given.{settings_of}
use Rattle.trace.proofs.ZeroLaws.{zero-at}
use Rattle.explorer.proofs.EndLaws.{ready-kept, ran-cleared}
use Rattle.explorer.proofs.run.run.Goals as goal

pub executions-requires : goal.executions-requires
executions-requires c =
    (ready-kept c.requires (omega (arith, c.clear_all.auto)) (omega (arith, c.clear_all-2.auto)), zero-at _ _ c.clear_all.ensures, zero-at _ _ c.clear_all-2.ensures)

pub returns : goal.returns
returns c =
    let args = c.args in
    ran-cleared args.table.now args.condition.now (settings_of args.settings) c.executions.ensures (omega (arith, c.clear_all.auto)) (omega (arith, c.clear_all-2.auto))
