use mathlib.Core.Path.{ap, ◌∙◌}
use Rattle.decode.proofs.RowLaws.{then-op, meant, rmw-made, rmw-refused}
use Rattle.decode.specs.Ops.{row_meant, decoded_of}
use Rattle.decode.proofs.rmw_row.Goals as goal

pub returns-in_err-change : goal.returns-in_err-change
returns-in_err-change c =
    ap decoded_of c.from_residual.ensures ∙ rmw-refused c.args.cells (row_meant c.args.row) (meant c.in_err-change.was c.change_of.ensures)

pub returns : goal.returns
returns c =
    rmw-made c.args.cells (row_meant c.args.row) (then-op _ _ c.then_some.ensures) (meant c.in_ok-change.was c.change_of.ensures) c.rmw_fields-fine.ensures c.wide8.ensures.same c.wide8-2.ensures.same
