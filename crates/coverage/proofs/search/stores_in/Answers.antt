use native.Mathlib.Omega.{arith}
use Rattle.decode.specs.Ops.{decoded_of}
use Rattle.coverage.proofs.SearchLaws.{stored, few, sum-on, sum-none, sum-all}
use borrow.Author.Rules.{rules}
use Rattle.coverage.proofs.search.stores_in.Goals as goal

pub loop-row-init : goal.loop-row-init
loop-row-init c = (search rules, sum-all _ _ _ _ _ c.wide16-count.ensures.same)

pub overflow_add-sum : goal.overflow_add-sum
overflow_add-sum c =
    omega (arith, few c.args.cell (decoded_of c.row_of.result) _ c.may_store-sum.ensures)

pub loop-row-preserved : goal.loop-row-preserved
loop-row-preserved c =
    let cell = c.args.cell in
    let row = decoded_of c.row_of.result in (
      omega (arith, few cell row _ c.may_store-sum.ensures),
      sum-on _ _ _ _ _ c.loop-row.invariant.1 _ (omega arith) (stored cell row _ c.may_store-sum.ensures _ c.row_of.ensures.is),
    )

pub returns : goal.returns
returns c =
    (sum-none _ _ _ _ _ c.loop-row.invariant.1 (omega arith), omega (arith, c.wide16-count.ensures.bounded))
