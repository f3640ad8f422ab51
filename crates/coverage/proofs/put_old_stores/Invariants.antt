use Prim.Native.Nat.{◌-◌}
use mathlib.Core.Path.{◌≡◌}
use Rattle.rules.specs.Table.{max_cells}
use Rattle.page.specs.Pages.{page_of}
use Rattle.coverage.specs.Says.{put_old_stores}
use Rattle.coverage.proofs.put_old_stores.Given as goal

abbrev pub invariant-loop-cell : goal.invariant-loop-cell
invariant-loop-cell l =
    put_old_stores (page_of l.page l.to) l.table (max_cells - l.cell) l.cell ≡ put_old_stores (page_of l.initial.page l.at) l.table max_cells 0
