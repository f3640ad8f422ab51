use Prim.Native.Nat.{ℕ, ◌+◌, ◌-◌}
use mathlib.Core.List.{◌++◌}
use mathlib.Core.Path.{◌≡◌, ap, sym}
use native.Mathlib.Omega.{arith}
use Rattle.rules.specs.Writer.{shown, values_shown}
use Rattle.put.proofs.PutLaws.{coming-all, coming-on, come}
use Rattle.writer.proofs.TextLaws.{values-out, values-next}
use Rattle.writer.proofs.put_values.Goals as goal

pub loop-i-init : goal.loop-i-init
loop-i-init c =
    let all : c.args.first + c.args.count - c.args.first ≡ c.args.count = omega arith in
    rw all (coming-all _ _ _ (omega arith) (omega arith))

pub loop-i-preserved : goal.loop-i-preserved
loop-i-preserved c =
    let table = c.args.table.now in
    let one-less : c.args.first + c.args.count - (c.loop-i.i + 1) ≡ c.args.first + c.args.count - c.loop-i.i - 1 = omega arith in
    rw one-less
    (coming-on _ _ _ _ _ _ _ _ _ _ (ap (λ (v : ℕ). shown v ++ values_shown table ((c.args.first + c.args.count - c.loop-i.i) - 1) (c.loop-i.i + 1)) (sym c.start_value.ensures))
    (coming-on _ _ _ _ _ _ _ _ _ _ (values-next table (c.args.first + c.args.count - c.loop-i.i) c.loop-i.i (omega arith)) c.loop-i.invariant c.put_byte-blank.ensures)
    c.put_number-to.ensures)

pub returns : goal.returns
returns c =
    come _ _ _ _ _ _ (values-out c.args.table.now (c.args.first + c.args.count - c.loop-i.i) c.loop-i.i (omega arith)) c.loop-i.invariant
