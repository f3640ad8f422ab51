use mathlib.Core.Path.{sym, subst, ◌∙◌}
use Prim.Native.Nat.{ℕ}
use Rattle.std.specs.Prelude.{Option}
use Rattle.scheduling.specs.Schedules.{BestWithin}
use Rattle.scheduling.proofs.ScheduleLaws.{fewest-not, fewest-fewer, fewest-as_many, fewest-end}
use native.Mathlib.Omega.{arith}
use Rattle.scheduling.proofs.fewest_yields.Goals as goal
use Rattle.scheduling.proofs.fewest_yields.Goals.{then-numbers-t-eq-RUNNABLE+then-yields_less, else-numbers-t-eq-RUNNABLE, else-numbers-t-eq-RUNNABLE-via-then-numbers-t-eq-RUNNABLE+else-yields_less, else-numbers-t-eq-RUNNABLE-via-else-numbers-t-eq-RUNNABLE}

pub loop-t-preserved : goal.loop-t-preserved
loop-t-preserved c =
    let h = c.loop-t-test.true in
    let numbers = c.args.numbers.now in
    let best = c.loop-t.best in
    let t = c.loop-t.t in
    let so = c.loop-t.invariant.0 in
    let within = c.loop-t.invariant.1 in
    elim c.if-numbers-t-eq-RUNNABLE.branch [
      | then-numbers-t-eq-RUNNABLE+then-yields_less w ↦ (
        fewest-fewer numbers best 5 t h _ w.yields_less.ensures w.if-numbers-t-eq-RUNNABLE.true _ w.if-yields_less.true w.best-is ∙ so,
        subst (λ (b : Option ℕ). BestWithin b) (sym w.best-is) h,
      )
      | else-numbers-t-eq-RUNNABLE w ↦ (
        elim w.else-numbers-t-eq-RUNNABLE.branch [
          | else-numbers-t-eq-RUNNABLE-via-then-numbers-t-eq-RUNNABLE+else-yields_less v ↦ fewest-as_many numbers best 5 t h _ v.yields_less.ensures v.if-numbers-t-eq-RUNNABLE.true _ v.if-yields_less.false w.best-is ∙ so
          | else-numbers-t-eq-RUNNABLE-via-else-numbers-t-eq-RUNNABLE v ↦ fewest-not numbers best 5 t h _ v.if-numbers-t-eq-RUNNABLE.false w.best-is ∙ so
        ],
        subst (λ (b : Option ℕ). BestWithin b) (sym w.best-is) within,
      )
    ]

pub returns : goal.returns
returns c = fewest-end c.args.numbers.now _ 5 c.loop-t.t (omega arith) ∙ c.loop-t.invariant.0
