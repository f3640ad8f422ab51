use mathlib.Core.Path.{refl, ◌∙◌}
use native.Mathlib.Omega.{arith}
use lib.ListN.{length-set}
use Rattle.thread.proofs.FillLaws.{fill_on, fill-all}
use Rattle.scheduling.proofs.SeedLaws.{seeded, seed-at, seed-length}
use Rattle.scheduling.proofs.seed.Goals as goal

pub loop-t-preserved : goal.loop-t-preserved
loop-t-preserved c =
    let numbers = c.args.numbers.now in
    let t = c.loop-t.t in
    let h = c.loop-t-test.true in
    let len = c.loop-t.invariant.0 in (
      simp length-set len,
      fill_on (seeded numbers) c.loop-t.states t c.loop-t.invariant.1 (omega arith) (omega (arith, seed-length numbers)) _ 0
          (c.seed_of.ensures numbers t refl ∙ seed-at numbers _ t _ h c.initial-first.ensures c.eq.ensures),
    )

pub returns : goal.returns
returns c =
    let numbers = c.args.numbers.now in
    let len = c.loop-t.invariant.0 in
    fill-all (seeded numbers) c.loop-t.states c.loop-t.t c.loop-t.invariant.1 (omega arith) (omega (arith, seed-length numbers))
