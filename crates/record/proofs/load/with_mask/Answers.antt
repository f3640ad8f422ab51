use borrow.Author.Rules.{rules}
use native.Mathlib.Omega.{arith}
use mathlib.Core.Path.{◌≡◌, sym, ◌∙◌}
use Prim.Native.Nat.{◌<◌}
use lib.ListN.{length, get_or}
use Rattle.record.specs.Fields.{values_at}
use Rattle.record.proofs.LoadLaws.{offers-on, offers-ends, offers-all, values-read}
use Rattle.record.proofs.load.with_mask.Goals as goal

pub returns-then-value-ge-MAX_ATOMIC_HISTORY : goal.returns-then-value-ge-MAX_ATOMIC_HISTORY
returns-then-value-ge-MAX_ATOMIC_HISTORY c =
    let values = values_at c.args.path.now c.args.at c.args.n in
    let at = c.loop-value.value-index in
    let read : c.part-value-items.result.now ≡ values = c.part-value-items.ensures ∙ values-read _ _ _ c.requires.0 c.requires.1 in
    let inside : at < length values = rw read at c.loop-value-test.true in
    let same : c.wide8-value.result ≡ get_or values at 0 = rw read at c.wide8-value.ensures.same in
    record { slot = search rules; is = sym (offers-ends _ _ _ _ inside (omega arith)) ∙ c.loop-value.invariant }

pub loop-value-preserved : goal.loop-value-preserved
loop-value-preserved c =
    let values = values_at c.args.path.now c.args.at c.args.n in
    let at = c.loop-value.value-index in
    let read : c.part-value-items.result.now ≡ values = c.part-value-items.ensures ∙ values-read _ _ _ c.requires.0 c.requires.1 in
    let inside : at < length values = rw read at c.loop-value-test.true in
    let same : c.wide8-value.result ≡ get_or values at 0 = rw read at c.wide8-value.ensures.same in
    offers-on _ _ _ _ inside _ same c.if-value-ge-MAX_ATOMIC_HISTORY.false ∙ c.loop-value.invariant

pub returns : goal.returns
returns c =
    let values = values_at c.args.path.now c.args.at c.args.n in
    let read : c.part-value-items.result.now ≡ values = c.part-value-items.ensures ∙ values-read _ _ _ c.requires.0 c.requires.1 in
    record { slot = search rules; is = sym (offers-all _ _ _ _ (rw read at c.loop-value-test.false)) ∙ c.loop-value.invariant }
