use Prim.Native.Nat.{ℕ, ◌-◌}
use mathlib.Core.List.{List}
use mathlib.Core.Path.{◌≡◌, refl, ap, sym, ◌∙◌}
use native.Mathlib.Omega.{arith}
use lib.ListN.{length, take, length-take}
use Rattle.rules.specs.Text.{place_behind}
use Rattle.token.specs.Places.{part}
use Rattle.ahead.proofs.AheadLaws.{way_on, way_end, before-is}
use Rattle.ahead.proofs.place_of.Goals as goal

first-part : (text : List ℕ) (at : ℕ) → part 0 at text ≡ take at text
first-part text at = let z : at - 0 ≡ at = omega arith in ap (λ (n : ℕ). take n text) z

pub loop-byte-init : goal.loop-byte-init
loop-byte-init c = (omega arith, omega arith, refl)

pub behind-place-requires : goal.behind-place-requires
behind-place-requires c =
    let a = c.args in
    let long = ap length (c.part-byte-items.ensures ∙ first-part a.text.now a.at) ∙ length-take a.at a.text.now in
    (omega (arith, long, c.loop-byte.invariant.0, c.well_formed.0.1), omega (arith, long, c.loop-byte.invariant.1, c.well_formed.0.1))

pub loop-byte-preserved : goal.loop-byte-preserved
loop-byte-preserved c =
    let a = c.args in
    let b = c.behind-place.ensures in
    let bytes = c.part-byte-items.ensures ∙ first-part a.text.now a.at in (
      omega (arith, b.low, c.loop-byte.invariant.0),
      omega (arith, b.near, c.loop-byte.invariant.1),
      way_on (take a.at a.text.now) c.loop-byte.place.line c.loop-byte.place.column c.loop-byte.byte-index c.behind-place.result (rw bytes at c.loop-byte-test.true) (rw bytes at b) ∙ c.loop-byte.invariant.2,
    )

pub returns : goal.returns
returns c =
    let a = c.args in
    let bytes = c.part-byte-items.ensures ∙ first-part a.text.now a.at in
    way_end (take a.at a.text.now) c.loop-byte.place.line c.loop-byte.place.column c.loop-byte.byte-index (rw bytes at c.loop-byte-test.false)
    ∙ c.loop-byte.invariant.2
    ∙ ap (place_behind 1 1) (sym (before-is a.text.now a.at))
