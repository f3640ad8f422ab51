use Prim.Native.Nat.{ℕ, ◌+◌, ◌-◌}
use mathlib.Core.List.{List}
use mathlib.Core.Bool.{true, false}
use mathlib.Core.Path.{◌≡◌, refl, ◌∙◌}
use native.Mathlib.Omega.{arith}
use borrow.Author.Tests.{not-true, not-false}
use lib.ListN.{length, take}
use lib.Seq.{length-take-le}
use Rattle.claims.specs.declared.Claim.{Claim}
use Rattle.claims.proofs.ClaimLaws.{claim-out, claim-end, claim-stop, claim-none, claim-broken, claim-long, claim-on, claims-ended, claims-with, going-with}
use borrow.Author.Rules.{rules}
use Rattle.claims.proofs.claimed.Goals as goal

-- what was made before a turn
abbrev made : Claim → List ℕ
made claim = take claim.length claim.bytes

pub loop-i-init : goal.loop-i-init
loop-i-init c =
    let all : c.args.lines - 0 ≡ c.args.lines = omega arith in
    rw all (search rules, search rules, refl)

pub returns-then-text-here : goal.returns-then-text-here
returns-then-text-here c =
    let a = c.args in
    let n = length-take-le c.loop-i.claim.length c.loop-i.claim.bytes (omega (arith, c.loop-i.invariant.0, c.loop-i.invariant.1)) in
    claims-ended a.text.now a.lines _ c.loop-i.claim c.loop-i.invariant.0 c.loop-i.invariant.1 _ true _ c.ended.ensures
    (claim-end a.text.now a.lines (a.lines - c.loop-i.i) a.stop (made c.loop-i.claim) c.loop-i.claim.at c.content-here.result c.content-here.ensures.left (omega arith) c.if-text-here.true ∙ c.loop-i.invariant.2)

pub returns-then-stop-claim : goal.returns-then-stop-claim
returns-then-stop-claim c =
    let a = c.args in
    let n = length-take-le c.loop-i.claim.length c.loop-i.claim.bytes (omega (arith, c.loop-i.invariant.0, c.loop-i.invariant.1)) in
    claims-ended a.text.now a.lines _ c.loop-i.claim c.loop-i.invariant.0 c.loop-i.invariant.1 _ false _ c.ended-then-stop-claim.ensures
    (claim-stop a.text.now a.lines (a.lines - c.loop-i.i) a.stop (made c.loop-i.claim) c.loop-i.claim.at c.content-here.result c.content-here.ensures.left (omega arith) c.if-text-here.false (omega (arith, c.if-stop-claim.true)) ∙ c.loop-i.invariant.2)

pub returns-in_default : goal.returns-in_default
returns-in_default c =
    let a = c.args in
    let n = length-take-le c.loop-i.claim.length c.loop-i.claim.bytes (omega (arith, c.loop-i.invariant.0, c.loop-i.invariant.1)) in
    claims-ended a.text.now a.lines _ c.loop-i.claim c.loop-i.invariant.0 c.loop-i.invariant.1 _ false _ c.ended-in_default.ensures
    (claim-none a.text.now a.lines (a.lines - c.loop-i.i) a.stop (made c.loop-i.claim) c.loop-i.claim.at c.content-here.result c.content-here.ensures.left (omega arith) c.if-text-here.false (omega (arith, c.if-stop-claim.false)) c.unit_at.result c.unit_at.ensures c.in_default.is ∙ c.loop-i.invariant.2)

pub appended-requires : goal.appended-requires
appended-requires c =
    let fits = c.unit_at.ensures.within c.in-Some.unit c.in-Some.is in
    (omega (arith, fits.0, c.loop-i.invariant.0), fits.0)

pub returns-then-not-unit : goal.returns-then-not-unit
returns-then-not-unit c =
    let a = c.args in
    let n = length-take-le c.loop-i.claim.length c.loop-i.claim.bytes (omega (arith, c.loop-i.invariant.0, c.loop-i.invariant.1)) in
    let u = c.in-Some.unit in
    let fits = c.unit_at.ensures.within u c.in-Some.is in
    claims-with a.text.now a.lines _ c.loop-i.claim c.loop-i.invariant.0 c.loop-i.invariant.1 u fits.0 fits.1 _ c.appended.ensures
    (claim-broken a.text.now a.lines (a.lines - c.loop-i.i) a.stop (made c.loop-i.claim) c.loop-i.claim.at c.content-here.result c.content-here.ensures.left (omega arith) c.if-text-here.false (omega (arith, c.if-stop-claim.false)) c.unit_at.result c.unit_at.ensures u c.in-Some.is (not-true _ c.if-not-unit.true) ∙ c.loop-i.invariant.2)

pub returns-then-claim-unit-gt-CONDITION_BYTES : goal.returns-then-claim-unit-gt-CONDITION_BYTES
returns-then-claim-unit-gt-CONDITION_BYTES c =
    let a = c.args in
    let n = length-take-le c.loop-i.claim.length c.loop-i.claim.bytes (omega (arith, c.loop-i.invariant.0, c.loop-i.invariant.1)) in
    let u = c.in-Some.unit in
    let fits = c.unit_at.ensures.within u c.in-Some.is in
    let has : length u.bytes ≡ 11 = fits.1 in
    claims-ended a.text.now a.lines _ c.loop-i.claim c.loop-i.invariant.0 c.loop-i.invariant.1 _ false _ c.ended-then-claim-unit-gt-CONDITION_BYTES.ensures
    (claim-long a.text.now a.lines (a.lines - c.loop-i.i) a.stop (made c.loop-i.claim) c.loop-i.claim.at c.content-here.result c.content-here.ensures.left (omega arith) c.if-text-here.false (omega (arith, c.if-stop-claim.false)) c.unit_at.result c.unit_at.ensures u c.in-Some.is (not-false _ c.if-not-unit.false) (omega (arith, fits.0)) (omega (arith, c.if-claim-unit-gt-CONDITION_BYTES.true)) ∙ c.loop-i.invariant.2)

pub loop-i-preserved : goal.loop-i-preserved
loop-i-preserved c =
    let a = c.args in
    let n = length-take-le c.loop-i.claim.length c.loop-i.claim.bytes (omega (arith, c.loop-i.invariant.0, c.loop-i.invariant.1)) in
    let u = c.in-Some.unit in
    let fits = c.unit_at.ensures.within u c.in-Some.is in
    let has : length u.bytes ≡ 11 = fits.1 in
    let one-less : a.lines - (c.loop-i.i + 1) ≡ a.lines - c.loop-i.i - 1 = omega arith in
    rw one-less (going-with a.text.now a.lines _ c.loop-i.claim c.loop-i.invariant.0 c.loop-i.invariant.1 u fits.0 has _ _ _ c.appended-more.ensures (search rules)
    (claim-on a.text.now a.lines (a.lines - c.loop-i.i) a.stop (made c.loop-i.claim) c.loop-i.claim.at c.content-here.result c.content-here.ensures.left (omega arith) c.if-text-here.false (omega (arith, c.if-stop-claim.false)) c.unit_at.result c.unit_at.ensures u c.in-Some.is (not-false _ c.if-not-unit.false) (omega (arith, fits.0)) (omega (arith, c.if-claim-unit-gt-CONDITION_BYTES.false)) ∙ c.loop-i.invariant.2))

pub returns : goal.returns
returns c =
    let a = c.args in
    claims-ended a.text.now a.lines _ c.loop-i.claim c.loop-i.invariant.0 c.loop-i.invariant.1 _ false _ c.ended-2.ensures
    (claim-out a.text.now a.lines (a.lines - c.loop-i.i) a.stop (made c.loop-i.claim) c.loop-i.claim.at c.content.result c.content.ensures.left (omega arith) ∙ c.loop-i.invariant.2)
