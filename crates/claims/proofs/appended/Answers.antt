use Prim.Native.Nat.{ℕ, ◌+◌}
use mathlib.Core.Bool.{false}
use mathlib.Core.List.{List, ◌++◌}
use mathlib.Core.Path.{◌≡◌, ap, sym, ◌∙◌}
use native.Mathlib.Omega.{arith}
use lib.ListN.{length, take, drop}
use lib.Seq.{length-take-le, take_all}
use Rattle.std.proofs.lemmas.Slice.{put_mid-paste}
use Rattle.claims.specs.declared.Claim.{Claim}
use borrow.Author.Rules.{rules}
use Rattle.claims.proofs.appended.Goals as goal

abbrev claim_of : List ℕ → ℕ → ℕ → Claim
claim_of bytes n at = record { whole = false; length = n; bytes = bytes; at = at }

pub returns : goal.returns
returns c =
    let a = c.args in
    let at = a.claim.length in
    let size = a.unit.size in
    let piece = take size a.unit.bytes in
    let has : length a.unit.bytes ≡ 11 = search rules in
    let long : length piece ≡ size = length-take-le size a.unit.bytes (omega arith) in
    ap (λ (bytes : List ℕ). claim_of bytes (at + size) a.unit.at)
    (put_mid-paste at _ a.claim.bytes _ piece size c.copy_from_slice.ensures.after (omega arith) (sym long)
    ∙ ap (λ (s : List ℕ). take at a.claim.bytes ++ s ++ drop (at + size) a.claim.bytes) (take_all size piece (omega arith)))
