-- The laws of what a load chooses, by what was read of its record. Assumes nothing.
use Prim.Native.Nat.{ℕ, zero, suc, ◌+◌, ◌*◌, ◌≤◌, ◌<◌}
use mathlib.Core.List.{List, [], ◌∷◌}
use mathlib.Core.Bool.{Bool, true, false, ◌&&◌}
use mathlib.Core.Path.{◌≡◌, refl, ap, sym, ◌∙◌}
use native.Mathlib.Omega.{arith}
use borrow.Author.Tests.{lt-ltb, le-ltb}
use lib.Dec.{ltb}
use lib.ListN.{length, get_or}
use Rattle.rules.specs.Path as rules
use Rattle.rules.specs.Path.{Load}
use Rattle.record.specs.Answers.{OfferIs}
use Rattle.record.specs.Choices.{all_slots, offers, offered_by, OfLoad}
use Rattle.record.specs.Fields.{record_byte, values_at}
use Rattle.record.specs.Stands.{BranchStands}
use Rattle.record.specs.declared.Offered.{Offered}
use Rattle.std.specs.Prelude.{Option, None}
use Rattle.record.proofs.LoadLaws.{value-at, length-values_at}
use Rattle.record.proofs.StandsLaws.{stands-pos, stands-len, stands-values, seven-values}

-- one that is no slot spoils all
bad-slot : (vs : List ℕ) (i : ℕ) → i < length vs → 7 ≤ get_or vs i 0 → all_slots vs ≡ false
unfolding all_slots
bad-slot [] i h l = absurd (omega arith)
bad-slot (v ∷ vs) zero h l = rw (le-ltb v 7 l)
bad-slot (v ∷ vs) (suc i) h l = second (ltb v 7) (all_slots vs) (bad-slot vs i (omega arith) l)
  where
    second : (a b : Bool) → b ≡ false → a && b ≡ false
    second true b e = e
    second false b e = refl

-- a load's record, with its position and length as they were read
module _ (bytes : List ℕ) (at : ℕ) (fits : 16 * at + 16 ≤ length bytes) (pos len : ℕ) (ep : pos ≡ record_byte bytes at 9) (el : len ≡ record_byte bytes at 10) where
  pub offered-many : 7 < len → OfLoad bytes at None
  offered-many h = record { slot = tt; is = λ l q. absurd (omega (arith, stands-len q, seven-values q)) }

  pub offered-none : len ≤ pos → OfLoad bytes at None
  unfolding offered_by
  offered-none h = record {
    slot = tt;
    is = λ l q.
        let k : length l.values ≤ l.pos = omega (arith, stands-len q, stands-pos q) in
        rw (le-ltb l.pos (length l.values) k);
  }

  module _ (few : len ≤ 7) (inside : pos < len) (slot : ℕ) (es : slot ≡ record_byte bytes at (2 + pos)) where
    picked : (l : Load) → BranchStands bytes at (rules.load l) → offers slot 0 (values_at bytes at len) ≡ offered_by (rules.load l)
    unfolding offered_by
    picked l q =
        let p : pos ≡ l.pos = ep ∙ stands-pos q in
        let n : len ≡ length l.values = el ∙ stands-len q in
        let k : l.pos < length l.values = omega arith in
        let v : values_at bytes at len ≡ l.values = ap (values_at bytes at) n ∙ stands-values q in
        let s : slot ≡ get_or l.values l.pos 0 =
        es ∙ value-at bytes at len fits few pos inside ∙ ap (λ (x : List ℕ). get_or x pos 0) v ∙ ap (λ (x : ℕ). get_or l.values x 0) p in
        rw (lt-ltb l.pos (length l.values) k, v, s)

    spoilt : 7 ≤ slot → length (values_at bytes at len) ≡ len → offers slot 0 (values_at bytes at len) ≡ None
    unfolding offers
    spoilt h n =
        let s : slot ≡ get_or (values_at bytes at len) pos 0 = es ∙ value-at bytes at len fits few pos inside in
        rw (bad-slot (values_at bytes at len) pos (omega arith) (omega arith))

    pub offered-bad : 7 ≤ slot → OfLoad bytes at None
    offered-bad h = record { slot = tt; is = λ l q. sym (spoilt h (length-values_at bytes at len fits few)) ∙ picked l q }

    pub offered-some : (r : Option Offered) → OfferIs (offers slot 0 (values_at bytes at len)) r → OfLoad bytes at r
    offered-some r o = record { slot = o.slot; is = λ l q. o.is ∙ picked l q }
