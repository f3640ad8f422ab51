-- Bytes put one after the other. Assumes nothing.
--     puts_none, puts_then           nothing put, and one thing behind another
--     puts-in, puts-past             a byte where there is room, and where there is none
--     coming-all, coming-on          what is still to come, at first and behind a part of it
--     come                           nothing more
use Prim.Native.Nat.{ℕ, suc, ◌+◌, ◌≤◌, ◌<◌, min}
use mathlib.Core.List.{List, [], ◌∷◌, ◌++◌}
use mathlib.Core.Path.{◌≡◌, refl, ap, sym, ◌∙◌}
use native.Mathlib.Omega.{arith}
use native.Mathlib.Decide.{dec_le}
use native.Mathlib.Numerals.{add-one}
use borrow.Author.Tests.{le-leb, lt-leb}
use Rattle.std.proofs.lemmas.Bool.Decides.{nat_tests}
use lib.ListN.{length, get_or, set, drop, length-append}
use lib.Seq.{drop-cons, sets, set_out, length-sets}
use Rattle.put.specs.Puts.{last, up_to_last, Puts, ToPut}

low : (n : ℕ) → n ≤ last → up_to_last n ≡ n
low n h = rw (le-leb n last h)

high : (n : ℕ) → last ≤ n → up_to_last n ≡ last
high n h =
    elim (dec_le n last) [
      | yes k ↦ let e : n ≡ last = omega arith in low n k ∙ e
      | no k ↦ rw (lt-leb n last (omega arith))
    ]

sets-out : (bytes l : List ℕ) (i : ℕ) → length l ≤ i → sets l i bytes ≡ l
sets-out [] l i h = refl
sets-out (b ∷ bytes) l i h = rw (set_out l i b h) (sets-out bytes l (suc i) (omega arith))

sets_then : (a b l : List ℕ) (i : ℕ) → sets l i (a ++ b) ≡ sets (sets l i a) (i + length a) b
sets_then [] b l i = let e : i + 0 ≡ i = omega arith in rw e
sets_then (x ∷ a) b l i =
    let e : suc i + length a ≡ i + suc (length a) = omega arith in
    sets_then a b (set l i x) (suc i) ∙ ap (λ (k : ℕ). sets (sets (set l i x) (suc i) a) k b) e

pub puts_none : (l : List ℕ) (at : ℕ) → at ≤ last → Puts l l at [] at
puts_none l at h = record { left = refl; behind = let e : at + 0 ≡ at = omega arith in sym (rw e (low at h)) }

pub puts_then : (l m n : List ℕ) (at mid r : ℕ) (a b : List ℕ) → length l ≤ last → Puts l m at a mid → Puts m n mid b r → Puts l n at (a ++ b) r
puts_then l m n at mid r a b h p q =
    let long = length-append a b in
    elim (dec_le (at + length a) last) [
      | yes k ↦
          let e : mid ≡ at + length a = p.behind ∙ low (at + length a) k in
          let f : mid + length b ≡ at + length (a ++ b) = omega arith in
          record {
            left = q.left ∙ (rw (e, p.left) (sym (sets_then a b l at)));
            behind = q.behind ∙ ap up_to_last f;
          }
      | no k ↦
          let e : mid ≡ last = p.behind ∙ high (at + length a) (omega arith) in
          let same : length m ≡ length l = ap length p.left ∙ length-sets l at a in
          record {
            left =
                q.left
                ∙ sets-out b m mid (omega arith)
                ∙ p.left
                ∙ sym (sets_then a b l at ∙ sets-out b (sets l at a) (at + length a) (omega (arith, length-sets l at a)));
            behind = q.behind ∙ high (mid + length b) (omega arith) ∙ sym (high (at + length (a ++ b)) (omega arith));
          }
    ]

counted : (n : ℕ) → min n last ≡ up_to_last n
counted n = grind (arith, nat_tests)

pub puts-in : (l : List ℕ) (at b r : ℕ) → r ≡ min (at + 1) last → Puts l (set l at b) at (b ∷ []) r
puts-in l at b r e = record { left = refl; behind = e ∙ counted (at + 1) }

pub puts-past : (l : List ℕ) (at b r : ℕ) → length l ≤ at → r ≡ min (at + 1) last → Puts l l at (b ∷ []) r
puts-past l at b r h e = record { left = sym (set_out l at b h); behind = e ∙ counted (at + 1) }

pub puts-are : (l m : List ℕ) (at r : ℕ) (a b : List ℕ) → a ≡ b → Puts l m at a r → Puts l m at b r
puts-are l m at r a b e p = rw (← e) p

pub puts-fits : (l m : List ℕ) (at r : ℕ) (a : List ℕ) → Puts l m at a r → r ≤ last
puts-fits l m at r a p =
    elim (dec_le (at + length a) last) [
      | yes h ↦ omega (arith, p.behind ∙ low (at + length a) h)
      | no h ↦ omega (arith, p.behind ∙ high (at + length a) (omega arith))
    ]

pub coming-all : (l : List ℕ) (at : ℕ) (all : List ℕ) → at ≤ last → length l ≤ last → ToPut l l at at all all
coming-all l at all h k = record { whole = λ exit r p. p; fits = h; long = refl; short = k }

pub coming-on : (l m n : List ℕ) (at to mid : ℕ) (all rest part more : List ℕ) → rest ≡ part ++ more → ToPut l m at to all rest → Puts m n to part mid → ToPut l n at mid all more
coming-on l m n at to mid all rest part more e c p = record {
  whole = λ exit r q. c.whole exit r (rw e (puts_then m n exit to mid r part more (omega (arith, c.long, c.short)) p q));
  fits = puts-fits m n to mid part p;
  long = ap length p.left ∙ length-sets m to part ∙ c.long;
  short = c.short;
}

-- the bytes of a slice one by one
pub byte_next : (bytes : List ℕ) (i : ℕ) → i < length bytes → drop i bytes ≡ (get_or bytes i 0 ∷ []) ++ drop (i + 1) bytes
byte_next bytes i h = rw (add-one, drop-cons bytes i 0)

pub come : (l m : List ℕ) (at to : ℕ) (all rest : List ℕ) → rest ≡ [] → ToPut l m at to all rest → Puts l m at all to
come l m at to all rest e c = c.whole m to (rw e (puts_none m to c.fits))
