-- The bytes of a condition, unit by unit. Assumes nothing.
--     claim-out, claim-end, claim-stop      no unit is left, the text ends, or enough was read
--     claim-none, claim-broken, claim-long, claim-on      what comes of a unit
--     claims-ended, claims-with, going-with      an answer, and the next turn, by the claim before
use Prim.Native.Nat.{ℕ, suc, ◌+◌, ◌-◌, ◌≤◌, ◌<◌}
use mathlib.Core.List.{List, ◌++◌}
use mathlib.Core.Bool.{Bool, true, false, true≢false, ◌||◌}
use mathlib.Core.Path.{◌≡◌, refl, ap, sym, ◌∙◌}
use native.Mathlib.Omega.{arith}
use borrow.Author.Tests.{eq-eqb, ne_eqb, le-leb, lt-leb}
use lib.Dec.{leb}
use lib.ListN.{length, take, drop, length-take, length-drop}
use lib.Seq.{take-paste, length-paste}
use Rattle.std.proofs.Common.{Option, Some, None}
use Rattle.rules.specs.Condition.{condition_bytes}
use Rattle.rules.specs.Token.{is_empty, content}
use Rattle.rules.specs.Text.{unit_at, claimed, claimed_to, Claimed}
use Rattle.rules.specs.Text as rules
use Rattle.claims.specs.Units.{most_claimed, UnitStands, ended_at, with_unit, Claims, unit_of}
use Rattle.claims.specs.declared.Claim.{Claim}
use Rattle.claims.specs.declared.Unit.{Unit}

-- what comes of a unit, by whether there is room for its bytes
abbrev room_then : (lines n stop : ℕ) → List ℕ → List ℕ → List ℕ → List ℕ → Bool → Claimed lines
room_then lines n stop made here bytes rest t =
    elim t [ true ↦ claimed lines n stop (made ++ bytes) rest | false ↦ claimed_to lines made here false ]

abbrev unit_then : (lines n stop : ℕ) → List ℕ → List ℕ → rules.Unit → Claimed lines
unit_then lines n stop made here u =
    elim u [
      | rules.none ↦ claimed_to lines made here false
      | rules.broken bytes rest ↦ claimed_to lines (made ++ bytes) rest false
      | rules.unit bytes rest ↦ room_then lines n stop made here bytes rest (leb (length made + length bytes) condition_bytes)
    ]

abbrev stop_then : (lines n stop : ℕ) → List ℕ → List ℕ → Bool → Claimed lines
stop_then lines n stop made here t =
    elim t [ true ↦ claimed_to lines made here (is_empty here) | false ↦ unit_then lines n stop made here (unit_at lines here) ]

claim-next : (lines n stop : ℕ) (made bs : List ℕ) →
    claimed lines (suc n) stop made bs ≡ stop_then lines n stop made (content lines bs) (leb stop (length made) || is_empty (content lines bs))
unfolding claimed
claim-next lines n stop made bs = refl

claim-zero : (lines stop : ℕ) (made bs : List ℕ) → claimed lines 0 stop made bs ≡ claimed_to lines made (content lines bs) false
unfolding claimed
claim-zero lines stop made bs = refl

or-true : (t : Bool) → t || true ≡ true
or-true true = refl
or-true false = refl

module _ (text : List ℕ) (lines left stop : ℕ) (made : List ℕ) (from here : ℕ) (there : drop here text ≡ content lines (drop from text)) where
  pub claim-out : left ≤ 0 → claimed_to lines made (drop here text) false ≡ claimed lines left stop made (drop from text)
  claim-out h =
      let e : left ≡ 0 = omega arith in
      ap (λ (r : List ℕ). claimed_to lines made r false) there ∙ sym (claim-zero lines stop made (drop from text)) ∙ ap (λ (n : ℕ). claimed lines n stop made (drop from text)) (sym e)

  module _ (more : 0 < left) where
    one-more : (t : Bool) → leb stop (length made) || is_empty (drop here text) ≡ t → stop_then lines (left - 1) stop made (drop here text) t ≡ claimed lines left stop made (drop from text)
    one-more t e =
        let s : left ≡ suc (left - 1) = omega arith in
        ap (stop_then lines (left - 1) stop made (drop here text)) (sym e)
        ∙ ap (λ (bs : List ℕ). stop_then lines (left - 1) stop made bs (leb stop (length made) || is_empty bs)) there
        ∙ sym (claim-next lines (left - 1) stop made (drop from text))
        ∙ ap (λ (n : ℕ). claimed lines n stop made (drop from text)) (sym s)

    pub claim-end : length text ≤ here → claimed_to lines made (drop here text) true ≡ claimed lines left stop made (drop from text)
    claim-end h =
        let none : is_empty (drop here text) ≡ true = eq-eqb (length (drop here text)) 0 (omega (arith, length-drop here text)) in
        ap (claimed_to lines made (drop here text)) (sym none)
        ∙ one-more true (ap (λ (t : Bool). leb stop (length made) || t) none ∙ or-true (leb stop (length made)))

    module _ (inside : here < length text) where
      some : is_empty (drop here text) ≡ false
      some = ne_eqb _ _ (λ (z : length (drop here text) ≡ 0). omega (arith, length-drop here text))

      pub claim-stop : stop ≤ length made → claimed_to lines made (drop here text) false ≡ claimed lines left stop made (drop from text)
      claim-stop h =
          ap (claimed_to lines made (drop here text)) (sym some)
          ∙ one-more true (ap (λ (t : Bool). t || is_empty (drop here text)) (le-leb stop (length made) h))

      module _ (early : length made < stop) (r : Option Unit) (stands : UnitStands text (unit_at lines (drop here text)) r) where
        one_unit : unit_then lines (left - 1) stop made (drop here text) (unit_of text r) ≡ claimed lines left stop made (drop from text)
        one_unit =
            ap (unit_then lines (left - 1) stop made (drop here text)) stands.is
            ∙ one-more false (ap (λ (t : Bool). t || is_empty (drop here text)) (lt-leb stop (length made) early) ∙ some)

        pub claim-none : r ≡ None → claimed_to lines made (drop here text) false ≡ claimed lines left stop made (drop from text)
        claim-none e = ap (λ (o : Option Unit). unit_then lines (left - 1) stop made (drop here text) (unit_of text o)) (sym e) ∙ one_unit

        module _ (u : Unit) (there-is : r ≡ Some u) where
          the_unit : unit_then lines (left - 1) stop made (drop here text) (unit_of text (Some u)) ≡ claimed lines left stop made (drop from text)
          the_unit = ap (λ (o : Option Unit). unit_then lines (left - 1) stop made (drop here text) (unit_of text o)) (sym there-is) ∙ one_unit

          pub claim-broken : u.whole ≡ false → claimed_to lines (made ++ take u.size u.bytes) (drop u.at text) false ≡ claimed lines left stop made (drop from text)
          claim-broken w =
              let e : unit_of text (Some u) ≡ rules.broken (take u.size u.bytes) (drop u.at text) = rw w in
              ap (unit_then lines (left - 1) stop made (drop here text)) (sym e) ∙ the_unit

          module _ (w : u.whole ≡ true) (has : u.size ≤ length u.bytes) where
            whole_is : unit_of text (Some u) ≡ rules.unit (take u.size u.bytes) (drop u.at text)
            whole_is = rw w

            long : length made + length (take u.size u.bytes) ≡ length made + u.size
            long = omega (arith, length-take u.size u.bytes)

            one-room : (t : Bool) → leb (length made + u.size) condition_bytes ≡ t
                → room_then lines (left - 1) stop made (drop here text) (take u.size u.bytes) (drop u.at text) t ≡ claimed lines left stop made (drop from text)
            one-room t e =
                ap (room_then lines (left - 1) stop made (drop here text) (take u.size u.bytes) (drop u.at text)) (sym e ∙ ap (λ (n : ℕ). leb n condition_bytes) (sym long))
                ∙ ap (unit_then lines (left - 1) stop made (drop here text)) (sym whole_is)
                ∙ the_unit

            pub claim-long : condition_bytes < length made + u.size → claimed_to lines made (drop here text) false ≡ claimed lines left stop made (drop from text)
            claim-long h = one-room false (lt-leb (length made + u.size) condition_bytes h)

            pub claim-on : length made + u.size ≤ condition_bytes
                → claimed lines (left - 1) stop (made ++ take u.size u.bytes) (drop u.at text) ≡ claimed lines left stop made (drop from text)
            claim-on h = one-room true (le-leb (length made + u.size) condition_bytes h)

-- before a turn of so many: from what was made, what is left gives the whole
abbrev pub Going : List ℕ → (lines stop left : ℕ) → Claimed lines → Claim → Type 0
Going text lines stop left claim c =
    (c.length ≤ condition_bytes) × (length c.bytes ≡ most_claimed) × (claimed lines left stop (take c.length c.bytes) (drop c.at text) ≡ claim)

-- an answer, and the next turn, by the claim before
module _ (text : List ℕ) (lines : ℕ) (claim : Claimed lines) (c : Claim) (most : c.length ≤ condition_bytes) (long : length c.bytes ≡ most_claimed) where
  pub claims-ended : (r : Claim) (w : Bool) (at : ℕ) → r ≡ ended_at c w at → claimed_to lines (take c.length c.bytes) (drop at text) w ≡ claim → Claims text lines claim r
  claims-ended r w at e is = rw e (record { is = is; most = omega arith; whole = λ h. most; long = long })

  module _ (u : Unit) (small : u.size ≤ 11) (has : length u.bytes ≡ 11) where
    taken-on : take (c.length + u.size) (with_unit c u).bytes ≡ take c.length c.bytes ++ take u.size u.bytes
    taken-on = take-paste c.bytes c.length u.bytes u.size (omega arith) (omega arith)

    long-on : length (with_unit c u).bytes ≡ most_claimed
    long-on = length-paste c.bytes c.length u.bytes u.size (omega arith) (omega arith) ∙ long

    pub claims-with : (r : Claim) → r ≡ with_unit c u → claimed_to lines (take c.length c.bytes ++ take u.size u.bytes) (drop u.at text) false ≡ claim → Claims text lines claim r
    claims-with r e is =
        rw e (record {
          is = ap (λ (m : List ℕ). claimed_to lines m (drop u.at text) false) taken-on ∙ is;
          most = omega arith;
          whole = λ h. absurd (true≢false (sym h));
          long = long-on;
        })

    pub going-with : (stop left : ℕ) (r : Claim) → r ≡ with_unit c u → c.length + u.size ≤ condition_bytes
        → claimed lines left stop (take c.length c.bytes ++ take u.size u.bytes) (drop u.at text) ≡ claim → Going text lines stop left claim r
    going-with stop left r e fits is = rw e (fits, long-on, ap (λ (m : List ℕ). claimed lines left stop m (drop u.at text)) taken-on ∙ is)
