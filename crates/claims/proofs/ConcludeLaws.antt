-- A text's condition, by what its first bad byte or its end is. Assumes nothing.
--     bad-refused, ends-refused, broken-refused, ends-taken      each answer
use Prim.Native.Nat.{ℕ, zero, suc, ◌+◌, ◌-◌, ◌<◌}
use mathlib.Core.List.{List, [], ◌∷◌}
use mathlib.Core.Bool.{Bool, true, false, ◌&&◌}
use mathlib.Core.Path.{◌≡◌, refl, ap, sym, ◌∙◌}
use native.Mathlib.Omega.{arith}
use borrow.Author.Tests.{eq-eqb, ne_eqb}
use lib.ListN.{length, take, drop, replicate, length-replicate}
use lib.Seq.{length-take-le}
use Rattle.std.proofs.Common.{Ok, Err}
use Rattle.rules.specs.Condition.{condition_bytes, Read, bad, read, condition_at, groups_deep, comparison_at}
use Rattle.rules.specs.Token.{is_empty}
use Rattle.rules.specs.Text.{Draft, Claimed, claimed, TextRead, refused_at, accepted, concluded, table_of}
use Rattle.token.specs.Places.{part}
use Rattle.condition.specs.Reads.{found_in}
use Rattle.condition.specs.declared.BadByte.{BadByte}
use Rattle.claims.specs.Units.{most_claimed, Claims, Concludes, concluded_of}
use Rattle.claims.specs.declared.Claim.{Claim}
use Rattle.claims.specs.declared.Conclusion.{Conclusion}

abbrev bad_at : ℕ → BadByte
bad_at stop = record { at = stop }

abbrev judged : ℕ → List ℕ → Read
judged threads made = condition_at threads (λ t r. 0) groups_deep made

module _ (lines : ℕ) (bs : List ℕ) (table : List ℕ) where
  abbrev refused_by : ℕ → TextRead
  refused_by stop = refused_at (claimed lines lines stop [] bs).rest

  abbrev ends_then : List ℕ → List ℕ → Bool → TextRead
  ends_then made rest t = elim t [ true ↦ accepted table made | false ↦ refused_by (length made - length rest) ]

  abbrev conclude_then : List ℕ → Bool → Read → TextRead
  conclude_then made whole r =
      elim r [ bad rest ↦ refused_by (length made - length rest) | read v rest ↦ ends_then made rest (is_empty rest && whole) ]

  module _ (made : List ℕ) (whole : Bool) (stop : ℕ) where
    bad-by : (r : Read) → Err (bad_at stop) ≡ found_in (length made) r → refused_by stop ≡ conclude_then made whole r
    bad-by (bad rest) e =
        let there : bad_at stop ≡ bad_at (length made - length rest) = cc in
        ap (λ (b : BadByte). refused_by b.at) there
    bad-by (read v rest) e = let z : ◌≡◌ {A = ℕ} 0 1 = cc in absurd (omega arith)

    ends_by : (r : Read) → Ok stop ≡ found_in (length made) r → (stop ≡ length made → ⊥) → refused_by stop ≡ conclude_then made whole r
    ends_by (bad rest) e n = let z : ◌≡◌ {A = ℕ} 0 1 = cc in absurd (omega arith)
    ends_by (read v rest) e n =
        let s : stop ≡ length made - length rest = cc in
        let some : is_empty rest ≡ false = ne_eqb (length rest) 0 (λ (z : length rest ≡ 0). n (omega arith)) in
        ap refused_by s ∙ ap (λ (t : Bool). ends_then made rest (t && whole)) (sym some)

    and-false : (t : Bool) → t && false ≡ false
    and-false true = refl
    and-false false = refl

    broken-by : (r : Read) → Ok stop ≡ found_in (length made) r → whole ≡ false → refused_by stop ≡ conclude_then made whole r
    broken-by (bad rest) e w = let z : ◌≡◌ {A = ℕ} 0 1 = cc in absurd (omega arith)
    broken-by (read v rest) e w =
        let s : stop ≡ length made - length rest = cc in
        ap refused_by s ∙ ap (ends_then made rest) (sym (ap (λ (t : Bool). is_empty rest && t) w ∙ and-false (is_empty rest)))

    taken-by : (r : Read) → Ok stop ≡ found_in (length made) r → (length made ≡ 0 → ⊥) → stop ≡ length made → whole ≡ true → accepted table made ≡ conclude_then made whole r
    taken-by (bad rest) e n h w = let z : ◌≡◌ {A = ℕ} 0 1 = cc in absurd (omega arith)
    taken-by (read v rest) e n h w =
        let s : stop ≡ length made - length rest = cc in
        let m : 0 < length made = elim (length made) as (λ k. (k ≡ 0 → ⊥) → 0 < k) [ zero ↦ λ f. absurd (f refl) | suc k ↦ λ f. omega arith ] n in
        let none : is_empty rest ≡ true = eq-eqb (length rest) 0 (omega arith) in
        ap (ends_then made rest) (sym (ap (λ (t : Bool). t && whole) none ∙ w))

-- no byte is no condition
some_read : (threads stop : ℕ) (made : List ℕ) → Ok stop ≡ found_in (length made) (judged threads made) → length made ≡ 0 → ⊥
unfolding condition_at comparison_at
some_read threads stop [] e h = let z : ◌≡◌ {A = ℕ} 0 1 = cc in omega arith
some_read threads stop (b ∷ bs) e h = omega arith

module _ (text : List ℕ) (lines at threads : ℕ) (c : Claim) (claims : Claims text lines (claimed lines lines (condition_bytes + 1) [] (drop at text)) c) (piece : List ℕ) (is : piece ≡ part 0 c.length c.bytes) where
  piece_is : piece ≡ take c.length c.bytes
  piece_is = let z : c.length - 0 ≡ c.length = omega arith in is ∙ ap (λ (n : ℕ). take n c.bytes) z

  pub piece-long : length piece ≡ c.length
  piece-long = ap length piece_is ∙ length-take-le c.length c.bytes (omega (arith, claims.most, claims.long))

  all-is : (m : Draft) → m.threads ≡ threads
      → conclude_then lines (drop at text) (table_of m) piece c.whole (judged threads piece) ≡ concluded lines m (drop at text)
  all-is m t =
      ap (λ (p : List ℕ). conclude_then lines (drop at text) (table_of m) p c.whole (judged threads p)) (piece_is ∙ ap (λ (k : Claimed lines). k.made) claims.is)
      ∙ ap (λ (w : Bool). conclude_then lines (drop at text) (table_of m) (claimed lines lines (condition_bytes + 1) [] (drop at text)).made w (judged threads (claimed lines lines (condition_bytes + 1) [] (drop at text)).made)) (ap (λ (k : Claimed lines). k.whole) claims.is)
      ∙ ap (λ (n : ℕ). conclude_then lines (drop at text) (table_of m) (claimed lines lines (condition_bytes + 1) [] (drop at text)).made (claimed lines lines (condition_bytes + 1) [] (drop at text)).whole (judged n (claimed lines lines (condition_bytes + 1) [] (drop at text)).made)) (sym t)

  module _ (stop : ℕ) where
    -- a refusal
    module _ (stuck : ℕ) (says : drop stuck text ≡ (claimed lines lines stop [] (drop at text)).rest) where
      abbrev Refuses : Type 0
      Refuses = (table : List ℕ) → refused_by lines (drop at text) table stop ≡ conclude_then lines (drop at text) table piece c.whole (judged threads piece)

      so-refused : Refuses → Concludes text at lines threads (Err stuck)
      so-refused h = record {
        is = λ m t. ap refused_at says ∙ h (table_of m) ∙ all-is m t;
        within = λ k e. absurd (let z : ◌≡◌ {A = ℕ} 0 1 = cc in omega arith);
      }

      pub bad-refused : Err (bad_at stop) ≡ found_in (length piece) (judged threads piece) → Concludes text at lines threads (Err stuck)
      bad-refused e = so-refused (λ table. bad-by lines (drop at text) table piece c.whole stop (judged threads piece) e)

      pub ends-refused : Ok stop ≡ found_in (length piece) (judged threads piece) → (stop ≡ c.length → ⊥) → Concludes text at lines threads (Err stuck)
      ends-refused e n =
          so-refused (λ table. ends_by lines (drop at text) table piece c.whole stop (judged threads piece) e (λ (z : stop ≡ length piece). n (z ∙ piece-long)))

      pub broken-refused : Ok stop ≡ found_in (length piece) (judged threads piece) → c.whole ≡ false → Concludes text at lines threads (Err stuck)
      broken-refused e w = so-refused (λ table. broken-by lines (drop at text) table piece c.whole stop (judged threads piece) e w)

    pub ends-taken : Ok stop ≡ found_in (length piece) (judged threads piece) → stop ≡ c.length → c.whole ≡ true
        → Concludes text at lines threads (Ok (record { length = c.length; bytes = c.bytes }))
    ends-taken e h w = record {
      is = λ m t. ap (accepted (table_of m)) (sym piece_is)
          ∙ taken-by lines (drop at text) (table_of m) piece c.whole stop (judged threads piece) e (some_read threads stop piece e) (h ∙ sym piece-long) w
          ∙ all-is m t;
      within = λ k f. let z : record { length = c.length; bytes = c.bytes } ≡ k = cc in rw (← z) (claims.whole w, claims.long);
    }
