-- How long a condition's line is, what is cut out of it, and one turn of the loop over the comparisons. Assumes nothing.
--     line-fits                         no line has more bytes than there is room for
--     at-end, never-past, whole-cut     where a line that was put ends, and the line
--     words-none, words-cut             its words
--     nothing_put                       no bytes put
--     parts-on, parts-none, parts_out, parts-end    a comparison, none, none that has room, and no more to be asked
use Prim.Native.Nat.{ℕ, zero, suc, ◌+◌, ◌-◌, ◌*◌, ◌/◌, ◌%◌, ◌≤◌, ◌<◌}
use mathlib.Core.List.{List, [], ◌∷◌, ◌++◌}
use mathlib.Core.Bool.{Bool, true, false, cond, ◌&&◌, ◌||◌, and-eq-true_iff}
use mathlib.Core.Path.{◌≡◌, refl, sym, ◌∙◌}
use native.Mathlib.Omega.{arith}
use native.Mathlib.Decide.{dec_le}
use borrow.Author.Tests.{le-leb, leb-true}
use lib.Dec.{ltb, leb, eqb}
use lib.ListN.{length, get_or, take, drop, length-append, length-drop, drop_of_length-le}
use lib.Seq.{sets-eq, take_at, take-append-le, drop-append-le}
use Rattle.std.specs.Prelude.{Some, None}
use Rattle.std.specs.Option.{option_map_or}
use Rattle.rules.specs.Table.{u64_at}
use Rattle.rules.specs.Token.{bytes_of, space}
use Rattle.rules.specs.Text.{symbols}
use Rattle.rules.specs.Condition.{is_sign, opens, closes, is_condition, ends, claim_at}
use Rattle.rules.specs.Writer.{digits_of, shown, blank_before, units_shown, condition_shown}
use Rattle.put.specs.Puts.{last, Puts}
use Rattle.page.specs.Pages.{Page, put_text}
use Rattle.unmet.specs.Parts.{next_from, part_at, claim_shown}
use Rattle.unmet.specs.declared.Part.{Part}
use Rattle.finally.specs.Finals.{condition_words, put_compared, put_parts}

-- How long a line is

digits_long : (n v : ℕ) (behind : List ℕ) → length (digits_of n v behind) ≤ n + length behind
unfolding digits_of
digits_long zero v behind = omega arith
digits_long (suc n) v behind = on (ltb v 10) (digits_long n (v / 10) ((48 + v % 10) ∷ behind))
  where
    on : (t : Bool) → length (digits_of n (v / 10) ((48 + v % 10) ∷ behind)) ≤ n + length ((48 + v % 10) ∷ behind) →
        length {A = ℕ} (elim t [ true ↦ (48 + v) ∷ behind | false ↦ digits_of n (v / 10) ((48 + v % 10) ∷ behind) ]) ≤ suc n + length behind
    on true h = omega arith
    on false h = omega arith

symbol-long : (i : ℕ) → length (get_or symbols i []) ≤ 3
unfolding bytes_of
symbol-long zero = omega arith
symbol-long (suc zero) = omega arith
symbol-long (suc (suc zero)) = omega arith
symbol-long (suc (suc (suc zero))) = omega arith
symbol-long (suc (suc (suc (suc zero)))) = omega arith
symbol-long (suc (suc (suc (suc (suc zero))))) = omega arith
symbol-long (suc (suc (suc (suc (suc (suc zero)))))) = omega arith
symbol-long (suc (suc (suc (suc (suc (suc (suc zero))))))) = omega arith
symbol-long (suc (suc (suc (suc (suc (suc (suc (suc zero)))))))) = omega arith
symbol-long (suc (suc (suc (suc (suc (suc (suc (suc (suc zero))))))))) = omega arith
symbol-long (suc (suc (suc (suc (suc (suc (suc (suc (suc (suc i)))))))))) = omega arith

blank-long : (t : Bool) → length (cond t [] (space ∷ [])) ≤ 1
blank-long true = omega arith
blank-long false = omega arith

units-none : (n : ℕ) (opened : Bool) → units_shown n opened [] ≡ []
unfolding units_shown
units-none zero opened = refl
units-none (suc n) opened = refl

-- one unit, where those behind it are so long: a byte is four bytes of text at most, but a comparison that breaks off may be 30
module _ (n b : ℕ) (bs : List ℕ) (opened : Bool) (behind : (o : Bool) (cs : List ℕ) → length (units_shown n o cs) ≤ 4 * length cs + 26) where
  abbrev symbol : List ℕ
  symbol = get_or symbols (b - 1) []

  abbrev number : List ℕ
  number = shown (u64_at bs 2)

  abbrev rest : List ℕ
  rest = units_shown n false (drop 10 bs)

  rest-long : length rest ≤ 4 * length bs
  rest-long =
      elim (dec_le (length bs) 10) [
        | yes h ↦ let e : length rest ≡ 0 = rw (drop_of_length-le bs {i = 10} h, units-none n false) in omega arith
        | no h ↦ omega (arith, behind false (drop 10 bs), length-drop 10 bs)
      ]

  abbrev compares : List ℕ
  compares = (48 + get_or bs 0 0) ∷ 46 ∷ 114 ∷ (48 + get_or bs 1 0) ∷ space ∷ (symbol ++ (space ∷ (number ++ rest)))

  abbrev other : List ℕ
  other = symbol ++ units_shown n (eqb b opens) bs

  unit-long : (t : Bool) → length {A = ℕ} (elim t [ true ↦ blank_before opened b ++ compares | false ↦ blank_before opened b ++ other ]) ≤ 4 * suc (length bs) + 26
  unit-long true =
      omega (
        arith,
        length-append (blank_before opened b) compares,
        length-append symbol (space ∷ (number ++ rest)),
        length-append number rest,
        blank-long (opened || eqb b closes),
        symbol-long (b - 1),
        digits_long 20 (u64_at bs 2) [],
        rest-long,
      )
  unit-long false =
      omega (
        arith,
        length-append (blank_before opened b) other,
        length-append symbol (units_shown n (eqb b opens) bs),
        blank-long (opened || eqb b closes),
        symbol-long (b - 1),
        behind (eqb b opens) bs,
      )

units-long : (n : ℕ) (opened : Bool) (bs : List ℕ) → length (units_shown n opened bs) ≤ 4 * length bs + 26
unfolding units_shown
units-long zero opened bs = omega arith
units-long (suc n) opened [] = omega arith
units-long (suc n) opened (b ∷ bs) = unit-long n b bs opened (units-long n) (is_sign b)

condition-long : (bs : List ℕ) → length (condition_shown bs) ≤ 4 * length bs + 34
unfolding condition_shown bytes_of
condition-long [] = omega arith
condition-long (b ∷ bs) =
    let units : List ℕ = units_shown (suc (length bs)) false (b ∷ bs) in
    omega (arith, length-append units (10 ∷ []), units-long (suc (length bs)) false (b ∷ bs))

-- the longest condition has 1024 bytes
pub line-fits : (threads : ℕ) (bs : List ℕ) → length (claim_shown threads bs) ≤ 4160
unfolding claim_shown is_condition
line-fits threads bs = on (leb threads 10 && is_condition threads bs) refl
  where
    on : (t : Bool) → (leb threads 10 && is_condition threads bs) ≡ t → length (cond t (condition_shown bs) []) ≤ 4160
    on true e =
        let whole = ((and-eq-true_iff (leb threads 10) (is_condition threads bs)).0 e).1 in
        let short = ((and-eq-true_iff (leb (length bs) 1024) (ends (claim_at threads (λ t r. 0) bs))).0 whole).0 in
        omega (arith, condition-long bs, leb-true (length bs) 1024 short)
    on false e = omega arith

-- A line that was put

module _ (threads : ℕ) (bs entry exit : List ℕ) (end : ℕ) (puts : Puts entry exit 0 (claim_shown threads bs) end) where
  abbrev line : List ℕ
  line = claim_shown threads bs

  pub at-end : end ≡ length line
  at-end =
      let z : 0 + length line ≡ length line = omega arith in
      let low : length line ≤ last = omega (arith, line-fits threads bs) in
      puts.behind ∙ rw (z, le-leb (length line) last low)

  pub never-past : 4160 < end → ⊥
  never-past h = omega (arith, at-end, line-fits threads bs)

  pub words-none : end ≤ 8 → condition_words line ≡ []
  unfolding condition_words
  words-none h = let e : length line - 1 - 8 ≡ 0 = omega (arith, at-end) in rw e

  module _ (room : length entry ≡ 4160) where
    left : exit ≡ line ++ drop (0 + length line) entry
    left = puts.left ∙ sets-eq line entry 0 (omega (arith, line-fits threads bs))

    pub whole-cut : take end exit ≡ line
    whole-cut = rw left (take_at line (drop (0 + length line) entry) end (sym at-end))

    pub words-cut : 8 < end → take (end - 1 - 8) (drop 8 exit) ≡ condition_words line
    unfolding condition_words
    words-cut h =
        let more : 8 ≤ length line = omega (arith, at-end) in
        rw (at-end, left, drop-append-le 8 line (drop (0 + length line) entry) more)
        (take-append-le (length line - 1 - 8) (drop 8 line) (drop (0 + length line) entry) (omega (arith, length-drop 8 line)))

pub nothing_put : (l : Page) (w : List ℕ) → w ≡ [] → l ≡ put_text l w
unfolding put_text
nothing_put l w e = rw e

-- The loop: what is left to be put

module _ (n : ℕ) (l : Page) (bs : List ℕ) (threads : ℕ) (h : List ℕ) (from : ℕ) (whole : Page) (left : put_parts n l bs threads h from ≡ whole) where
  pub parts-end : n ≤ 0 → l ≡ whole
  unfolding put_parts
  parts-end z = let e : n ≡ 0 = omega arith in rw e at left

  -- what is put of a comparison at this place, and behind it
  abbrev put_at : ℕ → ℕ → Page
  put_at k at =
      option_map_or (λ (part : Part). put_parts k (put_compared l (take 11 (drop at bs)) threads part) bs threads h (at + 11)) (part_at bs h at) l

  module _ (k : ℕ) (more : n ≡ suc k) where
    one : put_parts n l bs threads h from ≡ option_map_or (put_at k) (next_from bs from) l
    unfolding put_parts
    one = rw more

    pub parts-none : None ≡ next_from bs from → l ≡ whole
    parts-none e = rw (one, ← e) at left

    module _ (at : ℕ) (there : Some at ≡ next_from bs from) where
      pub parts_out : None ≡ part_at bs h at → l ≡ whole
      parts_out e = rw (one, ← there, ← e) at left

      pub parts-on : (part : Part) (m : Page) → Some part ≡ part_at bs h at →
          m ≡ put_compared l (take (at + 11 - at) (drop at bs)) threads part → put_parts k m bs threads h (at + 11) ≡ whole
      parts-on part m p put =
          let e : at + 11 - at ≡ 11 = omega arith in
          rw (put, e) (rw (one, ← there, ← p) at left)
