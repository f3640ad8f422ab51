-- Counts of lines, and the place behind bytes. Assumes nothing.
use Prim.Native.Nat.{ℕ, suc, ◌+◌, ◌-◌, ◌≤◌, ◌<◌}
use mathlib.Core.List.{List, [], ◌∷◌}
use mathlib.Core.Bool.{Bool, true, false, cond, not, ◌||◌}
use mathlib.Core.Path.{◌≡◌, refl, ap, sym, ◌∙◌}
use native.Mathlib.Omega.{arith}
use native.Mathlib.Decide.{dec_lt}
use Prim.Native.String.{String}
use native.Mathlib.Numerals.{add-one}
use borrow.Author.Tests.{eq-eqb, ne_eqb}
use lib.Dec.{eqb}
use mir.Val.{bool_byte}
use lib.ListN.{length, get_or, take, drop, length-take, length-drop, drop_of_length-le}
use lib.Seq.{drop-cons, get_or-take, take_all}
use Rattle.rules.specs.Vector.{equal}
use Rattle.rules.specs.Token.{bytes_of, is_empty, ends_line, past_blanks, token, next_line, token_length}
use Rattle.rules.specs.Text as rules
use Rattle.rules.specs.Text.{rows_ahead, threads_ahead, place_behind, says, is_bare}
use Rattle.token.specs.Places.{part}
use Rattle.token.proofs.PlaceLaws.{part-token}
use Rattle.ahead.specs.Counts.{LinesCounted, Behind, row_here, thread_here}
use Rattle.ahead.specs.declared.Place.{Place}

or-true : (t : Bool) → t || true ≡ true
or-true true = refl
or-true false = refl

-- whether the word between two places is this one
abbrev pub is : String → ℕ → ℕ → List ℕ → Bool
is word at to text = equal (part at to text) (bytes_of word)

-- what comes of a line, past its blanks
abbrev rows_then : ℕ → List ℕ → Bool → ℕ
rows_then n bs t = elim t [ true ↦ 0 | false ↦ row_here bs + rows_ahead n (next_line bs) ]

rows_next : (n : ℕ) (bs : List ℕ) → rows_ahead (suc n) bs ≡ rows_then n (past_blanks bs) (is_empty (past_blanks bs) || equal (token (past_blanks bs)) (bytes_of "thread") || equal (token (past_blanks bs)) (bytes_of "finally"))
unfolding rows_ahead
rows_next n bs = refl

rows-zero : (bs : List ℕ) → rows_ahead 0 bs ≡ 0
unfolding rows_ahead
rows-zero bs = refl

abbrev threads_then : ℕ → List ℕ → Bool → ℕ
threads_then n bs t = elim t [ true ↦ 0 | false ↦ cond (equal (token bs) (bytes_of "thread")) 1 0 + threads_ahead n (next_line bs) ]

threads-next : (n : ℕ) (bs : List ℕ) → threads_ahead (suc n) bs ≡ threads_then n (past_blanks bs) (is_empty (past_blanks bs) || equal (token (past_blanks bs)) (bytes_of "finally"))
unfolding threads_ahead
threads-next n bs = refl

threads-zero : (bs : List ℕ) → threads_ahead 0 bs ≡ 0
unfolding threads_ahead
threads-zero bs = refl

module _ (text : List ℕ) (from left : ℕ) where
  pub rows_out : left ≤ 0 → rows_ahead left (drop from text) ≡ 0
  rows_out h = let e : left ≡ 0 = omega arith in ap (λ (n : ℕ). rows_ahead n (drop from text)) e ∙ rows-zero (drop from text)

  pub threads-out : left ≤ 0 → threads_ahead left (drop from text) ≡ 0
  threads-out h = let e : left ≡ 0 = omega arith in ap (λ (n : ℕ). threads_ahead n (drop from text)) e ∙ threads-zero (drop from text)

  module _ (here to : ℕ) (skipped : drop here text ≡ past_blanks (drop from text)) (long : to ≡ here + token_length (drop here text)) (more : 0 < left) where
    word : token (drop here text) ≡ part here to text
    word = sym (part-token text here to long)

    rows-one : (t : Bool) → is_empty (drop here text) || is "thread" here to text || is "finally" here to text ≡ t → rows_ahead left (drop from text) ≡ rows_then (left - 1) (drop here text) t
    rows-one t e =
        let s : left ≡ suc (left - 1) = omega arith in
        ap (λ (n : ℕ). rows_ahead n (drop from text)) s
        ∙ rows_next (left - 1) (drop from text)
        ∙ ap (λ (bs : List ℕ). rows_then (left - 1) bs (is_empty bs || equal (token bs) (bytes_of "thread") || equal (token bs) (bytes_of "finally"))) (sym skipped)
        ∙ ap (λ (w : List ℕ). rows_then (left - 1) (drop here text) (is_empty (drop here text) || equal w (bytes_of "thread") || equal w (bytes_of "finally"))) word
        ∙ ap (rows_then (left - 1) (drop here text)) e

    threads-one : (t : Bool) → is_empty (drop here text) || is "finally" here to text ≡ t → threads_ahead left (drop from text) ≡ threads_then (left - 1) (drop here text) t
    threads-one t e =
        let s : left ≡ suc (left - 1) = omega arith in
        ap (λ (n : ℕ). threads_ahead n (drop from text)) s
        ∙ threads-next (left - 1) (drop from text)
        ∙ ap (λ (bs : List ℕ). threads_then (left - 1) bs (is_empty bs || equal (token bs) (bytes_of "finally"))) (sym skipped)
        ∙ ap (λ (w : List ℕ). threads_then (left - 1) (drop here text) (is_empty (drop here text) || equal w (bytes_of "finally"))) word
        ∙ ap (threads_then (left - 1) (drop here text)) e

    none : length text ≤ here → is_empty (drop here text) ≡ true
    none h = eq-eqb (length (drop here text)) 0 (omega (arith, length-drop here text))

    pub rows_end : length text ≤ here → rows_ahead left (drop from text) ≡ 0
    rows_end h = rows-one true (ap (λ (t : Bool). t || is "thread" here to text || is "finally" here to text) (none h))

    pub threads_end : length text ≤ here → threads_ahead left (drop from text) ≡ 0
    threads_end h = threads-one true (ap (λ (t : Bool). t || is "finally" here to text) (none h))

    module _ (inside : here < length text) where
      some : is_empty (drop here text) ≡ false
      some = ne_eqb _ _ (λ (z : length (drop here text) ≡ 0). omega (arith, length-drop here text))

      pub rows-thread : is "thread" here to text ≡ true → rows_ahead left (drop from text) ≡ 0
      rows-thread e =
          rows-one true
          (ap (λ (t : Bool). is_empty (drop here text) || t || is "finally" here to text) e
          ∙ ap (λ (t : Bool). t || is "finally" here to text) (or-true (is_empty (drop here text))))

      pub rows-finally : is "finally" here to text ≡ true → rows_ahead left (drop from text) ≡ 0
      rows-finally e =
          rows-one true
          (ap (λ (t : Bool). is_empty (drop here text) || is "thread" here to text || t) e ∙ or-true (is_empty (drop here text) || is "thread" here to text))

      pub threads-finally : is "finally" here to text ≡ true → threads_ahead left (drop from text) ≡ 0
      threads-finally e = threads-one true (ap (λ (t : Bool). is_empty (drop here text) || t) e ∙ or-true (is_empty (drop here text)))

      module _ (next : ℕ) (onward : drop next text ≡ next_line (drop here text)) where
        pub rows_on : is "thread" here to text ≡ false → is "finally" here to text ≡ false
            → rows_ahead left (drop from text) ≡ row_here (drop here text) + rows_ahead (left - 1) (drop next text)
        rows_on t f =
            rows-one false
            (ap (λ (b : Bool). b || is "thread" here to text || is "finally" here to text) some
            ∙ ap (λ (b : Bool). b || is "finally" here to text) t
            ∙ f)
            ∙ ap (λ (bs : List ℕ). row_here (drop here text) + rows_ahead (left - 1) bs) (sym onward)

        pub threads-on : is "finally" here to text ≡ false
            → threads_ahead left (drop from text) ≡ thread_here here to text + threads_ahead (left - 1) (drop next text)
        threads-on f =
            threads-one false (ap (λ (b : Bool). b || is "finally" here to text) some ∙ f)
            ∙ ap (λ (w : List ℕ). cond (equal w (bytes_of "thread")) 1 0 + threads_ahead (left - 1) (next_line (drop here text))) word
            ∙ ap (λ (bs : List ℕ). thread_here here to text + threads_ahead (left - 1) bs) (sym onward)

-- The words that are looked for

pub thread-bytes : bytes_of "thread" ≡ 116 ∷ 104 ∷ 114 ∷ 101 ∷ 97 ∷ 100 ∷ []
unfolding bytes_of
thread-bytes = refl

pub finally-bytes : bytes_of "finally" ≡ 102 ∷ 105 ∷ 110 ∷ 97 ∷ 108 ∷ 108 ∷ 121 ∷ []
unfolding bytes_of
finally-bytes = refl

-- a test's answer
pub says-thread : (text : List ℕ) (at to : ℕ) (r : Bool) → r ≡ equal (part at to text) (116 ∷ 104 ∷ 114 ∷ 101 ∷ 97 ∷ 100 ∷ []) → (t : Bool) → r ≡ t → is "thread" at to text ≡ t
says-thread text at to r e t h = ap (equal (part at to text)) thread-bytes ∙ sym e ∙ h

pub says-finally : (text : List ℕ) (at to : ℕ) (r : Bool) → r ≡ equal (part at to text) (102 ∷ 105 ∷ 110 ∷ 97 ∷ 108 ∷ 108 ∷ 121 ∷ []) → (t : Bool) → r ≡ t → is "finally" at to text ≡ t
says-finally text at to r e t h = ap (equal (part at to text)) finally-bytes ∙ sym e ∙ h

count-low : (t : Bool) → bool_byte t ≤ 1
count-low true = omega arith
count-low false = omega arith

count-not : (t : Bool) → bool_byte (not t) ≡ cond t 0 1
count-not true = refl
count-not false = refl

count-is : (t : Bool) → bool_byte t ≡ cond t 1 0
count-is true = refl
count-is false = refl

pub row-counted : (bs : List ℕ) (r : ℕ) (t : Bool) → r ≡ bool_byte (not t) → t ≡ ends_line bs → LinesCounted r 1 (row_here bs)
row-counted bs r t e h = record { is = e ∙ count-not t ∙ ap (λ (b : Bool). cond b 0 1) h; most = omega (arith, e, count-low (not t)) }

pub thread-counted : (text : List ℕ) (at to : ℕ) (r : ℕ) (t : Bool) → r ≡ bool_byte t → t ≡ is "thread" at to text → LinesCounted r 1 (thread_here at to text)
thread-counted text at to r t e h = record { is = e ∙ count-is t ∙ ap (λ (b : Bool). cond b 1 0) h; most = omega (arith, e, count-low t) }

-- Places

abbrev behind_then : ℕ → ℕ → List ℕ → Bool → rules.Place
behind_then line column bs t = elim t [ true ↦ place_behind (line + 1) 1 bs | false ↦ place_behind line (column + 1) bs ]

place-next : (line column b : ℕ) (bs : List ℕ) → place_behind line column (b ∷ bs) ≡ behind_then line column bs (eqb b 10)
unfolding place_behind
place-next line column b bs = refl

pub place_none : (line column : ℕ) → place_behind line column [] ≡ record { line = line; column = column }
unfolding place_behind
place_none line column = refl

pub behind-feed : (line column b : ℕ) → b ≡ 10 → Behind line column b (record { line = line + 1; column = 1 })
behind-feed line column b e = record {
  is = λ bs. sym (place-next line column b bs ∙ ap (behind_then line column bs) (eq-eqb b 10 e));
  low = omega arith;
  near = omega arith;
}

pub behind-on : (line column b : ℕ) → (b ≡ 10 → ⊥) → Behind line column b (record { line = line; column = column + 1 })
behind-on line column b n = record {
  is = λ bs. sym (place-next line column b bs ∙ ap (behind_then line column bs) (ne_eqb b 10 n));
  low = omega arith;
  near = omega arith;
}

-- a place on the way: what lies between it and the end is still to be passed
module _ (bytes : List ℕ) (line column i : ℕ) where
  pub way_on : (p : Place) → i < length bytes → Behind line column (get_or bytes i 0) p → place_behind p.line p.column (drop (i + 1) bytes) ≡ place_behind line column (drop i bytes)
  way_on p l b =
      b.is (drop (i + 1) bytes)
      ∙ ap (λ (n : ℕ). place_behind line column (get_or bytes i 0 ∷ drop n bytes)) (add-one i)
      ∙ ap (place_behind line column) (sym (drop-cons bytes i 0 l))

  pub way_end : length bytes ≤ i → record { line = line; column = column } ≡ place_behind line column (drop i bytes)
  way_end h = sym (ap (place_behind line column) (drop_of_length-le bytes {i = i} h) ∙ place_none line column)

-- the bytes before a place
pub before-is : (text : List ℕ) (at : ℕ) → take (length text - length (drop at text)) text ≡ take at text
before-is text at =
    let d = length-drop at text in
    elim (dec_lt at (length text)) [
      | yes h ↦ let e : length text - length (drop at text) ≡ at = omega arith in ap (λ (n : ℕ). take n text) e
      | no h ↦
          let e : length text - length (drop at text) ≡ length text = omega arith in
          ap (λ (n : ℕ). take n text) e ∙ take_all (length text) text (omega arith) ∙ sym (take_all at text (omega arith))
    ]
