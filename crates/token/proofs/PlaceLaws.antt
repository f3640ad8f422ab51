-- Places in a text and what is left there. Assumes nothing.
--     run-.., line-.., ends-..     a byte that lets a scan go on, one that ends it, the text's end
--     run-within, token-within, line-within    no scan goes past the end
--     between-.., left_by          a place behind another, and what is left there
--     content-..                   a line of nothing, and what is not
--     part-token                   a token as a part
--     same-words                   two words are equal in the definition where they are to `==`
use Prim.Native.Nat.{ℕ, suc, ◌+◌, ◌-◌, ◌≤◌, ◌<◌}
use mathlib.Core.List.{List, [], ◌∷◌}
use mathlib.Core.Bool.{Bool, true, false, true≢false, cond, not, ◌&&◌, ◌||◌}
use mathlib.Core.Path.{◌≡◌, refl, ap, sym, ◌∙◌}
use native.Mathlib.Numerals.{add-one}
use native.Mathlib.Omega.{arith}
use native.Mathlib.Decide.{dec_lt}
use borrow.Author.Tests.{eq-eqb, ne_eqb}
use lib.Dec.{eqb}
use lib.Pointwise.{pointwise}
use mathlib.Core.Logic.{◌⊎◌}
use Rattle.std.proofs.lemmas.Bool.Decides.{nat_tests}
use lib.ListN.{length, get_or, take, drop, length-drop, drop_of_length-le}
use lib.Seq.{drop-cons, get_or-drop, drop-drop}
use Rattle.rules.specs.Token.{run_length, ends_line, line_length, token_length, is_letter, is_symbol, is_empty, past_blanks, token, next_line, content, line_feed}
use Rattle.rules.specs.Vector.{equal}
use Rattle.token.specs.Places.{part, Between}

-- Scans

module _ (p : ℕ → Bool) (text : List ℕ) (at : ℕ) where
  pub run_past : length text ≤ at → run_length p (drop at text) ≡ 0
  unfolding run_length
  run_past h = rw (drop_of_length-le text {i = at} h)

  pub run_on : at < length text → p (get_or text at 0) ≡ true → run_length p (drop at text) ≡ suc (run_length p (drop (at + 1) text))
  unfolding run_length
  run_on h t = rw (add-one, drop-cons text at 0, t)

  pub run-stops : at < length text → p (get_or text at 0) ≡ false → run_length p (drop at text) ≡ 0
  unfolding run_length
  run-stops h t = rw (drop-cons text at 0, t)

pub run-within : (p : ℕ → Bool) (bs : List ℕ) → run_length p bs ≤ length bs
unfolding run_length
run-within p [] = omega arith
run-within p (b ∷ bs) =
    elim (p b) as (λ t. cond t (suc (run_length p bs)) 0 ≤ suc (length bs)) [ true ↦ omega (arith, run-within p bs) | false ↦ omega arith ]

module _ (text : List ℕ) (at : ℕ) where
  pub line-past : length text ≤ at → line_length (drop at text) ≡ 0
  unfolding line_length
  line-past h = rw (drop_of_length-le text {i = at} h)

  pub line_on : at < length text → (get_or text at 0 ≡ 10 → ⊥) → line_length (drop at text) ≡ suc (line_length (drop (at + 1) text))
  unfolding line_length
  line_on h n = rw (add-one, drop-cons text at 0, ne_eqb _ _ n)

  pub line-stops : at < length text → get_or text at 0 ≡ 10 → line_length (drop at text) ≡ 1
  unfolding line_length
  line-stops h e = rw (drop-cons text at 0, eq-eqb _ _ e)

pub line-within : (bs : List ℕ) → line_length bs ≤ length bs
unfolding line_length
line-within [] = omega arith
line-within (b ∷ bs) =
    elim (eqb b line_feed) as (λ t. cond t 1 (suc (line_length bs)) ≤ suc (length bs)) [ true ↦ omega arith | false ↦ omega (arith, line-within bs) ]

-- The line's end

module _ (text : List ℕ) (at : ℕ) where
  pub ends-past : length text ≤ at → ends_line (drop at text) ≡ true
  unfolding ends_line
  ends-past h = rw (drop_of_length-le text {i = at} h)

  module _ (h : at < length text) where
    ends_at : ends_line (drop at text) ≡ eqb (get_or text at 0) 10 || eqb (get_or text at 0) 35 || (eqb (get_or text at 0) 13 && eqb (get_or text (at + 1) 0) 10)
    unfolding ends_line
    ends_at =
        let e : suc at + 0 ≡ at + 1 = omega arith in
        let next : get_or (drop (suc at) text) 0 0 ≡ get_or text (at + 1) 0 = get_or-drop (suc at) text 0 0 ∙ ap (λ (i : ℕ). get_or text i 0) e in
        rw (drop-cons text at 0, next)

    pub ends_here : (get_or text at 0 ≡ 10) ⊎ (get_or text at 0 ≡ 35) → ends_line (drop at text) ≡ true
    ends_here e = rw ends_at (grind (arith, nat_tests))

    pub ends-not : (get_or text at 0 ≡ 10 → ⊥) → (get_or text at 0 ≡ 35 → ⊥) → (get_or text at 0 ≡ 13 → ⊥) → ends_line (drop at text) ≡ false
    ends-not n m k = ends_at ∙ (simp (ne_eqb _ _ n, ne_eqb _ _ m, ne_eqb _ _ k))

    pub ends_return : get_or text at 0 ≡ 13 → ends_line (drop at text) ≡ eqb (get_or text (at + 1) 0) 10
    ends_return e = rw ends_at (simp e)

  pub ends-within : ends_line (drop at text) ≡ false → at < length text
  ends-within f =
      elim (dec_lt at (length text)) [ yes h ↦ h | no h ↦ absurd (true≢false (sym (ends-past (omega arith)) ∙ f)) ]

-- Tokens

module _ (text : List ℕ) (at : ℕ) where
  pub token-none : ends_line (drop at text) ≡ true → token_length (drop at text) ≡ 0
  unfolding token_length
  token-none e = rw e

  module _ (e : ends_line (drop at text) ≡ false) where
    first : get_or (drop at text) 0 0 ≡ get_or text at 0
    first = let z : at + 0 ≡ at = omega arith in get_or-drop at text 0 0 ∙ ap (λ (i : ℕ). get_or text i 0) z

    pub token-word : is_letter (get_or text at 0) ≡ true → token_length (drop at text) ≡ run_length is_letter (drop at text)
    unfolding token_length
    token-word t = rw (e, first, t)

    pub token-sign : is_letter (get_or text at 0) ≡ false → is_symbol (get_or text at 0) ≡ true → token_length (drop at text) ≡ run_length is_symbol (drop at text)
    unfolding token_length
    token-sign f t = rw (e, first, f, t)

    pub token-byte : is_letter (get_or text at 0) ≡ false → is_symbol (get_or text at 0) ≡ false → token_length (drop at text) ≡ 1
    unfolding token_length
    token-byte f t = rw (e, first, f, t)

pub token-within : (bs : List ℕ) → token_length bs ≤ length bs
unfolding token_length ends_line
token-within [] = omega arith
token-within (b ∷ bs) =
    let word = run-within is_letter (b ∷ bs) in
    let sign = run-within is_symbol (b ∷ bs) in
    elim (ends_line (b ∷ bs)) as (λ t. cond t 0 (cond (is_letter b) (run_length is_letter (b ∷ bs)) (cond (is_symbol b) (run_length is_symbol (b ∷ bs)) 1)) ≤ suc (length bs)) [
      | true ↦ omega arith
      | false ↦
          elim (is_letter b) as (λ t. cond t (run_length is_letter (b ∷ bs)) (cond (is_symbol b) (run_length is_symbol (b ∷ bs)) 1) ≤ suc (length bs)) [
            | true ↦ word
            | false ↦ elim (is_symbol b) as (λ t. cond t (run_length is_symbol (b ∷ bs)) 1 ≤ suc (length bs)) [ true ↦ sign | false ↦ omega arith ]
          ]
    ]

-- A place behind another

pub between-here : (text : List ℕ) (at : ℕ) → Between text at at
between-here text at = record { further = omega arith; within = λ h. h; past = λ h. refl }

pub between-on : (text : List ℕ) (at to r : ℕ) → Between text at to → Between text to r → Between text at r
between-on text at to r b c = record {
  further = omega (arith, b.further, c.further);
  within = λ h. c.within (b.within h);
  past = λ h. c.past (omega (arith, b.past h)) ∙ b.past h;
}

-- by the length of something that is left there
pub between-by : (text : List ℕ) (at n : ℕ) → n ≤ length (drop at text) → Between text at (at + n)
between-by text at n l =
    let long = length-drop at text in
    record { further = omega arith; within = λ h. omega arith; past = λ h. omega arith }

module _ (text : List ℕ) (at r : ℕ) where
  pub between_run : (p : ℕ → Bool) → r ≡ at + run_length p (drop at text) → Between text at r
  between_run p e = rw e (between-by text at _ (run-within p (drop at text)))

  pub between-line : r ≡ at + line_length (drop at text) → Between text at r
  between-line e = rw e (between-by text at _ (line-within (drop at text)))

  pub between-token : r ≡ at + token_length (drop at text) → Between text at r
  between-token e = rw e (between-by text at _ (token-within (drop at text)))

  -- what is left there
  pub left_by : (n : ℕ) → r ≡ at + n → drop r text ≡ drop n (drop at text)
  left_by n e = ap (λ (i : ℕ). drop i text) e ∙ sym (drop-drop n at text)

-- Content

-- what comes of a line, past its blanks, where it has a token or not
abbrev onward : ℕ → List ℕ → Bool → List ℕ
onward n bs t = elim t [ true ↦ bs | false ↦ content n (next_line bs) ]

onward-next : (n : ℕ) (bs : List ℕ) → content (suc n) bs ≡ onward n (past_blanks bs) (is_empty (past_blanks bs) || not (ends_line (past_blanks bs)))
unfolding content
onward-next n bs = refl

module _ (text : List ℕ) (from left to : ℕ) (skipped : drop to text ≡ past_blanks (drop from text)) where
  pub content-out : left ≤ 0 → drop to text ≡ content left (drop from text)
  unfolding content
  content-out h = let e : left ≡ 0 = omega arith in rw e skipped

  module _ (more : 0 < left) where
    one-more : (t : Bool) → is_empty (drop to text) || not (ends_line (drop to text)) ≡ t → onward (left - 1) (drop to text) t ≡ content left (drop from text)
    one-more t e =
        let s : left ≡ suc (left - 1) = omega arith in
        ap (onward (left - 1) (drop to text)) (sym e)
        ∙ ap (λ (bs : List ℕ). onward (left - 1) bs (is_empty bs || not (ends_line bs))) skipped
        ∙ sym (onward-next (left - 1) (drop from text))
        ∙ ap (λ (n : ℕ). content n (drop from text)) (sym s)

    pub content-end : length text ≤ to → drop to text ≡ content left (drop from text)
    content-end h = one-more true (rw (drop_of_length-le text {i = to} h))

    pub content-here : ends_line (drop to text) ≡ false → drop to text ≡ content left (drop from text)
    content-here e = one-more true (rw e (elim (is_empty (drop to text)) as (λ t. t || true ≡ true) [ true ↦ refl | false ↦ refl ]))

    pub content-on : to < length text → ends_line (drop to text) ≡ true → content (left - 1) (next_line (drop to text)) ≡ content left (drop from text)
    content-on h e =
        let some : is_empty (drop to text) ≡ false = ne_eqb _ _ (λ (z : length (drop to text) ≡ 0). omega (arith, length-drop to text)) in
        one-more false (rw (some, e))

-- Parts

module _ (text : List ℕ) (from to : ℕ) where
  -- the token that stands at a place
  pub part-token : to ≡ from + token_length (drop from text) → part from to text ≡ token (drop from text)
  part-token h = let e : to - from ≡ token_length (drop from text) = omega arith in ap (λ (n : ℕ). take n (drop from text)) e

-- Words

-- `==` of slices is the definition's
pub same-words : (xs ys : List ℕ) → pointwise eqb xs ys ≡ equal xs ys
unfolding equal pointwise
same-words [] [] = refl
same-words [] (y ∷ ys) = refl
same-words (x ∷ xs) [] = refl
same-words (x ∷ xs) (y ∷ ys) = ap (λ (t : Bool). eqb x y && t) (same-words xs ys)
