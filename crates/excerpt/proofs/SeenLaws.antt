-- A byte as it is seen, and bytes one after the other. Assumes nothing.
--     seen-.., mapped-..           each test on a byte; bytes as they are seen, one by one
--     excerpt-is                   a line and a place in it
--     dots-.., line-whole, caret-whole, refused-whole     what is put, piece by piece
use Prim.Native.Nat.{ℕ, ◌+◌, ◌≤◌, ◌<◌}
use mathlib.Core.List.{List, [], ◌∷◌, ◌++◌, map}
use mathlib.Core.Bool.{Bool, true, false}
use mathlib.Core.Path.{◌≡◌, ap, sym, ◌∙◌}
use borrow.Author.Tests.{eq-eqb, ne_eqb, lt-ltb, le-ltb}
use lib.ListN.{length, get_or, drop, drop_of_length-le}
use Rattle.rules.specs.Token.{bytes_of}
use Rattle.token.specs.Places.{part}
use Rattle.put.specs.Puts.{last, Puts}
use Rattle.put.proofs.PutLaws.{byte_next, puts_none, puts-are}
use Rattle.saying.specs.Sayings.{place_shown, what_shown}
use Rattle.excerpt.specs.Excerpts.{excerpt_at, begin_of, rows_before, shown_length, place_from, token_before, first_shown, last_shown, seen_as, dots, line_shown, caret_shown, refused_shown}
use Rattle.excerpt.specs.declared.Excerpt.{Excerpt}

module _ (below : Bool) (b : ℕ) where
  pub seen-tab : b ≡ 9 → b ≡ seen_as below b
  seen-tab e = rw (eq-eqb _ _ e) e

  module _ (n : b ≡ 9 → ⊥) where
    pub seen_below : below ≡ true → 32 ≡ seen_as below b
    seen_below t = rw (ne_eqb _ _ n, t)

    module _ (f : below ≡ false) where
      pub seen_low : b < 32 → 63 ≡ seen_as below b
      seen_low h = rw (ne_eqb _ _ n, f, lt-ltb b 32 h)

      pub seen_last : 32 ≤ b → b ≡ 127 → 63 ≡ seen_as below b
      seen_last h e = rw (ne_eqb _ _ n, f, le-ltb b 32 h, eq-eqb _ _ e)

      pub seen_same : 32 ≤ b → (b ≡ 127 → ⊥) → b ≡ seen_as below b
      seen_same h k = rw (ne_eqb _ _ n, f, le-ltb b 32 h, ne_eqb _ _ k)

module _ (f : ℕ → ℕ) (bytes : List ℕ) (i : ℕ) where
  pub mapped_next : i < length bytes → (b : ℕ) → b ≡ f (get_or bytes i 0) → map f (drop i bytes) ≡ (b ∷ []) ++ map f (drop (i + 1) bytes)
  mapped_next h b e = ap (map f) (byte_next bytes i h) ∙ ap (λ (x : ℕ). x ∷ map f (drop (i + 1) bytes)) (sym e)

  pub mapped_end : length bytes ≤ i → map f (drop i bytes) ≡ []
  mapped_end h = rw (drop_of_length-le bytes {i = i} h)

-- dots

pub dots-none : (out : List ℕ) (to from end b : ℕ) → end ≤ from → to ≤ last → Puts out out to (dots from end b) to
dots-none out to from end b h k = puts-are out out to to [] (dots from end b) (sym (rw (le-ltb from end h))) (puts_none out to k)

pub dots-some : (out exit : List ℕ) (to r from end b : ℕ) → from < end → Puts out exit to (b ∷ b ∷ b ∷ []) r → Puts out exit to (dots from end b) r
dots-some out exit to r from end b h p = puts-are out exit to r (b ∷ b ∷ b ∷ []) (dots from end b) (sym (rw (lt-ltb from end h))) p

-- the whole line, and the caret below

module _ (text : List ℕ) (begin at from : ℕ) (first : from ≡ first_shown begin at) where
  pub line-whole : (end behind : ℕ) (seen : List ℕ) → behind ≡ last_shown from end → seen ≡ part from behind text
      → line_shown text begin at end ≡ (32 ∷ 32 ∷ []) ++ (dots begin from 46 ++ (map (seen_as false) seen ++ (dots behind end 46 ++ (10 ∷ []))))
  unfolding bytes_of
  line-whole end behind seen e f = rw (f, e, first)

  pub caret-whole : (seen : List ℕ) → seen ≡ part from at text
      → caret_shown text begin at ≡ (32 ∷ 32 ∷ []) ++ (dots begin from 32 ++ (map (seen_as true) seen ++ (94 ∷ 10 ∷ [])))
  unfolding bytes_of
  caret-whole seen f = rw (f, first)

pub excerpt-is : (text : List ℕ) (line column begin place end : ℕ) → begin ≡ begin_of line text → end ≡ begin + shown_length (drop begin text) → place ≡ place_from begin end column
    → record { begin = begin; place = place; end = end } ≡ excerpt_at text line column
excerpt-is text line column begin place end b e a = rw (a, e, b)

module _ (name text : List ℕ) (line column : ℕ) (shown : Excerpt) (row before : ℕ) where
  pub refused-whole : shown ≡ excerpt_at text line column → row ≡ rows_before line text → before ≡ token_before text shown.place (length text) shown.begin shown.begin
      → refused_shown name text line column
      ≡ place_shown name line column
      ++ (what_shown text row shown.begin before shown.place ++ (line_shown text shown.begin shown.place shown.end ++ caret_shown text shown.begin shown.place))
  refused-whole e r f = rw (f, r, e)
