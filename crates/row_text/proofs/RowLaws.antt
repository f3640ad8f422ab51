-- A row's line cut down to its words. Assumes nothing.
--     nothing_put           no bytes put
--     long-none, short-never, words-cut     a line that is too long, one that is too short, the words of any other
--     said-none, said-some  of a thread that no table has, and of one that there may be
use Prim.Native.Nat.{ℕ, ◌+◌, ◌-◌, ◌≤◌, ◌<◌}
use mathlib.Core.List.{List, [], ◌∷◌, ◌++◌, append_assoc}
use mathlib.Core.Path.{◌≡◌, refl, ap, ◌∙◌}
use native.Mathlib.Omega.{arith}
use native.Mathlib.Decide.{dec_le}
use borrow.Author.Tests.{le-leb, lt-leb, lt-ltb, le-ltb}
use lib.ListN.{length, get_or, take, drop, length-append}
use lib.Seq.{sets-eq, take_at}
use Rattle.rules.specs.Table.{Row, row_at, shape_of}
use Rattle.rules.specs.Form.{forms}
use Rattle.rules.specs.Writer.{form_in, form_shown, fields_of, row_shown}
use Rattle.put.specs.Puts.{last, up_to_last, Puts}
use Rattle.page.specs.Pages.{Page, put_text}
use Rattle.row_text.specs.Rows.{row_words, row_said}

pub nothing_put : (l : Page) (w : List ℕ) → w ≡ [] → l ≡ put_text l w
unfolding put_text
nothing_put l w e = rw e

abbrev words : Row → List ℕ
words r = form_shown (form_in r.opcode r.kind forms).words (fields_of r)

-- two blanks before the words and the line's end behind them
shown-is : (r : Row) → row_shown r ≡ 32 ∷ 32 ∷ (words r ++ (10 ∷ []))
unfolding row_shown
shown-is r = refl

shown-long : (r : Row) → length (row_shown r) ≡ length (words r) + 3
shown-long r = rw (shown-is r) (omega (arith, length-append (words r) (10 ∷ [])))

low : (n : ℕ) → up_to_last n ≤ 256 → up_to_last n ≡ n
low n h =
    elim (dec_le n last) [
      | yes k ↦ rw (le-leb n last k)
      | no k ↦ let e : up_to_last n ≡ last = rw (lt-leb n last (omega arith)) in absurd (omega arith)
    ]

module _ (r : Row) (entry exit : List ℕ) (to : ℕ) (puts : Puts entry exit 0 (row_shown r) to) where
  behind : to ≡ up_to_last (length (row_shown r))
  behind = let z : 0 + length (row_shown r) ≡ length (row_shown r) = omega arith in puts.behind ∙ ap up_to_last z

  pub long-none : 256 < to → row_words r ≡ []
  unfolding row_words
  long-none h = rw (lt-leb (length (row_shown r)) 256 long)
    where
      long : 256 < length (row_shown r)
      long =
          elim (dec_le (length (row_shown r)) 256) [
            | yes k ↦
                let e : up_to_last (length (row_shown r)) ≡ length (row_shown r) = rw (le-leb (length (row_shown r)) last (omega arith)) in
                absurd (omega (arith, behind))
            | no k ↦ omega arith
          ]

  is-long : to ≤ 256 → to ≡ length (words r) + 3
  is-long h = behind ∙ low (length (row_shown r)) (omega (arith, behind)) ∙ shown-long r

  pub short-never : to ≤ 256 → to ≤ 2 → ⊥
  short-never h k = omega (arith, is-long h)

  pub words-cut : length entry ≡ 256 → to ≤ 256 → take (to - 1 - 2) (drop 2 exit) ≡ row_words r
  unfolding row_words
  words-cut n h =
      let m = is-long h in
      let l = shown-long r in
      let fits : length (row_shown r) ≤ 256 = omega arith in
      let room : 0 + length (row_shown r) ≤ length entry = omega arith in
      let short : length (words r) ≡ to - 1 - 2 = omega arith in
      rw (le-leb (length (row_shown r)) 256 fits, puts.left, sets-eq (row_shown r) entry 0 room, shown-is r) (cut _ short)
    where
      cut : (rest : List ℕ) → length (words r) ≡ to - 1 - 2 → take (to - 1 - 2) ((words r ++ (10 ∷ [])) ++ rest) ≡ words r
      cut rest e = rw append_assoc (take_at (words r) ((10 ∷ []) ++ rest) (to - 1 - 2) e)

pub said-none : (table : List ℕ) (thread row : ℕ) → 5 ≤ thread → row_said table thread row ≡ []
unfolding row_said
said-none table thread row h = rw (le-ltb thread 5 h)

module _ (table : List ℕ) (thread row : ℕ) (shape : List ℕ) (t n cells plains first : ℕ) where
  pub said-some : t ≡ thread → t < 5 → shape ≡ shape_of table → cells ≡ get_or shape 1 0 → plains ≡ get_or shape 12 0 → first ≡ get_or shape (7 + t) 0 → n ≡ row →
      row_words (row_at table (cells + plains) (first + n)) ≡ row_said table thread row
  unfolding row_said
  said-some e h s c p f m = let k : thread < 5 = omega arith in rw (lt-ltb thread 5 k, c, p, f, m, s, e)
