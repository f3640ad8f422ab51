-- The forms tried one after the other, from a text of which each line is one. Assumes nothing.
--     Trying                          a line that was tried with the forms before a place
--     trying-none, trying-next        none yet, and one that did not fit
--     tried-fits, trying-all          one that fits, and none left
use Prim.Native.Nat.{ℕ, suc, ◌+◌, ◌-◌, ◌≤◌, ◌<◌, max}
use mathlib.Core.List.{List, [], ◌∷◌, ◌++◌}
use mathlib.Core.Bool.{Bool, true, false, true≢false, cond, not, ◌&&◌, and-eq-true_iff}
use mathlib.Core.Path.{◌≡◌, refl, ap, sym, ◌∙◌}
use native.Mathlib.Omega.{arith}
use native.Mathlib.Decide.{dec_lt}
use borrow.Author.Tests.{lt-ltb, le-ltb}
use lib.Dec.{ltb, eqb}
use Rattle.std.proofs.lemmas.Bool.Decides.{nat_tests}
use lib.ListN.{length, get_or, take, drop, length-drop, length-append, drop_of_length-le}
use lib.Seq.{drop-drop, get_or-drop, drop-append-add, take-append_seam}
use Rattle.rules.specs.Table.{Room}
use Rattle.rules.specs.Token.{line_feed, line_length, past_blanks, bytes_of}
use Rattle.rules.specs.Form.{Form, forms, Followed, stuck, fits, follow, most_words, blank_fields, further, tried, row_in}
use Rattle.token.specs.Places.{part, Between}
use Rattle.token.proofs.PlaceLaws.{left_by}
use Rattle.form.specs.Lines.{coded}

-- Lines

-- no line feed among a form's words
unfoldable pub has_none : List ℕ → Bool
has_none [] = true
has_none (b ∷ bs) = not (eqb b line_feed) && has_none bs

unfoldable pub plain : List Form → Bool
plain [] = true
plain (f ∷ fs) = has_none f.words && plain fs

line-long : (ws bs : List ℕ) → has_none ws ≡ true → line_length (ws ++ (line_feed ∷ bs)) ≡ length ws + 1
unfolding has_none line_length
line-long [] bs p = refl
line-long (w ∷ ws) bs p =
    let both = (and-eq-true_iff (not (eqb w line_feed)) (has_none ws)).0 p in
    let rest = line-long ws bs both.1 in
    (elim (eqb w line_feed) as (λ t. not t ≡ true → cond t 1 (suc (line_length (ws ++ (line_feed ∷ bs)))) ≡ suc (length ws) + 1) [
      | true ↦ λ e. absurd (true≢false (sym e))
      | false ↦ λ e. omega arith
    ]) both.0

-- A form's line in what is left of the text of all forms

module _ (f : Form) (fs : List Form) (codes : List ℕ) (from : ℕ) (left : drop from codes ≡ coded (f ∷ fs)) where
  long : length f.words + 3 ≤ length (drop from codes)
  unfolding coded
  long = rw left (omega (arith, length-append f.words (line_feed ∷ coded fs)))

  pub two-there : from + 1 < length codes
  two-there = omega (arith, long, length-drop from codes)

  pub opcode-there : get_or codes from 0 ≡ f.opcode
  unfolding coded
  opcode-there = let e : from + 0 ≡ from = omega arith in ap (λ (i : ℕ). get_or codes i 0) (sym e) ∙ sym (get_or-drop from codes 0 0) ∙ (rw left)

  pub kind-there : get_or codes (from + 1) 0 ≡ f.kind
  unfolding coded
  kind-there = sym (get_or-drop from codes 1 0) ∙ (rw left)

  words_left : drop (from + 2) codes ≡ f.words ++ (line_feed ∷ coded fs)
  unfolding coded
  words_left = sym (drop-drop 2 from codes) ∙ (rw left)

  module _ (none : has_none f.words ≡ true) (to : ℕ) (ends : to ≡ (from + 2) + line_length (drop (from + 2) codes)) where
    to_is : to ≡ from + 2 + length f.words + 1
    to_is = ends ∙ (omega (arith, ap line_length words_left ∙ line-long f.words (coded fs) none))

    pub words-there : part (from + 2) (to - 1) codes ≡ f.words
    words-there =
        let e : to - 1 - (from + 2) ≡ length f.words = omega (arith, to_is) in
        ap (λ (n : ℕ). take n (drop (from + 2) codes)) e ∙ (rw words_left (take-append_seam f.words (line_feed ∷ coded fs)))

    pub next-there : drop to codes ≡ coded fs
    next-there =
        let e : to ≡ from + 2 + (length f.words + 1) = omega (arith, to_is) in
        left_by codes (from + 2) to (length f.words + 1) e
        ∙ ap (drop (length f.words + 1)) words_left
        ∙ drop-append-add f.words (line_feed ∷ coded fs) 1

    pub past_two : from + 2 < to
    past_two = omega (arith, to_is)

-- Tries

-- a form's words and fields, as they were found
pub by-these : (room : Room) (f : Form) (words blank bs : List ℕ) (opcode kind : ℕ) {x : Followed} → x ≡ follow most_words room words blank bs → words ≡ f.words
    → blank ≡ opcode ∷ 0 ∷ 0 ∷ 0 ∷ kind ∷ 0 ∷ 0 ∷ 0 ∷ 0 ∷ [] → opcode ≡ f.opcode → kind ≡ f.kind
    → x ≡ follow most_words room f.words (blank_fields f) bs
by-these room f words blank bs opcode kind e w b o k = e ∙ (rw (w, b, o, k))

abbrev or-on : Room → List Form → List ℕ → List ℕ → Followed → Followed
or-on room fs best bs x = elim x [ stuck rest ↦ tried room fs (further best rest) bs | fits fields rest ↦ fits fields rest ]

tried-next : (room : Room) (f : Form) (fs : List Form) (best bs : List ℕ) → tried room (f ∷ fs) best bs ≡ or-on room fs best bs (follow most_words room f.words (blank_fields f) bs)
unfolding tried
tried-next room f fs best bs = refl

pub further_max : (one other : ℕ) → max one other ≡ cond (ltb one other) other one
further_max one other = grind (arith, nat_tests)

-- the place that lies further on, of two behind one place
pub further-there : (text : List ℕ) (at one other : ℕ) → Between text at one → Between text at other → drop (cond (ltb one other) other one) text ≡ further (drop one text) (drop other text)
further-there text at one other p q =
    elim (dec_lt one other) [
      | yes h ↦
          let less : length (drop other text) < length (drop one text) = elim (dec_lt (length text) at) [
            | yes past ↦ absurd (omega (arith, p.past (omega arith), q.past (omega arith)))
            | no in-it ↦ omega (arith, q.within (omega arith), length-drop one text, length-drop other text)
          ] in
          rw (lt-ltb one other h, lt-ltb (length (drop other text)) (length (drop one text)) less)
      | no h ↦ rw (le-ltb one other (omega arith), le-ltb (length (drop other text)) (length (drop one text)) (omega (arith, length-drop one text, length-drop other text)))
    ]

pub further-between : (text : List ℕ) (at one other : ℕ) → Between text at one → Between text at other → Between text at (cond (ltb one other) other one)
further-between text at one other p q = elim (ltb one other) as (λ t. Between text at (cond t other one)) [ true ↦ q | false ↦ p ]

-- a line at a place that was tried with the forms before another: those from there on are left, and the furthest place so far
pub record Trying (room : Room) (codes text : List ℕ) (at from best : ℕ) : Type 0 where
  pub rest : List Form
  pub left : drop from codes ≡ coded rest
  pub none : plain rest ≡ true
  pub so-far : tried room rest (drop best text) (drop at text) ≡ row_in room (drop at text)
  pub between : Between text at best

-- the next of them
pub record Next (room : Room) (codes text : List ℕ) (at from best : ℕ) : Type 0 where
  pub form : Form
  pub rest : List Form
  pub left : drop from codes ≡ coded (form ∷ rest)
  pub none : has_none form.words ≡ true
  pub nones : plain rest ≡ true
  pub so-far : tried room (form ∷ rest) (drop best text) (drop at text) ≡ row_in room (drop at text)
  pub between : Between text at best

module _ (room : Room) (codes text : List ℕ) (at : ℕ) where
  plain-forms : plain forms ≡ true
  unfolding plain has_none forms bytes_of
  plain-forms = refl

  pub trying-none : codes ≡ coded forms → (best : ℕ) → drop best text ≡ past_blanks (drop at text) → Between text at best → Trying room codes text at 0 best
  unfolding row_in
  trying-none e best s b = record { rest = forms; left = e; none = plain-forms; so-far = ap (λ (bs : List ℕ). tried room forms bs (drop at text)) s; between = b }

  module _ (from best : ℕ) where
    pub trying-all : length codes ≤ from → Trying room codes text at from best → stuck (drop best text) ≡ row_in room (drop at text)
    unfolding coded tried
    trying-all h t = over t.rest (sym (drop_of_length-le codes {i = from} h) ∙ t.left) t.so-far
      where
        over : (fs : List Form) → [] ≡ coded fs → tried room fs (drop best text) (drop at text) ≡ row_in room (drop at text) → stuck (drop best text) ≡ row_in room (drop at text)
        over [] e p = p
        over (f ∷ fs) e p = cc

    pub trying-next : from < length codes → Trying room codes text at from best → Next room codes text at from best
    unfolding coded plain
    trying-next h t = more t.rest t.left t.none t.so-far
      where
        more : (fs : List Form) → drop from codes ≡ coded fs → plain fs ≡ true → tried room fs (drop best text) (drop at text) ≡ row_in room (drop at text) → Next room codes text at from best
        more [] l n p = absurd (omega (arith, length-drop from codes, ap length l))
        more (f ∷ fs) l n p =
            let both = (and-eq-true_iff (has_none f.words) (plain fs)).0 n in
            record { form = f; rest = fs; left = l; none = both.0; nones = both.1; so-far = p; between = t.between }

    module _ (n : Next room codes text at from best) where
      pub tried-fits : (fields rest : List ℕ) → fits fields rest ≡ follow most_words room n.form.words (blank_fields n.form) (drop at text) → fits fields rest ≡ row_in room (drop at text)
      tried-fits fields rest e =
          ap (or-on room n.rest (drop best text) (drop at text)) e
          ∙ sym (tried-next room n.form n.rest (drop best text) (drop at text))
          ∙ n.so-far

      tried-furthest : (to here : ℕ) → to ≡ (from + 2) + line_length (drop (from + 2) codes) → stuck (drop here text) ≡ follow most_words room n.form.words (blank_fields n.form) (drop at text) → Between text at here
          → Trying room codes text at to (cond (ltb best here) here best)
      tried-furthest to here long e b = record {
        rest = n.rest;
        left = next-there n.form n.rest codes from n.left n.none to long;
        none = n.nones;
        so-far =
            ap (λ (bs : List ℕ). tried room n.rest bs (drop at text)) (further-there text at best here n.between b)
            ∙ ap (or-on room n.rest (drop best text) (drop at text)) e
            ∙ sym (tried-next room n.form n.rest (drop best text) (drop at text))
            ∙ n.so-far;
        between = further-between text at best here n.between b;
      }

      pub tried-on : (to here furthest : ℕ) → to ≡ (from + 2) + line_length (drop (from + 2) codes) → stuck (drop here text) ≡ follow most_words room n.form.words (blank_fields n.form) (drop at text) → Between text at here → furthest ≡ cond (ltb best here) here best
          → Trying room codes text at to furthest
      tried-on to here furthest long e b f = rw f (tried-furthest to here long e b)
