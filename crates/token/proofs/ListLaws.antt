-- A word in a list of words that is written as a line. Assumes nothing.
--     word-.., place-..        the word at a place of the list, and the place of a word in it
--     ..-out, ..-end           no word is left
--     ..-here, ..-on           the next word is this one, or another
use Prim.Native.Nat.{ℕ, suc, ◌+◌, ◌-◌, ◌≤◌, ◌<◌}
use mathlib.Core.List.{List, [], ◌∷◌}
use mathlib.Core.Bool.{Bool, true, false}
use mathlib.Core.Path.{◌≡◌, refl, ap, sym, ◌∙◌}
use native.Mathlib.Omega.{arith}
use borrow.Author.Tests.{eq-eqb, ne_eqb}
use lib.ListN.{length, get_or, drop, length-drop}
use Rattle.rules.specs.Vector.{equal}
use Rattle.rules.specs.Token.{run_length, ends_line, bytes_of, is_empty, past_blanks, token, past_token, token_length, Found, nothing, found, place_in}
use Rattle.rules.specs.Form.{orders}
use Rattle.rules.specs.Text.{symbols}
use Rattle.token.specs.Places.{part}
use Rattle.token.specs.Finds.{words_in}
use Rattle.token.proofs.PlaceLaws.{left_by, part-token}

-- what comes of the words from here on, past blanks
abbrev further : ℕ → List ℕ → Bool → List (List ℕ)
further n bs t = elim t [ true ↦ [] | false ↦ token bs ∷ words_in n (past_token bs) ]

further-next : (n : ℕ) (bs : List ℕ) → words_in (suc n) bs ≡ further n (past_blanks bs) (is_empty (past_blanks bs))
unfolding words_in
further-next n bs = refl

-- what comes of a word, where it is this one or another
abbrev or-on : ℕ → List ℕ → List (List ℕ) → Bool → Found
or-on i word ws t = elim t [ true ↦ found i | false ↦ place_in (i + 1) word ws ]

or-on-next : (i : ℕ) (word w : List ℕ) (ws : List (List ℕ)) → place_in i word (w ∷ ws) ≡ or-on i word ws (equal word w)
unfolding place_in
or-on-next i word w ws = refl

module _ (words : List ℕ) (from left at : ℕ) (skipped : drop at words ≡ past_blanks (drop from words)) (more : 0 < left) where
  one-more : (t : Bool) → is_empty (drop at words) ≡ t → further (left - 1) (drop at words) t ≡ words_in left (drop from words)
  one-more t e =
      let s : left ≡ suc (left - 1) = omega arith in
      ap (further (left - 1) (drop at words)) (sym e)
      ∙ ap (λ (bs : List ℕ). further (left - 1) bs (is_empty bs)) skipped
      ∙ sym (further-next (left - 1) (drop from words))
      ∙ ap (λ (n : ℕ). words_in n (drop from words)) (sym s)

  no_more : length words ≤ at → [] ≡ words_in left (drop from words)
  no_more h = one-more true (eq-eqb (length (drop at words)) 0 (omega (arith, length-drop at words)))

  pub word_end : (k : ℕ) → length words ≤ at → [] ≡ get_or (words_in left (drop from words)) k []
  word_end k h = ap (λ (ws : List (List ℕ)). get_or ws k []) (no_more h)

  module _ (to : ℕ) (h : at < length words) (long : to ≡ at + token_length (drop at words)) where
    next_word : part at to words ∷ words_in (left - 1) (drop to words) ≡ words_in left (drop from words)
    next_word =
        rw (part-token words at to long, left_by words at to _ long)
        (one-more false (ne_eqb _ _ (λ (z : length (drop at words) ≡ 0). omega (arith, length-drop at words))))

    word_next : (k j : ℕ) → k ≡ j → get_or (part at to words ∷ words_in (left - 1) (drop to words)) j [] ≡ get_or (words_in left (drop from words)) k []
    word_next k j e =
        ap (λ (n : ℕ). get_or (part at to words ∷ words_in (left - 1) (drop to words)) n []) (sym e)
        ∙ ap (λ (ws : List (List ℕ)). get_or ws k []) next_word

    pub word-here : (k : ℕ) → k ≡ 0 → part at to words ≡ get_or (words_in left (drop from words)) k []
    word-here k e = word_next k 0 e

    pub word_on : (k : ℕ) → (k ≡ 0 → ⊥) → get_or (words_in (left - 1) (drop to words)) (k - 1) [] ≡ get_or (words_in left (drop from words)) k []
    word_on k n = word_next k (suc (k - 1)) (omega arith)

pub word_out : (words : List ℕ) (from left k : ℕ) → left ≤ 0 → [] ≡ get_or (words_in left (drop from words)) k []
unfolding words_in
word_out words from left k h = let e : left ≡ 0 = omega arith in rw e

module _ (word words : List ℕ) (i from left : ℕ) where
  pub place_out : left ≤ 0 → nothing ≡ place_in i word (words_in left (drop from words))
  unfolding place_in words_in
  place_out h = let e : left ≡ 0 = omega arith in rw e

  module _ (at : ℕ) (skipped : drop at words ≡ past_blanks (drop from words)) (more : 0 < left) where
    pub place_end : length words ≤ at → nothing ≡ place_in i word (words_in left (drop from words))
    unfolding place_in
    place_end h = ap (place_in i word) (no_more words from left at skipped more h)

    module _ (to : ℕ) (h : at < length words) (long : to ≡ at + token_length (drop at words)) where
      place-next : (t : Bool) → equal word (part at to words) ≡ t → or-on i word (words_in (left - 1) (drop to words)) t ≡ place_in i word (words_in left (drop from words))
      place-next t e =
          ap (or-on i word (words_in (left - 1) (drop to words))) (sym e)
          ∙ sym (or-on-next i word (part at to words) (words_in (left - 1) (drop to words)))
          ∙ ap (place_in i word) (next_word words from left at skipped more to h long)

      pub place_here : equal word (part at to words) ≡ true → found i ≡ place_in i word (words_in left (drop from words))
      place_here e = place-next true e

      pub place-on : equal word (part at to words) ≡ false → place_in (i + 1) word (words_in (left - 1) (drop to words)) ≡ place_in i word (words_in left (drop from words))
      place-on e = place-next false e

pub orders-line : words_in 37 (bytes_of "relaxed release acquire acqrel seqcst") ≡ orders
unfolding words_in bytes_of run_length token_length ends_line
orders-line = refl

pub symbols-line : words_in 25 (bytes_of "= != < <= > >= ( ) and or") ≡ symbols
unfolding words_in bytes_of run_length token_length ends_line
symbols-line = refl
