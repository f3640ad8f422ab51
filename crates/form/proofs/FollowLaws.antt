-- A form followed along a line. Assumes nothing.
--     follow-out, follow-ended      as many words as no form has; no word is left
--     follow-stuck, follow-on       a word that does not fit, and one that does
use Prim.Native.Nat.{ℕ, suc, ◌+◌, ◌-◌, ◌≤◌, ◌<◌}
use mathlib.Core.List.{List}
use mathlib.Core.Bool.{Bool, true, false, cond}
use mathlib.Core.Path.{◌≡◌, refl, ap, sym, ◌∙◌}
use native.Mathlib.Omega.{arith}
use borrow.Author.Tests.{eq-eqb, ne_eqb}
use lib.ListN.{length, drop, length-drop}
use Rattle.rules.specs.Table.{Room}
use Rattle.rules.specs.Token.{is_empty, ends_line, past_blanks, token, past_token, next_line, token_length, Found, nothing, found}
use Rattle.rules.specs.Form.{value_of, with_field, Followed, stuck, fits, follow}
use Rattle.token.specs.Places.{part}
use Rattle.token.proofs.PlaceLaws.{left_by, part-token}

-- past the last word
abbrev pub ended : List ℕ → List ℕ → Followed
ended fields bs = cond (ends_line bs) (fits fields (next_line bs)) (stuck bs)

module _ (room : Room) (fields : List ℕ) where
  -- what comes of a word, by what it stands for
  abbrev onward : ℕ → List ℕ → List ℕ → Found → Followed
  onward n words bs x =
      elim x [ nothing ↦ stuck bs | found v ↦ follow n room (past_token words) (with_field fields (token words) v) (past_token bs) ]

  -- what comes of a line, past blanks, where a word is left or not
  abbrev forward : ℕ → List ℕ → List ℕ → Bool → Followed
  forward n words bs t = elim t [ true ↦ ended fields bs | false ↦ onward n words bs (value_of room (token words) (token bs)) ]

  forward-next : (n : ℕ) (words bs : List ℕ) → follow (suc n) room words fields bs ≡ forward n (past_blanks words) (past_blanks bs) (is_empty (past_blanks words))
  unfolding follow
  forward-next n words bs = refl

  pub follow-out : (words text : List ℕ) (to left here : ℕ) → drop here text ≡ past_blanks (drop to text) → left ≤ 0 → stuck (drop here text) ≡ follow left room words fields (drop to text)
  unfolding follow
  follow-out words text to left here left-text h = let e : left ≡ 0 = omega arith in rw (e, left-text)

  module _ (words text : List ℕ) (from to left start here : ℕ) (left-words : drop start words ≡ past_blanks (drop from words)) (left-text : drop here text ≡ past_blanks (drop to text)) where
    module _ (more : 0 < left) where
      one-more : (t : Bool) → is_empty (drop start words) ≡ t → forward (left - 1) (drop start words) (drop here text) t ≡ follow left room (drop from words) fields (drop to text)
      one-more t e =
          let s : left ≡ suc (left - 1) = omega arith in
          ap (forward (left - 1) (drop start words) (drop here text)) (sym e)
          ∙ ap (λ (ws : List ℕ). forward (left - 1) ws (drop here text) (is_empty ws)) left-words
          ∙ ap (λ (bs : List ℕ). forward (left - 1) (past_blanks (drop from words)) bs (is_empty (past_blanks (drop from words)))) left-text
          ∙ sym (forward-next (left - 1) (drop from words) (drop to text))
          ∙ ap (λ (n : ℕ). follow n room (drop from words) fields (drop to text)) (sym s)

      pub follow-ended : length words ≤ start → ended fields (drop here text) ≡ follow left room (drop from words) fields (drop to text)
      follow-ended h = one-more true (eq-eqb (length (drop start words)) 0 (omega (arith, length-drop start words)))

      module _ (h : start < length words) (word_end text-end : ℕ) (long : word_end ≡ start + token_length (drop start words)) (wide : text-end ≡ here + token_length (drop here text)) where
        a_word : (x : Found) → value_of room (part start word_end words) (part here text-end text) ≡ x → onward (left - 1) (drop start words) (drop here text) x ≡ follow left room (drop from words) fields (drop to text)
        a_word x e =
            let piece = part-token words start word_end long in
            let word = part-token text here text-end wide in
            let same : x ≡ value_of room (token (drop start words)) (token (drop here text)) = cc in
            ap (onward (left - 1) (drop start words) (drop here text)) same
            ∙ one-more false (ne_eqb (length (drop start words)) 0 (λ (z : length (drop start words) ≡ 0). omega (arith, length-drop start words)))

        pub follow-stuck : value_of room (part start word_end words) (part here text-end text) ≡ nothing → stuck (drop here text) ≡ follow left room (drop from words) fields (drop to text)
        follow-stuck e = a_word nothing e

        pub follow-on : (v : ℕ) (more-fields : List ℕ) → value_of room (part start word_end words) (part here text-end text) ≡ found v → more-fields ≡ with_field fields (part start word_end words) v
            → follow (left - 1) room (drop word_end words) more-fields (drop text-end text) ≡ follow left room (drop from words) fields (drop to text)
        follow-on v more-fields e f =
            rw (f, part-token words start word_end long, left_by words start word_end _ long, left_by text here text-end _ wide) (a_word (found v) e)
