-- A form is pieces with a blank before each, and so is a row of that form. Assumes nothing.
--     spaced, pieces_in           pieces with blanks, and the pieces of a form's words
--     piece_shown, pieces-shown   a piece as it is written, and all of them
--     follow-step                one piece against one word
--     follow-own                 a row is of its own form
--     apart, follow-apart        and of no other from which it is apart
use Prim.Native.Nat.{ℕ, zero, suc, ◌<◌}
use mathlib.Core.List.{List, [], ◌∷◌, ◌++◌, map, append_assoc, append-nil}
use mathlib.Core.Bool.{Bool, true, false, cond, not, ◌&&◌, ◌||◌, true≢false}
use mathlib.Core.Path.{◌≡◌, refl, ap, sym, subst, ◌∙◌}
use native.Mathlib.Omega.{arith}
use lib.Dec.{ltb, eqb}
use lib.ListN.{length, get_or}
use borrow.Author.Tests.{eqb-true, not-true}
use Rattle.rules.specs.Vector.{equal}
use Rattle.rules.specs.ConditionTree.{FineAll}
use Rattle.rules.specs.Table.{Room}
use Rattle.rules.specs.Token.{space, line_feed, run_length, line_length, token_length, ends_line, is_empty, past_blanks, token, past_token, next_line, Found, nothing, found}
use Rattle.rules.specs.Form.{field_of, letter_in, is_field, value_of, with_field, Followed, stuck, fits, follow}
use Rattle.rules.specs.Writer.{letter_shown, form_shown, shown}
use Rattle.rules.proofs.VectorLaws.{equal-true}
use Rattle.rules.proofs.MeasureRows.{both_left, both_right}
use Rattle.returns.proofs.TokenLaws.{all, either, is_word, Parted, Stands, word_stands, stands-skip, stands_on, stands-some, stands-token, stands-past}
use Rattle.returns.proofs.NumberLaws.{register-none}

-- Pieces

abbrev pub spaced : List (List ℕ) → List ℕ
spaced [] = []
spaced (p ∷ ps) = space ∷ (p ++ spaced ps)

unfoldable pub pieces_in : ℕ → List ℕ → List (List ℕ)
pieces_in zero bs = []
pieces_in (suc n) bs = elim (is_empty (past_blanks bs)) [ true ↦ [] | false ↦ token (past_blanks bs) ∷ pieces_in n (past_token (past_blanks bs)) ]

-- As they are written

unfoldable pub piece_shown : List ℕ → List ℕ → List ℕ
piece_shown fields piece = cond (is_field piece) (letter_shown (get_or piece 0 0) fields) piece

-- no byte of a word that stands for itself is a letter that stands for a field
abbrev pub is_plain : List ℕ → Bool
is_plain piece = all (λ (b : ℕ). not (ltb (field_of b) 9)) piece

shown-append : (a b fields : List ℕ) → form_shown (a ++ b) fields ≡ form_shown a fields ++ form_shown b fields
unfolding form_shown
shown-append [] b fields = refl
shown-append (x ∷ a) b fields =
    ap (λ (l : List ℕ). cond (ltb (field_of x) 9) (letter_shown x fields) (x ∷ []) ++ l) (shown-append a b fields)
    ∙ sym (append_assoc (cond (ltb (field_of x) 9) (letter_shown x fields) (x ∷ [])) (form_shown a fields) (form_shown b fields))

plain-shown : (p fields : List ℕ) → is_plain p ≡ true → form_shown p fields ≡ p
unfolding form_shown
plain-shown [] fields h = refl
plain-shown (b ∷ p) fields h =
    rw (not-true (ltb (field_of b) 9) (both_left (not (ltb (field_of b) 9)) (is_plain p) h)) (ap (λ (l : List ℕ). b ∷ l) (plain-shown p fields (both_right (not (ltb (field_of b) 9)) (is_plain p) h)))

letter-shown : (p fields : List ℕ) → is_field p ≡ true → form_shown p fields ≡ letter_shown (get_or p 0 0) fields
unfolding form_shown
letter-shown [] fields h = absurd (true≢false (sym h))
letter-shown (b ∷ []) fields h = rw (both_right (eqb 1 1) (ltb (field_of b) 9) h) (append-nil (letter_shown b fields))
letter-shown (b ∷ c ∷ p) fields h =
    absurd (omega (arith, eqb-true (length (b ∷ c ∷ p)) 1 (both_left (eqb (length (b ∷ c ∷ p)) 1) (ltb (field_of b) 9) h)))

piece-shown : (p fields : List ℕ) → (is_field p || is_plain p) ≡ true → form_shown p fields ≡ piece_shown fields p
unfolding piece_shown
piece-shown p fields h = by (is_field p) refl h
  where
    by : (x : Bool) → is_field p ≡ x → (x || is_plain p) ≡ true → form_shown p fields ≡ cond x (letter_shown (get_or p 0 0) fields) p
    by true e k = letter-shown p fields e
    by false e k = plain-shown p fields k

abbrev pub all_pieces : (List ℕ → Bool) → List (List ℕ) → Bool
all_pieces f [] = true
all_pieces f (p ∷ ps) = f p && all_pieces f ps

pub pieces-shown : (ps : List (List ℕ)) (fields : List ℕ) → all_pieces (λ (p : List ℕ). is_field p || is_plain p) ps ≡ true →
    form_shown (spaced ps) fields ≡ spaced (map (piece_shown fields) ps)
unfolding form_shown field_of
pieces-shown [] fields h = refl
pieces-shown (p ∷ ps) fields h =
    ap (λ (l : List ℕ). space ∷ l) (shown-append p (spaced ps) fields)
    ∙ λ i. space ∷
    (piece-shown p fields (both_left (is_field p || is_plain p) (all_pieces (λ (q : List ℕ). is_field q || is_plain q) ps) h) i
    ++ pieces-shown ps fields (both_right (is_field p || is_plain p) (all_pieces (λ (q : List ℕ). is_field q || is_plain q) ps) h) i)

-- One piece against one word

-- a token of each, what follows each, and where the word stands
unfoldable pub against : ℕ → Room → List ℕ → (p w more behind at : List ℕ) → Followed
against n room fields p w more behind at =
    elim (value_of room p w) [ nothing ↦ stuck at | found v ↦ follow n room more (with_field fields p v) behind ]

turn : ℕ → Room → List ℕ → (words bs : List ℕ) → Followed
turn n room fields words bs =
    elim (is_empty words) [
      | true ↦ cond (ends_line bs) (fits fields (next_line bs)) (stuck bs)
      | false ↦ against n room fields (token words) (token bs) (past_token words) (past_token bs) bs
    ]

turn-so : (n : ℕ) (room : Room) (fields words bs : List ℕ) → is_empty words ≡ false →
    turn n room fields words bs ≡ against n room fields (token words) (token bs) (past_token words) (past_token bs) bs
unfolding turn
turn-so n room fields words bs e = rw (turn, e) refl

module _ (room : Room) where
  follow-turn : (n : ℕ) (words fields bs : List ℕ) → follow (suc n) room words fields bs ≡ turn n room fields (past_blanks words) (past_blanks bs)
  unfolding follow turn against
  follow-turn n words fields bs = refl

  -- a form's next piece against the next token
  pub follow-word : (n : ℕ) (p more fields bs : List ℕ) → Stands p more →
      follow (suc n) room (space ∷ (p ++ more)) fields bs ≡ against n room fields p (token (past_blanks bs)) more (past_token (past_blanks bs)) (past_blanks bs)
  unfolding run_length
  follow-word n p more fields bs s =
      follow-turn n (space ∷ (p ++ more)) fields bs
      ∙ (λ i. turn n room fields (stands-skip s i) (past_blanks bs))
      ∙ turn-so n room fields (p ++ more) (past_blanks bs) (stands-some s)
      ∙ λ i. against n room fields (stands-token s i) (token (past_blanks bs)) (stands-past s i) (past_token (past_blanks bs)) (past_blanks bs)

  follow-step : (n : ℕ) (p more fields w behind : List ℕ) → Stands p more → Stands w behind →
      follow (suc n) room (space ∷ (p ++ more)) fields (space ∷ (w ++ behind)) ≡ against n room fields p w more behind (w ++ behind)
  unfolding run_length
  follow-step n p more fields w behind s t =
      follow-word n p more fields (space ∷ (w ++ behind)) s
      ∙ ap (λ (x : List ℕ). against n room fields p (token x) more (past_token x) x) (stands-skip t)
      ∙ λ i. against n room fields p (stands-token t i) more (stands-past t i) (w ++ behind)

-- A row of its own form

-- a field's value; a word that stands for itself has none
abbrev pub value_in : List ℕ → List ℕ → ℕ
value_in fields p = cond (is_field p) (get_or fields (field_of (get_or p 0 0)) 0) 0

pub record PieceBack (room : Room) (fields p : List ℕ) : Type 0 where
  pub value : value_of room p (piece_shown fields p) ≡ found (value_in fields p)
  pub written : is_word (piece_shown fields p) ≡ true
  pub word : is_word p ≡ true

-- the fields that the pieces name, set to those of another list
abbrev pub fields_set : List (List ℕ) → List ℕ → List ℕ → List ℕ
fields_set [] from fields = fields
fields_set (p ∷ ps) from fields = fields_set ps from (with_field fields p (value_in from p))

pub parted-words : (ps : List (List ℕ)) → Parted (spaced ps)
parted-words [] = (refl, refl)
parted-words (p ∷ ps) = (refl, refl)

pub parted-row : (ps : List (List ℕ)) (rest : List ℕ) → Parted (spaced ps ++ (line_feed ∷ rest))
parted-row [] rest = (refl, refl)
parted-row (p ∷ ps) rest = (refl, refl)

module _ (room : Room) where
  pub follow-own : (from : List ℕ) (ps : List (List ℕ)) (n : ℕ) (fields rest : List ℕ) → FineAll (PieceBack room from) ps → length ps < n →
      follow n room (spaced ps) fields (spaced (map (piece_shown from) ps) ++ (line_feed ∷ rest)) ≡ fits (fields_set ps from fields) rest
  unfolding follow run_length ends_line line_length against
  follow-own from ps zero fields rest h l = absurd (omega arith)
  follow-own from [] (suc n) fields rest h l = refl
  follow-own from (p ∷ ps) (suc n) fields rest h l =
      let w = piece_shown from p in
      let behind = spaced (map (piece_shown from) ps) ++ (line_feed ∷ rest) in
      ap (λ (x : List ℕ). follow (suc n) room (spaced (p ∷ ps)) fields (space ∷ x)) (append_assoc w (spaced (map (piece_shown from) ps)) (line_feed ∷ rest))
      ∙ follow-step room n p (spaced ps) fields w behind (word_stands p (spaced ps) h.0.word (parted-words ps)) (word_stands w behind h.0.written (parted-row (map (piece_shown from) ps) rest))
      ∙ rw (against, h.0.value) (follow-own from ps n (with_field fields p (value_in from p)) rest h.1 (omega arith))

-- and of no form from which it is apart

abbrev pub is_nothing : Found → Bool
is_nothing nothing = true
is_nothing (found v) = false

-- a number's letter before a register's
abbrev number_not_register : List ℕ → List ℕ → Bool
number_not_register p q = equal p (65 ∷ []) && equal q (82 ∷ [])

module _ (room : Room) where
  unfoldable pub excludes : List ℕ → List ℕ → Bool
  excludes p q = cond (is_field q) (number_not_register p q) (is_nothing (value_of room p q))

  -- the pieces of one form against those of a row of another
  unfoldable pub apart : List (List ℕ) → List (List ℕ) → Bool
  apart [] [] = false
  apart [] (q ∷ qs) = true
  apart (p ∷ ps) [] = is_nothing (value_of room p [])
  apart (p ∷ ps) (q ∷ qs) = excludes p q || apart ps qs

abbrev pub IsStuck : Followed → Type 0
IsStuck (stuck rest) = Unit {0}
IsStuck (fits fields rest) = ⊥

nothing-so : (f : Found) → is_nothing f ≡ true → f ≡ nothing
nothing-so nothing e = refl
nothing-so (found v) e = absurd (true≢false (sym e))

nothing-found : (v : ℕ) → nothing ≡ found v → ⊥
nothing-found v e = true≢false (ap is_nothing e)

module _ (room : Room) where
  not_register : (from p q : List ℕ) → p ≡ 65 ∷ [] → q ≡ 82 ∷ [] → value_of room p (letter_shown (get_or q 0 0) from) ≡ nothing
  unfolding value_of letter_in letter_shown field_of
  not_register from p q e f = rw (e, f) (register-none (shown (get_or from 5 0)))

  excluded : (from p q : List ℕ) → excludes room p q ≡ true → value_of room p (piece_shown from q) ≡ nothing
  unfolding excludes piece_shown
  excluded from p q h = by (is_field q) h
    where
      by : (x : Bool) → cond x (number_not_register p q) (is_nothing (value_of room p q)) ≡ true →
          value_of room p (cond x (letter_shown (get_or q 0 0) from) q) ≡ nothing
      by true k =
          not_register from p q (equal-true p (65 ∷ []) (both_left (equal p (65 ∷ [])) (equal q (82 ∷ [])) k)) (equal-true q (82 ∷ []) (both_right (equal p (65 ∷ [])) (equal q (82 ∷ [])) k))
      by false k = nothing-so (value_of room p q) k

  -- a word of a row, as it is written; and a form's own
  abbrev pub Written : List ℕ → List ℕ → Type 0
  Written from q = is_word (piece_shown from q) ≡ true

  abbrev pub OwnWord : List ℕ → Type 0
  OwnWord p = is_word p ≡ true

  against-stuck : (n : ℕ) (fields p w more behind at : List ℕ) (v : Found) → value_of room p w ≡ v → ((x : ℕ) → v ≡ found x → IsStuck (follow n room more (with_field fields p x) behind)) →
      IsStuck (against n room fields p w more behind at)
  unfolding against
  against-stuck n fields p w more behind at nothing e f = rw (against, e) tt
  against-stuck n fields p w more behind at (found x) e f = rw (against, e) (f x refl)

  -- a word where the form has ended, and none where it has not
  word-left : (n : ℕ) (fields w behind : List ℕ) → Stands w behind → IsStuck (follow (suc n) room [] fields (space ∷ (w ++ behind)))
  unfolding follow run_length
  word-left n fields w behind s = rw (stands-skip s, stands_on s) tt

  line-short : (n : ℕ) (fields p more rest : List ℕ) → Stands p more → value_of room p [] ≡ nothing →
      follow (suc n) room (space ∷ (p ++ more)) fields (line_feed ∷ rest) ≡ stuck (line_feed ∷ rest)
  unfolding run_length token_length ends_line against
  line-short n fields p more rest s e =
      follow-word room n p more fields (line_feed ∷ rest) s ∙ rw (against, e) refl

  pub follow-apart : (from : List ℕ) (ps qs : List (List ℕ)) (n : ℕ) (fields rest : List ℕ) → FineAll OwnWord ps → FineAll (Written from) qs → apart room ps qs ≡ true →
      IsStuck (follow n room (spaced ps) fields (spaced (map (piece_shown from) qs) ++ (line_feed ∷ rest)))
  unfolding follow apart
  follow-apart from ps qs zero fields rest h k e = tt
  follow-apart from [] [] (suc n) fields rest h k e = absurd (true≢false (sym e))
  follow-apart from [] (q ∷ qs) (suc n) fields rest h k e =
      let w = piece_shown from q in
      let behind = spaced (map (piece_shown from) qs) ++ (line_feed ∷ rest) in
      rw (append_assoc w (spaced (map (piece_shown from) qs)) (line_feed ∷ rest))
      (word-left n fields w behind (word_stands w behind k.0 (parted-row (map (piece_shown from) qs) rest)))
  follow-apart from (p ∷ ps) [] (suc n) fields rest h k e =
      rw (line-short n fields p (spaced ps) rest (word_stands p (spaced ps) h.0 (parted-words ps)) (nothing-so (value_of room p []) e)) tt
  follow-apart from (p ∷ ps) (q ∷ qs) (suc n) fields rest h k e =
      let w = piece_shown from q in
      let behind = spaced (map (piece_shown from) qs) ++ (line_feed ∷ rest) in
      let f : follow (suc n) room (spaced (p ∷ ps)) fields (spaced (map (piece_shown from) (q ∷ qs)) ++ (line_feed ∷ rest)) ≡ against n room fields p w (spaced ps) behind (w ++ behind) =
      ap (λ (x : List ℕ). follow (suc n) room (spaced (p ∷ ps)) fields (space ∷ x)) (append_assoc w (spaced (map (piece_shown from) qs)) (line_feed ∷ rest))
      ∙ follow-step room n p (spaced ps) fields w behind (word_stands p (spaced ps) h.0 (parted-words ps)) (word_stands w behind k.0 (parted-row (map (piece_shown from) qs) rest)) in
      subst IsStuck (sym f)
      (against-stuck n fields p w (spaced ps) behind (w ++ behind) (value_of room p w) refl
      (λ x g. either (excludes room p q) (apart room ps qs) e
      (λ y. absurd (nothing-found x (sym (excluded from p q y) ∙ g)))
      (λ y. follow-apart from ps qs n (with_field fields p x) rest h.1 k.1 y)))
