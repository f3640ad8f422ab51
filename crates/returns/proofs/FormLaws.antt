-- The forms: each is pieces, no row is of a form that stands before its own. Assumes nothing.
--     form_fine, forms-fine       a form's words are pieces with blanks between them, computed for all forms
--     ordered, forms-ordered     each form is apart from every later one, computed for all pairs
--     tried-finds                so a row is read by its own form
use Prim.Native.Nat.{ℕ, ◌<◌}
use mathlib.Core.List.{List, [], ◌∷◌, ◌++◌, map}
use mathlib.Core.Bool.{Bool, true, false, ◌&&◌, ◌||◌}
use mathlib.Core.Path.{◌≡◌, refl, ap, ◌∙◌}
use native.Mathlib.Omega.{arith}
use lib.Dec.{ltb, eqb}
use lib.ListN.{length}
use borrow.Author.Tests.{ltb-true}
use Rattle.rules.specs.Vector.{equal}
use Rattle.rules.specs.ConditionTree.{FineAll}
use Rattle.rules.specs.Table.{Room}
use Rattle.rules.specs.Token.{bytes_of, space, line_feed, run_length, past_blanks, token_length, ends_line, digits_behind, number_in, register_in, place_in}
use Rattle.rules.specs.Form.{Form, forms, field_of, letter_in, is_field, value_of, most_words, blank_fields, further, Followed, stuck, fits, follow, tried, row_in}
use Rattle.rules.specs.Writer.{form_in}
use Rattle.rules.proofs.VectorLaws.{equal-true}
use Rattle.rules.proofs.MeasureRows.{both_left, both_right}
use Rattle.returns.proofs.TokenLaws.{also, is_word}
use Rattle.returns.proofs.PieceLaws.{spaced, pieces_in, piece_shown, is_plain, all_pieces, excludes, apart, IsStuck, follow-apart}

abbrev pub pieces_of : Form → List (List ℕ)
pieces_of f = pieces_in most_words f.words

abbrev pub every_form : (Form → Bool) → List Form → Bool
every_form p [] = true
every_form p (f ∷ fs) = p f && every_form p fs

unfoldable pub form_fine : Form → Bool
form_fine f =
    equal (space ∷ f.words) (spaced (pieces_of f))
    && (all_pieces is_word (pieces_of f) && (all_pieces (λ (p : List ℕ). is_field p || is_plain p) (pieces_of f) && ltb (length (pieces_of f)) most_words))

forms-fine : every_form form_fine forms ≡ true
unfolding forms bytes_of form_fine pieces_in run_length token_length ends_line is_word equal field_of
forms-fine = refl

-- each list of pieces is apart from every later one
abbrev every : (List (List ℕ) → Bool) → List (List (List ℕ)) → Bool
every p [] = true
every p (ps ∷ more) = p ps && every p more

module _ (room : Room) where
  ordered : List (List (List ℕ)) → Bool
  ordered [] = true
  ordered (ps ∷ more) = every (apart room ps) more && ordered more

  forms-ordered : ordered (map pieces_of forms) ≡ true
  unfolding forms bytes_of ordered apart excludes pieces_in run_length token_length ends_line is_word equal field_of value_of letter_in number_in digits_behind register_in place_in
  forms-ordered = refl

-- A form's words as pieces

fine-all : (f : List ℕ → Bool) (ps : List (List ℕ)) → all_pieces f ps ≡ true → FineAll (λ (p : List ℕ). f p ≡ true) ps
fine-all f [] h = tt
fine-all f (p ∷ ps) h = (both_left (f p) (all_pieces f ps) h, fine-all f ps (both_right (f p) (all_pieces f ps) h))

pub record Pieces (f : Form) : Type 0 where
  pub words : space ∷ f.words ≡ spaced (pieces_of f)
  pub own : FineAll (λ (p : List ℕ). is_word p ≡ true) (pieces_of f)
  pub kinds : all_pieces (λ (p : List ℕ). is_field p || is_plain p) (pieces_of f) ≡ true
  pub few : length (pieces_of f) < most_words

pub pieces_are : (f : Form) → form_fine f ≡ true → Pieces f
unfolding form_fine
pieces_are f h =
    let k = both_right (equal (space ∷ f.words) (spaced (pieces_of f))) _ h in
    let l = both_right (all_pieces is_word (pieces_of f)) _ k in
    record {
      words = equal-true (space ∷ f.words) (spaced (pieces_of f)) (both_left (equal (space ∷ f.words) (spaced (pieces_of f))) _ h);
      own = fine-all is_word (pieces_of f) (both_left (all_pieces is_word (pieces_of f)) _ k);
      kinds = both_left (all_pieces (λ (p : List ℕ). is_field p || is_plain p) (pieces_of f)) _ l;
      few = ltb-true (length (pieces_of f)) most_words (both_right (all_pieces (λ (p : List ℕ). is_field p || is_plain p) (pieces_of f)) _ l);
    }

-- the form of an opcode and a change kind that there is
pub form-has : (p : Form → Bool) (o k : ℕ) (fs : List Form) → every_form p fs ≡ true → (form_in o k fs).opcode < 19 → p (form_in o k fs) ≡ true
unfolding form_in
form-has p o k [] h l = absurd (omega arith)
form-has p o k (f ∷ fs) h l = by (λ m. form-has p o k fs (both_right (p f) (every_form p fs) h) m) (eqb f.opcode o && eqb f.kind k) l
  where
    by : ((form_in o k fs).opcode < 19 → p (form_in o k fs) ≡ true) → (x : Bool) →
        (elim x as (λ y. Form) [ true ↦ f | false ↦ form_in o k fs ]).opcode < 19 → p (elim x [ true ↦ f | false ↦ form_in o k fs ]) ≡ true
    by more true m = both_left (p f) (every_form p fs) h
    by more false m = more m

pub forms-pieces : (f : Form) → ((p : Form → Bool) → every_form p forms ≡ true → p f ≡ true) → Pieces f
forms-pieces f h = pieces_are f (h form_fine forms-fine)

pub form-pieces : (o k : ℕ) → (form_in o k forms).opcode < 19 → Pieces (form_in o k forms)
form-pieces o k l = pieces_are (form_in o k forms) (form-has form_fine o k forms forms-fine l)

-- A row is read by its own form

every-form : (p : List (List ℕ) → Bool) (fs : List Form) → every p (map pieces_of fs) ≡ true → every_form (λ (f : Form). p (pieces_of f)) fs ≡ true
every-form p [] h = refl
every-form p (f ∷ fs) h =
    also (both_left (p (pieces_of f)) (every p (map pieces_of fs)) h) (every-form p fs (both_right (p (pieces_of f)) (every p (map pieces_of fs)) h))

tried-on : (room : Room) (f : Form) (fs : List Form) (best bs : List ℕ) (r : Followed) → follow most_words room f.words (blank_fields f) bs ≡ r → IsStuck r →
    (at : List ℕ) × (tried room (f ∷ fs) best bs ≡ tried room fs at bs)
unfolding tried
tried-on room f fs best bs (stuck rest) e h = (further best rest, rw (tried, e) refl)
tried-on room f fs best bs (fits fields rest) e h = absurd h

tried-at : (room : Room) (f : Form) (fs : List Form) (best bs fields rest : List ℕ) → follow most_words room f.words (blank_fields f) bs ≡ fits fields rest →
    tried room (f ∷ fs) best bs ≡ fits fields rest
unfolding tried
tried-at room f fs best bs fields rest e = rw (tried, e) refl

module _ (room : Room) where
  blank-first : (words fields bs : List ℕ) → follow most_words room words fields bs ≡ follow most_words room (space ∷ words) fields bs
  unfolding follow run_length
  blank-first words fields bs = refl

  pub words-spaced : (f : Form) → Pieces f → (fields bs : List ℕ) → follow most_words room f.words fields bs ≡ follow most_words room (spaced (pieces_of f)) fields bs
  words-spaced f p fields bs = blank-first f.words fields bs ∙ ap (λ (x : List ℕ). follow most_words room x fields bs) p.words

  blank-on : (words fields bs : List ℕ) → follow most_words room words fields (space ∷ bs) ≡ follow most_words room words fields bs
  unfolding follow run_length
  blank-on words fields bs = refl

  pub words-pieces : (f : Form) → Pieces f → (fields bs : List ℕ) →
      follow most_words room f.words fields (space ∷ bs) ≡ follow most_words room (spaced (pieces_of f)) fields bs
  words-pieces f p fields bs = blank-on f.words fields bs ∙ words-spaced f p fields bs

-- a row's text, which its form g reads
pub record Reads (room : Room) (from rest bs : List ℕ) (g : Form) : Type 0 where
  pub real : g.opcode < 19
  pub text : bs ≡ space ∷ (spaced (map (piece_shown from) (pieces_of g)) ++ (line_feed ∷ rest))
  pub written : FineAll (λ (q : List ℕ). is_word (piece_shown from q) ≡ true) (pieces_of g)
  pub read : follow most_words room g.words (blank_fields g) bs ≡ fits from rest

module _ (room : Room) (o k : ℕ) (from rest bs : List ℕ) where
  other_stuck : (f g : Form) → Pieces f → apart room (pieces_of f) (pieces_of g) ≡ true → Reads room from rest bs g →
      IsStuck (follow most_words room f.words (blank_fields f) bs)
  other_stuck f g p a r =
      rw (r.text, words-pieces room f p (blank_fields f) (spaced (map (piece_shown from) (pieces_of g)) ++ (line_feed ∷ rest)))
      (follow-apart room from (pieces_of f) (pieces_of g) most_words (blank_fields f) rest p.own r.written a)

  tried-finds : (fs : List Form) (best : List ℕ) → every_form form_fine fs ≡ true → ordered room (map pieces_of fs) ≡ true →
      Reads room from rest bs (form_in o k fs) → tried room fs best bs ≡ fits from rest
  unfolding form_in ordered
  tried-finds [] best h e r = absurd (omega (arith, r.real))
  tried-finds (f ∷ fs) best h e r =
      by (λ at s. tried-finds fs at (both_right (form_fine f) (every_form form_fine fs) h) (both_right (every (apart room (pieces_of f)) (map pieces_of fs)) _ e) s)
      (eqb f.opcode o && eqb f.kind k) r
    where
      by : ((at : List ℕ) → Reads room from rest bs (form_in o k fs) → tried room fs at bs ≡ fits from rest) → (x : Bool) →
          Reads room from rest bs (elim x [ true ↦ f | false ↦ form_in o k fs ]) → tried room (f ∷ fs) best bs ≡ fits from rest
      by more true s = tried-at room f fs best bs from rest s.read
      by more false s =
          let a = form-has (λ (g : Form). apart room (pieces_of f) (pieces_of g)) o k fs
          (every-form (apart room (pieces_of f)) fs (both_left (every (apart room (pieces_of f)) (map pieces_of fs)) _ e)) s.real in
          let t = tried-on room f fs best bs (follow most_words room f.words (blank_fields f) bs) refl
          (other_stuck f (form_in o k fs) (pieces_are f (both_left (form_fine f) (every_form form_fine fs) h)) a s) in
          t.1 ∙ more t.0 s

pub row-found : (room : Room) (o k : ℕ) (from rest bs : List ℕ) → Reads room from rest bs (form_in o k forms) → row_in room bs ≡ fits from rest
unfolding row_in
row-found room o k from rest bs r = tried-finds room o k from rest bs forms (past_blanks bs) forms-fine (forms-ordered room) r
