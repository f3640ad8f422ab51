-- What is said of a text that is refused, piece by piece. Assumes nothing.
--     name-.., clear-..                a file's name or none; a token that can be named or not
--     cell-named, plain-named          the words before, by their places
--     row-.., why-by, reason-by        why a token cannot stand there, by the tests
--     what-..                          what stands there, by the tests
use Prim.Native.Nat.{ℕ, ◌+◌, ◌≤◌, ◌<◌}
use Prim.Native.String.{String}
use mathlib.Core.List.{List, [], ◌++◌}
use mathlib.Core.Bool.{Bool, true, false, cond, ◌&&◌, ◌||◌}
use mathlib.Core.Path.{◌≡◌, ap, sym, ◌∙◌}
use native.Mathlib.Omega.{arith}
use borrow.Author.Tests.{eq-eqb, ne_eqb, le-leb, lt-leb}
use lib.ListN.{length, get_or, drop}
use Rattle.rules.specs.Token.{found, bytes_of, is_blank, is_between, run_length, past_blanks, token, token_length, ends_line, number_in, plain_in}
use Rattle.token.specs.Places.{part}
use Rattle.token.proofs.PlaceLaws.{left_by, part-token}
use Rattle.saying.specs.Sayings.{name_shown, spells, names_plain, names_cell, why_no_plain, why_no_row, why_no_number, reason, is_clear, token_shown, what_shown}

module _ (name : List ℕ) where
  pub name-none : length name ≡ 0 → [] ≡ name_shown name
  name-none e = sym (rw (eq-eqb _ _ e))

  pub name-some : (length name ≡ 0 → ⊥) → name_shown name ≡ name ++ bytes_of ": "
  name-some n = rw (ne_eqb _ _ n)

module _ (word : List ℕ) where
  pub clear_none : length word ≡ 0 → false ≡ is_clear word
  clear_none e = sym (rw (lt-leb 1 (length word) (omega arith)))

  module _ (n : length word ≡ 0 → ⊥) where
    some : 1 ≤ length word
    some = omega arith

    pub clear-long : 40 < length word → false ≡ is_clear word
    clear-long h = sym (rw (le-leb 1 (length word) some, lt-leb (length word) 40 h))

    pub clear_first : length word ≤ 40 → is_between 32 126 (get_or word 0 0) ≡ is_clear word
    clear_first h = sym (rw (le-leb 1 (length word) some, le-leb (length word) 40 h))

-- The words before

pub cell-named : (word : List ℕ) (load unsync to on : Bool) → load ≡ spells word "load" → unsync ≡ spells word "unsync_load" → to ≡ spells word "to" → on ≡ spells word "on"
    → (((load || unsync) || to) || on) ≡ names_cell word
cell-named word load unsync to on a b c d = rw (a, b, c, d)

module _ (text : List ℕ) (before end : ℕ) (ends : end ≡ before + token_length (drop before text)) where
  -- a test on a token, by its places
  pub said : (s : String) (r t : Bool) → r ≡ spells (part before end text) s → r ≡ t → spells (token (drop before text)) s ≡ t
  said s r t e h = ap (λ (w : List ℕ). spells w s) (sym (part-token text before end ends)) ∙ sym e ∙ h

  pub cell-said : (r t : Bool) → r ≡ names_cell (part before end text) → r ≡ t → names_cell (token (drop before text)) ≡ t
  cell-said r t e h = ap names_cell (sym (part-token text before end ends)) ∙ sym e ∙ h

  pub plain-named : (begin first behind : ℕ) (read to write : Bool) →
      first ≡ begin + run_length is_blank (drop begin text) → behind ≡ first + token_length (drop first text) →
      read ≡ spells (part before end text) "read" → to ≡ spells (part before end text) "to" → write ≡ spells (part first behind text) "write"
      → (read || (write && to)) ≡ names_plain (token (past_blanks (drop begin text))) (token (drop before text))
  plain-named begin first behind read to write f b r t w =
      let word : part first behind text ≡ token (past_blanks (drop begin text)) = part-token text first behind b ∙ ap token (left_by text begin first _ f) in
      rw (r, t, w) (ap (λ (v : List ℕ). names_plain v (part before end text)) word ∙ ap (names_plain (token (past_blanks (drop begin text)))) (part-token text before end ends))

-- Why a token cannot stand there

module _ (row target : ℕ) where
  pub row-own : target ≡ row → ": a jump to its own row never ends" ≡ why_no_row row target
  row-own e = sym (rw (eq-eqb _ _ e))

  pub row-none : (target ≡ row → ⊥) → ": its thread has no such row" ≡ why_no_row row target
  row-none n = sym (rw (ne_eqb _ _ n))

module _ (row : ℕ) (before word : List ℕ) where
  pub why-by : (number : ℕ) (jump join cell : Bool) → number_in word ≡ found number → spells before "jump" ≡ jump → spells before "join" ≡ join → names_cell before ≡ cell
      → cond jump (why_no_row row number) (cond join ": there is no such thread" (cond cell ": there is no such cell" "")) ≡ why_no_number row before (number_in word)
  why-by number jump join cell n a b c = sym (rw (n, a, b, c))

  pub reason-by : (first : List ℕ) (plain : Bool) → names_plain first before ≡ plain → cond plain (why_no_plain (plain_in word)) (why_no_number row before (number_in word)) ≡ reason row first before word
  reason-by first plain e = sym (rw e)

-- What stands there

module _ (text : List ℕ) (row begin before at : ℕ) where
  abbrev why-there : List ℕ → String
  why-there word = reason row (token (past_blanks (drop begin text))) (token (drop before text)) word

  abbrev what-by : Bool → Bool → List ℕ → List ℕ
  what-by missing clear word =
      cond missing (bytes_of "something is missing here\n")
      (cond clear (token_shown word (why-there word)) (bytes_of "this cannot stand here\n"))

  pub what-missing : ends_line (drop at text) ≡ true → bytes_of "something is missing here\n" ≡ what_shown text row begin before at
  what-missing e = sym (ap (λ (b : Bool). what-by b (is_clear (token (drop at text))) (token (drop at text))) e)

  module _ (some : ends_line (drop at text) ≡ false) (end : ℕ) (ends : end ≡ at + token_length (drop at text)) (word : List ℕ) (is : word ≡ part at end text) where
    by_word : (clear : Bool) → is_clear word ≡ clear → what_shown text row begin before at ≡ what-by false clear word
    by_word clear e =
        ap (λ (b : Bool). what-by b (is_clear (token (drop at text))) (token (drop at text))) some
        ∙ ap (λ (w : List ℕ). what-by false (is_clear w) w) (sym (is ∙ part-token text at end ends))
        ∙ ap (λ (b : Bool). what-by false b word) e

    pub what-unclear : is_clear word ≡ false → bytes_of "this cannot stand here\n" ≡ what_shown text row begin before at
    what-unclear e = sym (by_word false e)

    pub what-clear : is_clear word ≡ true → what_shown text row begin before at
        ≡ bytes_of "`" ++ (word ++ (bytes_of "` cannot stand here" ++ (bytes_of (why-there (part at end text)) ++ bytes_of "\n")))
    what-clear e = by_word true e ∙ ap (λ (w : List ℕ). token_shown word (why-there w)) is
