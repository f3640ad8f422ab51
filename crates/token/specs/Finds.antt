-- What the answers of this crate stand for in the definition. Assumes nothing.
--     found_of         the definition's answer
--     FindsOwned      a thread's register, which the definition has as one number
--     digit_behind     a letter and a digit up to a last one; up to `3` the definition's `fourth`
--     words_in         the words of a list that is written as a line
use Rattle.std.specs.Prelude.{ℕ, zero, suc, ◌+◌, ◌-◌, ◌*◌, ◌<◌, List, [], ◌∷◌, true, false, ◌&&◌, ◌≡◌, eqb, length, get_or, Option, Some, None}
use Rattle.rules.specs.Token as rules
use Rattle.rules.specs.Token.{found_if, is_between, is_empty, past_blanks, token, past_token}
use Rattle.rules.specs.Text.{thread_register_in}
use Rattle.token.specs.declared.Owned.{Owned}

abbrev pub found_of : Option ℕ → rules.Found
found_of None = rules.nothing
found_of (Some v) = rules.found v

-- 4 times the thread, and the register
abbrev pub owned_at : Owned → ℕ
owned_at o = 4 * o.thread + o.register

abbrev pub owned_of : Option Owned → rules.Found
owned_of None = rules.nothing
owned_of (Some o) = rules.found (owned_at o)

pub record FindsOwned (word : List ℕ) (r : Option Owned) : Type 0 where
  pub is : owned_of r ≡ thread_register_in word
  pub within : (o : Owned) → r ≡ Some o → (o.thread < 5) × (o.register < 4)

abbrev pub digit_behind : ℕ → ℕ → List ℕ → rules.Found
digit_behind last letter bs =
    found_if (eqb (length bs) 2 && eqb (get_or bs 0 0) letter && is_between 48 last (get_or bs 1 0)) (get_or bs 1 0 - 48)

-- n words at most
unfoldable pub words_in : ℕ → List ℕ → List (List ℕ)
words_in zero bs = []
words_in (suc n) bs =
    elim (is_empty (past_blanks bs)) [ true ↦ [] | false ↦ token (past_blanks bs) ∷ words_in n (past_token (past_blanks bs)) ]
