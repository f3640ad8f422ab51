-- The comparisons of a final condition, in their order, with what their registers hold; and a condition as text. Assumes nothing.
--     next_from     the place of the next comparison
--     part_at       the comparison that begins at a place, and whether it is true
--     claim_shown   a condition's line
use Rattle.std.specs.Prelude.{ℕ, ◌+◌, ◌-◌, List, [], Option, Some, None, Bool, cond, not, ◌&&◌, ltb, leb, length, get_or}
use Rattle.rules.specs.Table.{u64_at, first_not}
use Rattle.rules.specs.Condition.{is_sign, compared, comparison_bytes, is_condition}
use Rattle.rules.specs.Writer.{condition_shown}
use Rattle.steps.specs.Holds.{held, register}
use Rattle.unmet.specs.declared.Part.{Part}

-- a place before this end
abbrev pub one_below : ℕ → ℕ → Option ℕ
one_below n i = cond (ltb i n) (Some i) None

-- a sign is the first byte of a comparison, and of nothing else: from the end of one on, or from the condition's begin, the first sign
-- begins the next
abbrev pub is_other : List ℕ → ℕ → Bool
is_other bs i = not (is_sign (get_or bs i 0))

unfoldable pub next_from : List ℕ → ℕ → Option ℕ
next_from bs from = one_below (length bs) (first_not (is_other bs) (length bs - from) from)

-- its sign, the thread, the register, the number's eight bytes: with what is held
abbrev pub part_from : List ℕ → List ℕ → ℕ → Part
part_from bs h at = record {
  sign = get_or bs at 0;
  thread = get_or bs (at + 1) 0;
  register = get_or bs (at + 2) 0;
  number = u64_at bs (at + 3);
  value = held h (register (get_or bs (at + 1) 0) (get_or bs (at + 2) 0));
  holds = compared (get_or bs at 0) (held h (register (get_or bs (at + 1) 0) (get_or bs (at + 2) 0))) (u64_at bs (at + 3));
}

-- none where there is no room for one
unfoldable pub part_at : List ℕ → List ℕ → ℕ → Option Part
part_at bs h at = cond (leb (at + comparison_bytes) (length bs)) (Some (part_from bs h at)) None

-- a condition of a program of so many threads as it is written; nothing where it is none. A thread is written by one digit
unfoldable pub claim_shown : ℕ → List ℕ → List ℕ
claim_shown threads bs = cond (leb threads 10 && is_condition threads bs) (condition_shown bs) []
