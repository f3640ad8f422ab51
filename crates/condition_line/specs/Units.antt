-- A condition's bytes as the writer goes through them. Assumes nothing.
--     Units        bytes in which every comparison is whole and names a thread and a register of one digit
--     unit_shown    a sign, a word or a comparison as it is written
--     unit_bytes    how many bytes it has
use Rattle.std.specs.Prelude.{ℕ, ◌+◌, ◌-◌, ◌≤◌, ◌<◌, List, [], ◌∷◌, ◌++◌, Bool, true, false, cond, ◌≡◌, length, get_or, drop}
use Rattle.rules.specs.Table.{u64_at}
use Rattle.rules.specs.Condition.{is_sign}
use Rattle.rules.specs.Token.{space}
use Rattle.rules.specs.Text.{symbols}
use Rattle.rules.specs.Writer.{shown, blank_before}

pub data Units : List ℕ → Type 0 where
  none : Units []
  word : {b : ℕ} {bs : List ℕ} → is_sign b ≡ false → Units bs → Units (b ∷ bs)
  comparison : {b : ℕ} {bs : List ℕ} → is_sign b ≡ true → 10 ≤ length bs → get_or bs 0 0 < 10 → get_or bs 1 0 < 10 → Units (drop 10 bs) → Units (b ∷ bs)

abbrev pub symbol_shown : ℕ → List ℕ
symbol_shown b = get_or symbols (b - 1) []

-- bs are the bytes behind its sign
abbrev pub comparison_shown : ℕ → List ℕ → List ℕ
comparison_shown b bs =
    ((48 + get_or bs 0 0) ∷ 46 ∷ 114 ∷ (48 + get_or bs 1 0) ∷ space ∷ []) ++ (symbol_shown b ++ (space ∷ shown (u64_at bs 2)))

abbrev pub unit_shown : Bool → ℕ → List ℕ → List ℕ
unit_shown opened b bs = blank_before opened b ++ cond (is_sign b) (comparison_shown b bs) (symbol_shown b)

abbrev pub unit_bytes : ℕ → ℕ
unit_bytes b = cond (is_sign b) 11 1
