-- One byte of a form's words as it is written. Assumes nothing.
use Rattle.std.specs.Prelude.{ℕ, List, [], ◌∷◌, cond, ltb}
use Rattle.rules.specs.Form.{field_of}
use Rattle.rules.specs.Writer.{letter_shown}

abbrev pub piece_shown : ℕ → List ℕ → List ℕ
piece_shown b fields = cond (ltb (field_of b) 9) (letter_shown b fields) (b ∷ [])
