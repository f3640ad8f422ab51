-- The forms as a text, a line for each. Assumes nothing.
use Rattle.std.specs.Prelude.{ℕ, List, [], ◌∷◌, ◌++◌}
use Rattle.rules.specs.Token.{line_feed}
use Rattle.rules.specs.Form.{Form}

-- a form's opcode, change kind and words, and a line feed
unfoldable pub coded : List Form → List ℕ
coded [] = []
coded (f ∷ fs) = f.opcode ∷ f.kind ∷ (f.words ++ (line_feed ∷ coded fs))
