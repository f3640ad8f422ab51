-- Which bytes are taken for a table. Assumes nothing.
--     holds_table    by the first byte: "threads 1..5"
--     ToldApart     that this parts them: what is read as a text is taken for none, what is accepted as a table for one
use Rattle.std.specs.Prelude.{ℕ, List, [], ◌∷◌, Bool, true, false, ◌&&◌, ◌≡◌, leb}
use Rattle.rules.specs.Table.{max_threads, judged, good}
use Rattle.rules.specs.Text.{read_text, accepted}

abbrev pub holds_table : List ℕ → Bool
holds_table [] = false
holds_table (b ∷ bs) = leb 1 b && leb b max_threads

pub record ToldApart : Type 0 where
  pub text : (bytes table condition : List ℕ) → read_text bytes ≡ accepted table condition → holds_table bytes ≡ false
  pub table : (bytes : List ℕ) → judged bytes ≡ good → holds_table bytes ≡ true
