-- A report as 29 numbers. Assumes nothing.
--     four_of, summary_numbers     the four of a thread's summary, and those of several
--     numbers_of                  all of a report
use Rattle.std.specs.Prelude.{ℕ, List, [], ◌∷◌, ◌++◌}
use Rattle.rules.specs.Explored.{Summary, Report}

-- a thread's: state, rows begun, yields, own version
abbrev pub four_of : Summary → List ℕ
four_of s = s.state ∷ s.rows ∷ s.yields ∷ s.version ∷ []

unfoldable pub summary_numbers : List Summary → List ℕ
summary_numbers [] = []
summary_numbers (s ∷ more) = four_of s ++ summary_numbers more

-- nine, and the threads': the answer, the counts, thread and row at fault, race kind, other thread
abbrev pub numbers_of : Report → List ℕ
numbers_of r =
    r.answer
    ∷ r.begun
    ∷ r.opened
    ∷ r.still_open
    ∷ r.rows
    ∷ r.thread
    ∷ r.row
    ∷ r.kind
    ∷ r.other
    ∷ summary_numbers r.threads
