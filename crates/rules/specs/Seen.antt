-- When each thread first saw a store, and what counts as seen: document 01, "`FirstSeen`". Marks and vectors are lists of
-- any length. Assumes nothing.
use Rattle.std.specs.Prelude.{ℕ, List, [], ◌∷◌, map, Bool, true, false, cond, not, ◌&&◌, leb, eqb, get_or, set, replicate}
use Rattle.rules.specs.State.{none}
use Rattle.rules.specs.Vector.{Whom, nobody, thread, one_up}

-- "65535 is unseen"
abbrev pub unseen : ℕ
unseen = 65535

-- the marks of a store that no thread has seen
abbrev pub unseens : ℕ → List ℕ
unseens n = replicate n unseen

-- a thread's mark; a thread that is none has seen nothing
abbrev pub mark_of : List ℕ → ℕ → ℕ
mark_of marks t = get_or marks t unseen

-- a mark that is there, and "mark ≤ that part" (atomic.rs: is_seen_by_current)
abbrev pub known : ℕ → ℕ → Bool
known mark part = not (eqb mark unseen) && leb mark part

-- "Seen: for some thread, mark ≤ that part of the current causality.": the lowest such thread, or none
unfoldable pub seen_through : List ℕ → List ℕ → Whom
seen_through [] causality = nobody
seen_through (m ∷ marks) [] = nobody
seen_through (m ∷ marks) (part ∷ causality) = cond (known m part) (thread 0) (one_up (seen_through marks causality))

abbrev pub someone : Whom → Bool
someone nobody = false
someone (thread t) = true

unfoldable pub seen : List ℕ → List ℕ → Bool
seen marks causality = someone (seen_through marks causality)

-- "seen by this thread no later than its last yield"; before its first yield it has none (atomic.rs: is_seen_before_yield)
unfoldable pub seen_before_yield : List ℕ → ℕ → ℕ → Bool
seen_before_yield marks t last_yield = not (eqb last_yield none) && known (mark_of marks t) last_yield

-- "The mark of first sight is changed in place, as `touch` does, only where unseen."
unfoldable pub touched : List ℕ → ℕ → ℕ → List ℕ
touched marks t version = cond (eqb (mark_of marks t) unseen) (set marks t version) marks

-- "Marks form seven rows of five numbers": a cell's rows, with one store touched
unfoldable pub touched_at : List (List ℕ) → ℕ → ℕ → ℕ → List (List ℕ)
touched_at rows slot t version = set rows slot (touched (get_or rows slot []) t version)

-- which of a cell's stores are seen
unfoldable pub seen_slots : List (List ℕ) → List ℕ → List Bool
seen_slots rows causality = map (λ (marks : List ℕ). seen marks causality) rows
