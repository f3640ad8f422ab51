-- Vectors, over lists of any length: document 01, "Support rules". Assumes nothing.
use Rattle.std.specs.Prelude.{ℕ, ◌+◌, max, List, [], ◌∷◌, Bool, true, false, cond, not, ◌&&◌, ltb, leb, eqb, get_or, set, replicate}

-- "Vectors hold five u16." The largest number that a part can be
abbrev pub largest : ℕ
largest = 65535

-- "Released, SeqCst and schedule vectors are zero."
abbrev pub zeros : ℕ → List ℕ
zeros n = replicate n 0

-- "each part ≤": every part of the first has a part of the second beside it that is not smaller (docs/DECISIONS.md, 35)
unfoldable pub at_most : List ℕ → List ℕ → Bool
at_most [] ys = true
at_most (x ∷ xs) [] = false
at_most (x ∷ xs) (y ∷ ys) = leb x y && at_most xs ys

-- "all equal": as many parts, each the same
unfoldable pub equal : List ℕ → List ℕ → Bool
equal [] [] = true
equal [] (y ∷ ys) = false
equal (x ∷ xs) [] = false
equal (x ∷ xs) (y ∷ ys) = eqb x y && equal xs ys

-- "x < y: each part ≤ and not all equal."
unfoldable pub less : List ℕ → List ℕ → Bool
less xs ys = at_most xs ys && not (equal xs ys)

-- "Join: greater of each."
unfoldable pub joined : List ℕ → List ℕ → List ℕ
joined [] ys = ys
joined (x ∷ xs) [] = x ∷ xs
joined (x ∷ xs) (y ∷ ys) = max x y ∷ joined xs ys

-- a thread, or none
pub data Whom : Type 0 where
  nobody : Whom
  thread : ℕ → Whom

abbrev pub one_up : Whom → Whom
one_up nobody = nobody
one_up (thread t) = thread (t + 1)

-- "`ahead`: the lowest thread whose part in the other vector is greater.", or whose part is missing in this one
-- (docs/DECISIONS.md, 35)
unfoldable pub ahead : List ℕ → List ℕ → Whom
ahead xs [] = nobody
ahead [] (y ∷ ys) = thread 0
ahead (x ∷ xs) (y ∷ ys) = cond (ltb x y) (thread 0) (one_up (ahead xs ys))

-- "by 1": one more, but a u16 stays where it is largest (docs/DECISIONS.md, 34)
abbrev pub one_more : ℕ → ℕ
one_more n = cond (ltb n largest) (n + 1) n

-- "raise the own version, by 1": the thread's own part
unfoldable pub raised : List ℕ → ℕ → List ℕ
raised xs t = set xs t (one_more (get_or xs t 0))
