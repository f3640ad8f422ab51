-- The states of a schedule, and what a visit does to them.
--     found, present, some-pending       the lowest thread in a state
--     turned-shape                       a visit: the Active becomes Visited and the first Pending Active
--     turned-visited, turned-leaves      what was Visited stays so, and the Active becomes so
use Prim.Native.Nat.{ℕ, zero, suc, ◌+◌, ◌<◌}
use mathlib.Core.List.{List, [], ◌∷◌}
use mathlib.Core.Bool.{Bool, true, false, cond}
use mathlib.Core.Path.{◌≡◌, refl, ap, ◌∙◌}
use mathlib.Core.Logic.{◌≢◌}
use native.Mathlib.Omega.{arith}
use lib.Dec.{eqb}
use lib.ListN.{length, get_or, set, length-set}
use lib.Seq.{get_or-set_same, get_or-set_other}
use borrow.Author.Tests.{eq-eqb}
use Rattle.rules.specs.Vector.{Whom, nobody, thread, one_up}
use Rattle.rules.specs.Path.{pending, active, visited, first_in, active_in, to_visited, left, turned, pendings}
use Rattle.ledger.proofs.Counts.{first_in-there}

-- The lowest thread in a state

pub found : (x : ℕ) (xs : List ℕ) (t : ℕ) → first_in x xs ≡ thread t → (t < length xs) × (get_or xs t 0 ≡ x)
found x xs t e = first_in-there x 0 xs t e

pub present : (x : ℕ) (xs : List ℕ) (t : ℕ) → t < length xs → get_or xs t 0 ≡ x → first_in x xs ≢ nobody
unfolding first_in
present x [] t h e f = absurd (omega arith)
present x (y ∷ ys) zero h e f = let k : eqb y x ≡ true = eq-eqb y x e in let z : ◌≡◌ {A = ℕ} 0 1 = cc (rw k at f) in absurd (omega arith)
present x (y ∷ ys) (suc t) h e f = go (eqb y x) (first_in x ys) (present x ys t (omega arith) e) f
  where
    go : (b : Bool) (w : Whom) → w ≢ nobody → cond b (thread 0) (one_up w) ≢ nobody
    go true w n g = let z : ◌≡◌ {A = ℕ} 0 1 = cc in absurd (omega arith)
    go false nobody n g = n refl
    go false (thread m) n g = let z : ◌≡◌ {A = ℕ} 0 1 = cc in absurd (omega arith)

-- where something is Pending there is a first one
pub some-pending : (xs : List ℕ) → 0 < pendings xs → (p : ℕ) × (first_in pending xs ≡ thread p)
unfolding first_in pendings
some-pending [] h = absurd (omega arith)
some-pending (y ∷ ys) h = go (eqb y pending) h (λ k. some-pending ys k)
  where
    go : (b : Bool) → 0 < cond b 1 0 + pendings ys → (0 < pendings ys → (p : ℕ) × (first_in pending ys ≡ thread p)) →
        (p : ℕ) × (cond b (thread 0) (one_up (first_in pending ys)) ≡ thread p)
    go true h r = (0, refl)
    go false h r = let q = r (omega arith) in (q.0 + 1, ap one_up q.1)

-- A visit

set-visited-first : (xs : List ℕ) (a : ℕ) → get_or xs a 0 ≡ active → first_in pending (set xs a visited) ≡ first_in pending xs
unfolding first_in
set-visited-first [] a e = refl
set-visited-first (x ∷ xs) zero e = rw e
set-visited-first (x ∷ xs) (suc a) e = rw (set-visited-first xs a e)

pub left-first : (xs : List ℕ) → first_in pending (left xs) ≡ first_in pending xs
left-first xs = go (active_in xs) refl
  where
    go : (w : Whom) → active_in xs ≡ w → first_in pending (to_visited w xs) ≡ first_in pending xs
    go nobody e = refl
    go (thread a) e = set-visited-first xs a (found active xs a e).1

pub turned-shape : (xs : List ℕ) (p : ℕ) → first_in pending xs ≡ thread p → turned xs ≡ set (left xs) p active
unfolding turned
turned-shape xs p e = rw (left-first xs ∙ e)

pub left_at : (xs : List ℕ) (p : ℕ) → first_in pending xs ≡ thread p → (p < length (left xs)) × (get_or (left xs) p 0 ≡ pending)
left_at xs p e = found pending (left xs) p (left-first xs ∙ e)

set-visited : (xs : List ℕ) (a t : ℕ) → get_or xs t 0 ≡ visited → get_or (set xs a visited) t 0 ≡ visited
set-visited [] a t e = e
set-visited (x ∷ xs) zero zero e = refl
set-visited (x ∷ xs) zero (suc t) e = e
set-visited (x ∷ xs) (suc a) zero e = e
set-visited (x ∷ xs) (suc a) (suc t) e = set-visited xs a t e

left-visited : (xs : List ℕ) (t : ℕ) → get_or xs t 0 ≡ visited → get_or (left xs) t 0 ≡ visited
left-visited xs t e = go (active_in xs)
  where
    go : (w : Whom) → get_or (to_visited w xs) t 0 ≡ visited
    go nobody = e
    go (thread a) = set-visited xs a t e

left-leaves : (xs : List ℕ) (a : ℕ) → active_in xs ≡ thread a → get_or (left xs) a 0 ≡ visited
left-leaves xs a e = rw e (get_or-set_same xs a visited 0 (found active xs a e).0)

past-turn : (xs : List ℕ) (t : ℕ) → 0 < pendings xs → get_or (left xs) t 0 ≡ visited → get_or (turned xs) t 0 ≡ visited
past-turn xs t h e =
    let q = some-pending xs h in
    let r = left_at xs q.0 q.1 in
    let n : t ≢ q.0 = λ z. let y : get_or (left xs) t 0 ≡ pending = rw z r.1 in omega arith in
    rw (turned-shape xs q.0 q.1) (get_or-set_other (left xs) q.0 t active 0 n ∙ e)

pub turned-visited : (xs : List ℕ) (t : ℕ) → 0 < pendings xs → get_or xs t 0 ≡ visited → get_or (turned xs) t 0 ≡ visited
turned-visited xs t h e = past-turn xs t h (left-visited xs t e)

pub turned-leaves : (xs : List ℕ) (a : ℕ) → 0 < pendings xs → active_in xs ≡ thread a → get_or (turned xs) a 0 ≡ visited
turned-leaves xs a h e = past-turn xs a h (left-leaves xs a e)

-- after a visit some thread is Active
pub turned-someone : (xs : List ℕ) → 0 < pendings xs → active_in (turned xs) ≢ nobody
turned-someone xs h =
    let q = some-pending xs h in
    let r = left_at xs q.0 q.1 in
    rw (turned-shape xs q.0 q.1)
    (present active (set (left xs) q.0 active) q.0 (rw length-set r.0) (get_or-set_same (left xs) q.0 active 0 r.0))
