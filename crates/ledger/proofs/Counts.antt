-- Laws of the two counts of a path, opened and open, each over plain lists. Assumes nothing.
--     pendings-..        the Pending threads of a schedule: under set, seeds and turning
--     open_in-..          what is open in a path: under set and append
--     turned-open        a branch at its next choice has one less open
--     stepped-..         the next path has one less open; where nothing is open there is none
use Prim.Native.Nat.{ℕ, zero, suc, ◌+◌, ◌-◌, ◌≤◌, ◌<◌}
use mathlib.Core.List.{List, [], ◌∷◌, ◌++◌, map}
use mathlib.Core.Bool.{Bool, true, false}
use mathlib.Core.Path.{◌≡◌, refl, ◌∙◌}
use mathlib.Core.Logic.{◌⊎◌, inl, inr, ⊎_elim}
use native.Mathlib.Omega.{arith}
use lib.Dec.{eqb}
use lib.ListN.{length, get_or, set}
use borrow.Author.Tests.{eqb-true, lt-ltb, le-ltb}
use Rattle.rules.specs.Vector.{Whom, nobody, thread, one_up}
use Rattle.rules.specs.Path.{Branch, schedule, load, spurious, yield, pending, active, visited}
use Rattle.rules.specs.Path.{first_in, active_in, to_active, unless_active, toggled, is_pending, pendings}
use Rattle.rules.specs.Path.{open_at, open_in, to_visited, left, turned, turned_branch, or_turned, stepped, no_branch}
use Rattle.rules.specs.Event.{Standing, yielded, cannot_run, other}
use Rattle.rules.specs.Explorer.{seed_state, seed_of}

pub flag : (b : Bool) → (b ≡ true) ⊎ (b ≡ false)
flag true = inl refl
flag false = inr refl

-- Pending threads

-- one state put in a place: what it counts for replaces what stood there
pub pendings-set : (xs : List ℕ) (t v d : ℕ) → t < length xs → pendings (set xs t v) + is_pending (get_or xs t d) ≡ pendings xs + is_pending v
unfolding pendings
pendings-set [] t v d h = absurd (omega arith)
pendings-set (x ∷ xs) zero v d h = omega arith
pendings-set (x ∷ xs) (suc t) v d h = omega (arith, pendings-set xs t v d (omega arith))

-- a state that is not Pending adds none
pub pendings-lower : (xs : List ℕ) (t v : ℕ) → is_pending v ≡ 0 → pendings (set xs t v) ≤ pendings xs
unfolding pendings
pendings-lower [] t v e = omega arith
pendings-lower (x ∷ xs) zero v e = omega arith
pendings-lower (x ∷ xs) (suc t) v e = omega (arith, pendings-lower xs t v e)

-- The first in a state

next_of : (w : Whom) (k : ℕ) → one_up w ≡ thread k → (m : ℕ) × (w ≡ thread m) × (k ≡ suc m)
next_of nobody k e = let z : ◌≡◌ {A = ℕ} 0 1 = cc in absurd (omega arith)
next_of (thread t) k e = let z : k ≡ t + 1 = cc in (t, refl, omega arith)

next-none : (w : Whom) → one_up w ≡ nobody → w ≡ nobody
next-none nobody e = refl
next-none (thread t) e = let z : ◌≡◌ {A = ℕ} 0 1 = cc in absurd (omega arith)

-- the thread named is in that state
pub first_in-there : (x d : ℕ) (xs : List ℕ) (t : ℕ) → first_in x xs ≡ thread t → (t < length xs) × (get_or xs t d ≡ x)
unfolding first_in
first_in-there x d [] t e = let z : ◌≡◌ {A = ℕ} 0 1 = cc in absurd (omega arith)
first_in-there x d (s ∷ xs) t e =
    ⊎_elim
    (λ (a : eqb s x ≡ true). let z : t ≡ 0 = cc (a) in rw z (omega arith, eqb-true s x a))
    (λ (a : eqb s x ≡ false).
    let q : one_up (first_in x xs) ≡ thread t = rw a at e in
    let m = next_of (first_in x xs) t q in
    let h = first_in-there x d xs m.0 m.1 in
    rw m.2 (omega (arith, h.0), h.1))
    (flag (eqb s x))

-- where nobody is Pending none is counted
pub first_in-none : (xs : List ℕ) → first_in pending xs ≡ nobody → pendings xs ≡ 0
unfolding first_in pendings
first_in-none [] e = refl
first_in-none (s ∷ xs) e =
    ⊎_elim
    (λ (a : eqb s pending ≡ true). let z : ◌≡◌ {A = ℕ} 0 1 = cc in absurd (omega arith))
    (λ (a : eqb s pending ≡ false).
    let q : one_up (first_in pending xs) ≡ nobody = rw a at e in
    rw a (omega (arith, first_in-none xs (next-none (first_in pending xs) q))))
    (flag (eqb s pending))

-- Seeds

-- a seed has no Pending
pub pendings-seed : (standings : List Standing) → pendings (map seed_state standings) ≡ 0
unfolding pendings
pendings-seed [] = refl
pendings-seed (yielded ∷ more) = omega (arith, pendings-seed more)
pendings-seed (cannot_run ∷ more) = omega (arith, pendings-seed more)
pendings-seed (other ∷ more) = omega (arith, pendings-seed more)

to_active-lower : (w : Whom) (xs : List ℕ) → pendings (to_active w xs) ≤ pendings xs
to_active-lower nobody xs = omega arith
to_active-lower (thread t) xs = pendings-lower xs t active refl

unless_active-lower : (w : Whom) (xs : List ℕ) → pendings (unless_active w xs) ≤ pendings xs
unless_active-lower nobody xs = to_active-lower (first_in yield xs) xs
unless_active-lower (thread t) xs = omega arith

pub pendings-toggled : (xs : List ℕ) → pendings (toggled xs) ≤ pendings xs
unfolding toggled
pendings-toggled xs = unless_active-lower (active_in xs) xs

pub pendings-seed_of : (initial : Whom) (standings : List Standing) → pendings (toggled (seed_of initial standings)) ≡ 0
unfolding seed_of
pendings-seed_of initial standings =
    let seed = map seed_state standings in
    omega (arith, pendings-toggled (to_active initial seed), to_active-lower initial seed, pendings-seed standings)

-- Turning

-- the Active was not Pending, so its visit counts for nothing
left-pendings : (w : Whom) (xs : List ℕ) → active_in xs ≡ w → pendings (to_visited w xs) ≡ pendings xs
left-pendings nobody xs e = refl
left-pendings (thread t) xs e =
    let h = first_in-there active 0 xs t e in
    let z : is_pending (get_or xs t 0) ≡ 0 = rw h.1 in
    omega (arith, pendings-set xs t visited 0 h.0)

-- the first Pending that becomes Active is one less
first-turned : (w : Whom) (xs : List ℕ) → first_in pending xs ≡ w → 0 < pendings xs → pendings (to_active w xs) + 1 ≡ pendings xs
first-turned nobody xs e p = absurd (omega (arith, first_in-none xs e))
first-turned (thread t) xs e p =
    let h = first_in-there pending 0 xs t e in
    let z : is_pending (get_or xs t 0) ≡ 1 = rw h.1 in
    omega (arith, pendings-set xs t active 0 h.0)

pub pendings-turned : (xs : List ℕ) → 0 < pendings xs → pendings (turned xs) + 1 ≡ pendings xs
unfolding turned
pendings-turned xs p =
    let e = left-pendings (active_in xs) xs refl in
    first-turned (first_in pending (left xs)) (left xs) refl (omega arith) ∙ e

-- a branch at its next choice has one less open
pub turned-open : (b : Branch) → 0 < open_at b → open_at (turned_branch b) + 1 ≡ open_at b
unfolding open_at turned_branch
turned-open (schedule s) p =
    ⊎_elim
    (λ (e : s.exploring ≡ true). rw e (pendings-turned s.states (rw e at p)))
    (λ (e : s.exploring ≡ false). let q : 0 < 0 = rw e at p in absurd (omega arith))
    (flag s.exploring)
turned-open (load l) p =
    ⊎_elim
    (λ (e : l.exploring ≡ true).
    let q : 0 < length l.values - 1 - l.pos = rw e at p in
    rw e (omega arith))
    (λ (e : l.exploring ≡ false). let q : 0 < 0 = rw e at p in absurd (omega arith))
    (flag l.exploring)
turned-open (spurious u) p =
    ⊎_elim
    (λ (e : u.exploring ≡ true).
    ⊎_elim
    (λ (f : u.bit ≡ true). let q : 0 < 0 = rw (e, f) at p in absurd (omega arith))
    (λ (f : u.bit ≡ false). rw (e, f))
    (flag u.bit))
    (λ (e : u.exploring ≡ false). let q : 0 < 0 = rw e at p in absurd (omega arith))
    (flag u.exploring)

-- What is open in a path

pub open_in-set : (bs : List Branch) (k : ℕ) (b : Branch) → k < length bs → open_in (set bs k b) + open_at (get_or bs k no_branch) ≡ open_in bs + open_at b
unfolding open_in
open_in-set [] k b h = absurd (omega arith)
open_in-set (c ∷ cs) zero b h = omega arith
open_in-set (c ∷ cs) (suc k) b h = omega (arith, open_in-set cs k b (omega arith))

pub open_in-append : (bs cs : List Branch) → open_in (bs ++ cs) ≡ open_in bs + open_in cs
unfolding open_in
open_in-append [] cs = omega arith
open_in-append (b ∷ bs) cs = omega (arith, open_in-append bs cs)

pub open_in-added : (bs : List Branch) (b : Branch) → open_in (bs ++ (b ∷ [])) ≡ open_in bs + open_at b
unfolding open_in
open_in-added bs b = omega (arith, open_in-append bs (b ∷ []))

-- Stepping

-- where nothing is open there is no next path
pub stepped-none : (bs : List Branch) → open_in bs ≡ 0 → stepped bs ≡ []
unfolding open_in stepped
stepped-none [] e = refl
stepped-none (b ∷ bs) e =
    let t : stepped bs ≡ [] = stepped-none bs (omega arith) in
    rw (t, le-ltb 0 (open_at b) (omega arith))

-- where something is open there is one
abbrev pub Some : List Branch → Type 0
Some bs = (c : Branch) × (cs : List Branch) × (bs ≡ c ∷ cs)

stays : (bs : List Branch) (b : Branch) → Some bs → or_turned bs b ≡ b ∷ bs
stays bs b s = rw s.2

-- a branch with a path after it: what is open there decides
step-some : (b : Branch) (bs : List Branch) → 0 < open_at b + open_in bs → (0 < open_in bs → Some (stepped bs)) → (n : ℕ) → open_in bs ≡ n → Some (or_turned (stepped bs) b)
step-some b bs p more zero e = (turned_branch b, [], rw (stepped-none bs e, lt-ltb 0 (open_at b) (omega arith)))
step-some b bs p more (suc n) e = (b, stepped bs, stays (stepped bs) b (more (omega arith)))

pub stepped-some : (bs : List Branch) → 0 < open_in bs → Some (stepped bs)
unfolding open_in stepped
stepped-some [] p = absurd (omega arith)
stepped-some (b ∷ bs) p = step-some b bs p (λ q. stepped-some bs q) (open_in bs) refl

step-open : (b : Branch) (bs : List Branch) → 0 < open_at b + open_in bs → (0 < open_in bs → open_in (stepped bs) + 1 ≡ open_in bs) → (n : ℕ) → open_in bs ≡ n →
    open_in (or_turned (stepped bs) b) + 1 ≡ open_at b + open_in bs
unfolding open_in
step-open b bs p more zero e =
    let q : 0 < open_at b = omega arith in
    rw (stepped-none bs e, lt-ltb 0 (open_at b) q) (omega (arith, turned-open b q))
step-open b bs p more (suc n) e =
    let q : 0 < open_in bs = omega arith in
    rw (stays (stepped bs) b (stepped-some bs q)) (omega (arith, more q))

-- "`step`": the next path has one less open
pub stepped-open : (bs : List Branch) → 0 < open_in bs → open_in (stepped bs) + 1 ≡ open_in bs
unfolding open_in stepped
stepped-open [] p = absurd (omega arith)
stepped-open (b ∷ bs) p = step-open b bs p (λ q. stepped-open bs q) (open_in bs) refl
