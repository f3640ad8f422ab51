-- The alternatives that a record has open: none is used or present, none is repeated, and a visit takes the first.
--     alternatives-length        they are as many as are open
--     unused, others             none is used, none is the present choice
--     alternatives-nodup         none is repeated
--     alternatives-turned        a visit takes the first
use Prim.Native.Nat.{ℕ, zero, suc, ◌+◌, ◌-◌, ◌≤◌, ◌<◌}
use mathlib.Core.List.Pairwise
use mathlib.Core.List.{List, [], ◌∷◌, map, Nodup, Pairwise-singleton}
use mathlib.Core.Bool.{Bool, true, false, cond, false≢true}
use mathlib.Core.Path.{◌≡◌, refl, ap, sym, ◌∙◌}
use mathlib.Core.Logic.{◌≢◌}
use native.Mathlib.Omega.{arith}
use native.Mathlib.Numerals.{add-one}
use lib.Dec.{eqb}
use lib.ListN.{length, get_or, set, drop, length-drop, length-map}
use lib.Seq.{drop-cons}
use borrow.Author.Tests.{eqb-true, ne_eqb}
use Rattle.rules.specs.Vector.{Whom, nobody, thread, one_up}
use Rattle.rules.specs.Path.{Branch, schedule, load, spurious, Schedule, Load, Choice, runs, reads, choice_of, pending, active, visited, first_in, active_in, to_visited, left, turned, pendings, open_at, turned_branch}
use Rattle.ledger.specs.History.{Every}
use Rattle.ledger.specs.Turning.{threads_from, running, alternatives}
use Rattle.ledger.proofs.States.{found, some-pending, left-first, turned-shape}
use Rattle.ledger.proofs.Records.{Used, open-pending, open-values, open-bit}
use Rattle.ledger.proofs.Proper.{Proper, One, turned-choice}
use Rattle.ledger.proofs.Lists.{every_map, every-of-map, nodup-map, rising-nodup, rising-drop, rising-at, threads-rising}

-- Their number

threads-length : (t : ℕ) (xs : List ℕ) → length (threads_from t pending xs) ≡ pendings xs
unfolding threads_from pendings
threads-length t [] = refl
threads-length t (x ∷ xs) = go (eqb x pending) (threads-length (t + 1) xs)
  where
    go : (b : Bool) → length (threads_from (t + 1) pending xs) ≡ pendings xs →
        length (cond b (t ∷ threads_from (t + 1) pending xs) (threads_from (t + 1) pending xs)) ≡ cond b 1 0 + pendings xs
    go true h = omega arith
    go false h = omega arith

length-cond : (x : Bool) (cs : List Choice) (n : ℕ) → length cs ≡ n → length (cond x cs []) ≡ cond x n 0
length-cond true cs n e = e
length-cond false cs n e = refl

pub alternatives-length : (b : Branch) → length (alternatives b) ≡ open_at b
unfolding alternatives open_at
alternatives-length (schedule s) =
    length-cond s.exploring (map running (threads_from 0 pending s.states)) (pendings s.states)
    (length-map (threads_from 0 pending s.states) running ∙ threads-length 0 s.states)
alternatives-length (load l) =
    length-cond l.exploring (map reads (drop (l.pos + 1) l.values)) (length l.values - 1 - l.pos)
    (rw (length-map (drop (l.pos + 1) l.values) reads, length-drop) (omega arith))
alternatives-length (spurious u) = length-cond u.exploring (cond u.bit [] (Choice.says true ∷ [])) (cond u.bit 0 1) (go u.bit)
  where
    go : (b : Bool) → length (cond b [] (Choice.says true ∷ [])) ≡ cond b 0 1
    go true = refl
    go false = refl

-- None is used, none is present

every-cond : (P : Choice → Type 0) (x : Bool) (cs : List Choice) → Every P cs → Every P (cond x cs [])
every-cond P true cs e = e
every-cond P false cs e = tt

threads-at : (t x : ℕ) (xs : List ℕ) → Every (λ u. (i : ℕ) × (u ≡ t + i) × (get_or xs i 0 ≡ x)) (threads_from t x xs)
unfolding threads_from
threads-at t x [] = tt
threads-at t x (y ∷ ys) =
    go (eqb y x) refl
    (every_map (λ u. (i : ℕ) × (u ≡ t + 1 + i) × (get_or ys i 0 ≡ x)) (λ u. (i : ℕ) × (u ≡ t + i) × (get_or {A = ℕ} (y ∷ ys) i 0 ≡ x)) (threads_from (t + 1) x ys)
    (λ u h. (suc h.0, omega (arith, h.1), h.2)) (threads-at (t + 1) x ys))
  where
    go : (b : Bool) → eqb y x ≡ b → Every (λ u. (i : ℕ) × (u ≡ t + i) × (get_or {A = ℕ} (y ∷ ys) i 0 ≡ x)) (threads_from (t + 1) x ys) →
        Every (λ u. (i : ℕ) × (u ≡ t + i) × (get_or {A = ℕ} (y ∷ ys) i 0 ≡ x)) (cond b (t ∷ threads_from (t + 1) x ys) (threads_from (t + 1) x ys))
    go true e h = ((0, omega arith, eqb-true y x e), h)
    go false e h = h

in-pending : (xs : List ℕ) → Every (λ u. get_or xs u 0 ≡ pending) (threads_from 0 pending xs)
in-pending xs =
    every_map (λ u. (i : ℕ) × (u ≡ 0 + i) × (get_or xs i 0 ≡ pending)) (λ u. get_or xs u 0 ≡ pending) (threads_from 0 pending xs)
    (λ u h. let e : u ≡ h.0 = omega (arith, h.1) in rw e h.2) (threads-at 0 pending xs)

drop_at : (m : ℕ) (xs : List ℕ) → Every (λ v. (k : ℕ) × (m ≤ k) × (k < length xs) × (v ≡ get_or xs k 0)) (drop m xs)
drop_at zero [] = tt
drop_at zero (x ∷ xs) = (
  (0, omega arith, omega arith, refl),
  every_map (λ v. (k : ℕ) × (0 ≤ k) × (k < length xs) × (v ≡ get_or xs k 0)) (λ v. (k : ℕ) × (0 ≤ k) × (k < suc (length xs)) × (v ≡ get_or {A = ℕ} (x ∷ xs) k 0)) xs
      (λ v h. (suc h.0, omega arith, omega (arith, h.2), h.3)) (drop_at zero xs),
)
drop_at (suc m) [] = tt
drop_at (suc m) (x ∷ xs) =
    every_map (λ v. (k : ℕ) × (m ≤ k) × (k < length xs) × (v ≡ get_or xs k 0)) (λ v. (k : ℕ) × (suc m ≤ k) × (k < suc (length xs)) × (v ≡ get_or {A = ℕ} (x ∷ xs) k 0)) (drop m xs)
    (λ v h. (suc h.0, omega (arith, h.1), omega (arith, h.2), h.3)) (drop_at m xs)

pub unused : (b : Branch) → Proper b → Every (λ a. Used b a → ⊥) (alternatives b)
unfolding alternatives
unused (schedule s) p =
    every-cond (λ a. Used (schedule s) a → ⊥) s.exploring (map running (threads_from 0 pending s.states))
    (every-of-map (λ a. Used (schedule s) a → ⊥) running (threads_from 0 pending s.states)
    (every_map (λ t. get_or s.states t 0 ≡ pending) (λ t. get_or s.states t 0 ≡ visited → ⊥) (threads_from 0 pending s.states)
    (λ t h v. omega arith) (in-pending s.states)))
unused (load l) p =
    every-cond (λ a. Used (load l) a → ⊥) l.exploring (map reads (drop (l.pos + 1) l.values))
    (every-of-map (λ a. Used (load l) a → ⊥) reads (drop (l.pos + 1) l.values)
    (every_map (λ v. (k : ℕ) × (l.pos + 1 ≤ k) × (k < length l.values) × (v ≡ get_or l.values k 0)) (λ v. Used (load l) (reads v) → ⊥) (drop (l.pos + 1) l.values)
    (λ v h u. let r = rising-at l.values u.0 h.0 p.0 (omega (arith, h.1, u.1)) h.2 in omega (arith, r, h.3, u.2))
    (drop_at (l.pos + 1) l.values)))
unused (spurious u) p = every-cond (λ a. Used (spurious u) a → ⊥) u.exploring (cond u.bit [] (Choice.says true ∷ [])) (go u.bit refl)
  where
    go : (b : Bool) → u.bit ≡ b → Every (λ a. Used (spurious u) a → ⊥) (cond b [] (Choice.says true ∷ []))
    go true e = tt
    go false e = (λ h. false≢true (sym h.0), tt)

pub others : (b : Branch) → Proper b → Every (λ a. a ≢ choice_of b) (alternatives b)
unfolding alternatives choice_of
others (schedule s) p =
    every-cond (λ a. a ≢ choice_of (schedule s)) s.exploring (map running (threads_from 0 pending s.states))
    (every-of-map (λ a. a ≢ choice_of (schedule s)) running (threads_from 0 pending s.states)
    (every_map (λ t. get_or s.states t 0 ≡ pending) (λ t. running t ≢ runs (active_in s.states)) (threads_from 0 pending s.states)
    (λ t h e. absurd-active t h (cc)) (in-pending s.states)))
  where
    absurd-active : (t : ℕ) → get_or s.states t 0 ≡ pending → active_in s.states ≡ thread t → ⊥
    absurd-active t h e = let a = found active s.states t e in omega arith
others (load l) p =
    every-cond (λ a. a ≢ choice_of (load l)) l.exploring (map reads (drop (l.pos + 1) l.values))
    (every-of-map (λ a. a ≢ choice_of (load l)) reads (drop (l.pos + 1) l.values)
    (every_map (λ v. (k : ℕ) × (l.pos + 1 ≤ k) × (k < length l.values) × (v ≡ get_or l.values k 0)) (λ v. reads v ≢ reads (get_or l.values l.pos 0)) (drop (l.pos + 1) l.values)
    (λ v h. differs v h.0 h.1 h.2 h.3)
    (drop_at (l.pos + 1) l.values)))
  where
    differs : (v k : ℕ) → l.pos + 1 ≤ k → k < length l.values → v ≡ get_or l.values k 0 → reads v ≢ reads (get_or l.values l.pos 0)
    differs v k a b e f =
        let r = rising-at l.values l.pos k p.0 (omega arith) b in
        let z : v ≡ get_or l.values l.pos 0 = cc in
        omega arith
others (spurious u) p = every-cond (λ a. a ≢ Choice.says u.bit) u.exploring (cond u.bit [] (Choice.says true ∷ [])) (go u.bit)
  where
    go : (b : Bool) → Every (λ a. a ≢ Choice.says b) (cond b [] (Choice.says true ∷ []))
    go true = tt
    go false = (λ e. let z : false ≡ true = cc in false≢true z, tt)

-- None is repeated

nodup-cond : (x : Bool) (cs : List Choice) → Nodup cs → Nodup (cond x cs [])
nodup-cond true cs n = n
nodup-cond false cs n = Pairwise.nil

pub alternatives-nodup : (b : Branch) → Proper b → Nodup (alternatives b)
unfolding alternatives
alternatives-nodup (schedule s) p =
    nodup-cond s.exploring (map running (threads_from 0 pending s.states))
    (nodup-map running (λ x y e. cc) (threads_from 0 pending s.states) (rising-nodup (threads_from 0 pending s.states) (threads-rising 0 pending s.states)))
alternatives-nodup (load l) p =
    nodup-cond l.exploring (map reads (drop (l.pos + 1) l.values))
    (nodup-map reads (λ x y e. cc) (drop (l.pos + 1) l.values)
    (rising-nodup (drop (l.pos + 1) l.values) (rising-drop (l.pos + 1) l.values p.0)))
alternatives-nodup (spurious u) p = nodup-cond u.exploring (cond u.bit [] (Choice.says true ∷ [])) (go u.bit)
  where
    go : (b : Bool) → Nodup (cond b [] (Choice.says true ∷ []))
    go true = Pairwise.nil
    go false = Pairwise-singleton (λ (a b : Choice). a ≢ b) (Choice.says true)

-- A visit takes the first

threads-first : (t p : ℕ) (xs : List ℕ) (y : ℕ) → y ≢ pending → first_in pending xs ≡ thread p →
    threads_from t pending xs ≡ (t + p) ∷ threads_from t pending (set xs p y)
unfolding threads_from first_in
threads-first t p [] y n e = let z : ◌≡◌ {A = ℕ} 0 1 = cc in absurd (omega arith)
threads-first t p (x ∷ xs) y n e = go (eqb x pending) refl (first_in pending xs) refl e (λ q k. threads-first (t + 1) q xs y n k)
  where
    go : (b : Bool) → eqb x pending ≡ b → (w : Whom) → first_in pending xs ≡ w → cond b (thread 0) (one_up w) ≡ thread p →
        ((q : ℕ) → first_in pending xs ≡ thread q → threads_from (t + 1) pending xs ≡ (t + 1 + q) ∷ threads_from (t + 1) pending (set xs q y)) →
        cond b (t ∷ threads_from (t + 1) pending xs) (threads_from (t + 1) pending xs) ≡ (t + p) ∷ threads_from t pending (set (x ∷ xs) p y)
    go true f w k e r =
        let z : p ≡ 0 = cc in
        let i : t + 0 ≡ t = omega arith in
        rw (z, ne_eqb y pending n, i)
    go false f nobody k e r = let z : ◌≡◌ {A = ℕ} 0 1 = cc in absurd (omega arith)
    go false f (thread q) k e r =
        let z : p ≡ q + 1 = cc in
        let i : t + (q + 1) ≡ t + 1 + q = omega arith in
        rw (z, i, add-one q, f) (r q k)

threads-visited : (t a : ℕ) (xs : List ℕ) → get_or xs a 0 ≡ active → threads_from t pending (set xs a visited) ≡ threads_from t pending xs
unfolding threads_from
threads-visited t a [] e = refl
threads-visited t zero (x ∷ xs) e = rw e
threads-visited t (suc a) (x ∷ xs) e = rw (threads-visited (t + 1) a xs e)

threads-left : (xs : List ℕ) → threads_from 0 pending (left xs) ≡ threads_from 0 pending xs
threads-left xs = go (active_in xs) refl
  where
    go : (w : Whom) → active_in xs ≡ w → threads_from 0 pending (to_visited w xs) ≡ threads_from 0 pending xs
    go nobody e = refl
    go (thread a) e = threads-visited 0 a xs (found active xs a e).1

threads-turned : (xs : List ℕ) (p : ℕ) → first_in pending xs ≡ thread p → threads_from 0 pending xs ≡ p ∷ threads_from 0 pending (turned xs)
threads-turned xs p e =
    let f = threads-first 0 p (left xs) active (λ z. omega arith) (left-first xs ∙ e) in
    let i : 0 + p ≡ p = omega arith in
    rw (turned-shape xs p e) (sym (threads-left xs) ∙ f ∙ ap (λ (k : ℕ). k ∷ threads_from 0 pending (set (left xs) p active)) i)

open-exploring : (x : Bool) (n : ℕ) → 0 < cond x n 0 → x ≡ true
open-exploring true n h = refl
open-exploring false n h = absurd (omega arith)

schedule-turned : (s : Schedule) → s.exploring ≡ true → One s.states → 0 < pendings s.states →
    alternatives (schedule s) ≡ choice_of (turned_branch (schedule s)) ∷ alternatives (turned_branch (schedule s))
unfolding alternatives turned_branch choice_of
schedule-turned s x p h =
    let q = some-pending s.states h in
    let e = threads-turned s.states q.0 q.1 in
    let f = turned-choice s.states q.0 q.1 p in
    rw (x, e, f)

load-turned : (l : Load) → l.exploring ≡ true → l.pos + 1 < length l.values →
    alternatives (load l) ≡ choice_of (turned_branch (load l)) ∷ alternatives (turned_branch (load l))
unfolding alternatives turned_branch choice_of
load-turned l x h =
    let e = drop-cons l.values (l.pos + 1) 0 h in
    let i : l.pos + 1 + 1 ≡ suc (l.pos + 1) = omega arith in
    rw (x, e, i)

pub alternatives-turned : (b : Branch) → Proper b → 0 < open_at b →
    alternatives b ≡ choice_of (turned_branch b) ∷ alternatives (turned_branch b)
unfolding alternatives turned_branch choice_of open_at
alternatives-turned (schedule s) p h = schedule-turned s (open-exploring s.exploring (pendings s.states) h) p (open-pending s h)
alternatives-turned (load l) p h = load-turned l (open-exploring l.exploring (length l.values - 1 - l.pos) h) (open-values l h)
alternatives-turned (spurious u) p h = rw (open-exploring u.exploring (cond u.bit 0 1) h, open-bit u h)
