-- The laws of the schedules of a path and of their prevs, over lists of branches. Assumes nothing.
--     schedule-there, stands-inside    a schedule that stands in a path
--     below-..                         one branch more among those that are looked at
--     Newest, newest-is, none_below    the newest schedule below a place, and where there is none
--     last-below                       the newest of all is the last
--     skeleton, prevs-set              another branch in the place of one that has the same prev
--     prevs-added, prevs-front         a branch more at the end, and fewer
--     Standing, switch-stands          what is found stands in the path
use Prim.Native.Nat.{ℕ, zero, suc, ◌+◌, ◌≤◌, ◌<◌}
use mathlib.Core.List.{List, [], ◌∷◌, ◌++◌}
use mathlib.Core.Bool.{Bool, true, false, cond, not, ◌&&◌}
use mathlib.Core.Path.{◌≡◌, refl, ap, sym, subst, ◌∙◌}
use native.Mathlib.Omega.{arith}
use borrow.Author.Tests.{ltb-true, ltb-false, eqb-true, eqb-false}
use lib.Dec.{ltb, eqb}
use lib.ListN.{length, get_or, set, take, length-append, get_or-append, get_or-eq_default}
use lib.Seq.{take-suc, take_all, length-take-le, get_or-set_same, get_or-set_other, get_or_at}
use Rattle.rules.specs.Path.{Branch, Schedule, ScheduleAt, Placed, schedule, load, spurious, none, at, no_branch, the_schedule, schedule_at, and_schedule, schedules_below, switch_in, if_exploring, active_of, last_schedule, or_first, one_further, prev_of}
use Rattle.path.specs.Holds.{last_in, Prevs}
use Rattle.path.specs.Walks.{StandsIn}

-- A schedule that stands in a path

pub schedule-there : (bs : List Branch) (k : ℕ) (s : Schedule) → get_or bs k no_branch ≡ schedule s → schedule_at bs k ≡ at k s
unfolding schedule_at
schedule-there bs k s e = ap (the_schedule k) e

inside-by : (bs : List Branch) (k : ℕ) (s : Schedule) → get_or bs k no_branch ≡ schedule s → (t : Bool) → ltb k (length bs) ≡ t → k < length bs
inside-by bs k s e true f = ltb-true k (length bs) f
inside-by bs k s e false f =
    let d : get_or bs k no_branch ≡ no_branch = get_or-eq_default bs no_branch {n = k} (ltb-false k (length bs) f) in
    let z : ◌≡◌ {A = ℕ} 0 1 = cc in
    absurd (omega arith)

pub stands-inside : (bs : List Branch) (k : ℕ) (s : Schedule) → get_or bs k no_branch ≡ schedule s → k < length bs
stands-inside bs k s e = inside-by bs k s e (ltb k (length bs)) refl

-- One branch more

abbrev placed : ℕ → Schedule → Placed
placed k s = record { place = k; schedule = s }

and-other : (k : ℕ) (b : Branch) (m : List Placed) → the_schedule k b ≡ none → and_schedule k b m ≡ m
and-other k (schedule s) m e = let z : ◌≡◌ {A = ℕ} 0 1 = cc in absurd (omega arith)
and-other k (load l) m e = refl
and-other k (spurious u) m e = refl

module _ (bs : List Branch) (k : ℕ) where
  pub below-here : (s : Schedule) → get_or bs k no_branch ≡ schedule s → schedules_below bs (suc k) ≡ placed k s ∷ schedules_below bs k
  unfolding schedules_below
  below-here s e = ap (λ (b : Branch). and_schedule k b (schedules_below bs k)) e

  pub below_other : schedule_at bs k ≡ none → schedules_below bs (suc k) ≡ schedules_below bs k
  unfolding schedules_below schedule_at
  below_other e = and-other k (get_or bs k no_branch) (schedules_below bs k) e

-- The newest below a place

pub record Newest (bs : List Branch) (k p : ℕ) (q : Schedule) : Type 0 where
  pub below : p < k
  pub stands : get_or bs p no_branch ≡ schedule q
  pub same : schedules_below bs k ≡ schedules_below bs (suc p)

newest-on : (bs : List Branch) (k p : ℕ) (q : Schedule) (b : Branch) → get_or bs k no_branch ≡ b → (last_in (schedules_below bs k) ≡ at p q → Newest bs k p q) → last_in (and_schedule k b (schedules_below bs k)) ≡ at p q → Newest bs (suc k) p q
unfolding schedule_at
newest-on bs k p q (schedule s) e ih h =
    let f : k ≡ p = cc in
    let g : s ≡ q = cc in
    record {
      below = omega arith;
      stands = ap (λ (m : ℕ). get_or bs m no_branch) (sym f) ∙ e ∙ ap schedule g;
      same = ap (λ (m : ℕ). schedules_below bs (suc m)) f;
    }
newest-on bs k p q (load l) e ih h =
    let n : Newest bs k p q = ih h in
    record { below = omega (arith, n.below); stands = n.stands; same = below_other bs k (ap (the_schedule k) e) ∙ n.same }
newest-on bs k p q (spurious u) e ih h =
    let n : Newest bs k p q = ih h in
    record { below = omega (arith, n.below); stands = n.stands; same = below_other bs k (ap (the_schedule k) e) ∙ n.same }

pub newest-is : (bs : List Branch) (k p : ℕ) (q : Schedule) → last_in (schedules_below bs k) ≡ at p q → Newest bs k p q
unfolding schedules_below
newest-is bs zero p q h = let z : ◌≡◌ {A = ℕ} 0 1 = cc in absurd (omega arith)
newest-is bs (suc k) p q h = newest-on bs k p q (get_or bs k no_branch) refl (newest-is bs k p q) h

empty-is : (l : List Placed) → last_in l ≡ none → l ≡ []
empty-is [] e = refl
empty-is (a ∷ l) e = let z : ◌≡◌ {A = ℕ} 0 1 = cc in absurd (omega arith)

pub none_is : (bs : List Branch) (k : ℕ) → last_in (schedules_below bs k) ≡ none → schedules_below bs k ≡ []
none_is bs k e = empty-is (schedules_below bs k) e

-- where there is none, no place below has one
some-on : (bs : List Branch) (k p : ℕ) (q : Schedule) → (p < k → schedules_below bs k ≡ [] → ⊥) → p < suc k → get_or bs p no_branch ≡ schedule q → (b : Branch) → get_or bs k no_branch ≡ b → and_schedule k b (schedules_below bs k) ≡ [] → (t : Bool) → eqb p k ≡ t → ⊥
some-on bs k p q ih l e (schedule s) f g t i = let z : ◌≡◌ {A = ℕ} 0 1 = cc in omega arith
some-on bs k p q ih l e (load m) f g true i =
    let x : get_or bs k no_branch ≡ schedule q = ap (λ (n : ℕ). get_or bs n no_branch) (sym (eqb-true p k i)) ∙ e in
    let z : ◌≡◌ {A = ℕ} 0 1 = cc in
    omega arith
some-on bs k p q ih l e (load m) f g false i = ih (omega (arith, eqb-false p k i)) g
some-on bs k p q ih l e (spurious u) f g true i =
    let x : get_or bs k no_branch ≡ schedule q = ap (λ (n : ℕ). get_or bs n no_branch) (sym (eqb-true p k i)) ∙ e in
    let z : ◌≡◌ {A = ℕ} 0 1 = cc in
    omega arith
some-on bs k p q ih l e (spurious u) f g false i = ih (omega (arith, eqb-false p k i)) g

some_below : (bs : List Branch) (k p : ℕ) (q : Schedule) → p < k → get_or bs p no_branch ≡ schedule q → schedules_below bs k ≡ [] → ⊥
unfolding schedules_below
some_below bs zero p q l e h = omega arith
some_below bs (suc k) p q l e h = some-on bs k p q (λ m g. some_below bs k p q m e g) l e (get_or bs k no_branch) refl h (eqb p k) refl

pub none_below : (bs : List Branch) (k p : ℕ) (q : Schedule) → last_in (schedules_below bs k) ≡ none → p < k → get_or bs p no_branch ≡ schedule q → ⊥
none_below bs k p q e l f = some_below bs k p q l f (none_is bs k e)

-- The last of all

pub last-here : (xs : List Branch) (s : Schedule) → last_schedule (xs ++ (schedule s ∷ [])) ≡ at (length xs) s
unfolding last_schedule
last-here [] s = refl
last-here (x ∷ xs) s =
    let e : length xs + 1 ≡ suc (length xs) = omega arith in
    ap (λ (l : ScheduleAt). or_first (one_further l) x) (last-here xs s) ∙ ap (λ (m : ℕ). at m s) e

first-other : (b : Branch) (k : ℕ) → the_schedule k b ≡ none → or_first none b ≡ none
first-other (schedule s) k e = let z : ◌≡◌ {A = ℕ} 0 1 = cc in absurd (omega arith)
first-other (load l) k e = refl
first-other (spurious u) k e = refl

pub last-other : (xs : List Branch) (b : Branch) (k : ℕ) → the_schedule k b ≡ none → last_schedule (xs ++ (b ∷ [])) ≡ last_schedule xs
unfolding last_schedule
last-other [] b k e = first-other b k e
last-other (x ∷ xs) b k e = ap (λ (l : ScheduleAt). or_first (one_further l) x) (last-other xs b k e)

last_on : (k : ℕ) (b : Branch) (xs : List Branch) (m : List Placed) → length xs ≡ k → last_in m ≡ last_schedule xs → last_in (and_schedule k b m) ≡ last_schedule (xs ++ (b ∷ []))
last_on k (schedule s) xs m l e = sym (last-here xs s ∙ ap (λ (n : ℕ). at n s) l)
last_on k (load u) xs m l e = e ∙ sym (last-other xs (load u) k refl)
last_on k (spurious u) xs m l e = e ∙ sym (last-other xs (spurious u) k refl)

last-to : (bs : List Branch) (n : ℕ) → n ≤ length bs → last_in (schedules_below bs n) ≡ last_schedule (take n bs)
unfolding schedules_below last_schedule
last-to bs zero h = refl
last-to bs (suc n) h =
    last_on n (get_or bs n no_branch) (take n bs) (schedules_below bs n) (length-take-le n bs (omega arith)) (last-to bs n (omega arith))
    ∙ ap last_schedule (sym (take-suc bs n no_branch (omega arith)))

pub last-below : (bs : List Branch) → last_in (schedules_below bs (length bs)) ≡ last_schedule bs
last-below bs = last-to bs (length bs) (omega arith) ∙ ap last_schedule (take_all (length bs) bs (omega arith))

-- Another branch in the place of one: all that the prevs depend on is which branches are schedules, and the prev of each

abbrev pub skeleton : Branch → Branch
skeleton (schedule s) = schedule (record { exploring = false; states = []; preemptions = 0; initial = 0; prev = s.prev })
skeleton (load l) = no_branch
skeleton (spurious u) = no_branch

abbrev Alike : List Branch → List Branch → Type 0
Alike bs cs = (j : ℕ) → skeleton (get_or bs j no_branch) ≡ skeleton (get_or cs j no_branch)

same_place : (k : ℕ) (b c : Branch) (m n : List Placed) → skeleton b ≡ skeleton c → prev_of (last_in m) ≡ prev_of (last_in n) → prev_of (last_in (and_schedule k b m)) ≡ prev_of (last_in (and_schedule k c n))
same_place k (schedule s) (schedule t) m n e f = refl
same_place k (schedule s) (load l) m n e f = let z : ◌≡◌ {A = ℕ} 0 1 = cc in absurd (omega arith)
same_place k (schedule s) (spurious u) m n e f = let z : ◌≡◌ {A = ℕ} 0 1 = cc in absurd (omega arith)
same_place k (load l) (schedule t) m n e f = let z : ◌≡◌ {A = ℕ} 0 1 = cc in absurd (omega arith)
same_place k (load l) (load v) m n e f = f
same_place k (load l) (spurious u) m n e f = f
same_place k (spurious u) (schedule t) m n e f = let z : ◌≡◌ {A = ℕ} 0 1 = cc in absurd (omega arith)
same_place k (spurious u) (load l) m n e f = f
same_place k (spurious u) (spurious v) m n e f = f

same-places : (bs cs : List Branch) → Alike bs cs → (k : ℕ) → prev_of (last_in (schedules_below bs k)) ≡ prev_of (last_in (schedules_below cs k))
unfolding schedules_below
same-places bs cs a zero = refl
same-places bs cs a (suc k) =
    same_place k (get_or bs k no_branch) (get_or cs k no_branch) (schedules_below bs k) (schedules_below cs k) (a k) (same-places bs cs a k)

abbrev prev_in : Branch → ℕ
prev_in (schedule s) = s.prev
prev_in (load l) = 0
prev_in (spurious u) = 0

prev-alike : (b : Branch) (s : Schedule) (n : ℕ) → skeleton b ≡ skeleton (schedule s) → ((t : Schedule) → b ≡ schedule t → t.prev ≡ n) → s.prev ≡ n
prev-alike (schedule t) s n e f = sym (ap prev_in e) ∙ f t refl
prev-alike (load l) s n e f = let z : ◌≡◌ {A = ℕ} 0 1 = cc in absurd (omega arith)
prev-alike (spurious u) s n e f = let z : ◌≡◌ {A = ℕ} 0 1 = cc in absurd (omega arith)

prevs-alike : (bs cs : List Branch) → Alike bs cs → Prevs bs → Prevs cs
prevs-alike bs cs a h k s e =
    prev-alike (get_or bs k no_branch) s (prev_of (last_in (schedules_below bs k))) (a k ∙ ap skeleton e) (λ t f. h k t f) ∙ same-places bs cs a k

set-alike : (bs : List Branch) (k : ℕ) (b : Branch) → k < length bs → skeleton (get_or bs k no_branch) ≡ skeleton b → Alike bs (set bs k b)
set-alike bs k b l e j = go (eqb j k) refl
  where
    go : (t : Bool) → eqb j k ≡ t → skeleton (get_or bs j no_branch) ≡ skeleton (get_or (set bs k b) j no_branch)
    go true f =
        let i : j ≡ k = eqb-true j k f in
        ap (λ (n : ℕ). skeleton (get_or bs n no_branch)) i
        ∙ e
        ∙ ap skeleton (sym (get_or-set_same bs k b no_branch l))
        ∙ ap (λ (n : ℕ). skeleton (get_or (set bs k b) n no_branch)) (sym i)
    go false f = ap skeleton (sym (get_or-set_other bs k j b no_branch (eqb-false j k f)))

pub prevs-set : (bs : List Branch) (k : ℕ) (b : Branch) → k < length bs → skeleton (get_or bs k no_branch) ≡ skeleton b → Prevs bs → Prevs (set bs k b)
prevs-set bs k b l e h = prevs-alike bs (set bs k b) (set-alike bs k b l e) h

-- A branch more, and fewer

below-append : (bs cs : List Branch) (k : ℕ) → k ≤ length bs → schedules_below (bs ++ cs) k ≡ schedules_below bs k
unfolding schedules_below
below-append bs cs zero h = refl
below-append bs cs (suc k) h =
    let e : get_or (bs ++ cs) k no_branch ≡ get_or bs k no_branch = get_or-append bs cs no_branch k (omega arith) in
    ap (λ (b : Branch). and_schedule k b (schedules_below (bs ++ cs) k)) e ∙ ap (and_schedule k (get_or bs k no_branch)) (below-append bs cs k (omega arith))

pub prevs-front : (bs cs : List Branch) → Prevs (bs ++ cs) → Prevs bs
prevs-front bs cs h k s e =
    let l : k < length bs = stands-inside bs k s e in
    h k s (get_or-append bs cs no_branch k l ∙ e) ∙ ap (λ (m : List Placed). prev_of (last_in m)) (below-append bs cs k (omega arith))

pub prevs-added : (bs : List Branch) (b : Branch) → Prevs bs → ((s : Schedule) → b ≡ schedule s → s.prev ≡ prev_of (last_schedule bs)) → Prevs (bs ++ (b ∷ []))
prevs-added bs b h p k s e = by_place (ltb k (length bs)) refl (eqb k (length bs)) refl
  where
    by_place : (t : Bool) → ltb k (length bs) ≡ t → (u : Bool) → eqb k (length bs) ≡ u → s.prev ≡ prev_of (last_in (schedules_below (bs ++ (b ∷ [])) k))
    by_place true f u g =
        let l : k < length bs = ltb-true k (length bs) f in
        h k s (sym (get_or-append bs (b ∷ []) no_branch k l) ∙ e) ∙ ap (λ (m : List Placed). prev_of (last_in m)) (sym (below-append bs (b ∷ []) k (omega arith)))
    by_place false f true g =
        let i : k ≡ length bs = eqb-true k (length bs) g in
        let j : b ≡ schedule s = sym (get_or_at bs b [] no_branch k (sym i)) ∙ e in
        p s j
        ∙ ap prev_of (sym (last-below bs))
        ∙ ap (λ (m : List Placed). prev_of (last_in m)) (sym (below-append bs (b ∷ []) (length bs) (omega arith)))
        ∙ ap (λ (n : ℕ). prev_of (last_in (schedules_below (bs ++ (b ∷ [])) n))) (sym i)
    by_place false f false g =
        let l : k < length (bs ++ (b ∷ [])) = stands-inside (bs ++ (b ∷ [])) k s e in
        absurd (omega (arith, ltb-false k (length bs) f, eqb-false k (length bs) g, simp length-append at l))

pub prevs-none : Prevs []
prevs-none k s e = let l : k < 0 = stands-inside [] k s e in absurd (omega arith)

-- What is found stands in the path

pub if-true : (k : ℕ) (s : Schedule) (l : ScheduleAt) → s.exploring ≡ true → if_exploring (at k s) l ≡ at k s
if-true k s l e = ap (λ (x : Bool). cond x (at k s) l) e

pub if-false : (k : ℕ) (s : Schedule) (l : ScheduleAt) → s.exploring ≡ false → if_exploring (at k s) l ≡ l
if-false k s l e = ap (λ (x : Bool). cond x (at k s) l) e

pub if-stands : (bs : List Branch) (k : ℕ) (s : Schedule) (l : ScheduleAt) → StandsIn bs (at k s) → StandsIn bs l → StandsIn bs (if_exploring (at k s) l)
if-stands bs k s l h g = go s.exploring refl
  where
    go : (x : Bool) → s.exploring ≡ x → StandsIn bs (if_exploring (at k s) l)
    go true e = subst (StandsIn bs) (sym (if-true k s l e)) h
    go false e = subst (StandsIn bs) (sym (if-false k s l e)) g

abbrev Standing : List Branch → List Placed → Type 0
Standing bs [] = Unit
Standing bs (a ∷ m) = (get_or bs a.place no_branch ≡ schedule a.schedule) × Standing bs m

and-standing : (bs : List Branch) (k : ℕ) (b : Branch) (m : List Placed) → get_or bs k no_branch ≡ b → Standing bs m → Standing bs (and_schedule k b m)
and-standing bs k (schedule s) m e h = (e, h)
and-standing bs k (load l) m e h = h
and-standing bs k (spurious u) m e h = h

standing : (bs : List Branch) (k : ℕ) → Standing bs (schedules_below bs k)
unfolding schedules_below
standing bs zero = tt
standing bs (suc k) = and-standing bs k (get_or bs k no_branch) (schedules_below bs k) refl (standing bs k)

either-stands : (bs : List Branch) (c : Bool) (l m : ScheduleAt) → StandsIn bs l → StandsIn bs m → StandsIn bs (cond c l m)
either-stands bs true l m p q = p
either-stands bs false l m p q = q

switch-in-stands : (bs : List Branch) (l : List Placed) → Standing bs l → StandsIn bs (switch_in l)
unfolding switch_in
switch-in-stands bs [] h = tt
switch-in-stands bs (a ∷ []) h = if-stands bs a.place a.schedule none h.0 tt
switch-in-stands bs (a ∷ b ∷ m) h =
    either-stands bs
    (a.schedule.exploring && not (eqb (active_of a.schedule) (active_of b.schedule)))
    (at a.place a.schedule)
    (switch_in (b ∷ m))
    h.0
    (switch-in-stands bs (b ∷ m) h.1)

pub switch-stands : (bs : List Branch) (k : ℕ) → StandsIn bs (switch_in (schedules_below bs k))
switch-stands bs k = switch-in-stands bs (schedules_below bs k) (standing bs k)

-- One step of the walk

module _ (bs : List Branch) (k : ℕ) (s : Schedule) (e : get_or bs k no_branch ≡ schedule s) where
  pub switch-first : last_in (schedules_below bs k) ≡ none → switch_in (schedules_below bs (suc k)) ≡ if_exploring (at k s) none
  unfolding switch_in
  switch-first f = ap switch_in (below-here bs k s e) ∙ ap (λ (m : List Placed). switch_in (placed k s ∷ m)) (none_is bs k f)

  module _ (p : ℕ) (q : Schedule) (f : last_in (schedules_below bs k) ≡ at p q) where
    two : schedules_below bs (suc k) ≡ placed k s ∷ placed p q ∷ schedules_below bs p
    two =
        let n : Newest bs k p q = newest-is bs k p q f in
        below-here bs k s e ∙ ap (λ (m : List Placed). placed k s ∷ m) (n.same ∙ below-here bs p q n.stands)

    abbrev pick : Bool → Bool → ScheduleAt
    pick x a = cond (x && not a) (at k s) (switch_in (placed p q ∷ schedules_below bs p))

    switch_by : (x a : Bool) → s.exploring ≡ x → eqb (active_of s) (active_of q) ≡ a → switch_in (schedules_below bs (suc k)) ≡ pick x a
    unfolding switch_in
    switch_by x a g h = ap switch_in two ∙ ap (λ (y : Bool). pick y (eqb (active_of s) (active_of q))) g ∙ ap (pick x) h

    onwards : switch_in (placed p q ∷ schedules_below bs p) ≡ switch_in (schedules_below bs (suc p))
    onwards = let n : Newest bs k p q = newest-is bs k p q f in ap switch_in (sym (below-here bs p q n.stands))

    pub switch-here : s.exploring ≡ true → eqb (active_of s) (active_of q) ≡ false → switch_in (schedules_below bs (suc k)) ≡ at k s
    switch-here x a = switch_by true false x a

    pub switch-quiet : s.exploring ≡ false → switch_in (schedules_below bs (suc k)) ≡ switch_in (schedules_below bs (suc p))
    switch-quiet x = switch_by false (eqb (active_of s) (active_of q)) x refl ∙ onwards

    pub switch-same : s.exploring ≡ true → eqb (active_of s) (active_of q) ≡ true → switch_in (schedules_below bs (suc k)) ≡ switch_in (schedules_below bs (suc p))
    switch-same x a = switch_by true true x a ∙ onwards
