-- The laws of the walks through a path's schedules, and of the marks that they lead to. Assumes nothing.
--     found_none, found_at             an answer as the definition's schedule
--     through-.., look-..              the walk down to an exploring schedule
--     last-..                          the walk down to the last schedule
--     before-none, before_at           the preemptions before a new one
--     Walks, walk-..                   the walk by prev
--     second-..                        the second mark
--     mark-..                          both marks
--     length-backtracked               for callers: as many branches as before
use Prim.Native.Nat.{ℕ, zero, suc, ◌+◌, ◌-◌, ◌≤◌, ◌<◌}
use mathlib.Core.List.{List, [], ◌∷◌, ◌++◌}
use mathlib.Core.Bool.{Bool, true, false, cond}
use mathlib.Core.Path.{◌≡◌, refl, ap, sym, ◌∙◌}
use native.Mathlib.Omega.{arith}
use native.Mathlib.Numerals.{add-one}
use borrow.Author.Tests.{leb-true, le-leb, lt-leb}
use lib.Dec.{leb, eqb}
use lib.ListN.{length, get_or, take, length-set, get_or-eq_default}
use lib.Seq.{take-suc, take_all, length-take-le, get_or-set_same}
use Rattle.rules.specs.Path as rules
use Rattle.rules.specs.Path.{Branch, Schedule, Marked, Placed, schedule, load, spurious, none, at, no_branch, schedule_at, the_schedule, if_exploring, exploring_below, last_schedule, or_first, one_further, schedules_below, switch_in, preemptions_after, active, active_in, active_of, schedule_marked, marked_at, marked_before, with_opened, backtracked}
use Rattle.record.specs.Fields.{record_byte, states_at}
use Rattle.record.specs.Places.{First, FoundBelow, found_as}
use Rattle.record.specs.Schedules.{PrevOf, PreemptionsOf}
use Rattle.std.specs.Prelude.{Option, Some, None, is_some}
use Rattle.std.specs.Option.{option_eq}
use Rattle.std.specs.Bool.{then_some}
use Rattle.record.proofs.ScheduleLaws.{stands-exploring, active-is, first-of-five, five-alike}
use Rattle.path.specs.Bounds.{bound_of}
use Rattle.path.specs.Holds.{Holds, last_in}
use Rattle.path.specs.Places.{Through, records_of}
use Rattle.path.specs.Walks.{HoldsAt, schedule_at_as, StandsIn, PathMarked, MarksAt, ExploringFrom, SwitchFrom, MarksBefore}
use Rattle.path.proofs.HoldsLaws.{holds-room, inside, at-stands, at_five}
use Rattle.path.proofs.KindLaws.{There, there, not_there, prev-says}
use Rattle.path.proofs.PrevLaws.{schedule-there, last-here, last-other, if-stands, if-true, if-false, Newest, newest-is, none_is, switch-stands, switch-first, switch-here, switch-quiet, switch-same}

-- An answer

pub found_none : (l : rules.ScheduleAt) → None ≡ schedule_at_as l → l ≡ none
found_none none e = refl
found_none (at k s) e = let z : ◌≡◌ {A = ℕ} 0 1 = cc in absurd (omega arith)

pub record Named (l : rules.ScheduleAt) (p : ℕ) : Type 0 where
  pub of : Schedule
  pub is : l ≡ at p of

pub found_at : (l : rules.ScheduleAt) (p : ℕ) → Some p ≡ schedule_at_as l → Named l p
found_at none p e = let z : ◌≡◌ {A = ℕ} 0 1 = cc in absurd (omega arith)
found_at (at k s) p e = let q : k ≡ p = cc in record { of = s; is = ap (λ (x : ℕ). at x s) q }

-- Down to an exploring schedule

module _ (bs : List Branch) (k : ℕ) where
  look-past : schedule_at bs k ≡ none → exploring_below bs (suc k) ≡ exploring_below bs k
  unfolding exploring_below
  look-past e = rw e

  module _ (s : Schedule) (e : get_or bs k no_branch ≡ schedule s) where
    past-quiet : s.exploring ≡ false → exploring_below bs (suc k) ≡ exploring_below bs k
    unfolding exploring_below
    past-quiet x = rw (schedule-there bs k s e, x)

    stops-here : s.exploring ≡ true → exploring_below bs (suc k) ≡ at k s
    unfolding exploring_below
    stops-here x = rw (schedule-there bs k s e, x)

-- past the last branch there is none
blank : (bs : List Branch) (k : ℕ) → length bs ≤ k → schedule_at bs k ≡ none
unfolding schedule_at
blank bs k l = ap (the_schedule k) (get_or-eq_default bs no_branch {n = k} l)

all-looked : (bs : List Branch) (n m : ℕ) → length bs ≤ n → exploring_below bs (m + n) ≡ exploring_below bs n
all-looked bs n zero l = let e : 0 + n ≡ n = omega arith in ap (exploring_below bs) e
all-looked bs n (suc m) l =
    let e : suc m + n ≡ suc (m + n) = omega arith in
    ap (exploring_below bs) e ∙ look-past bs (m + n) (blank bs (m + n) (omega arith)) ∙ all-looked bs n m l

pub through-all : (path : List ℕ) (point : ℕ) → records_of path ≤ point → Through path point (records_of path)
through-all path point l = record { few = omega arith; fits = omega arith; is = rw (le-leb (records_of path) point l) }

pub through-some : (path : List ℕ) (point : ℕ) → point < records_of path → Through path point (point + 1)
through-some path point l = record { few = omega arith; fits = omega arith; is = rw (lt-leb (records_of path) point l) }

pub look-start : (path : List ℕ) (point n : ℕ) → Through path point n → {bs : List Branch} → Holds path bs → exploring_below bs (point + 1) ≡ exploring_below bs n
look-start path point n t {bs} h = go (leb (records_of path) point) refl
  where
    go : (b : Bool) → leb (records_of path) point ≡ b → exploring_below bs (point + 1) ≡ exploring_below bs n
    go true e =
        let i : n ≡ records_of path = t.is ∙ ap (λ (x : Bool). cond x (records_of path) (point + 1)) e in
        let l : records_of path ≤ point = leb-true (records_of path) point e in
        let m : point + 1 ≡ (point + 1 - n) + n = omega arith in
        ap (exploring_below bs) m ∙ all-looked bs n (point + 1 - n) (omega (arith, holds-room h))
    go false e = ap (exploring_below bs) (sym (t.is ∙ ap (λ (x : Bool). cond x (records_of path) (point + 1)) e))

module _ (bytes : List ℕ) (n : ℕ) (pos : 0 < n) (kind : Bool) (is : kind ≡ eqb (record_byte bytes (n - 1) 0) 1) {bs : List Branch} (h : Holds bytes bs) where
  one_less : n ≡ suc (n - 1)
  one_less = omega arith

  pub look-other : kind ≡ false → exploring_below bs n ≡ exploring_below bs (n - 1)
  look-other e = ap (exploring_below bs) one_less ∙ look-past bs (n - 1) (not_there h (n - 1) (sym is ∙ e))

  module _ (e : kind ≡ true) (x : Bool) (g : x ≡ eqb (record_byte bytes (n - 1) 1) 1) where
    here : There bs (n - 1)
    here = there h (n - 1) (sym is ∙ e)

    exploring-is : x ≡ here.of.exploring
    exploring-is = g ∙ stands-exploring (at-stands (record { path = h; there = here.is }))

    pub look-quiet : x ≡ false → exploring_below bs n ≡ exploring_below bs (n - 1)
    look-quiet q = ap (exploring_below bs) one_less ∙ past-quiet bs (n - 1) here.of here.is (sym exploring-is ∙ q)

    pub look-here : x ≡ true → Some (n - 1) ≡ schedule_at_as (exploring_below bs n)
    look-here q =
        ap schedule_at_as (sym (ap (exploring_below bs) one_less ∙ stops-here bs (n - 1) here.of here.is (sym exploring-is ∙ q)))

pub look_none : (bs : List Branch) (n : ℕ) → n ≤ 0 → None ≡ schedule_at_as (exploring_below bs n)
unfolding exploring_below
look_none bs zero h = refl
look_none bs (suc n) h = absurd (omega arith)

at-stands-in : (bs : List Branch) (k : ℕ) (b : Branch) (l : rules.ScheduleAt) → get_or bs k no_branch ≡ b → StandsIn bs l → StandsIn bs (if_exploring (the_schedule k b) l)
at-stands-in bs k (schedule s) l e g = if-stands bs k s l e g
at-stands-in bs k (load u) l e g = g
at-stands-in bs k (spurious u) l e g = g

exploring-stands : (bs : List Branch) (n : ℕ) → StandsIn bs (exploring_below bs n)
unfolding exploring_below schedule_at
exploring-stands bs zero = tt
exploring-stands bs (suc n) = at-stands-in bs n (get_or bs n no_branch) (exploring_below bs n) refl (exploring-stands bs n)

-- Down to the last schedule

module _ (bytes : List ℕ) (n : ℕ) (pos : 0 < n) (kind : Bool) (is : kind ≡ eqb (record_byte bytes (n - 1) 0) 1) {bs : List Branch} (h : Holds bytes bs) (l : n ≤ length bs) where
  one-more : take n bs ≡ take (n - 1) bs ++ (get_or bs (n - 1) no_branch ∷ [])
  one-more =
      let e : n ≡ suc (n - 1) = omega arith in
      ap (λ (m : ℕ). take m bs) e ∙ take-suc bs (n - 1) no_branch (omega arith)

  pub last_on : kind ≡ false → last_schedule (take n bs) ≡ last_schedule (take (n - 1) bs)
  unfolding schedule_at
  last_on e =
      ap last_schedule one-more ∙ last-other (take (n - 1) bs) (get_or bs (n - 1) no_branch) (n - 1) (not_there h (n - 1) (sym is ∙ e))

  pub last-at : kind ≡ true → Some (n - 1) ≡ schedule_at_as (last_schedule (take n bs))
  last-at e =
      let t : There bs (n - 1) = there h (n - 1) (sym is ∙ e) in
      let f : length (take (n - 1) bs) ≡ n - 1 = length-take-le (n - 1) bs (omega arith) in
      ap schedule_at_as
      (sym
      (ap last_schedule one-more
      ∙ ap (λ (b : Branch). last_schedule (take (n - 1) bs ++ (b ∷ []))) t.is
      ∙ last-here (take (n - 1) bs) t.of
      ∙ ap (λ (m : ℕ). at m t.of) f))

pub last-all : (bs : List Branch) (n : ℕ) → length bs ≡ n → last_schedule bs ≡ last_schedule (take n bs)
last-all bs n e = ap last_schedule (sym (take_all n bs (omega arith)))

pub last_none : (bs : List Branch) (n : ℕ) → n ≤ 0 → None ≡ schedule_at_as (last_schedule (take n bs))
unfolding last_schedule
last_none bs zero h = refl
last_none bs (suc n) h = absurd (omega arith)

last-on-stands : (b : Branch) (bs : List Branch) (l : rules.ScheduleAt) → StandsIn bs l → StandsIn (b ∷ bs) (or_first (one_further l) b)
last-on-stands (schedule s) bs none h = refl
last-on-stands (load l) bs none h = tt
last-on-stands (spurious u) bs none h = tt
last-on-stands b bs (at k s) h =
    let e : k + 1 ≡ suc k = omega arith in
    ap (λ (m : ℕ). get_or (b ∷ bs) m no_branch) e ∙ h

pub last-stands : (bs : List Branch) → StandsIn bs (last_schedule bs)
unfolding last_schedule
last-stands [] = tt
last-stands (b ∷ bs) = last-on-stands b bs (last_schedule bs) (last-stands bs)

-- The preemptions before a new one

pub before-none : (l : rules.ScheduleAt) → None ≡ schedule_at_as l → 0 ≡ preemptions_after l
before-none none e = refl
before-none (at k s) e = let z : ◌≡◌ {A = ℕ} 0 1 = cc in absurd (omega arith)

pub before_at : {bytes : List ℕ} {bs : List Branch} (h : Holds bytes bs) (l : rules.ScheduleAt) (p r : ℕ) → StandsIn bs l → Some p ≡ schedule_at_as l → PreemptionsOf bytes p r → r ≡ preemptions_after l
before_at h none p r s e f = let z : ◌≡◌ {A = ℕ} 0 1 = cc in absurd (omega arith)
before_at {bytes} {bs} h (at k q) p r s e f =
    let n : p ≡ k = cc in
    let g : PreemptionsOf bytes k r = rw n at f in
    g.says q (at-stands (record { path = h; there = s }))

-- The walk by prev

pub some-below : (x : Bool) {n p : ℕ} → p < n → FoundBelow n (then_some x p)
some-below true h = h
some-below false h = tt

pub record Walk (bs : List Branch) (from curr : ℕ) : Type 0 where
  pub now : Schedule
  pub stands : get_or bs curr no_branch ≡ schedule now
  pub same : switch_in (schedules_below bs (from + 1)) ≡ switch_in (schedules_below bs (suc curr))

abbrev pub Walks : List ℕ → ℕ → ℕ → Type 0
Walks bytes from curr = (bs : List Branch) (s : Schedule) → HoldsAt bytes bs from s → Walk bs from curr

pub walk_none : (bytes : List ℕ) (from : ℕ) → Walks bytes from from
walk_none bytes from bs s h = record { now = s; stands = h.there; same = ap (λ (n : ℕ). switch_in (schedules_below bs n)) (add-one from) }

module _ (bytes : List ℕ) (from curr : ℕ) (w : Walks bytes from curr) (f : Option ℕ) (g : PrevOf bytes curr f) (x : Bool) (i : x ≡ eqb (record_byte bytes curr 1) 1) where
  module _ {bs : List Branch} {s : Schedule} (h : HoldsAt bytes bs from s) where
    this : Walk bs from curr
    this = w bs s h

    held : HoldsAt bytes bs curr this.now
    held = record { path = h.path; there = this.stands }

    explores : x ≡ this.now.exploring
    explores = i ∙ stands-exploring (at-stands held)

    first_of : f ≡ None → switch_in (schedules_below bs (from + 1)) ≡ if_exploring (at curr this.now) none
    first_of e =
        let b : last_in (schedules_below bs curr) ≡ none = found_none (last_in (schedules_below bs curr)) (sym e ∙ prev-says held f g) in
        this.same ∙ switch-first bs curr this.now this.stands b

    walk_first : f ≡ None → x ≡ true → Some curr ≡ schedule_at_as (switch_in (schedules_below bs (from + 1)))
    walk_first e q = ap schedule_at_as (sym (first_of e ∙ if-true curr this.now none (sym explores ∙ q)))

    walk-nowhere : f ≡ None → x ≡ false → None ≡ schedule_at_as (switch_in (schedules_below bs (from + 1)))
    walk-nowhere e q = ap schedule_at_as (sym (first_of e ∙ if-false curr this.now none (sym explores ∙ q)))

    pub walk-end : f ≡ None → then_some x curr ≡ schedule_at_as (switch_in (schedules_below bs (from + 1)))
    walk-end e = go x refl
      where
        go : (b : Bool) → x ≡ b → then_some b curr ≡ schedule_at_as (switch_in (schedules_below bs (from + 1)))
        go true q = walk_first e q
        go false q = walk-nowhere e q

    module _ (p : ℕ) (e : f ≡ Some p) where
      prior : Named (last_in (schedules_below bs curr)) p
      prior = found_at (last_in (schedules_below bs curr)) p (sym e ∙ prev-says held f g)

      lower : Newest bs curr p prior.of
      lower = newest-is bs curr p prior.of prior.is

      alike : (a b : Option ℕ) → First (states_at bytes curr) active a → First (states_at bytes p) active b → eqb (active_of this.now) (active_of prior.of) ≡ option_eq eqb a b
      unfolding active_of
      alike a b m n =
          let back : HoldsAt bytes bs p prior.of = record { path = h.path; there = lower.stands } in
          sym
          (ap (λ (y : Option ℕ). option_eq eqb y b) (active-is (at-stands held) a m)
          ∙ ap (λ (y : Option ℕ). option_eq eqb (found_as (active_in this.now.states)) y) (active-is (at-stands back) b n)
          ∙ five-alike (active_in this.now.states) (active_in prior.of.states) (first-of-five active this.now.states (at_five held)) (first-of-five active prior.of.states (at_five back)))

      pub walk_here : x ≡ true → (a b : Option ℕ) → First (states_at bytes curr) active a → First (states_at bytes p) active b → option_eq eqb a b ≡ false → Some curr ≡ schedule_at_as (switch_in (schedules_below bs (from + 1)))
      walk_here q a b m n d =
          ap schedule_at_as
          (sym (this.same ∙ switch-here bs curr this.now this.stands p prior.of prior.is (sym explores ∙ q) (alike a b m n ∙ d)))

      pub walk-quiet : x ≡ false → Walk bs from p
      walk-quiet q = record {
        now = prior.of;
        stands = lower.stands;
        same = this.same ∙ switch-quiet bs curr this.now this.stands p prior.of prior.is (sym explores ∙ q);
      }

      pub walk_same : x ≡ true → (a b : Option ℕ) → First (states_at bytes curr) active a → First (states_at bytes p) active b → option_eq eqb a b ≡ true → Walk bs from p
      walk_same q a b m n d = record {
        now = prior.of;
        stands = lower.stands;
        same = this.same ∙ switch-same bs curr this.now this.stands p prior.of prior.is (sym explores ∙ q) (alike a b m n ∙ d);
      }

-- The second mark

module _ (bound : rules.Bound) (k t : ℕ) (m : Marked) (s : Schedule) where
  abbrev second : rules.ScheduleAt → Marked
  second l = with_opened m.opened (marked_at bound m.path l t)

  second_is : (l : rules.ScheduleAt) → switch_in (schedules_below m.path k) ≡ l → marked_before bound m (at k s) t ≡ second l
  unfolding marked_before
  second_is l e = ap second e

  unmarked-second : {bytes : List ℕ} → Holds bytes m.path → switch_in (schedules_below m.path k) ≡ none → PathMarked bytes (marked_before bound m (at k s) t) (m.opened + 0)
  unmarked-second h e = rw (second_is none e) (record { holds = h; opens = refl })

module _ {entry : List ℕ} (bound : rules.Bound) (k t : ℕ) (f : Option ℕ) (g : PrevOf entry k f) (m : Marked) (s : Schedule) (h : HoldsAt entry m.path k s) where
  pub second_none : f ≡ None → PathMarked entry (marked_before bound m (at k s) t) (m.opened + 0)
  unfolding switch_in
  second_none e =
      let b : last_in (schedules_below m.path k) ≡ none = found_none (last_in (schedules_below m.path k)) (sym e ∙ prev-says h f g) in
      unmarked-second bound k t m s h.path (ap switch_in (none_is m.path k b))

  module _ (p : ℕ) (e : f ≡ Some p) (c : Option ℕ) (d : SwitchFrom entry p c) where
    prior-is : Named (last_in (schedules_below m.path k)) p
    prior-is = found_at (last_in (schedules_below m.path k)) p (sym e ∙ prev-says h f g)

    newest : Newest m.path k p prior-is.of
    newest = newest-is m.path k p prior-is.of prior-is.is

    abbrev met : rules.ScheduleAt
    met = switch_in (schedules_below m.path k)

    met-is : c ≡ schedule_at_as met
    met-is =
        d.says m.path prior-is.of (record { path = h.path; there = newest.stands })
        ∙ ap (λ (x : ℕ). schedule_at_as (switch_in (schedules_below m.path x))) (add-one p)
        ∙ ap (λ (x : List Placed). schedule_at_as (switch_in x)) (sym newest.same)

    pub second-nowhere : c ≡ None → PathMarked entry (marked_before bound m (at k s) t) (m.opened + 0)
    second-nowhere q = unmarked-second bound k t m s h.path (found_none met (sym q ∙ met-is))

    pub second_at : (u : ℕ) → c ≡ Some u → (exit : List ℕ) (r : ℕ) → MarksAt entry exit u bound t r → PathMarked exit (marked_before bound m (at k s) t) (m.opened + r)
    second_at u q exit r w =
        let there-is : Named met u = found_at met u (sym q ∙ met-is) in
        let stood : StandsIn m.path met = switch-stands m.path k in
        let stands : StandsIn m.path (at u there-is.of) = rw there-is.is at stood in
        let marks : PathMarked exit (marked_at bound m.path (at u there-is.of) t) r = w.marks m.path there-is.of (record { path = h.path; there = stands }) in
        rw (second_is bound k t m s (at u there-is.of) there-is.is) (record { holds = marks.holds; opens = ap (λ (y : ℕ). m.opened + y) marks.opens })

-- Both marks

-- the second mark asks only where the first was looked for
second-same : (bound : rules.Bound) (m : Marked) (k : ℕ) (s u : Schedule) (t : ℕ) → marked_before bound m (at k u) t ≡ marked_before bound m (at k s) t
unfolding marked_before
second-same bound m k s u t = refl

module _ {entry : List ℕ} (point t : ℕ) (f : Option ℕ) (g : ExploringFrom entry point f) {bs : List Branch} (h : Holds entry bs) where
  abbrev first : rules.ScheduleAt
  first = exploring_below bs (point + 1)

  unmarked-by : (bound : Option ℕ) → first ≡ none → PathMarked entry (backtracked (bound_of bound) bs point t) 0
  unfolding backtracked marked_before
  unmarked-by None e = rw e (record { holds = h; opens = refl })
  unmarked-by (Some n) e = rw e (record { holds = h; opens = refl })

  pub mark-none : (bound : Option ℕ) → f ≡ None → PathMarked entry (backtracked (bound_of bound) bs point t) 0
  mark-none bound e = unmarked-by bound (found_none first (sym e ∙ g.says bs h))

  module _ (k : ℕ) (e : f ≡ Some k) where
    first-is : Named first k
    first-is = found_at first k (sym e ∙ g.says bs h)

    first-at : HoldsAt entry bs k first-is.of
    first-at =
        let stood : StandsIn bs first = exploring-stands bs (point + 1) in
        let stands : StandsIn bs (at k first-is.of) = rw first-is.is at stood in
        record { path = h; there = stands }

    one-mark : (exit : List ℕ) (r : ℕ) → MarksAt entry exit k rules.unbounded t r → PathMarked exit (backtracked rules.unbounded bs point t) r
    unfolding backtracked
    one-mark exit r w = rw first-is.is (w.marks bs first-is.of first-at)

    pub mark-one : (bound : Option ℕ) → is_some bound ≡ false → (exit : List ℕ) (r : ℕ) → MarksAt entry exit k (bound_of bound) t r → PathMarked exit (backtracked (bound_of bound) bs point t) r
    mark-one None q exit r w = one-mark exit r w
    mark-one (Some n) q exit r w = cc

    two-marks : (n : ℕ) (mid exit : List ℕ) (r q : ℕ) → MarksAt entry mid k (rules.at_most n) t r → MarksBefore mid exit k (rules.at_most n) t q → PathMarked exit (backtracked (rules.at_most n) bs point t) (r + q)
    unfolding backtracked
    two-marks n mid exit r q w v =
        let s : Schedule = first-is.of in
        let u : Schedule = schedule_marked (rules.at_most n) s t in
        let m : Marked = marked_at (rules.at_most n) bs (at k s) t in
        let one : PathMarked mid m r = w.marks bs s first-at in
        let back : HoldsAt mid m.path k u = record { path = one.holds; there = get_or-set_same bs k (schedule u) no_branch (inside first-at) } in
        let two : PathMarked exit (marked_before (rules.at_most n) m (at k u) t) (m.opened + q) = v.marks m u back in
        rw (first-is.is, one.opens, ← second-same (rules.at_most n) m k s u t) two

    pub mark-two : (bound : Option ℕ) → is_some bound ≡ true → (mid exit : List ℕ) (r q : ℕ) → MarksAt entry mid k (bound_of bound) t r → MarksBefore mid exit k (bound_of bound) t q → PathMarked exit (backtracked (bound_of bound) bs point t) (r + q)
    mark-two None b mid exit r q w v = cc
    mark-two (Some x) b mid exit r q w v = two-marks x mid exit r q w v

-- As many branches as before

length-marked_at : (bound : rules.Bound) (bs : List Branch) (l : rules.ScheduleAt) (t : ℕ) → length (marked_at bound bs l t).path ≡ length bs
length-marked_at bound bs none t = refl
length-marked_at bound bs (at k s) t = length-set bs k (schedule (schedule_marked bound s t))

length-second : (bound : rules.Bound) (m : Marked) (l : rules.ScheduleAt) (t : ℕ) → length (marked_before bound m l t).path ≡ length m.path
unfolding marked_before
length-second bound m none t = refl
length-second bound m (at k s) t = length-marked_at bound m.path (switch_in (schedules_below m.path k)) t

pub length-backtracked : (bound : rules.Bound) (bs : List Branch) (point t : ℕ) → length (backtracked bound bs point t).path ≡ length bs
unfolding backtracked
length-backtracked rules.unbounded bs point t = length-marked_at rules.unbounded bs (exploring_below bs (point + 1)) t
length-backtracked (rules.at_most n) bs point t =
    let first : rules.ScheduleAt = exploring_below bs (point + 1) in
    length-second (rules.at_most n) (marked_at (rules.at_most n) bs first t) first t ∙ length-marked_at (rules.at_most n) bs first t
