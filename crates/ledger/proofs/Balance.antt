-- The balance: in an execution the ledger is level, and every tick, every execution and every step keeps it so. Assumes nothing.
--     Level, Ready     in an execution, and before the next
--     balanced         so every run balances
--     begun-told       as many executions have begun as the history has
--     added, quiet     records that are added, and records that are not exploring
use Prim.Native.Nat.{ℕ, ◌+◌, ◌-◌, ◌≤◌, ◌<◌}
use mathlib.Core.List.{List, [], ◌∷◌}
use mathlib.Core.Bool.{Bool, true, false, cond}
use mathlib.Core.Path.{◌≡◌, refl, ap, subst}
use native.Mathlib.Omega.{arith}
use lib.Dec.{ltb, leb}
use lib.ListN.{length, length-map}
use Rattle.rules.specs.Vector.{Whom}
use Rattle.rules.specs.Path.{Branch, schedule, load, spurious, Schedule, Bound, open_at, open_in, is_exploring, toggled, last_schedule, preemptions_after, thread_added, load_added, spurious_added}
use Rattle.rules.specs.Event.{Point, nowhere, branch, Question, which_thread, which_slot, which_bit, Machine, Standing, slots_of}
use Rattle.rules.specs.Explorer.{seed_of, pushed, Limits, Ledger, all_marked, backtrack_from, first_marked, with_branch, Walk, Tick, execution}
use Rattle.rules.specs.Explorer.{Verdict, exhausted, spent, unmet, stopped, Stop, next_ledger, empty, run}
use Rattle.ledger.specs.History.{left_by, Course, executed, courses, Stops, Made, Told, Real}
use Rattle.ledger.specs.Balance.{begun, Balance, Balanced, Begun, AddedOpens, Quiet}
use Rattle.ledger.proofs.Counts.{pendings-seed_of, open_in-added, stepped-open}
use Rattle.ledger.proofs.Marks.{backtracked-open, backtracked-kept}
use Rattle.ledger.proofs.Ledgers.{execution-keeps, execution-begun}
use Rattle.ledger.proofs.Outcomes.{only-branch, just-branch}
use Rattle.ledger.proofs.History.{real}

-- in an execution: as many have begun or are open as one and those opened; and between two: as many as those opened
abbrev pub Level : Ledger → Type 0
Level l = l.begun + open_in l.path ≡ 1 + l.opened

abbrev pub Ready : Ledger → Type 0
Ready l = l.begun + open_in l.path ≡ l.opened

-- An execution

backtrack_from-level : (bound : Bound) (l : Ledger) (p : Point) (t : ℕ) → Level l → Level (backtrack_from bound l p t)
backtrack_from-level bound l nowhere t e = e
backtrack_from-level bound l (branch point) t e = omega (arith, backtracked-open bound l.path point t)

all_marked-level : (bound : Bound) (l : Ledger) (points : List Point) (t : ℕ) → Level l → Level (all_marked bound l points t)
unfolding all_marked
all_marked-level bound l [] t e = e
all_marked-level bound l (p ∷ points) t e =
    all_marked-level bound (backtrack_from bound l p t) points (t + 1) (backtrack_from-level bound l p t e)

first_marked-level : (bound : Bound) (l : Ledger) (q : Question) → Level l → Level (first_marked bound l q)
first_marked-level bound l (which_thread points initial standings) e = all_marked-level bound l points 0 e
first_marked-level bound l (which_slot m) e = e
first_marked-level bound l which_bit e = e

-- a record added opens what it has open
with_branch-level : (l : Ledger) (b : Branch) → Level l → Level (with_branch l b)
with_branch-level l b e = omega (arith, open_in-added l.path b)

module _ (M : Machine) (limits : Limits) where
  pub execution-level : (l : Ledger) → Ready l → Level (left_by (execution M limits l)).ledger
  execution-level l e = execution-keeps M limits Level (first_marked-level limits.bound) with_branch-level l (omega arith)

  -- A run

  next-ready : (l : Ledger) → Level l → 0 < open_in l.path → Ready (next_ledger l)
  next-ready l e o = omega (arith, stepped-open l.path o)

  -- how the last execution came out
  pub stops-left : (n : ℕ) (w : Walk M.State) (v : Verdict) (t : Tick M.State) → Stops M limits n w v t → left_by t ≡ w
  stops-left n w exhausted t s = ap left_by s.0
  stops-left n w spent t s = ap left_by s.0
  stops-left n w unmet t s = ap left_by s.0
  stops-left n w (stopped f site) t s = ap left_by s

  -- the executions from a ledger on: the last leaves its ledger level, as many have begun, and no more than n
  pub record Sums (n : ℕ) (l : Ledger) (cs : List (Course M.State)) (w : Walk M.State) : Type 0 where
    pub level : Level w.ledger
    pub begun-is : w.ledger.begun ≡ l.begun + length cs
    pub within : l.begun < n → w.ledger.begun ≤ n

  pub made-sums : (n : ℕ) (w : Walk M.State) (v : Verdict) (l : Ledger) (c : Course M.State) (cs : List (Course M.State)) → Ready l →
      Made M limits n w v l (c ∷ cs) → Sums n l (c ∷ cs) w
  made-sums n w v l c [] e m =
      let z = stops-left n w v (execution M limits l) m.1 in
      let b = rw z at (execution-begun M limits l) in
      record { level = rw z at (execution-level l e); begun-is = b; within = λ h. omega arith }
  made-sums n w v l c (d ∷ cs) e m =
      let u = m.1 in
      let b = rw m.2 at (execution-begun M limits l) in
      let r = made-sums n w v (next_ledger u.ledger) d cs (next-ready u.ledger (rw m.2 at (execution-level l e)) m.4) m.6 in
      record { level = r.level; begun-is = omega (arith, b, r.begun-is); within = λ h. r.within m.5 }

  -- the verdict, and what is open
  pub none_left : (n : ℕ) (w : Walk M.State) (l : Ledger) (c : Course M.State) (cs : List (Course M.State)) →
      Made M limits n w exhausted l (c ∷ cs) → open_in w.ledger.path ≡ 0
  none_left n w l c [] m = m.1.2
  none_left n w l c (d ∷ cs) m = none_left n w (next_ledger m.1.ledger) d cs m.6

  some_left : (n : ℕ) (w : Walk M.State) (l : Ledger) (c : Course M.State) (cs : List (Course M.State)) →
      Made M limits n w spent l (c ∷ cs) → (0 < open_in w.ledger.path) × (w.ledger.begun ≡ n)
  some_left n w l c [] m = (m.1.2, m.1.3)
  some_left n w l c (d ∷ cs) m = some_left n w (next_ledger m.1.ledger) d cs m.6

  balance : (n : ℕ) (r : Stop M.State) (cs : List (Course M.State)) → 1 ≤ n → Told M limits n cs r → Balance n r
  unfolding open_in
  balance n r [] h t = absurd (omega (arith, t.made.0))
  balance n r (c ∷ cs) h t =
      let s = made-sums n r.walk r.verdict empty c cs refl t.made in
      record {
        equation = omega (arith, s.level);
        within = omega (arith, s.level, s.begun-is);
        sum = s.level;
        none_left = λ v. let o = none_left n r.walk empty c cs (subst (λ (x : Verdict). Made M limits n r.walk x empty (c ∷ cs)) v t.made) in (o, omega (arith, s.level));
        some_left = λ v. some_left n r.walk empty c cs (subst (λ (x : Verdict). Made M limits n r.walk x empty (c ∷ cs)) v t.made);
        budget = (omega (arith, s.begun-is), s.within h);
      }

  pub told-begun : (n : ℕ) (r : Stop M.State) (cs : List (Course M.State)) → Told M limits n cs r → begun r ≡ length r.history
  unfolding open_in
  told-begun n r [] t = rw (t.made.1, t.history)
  told-begun n r (c ∷ cs) t =
      let s = made-sums n r.walk r.verdict empty c cs refl t.made in
      omega (arith, s.begun-is, ap length t.history, length-map (c ∷ cs) executed)

pub balanced : Balanced
unfolding Balanced Real
balanced M limits n h = balance M limits n (run M limits n) (courses M limits n) h (real M limits n)

pub begun-told : Begun
unfolding Begun Real
begun-told M limits n = told-begun M limits n (run M limits n) (courses M limits n) (real M limits n)

-- Records that are added

schedule-opens : (exploring : Bool) (initial : Whom) (standings : List Standing) (s : Schedule) → s.exploring ≡ exploring →
    s.states ≡ toggled (seed_of initial standings) → open_at (schedule s) ≡ 0
unfolding open_at
schedule-opens true initial standings s x e = rw (x, e) (pendings-seed_of initial standings)
schedule-opens false initial standings s x e = rw x

load-opens : (exploring : Bool) (values : List ℕ) →
    open_at (load (record { exploring = exploring; values = values; pos = 0 })) ≡ cond exploring (length values - 1) 0
unfolding open_at
load-opens true values = omega arith
load-opens false values = refl

bit-opens : (exploring : Bool) → open_at (spurious (record { exploring = exploring; bit = false })) ≡ cond exploring 1 0
unfolding open_at
bit-opens true = refl
bit-opens false = refl

pub added : AddedOpens
unfolding AddedOpens pushed thread_added load_added spurious_added
added B bs exploring b = record {
  a-schedule = λ points initial standings e.
      let z = only-branch (leb B (length bs)) (ltb 255 (preemptions_after (last_schedule bs))) _ b e in
      rw (← z) (schedule-opens exploring initial standings _ refl refl);
  a-load = λ slots e. let z = just-branch (leb B (length bs)) _ b e in rw (← z) (load-opens exploring (slots_of slots));
  a-bit = λ e. let z = just-branch (leb B (length bs)) _ b e in rw (← z) (bit-opens exploring);
}

-- Records that are not exploring

open_at-quiet : (b : Branch) → is_exploring b ≡ false → open_at b ≡ 0
unfolding open_at
open_at-quiet (schedule s) e = rw e
open_at-quiet (load l) e = rw e
open_at-quiet (spurious u) e = rw e

pub quiet : Quiet
quiet = record { takes-no-mark = backtracked-kept; keeps-none = open_at-quiet }
