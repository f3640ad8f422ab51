-- What holds of every execution of a run, and at every tick of an execution. Assumes nothing.
--     After, walk-by       by what a tick leaves
--     every-course         by the ledgers from which executions begin
use Prim.Native.Nat.{ℕ, zero, suc}
use mathlib.Core.List.{List, [], ◌∷◌}
use mathlib.Core.Path.{◌≡◌}
use Rattle.rules.specs.Event.{Machine, impossible, no_site}
use Rattle.rules.specs.Explorer.{Limits, Ledger, Walk, Tick, goes, over, faulted, tick, walked, execution, Verdict, next_ledger, empty, run}
use Rattle.ledger.specs.History.{Every, Course, ticks_from, course_of, courses, Made, Real}
use Rattle.ledger.proofs.Leads.{leads-nil}
use Rattle.ledger.proofs.Runs.{Known, next_known}
use Rattle.ledger.proofs.History.{real}
use Rattle.kept.proofs.Ticked.{Expected}

-- of the walk from which the next tick is made, or of how the execution came out
abbrev pub After : {S : Type 0} → (Walk S → Type 0) → (Tick S → Type 0) → Tick S → Type 0
After P R (goes w) = P w
After P R (over w) = R (over w)
After P R (faulted f s w) = R (faulted f s w)

-- something of the walks from which ticks are made, with how many may yet be made, that each tick leaves of the next, and that is
-- enough
module _ (M : Machine) (limits : Limits) (P : ℕ → Walk M.State → Type 0) (Q : Walk M.State → Type 0)
    (R : Tick M.State → Type 0)
    (at-walk : (n : ℕ) (w : Walk M.State) → P n w → Q w)
    (at_tick : (n : ℕ) (w : Walk M.State) → Expected M limits w → P (suc n) w → After (P n) R (tick M limits w))
    (at_last : (w : Walk M.State) → P zero w → R (faulted impossible no_site w)) where
  pub walk-by : (n : ℕ) (w : Walk M.State) → Every (Expected M limits) (ticks_from M limits n w) → P n w →
      Every Q (ticks_from M limits n w) × R (walked M limits n w)
  unfolding ticks_from walked
  walk-by zero w r p = (tt, at_last w p)
  walk-by (suc n) w r p = go (tick M limits w) (at_tick n w r.0 p) r.1 (λ v u k. walk-by n v u k)
    where
      go : (t : Tick M.State) → After (P n) R t →
          Every (Expected M limits) (elim t [ goes v ↦ ticks_from M limits n v | over v ↦ [] | faulted f s v ↦ [] ]) →
          ((v : Walk M.State) → Every (Expected M limits) (ticks_from M limits n v) → P n v →
          Every Q (ticks_from M limits n v) × R (walked M limits n v)) →
          (Q w × Every Q (elim t [ goes v ↦ ticks_from M limits n v | over v ↦ [] | faulted f s v ↦ [] ]))
          × R (elim t [ goes v ↦ walked M limits n v | over v ↦ over v | faulted f s v ↦ faulted f s v ])
      go (goes v) k u more = let m = more v u k in ((at-walk (suc n) w p, m.0), m.1)
      go (over v) k u more = ((at-walk (suc n) w p, tt), k)
      go (faulted f s v) k u more = ((at-walk (suc n) w p, tt), k)

-- something of the ledgers from which executions begin, that each execution which is over leaves of the next, and that is enough
module _ (M : Machine) (limits : Limits) (P : Ledger → Type 0) (Q : Course M.State → Type 0)
    (each : (l : Ledger) → Known M limits l.path → P l → Q (course_of M limits l))
    (next : (l : Ledger) → Known M limits l.path → P l → (w : Walk M.State) → execution M limits l ≡ over w →
    P (next_ledger w.ledger)) where
  made-courses : (n : ℕ) (w : Walk M.State) (v : Verdict) (l : Ledger) (cs : List (Course M.State)) →
      Known M limits l.path → P l → Made M limits n w v l cs → Every Q cs
  made-courses n w v l [] o p m = tt
  made-courses n w v l (c ∷ []) o p m = (rw m.0 (each l o p), tt)
  made-courses n w v l (c ∷ d ∷ cs) o p m = (
    rw m.0 (each l o p),
    made-courses n w v (next_ledger m.1.ledger) (d ∷ cs) (next_known M limits l o m.1 m.2) (next l o p m.1 m.2) m.6,
  )

  pub every-course : P empty → (n : ℕ) → Every Q (courses M limits n)
  unfolding Real
  every-course p n =
      made-courses n (run M limits n).walk (run M limits n).verdict empty (courses M limits n)
      (leads-nil M limits limits.ticks M.start [] 0) p (real M limits n).made
