-- What a thread has read or written counts as seen by it, in every execution of every run.
--     ticks-seen                    the ticks of an execution
--     all_seen, seen-in-runs        the statements
use Prim.Native.Nat.{ℕ, zero, suc, ◌+◌, ◌≤◌, ◌<◌}
use mathlib.Core.List.{List, [], ◌∷◌}
use mathlib.Core.Bool.{true, and-eq-true_iff}
use mathlib.Core.Path.{◌≡◌, refl}
use mathlib.Core.Logic.{◌⊎◌, inl, inr}
use native.Mathlib.Omega.{arith}
use lib.Dec.{eqb}
use borrow.Author.Tests.{leb-true}
use Rattle.rules.specs.Vector.{largest}
use Rattle.rules.specs.Table.{header_fine, threads_of, cells_of}
use Rattle.rules.specs.State.{State, threads, cells}
use Rattle.rules.specs.Machine.{Program, machine, final}
use Rattle.rules.specs.Explorer.{Limits, Ledger, Walk, Tick, goes, over, faulted, tick, Execution, execution, After, after, stops_here, goes_on, empty}
use Rattle.rules.specs.Explored.{program_of, limits_of}
use Rattle.rules.proofs.LimitLaws.{operations-most, operations-fit}
use Rattle.rules.proofs.MeasureStart.{start-ready}
use Rattle.rules.proofs.MeasureAccepted.{good-header}
use Rattle.ledger.specs.History.{Every, ticks_from, starting, course_of, courses_from, courses}
use Rattle.ledger.specs.Replay.{Answered, Follows, Replay}
use Rattle.ledger.proofs.Replay.{replay}
use Rattle.offers.specs.Seen.{Sees, Taken, Watched, Watching, Since, here, on, Lasting, Seeing, Seen, SeenInRuns}
use Rattle.offers.proofs.Counted.{start-counts}
use Rattle.offers.proofs.Starts.{start-sound}
use Rattle.offers.proofs.Watched.{Holds, holds_on, watching}

-- Along the ticks

-- whatever is seen at a walk is seen at the first of those after it, or its slot was taken
abbrev Keeps : Walk State → List (Walk State) → Type 0
Keeps w [] = Unit {0}
Keeps w (v ∷ vs) =
    (t c i : ℕ) → t < threads → c < cells → Sees w.state t c i → Sees v.state t c i ⊎ Taken c i w.state v.state

lasting-on : (w : Walk State) (ws : List (Walk State)) → Keeps w ws → Lasting ws → Lasting (w ∷ ws)
lasting-on w ws k l = (λ t c i h b e u s. go t c i h b e ws k l u s, l)
  where
    go : (t c i : ℕ) → t < threads → c < cells → Sees w.state t c i → (ws : List (Walk State)) → Keeps w ws → Lasting ws →
        (u : Walk State) → Since c i w ws u → Sees u.state t c i
    go t c i h b e ws k l u here = e
    go t c i h b e (v ∷ vs) k l u (on n s) =
        elim (k t c i h b e) [
          | inl f ↦ l.0 t c i h b f u s
          | inr f ↦ absurd (n f)
        ]

module _ (p : Program) (limits : Limits) (limited : p.operations ≤ largest) (room : limits.operations + 4 ≤ largest) where
  record Both (ws : List (Walk State)) : Type 0 where
    all-watched : Every (Watching p limits) ws
    lasts : Lasting ws

  head-keeps : (w : Walk State) (n : ℕ) (v : Walk State) → Watched p limits w v → Keeps w (ticks_from (machine p) limits n v)
  unfolding ticks_from
  head-keeps w zero v k = tt
  head-keeps w (suc n) v k = k.kept

  ticks-seen : (n : ℕ) (w : Walk State) → Holds p limits w →
      Every (Answered (machine p) limits) (ticks_from (machine p) limits n w) →
      Both (ticks_from (machine p) limits n w)
  unfolding ticks_from
  ticks-seen zero w h a = record { all-watched = tt; lasts = tt }
  ticks-seen (suc n) w h a =
      go (tick (machine p) limits w) refl a.1 (λ v g k. ticks-seen n v (holds_on p limits limited w v h g a.0) k)
    where
      watches : Watching p limits w
      watches = watching p limits limited room w h a.0

      go : (t : Tick State) → tick (machine p) limits w ≡ t →
          Every (Answered (machine p) limits)
          (elim t [ goes v ↦ ticks_from (machine p) limits n v | over v ↦ [] | faulted f s v ↦ [] ]) →
          ((v : Walk State) → tick (machine p) limits w ≡ goes v → Every (Answered (machine p) limits)
          (ticks_from (machine p) limits n v) →
          Both (ticks_from (machine p) limits n v)) →
          Both (w ∷ elim t [ goes v ↦ ticks_from (machine p) limits n v | over v ↦ [] | faulted f s v ↦ [] ])
      go (goes v) g k more =
          let r = more v g k in
          record {
            all-watched = (watches, r.all-watched);
            lasts = lasting-on w (ticks_from (machine p) limits n v) (head-keeps w n v (watches.goes-on v g)) r.lasts;
          }
      go (over v) g k more = record { all-watched = (watches, tt); lasts = lasting-on w [] tt tt }
      go (faulted f s v) g k more = record { all-watched = (watches, tt); lasts = lasting-on w [] tt tt }

  module _ (header : header_fine p.table ≡ true) where
    within : (1 ≤ threads_of p.table) × (threads_of p.table ≤ threads) × (cells_of p.table ≤ cells)
    unfolding header_fine
    within = let f = simp and-eq-true_iff at header in omega (arith, leb-true)

    starting-holds : (l : Ledger) → Holds p limits (starting (machine p) limits l)
    starting-holds l = record {
      sound = start-sound p within.1 within.2;
      ready = start-ready p within.0 within.1 within.2;
      fit = omega arith;
      counts = start-counts p within.1 within.2;
    }

    course-seen : (l : Ledger) → Follows (machine p) limits (course_of (machine p) limits l) →
        Seeing p limits (course_of (machine p) limits l)
    unfolding course_of
    course-seen l f =
        let b = ticks-seen limits.ticks (starting (machine p) limits l) (starting-holds l) f.answered in
        record { watched = b.all-watched; lasting = b.lasts }

    courses-seen : (n : ℕ) (l : Ledger) (past : List Execution) →
        Every (Follows (machine p) limits) (courses_from (machine p) limits n l past) →
        Every (Seeing p limits) (courses_from (machine p) limits n l past)
    unfolding courses_from
    courses-seen zero l past e = tt
    courses-seen (suc n) l past e = (
      course-seen l e.0,
      go (after (final p) (eqb n 0) past (execution (machine p) limits l)) e.1
          (λ k more f. courses-seen n k more f),
    )
      where
        go : (x : After State) →
            Every (Follows (machine p) limits)
            (elim x [ stops_here r ↦ [] | goes_on k more ↦ courses_from (machine p) limits n k more ]) →
            ((k : Ledger) (more : List Execution) → Every (Follows (machine p) limits) (courses_from (machine p) limits n k more) →
            Every (Seeing p limits) (courses_from (machine p) limits n k more)) →
            Every (Seeing p limits) (elim x [ stops_here r ↦ [] | goes_on k more ↦ courses_from (machine p) limits n k more ])
        go (stops_here r) f rest = tt
        go (goes_on k more) f rest = rest k more f

pub all_seen : Seen
unfolding Seen Replay courses
all_seen p limits n header limited room =
    courses-seen p limits limited room header n empty [] (replay (machine p) limits n)

pub seen-in-runs : SeenInRuns
unfolding SeenInRuns Seen
seen-in-runs table condition settings fine accepted =
    let few : settings.operations + 4 ≤ largest = omega (arith, operations-most settings fine, operations-fit) in
    all_seen (program_of table condition settings) (limits_of settings) settings.executions (good-header table accepted) (omega arith)
    (omega arith)
