-- An execution along a path that leads.
--     Walked, walk_fine        how an execution that begins on such a path comes out
--     Known                    a path that leads from the start
--     next_known               the next path after an execution that is over
use Prim.Native.Nat.{ℕ, zero, suc, ◌≤◌}
use mathlib.Core.List.{List, [], ◌∷◌, ◌++◌, append-nil}
use mathlib.Core.Path.{◌≡◌, refl, sym, ◌∙◌}
use native.Mathlib.Omega.{arith}
use lib.ListN.{length, take}
use lib.Seq.{take_all}
use Rattle.rules.specs.Path.{Branch, stepped}
use Rattle.rules.specs.Event.{Machine}
use Rattle.rules.specs.Explorer.{Limits, Ledger, Walk, Tick, goes, over, faulted, tick, walked, execution}
use Rattle.ledger.specs.History.{left_by, starting}
use Rattle.ledger.proofs.Marking.{AllMarking}
use Rattle.ledger.proofs.Growth.{Grown, grown-refl, grown-trans}
use Rattle.ledger.proofs.Leads.{Leads, leads-stepped}
use Rattle.ledger.proofs.Outcomes.{Stays, Fine}
use Rattle.ledger.proofs.Ticks.{tick-fine}

module _ (M : Machine) (limits : Limits) where
  -- it is over, with the path gone through, and its path leads from where it site
  pub record Completed (n : ℕ) (w : Walk M.State) (pre : List Branch) (v : Walk M.State) : Type 0 where
    pub at-end : v.pos ≡ length v.ledger.path
    pub grown : Grown w.ledger.path v.ledger.path
    pub pre' : List Branch
    pub rest' : List Branch
    pub path-is : v.ledger.path ≡ pre' ++ rest'
    pub marking : AllMarking pre pre'
    pub ahead : Leads M limits n w.state w.trace w.pos rest'

  -- it has met a fault, with the path gone through
  pub record Broken (w v : Walk M.State) : Type 0 where
    pub within : v.pos ≤ length v.ledger.path
    pub grown : Grown w.ledger.path (take v.pos v.ledger.path)

  abbrev pub Walked : ℕ → Walk M.State → List Branch → Tick M.State → Type 0
  Walked n w pre (goes v) = ⊥
  Walked n w pre (over v) = Completed n w pre v
  Walked n w pre (faulted f s v) = Broken w v

  -- one tick before
  earlier : (n : ℕ) (w : Walk M.State) (pre : List Branch) (v : Walk M.State) (r : Stays M limits n w pre (M.next w.state).move v) →
      (t : Tick M.State) → Walked n v r.done t → Walked (suc n) w pre t
  unfolding Leads
  earlier n w pre v r (goes u) c = absurd c
  earlier n w pre v r (over u) c =
      let b = r.back c.pre' c.rest' c.marking c.ahead in
      record {
        at-end = c.at-end;
        grown = grown-trans w.ledger.path v.ledger.path u.ledger.path r.grown c.grown;
        pre' = b.0;
        rest' = b.1;
        path-is = c.path-is ∙ b.2;
        marking = b.3;
        ahead = b.4;
      }
  earlier n w pre v r (faulted f s u) c =
      record {
        within = c.within;
        grown = grown-trans w.ledger.path v.ledger.path (take u.pos u.ledger.path) r.grown c.grown;
      }

  last-tick : (n : ℕ) (w : Walk M.State) (pre : List Branch) (t : Tick M.State) → Fine M limits n w pre (M.next w.state).move t →
      ((v : Walk M.State) (r : Stays M limits n w pre (M.next w.state).move v) → Walked n v r.done (walked M limits n v)) →
      Walked (suc n) w pre (elim t [ goes v ↦ walked M limits n v | over v ↦ over v | faulted f s v ↦ faulted f s v ])
  unfolding Leads
  last-tick n w pre (goes v) r h = earlier n w pre v r (walked M limits n v) (h v r)
  last-tick n w pre (over v) r h =
      record {
        at-end = r.at-end;
        grown = r.grown;
        pre' = r.back.0;
        rest' = r.back.1;
        path-is = r.back.2;
        marking = r.back.3;
        ahead = r.back.4;
      }
  last-tick n w pre (faulted f s v) r h = record { within = r.within; grown = r.grown }

  spent-ticks : (w : Walk M.State) (pre rest : List Branch) → w.pos ≡ length pre → w.ledger.path ≡ pre ++ rest →
      Leads M limits zero w.state w.trace w.pos rest → Broken w w
  unfolding Leads
  spent-ticks w pre [] k e o =
      let i : length w.ledger.path ≡ w.pos = rw (e, append-nil) (sym k) in
      record { within = omega arith; grown = rw (take_all w.pos w.ledger.path (omega arith)) (grown-refl w.ledger.path) }
  spent-ticks w pre (b ∷ bs) k e o = absurd o

  pub walk_fine : (n : ℕ) (w : Walk M.State) (pre rest : List Branch) → w.pos ≡ length pre → w.ledger.path ≡ pre ++ rest →
      Leads M limits n w.state w.trace w.pos rest → Walked n w pre (walked M limits n w)
  unfolding walked
  walk_fine zero w pre rest k e o = spent-ticks w pre rest k e o
  walk_fine (suc n) w pre rest k e o =
      last-tick n w pre (tick M limits w) (tick-fine M limits n w pre k rest e o)
      (λ v r. walk_fine n v r.done r.rest r.pos-is r.path-is r.ahead)

  -- that a path leads from the start of an execution
  abbrev pub Known : List Branch → Type 0
  Known bs = Leads M limits limits.ticks M.start [] 0 bs

  pub execution-fine : (l : Ledger) → Known l.path → Walked limits.ticks (starting M limits l) [] (execution M limits l)
  unfolding execution
  execution-fine l o = walk_fine limits.ticks (starting M limits l) [] l.path refl refl o

  -- the path that a completed execution leaves is known
  pub completed-known : (l : Ledger) (v : Walk M.State) → Completed limits.ticks (starting M limits l) [] v → Known v.ledger.path
  completed-known l v c = go c.pre' c.marking c.path-is
    where
      go : (pre : List Branch) → AllMarking [] pre → v.ledger.path ≡ pre ++ c.rest' → Known v.ledger.path
      go [] m e = rw e c.ahead
      go (b ∷ bs) m e = absurd m

  pub next_known : (l : Ledger) → Known l.path → (w : Walk M.State) → execution M limits l ≡ over w → Known (stepped w.ledger.path)
  next_known l o w e =
      leads-stepped M limits limits.ticks M.start [] 0 w.ledger.path (completed-known l w (rw e at (execution-fine l o)))

  -- all of the path has been gone through, and it has grown
  pub grown-end : (l : Ledger) → Known l.path →
      Grown l.path (take (left_by (execution M limits l)).pos (left_by (execution M limits l)).ledger.path)
  grown-end l o = go (execution M limits l) (execution-fine l o)
    where
      go : (t : Tick M.State) → Walked limits.ticks (starting M limits l) [] t →
          Grown l.path (take (left_by t).pos (left_by t).ledger.path)
      go (goes w) c = absurd c
      go (over w) c = rw (take_all w.pos w.ledger.path (omega (arith, c.at-end))) c.grown
      go (faulted f s w) c = c.grown

  -- an execution that is over has passed all of its path
  pub whole : (l : Ledger) → Known l.path → (w : Walk M.State) → execution M limits l ≡ over w → take w.pos w.ledger.path ≡ w.ledger.path
  whole l o w e =
      let c = rw e at (execution-fine l o) in take_all w.pos w.ledger.path (omega (arith, c.at-end))
