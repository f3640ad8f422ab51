-- Every tick lowers the measure, so an execution that is given more ticks than its measure comes out the same however many more
-- it is given. Assumes nothing.
--     tick-lowers       a tick
--     ticks-enough      the ticks of an execution
--     last-tick         how it comes out
use Prim.Native.Nat.{ℕ, zero, suc, ◌≤◌, ◌<◌}
use mathlib.Core.Bool.{Bool, ◌&&◌}
use mathlib.Core.Path.{◌≡◌, refl, subst}
use native.Mathlib.Omega.{arith}
use lib.Dec.{eqb, ltb}
use lib.ListN.{length, get_or}
use Rattle.rules.specs.Vector.{largest}
use Rattle.rules.specs.Path.{Branch, schedule, load, spurious, no_branch}
use Rattle.rules.specs.Event as Event
use Rattle.rules.specs.Event.{Question, which_thread, which_slot, which_bit, Site}
use Rattle.rules.specs.State.{State}
use Rattle.rules.specs.Machine.{Program, machine, next}
use Rattle.rules.specs.Explorer as Explorer
use Rattle.rules.specs.Explorer.{Limits, Walk, Tick, goes, over, faulted, Reply, reply, Pushed, pushes, faults, pushed, tick, walked}
use Rattle.rules.specs.Measure.{measure, Ready}
use Rattle.rules.proofs.MeasureRows.{pick}
use Rattle.rules.proofs.MeasureSteps.{Asked, Lower, lowered, asking, stopping, ending}
use Rattle.rules.proofs.MeasureTicks.{thread-lower, slot-lower, spurious-lower, next-lower}

-- a tick that goes on has lowered the measure below n
data Lowers (p : Program) (n : ℕ) : Tick State → Type 0 where
  going : {w : Walk State} → Ready w.state → measure p w.state < n → Lowers p n (goes w)
  is_over : {w : Walk State} → Lowers p n (over w)
  is_faulted : {f : Event.Fault} {s : Site} {w : Walk State} → Lowers p n (faulted f s w)

gone : {p : Program} {n : ℕ} {v : Walk State} → Lowers p n (goes v) → Ready v.state × (measure p v.state < n)
gone (going r l) = (r, l)

module _ (p : Program) (limits : Limits) where
  module _ (n : ℕ) where
    followed-lowers : (site : Site) (w : Walk State) {e : Event.Move State} → Lower p n e →
        Lowers p n (Explorer.followed (machine p) limits site w e)
    followed-lowers site w (lowered {es = es} r l) =
        pick (Lowers p n) (Explorer.fits (machine p) limits w es) (λ e. going r l) (λ e. is_faulted)
    followed-lowers site w (asking h) = is_faulted
    followed-lowers site w stopping = is_faulted
    followed-lowers site w ending = is_over

    -- the branch answers in the question's kind, or the explorer stops
    replied-lowers : (site : Site) (w : Walk State) (b : Branch) (q : Question) → Asked p n w.state q →
        Lowers p n (Explorer.replied (machine p) limits site w (reply w.pos b q))
    unfolding reply
    replied-lowers site w (schedule s) (which_thread points initial standings) h =
        followed-lowers site (Explorer.onward w) (thread-lower p n w.state _ _ h)
    replied-lowers site w (load l) (which_slot m) h =
        pick (λ (r : Reply). Lowers p n (Explorer.replied (machine p) limits site w r))
        (ltb l.pos (length l.values) && Explorer.all_below Explorer.max_slots l.values)
        (λ e. followed-lowers site (Explorer.onward w) (slot-lower p n w.state _ _ h)) (λ e. is_faulted)
    replied-lowers site w (spurious u) which_bit h = followed-lowers site (Explorer.onward w) (spurious-lower p n w.state _ h)
    replied-lowers site w (schedule s) (which_slot m) h = is_faulted
    replied-lowers site w (schedule s) which_bit h = is_faulted
    replied-lowers site w (load l) (which_thread points initial standings) h = is_faulted
    replied-lowers site w (load l) which_bit h = is_faulted
    replied-lowers site w (spurious u) (which_thread points initial standings) h = is_faulted
    replied-lowers site w (spurious u) (which_slot m) h = is_faulted

    new-lowers : (site : Site) (w : Walk State) (q : Question) (b : Pushed) → Asked p n w.state q →
        Lowers p n (Explorer.new_branch (machine p) limits site w q b)
    new-lowers site w q (pushes b) h = replied-lowers site (Explorer.with_ledger w (Explorer.with_branch w.ledger b)) b q h
    new-lowers site w q (faults f) h = is_faulted

    met-lowers : (site : Site) (w : Walk State) (explores : Bool) (q : Question) → Asked p n w.state q →
        Lowers p n (Explorer.met (machine p) limits site w explores q)
    met-lowers site w explores q h =
        pick (Lowers p n) (eqb w.pos (length w.ledger.path))
        (λ e. new-lowers site w q (pushed limits.branches w.ledger.path explores q) h)
        (λ e. replied-lowers site w (get_or w.ledger.path w.pos no_branch) q h)

    taken-lowers : (site : Site) (w : Walk State) {e : Event.Move State} → Lower p n e → Lowers p n (Explorer.taken (machine p) limits site w e)
    taken-lowers site w (lowered {es = es} r l) =
        pick (Lowers p n) (Explorer.fits (machine p) limits w es) (λ e. going r l) (λ e. is_faulted)
    taken-lowers site w (asking {st} {es} {explores} {q} h) =
        pick (Lowers p n) (Explorer.fits (machine p) limits w es)
        (λ e.
        let marked = Explorer.first_marked limits.bound w.ledger q in
        met-lowers site (Explorer.with_ledger (Explorer.noted w st es) marked) explores q h)
        (λ e. is_faulted)
    taken-lowers site w stopping = is_faulted
    taken-lowers site w ending = is_over

  module _ (limited : p.operations ≤ largest) where
    lowers : (w : Walk State) → Ready w.state → Lowers p (measure p w.state) (tick (machine p) limits w)
    unfolding tick
    lowers w r = taken-lowers (measure p w.state) (next p w.state).site w (next-lower p limited w.state r)

    -- The measure falls at every tick. Rows begun is a counted number, so L is at most the largest
    pub tick-lowers : (w v : Walk State) → Ready w.state → tick (machine p) limits w ≡ goes v →
        Ready v.state × (measure p v.state < measure p w.state)
    tick-lowers w v r e = gone (subst (Lowers p (measure p w.state)) e (lowers w r))

    -- More ticks than the measure are enough: how many more does not matter
    pub ticks-enough : (n m : ℕ) (w : Walk State) → Ready w.state → measure p w.state < n → measure p w.state < m →
        walked (machine p) limits n w ≡ walked (machine p) limits m w
    unfolding walked
    ticks-enough zero m w r h l = absurd (omega arith)
    ticks-enough (suc n) zero w r h l = absurd (omega arith)
    ticks-enough (suc n) (suc m) w r h l = same (tick (machine p) limits w) (lowers w r) (λ v. ticks-enough n m v)
      where
        same : (x : Tick State) → Lowers p (measure p w.state) x →
            ((v : Walk State) → Ready v.state → measure p v.state < n → measure p v.state < m →
            walked (machine p) limits n v ≡ walked (machine p) limits m v) →
            ◌≡◌ {A = Tick State}
            (elim x [ goes v ↦ walked (machine p) limits n v | over v ↦ over v | faulted f s v ↦ faulted f s v ])
            (elim x [ goes v ↦ walked (machine p) limits m v | over v ↦ over v | faulted f s v ↦ faulted f s v ])
        same (goes v) (going k j) more = more v k (omega arith) (omega arith)
        same (over v) k more = refl
        same (faulted f s v) k more = refl

    -- An execution comes out as its last tick does: it never runs out of ticks
    pub last-tick : (n : ℕ) (w : Walk State) → Ready w.state → measure p w.state < n →
        (u : Walk State) × Ready u.state × (tick (machine p) limits u ≡ walked (machine p) limits n w)
    unfolding walked
    last-tick zero w r h = absurd (omega arith)
    last-tick (suc n) w r h = last (tick (machine p) limits w) refl (lowers w r) (λ v. last-tick n v)
      where
        last : (x : Tick State) → tick (machine p) limits w ≡ x → Lowers p (measure p w.state) x →
            ((v : Walk State) → Ready v.state → measure p v.state < n →
            (u : Walk State) × Ready u.state × (tick (machine p) limits u ≡ walked (machine p) limits n v)) →
            (u : Walk State) × Ready u.state
            × (tick (machine p) limits u ≡ elim x [ goes v ↦ walked (machine p) limits n v | over v ↦ over v | faulted f s v ↦ faulted f s v ])
        last (goes v) e (going k j) more = more v k (omega arith)
        last (over v) e k more = (w, r, e)
        last (faulted f s v) e k more = (w, r, e)
