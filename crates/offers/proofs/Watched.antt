-- A tick that goes on: what the threads see after it. Assumes nothing.
--     Holds            what holds of a walk between ticks
--     Went, went       how a tick goes on from it
--     watching         so what is read or written is seen, what was seen stays so, and nothing below it is offered
use Prim.Native.Nat.{ℕ, ◌+◌, ◌≤◌, ◌<◌}
use mathlib.Core.List.{List}
use mathlib.Core.Bool.{Bool}
use mathlib.Core.Path.{◌≡◌, refl, ap, sym, ◌∙◌}
use mathlib.Core.Logic.{◌⊎◌, inl, inr}
use native.Mathlib.Omega.{arith}
use native.Mathlib.Decide.{ℕ_discrete}
use lib.Dec.{ltb}
use lib.ListN.{length, get_or, length-append}
use borrow.Author.Tests.{lt-ltb}
use Rattle.rules.specs.Vector.{Whom, largest, one_more}
use Rattle.rules.specs.Seen.{unseen}
use Rattle.rules.specs.Event as Event
use Rattle.rules.specs.Event.{Entry, Matched, slots_of, Site, Question, which_thread, which_slot, which_bit, read_slot, Move, moves, asks, stops, ends}
use Rattle.rules.specs.State.{State, number, vector, threads, count, causality}
use Rattle.rules.specs.Cell.{slot_of, live_in}
use Rattle.rules.specs.Machine as Machine
use Rattle.rules.specs.Machine.{Program, machine, current}
use Rattle.rules.specs.Explorer.{Limits, Walk, goes, noted, tick}
use Rattle.rules.specs.Measure.{measure, Ready}
use Rattle.rules.proofs.MeasureRows.{pick}
use Rattle.rules.proofs.MeasureSteps.{Asked, Lower, asking}
use Rattle.rules.proofs.MeasureTicks.{next-lower}
use Rattle.rules.proofs.MeasureWalk.{tick-lowers}
use Rattle.ledger.specs.Replay.{Answered}
use Rattle.offers.specs.Chosen.{OfferOfRow, of_load, of_rmw, SlotChosen}
use Rattle.offers.specs.Offered.{Below, Among}
use Rattle.offers.specs.Seen.{Sees, Taken, Watched, Watching}
use Rattle.offers.proofs.Sight.{Stays, row_in, seen-stays}
use Rattle.offers.proofs.Steps.{SoundState, Quiet, quiet-trans, Stores, Calm, Steps, calm-before, sees-calm}
use Rattle.offers.proofs.Moves.{Notes, NextOf, AnswerOf, next-steps}
use Rattle.offers.proofs.Answers.{thread-steps, slot-steps, bit-steps, AfterOf, load_read, rmw-read}
use Rattle.offers.proofs.Passing.{Passing, tick-passes}
use Rattle.offers.proofs.Chosen.{slot-said, offering}
use Rattle.offers.proofs.Following.{Replied, replied, Follow, follow, tick-moves, tick-stops}

-- What a step leaves

more-is : (x : ℕ) → x < largest → one_more x ≡ x + 1
more-is x h = rw (lt-ltb x largest h)

more-most : (x : ℕ) → one_more x ≤ x + 1
more-most x = pick (λ (y : ℕ). y ≤ x + 1) (ltb x largest) (λ e. omega arith) (λ e. omega arith)

module _ (t n m : ℕ) {a b : State} (q : Steps t n m a b) where
  -- a cell has at most one store more
  count_most : (c : ℕ) → c < 4 → number b.numbers (count c) ≤ number a.numbers (count c) + 1
  count_most c l = go q.does
    where
      stored : Stores t m a b → number b.numbers (count c) ≤ number a.numbers (count c) + 1
      stored s =
          elim (ℕ_discrete c s.cell) [
            | no d ↦ omega (arith, s.counts c l d)
            | yes f ↦ rw f (omega (arith, s.one-more, more-most (number a.numbers (count s.cell))))
          ]

      go : Quiet a b ⊎ Stores t m a b → number b.numbers (count c) ≤ number a.numbers (count c) + 1
      go (inl s) = omega (arith, s.counts c l)
      go (inr s) = stored s

  module _ (c i : ℕ) (l : c < 4) (small : number a.numbers (count c) < largest) where
    seen-kept : (u : ℕ) → u < threads → Sees a u c i → Sees b u c i ⊎ Taken c i a b
    seen-kept u h e = go q.does
      where
        again : Stays (row_in a.marks c i) (row_in b.marks c i) → Sees b u c i
        again s =
            seen-stays (row_in a.marks c i) (row_in b.marks c i) (vector a.clocks (causality u))
            (vector b.clocks (causality u)) s (q.grows.grown u h) e

        stored : Stores t m a b → Sees b u c i ⊎ Taken c i a b
        stored s =
            elim (ℕ_discrete c s.cell) [
              | no d ↦ inl (again (s.stays c i (λ f g. d f)))
              | yes f ↦ elim (ℕ_discrete i (slot_of (number a.numbers (count s.cell)))) [
                | no d ↦ inl (again (s.stays c i (λ f g. d g)))
                | yes g ↦ inr (rw f (sym g), (rw f s.one-more) ∙ more-is (number a.numbers (count c)) small)
              ]
            ]

        go : Quiet a b ⊎ Stores t m a b → Sees b u c i ⊎ Taken c i a b
        go (inl s) = inl (again (s.stays c i))
        go (inr s) = stored s

    -- a count that rises is that of the cell where a store is made
    seen-written : m < unseen → Taken c i a b → Sees b t c i
    seen-written few (e, f) = go q.does
      where
        stored : Stores t m a b → Sees b t c i
        stored s =
            elim (ℕ_discrete c s.cell) [
              | no d ↦ absurd (omega (arith, f, s.counts c l d))
              | yes x ↦ rw (← e, x) (s.sees few)
            ]

        go : Quiet a b ⊎ Stores t m a b → Sees b t c i
        go (inl s) = absurd (omega (arith, f, s.counts c l))
        go (inr s) = stored s

module _ (p : Program) (limits : Limits) where
  -- Between ticks

  pub record Holds (w : Walk State) : Type 0 where
    pub sound : SoundState (length w.trace + 2) w.state
    pub ready : Ready w.state
    pub fit : length w.trace ≤ limits.operations
    pub counts : (c : ℕ) → c < 4 → number w.state.numbers (count c) ≤ length w.trace + 1

  pub record Went (w v : Walk State) : Type 0 where
    pub steps : Steps (current w.state) (length w.trace + 2) (length v.trace + 2) w.state v.state
    pub fit : length v.trace ≤ limits.operations
    pub longer : length w.trace ≤ length v.trace
    pub noted : (length w.trace < length v.trace) ⊎ Quiet w.state v.state

  asked_of : {n : ℕ} {s : State} {es : List Entry} {x : Bool} {q : Question} → Lower p n (asks s es x q) → Asked p n s q
  asked_of (asking h) = h

  module _ (limited : p.operations ≤ largest) (w v : Walk State) (h : Holds w) (g : tick (machine p) limits w ≡ goes v) where
    abbrev t : ℕ
    t = current w.state

    abbrev n : ℕ
    n = length w.trace + 2

    abbrev m : ℕ
    m = length v.trace + 2

    abbrev site : Site
    site = (Machine.next p w.state).site

    nexts : NextOf t n w.state (Machine.next p w.state).move
    nexts = next-steps p n w.state h.sound (omega (arith, h.ready.whole.long))

    lowers : Lower p (measure p w.state) (Machine.next p w.state).move
    lowers = next-lower p limited w.state h.ready

    moves-went : (s : State) (es : List Entry) → (Machine.next p w.state).move ≡ moves s es → Went w v
    moves-went s es e =
        let f = follow p limits site w v (moves s es) (sym (tick-moves p limits w s es e) ∙ g) in
        let same : s ≡ f.state = cc f.is in
        let here : v.state ≡ s = f.state-is ∙ sym same in
        let length-is : length es ≡ length f.entries = ap length (entries-of f.is) in
        let long = ap length f.trace-is ∙ length-append w.trace f.entries in
        let k : NextOf t n w.state (moves s es) = rw e at nexts in
        record {
          steps = rw here (k.1 m (omega arith));
          fit = f.fit;
          longer = omega arith;
          noted = noting k.0 here
              (omega arith);
        }
      where
        noting : {a : State} → Notes w.state a es → v.state ≡ a → length v.trace ≡ length w.trace + length es →
            (length w.trace < length v.trace) ⊎ Quiet w.state v.state
        noting (inl l) e f = inl (omega arith)
        noting (inr q) e f = inr (rw e q)

        entries-of : {a b : State} {x y : List Entry} → moves a x ≡ moves b y → x ≡ y
        entries-of z = cc

    -- the record that has answered
    module _ (s : State) (es : List Entry) (x : Bool) (q : Question) (e : (Machine.next p w.state).move ≡ asks s es x q) where
      passing : Passing (machine p) limits site (noted w s es) q (tick (machine p) limits w)
      passing =
          let k = tick-passes (machine p) limits w s es x q e in
          k.passing (let l = k.goes-past v g in rw g l)

      after : Follow p limits passing.on v (Machine.answered p s passing.answer)
      after = follow p limits site passing.on v (Machine.answered p s passing.answer) (sym passing.tick_is ∙ g)

      trace-long : length v.trace ≡ length w.trace + length es + length after.entries
      trace-long =
          ap length after.trace-is ∙ (length-append passing.on.trace after.entries
          ∙ (ap (λ (k : ℕ). k + length after.entries) (ap length passing.trace-is ∙ length-append w.trace es)))

      answer-is : Replied q passing.answer
      answer-is = replied w.pos _ q passing.answer passing.replies

      asked : Asked p (measure p w.state) s q
      asked = asked_of (rw e at lowers)

      -- a quiet step to the question, and one with the answer
      both-went : Calm n m w.state s → AnswerOf t m s (Machine.answered p s passing.answer) → Went w v
      both-went calm k =
          let a : AnswerOf t m s (moves after.state after.entries) = rw after.is at k in
          record {
            steps = rw after.state-is (calm-before t n m m h.ready.below calm a.1);
            fit = after.fit;
            longer = omega (arith, trace-long);
            noted = noting a.0;
          }
        where
          noting : Notes s after.state after.entries → (length w.trace < length v.trace) ⊎ Quiet w.state v.state
          noting (inl l) = inl (omega (arith, trace-long))
          noting (inr q) = inr (rw after.state-is (quiet-trans calm.quiet q))

    -- "(d) the branch chooses."
    thread-went : (s : State) (es : List Entry) (x : Bool) (points : List Event.Point) (initial : Whom) (standings : List Event.Standing) →
        (Machine.next p w.state).move ≡ asks s es x (which_thread points initial standings) → Went w v
    thread-went s es x points initial standings e =
        let q = which_thread points initial standings in
        let k : NextOf t n w.state (asks s es x q) = rw e at nexts in
        let calm = k m (omega (arith, trace-long s es x q e)) in
        let a = answer-is s es x q e in
        both-went s es x q e calm (rw a.2 (thread-steps p t m s (calm.sound h.sound) a.0 a.1))

    bit-went : (s : State) (es : List Entry) (x : Bool) → (Machine.next p w.state).move ≡ asks s es x which_bit → Went w v
    bit-went s es x e =
        let k : NextOf t n w.state (asks s es x which_bit) = rw e at nexts in
        let calm = k m (omega (arith, trace-long s es x which_bit e)) in
        let a = answer-is s es x which_bit e in
        let r = (asked s es x which_bit e).ready in
        both-went s es x which_bit e calm
        (rw a.1 (bit-steps p m s (calm.sound h.sound) (omega (arith, r.whole.long)) r.below t a.0))

    module _ (answered : Answered (machine p) limits w) where
      -- a load or an RMW reads its slot
      module _ (s : State) (es : List Entry) (x : Bool) (q : Matched)
          (e : (Machine.next p w.state).move ≡ asks s es x (which_slot q)) where
        chosen : SlotChosen p limits w s es q
        chosen =
            let k = (offering p limits w answered).at_slot s es x q e in
            k.chosen (let l = k.passes v g in rw g l)

        one_entry : m ≡ n + 1
        one_entry =
            let c = chosen in
            let trace = rw g at c.noted in
            omega (arith, simp length-append at (ap length trace))

        calm-slot : Calm n m w.state s
        calm-slot = let k : NextOf t n w.state (asks s es x (which_slot q)) = rw e at nexts in k m (omega (arith, one_entry))

        slot-went : Went w v
        slot-went =
            let a = answer-is s es x (which_slot q) e in
            let r = (asked s es x (which_slot q) e).ready in
            let same : current s ≡ t = ap current chosen.raised in
            both-went s es x (which_slot q) e calm-slot
            (rw (a.3, ← same)
            (slot-steps p m s (calm-slot.sound h.sound) (omega (arith, r.whole.long)) r.below a.0 a.1 a.2))

      by_move : (mv : Move State) → (Machine.next p w.state).move ≡ mv → Went w v
      by_move (moves s es) e = moves-went s es e
      by_move (asks s es x (which_thread points initial standings)) e = thread-went s es x points initial standings e
      by_move (asks s es x (which_slot q)) e = slot-went s es x q e
      by_move (asks s es x which_bit) e = bit-went s es x e
      by_move (stops s f) e = absurd (tick-stops p limits w v s f e g)
      by_move (ends s) e = absurd (rw e at nexts)

      pub went : Went w v
      went = by_move (Machine.next p w.state).move refl

      pub holds_on : Holds v
      holds_on = record {
        sound = went.steps.sound;
        ready = (tick-lowers p limits limited w v h.ready g).0;
        fit = went.fit;
        counts = λ c l. count-on c l went.noted;
      }
        where
          count-on : (c : ℕ) → c < 4 → (length w.trace < length v.trace) ⊎ Quiet w.state v.state →
              number v.state.numbers (count c) ≤ length v.trace + 1
          count-on c l (inl k) = omega (arith, h.counts c l, count_most _ _ _ went.steps c l)
          count-on c l (inr q) = omega (arith, h.counts c l, q.counts c l, went.longer)

module _ (p : Program) (limits : Limits) (limited : p.operations ≤ largest) (room : limits.operations + 4 ≤ largest)
    (w v : Walk State)
    (h : Holds p limits w) (g : tick (machine p) limits w ≡ goes v) (answered : Answered (machine p) limits w) where
  went_on : Went p limits w v
  went_on = went p limits limited w v h g answered

  module _ (s : State) (es : List Entry) (x : Bool) (q : Matched)
      (e : (Machine.next p w.state).move ≡ asks s es x (which_slot q))
      (c : SlotChosen p limits w s es q) where
    abbrev slot : ℕ
    slot = get_or c.by.values c.by.pos 0

    -- the slot that the record names is the one that is read
    read-slot : (passing p limits limited w v h g s es x (which_slot q) e).answer ≡ read_slot slot c.by.values
    read-slot =
        let k = passing p limits limited w v h g s es x (which_slot q) e in
        slot-said w.pos c.by q k.answer (rw c.at-branch at k.replies)

    slot_small : slot < 7
    slot_small =
        let a = answer-is p limits limited w v h g s es x (which_slot q) e in
        let same : a.0 ≡ slot = cc (a.3, read-slot) in
        omega (arith, same, a.2)

    after-reading : AfterOf (current s) c.cell slot (Machine.answered p s (read_slot slot c.by.values))
    after-reading =
        let calm = calm-slot p limits limited w v h g answered s es x q e in
        let r = (asked p limits limited w v h g s es x (which_slot q) e).ready in
        by-reading (calm.sound h.sound) (omega (arith, r.whole.long)) r.below (omega (arith, went_on.fit)) c.cell
        c.opcode c.reading
      where
        by-reading : SoundState (length v.trace + 2) s → 44 ≤ length s.numbers → current s < threads →
            length v.trace + 2 < unseen →
            (d o : ℕ) → OfferOfRow p s q c.offered d o →
            AfterOf (current s) d slot (Machine.answered p s (read_slot slot c.by.values))
        by-reading sound long below few d o (of_load row m r) =
            load_read p (length v.trace + 2) s sound long below slot c.by.values slot_small few d _ _ row
        by-reading sound long below few d o (of_rmw row m r) =
            rmw-read p (length v.trace + 2) s sound long below slot c.by.values slot_small few d _ _ _ _ row

    read-seen : Sees v.state (current s) c.cell slot
    read-seen =
        let f = after p limits limited w v h g s es x (which_slot q) e in
        let is : Machine.answered p s (read_slot slot c.by.values) ≡ moves f.state f.entries =
        ap (Machine.answered p s) (sym read-slot) ∙ f.is in
        rw f.state-is (rw is at after-reading)

  few-stores : (c : ℕ) → c < 4 → number w.state.numbers (count c) < largest
  few-stores c l = omega (arith, h.counts c l, h.fit)

  watched : Watched p limits w v
  watched = record {
    read = read-seen;
    wrote = λ c i l k. seen-written _ _ _ went_on.steps c i l (few-stores c l) (omega (arith, went_on.fit)) k;
    kept = λ t c i b l k. seen-kept _ _ _ went_on.steps c i l (few-stores c l) t b k;
  }

-- What a load or an RMW is never offered
module _ (p : Program) (limits : Limits) (limited : p.operations ≤ largest) (room : limits.operations + 4 ≤ largest) (w : Walk State)
    (h : Holds p limits w) where
  never-offered : (s : State) (es : List Entry) (x : Bool) (m : Matched) →
      (Machine.next p w.state).move ≡ asks s es x (which_slot m) →
      (c : SlotChosen p limits w s es m) (i j : ℕ) → Among i c.by.values → j < live_in s.numbers c.cell →
      Sees w.state (current s) c.cell j → Below s.clocks c.cell i j → ⊥
  never-offered s es x m e c i j a l k b =
      let same : current s ≡ current w.state = ap current c.raised in
      let next = next-steps p (length w.trace + 2) w.state h.sound (omega (arith, h.ready.whole.long)) in
      let asks-it : NextOf (current w.state) (length w.trace + 2) w.state (asks s es x (which_slot m)) = rw e at next in
      let calm = asks-it (length w.trace + 3) (omega arith) in
      by-reading c.cell c.opcode c.reading (rw c.all at a) l
      (sees-calm calm (current s) c.cell j (omega (arith, same, h.ready.below)) k) b
    where
      by-reading : (d o : ℕ) → OfferOfRow p s m c.offered d o → Among i (slots_of c.offered) → j < live_in s.numbers d →
          Sees s (current s) d j → Below s.clocks d i j → ⊥
      by-reading d o (of_load row f r) a l k b = r.never i j a l k b
      by-reading d o (of_rmw row f r) a l k b = r.never i j a l tt b

  pub watching : Answered (machine p) limits w → Watching p limits w
  watching answered = record { never = never-offered; goes-on = λ v g. watched p limits limited room w v h g answered }
