-- What loads and RMWs are offered in every run.
--     offering           a tick that asks for a slot
--     all-offers         the statement
use Prim.Native.Nat.{ℕ, ◌<◌}
use mathlib.Core.List.{List, [], ◌++◌, append-nil}
use mathlib.Core.Bool.{Bool, true, false, cond, ◌&&◌}
use mathlib.Core.Path.{◌≡◌, refl, ap, sym, ◌∙◌}
use native.Mathlib.Omega.{arith}
use lib.Dec.{ltb}
use lib.ListN.{length, get_or}
use Rattle.rules.specs.Path.{Branch, schedule, load, spurious, Load, no_branch}
use Rattle.rules.specs.Table as Table
use Rattle.rules.specs.Table.{Op, Decoded, decoded}
use Rattle.rules.specs.Event as Event
use Rattle.rules.specs.Event.{Entry, Matched, offers, slots_of, which_slot, Pick, read_slot, asks}
use Rattle.rules.specs.State.{State, marks_of}
use Rattle.rules.specs.Cell.{matched_load}
use Rattle.rules.specs.Machine as Machine
use Rattle.rules.specs.Machine.{Program, machine, current, active_op, version_raised}
use Rattle.rules.specs.Explorer.{Limits, Walk, Tick, followed, tick, reply, says, unexpected, all_below}
use Rattle.ledger.specs.History.{Course, courses}
use Rattle.ledger.specs.Replay.{Agrees, Answered, Replay, Follows}
use Rattle.ledger.proofs.Lists.{every_map}
use Rattle.ledger.proofs.Replay.{replay}
use Rattle.offers.specs.Offered.{LoadOffered, RmwOffered}
use Rattle.offers.specs.Chosen.{OfferOfRow, of_load, of_rmw, Noted, tick_left, SlotChosen, OfferingTick, OfferingCourse, Offers}
use Rattle.offers.proofs.Offered.{load-offered, rmw-offered}
use Rattle.offers.proofs.Passing.{tick-passes}
use Rattle.offers.proofs.Noting.{no_other}
use Rattle.offers.proofs.Asking.{AsksFor, of_load, of_rmw, next-asks, EntryOf, load-noted, rmw-noted}

-- a record that agrees with a question for a slot
record LoadOf (b : Branch) (m : Matched) : Type 0 where
  by : Load
  is-load : b ≡ load by
  offered : List Bool
  is : m ≡ offers offered
  all : by.values ≡ slots_of offered
  within : by.pos < length by.values

load_of : (x : Bool) (b : Branch) (m : Matched) → Agrees x b (which_slot m) → LoadOf b m
load_of x (schedule s) m a = absurd a
load_of x (load l) m a = record { by = l; is-load = refl; offered = a.1; is = a.2; all = a.3; within = a.4 }
load_of x (spurious u) m a = absurd a

noted-as : (it : List Entry) {before now : List Entry} {t u : Tick State} → before ≡ now → u ≡ t → Noted before it t →
    Noted now it u
noted-as it e f n = rw (← e, f) n

-- it answers with the slot at its position, and all its slots
pub slot-said : (pos : ℕ) (l : Load) (m : Matched) (a : Pick) → reply pos (load l) (which_slot m) ≡ says a →
    a ≡ read_slot (get_or l.values l.pos 0) l.values
unfolding reply
slot-said pos l m a e = go (ltb l.pos (length l.values) && all_below 7 l.values) e
  where
    go : (b : Bool) → cond b (says (read_slot (get_or l.values l.pos 0) l.values)) unexpected ≡ says a →
        a ≡ read_slot (get_or l.values l.pos 0) l.values
    go true f = cc
    go false f = let z : ◌≡◌ {A = ℕ} 0 1 = cc in absurd (omega arith)

module _ (p : Program) (limits : Limits) (site : Event.Site) (st s : State) (es : List Entry) (m : Matched) (offered : List Bool)
    (is : m ≡ offers offered) (u : Walk State) (slot : ℕ) (values : List ℕ) where
  -- the state with the version raised has the same active thread and row
  record Read : Type 0 where
    raised : s ≡ version_raised st (current st)
    bare : es ≡ []
    cell : ℕ
    opcode : ℕ
    reading : OfferOfRow p s m offered cell opcode
    entry : EntryOf p limits site u s slot values cell opcode

  reads-from : (row : Decoded Op) → active_op p st ≡ row → AsksFor st (current st) s es m row → Read
  unfolding LoadOffered RmwOffered
  reads-from (decoded (Table.load c o r)) e (of_load f g h) =
      let row : active_op p s ≡ decoded (Table.load c o r) = ap (active_op p) f ∙ e in
      let t : current s ≡ current st = ap current f in
      let scan : m ≡ matched_load s.clocks (marks_of s.marks c) s.numbers (current s) c o = rw t h in
      record {
        raised = f;
        bare = g;
        cell = c;
        opcode = 0;
        reading =
            of_load row scan (load-offered s.clocks (marks_of s.marks c) s.numbers (current s) c o offered (sym scan ∙ is));
        entry = load-noted p limits site u s slot values c o r row;
      }
  reads-from (decoded (Table.rmw c o x change r)) e (of_rmw f g h) =
      let row : active_op p s ≡ decoded (Table.rmw c o x change r) = ap (active_op p) f ∙ e in
      record {
        raised = f;
        bare = g;
        cell = c;
        opcode = 3;
        reading = of_rmw row h (rmw-offered s.clocks s.numbers c offered (sym h ∙ is));
        entry = rmw-noted p limits site u s slot values c o x r change row;
      }
  reads-from Table.refused e x = elim x [ ]
  reads-from (decoded (Table.store cell order a)) e x = elim x [ ]
  reads-from (decoded (Table.store_register cell order register)) e x = elim x [ ]
  reads-from (decoded (Table.fence order)) e x = elim x [ ]
  reads-from (decoded (Table.unsync_load cell register)) e x = elim x [ ]
  reads-from (decoded (Table.with_mut cell change register)) e x = elim x [ ]
  reads-from (decoded Table.yield) e x = elim x [ ]
  reads-from (decoded (Table.join thread)) e x = elim x [ ]
  reads-from (decoded (Table.jump target)) e x = elim x [ ]
  reads-from (decoded (Table.jump_if register a target)) e x = elim x [ ]
  reads-from (decoded (Table.jump_unless register a target)) e x = elim x [ ]
  reads-from (decoded (Table.check register a)) e x = elim x [ ]
  reads-from (decoded Table.critical) e x = elim x [ ]
  reads-from (decoded Table.explore_state) e x = elim x [ ]
  reads-from (decoded Table.skip_branch) e x = elim x [ ]
  reads-from (decoded (Table.spurious register)) e x = elim x [ ]
  reads-from (decoded (Table.plain_read plain register)) e x = elim x [ ]
  reads-from (decoded (Table.plain_write plain a)) e x = elim x [ ]

module _ (p : Program) (limits : Limits) where
  -- the question that the ledger has is this one
  same-question : (w : Walk State) (s : State) (es : List Entry) (x : Bool) (m : Matched) →
      (Machine.next p w.state).move ≡ asks s es x (which_slot m) → Answered (machine p) limits w →
      w.pos < (tick_left p limits w).pos →
      LoadOf (get_or (tick_left p limits w).ledger.path w.pos no_branch) m
  unfolding Answered
  same-question w s es x m e answered h =
      let a = answered h in
      let f : a.3 ≡ which_slot m = cc (e, a.4) in
      load_of a.2 (get_or (tick_left p limits w).ledger.path w.pos no_branch) m (rw f at a.5)

  chosen : (w : Walk State) (s : State) (es : List Entry) (x : Bool) (m : Matched) →
      (Machine.next p w.state).move ≡ asks s es x (which_slot m) → Answered (machine p) limits w →
      w.pos < (tick_left p limits w).pos →
      SlotChosen p limits w s es m
  chosen w s es x m e answered h =
      let l = same-question w s es x m e answered h in
      let g = (tick-passes (machine p) limits w s es x (which_slot m) e).passing h in
      let slot = get_or l.by.values l.by.pos 0 in
      let a : g.answer ≡ read_slot slot l.by.values =
      slot-said w.pos l.by m g.answer (rw l.is-load at g.replies) in
      let site = (Machine.next p w.state).site in
      let r =
      reads-from p limits site w.state s es m l.offered l.is g.on slot l.by.values (active_op p w.state) refl
      (rw e at (next-asks p w.state)) in
      let same : g.on.trace ≡ w.trace =
      g.trace-is ∙ (ap (λ (y : List Entry). w.trace ++ y) r.bare ∙ append-nil w.trace) in
      let tick_is : tick (machine p) limits w ≡ followed (machine p) limits site g.on
      (Machine.answered p s (read_slot slot l.by.values)) =
      g.tick_is ∙ ap (λ (y : Pick). followed (machine p) limits site g.on (Machine.answered p s y)) a in
      record {
        raised = r.raised;
        bare = r.bare;
        by = l.by;
        at-branch = l.is-load;
        offered = l.offered;
        is = l.is;
        all = l.all;
        within = l.within;
        cell = r.cell;
        opcode = r.opcode;
        reading = r.reading;
        noted = noted-as _ same tick_is r.entry;
      }

  pub offering : (w : Walk State) → Answered (machine p) limits w → OfferingTick p limits w
  offering w answered = record {
    at_slot = λ s es x m e. record {
      passes = (tick-passes (machine p) limits w s es x (which_slot m) e).goes-past;
      chosen = chosen w s es x m e answered;
    };
    no_other = no_other p limits w;
  }

  course-offers : (c : Course State) → Follows (machine p) limits c → OfferingCourse p limits c
  course-offers c f = every_map (Answered (machine p) limits) (OfferingTick p limits) c.ticks offering f.answered

pub all-offers : Offers
unfolding Offers Replay
all-offers p limits n =
    every_map (Follows (machine p) limits) (OfferingCourse p limits) (courses (machine p) limits n) (course-offers p limits)
    (replay (machine p) limits n)
