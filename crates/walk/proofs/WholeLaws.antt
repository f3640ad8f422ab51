-- A tick of the active thread, whole: there is none, or it stands at its row. Assumes nothing.
--     tick-nobody      no thread is active
--     tick-someone     the active thread's tick at its row
use Prim.Native.Nat.{ℕ, ◌+◌, ◌≤◌, ◌<◌}
use mathlib.Core.List.{List}
use mathlib.Core.Bool.{true, false}
use mathlib.Core.Path.{◌≡◌, refl, ap, sym, subst, ◌∙◌}
use native.Mathlib.Omega.{arith}
use borrow.Author.Tests.{le-ltb, lt-ltb}
use lib.Dec.{ltb}
use lib.ListN.{get_or}
use Rattle.rules.specs.Event as rules
use Rattle.rules.specs.Event.{no_site}
use Rattle.rules.specs.State.{State, Clocks, Marks as MarkTable, Values, Numbers, number, active_thread, next_row}
use Rattle.rules.specs.Table.{op_at, room_of, shape_of, cells_of, counts_of, first_rows}
use Rattle.rules.specs.Machine.{Program, machine, current, next, row_of}
use Rattle.rules.specs.Explorer as explorer
use Rattle.rules.specs.Explorer.{Walk, Tick, faulted}
use Rattle.decode.specs.Ops.{decoded_of}
use Rattle.table.specs.Answers.{OpAt, room_in}
use Rattle.event.specs.declared.Fault.TheVariants as fault
use Rattle.event.specs.declared.Site.{Site}
use Rattle.meeting.specs.Stands.{Lent, lent, Stands, ComesTo, FaultMet, site_of}
use Rattle.meeting.specs.declared.Cursor.{Cursor}
use Rattle.event.specs.declared.Here.{Here}
use Rattle.meeting.specs.declared.Ticked.{Ticked}
use Rattle.meeting.proofs.ComesLaws.{comes-faulted, same-stands}
use Rattle.walk.specs.Walks.{CursorPlaced, Runs, Ticks}
use Rattle.walk.specs.Parts.{Goes, TicksNeeds, ticked_at, AtRow}
use Rattle.walk.specs.declared.Limits.{Limits}
use Rattle.table.proofs.ShapeLaws.{shape-threads, shape-cells, shape-plains, shape-rows, shape-first}

nobody-tick : (p : Program) (L : explorer.Limits) (w : Walk State) → ltb (current w.state) 5 ≡ false → explorer.tick (machine p) L w ≡ faulted rules.impossible no_site w
unfolding explorer.tick next
nobody-tick p L w e = rw e

someone-tick : (p : Program) (L : explorer.Limits) (w : Walk State) (h : Here) → ltb (current w.state) 5 ≡ true → AtRow w.state h → explorer.tick (machine p) L w ≡ ticked_at h p L w
unfolding explorer.tick next
someone-tick p L w h e at = rw (e, at.row, at.who)

module _ (table shape : List ℕ) (limits : Limits) (c : Cursor) (r : Ticked) (clocks : Clocks) (marks : MarkTable) (values : Values) (numbers : Numbers) (path trace : List ℕ) where
  abbrev entry : Lent
  entry = lent clocks marks values numbers path trace

  pub tick-nobody : (s : Site) → CursorPlaced c path trace → 5 ≤ number numbers active_thread → site_of s ≡ no_site → FaultMet fault.Impossible s c r → Ticks entry entry table shape limits c r
  tick-nobody s placed h e g =
      record {
        comes = λ p L w runs stands.
            comes-faulted r entry w fault.Impossible s (explorer.tick (machine p) L w) g.is
            (nobody-tick p L w (subst (λ (st : State). ltb (current st) 5 ≡ false) (sym stands.is_state) (le-ltb (number numbers active_thread) 5 h))
            ∙ ap (λ (x : rules.Site). faulted rules.impossible x w) (sym e))
            (same-stands g.stays stands);
        gone = record {
          placed = record {
            passed = omega (arith, placed.passed, g.stays.same-pos, g.stays.same_len);
            within = omega (arith, placed.within, g.stays.same_len);
            noted = omega (arith, placed.noted, g.stays.same_entries);
          };
          few = omega (arith, g.stays.same-opened);
        };
        more = omega (arith, g.stays.same_entries);
        beyond = λ i k. refl;
      }

  module _ (h : Here) (who : h.site.thread ≡ number numbers active_thread) (number_is : h.site.row ≡ number numbers (next_row h.site.thread)) (few : h.site.thread < 5)
      (row : OpAt table (room_in shape h.site.thread h.site.row) (get_or shape (7 + h.site.thread) 0 + h.site.row) h.row) where
    abbrev t : ℕ
    t = h.site.thread

    at_row : (w : Walk State) → Stands entry c w → AtRow w.state h
    at_row w stands =
        let a : current w.state ≡ t = ap (λ (st : State). current st) stands.is_state ∙ sym who in
        record {
          who = a;
          row = ap (λ (st : State). number st.numbers (next_row (current st))) stands.is_state ∙ ap (λ (n : ℕ). number numbers (next_row n)) (sym who) ∙ sym number_is;
        }

    is_row : (p : Program) (L : explorer.Limits) → Runs p L table shape limits path trace → row_of p t h.site.row ≡ decoded_of h.row
    is_row p L runs =
        let s : (k : ℕ) → get_or shape k 0 ≡ get_or (shape_of table) k 0 = λ k. ap (λ (l : List ℕ). get_or l k 0) runs.is-shape in
        let a = s 0 ∙ shape-threads table runs.header in
        let b = s 1 ∙ shape-cells table runs.header in
        let d = s (2 + t) ∙ shape-rows table runs.header t few in
        let e = s (7 + t) ∙ shape-first table runs.header t few in
        let f = s 12 ∙ shape-plains table runs.header in
        subst (λ (x : List ℕ). op_at x (room_of x (get_or (counts_of x) t 0) h.site.row) (get_or (first_rows 0 (counts_of x)) t 0 + h.site.row) ≡ decoded_of h.row) (sym runs.is-table)
        (sym (row.is ∙ simp (a, b, d, e, f)))

    pub tick-someone : (exit : Lent) → Goes entry exit c r 60 h (TicksNeeds shape limits h) (ticked_at h) → Ticks entry exit table shape limits c r
    tick-someone exit g =
        record {
          comes = λ p L w runs stands.
              let at = at_row w stands in
              let s : (k : ℕ) → get_or shape k 0 ≡ get_or (shape_of table) k 0 = λ k. ap (λ (l : List ℕ). get_or l k 0) runs.is-shape in
              let on : ltb (current w.state) 5 ≡ true = subst (λ (n : ℕ). ltb n 5 ≡ true) (sym at.who) (lt-ltb t 5 few) in
              subst (λ (y : Tick State). ComesTo r.outcome r.cursor exit y) (sym (someone-tick p L w h on at))
              (g.comes p L w
              (record { holding = record { branches = runs.branches; few = runs.few }; room = runs.room; is_row = is_row p L runs })
              (record {
                operations = runs.operations;
                cells = ap cells_of runs.is-table ∙ sym (s 1 ∙ shape-cells table runs.header);
                rows = ap (λ (x : List ℕ). get_or (counts_of x) t 0) runs.is-table ∙ sym (s (2 + t) ∙ shape-rows table runs.header t few);
                is_bound = runs.is_bound;
                there = at;
              })
              stands);
          gone = g.gone;
          more = g.wrote.more;
          beyond = g.wrote.beyond;
        }
