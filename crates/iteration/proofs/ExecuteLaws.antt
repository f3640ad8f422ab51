-- An execution, from the ledger that it starts with. Assumes nothing.
--     started       the tables are those of the start
--     executed      the ticks from there are the definition's execution
use Prim.Native.Nat.{ℕ, ◌+◌, ◌*◌, ◌≤◌, ◌<◌}
use mathlib.Core.List.{List, []}
use mathlib.Core.Bool.{Bool}
use mathlib.Core.Path.{◌≡◌, refl, sym, ap, subst, ◌∙◌}
use native.Mathlib.Omega.{arith}
use lib.ListN.{length, get_or}
use Rattle.rules.specs.Vector.{largest}
use Rattle.rules.specs.Path.{positions}
use Rattle.rules.specs.State.{State, Clocks, Marks, Values, Numbers}
use Rattle.rules.specs.Table.{threads_of, cells_of, plains_of}
use Rattle.rules.specs.Machine as machine
use Rattle.rules.specs.Explorer as explorer
use Rattle.rules.specs.Explorer.{Walk, Ledger, Tick}
use Rattle.rules.specs.Explored.{Settings, ticks_of, program_of, limits_of}
use Rattle.rules.proofs.LimitLaws.{branches-most, operations-most, branches-fit, operations-fit}
use Rattle.layout.specs.Tables.{state}
use Rattle.trace.proofs.FrontLaws.{front-none}
use Rattle.meeting.specs.Stands.{Lent, lent, Stands, ComesTo}
use Rattle.meeting.specs.declared.Cursor.{Cursor}
use Rattle.meeting.specs.declared.Ticked.{Ticked}
use Rattle.walk.specs.Walks.{Runs, Gone}
use Rattle.iteration.specs.Executes.{most_opened, Afresh, RunReady, Shaped, TermsGiven, Knows, Walks, Executes, machine_of}
use Rattle.iteration.specs.declared.Terms.{Terms}
use Rattle.iteration.proofs.ReadyLaws.{ready-header, ready-threads, ready-cells, ready-plains}

-- the tables are those of the start, whatever the settings and the condition
abbrev Started : Clocks → Marks → Values → Numbers → List ℕ → List ℕ → Bool → Type 0
Started clocks marks values numbers table shape exploring =
    (condition : List ℕ) (s : Settings) (path trace : List ℕ) → Shaped table shape s path trace → s.exploring ≡ exploring
    → state clocks marks values numbers ≡ machine.start (program_of table condition s)

pub started : {clocks : Clocks} {marks : Marks} {values : Values} {numbers : Numbers} (table shape : List ℕ) (exploring : Bool)
    → ((p : machine.Program) → p.table ≡ table → p.exploring ≡ exploring → threads_of p.table ≡ get_or shape 0 0 → cells_of p.table ≡ get_or shape 1 0 → plains_of p.table ≡ get_or shape 12 0 → state clocks marks values numbers ≡ machine.start p)
    → Started clocks marks values numbers table shape exploring
started table shape exploring h condition s path trace shaped explores =
    h (program_of table condition s) refl explores
    (sym (ready-threads shaped.ready shaped.is-shape))
    (sym (ready-cells shaped.ready shaped.is-shape))
    (sym (ready-plains shaped.ready shaped.is-shape))

module _ (table condition shape : List ℕ) (s : Settings) (path trace : List ℕ) (shaped : Shaped table shape s path trace) where
  in-range : (s.branches ≤ positions) × (s.operations < largest)
  in-range =
      let b = branches-most s shaped.ready.in-range in
      let n = operations-most s shaped.ready.in-range in
      (omega (arith, branches-fit), omega (arith, operations-fit))

  runs_so : {t : Terms} → TermsGiven s t → Runs (program_of table condition s) (limits_of s) table shape t.limits path trace
  runs_so given =
      record {
        is-table = refl;
        header = ready-header shaped.ready;
        is-shape = shaped.is-shape;
        operations = sym given.operations;
        rows = sym given.operations;
        branches = sym shaped.ready.path-long;
        few = omega (arith, in-range);
        room = sym shaped.ready.trace-long;
        is_bound = sym given.bound;
      }

  fresh-stands : {clocks : Clocks} {marks : Marks} {values : Values} {numbers : Numbers} {c d : Cursor} (l : Ledger)
      → state clocks marks values numbers ≡ machine.start (program_of table condition s) → Afresh c d → Knows path c l
      → Stands (lent clocks marks values numbers path trace) d (explorer.fresh (machine_of table condition s) (limits_of s) (explorer.one_begun (machine_of table condition s) (limits_of s) l))
  fresh-stands l e a k =
      record {
        is_state = sym e;
        holds = k.holds;
        is-len = k.is-len ∙ sym a.same_len;
        is-opened = k.is-opened ∙ sym a.same-opened;
        is_pos = sym a.first;
        front = front-none trace;
        is-entries = sym a.empty;
      }

  execution-is : (l : Ledger) {n : ℕ} → n ≡ s.operations
      → explorer.walked (machine_of table condition s) (limits_of s) (ticks_of n) (explorer.fresh (machine_of table condition s) (limits_of s) (explorer.one_begun (machine_of table condition s) (limits_of s) l)) ≡ explorer.execution (machine_of table condition s) (limits_of s) l
  unfolding explorer.execution
  execution-is l e = rw e refl

module _ (table shape : List ℕ) (t : Terms) (c d : Cursor) (path trace : List ℕ) (entry exit : Lent) (r : Ticked)
    (same-path : entry.path ≡ path) (same-trace : entry.trace ≡ trace) where
  pub executed : {clocks : Clocks} {marks : Marks} {values : Values} {numbers : Numbers}
      → Started clocks marks values numbers table shape t.exploring → Afresh c d
      → Walks (lent clocks marks values numbers path trace) exit table shape t.limits d r → Executes entry exit table shape t c r
  executed starts a w =
      record {
        comes = λ condition s m given shaped' knows.
            let shaped : Shaped table shape s path trace = rw (same-path, same-trace) at shaped' in
            subst (λ (y : Tick State). ComesTo r.outcome r.cursor exit y)
            (execution-is table condition shape s path trace shaped m given.operations)
            (w.comes (program_of table condition s) (limits_of s) _ (runs_so table condition shape s path trace shaped given)
            (fresh-stands table condition shape s path trace shaped m (starts condition s path trace shaped given.exploring) a (rw same-path at knows)));
        gone = record { placed = w.gone.placed; few = omega (arith, w.gone.few, a.same-opened) };
        beyond = λ i h. w.beyond i h ∙ ap (λ (b : List ℕ). get_or b i 0) (sym same-trace);
      }
