-- The ticks of an execution, one after another. Assumes nothing.
--     ticking-none, ticking-more      before the first tick, and after one more
--     walks-ended, walks-spent        the execution has ended or stopped, or its ticks are used up
use Prim.Native.Nat.{ℕ, suc, ◌+◌, ◌-◌, ◌*◌, ◌≤◌, ◌<◌}
use mathlib.Core.List.{List, [], ◌∷◌}
use mathlib.Core.Path.{◌≡◌, refl, sym, ap, subst, ◌∙◌}
use native.Mathlib.Omega.{arith}
use lib.ListN.{length, get_or}
use types.Run.{OneOf}
use denote.Enum.Declared.{tag_of}
use Rattle.rules.specs.Event as rules
use Rattle.rules.specs.State.{State}
use Rattle.rules.specs.Machine.{Program, machine}
use Rattle.rules.specs.Explorer as explorer
use Rattle.rules.specs.Explorer.{Walk, Tick, goes, over, faulted}
use Rattle.rules.specs.Explored.{ticks_of}
use Rattle.event.specs.declared.Fault.TheVariants as fault
use Rattle.event.specs.declared.Site.{Site}
use Rattle.meeting.specs.Stands.{Lent, Stands, ComesTo, FaultMet, site_of}
use Rattle.meeting.specs.declared.Cursor.{Cursor}
use Rattle.meeting.specs.declared.Outcome.{Outcome}
use Rattle.meeting.specs.declared.Outcome.TheVariants as code
use Rattle.meeting.specs.declared.Ticked.{Ticked}
use Rattle.meeting.specs.contracts.Outcome.{the_type as outcomes}
use Rattle.meeting.proofs.ComesLaws.{same-stands, comes-faulted}
use Rattle.walk.specs.Walks.{CursorPlaced, Runs, Gone, Ticks}
use Rattle.walk.specs.Parts.{then_on}
use Rattle.walk.specs.declared.Limits.{Limits}
use Rattle.walk.proofs.MeetLaws.{stays_then, went_on}
use Rattle.iteration.specs.Executes.{most_opened, Underway, Ticking, Walks}
use Rattle.iteration.proofs.GoneLaws.{gone-more, faulted-gone}

module _ (p : Program) (L : explorer.Limits) where
  walked_then : (m : ℕ) (w : Walk State) → explorer.walked (machine p) L (suc m) w ≡ then_on (explorer.walked (machine p) L m) (explorer.tick (machine p) L w)
  unfolding explorer.walked
  walked_then m w = go (explorer.tick (machine p) L w)
    where
      go : (t : Tick State) → elim t [ goes v ↦ explorer.walked (machine p) L m v | over v ↦ over v | faulted f s v ↦ faulted f s v ] ≡ then_on (explorer.walked (machine p) L m) t
      go (goes v) = refl
      go (over v) = refl
      go (faulted f s v) = refl

  walked_none : (w : Walk State) → explorer.walked (machine p) L 0 w ≡ faulted rules.impossible rules.no_site w
  unfolding explorer.walked
  walked_none w = refl

-- only the lengths of the buffers matter to a run's limits
runs-kept : {p : Program} {L : explorer.Limits} {table shape : List ℕ} {limits : Limits} {path trace path' trace' : List ℕ}
    → length path' ≡ length path → length trace' ≡ length trace → Runs p L table shape limits path trace → Runs p L table shape limits path' trace'
runs-kept e f r =
    record {
      is-table = r.is-table;
      header = r.header;
      is-shape = r.is-shape;
      operations = r.operations;
      rows = r.rows;
      branches = r.branches ∙ sym e;
      few = r.few;
      room = r.room ∙ sym f;
      is_bound = r.is_bound;
    }

module _ (table shape : List ℕ) (limits : Limits) (c : Cursor) (entry : Lent) where
  pub ticking-none : CursorPlaced c entry.path entry.trace → Ticking entry entry table shape limits c c 0
  ticking-none placed =
      record {
        comes = λ p L w runs stands. record { walk = w; stands = stands; rest = λ m. ap (λ (j : ℕ). explorer.walked (machine p) L j w) (omega arith) };
        gone = record { placed = placed; few = omega arith };
        same-path = refl;
        same-trace = refl;
        more = omega arith;
        beyond = λ i h. refl;
      }

  module _ {now : Lent} {d : Cursor} {n : ℕ} (t : Ticking entry now table shape limits c d n) where
    under : (p : Program) (L : explorer.Limits) (w : Walk State) → Runs p L table shape limits entry.path entry.trace → Stands entry c w → Underway p L w n now d
    under p L w runs stands = t.comes p L w runs stands

    module _ {next : Lent} (r : Ticked) (k : Ticks now next table shape limits d r) where
      -- how the tick comes out, of the walk that it starts from
      comes-on : (p : Program) (L : explorer.Limits) (w : Walk State) (runs : Runs p L table shape limits entry.path entry.trace) (stands : Stands entry c w)
          → ComesTo r.outcome r.cursor next (explorer.tick (machine p) L (under p L w runs stands).walk)
      comes-on p L w runs stands =
          let u = under p L w runs stands in
          k.comes p L u.walk (runs-kept t.same-path t.same-trace runs) u.stands

      still : (i : ℕ) → 16 * r.cursor.entries ≤ i → get_or next.trace i 0 ≡ get_or entry.trace i 0
      still i h = k.beyond i h ∙ t.beyond i (omega (arith, k.more))

      goes-under : r.outcome ≡ code.Goes → (p : Program) (L : explorer.Limits) (w : Walk State) → Runs p L table shape limits entry.path entry.trace → Stands entry c w → Underway p L w (n + 1) next r.cursor
      goes-under e p L w runs stands =
          let u = under p L w runs stands in
          let on = went_on r.outcome (explorer.tick (machine p) L u.walk) e (comes-on p L w runs stands) in
          record {
            walk = on.walk;
            stands = on.stands;
            rest = λ m.
                ap (λ (j : ℕ). explorer.walked (machine p) L j w) (omega arith)
                ∙ u.rest (suc m)
                ∙ walked_then p L m u.walk
                ∙ ap (then_on (explorer.walked (machine p) L m)) on.is;
          }

      pub ticking-more : r.outcome ≡ code.Goes → length next.path ≡ length now.path → length next.trace ≡ length now.trace → Ticking entry next table shape limits c r.cursor (n + 1)
      ticking-more e long traced =
          record {
            comes = goes-under e;
            gone = gone-more t.gone k.gone (omega arith);
            same-path = long ∙ t.same-path;
            same-trace = traced ∙ t.same-trace;
            more = omega (arith, t.more, k.more);
            beyond = still;
          }

      pub walks-ended : OneOf (1 ∷ 2 ∷ []) (tag_of outcomes r.outcome) → n < ticks_of limits.operations → n < ticks_of 65535 → Walks entry next table shape limits c r
      walks-ended o l few =
          record {
            comes = λ p L w runs stands.
                let u = under p L w runs stands in
                let m : ℕ = ticks_of limits.operations - (n + 1) in
                subst (λ (y : Tick State). ComesTo r.outcome r.cursor next y)
                (sym (ap (λ (j : ℕ). explorer.walked (machine p) L j w) (omega arith) ∙ u.rest (suc m) ∙ walked_then p L m u.walk))
                (stays_then (explorer.walked (machine p) L m) r.cursor next r.outcome o (explorer.tick (machine p) L u.walk) (comes-on p L w runs stands));
            gone = gone-more t.gone k.gone (omega arith);
            beyond = still;
          }

    pub walks-spent : n ≡ ticks_of limits.operations → n ≤ ticks_of 65535 → (s : Site) → site_of s ≡ rules.no_site → (r : Ticked) → FaultMet fault.Impossible s d r → Walks entry now table shape limits c r
    walks-spent e few s nowhere r stopped =
        record {
          comes = λ p L w runs stands.
              let u = under p L w runs stands in
              comes-faulted r now u.walk fault.Impossible s (explorer.walked (machine p) L (ticks_of limits.operations) w) stopped.is
              (ap (λ (j : ℕ). explorer.walked (machine p) L j w) (omega (arith, e)) ∙ u.rest 0 ∙ walked_none p L u.walk ∙ ap (λ (y : rules.Site). faulted rules.impossible y u.walk) (sym nowhere))
              (same-stands stopped.stays u.stands);
          gone = faulted-gone t.gone stopped (omega arith);
          beyond = λ i h. t.beyond i (omega (arith, stopped.stays.same_entries));
        }
