-- What a tick comes to. Assumes nothing.
--     take-concludes        it asks nothing
--     take-stays            the entry of a yield has no room
--     take_meets            it asks: marks, then the path
use Prim.Native.Nat.{ℕ, ◌+◌}
use mathlib.Core.List.{List, [], ◌∷◌}
use mathlib.Core.Bool.{Bool, true, false, cond}
use mathlib.Core.Path.{◌≡◌, refl, ap, sym, subst, ◌∙◌}
use native.Mathlib.Omega.{arith}
use types.Run.{OneOf, miss}
use denote.Enum.Declared.{tag_of}
use lib.Dec.{leb}
use lib.ListN.{length}
use Rattle.rules.specs.Event as rules
use Rattle.rules.specs.State.{State, Clocks, Marks as MarkTable, Values, Numbers}
use Rattle.rules.specs.Path as paths
use Rattle.rules.specs.Machine.{Program, machine, schedules, exploring_now}
use Rattle.rules.specs.Explorer as explorer
use Rattle.rules.specs.Explorer.{Walk, Tick, goes, faulted}
use Rattle.path.specs.Bounds.{bound_of}
use Rattle.std.specs.Prelude.{Option}
use Rattle.event.specs.contracts.Moved.{the_type as happened}
use Rattle.event.specs.declared.Fault.{Fault}
use Rattle.event.specs.declared.Moved.{Moved}
use Rattle.event.specs.Moves.{Happening}
use Rattle.std.specs.Prelude.{Ok, Err}
use Rattle.event.specs.declared.Moved.TheVariants as event
use Rattle.event.specs.declared.Question.{Question}
use Rattle.event.specs.declared.Question.TheVariants as question
use Rattle.meeting.specs.Stands.{Lent, lent, Stands, ComesTo, site_of}
use Rattle.meeting.specs.Branches.{asked_at, CursorMarks}
use Rattle.meeting.specs.Entries.{Kept, completed_by, completed_at, concluded_at, Lands}
use Rattle.meeting.specs.declared.Cursor.{Cursor}
use Rattle.event.specs.declared.Here.{Here}
use Rattle.meeting.specs.declared.Outcome.TheVariants as code
use Rattle.meeting.specs.declared.Ticked.{Ticked}
use Rattle.meeting.specs.contracts.Outcome.{the_type as outcomes}
use Rattle.walk.specs.Walks.{CursorPlaced, Gone}
use Rattle.walk.specs.Parts.{then_on, AsksAt, Rooms, Goes, MeetsNeeds, met_at, TakesNeeds, taken_at}
use Rattle.walk.proofs.WalkLaws.{take_on}
use Rattle.walk.proofs.MeetLaws.{stays_then, went_on}

-- a tick that asks nothing
abbrev pub AsksNothing : Happening → Type 0
AsksNothing (Ok event.Moves) = Unit
AsksNothing (Ok (event.Done slot mask v)) = Unit
AsksNothing (Ok (event.Asks q yielded)) = ⊥
AsksNothing (Ok event.Ends) = Unit
AsksNothing (Err f) = Unit

nothing-of : (m : Moved) → OneOf (0 ∷ 1 ∷ 3 ∷ []) (tag_of happened m) → AsksNothing (Ok m)
nothing-of event.Moves k = tt
nothing-of (event.Done slot mask v) k = tt
nothing-of (event.Asks q yielded) k = absurd (miss (0 ∷ 1 ∷ 3 ∷ []) 2 tt k)
nothing-of event.Ends k = tt

pub asks-nothing : (e : Happening) (m : Moved) → e ≡ Ok m → OneOf (0 ∷ 1 ∷ 3 ∷ []) (tag_of happened m) → AsksNothing e
asks-nothing e m is k = rw is (nothing-of m k)

pub stops-only : (e : Happening) (f : Fault) → e ≡ Err f → AsksNothing e
stops-only e f is = rw is tt

module _ (h : Here) where
  concluded-taken : (e : Happening) → AsksNothing e → (p : Program) (L : explorer.Limits) (w : Walk State) → concluded_at e h p L w ≡ taken_at e h p L w
  concluded-taken (Ok event.Moves) k p L w = refl
  concluded-taken (Ok (event.Done slot mask v)) k p L w = refl
  concluded-taken (Ok (event.Asks q yielded)) k p L w = absurd k
  concluded-taken (Ok event.Ends) k p L w = refl
  concluded-taken (Err f) k p L w = refl

  abbrev asking : Question → Program → explorer.Limits → State → Walk State → Tick State
  asking q p L st v = explorer.asked (machine p) L (site_of h.site) v (exploring_now st.numbers) (asked_at q h st)

  by-fit : (f : Walk State → Tick State) (b : Bool) (v w : Walk State) → cond b (f v) (faulted rules.impossible (site_of h.site) w) ≡ then_on f (cond b (goes v) (faulted rules.impossible (site_of h.site) w))
  by-fit f true v w = refl
  by-fit f false v w = refl

  taken-asks : (q : Question) (yielded : Bool) (p : Program) (L : explorer.Limits) (w : Walk State) → taken_at (Ok (event.Asks q yielded)) h p L w ≡ then_on (asking q p L w.state) (completed_at yielded h p L w)
  unfolding schedules
  taken-asks question.Thread yielded p L w = by-fit (asking question.Thread p L w.state) (leb (length w.trace + length (completed_by yielded h)) L.operations) (explorer.noted w w.state (completed_by yielded h)) w
  taken-asks question.Slot yielded p L w = by-fit (asking question.Slot p L w.state) (leb (length w.trace + length (completed_by yielded h)) L.operations) (explorer.noted w w.state (completed_by yielded h)) w
  taken-asks question.Bit yielded p L w = by-fit (asking question.Bit p L w.state) (leb (length w.trace + length (completed_by yielded h)) L.operations) (explorer.noted w w.state (completed_by yielded h)) w

module _ (c : Cursor) (h : Here) (ev : Happening) (bound : Option ℕ) (clocks : Clocks) (marks : MarkTable) (values : Values) (numbers : Numbers) (path trace : List ℕ) (placed : CursorPlaced c path trace) where
  abbrev before : Lent
  before = lent clocks marks values numbers path trace

  kept-gone : {d : Cursor} {left : List ℕ} → Kept c d left → Gone c d 60 path left
  kept-gone k =
      record {
        placed = record { passed = omega (arith, placed.passed, k.same-pos, k.same_len); within = omega (arith, placed.within, k.same_len); noted = k.noted };
        few = omega (arith, k.same-opened);
      }

  pub take-concludes : (r : Ticked) (left : List ℕ) → AsksNothing ev → Lands c r trace left (concluded_at ev h)
      → Goes before (lent clocks marks values numbers path left) c r 60 h (TakesNeeds ev h bound) (taken_at ev h)
  take-concludes r left k l =
      record {
        gone = kept-gone l.kept;
        wrote = l.wrote;
        comes = λ p L w rooms needs s.
            subst (λ (y : Tick State). ComesTo r.outcome r.cursor (lent clocks marks values numbers path left) y) (concluded-taken h ev k p L w)
            (l.comes p L before w rooms.room s);
      }

  module _ (q : Question) (yielded : Bool) (e : ev ≡ Ok (event.Asks q yielded)) (n : Ticked) (left : List ℕ) (l : Lands c n trace left (completed_at yielded h)) where
    abbrev noted : Lent
    noted = lent clocks marks values numbers path left

    for-event : {exit : Lent} {r : Ticked} → Goes before exit c r 60 h (TakesNeeds (Ok (event.Asks q yielded)) h bound) (taken_at (Ok (event.Asks q yielded)) h) → Goes before exit c r 60 h (TakesNeeds ev h bound) (taken_at ev h)
    for-event {exit} {r} g = subst (λ (x : Happening). Goes before exit c r 60 h (TakesNeeds x h bound) (taken_at x h)) (sym e) g

    pub take-stays : OneOf (1 ∷ 2 ∷ []) (tag_of outcomes n.outcome) → Goes before noted c n 60 h (TakesNeeds ev h bound) (taken_at ev h)
    take-stays k =
        for-event
        (record {
          gone = kept-gone l.kept;
          wrote = l.wrote;
          comes = λ p L w rooms needs s.
              subst (λ (y : Tick State). ComesTo n.outcome n.cursor noted y) (sym (taken-asks h q yielded p L w))
              (stays_then (asking h q p L w.state) n.cursor noted n.outcome k (completed_at yielded h p L w) (l.comes p L before w rooms.room s));
        })

    module _ (d : Cursor) (marked : List ℕ) (m : CursorMarks n.cursor d clocks numbers path marked bound q) (long : length marked ≡ length path) (goes-on : n.outcome ≡ code.Goes) (r : Ticked) (exit : Lent)
        (g : Goes (lent clocks marks values numbers marked left) exit d r 6 h (MeetsNeeds q h) (met_at q h)) where
      meets-rooms : (p : Program) (L : explorer.Limits) → Rooms p L h path trace → Rooms p L h marked left
      meets-rooms p L rooms =
          record {
            holding = record { branches = rooms.holding.branches ∙ sym long; few = rooms.holding.few };
            room = rooms.room ∙ sym l.wrote.long;
            is_row = rooms.is_row;
          }

      abbrev marking : Program → explorer.Limits → Walk State → paths.Bound → State → Tick State
      marking p L v b st = explorer.met (machine p) L (site_of h.site) (explorer.with_ledger v (explorer.first_marked b v.ledger (asked_at q h st))) (exploring_now st.numbers) (asked_at q h st)

      meets-comes : (p : Program) (L : explorer.Limits) (w v : Walk State) → Rooms p L h path trace → AsksAt q w.state h → L.bound ≡ bound_of bound → v.state ≡ w.state → Stands noted n.cursor v
          → ComesTo r.outcome r.cursor exit (asking h q p L w.state v)
      meets-comes p L w v rooms asks b same s =
          subst (λ (y : Tick State). ComesTo r.outcome r.cursor exit y)
          (ap (λ (x : paths.Bound). marking p L v x v.state) (sym b) ∙ ap (marking p L v L.bound) same)
          (g.comes p L (explorer.with_ledger v (explorer.first_marked (bound_of bound) v.ledger (asked_at q h v.state))) (meets-rooms p L rooms)
          (subst (λ (st : State). AsksAt q st h) (sym same) asks) (m.stands v marks values left h s))

      pub take_meets : Goes before exit c r 60 h (TakesNeeds ev h bound) (taken_at ev h)
      take_meets =
          for-event
          (record {
            gone = take_on l.kept m.marked g.gone;
            wrote = record {
              more = omega (arith, l.wrote.more, m.marked.same_entries, g.wrote.more);
              long = g.wrote.long ∙ l.wrote.long;
              beyond = λ i k. g.wrote.beyond i k ∙ l.wrote.beyond i (omega (arith, k, m.marked.same_entries, g.wrote.more));
            };
            comes = λ p L w rooms needs s.
                let on = went_on n.outcome (completed_at yielded h p L w) goes-on (l.comes p L before w rooms.room s) in
                subst (λ (y : Tick State). ComesTo r.outcome r.cursor exit y) (sym (taken-asks h q yielded p L w ∙ ap (then_on (asking h q p L w.state)) on.is))
                (meets-comes p L w on.walk rooms needs.moves needs.is_bound (on.stands.is_state ∙ sym s.is_state) on.stands);
          })
