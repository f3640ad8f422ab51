-- What rule (a) marks, thread by thread. Assumes nothing.
--     thread-nowhere, thread-marked                     of one thread
--     below_none, turn-marked, turn-same, below_all     of those below a thread, and of all
--     mark-other, mark-all                              before a question meets the path
use Prim.Native.Nat.{ℕ, suc, ◌+◌, ◌*◌, ◌≤◌}
use mathlib.Core.List.{List, [], ◌∷◌, map}
use mathlib.Core.Path.{◌≡◌, refl, ap, sym, subst, ◌∙◌}
use native.Mathlib.Omega.{arith}
use lib.ListN.{length}
use Rattle.std.specs.Prelude.{Option, None, Some}
use types.Run.{OneOf, miss}
use denote.Enum.Declared.{tag_of}
use Rattle.rules.specs.Event as rules
use Rattle.rules.specs.State.{State, Clocks, Marks as MarkTable, Values, Numbers}
use Rattle.rules.specs.Machine.{conflict, every_thread}
use Rattle.rules.specs.Explorer as explorer
use Rattle.rules.specs.Explorer.{Walk, backtrack_from, all_marked}
use Rattle.layout.specs.Tables.{state}
use Rattle.path.specs.Bounds.{bound_of}
use Rattle.path.specs.Walks.{Backtracks}
use Rattle.path.proofs.WalkLaws.{length-backtracked}
use Rattle.scheduling.specs.Schedules.{point_of}
use Rattle.event.specs.contracts.Question.{the_type as asked}
use Rattle.event.specs.declared.Question.{Question}
use Rattle.event.specs.declared.Question.TheVariants as question
use Rattle.meeting.specs.Stands.{lent, Stands}
use Rattle.meeting.specs.Branches.{asked_at, MarkedBy, MarksThread, marked_below, MarksBelow, MarksThreads, CursorMarks}
use Rattle.meeting.specs.declared.Cursor.{Cursor}
use Rattle.event.specs.declared.Here.{Here}

module _ (clocks : Clocks) (numbers : Numbers) (bound : Option ℕ) where
  module _ (t : ℕ) (p : Option ℕ) (says : (marks : MarkTable) (values : Values) → point_of p ≡ conflict (state clocks marks values numbers) t) where
    pub thread-nowhere : p ≡ None → (path : List ℕ) → MarksThread clocks numbers path path bound t 0
    thread-nowhere e path =
        record {
          few = omega arith;
          keeps = refl;
          marks = λ l marks values h.
              subst (λ (x : rules.Point). MarkedBy path l (backtrack_from (bound_of bound) l x t) 0) (sym (ap point_of e) ∙ says marks values)
              (record { holds = h; same = refl; opens = omega arith });
        }

    pub thread-marked : {n : ℕ} (point : ℕ) {entry exit : List ℕ} {r : ℕ} → p ≡ Some n → point ≡ n → Backtracks entry exit point (bound_of bound) t r → MarksThread clocks numbers entry exit bound t r
    thread-marked {n} point {entry} {exit} {r} e same b =
        record {
          few = b.few;
          keeps = b.keeps;
          marks = λ l marks values h.
              let there : rules.branch point ≡ conflict (state clocks marks values numbers) t = ap rules.branch same ∙ sym (ap point_of e) ∙ says marks values in
              subst (λ (x : rules.Point). MarkedBy exit l (backtrack_from (bound_of bound) l x t) r) there
              (record {
                holds = (b.marks l.path h).holds;
                same = length-backtracked (bound_of bound) l.path point t;
                opens = ap (λ (k : ℕ). l.opened + k) (sym (b.marks l.path h).opens);
              });
        }

  pub below_none : (path : List ℕ) → MarksBelow clocks numbers path path bound 0 0
  unfolding marked_below
  below_none path l marks values h = record { holds = h; same = refl; opens = omega arith }

  below_suc : {entry mid exit : List ℕ} (n opened r : ℕ) → MarksBelow clocks numbers entry mid bound n opened → MarksThread clocks numbers mid exit bound n r → MarksBelow clocks numbers entry exit bound (suc n) (opened + r)
  unfolding marked_below
  below_suc n opened r below more l marks values h =
      let first = below l marks values h in
      let next = more.marks (marked_below bound (state clocks marks values numbers) l n) marks values first.holds in
      record {
        holds = next.holds;
        same = next.same ∙ first.same;
        opens = omega (arith, next.opens, first.opens);
      }

  below_more : {entry mid exit : List ℕ} (n opened r : ℕ) → MarksBelow clocks numbers entry mid bound n opened → MarksThread clocks numbers mid exit bound n r → MarksBelow clocks numbers entry exit bound (n + 1) (opened + r)
  below_more {entry} {mid} {exit} n opened r below more =
      let e : suc n ≡ n + 1 = omega arith in
      subst (λ (k : ℕ). MarksBelow clocks numbers entry exit bound k (opened + r)) e (below_suc n opened r below more)

  -- a turn of the walk: the bytes and the count after it, where the thread is in conflict and where it is not
  pub turn-marked : {entry mid exit path : List ℕ} (n opened : ℕ) {r total : ℕ} → path ≡ exit → total ≡ opened + r →
      opened ≤ 10 * n → length mid ≡ length entry → MarksBelow clocks numbers entry mid bound n opened → MarksThread clocks numbers mid exit bound n r →
      (total ≤ 10 * (n + 1)) × (length path ≡ length entry) × MarksBelow clocks numbers entry path bound (n + 1) total
  turn-marked n opened {r} e f few keeps below more =
      rw (e, f) (omega (arith, few, more.few), more.keeps ∙ keeps, below_more n opened r below more)

  pub turn-same : {entry mid path : List ℕ} (n opened : ℕ) {total : ℕ} → path ≡ mid → total ≡ opened →
      opened ≤ 10 * n → length mid ≡ length entry → MarksBelow clocks numbers entry mid bound n opened → MarksThread clocks numbers mid mid bound n 0 →
      (total ≤ 10 * (n + 1)) × (length path ≡ length entry) × MarksBelow clocks numbers entry path bound (n + 1) total
  turn-same n opened e f few keeps below more =
      let z : opened ≡ opened + 0 = omega arith in turn-marked n opened e (f ∙ z) few keeps below more

  all-five : {entry exit : List ℕ} (r : ℕ) → r ≤ 50 → MarksBelow clocks numbers entry exit bound 5 r → MarksThreads clocks numbers entry exit bound r
  unfolding marked_below all_marked
  all-five r few below = record { few = few; marks = λ l marks values h. below l marks values h }

  pub below_all : {entry exit : List ℕ} (n r : ℕ) → n ≡ 5 → r ≤ 50 → MarksBelow clocks numbers entry exit bound n r → MarksThreads clocks numbers entry exit bound r
  below_all {entry} {exit} n r e few below = all-five r few (subst (λ (k : ℕ). MarksBelow clocks numbers entry exit bound k r) e below)

-- so many choices more
pub record MoreOpened (c : Cursor) (n : ℕ) (d : Cursor) : Type 0 where
  pub same_len : d.len ≡ c.len
  pub same-pos : d.pos ≡ c.pos
  pub same_entries : d.entries ≡ c.entries
  pub more : d.opened ≡ c.opened + n

module _ (c d : Cursor) (clocks : Clocks) (numbers : Numbers) (bound : Option ℕ) (q : Question) where
  other-stands : (k : Question) → OneOf (1 ∷ 2 ∷ []) (tag_of asked k) → (path : List ℕ) (w : Walk State) (marks : MarkTable) (values : Values) (trace : List ℕ) (h : Here)
      → Stands (lent clocks marks values numbers path trace) c w
      → Stands (lent clocks marks values numbers path trace) c (explorer.with_ledger w (explorer.first_marked (bound_of bound) w.ledger (asked_at k h w.state)))
  other-stands question.Thread e path w marks values trace h s = absurd (miss (1 ∷ 2 ∷ []) 0 tt e)
  other-stands question.Slot e path w marks values trace h s = s
  other-stands question.Bit e path w marks values trace h s = s

  pub mark-other : OneOf (1 ∷ 2 ∷ []) (tag_of asked q) → d ≡ c → (path : List ℕ) → CursorMarks c d clocks numbers path path bound q
  mark-other e same path =
      subst (λ (x : Cursor). CursorMarks c x clocks numbers path path bound q) (sym same)
      (record {
        marked = record { same_len = refl; same-pos = refl; same_entries = refl; few = omega arith };
        stands = other-stands q e path;
      })

  module _ {entry exit : List ℕ} (n : ℕ) (m : MarksThreads clocks numbers entry exit bound n) (more : MoreOpened c n d) where
    threads-stand : (w : Walk State) (marks : MarkTable) (values : Values) (trace : List ℕ) (h : Here)
        → Stands (lent clocks marks values numbers entry trace) c w
        → Stands (lent clocks marks values numbers exit trace) d (explorer.with_ledger w (explorer.first_marked (bound_of bound) w.ledger (asked_at question.Thread h w.state)))
    threads-stand w marks values trace h s =
        let made : MarkedBy exit w.ledger (all_marked (bound_of bound) w.ledger (map (conflict w.state) every_thread) 0) n =
        subst (λ (st : State). MarkedBy exit w.ledger (all_marked (bound_of bound) w.ledger (map (conflict st) every_thread) 0) n) (sym s.is_state) (m.marks w.ledger marks values s.holds) in
        record {
          is_state = s.is_state;
          holds = made.holds;
          is-len = made.same ∙ s.is-len ∙ sym more.same_len;
          is-opened = omega (arith, made.opens, s.is-opened, more.more);
          is_pos = s.is_pos ∙ sym more.same-pos;
          front = s.front;
          is-entries = s.is-entries ∙ sym more.same_entries;
        }

    pub mark-all : q ≡ question.Thread → CursorMarks c d clocks numbers entry exit bound q
    mark-all e =
        subst (λ (k : Question). CursorMarks c d clocks numbers entry exit bound k) (sym e)
        (record {
          marked = record { same_len = more.same_len; same-pos = more.same-pos; same_entries = more.same_entries; few = omega (arith, more.more, m.few) };
          stands = threads-stand;
        })
