-- How far a question's meeting with the path takes the cursor. Assumes nothing.
--     reads-within                                           a slot is one of the seven
--     added-few, added-one, added_full, added-preempted      a branch that was added is counted
--     pushes-few, pushes-met, and of a schedule              a question has met the path by a new branch
--     faulted-met, goes-met                                    and by a fault, and by one that was there
--     met-ahead                                              where it goes on, a branch stands there
use Prim.Native.Nat.{ℕ, ◌+◌, ◌*◌, ◌≤◌, ◌<◌}
use mathlib.Core.List.{List}
use mathlib.Core.Bool.{Bool}
use mathlib.Core.Path.{◌≡◌, sym, subst}
use native.Mathlib.Omega.{arith}
use lib.ListN.{length}
use Rattle.rules.specs.Path.{Branch, Added}
use Rattle.record.specs.Answers.{OfferedSlot}
use Rattle.record.specs.declared.Offered.{Offered}
use Rattle.std.specs.Prelude.{Option, Some, Result, Ok, Err}
use Rattle.path.specs.Answers.{PushedWithin}
use Rattle.path.specs.Choices.{ReadsSlot}
use Rattle.path.specs.Pushes.{Pushes, PushesThread}
use Rattle.path.specs.declared.NotAdded.{NotAdded}
use Rattle.path.specs.declared.NotAdded.TheVariants.{Full, Preempted}
use Rattle.event.specs.declared.Fault.{Fault}
use Rattle.event.specs.declared.Fault.TheVariants as fault
use Rattle.event.specs.declared.Site.{Site}
use Rattle.meeting.specs.Stands.{BranchThere, SameCursor, FaultMet}
use Rattle.meeting.specs.Branches.{Met, OneMore, PushedFew, AddedTo}
use Rattle.meeting.specs.declared.Cursor.{Cursor}
use Rattle.meeting.specs.declared.Outcome.{Outcome}
use Rattle.meeting.specs.declared.Outcome.TheVariants as code
use Rattle.meeting.specs.declared.Ticked.{Ticked}

pub reads-within : {path : List ℕ} {pos : ℕ} {r : Option Offered} {o : Offered} → ReadsSlot path pos r → r ≡ Some o → o.slot < 7
reads-within h e = subst (λ (x : Option Offered). OfferedSlot x) e h.slot

pub err-known : {p : Result ℕ NotAdded} {e f : NotAdded} → p ≡ Err e → e ≡ f → p ≡ Err f
err-known g h = rw h at g

pub added-few : (p : Result ℕ NotAdded) {n : ℕ} → p ≡ Ok n → PushedFew p → n ≤ 6
added-few p e h = subst (λ (x : Result ℕ NotAdded). PushedFew x) e h

module _ (p : Result ℕ NotAdded) (s : Site) (c : Cursor) (r : Ticked) where
  pub added-one : {n : ℕ} → p ≡ Ok n → r.outcome ≡ code.Goes → OneMore c n r.cursor → AddedTo p s c r
  added-one e g h = subst (λ (x : Result ℕ NotAdded). AddedTo x s c r) (sym e) (g, h)

  pub added_full : p ≡ Err Full → FaultMet fault.Full s c r → AddedTo p s c r
  added_full e h = subst (λ (x : Result ℕ NotAdded). AddedTo x s c r) (sym e) h

  pub added-preempted : p ≡ Err Preempted → FaultMet fault.Preemptions s c r → AddedTo p s c r
  added-preempted e h = subst (λ (x : Result ℕ NotAdded). AddedTo x s c r) (sym e) h

ahead-any : (o : Outcome) (c : Cursor) → c.pos < c.len → BranchThere o c
ahead-any code.Goes c h = h
ahead-any code.Over c h = tt
ahead-any (code.Faulted f s) c h = tt

within-few : (entry exit : List ℕ) (len most : ℕ) → most ≤ 6 → (p : Result ℕ NotAdded) → PushedWithin entry exit len most p → PushedFew p
within-few entry exit len most h (Ok n) w = omega (arith, w.few)
within-few entry exit len most h (Err Full) w = tt
within-few entry exit len most h (Err Preempted) w = tt

module _ (c : Cursor) (r : Ticked) {path : List ℕ} (passed : c.pos ≤ c.len) (within : 16 * c.len ≤ length path) where
  -- a fault
  pub faulted-met : {f : Fault} {at : Site} → FaultMet f at c r → Met c r path
  faulted-met s =
      record {
        ahead = s.idle;
        passed = omega (arith, s.stays.same-pos, s.stays.same_len);
        within = omega (arith, s.stays.same_len);
        same_entries = s.stays.same_entries;
        few = omega (arith, s.stays.same-opened);
      }

module _ (c : Cursor) (r : Ticked) (entry exit : List ℕ) (passed : c.pos ≤ c.len) (within : 16 * c.len ≤ length entry) (long : length exit ≡ length entry) where
  one-more-met : (n : ℕ) → n ≤ 6 → 16 * c.len + 16 ≤ length entry → OneMore c n r.cursor → Met c r exit
  one-more-met n few room h =
      record {
        ahead = ahead-any r.outcome r.cursor (omega (arith, h.same-pos, h.more-len));
        passed = omega (arith, h.same-pos, h.more-len);
        within = omega (arith, h.more-len);
        same_entries = h.same_entries;
        few = omega (arith, h.more-opened);
      }

  within-met : (most : ℕ) → most ≤ 6 → (p : Result ℕ NotAdded) → PushedWithin entry exit c.len most p → (s : Site) → AddedTo p s c r → Met c r exit
  within-met most h (Ok n) w s a = one-more-met n (omega (arith, w.few)) w.room a.1
  within-met most h (Err Full) w s a = faulted-met c r passed (omega arith) a
  within-met most h (Err Preempted) w s a = faulted-met c r passed (omega arith) a

pub pushes-few : {entry exit : List ℕ} {len most : ℕ} {answer : ℕ → List Branch → Added} {p : Result ℕ NotAdded} → Pushes entry exit len most answer p → most ≤ 6 → PushedFew p
pushes-few {entry} {exit} {len} {most} {answer} {p} h few = within-few entry exit len most few p h.within

pub pushes-thread-few : {entry exit : List ℕ} {len : ℕ} {exploring : Bool} {seed : List ℕ} {p : Result ℕ NotAdded} → PushesThread entry exit len exploring seed p → PushedFew p
pushes-thread-few {entry} {exit} {len} {exploring} {seed} {p} h = within-few entry exit len 5 (omega arith) p h.within

module _ (c : Cursor) (r : Ticked) {entry exit : List ℕ} (passed : c.pos ≤ c.len) (within : 16 * c.len ≤ length entry) where
  pub pushes-met : {most : ℕ} {answer : ℕ → List Branch → Added} {p : Result ℕ NotAdded} (s : Site) → most ≤ 6 → Pushes entry exit c.len most answer p → AddedTo p s c r → Met c r exit
  pushes-met {most} {answer} {p} s few h a = within-met c r entry exit passed within h.keeps most few p h.within s a

  pub pushes-thread-met : {exploring : Bool} {seed : List ℕ} {p : Result ℕ NotAdded} (s : Site) → PushesThread entry exit c.len exploring seed p → AddedTo p s c r → Met c r exit
  pushes-thread-met {exploring} {seed} {p} s h a = within-met c r entry exit passed within h.keeps 5 (omega arith) p h.within s a

-- a branch that was there
pub goes-met : (c : Cursor) (r : Ticked) {path : List ℕ} → c.pos ≤ c.len → (c.pos ≡ c.len → ⊥) → 16 * c.len ≤ length path → SameCursor c r.cursor → Met c r path
goes-met c r passed other within h =
    record {
      ahead = ahead-any r.outcome r.cursor (omega (arith, h.same-pos, h.same_len));
      passed = omega (arith, h.same-pos, h.same_len);
      within = omega (arith, h.same_len);
      same_entries = h.same_entries;
      few = omega (arith, h.same-opened);
    }

ahead-goes : (o : Outcome) (c : Cursor) → o ≡ code.Goes → BranchThere o c → c.pos < c.len
ahead-goes o c e h = subst (λ (x : Outcome). BranchThere x c) e h

pub met-ahead : {c : Cursor} {m : Ticked} {path : List ℕ} → Met c m path → m.outcome ≡ code.Goes → m.cursor.pos < m.cursor.len
met-ahead {c} {m} h e = ahead-goes m.outcome m.cursor e h.ahead
