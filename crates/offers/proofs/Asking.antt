-- Which rows ask for a slot: a load and an RMW, with the version raised. Assumes nothing.
--     AsksFor            what such a row asks, and in which state
--     next-asks          whatever the active thread does next
--     load-noted, rmw-noted   how a row goes on with a slot, and its entry
use Prim.Native.Nat.{ℕ}
use mathlib.Core.List.{List, []}
use mathlib.Core.Bool.{Bool, true, false, cond, ◌&&◌}
use mathlib.Core.Path.{◌≡◌, refl, sym, subst}
use native.Mathlib.Omega.{arith}
use lib.Dec.{eqb, ltb, leb}
use Rattle.rules.specs.Vector.{one_more}
use Rattle.rules.specs.Change.{Change, Changed, success, failure, applied}
use Rattle.rules.specs.Table as Table
use Rattle.rules.specs.Table.{Op, Decoded, refused, decoded}
use Rattle.rules.specs.Event as Event
use Rattle.rules.specs.Event.{Entry, Matched, Site, which_thread, which_slot, which_bit, read_slot, Move, moves, asks, stops, ends}
use Rattle.rules.specs.State.{State, number, count, marks_of, value, of_store, store_at, threads, rows_begun, exploring}
use Rattle.rules.specs.Cell.{AccessResult, raced, read, Race, no_race, race_of, unless_race, newest, sighted, load_race, load_synced, load_done, by_change, succeeded, rmw_done, unsync_load_done, mut_done, matched_load, matched_rmw, store_race, store_tracked, with_clocks}
use Rattle.rules.specs.Plain.{plain_read_done, plain_write_race, plain_write_done}
use Rattle.rules.specs.Machine
use Rattle.rules.specs.Machine.{Program, Role, loads, stores_operand, stores_register, modifies, takes_bit, otherwise, role_of, pending_as, Pending, nothing, pends, pending_of, machine, current, active_row, active_op, row_of, row_count, version_raised, mask_of, entry}
use Rattle.rules.specs.Explorer.{Limits, Walk, goes, faulted, fits, followed, noted, with_state}
use Rattle.rules.proofs.MeasureRows.{pick}
use Rattle.rules.proofs.RoleLaws.{Told, told}
use Rattle.offers.specs.Chosen.{Noted}

-- what a row of a thread asks for
pub data AsksFor (st : State) (t : ℕ) (s : State) (es : List Entry) (m : Matched) : Decoded Op → Type 0 where
  of_load : {c o r : ℕ} → s ≡ version_raised st t → es ≡ [] →
      m ≡ matched_load s.clocks (marks_of s.marks c) s.numbers t c o →
      AsksFor st t s es m (decoded (Table.load c o r))
  of_rmw : {c o f r : ℕ} {change : Change} → s ≡ version_raised st t → es ≡ [] → m ≡ matched_rmw s.clocks s.numbers c →
      AsksFor st t s es m (decoded (Table.rmw c o f change r))

-- a move that asks for a slot is that of such a row
abbrev pub OfMove : State → ℕ → Decoded Op → Move State → Type 0
OfMove st t row (moves s es) = Unit {0}
OfMove st t row (asks s es x (which_thread points initial standings)) = Unit {0}
OfMove st t row (asks s es x (which_slot m)) = AsksFor st t s es m row
OfMove st t row (asks s es x which_bit) = Unit {0}
OfMove st t row (stops s f) = Unit {0}
OfMove st t row (ends s) = Unit {0}

-- what is no load and no RMW
abbrev Slotless : Role → Type 0
Slotless (loads c o r) = ⊥
Slotless (stores_operand c o a) = Unit
Slotless (stores_register c o r) = Unit
Slotless (modifies c o f change r) = ⊥
Slotless (takes_bit r) = Unit
Slotless otherwise = Unit

slotless : (role : Role) → pending_as role ≡ nothing → Slotless role
slotless (loads c o r) e = let z : ◌≡◌ {A = ℕ} 0 1 = cc in absurd (omega arith)
slotless (stores_operand c o a) e = tt
slotless (stores_register c o r) e = tt
slotless (modifies c o f change r) e = let z : ◌≡◌ {A = ℕ} 0 1 = cc in absurd (omega arith)
slotless (takes_bit r) e = tt
slotless otherwise e = tt

-- whatever state a row acts in, what it asks is said of this one
module _ (p : Program) (st : State) (t k : ℕ) (row : Decoded Op) (s : State) where
  schedules-ask : (u : State) (es : List Entry) → OfMove st t row (Machine.schedules u es)
  unfolding Machine.schedules
  schedules-ask u es = tt

  unless-ask : (r : Race) (u tracked : State) (n c o v : ℕ) → OfMove st t row (Machine.stores_unless r u tracked t k n c o v)
  unless-ask no_race u tracked n c o v = tt
  unless-ask (race_of kind other) u tracked n c o v = tt

  stores-ask : (n c o v : ℕ) → OfMove st t row (Machine.stores s t k n c o v)
  unfolding Machine.stores
  stores-ask n c o v =
      let up = version_raised s t in
      unless-ask (store_race up.clocks t c) up (with_clocks up (store_tracked up.clocks t c)) n c o v

  reads-ask : (x : AccessResult) (n r slot mask : ℕ) → OfMove st t row (Machine.reads x t k n r slot mask)
  reads-ask (raced kind other u) n r slot mask = tt
  reads-ask (read v u) n r slot mask = tt

  leaves-ask : (x : AccessResult) (n c r : ℕ) → OfMove st t row (Machine.leaves_in x t k n c r)
  leaves-ask (raced kind other u) n c r = tt
  leaves-ask (read v u) n c r = tt

  writes-ask : (r : Race) (u written : State) (n v : ℕ) → OfMove st t row (Machine.writes_unless r u written t k n v)
  writes-ask no_race u written n v = tt
  writes-ask (race_of kind other) u written n v = tt

  joins-ask : (n target : ℕ) → OfMove st t row (Machine.joins s t k n target)
  unfolding Machine.joins
  joins-ask n target =
      pick (OfMove st t row) (Machine.is_in s.numbers Machine.ended target) (λ e. tt)
      (λ e. schedules-ask (Machine.blocked_on s t target) [])

  explores-ask : (n : ℕ) (on : Bool) → OfMove st t row (Machine.explores s t k n on)
  explores-ask n on =
      pick (OfMove st t row) (Machine.is_skipping s.numbers) (λ e. tt)
      (λ e. pick (OfMove st t row) (eqb (number s.numbers exploring) (cond on 1 0)) (λ f. tt) (λ f. tt))

  -- a row asks for no slot, where it is no load and no RMW
  bare-ask : (op : Op) → Slotless (role_of op) → OfMove st t row (Machine.acts p s t k op)
  unfolding Machine.acts_as
  bare-ask (Table.load c o r) e = absurd e
  bare-ask (Table.store c o a) e = stores-ask 1 c o a
  bare-ask (Table.store_register c o r) e = stores-ask 2 c o (Machine.register s t r)
  bare-ask (Table.rmw c o f change r) e = absurd e
  bare-ask (Table.fence o) e = tt
  bare-ask (Table.unsync_load c r) e = reads-ask (unsync_load_done s t c) 5 r (newest (number s.numbers (count c))) 0
  bare-ask (Table.with_mut c change r) e = leaves-ask (mut_done s t c change) 6 c r
  bare-ask Table.yield e =
      schedules-ask (Machine.completed (Machine.yield_done s t) t (one_more k)) (entry t k 7 Machine.no_slot 0 0)
  bare-ask (Table.join target) e = joins-ask 8 target
  bare-ask (Table.jump target) e = tt
  bare-ask (Table.jump_if r a target) e = tt
  bare-ask (Table.jump_unless r a target) e = tt
  bare-ask (Table.check r a) e = pick (OfMove st t row) (eqb (Machine.register s t r) a) (λ f. tt) (λ f. tt)
  bare-ask Table.critical e = explores-ask 13 false
  bare-ask Table.explore_state e = explores-ask 14 true
  bare-ask Table.skip_branch e = tt
  bare-ask (Table.spurious r) e = tt
  bare-ask (Table.plain_read c r) e = reads-ask (plain_read_done s t c) 17 r Machine.no_slot 0
  bare-ask (Table.plain_write c a) e = writes-ask (plain_write_race s.clocks t c) s (plain_write_done s t c a) 18 a

  begun-ask : (op : Op) (x : Pending) → pending_of op ≡ x → OfMove st t row (Machine.begun_as p s t k op x)
  begun-ask op nothing e = bare-ask op (slotless (role_of op) e)
  begun-ask op (pends action c) e = schedules-ask (Machine.with_operation s t action c) []

module _ (p : Program) (st : State) (t k : ℕ) where
  begins-ask : (row : Decoded Op) (op : Op) → OfMove st t row (Machine.begins p st t k op)
  unfolding Machine.begins
  begins-ask row op =
      pick (OfMove st t row) (leb p.operations (number st.numbers rows_begun)) (λ e. tt)
      (λ e. begun-ask p st t k row (Machine.row_begun st t) op (pending_of op) refl)

  load_asks : (c o r : ℕ) → OfMove st t (decoded (Table.load c o r)) (Machine.acts p st t k (Table.load c o r))
  unfolding Machine.acts_as
  load_asks c o r = of_load refl refl refl

  rmw-asks : (c o f : ℕ) (change : Change) (r : ℕ) →
      OfMove st t (decoded (Table.rmw c o f change r)) (Machine.acts p st t k (Table.rmw c o f change r))
  unfolding Machine.acts_as
  rmw-asks c o f change r = of_rmw refl refl refl

  abbrev Asks : Op → Type 0
  Asks op = OfMove st t (decoded op) (Machine.acts p st t k op)

  acts-ask : (op : Op) → Asks op
  acts-ask op = by-role (role_of op) refl (told op)
    where
      bare : (role : Role) → role_of op ≡ role → Slotless role → Asks op
      bare role e n = bare-ask p st t k (decoded op) st op (subst Slotless (sym e) n)

      by-role : (role : Role) → role_of op ≡ role → Told role op → Asks op
      by-role (loads c o r) e is = subst Asks (sym is) (load_asks c o r)
      by-role (stores_operand c o a) e is = bare _ e tt
      by-role (stores_register c o r) e is = bare _ e tt
      by-role (modifies c o f change r) e is = subst Asks (sym is) (rmw-asks c o f change r)
      by-role (takes_bit r) e is = bare _ e tt
      by-role otherwise e is = bare _ e tt

  row-asks : (row : Decoded Op) → OfMove st t row (Machine.of_row p st t k row)
  row-asks refused = tt
  row-asks (decoded op) =
      pick (OfMove st t (decoded op)) (Machine.is_to_begin st t) (λ e. begins-ask (decoded op) op) (λ e. acts-ask op)

  at-asks : OfMove st t (row_of p t k) (Machine.next_at p st t k)
  unfolding Machine.next_at
  at-asks =
      pick (OfMove st t (row_of p t k)) (Machine.is_to_begin st t && leb (row_count p t) k)
      (λ e. schedules-ask p st t k (row_of p t k) st (Machine.thread_ended st t) [])
      (λ e. row-asks (row_of p t k))

pub next-asks : (p : Program) (st : State) → OfMove st (current st) (active_op p st) (Machine.next p st).move
unfolding Machine.next
next-asks p st =
    pick (λ (x : Event.Event State). OfMove st (current st) (active_op p st) x.move) (ltb (current st) threads)
    (λ e. at-asks p st (current st) (active_row st)) (λ e. tt)

-- How a row goes on with its slot

-- the value that an access reads, where no race stops it
abbrev Reads : ℕ → AccessResult → Type 0
Reads v (raced kind other s) = Unit {0}
Reads v (read x s) = x ≡ v

unless-reads : (v : ℕ) (r : Race) (s : State) (x : AccessResult) → Reads v x → Reads v (unless_race r s x)
unless-reads v no_race s x h = h
unless-reads v (race_of kind other) s x h = tt

load-reads : (s : State) (t c slot o : ℕ) → Reads (value s.values (of_store (store_at c slot))) (load_done s t c slot o)
unfolding load_done
load-reads s t c slot o =
    let v = value s.values (of_store (store_at c slot)) in
    let u = sighted s t c slot in
    unless-reads v (load_race s.clocks t c) s (read v (with_clocks u (load_synced u.clocks t (store_at c slot) o))) refl

change-reads : (x : Changed) (s : State) (t c store v o f : ℕ) → Reads v (by_change x s t c store v o f)
unfolding succeeded
change-reads (success new) s t c store v o f = unless-reads v (store_race s.clocks t c) s _ refl
change-reads failure s t c store v o f = refl

rmw-reads : (s : State) (t c slot : ℕ) (change : Change) (o f : ℕ) →
    Reads (value s.values (of_store (store_at c slot))) (rmw_done s t c slot change o f)
unfolding rmw_done
rmw-reads s t c slot change o f =
    let store = store_at c slot in
    let v = value s.values (of_store store) in
    unless-reads v (load_race s.clocks t c) s (by_change (applied change v) (sighted s t c slot) t c store v o f)
    (change-reads (applied change v) (sighted s t c slot) t c store v o f)

module _ (p : Program) (limits : Limits) (site : Site) (u : Walk State) where
  fits-noted : (b : Bool) (s : State) (es : List Entry) →
      Noted u.trace es (cond b (goes (noted u s es)) (faulted Event.impossible site (with_state u s)))
  fits-noted true s es = refl
  fits-noted false s es = refl

  reads-noted : (x : AccessResult) (t k n r slot mask v : ℕ) → Reads v x →
      Noted u.trace (entry t k n slot mask v) (followed (machine p) limits site u (Machine.reads x t k n r slot mask))
  reads-noted (raced kind other s) t k n r slot mask v h = refl
  reads-noted (read x s) t k n r slot mask v h = rw h (fits-noted (fits (machine p) limits u (entry t k n slot mask v)) _ _)

  live-noted : (s : State) (c slot : ℕ) (m : Move State) (es : List Entry) →
      Noted u.trace es (followed (machine p) limits site u m) →
      Noted u.trace es (followed (machine p) limits site u (Machine.if_live s c slot m))
  live-noted s c slot m es h =
      pick (λ (x : Move State). Noted u.trace es (followed (machine p) limits site u x))
      (ltb slot (number s.numbers (count c)))
      (λ e. h) (λ e. refl)

  module _ (s : State) (slot : ℕ) (values : List ℕ) where
    abbrev pub EntryOf : ℕ → ℕ → Type 0
    EntryOf c opcode =
        Noted u.trace
        (entry (current s) (active_row s) opcode slot (mask_of 0 values) (value s.values (of_store (store_at c slot))))
        (followed (machine p) limits site u (Machine.answered p s (read_slot slot values)))

    pub load-noted : (c o r : ℕ) → active_op p s ≡ decoded (Table.load c o r) → EntryOf c 0
    unfolding Machine.answered Machine.read_from
    load-noted c o r e =
        rw e
        (live-noted s c slot (Machine.reads (load_done s (current s) c slot o) (current s) (active_row s) 0 r slot
        (mask_of 0 values)) _
        (reads-noted (load_done s (current s) c slot o) (current s) (active_row s) 0 r slot (mask_of 0 values) _
        (load-reads s (current s) c slot o)))

    pub rmw-noted : (c o f r : ℕ) (change : Change) → active_op p s ≡ decoded (Table.rmw c o f change r) → EntryOf c 3
    unfolding Machine.answered Machine.read_from
    rmw-noted c o f r change e =
        rw e
        (live-noted s c slot (Machine.reads (rmw_done s (current s) c slot change o f) (current s) (active_row s) 3 r slot
        (mask_of 0 values)) _
        (reads-noted (rmw_done s (current s) c slot change o f) (current s) (active_row s) 3 r slot (mask_of 0 values) _
        (rmw-reads s (current s) c slot change o f)))
