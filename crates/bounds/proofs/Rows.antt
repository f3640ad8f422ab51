-- The bounds at what a row does: it raises its thread's version at most once, adds at most one store and at most one yield, and is
-- complete with one entry, or its thread blocks, or it asks for what will complete it. Assumes nothing.
--     not-raised, raise    the version, not and once
--     finished             the row is complete
--     acts-going           a row that has begun acts
--     read_ending, bit-ending        a row that has its answer
--     slots-few            at most seven slots are offered
use Prim.Native.Nat.{ℕ, ◌+◌, ◌≤◌, ◌<◌}
use mathlib.Core.List.{List, [], ◌∷◌}
use mathlib.Core.Bool.{Bool, true, false, cond}
use mathlib.Core.Path.{◌≡◌, refl, subst}
use mathlib.Core.Logic.{inr}
use native.Mathlib.Omega.{arith}
use lib.Dec.{eqb, ltb}
use lib.ListN.{length, get_or}
use Rattle.rules.specs.Vector.{one_more, largest, zeros, raised}
use Rattle.rules.specs.Change.{Change, Changed, success, failure, applied}
use Rattle.rules.specs.Table as Table
use Rattle.rules.specs.Table.{Op}
use Rattle.rules.specs.Event.{Entry, offers}
use Rattle.rules.specs.State as State
use Rattle.rules.specs.State.{State, vector, number, with_number, threads, cells, plains, history, store_at}
use Rattle.rules.specs.State.{causality, schedule_of, seq_cst, sync, phase, next_row, yields, last_yield, operation, awaits, count, is_seq_cst, exploring, skipping}
use Rattle.rules.specs.Cell as Cell
use Rattle.rules.specs.Cell.{version, store_done, slot_of, with_clocks, AccessResult, raced, read, Race, no_race, race_of, unless_race, sighted, load_done, by_change, succeeded, rmw_done, unsync_load_done, mut_done}
use Rattle.rules.specs.Plain.{plain_read_race, plain_write_race, plain_read_done, plain_write_done}
use Rattle.rules.specs.Machine
use Rattle.rules.specs.Machine.{Program, Role, loads, stores_operand, stores_register, modifies, takes_bit, otherwise, row_count, completed, to_begin, ended, blocked, yielded}
use Rattle.rules.proofs.SlotLaws.{matched-long, offered-long, live-most}
use Rattle.rules.proofs.MeasureRows.{pick, Names, widest, RoleOnCell}
use Rattle.rules.proofs.VectorLaws.{raised-own}
use Rattle.bounds.specs.Bounds
use Rattle.bounds.specs.Bounds.{ProgramFits, Counter, of_versions, but, PartBounded, BoundsHold}
use Rattle.bounds.proofs.Parts.{Fit, zeros-fit, raised-fit, Since, fit_of, put, join-into}
use Rattle.bounds.proofs.Accesses.{with-clocks, sighted-sound, stored-sound, load-synced, store-tracked, unsync-tracked, mut-tracked, plain-read-tracked, plain-write-tracked, fenced-since}
use Rattle.bounds.proofs.Numbers.{given-own, of-given, aside, last-yield, acted, stored, yields-once, aside-links, phase-now, operation-now}
use Rattle.bounds.proofs.Stands.{At, part-eased, eased-at, over, holds, asks-thread, asks-row, has_room, Ending, Going, ending-going}

-- At most seven slots are offered

pub slots-few : (fate : ℕ → Cell.Fate) (cnt : ℕ) (l : List Bool) → Cell.matched_from fate (Cell.live_stores cnt) 0 ≡ offers l →
    length l ≤ history
slots-few fate cnt l e = omega (arith, offered-long (Cell.live_stores cnt) _ (matched-long fate (Cell.live_stores cnt) 0) l e, live-most cnt)

-- no entry more
pub no_more : (Q : ℕ → Type 0) (n : ℕ) → Q n → Q (n + 0)
no_more Q n h = subst Q (let e : n ≡ n + 0 = omega arith in e) h

-- A row of thread t that has begun and is to act
module _ (p : Program) (fits : ProgramFits p) (t n : ℕ) (rows owing waits least : ℕ → ℕ) (below : t < threads) (owes : owing t ≡ 1) where
  -- before the version is raised, and after
  abbrev Before : Counter → ℕ → ℕ → Type 0
  Before = PartBounded rows owing (but t waits)

  abbrev After : Counter → ℕ → ℕ → Type 0
  After = PartBounded rows (but t owing) (but t waits)

  -- it is to act; it may have raised the version; it has acted
  abbrev pub Acting : State → Type 0
  Acting st = At p t n rows owing owing waits least Before st

  abbrev pub Raised : State → Type 0
  Raised st = At p t n rows owing owing waits least After st

  abbrev Acted : State → Type 0
  Acted st = At p t (n + 1) rows (but t owing) owing waits least After st

  less-owed : (u : ℕ) → but t owing u ≤ owing u
  less-owed u = of-given (λ (x : ℕ). x ≤ owing u) t 0 owing u (λ e. omega arith) (λ d. omega arith)

  eases : (k : Counter) (u x : ℕ) → u < threads → Before k u x → After k u x
  eases k u x b h =
      part-eased rows rows owing (but t waits) (but t owing) (but t waits) k u x (omega arith) (less-owed u) (omega arith) h

  pub not-raised : (st : State) → Acting st → Raised st
  not-raised st s = eased-at st eases s

  -- "raise the own version, by 1 before acting"
  pub raise : (st : State) → Acting st → Raised (Machine.version_raised st t)
  raise st s =
      let after = not-raised st s in
      let own = vector st.clocks (causality t) in
      let fit = fit_of st.clocks (causality t) below s.sound.clocks in
      let most : get_or own t 0 + 1 ≤ 2 + rows t = omega (arith, fit.each t below) in
      let room : get_or own t 0 < largest =
      omega (arith, has_room st.numbers t below fits.limited s.tally, s.links.begun_rows t below) in
      record {
        sound = with-clocks st _ after.sound (λ k.
            put st.clocks (causality t) (raised own t) below k
            (raised-fit {Q = Before of_versions} {R = After of_versions} own t below fit room (λ u x b d h. eases of_versions u x b h)
            (omega (arith, given-own t 0 owing)))
            (λ u b e. let q : u ≡ t = omega arith in rw q (omega (arith, raised-own own t (omega (arith, fit.five)) room))));
        tally = after.tally;
        links = after.links;
      }

  -- nothing counted
  acts-bare : (st : State) → Raised st → Acted st
  acts-bare st s = record { sound = s.sound; tally = acted st.numbers s.tally t below owes; links = s.links }

  -- the row is complete
  pub finished : (st : State) (k : ℕ) → Acted st → BoundsHold p (completed st t k) (n + 1)
  finished st k s =
      let one = with_number st.numbers (next_row t) k in
      let at : At p t (n + 1) rows (but t owing) (but t owing) waits least After (completed st t k) = record {
        sound = s.sound;
        tally = aside one (aside st.numbers s.tally (next_row t) k (omega arith)) (phase t) to_begin (omega arith);
        links = phase-now one (aside-links st.numbers s.links (next_row t) k (omega arith) (omega arith)) t below to_begin;
      } in
      holds (completed st t k) at (λ u b. omega arith) (λ u b. omega arith)

  zeros-fine : (st : State) → Raised st → Fit (After of_versions) (zeros threads)
  zeros-fine st s = zeros-fit (After of_versions) (λ u b. omega (arith, s.sound.clocks.vectors.parts seq_cst tt u b))

  -- a store counts one
  store-acted : (st : State) (c : ℕ) (from : List ℕ) (v o : ℕ) → c < cells → Fit (After of_versions) from → Raised st →
      Acted (store_done st t c from v o)
  unfolding store_done
  store-acted st c from v o h f s =
      let k = count c in
      let cnt = number st.numbers k in
      let one = with_number st.numbers k (one_more cnt) in
      let flag = is_seq_cst (store_at c (slot_of cnt)) in
      record {
        sound = stored-sound t c below h st from v o f s.sound;
        tally = aside one (stored st.numbers s.tally t below owes c h) flag (Cell.seq_cst_flag o) (omega arith);
        links =
            aside-links one (aside-links st.numbers s.links k (one_more cnt) (omega arith) (omega arith)) flag
            (Cell.seq_cst_flag o)
            (omega arith) (omega arith);
      }

  -- its vectors changed
  with-parts : (st : State) (clocks : State.Clocks) →
      (Since After (version st.clocks) st.clocks → Since After (version st.clocks) clocks) →
      Raised st → Raised (with_clocks st clocks)
  with-parts st clocks f s = record { sound = with-clocks st clocks s.sound f; tally = s.tally; links = s.links }

  -- What an access leaves
  data AtRead : AccessResult → Type 0 where
    is_raced : {kind other : ℕ} {st : State} → Raised st → AtRead (raced kind other st)
    is_read : {v : ℕ} {st : State} → Acted st → AtRead (read v st)

  unless-race : (r : Race) (st : State) (x : AccessResult) → Raised st → AtRead x → AtRead (unless_race r st x)
  unless-race no_race st x s h = h
  unless-race (race_of kind other) st x s h = is_raced s

  sighted-raised : (st : State) (c slot : ℕ) → c < cells → slot < history → Raised st → Raised (sighted st t c slot)
  unfolding sighted
  sighted-raised st c slot h k s =
      record { sound = sighted-sound t c below h st slot k s.sound; tally = s.tally; links = s.links }

  synced : (st : State) (c slot o : ℕ) → c < cells → slot < history → Raised st →
      Raised (with_clocks st (Cell.load_synced st.clocks t (store_at c slot) o))
  synced st c slot o h k s = with-parts st _ (λ i. load-synced t c below h st.clocks (store_at c slot) o (omega arith) i) s

  load_at : (st : State) (c slot o : ℕ) → c < cells → slot < history → Raised st → AtRead (load_done st t c slot o)
  unfolding load_done
  load_at st c slot o h k s =
      unless-race (Cell.load_race st.clocks t c) st _ s (is_read
      (acts-bare _ (synced (sighted st t c slot) c slot o h k (sighted-raised st c slot h k s))))

  change-at : (x : Changed) (st : State) (c slot v o f : ℕ) → c < cells → slot < history → Raised st →
      AtRead (by_change x st t c (store_at c slot) v o f)
  unfolding succeeded
  change-at (success new) st c slot v o f h k s =
      let synced = with-parts st _
      (λ i. load-synced t c below h _ (store_at c slot) o (omega arith) (store-tracked t c below h st.clocks i)) s in
      unless-race (Cell.store_race st.clocks t c) st _ s
      (is_read (store-acted _ c _ new o h (fit_of _ (sync (store_at c slot)) (omega arith) synced.sound.clocks) synced))
  change-at failure st c slot v o f h k s = is_read (acts-bare _ (synced st c slot f h k s))

  rmw-at : (st : State) (c slot : ℕ) (change : Change) (o f : ℕ) → c < cells → slot < history → Raised st →
      AtRead (rmw_done st t c slot change o f)
  unfolding rmw_done
  rmw-at st c slot change o f h k s =
      unless-race (Cell.load_race st.clocks t c) st _ s
      (change-at (applied change _) (sighted st t c slot) c slot _ o f h k (sighted-raised st c slot h k s))

  unsync-at : (st : State) (c : ℕ) → c < cells → Raised st → AtRead (unsync_load_done st t c)
  unfolding unsync_load_done
  unsync-at st c h s =
      unless-race (Cell.unsync_load_race st.clocks t c) st _ s
      (is_read (acts-bare _ (with-parts st _ (unsync-tracked t c below h st.clocks) s)))

  mut-at : (st : State) (c : ℕ) (change : Change) → c < cells → Raised st → AtRead (mut_done st t c change)
  unfolding mut_done
  mut-at st c change h s =
      let after = acts-bare _ (with-parts st _ (mut-tracked t c below h st.clocks) s) in
      unless-race (Cell.mut_race st.clocks t c) st _ s (is_read
      (record { sound = after.sound; tally = after.tally; links = after.links }))

  plain-read-at : (st : State) (c : ℕ) → c < plains → Raised st → AtRead (plain_read_done st t c)
  unfolding plain_read_done
  plain-read-at st c h s =
      unless-race (plain_read_race st.clocks t c) st _ s
      (is_read (acts-bare _ (with-parts st _ (plain-read-tracked t below c h st.clocks) s)))

  -- the same with a value in a register
  with-register : (st : State) (r v : ℕ) → Acted st → Acted (Machine.with_register st t r v)
  with-register st r v s = record { sound = s.sound; tally = s.tally; links = s.links }

  reads-ending : (x : AccessResult) (k opcode r slot mask : ℕ) → AtRead x → Ending p n (Machine.reads x t k opcode r slot mask)
  reads-ending (raced kind other st) k opcode r slot mask (is_raced s) = over _ _ st s
  reads-ending (read v st) k opcode r slot mask (is_read s) = finished _ (one_more k) (with-register st r v s)

  leaves-ending : (x : AccessResult) (k opcode c r : ℕ) → AtRead x → Ending p n (Machine.leaves_in x t k opcode c r)
  leaves-ending (raced kind other st) k opcode c r (is_raced s) = over _ _ st s
  leaves-ending (read v st) k opcode c r (is_read s) = finished _ (one_more k) (with-register st r v s)

  stores-unless : (x : Race) (st tracked : State) (k opcode c o v : ℕ) → c < cells → Raised st → Raised tracked →
      Ending p n (Machine.stores_unless x st tracked t k opcode c o v)
  stores-unless (race_of kind other) st tracked k opcode c o v h s i = over _ _ st s
  stores-unless no_race st tracked k opcode c o v h s i =
      finished _ (one_more k) (store-acted tracked c _ v o h (zeros-fine tracked i) i)

  stores-ending : (st : State) (k opcode c o v : ℕ) → c < cells → Acting st → Ending p n (Machine.stores st t k opcode c o v)
  unfolding Machine.stores
  stores-ending st k opcode c o v h s =
      let up = Machine.version_raised st t in
      stores-unless (Cell.store_race up.clocks t c) up _ k opcode c o v h (raise st s)
      (with-parts up _ (store-tracked t c below h up.clocks) (raise st s))

  writes-unless : (x : Race) (st : State) (k opcode c v : ℕ) → c < plains → Raised st →
      Ending p n (Machine.writes_unless x st (plain_write_done st t c v) t k opcode v)
  unfolding plain_write_done
  writes-unless (race_of kind other) st k opcode c v h s = over _ _ st s
  writes-unless no_race st k opcode c v h s =
      let after = acts-bare _ (with-parts st _ (plain-write-tracked t below c h st.clocks) s) in
      finished _ (one_more k) (record { sound = after.sound; tally = after.tally; links = after.links })

  -- The row needs nothing but to be complete
  bare : (st : State) (k : ℕ) → Acting st → BoundsHold p (completed st t k) (n + 1)
  bare st k s = finished st k (acts-bare st (not-raised st s))

  -- "4 fence"
  fence-done : (st : State) (k o : ℕ) → Acting st → BoundsHold p (completed (Machine.fences p st t o) t k) (n + 1)
  fence-done st k o s =
      let up = Machine.version_raised st t in
      finished _ k (acts-bare _ (with-parts up _ (fenced-since t below up.clocks up.marks up.numbers _ o fits.held)
      (raise st s)))

  -- "7 yield"
  yield-going : (st : State) (k : ℕ) (e : Entry) → version st.clocks t ≤ least t → Acting st →
      Going p n (Machine.schedules (completed (Machine.yield_done st t) t k) (e ∷ []))
  unfolding Machine.schedules
  yield-going st k e reached s =
      let a = st.numbers in
      let a1 = with_number a (State.state t) yielded in
      let a2 = with_number a1 (last_yield t) (version st.clocks t) in
      let a3 = with_number a2 (yields t) (one_more (number a2 (yields t))) in
      let a4 = with_number a3 (operation t) Machine.no_operation in
      let a5 = with_number a4 (next_row t) k in
      let t2 = last-yield a1 (aside a s.tally (State.state t) yielded (omega arith)) t (version st.clocks t) below
      (inr reached) in
      let t4 = aside a3 (yields-once a2 t2 t below owes) (operation t) Machine.no_operation (omega arith) in
      let l1 = aside-links a s.links (State.state t) yielded (omega arith) (omega arith) in
      let l2 = aside-links a1 l1 (last_yield t) (version st.clocks t) (omega arith) (omega arith) in
      let l3 = aside-links a2 l2 (yields t) (one_more (number a2 (yields t))) (omega arith) (omega arith) in
      let l4 = operation-now a3 l3 t below Machine.no_operation 0 (omega arith) in
      let l5 = aside-links a4 l4 (next_row t) k (omega arith) (omega arith) in
      let at : At p t (n + 1) rows (but t owing) (but t owing) (but t waits) least After
      (completed (Machine.yield_done st t) t k) = record {
        sound = (not-raised st s).sound;
        tally = aside a5 (aside a4 t4 (next_row t) k (omega arith)) (phase t) to_begin (omega arith);
        links = phase-now a5 l5 t below to_begin;
      } in
      asks-thread (completed (Machine.yield_done st t) t k) at (λ u b. omega arith) (λ u b. omega arith)

  -- "8 join thread": it goes through, or the thread blocks
  through-done : (st : State) (k target : ℕ) → target < threads → Acting st →
      BoundsHold p (completed (Machine.joined_with st t target) t k) (n + 1)
  through-done st k target h s =
      let up = Machine.version_raised st t in
      finished _ k
      (acts-bare _
      (with-parts up _
      (λ i. join-into _ (schedule_of t) (schedule_of target) below h refl
      (join-into up.clocks (causality t) (causality target) below h refl i))
      (raise st s)))

  blocks-going : (st : State) (target : ℕ) → Acting st → Going p n (Machine.schedules (Machine.blocked_on st t target) [])
  unfolding Machine.schedules
  blocks-going st target s =
      let a = st.numbers in
      let a1 = with_number a (State.state t) blocked in
      let a2 = with_number a1 (awaits t) target in
      let at : At p t n rows owing owing (but t waits) least Before (Machine.blocked_on st t target) = record {
        sound = s.sound;
        tally = aside a2 (aside a1 (aside a s.tally (State.state t) blocked (omega arith)) (awaits t) target (omega arith))
            (operation t) Machine.no_operation (omega arith);
        links = operation-now a2
            (aside-links a1 (aside-links a s.links (State.state t) blocked (omega arith) (omega arith)) (awaits t) target
            (omega arith) (omega arith))
            t below Machine.no_operation 0 (omega arith);
      } in
      no_more (Bounds.BoundsScheduling p (Machine.blocked_on st t target)) n
      (asks-thread (Machine.blocked_on st t target) at (λ u b. omega arith) (λ u b. omega arith))

  joins-going : (st : State) (k opcode target : ℕ) → target < threads → Acting st → Going p n (Machine.joins st t k opcode target)
  unfolding Machine.joins
  joins-going st k opcode target h s =
      pick (Going p n) (Machine.is_in st.numbers ended target)
      (λ e. through-done st (one_more k) target h s) (λ e. blocks-going st target s)

  -- "13 `critical`; 14 `explore_state`; 15 `skip_branch`"
  with-flag : (st : State) (v : ℕ) → Acting st → Acting (Machine.with_numbers st (with_number st.numbers exploring v))
  with-flag st v s = record {
    sound = s.sound;
    tally = aside st.numbers s.tally exploring v (omega arith);
    links = aside-links st.numbers s.links exploring v (omega arith) (omega arith);
  }

  skips : (st : State) → Acting st → Acting (Machine.skipped st)
  skips st s =
      let one = with-flag st 0 s in
      record {
        sound = s.sound;
        tally = aside (with_number st.numbers exploring 0) one.tally skipping 1 (omega arith);
        links = aside-links (with_number st.numbers exploring 0) one.links skipping 1 (omega arith) (omega arith);
      }

  explores-going : (st : State) (k opcode : ℕ) (on : Bool) → Acting st → Going p n (Machine.explores st t k opcode on)
  explores-going st k opcode on s =
      let v : ℕ = cond on 1 0 in
      pick (Going p n) (Machine.is_skipping st.numbers) (λ e. bare st (one_more k) s)
      (λ e. pick (Going p n) (eqb (number st.numbers exploring) v) (λ f. over _ _ st s)
      (λ f. bare (Machine.with_numbers st (with_number st.numbers exploring v)) (one_more k) (with-flag st v s)))

  -- a row that asks
  asks-now : (st : State) → Raised st → Bounds.BoundsReading p st (n + 0)
  asks-now st s =
      no_more (Bounds.BoundsReading p st) n (asks-row st s below owes (λ u b. omega arith) (λ u b. omega arith))

  slot-going : (st : State) (fate : ℕ → Cell.Fate) (cnt : ℕ) → Acting st →
      Going p n (Machine.asks_slot (Machine.version_raised st t) (Cell.matched_from fate (Cell.live_stores cnt) 0))
  slot-going st fate cnt s = (asks-now (Machine.version_raised st t) (raise st s), slots-few fate cnt)

  -- What each row does, where it has begun
  pub acts-going : (st : State) (k : ℕ) (op : Op) → Names (widest (row_count p t) k) op → version st.clocks t ≤ least t → Acting st →
      Going p n (Machine.acts p st t k op)
  unfolding Machine.acts_as Cell.matched_load Cell.matched_rmw
  acts-going st k (Table.load c o r) h v s = slot-going st _ (number st.numbers (count c)) s
  acts-going st k (Table.store c o a) h v s = ending-going p n (Machine.stores st t k 1 c o a) (stores-ending st k 1 c o a h s)
  acts-going st k (Table.store_register c o r) h v s =
      ending-going p n (Machine.stores st t k 2 c o (Machine.register st t r))
      (stores-ending st k 2 c o (Machine.register st t r) h s)
  acts-going st k (Table.rmw c o f change r) h v s = slot-going st _ (number st.numbers (count c)) s
  acts-going st k (Table.fence o) h v s = fence-done st (one_more k) o s
  acts-going st k (Table.unsync_load c r) h v s =
      let slot = Cell.newest (number st.numbers (count c)) in
      ending-going p n (Machine.reads (unsync_load_done st t c) t k 5 r slot 0)
      (reads-ending (unsync_load_done st t c) k 5 r slot 0 (unsync-at st c h (not-raised st s)))
  acts-going st k (Table.with_mut c change r) h v s =
      ending-going p n (Machine.leaves_in (mut_done st t c change) t k 6 c r)
      (leaves-ending (mut_done st t c change) k 6 c r (mut-at st c change h (not-raised st s)))
  acts-going st k Table.yield h v s = yield-going st (one_more k) _ v s
  acts-going st k (Table.join target) h v s = joins-going st k 8 target h s
  acts-going st k (Table.jump target) h v s = bare st _ s
  acts-going st k (Table.jump_if r a target) h v s = bare st _ s
  acts-going st k (Table.jump_unless r a target) h v s = bare st _ s
  acts-going st k (Table.check r a) h v s =
      pick (Going p n) (eqb (Machine.register st t r) a) (λ e. bare st (one_more k) s) (λ e. over _ _ st s)
  acts-going st k Table.critical h v s = explores-going st k 13 false s
  acts-going st k Table.explore_state h v s = explores-going st k 14 true s
  acts-going st k Table.skip_branch h v s = bare (Machine.skipped st) (one_more k) (skips st s)
  acts-going st k (Table.spurious r) h v s = asks-now st (not-raised st s)
  acts-going st k (Table.plain_read c r) h v s =
      ending-going p n (Machine.reads (plain_read_done st t c) t k 17 r Machine.no_slot 0)
      (reads-ending (plain_read_done st t c) k 17 r Machine.no_slot 0 (plain-read-at st c h (not-raised st s)))
  acts-going st k (Table.plain_write c a) h v s =
      let race = plain_write_race st.clocks t c in
      ending-going p n (Machine.writes_unless race st (plain_write_done st t c a) t k 18 a)
      (writes-unless race st k 18 c a h (not-raised st s))

  -- a load or an RMW reads its slot
  pub read_ending : (st : State) (k slot mask : ℕ) (role : Role) → slot < history → RoleOnCell role → Raised st →
      Ending p n (Machine.read_from st t k slot mask role)
  unfolding Machine.read_from
  read_ending st k slot mask (loads c o r) d h s =
      pick (Ending p n) (ltb slot (number st.numbers (count c)))
      (λ e. reads-ending (load_done st t c slot o) k 0 r slot mask (load_at st c slot o h d s)) (λ e. over _ _ st s)
  read_ending st k slot mask (modifies c o f change r) d h s =
      pick (Ending p n) (ltb slot (number st.numbers (count c)))
      (λ e. reads-ending (rmw_done st t c slot change o f) k 3 r slot mask (rmw-at st c slot change o f h d s)) (λ e. over _ _ st s)
  read_ending st k slot mask (stores_operand c o a) d h s = over _ _ st s
  read_ending st k slot mask (stores_register c o r) d h s = over _ _ st s
  read_ending st k slot mask (takes_bit r) d h s = over _ _ st s
  read_ending st k slot mask otherwise d h s = over _ _ st s

  -- "16 `branch_spurious` into register (0 or 1)"
  pub bit-ending : (st : State) (k v : ℕ) (role : Role) → Raised st → Ending p n (Machine.bit_taken st t k v role)
  unfolding Machine.bit_taken
  bit-ending st k v (takes_bit r) s = finished _ (one_more k) (with-register st r v (acts-bare st s))
  bit-ending st k v (loads c o r) s = over _ _ st s
  bit-ending st k v (stores_operand c o a) s = over _ _ st s
  bit-ending st k v (stores_register c o r) s = over _ _ st s
  bit-ending st k v (modifies c o f change r) s = over _ _ st s
  bit-ending st k v otherwise s = over _ _ st s
