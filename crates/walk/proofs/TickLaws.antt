-- A tick of a thread at its row. Assumes nothing.
--     next-keeps       a row that asks for a slot or a bit is still the active thread's row
--     tick-takes       what the thread does next is taken
use Prim.Native.Nat.{ℕ, ◌+◌, ◌<◌}
use mathlib.Core.List.{List, []}
use mathlib.Core.Bool.{Bool, true, false, cond, ◌&&◌}
use mathlib.Core.Path.{◌≡◌, refl, ap, sym, subst, ◌∙◌}
use mathlib.Core.Logic.{◌≢◌}
use native.Mathlib.Omega.{arith}
use lib.Dec.{leb, eqb}
use lib.ListN.{get_or}
use Rattle.rules.specs.Event as rules
use Rattle.rules.specs.Vector.{one_more}
use Rattle.rules.specs.Event.{Move, moves, asks, stops, ends}
use Rattle.rules.specs.State.{State, Clocks, Marks as MarkTable, Values, Numbers, number}
use Rattle.rules.specs.State as names
use Rattle.rules.specs.Cell as cells
use Rattle.rules.specs.Plain as plains
use Rattle.rules.specs.Table as Table
use Rattle.rules.specs.Table.{cells_of}
use Rattle.rules.specs.Machine as machines
use Rattle.rules.proofs.StateLaws.{number-other}
use Rattle.rules.specs.Machine.{Program, machine, current, schedules, begins, acts, acts_as, next_at, row_of, row_count, is_to_begin, stores, joins, thread_ended, begun_as, pending_of, row_begun, Pending, nothing, pends, register}
use Rattle.rules.specs.Explorer as explorer
use Rattle.rules.specs.Explorer.{Walk, Tick}
use Rattle.layout.specs.Tables.{state}
use Rattle.decode.specs.Ops.{decoded_of}
use Rattle.event.specs.Moves.{Happening}
use Rattle.std.specs.Prelude.{Ok, Err}
use Rattle.event.specs.declared.Moved.TheVariants as event
use Rattle.event.specs.declared.Question.TheVariants as question
use Rattle.execution.specs.Next.{next_with}
use Rattle.execution.proofs.TickLaws.{next-with}
use Rattle.meeting.specs.Stands.{Lent, lent, ComesTo, site_of}
use Rattle.meeting.specs.Entries.{move_at}
use Rattle.meeting.specs.declared.Cursor.{Cursor}
use Rattle.event.specs.declared.Here.{Here}
use Rattle.meeting.specs.declared.Ticked.{Ticked}
use Rattle.walk.specs.Parts.{AtRow, MovesAt, Goes, TakesNeeds, taken_at, TicksNeeds, ticked_at}
use Rattle.walk.specs.declared.Limits.{Limits}

-- the same thread is active, and a thread is at the same row
record Same (t : ℕ) (st s : State) : Type 0 where
  who : current s ≡ current st
  row : number s.numbers (names.next_row t) ≡ number st.numbers (names.next_row t)

abbrev KeepsBy : ℕ → State → State → rules.Question → Type 0
KeepsBy t st s (rules.which_thread points i standings) = Unit
KeepsBy t st s (rules.which_slot m) = Same t st s
KeepsBy t st s rules.which_bit = Same t st s

abbrev KeepsIf : ℕ → State → Move State → Type 0
KeepsIf t st (moves s es) = Unit
KeepsIf t st (asks s es e q) = KeepsBy t st s q
KeepsIf t st (stops s f) = Unit
KeepsIf t st (ends s) = Unit

record AskKeeps (t : ℕ) (st : State) (m : Move State) : Type 0 where
  is : KeepsIf t st m

-- a row that begins stays the row of its thread
begun-same : (t : ℕ) (st : State) → t < 5 → Same t st (row_begun st t)
begun-same t st below = record {
  who = kept names.active_thread (omega arith) (omega arith) (omega arith);
  row = kept (names.next_row t) (omega arith) (omega arith) (omega arith);
}
  where
    kept : (n : names.Number) → names.number_at n ≢ names.number_at names.rows_begun → names.number_at n ≢ names.number_at (names.rows_of t) →
        names.number_at n ≢ names.number_at (names.phase t) → number (row_begun st t).numbers n ≡ number st.numbers n
    kept n a b c = rw (number-other _ (names.phase t) n _ c, number-other _ (names.rows_of t) n _ b, number-other _ names.rows_begun n _ a)

module _ (t : ℕ) (st s : State) (same : Same t st s) where
  keeps-by : (u : State) (q : rules.Question) → KeepsBy t s u q → KeepsBy t st u q
  keeps-by u (rules.which_thread points i standings) k = tt
  keeps-by u (rules.which_slot m) k = record { who = k.who ∙ same.who; row = k.row ∙ same.row }
  keeps-by u rules.which_bit k = record { who = k.who ∙ same.who; row = k.row ∙ same.row }

  keeps-after : (m : Move State) → AskKeeps t s m → AskKeeps t st m
  keeps-after (moves u es) k = record { is = tt }
  keeps-after (asks u es e q) k = record { is = keeps-by u q k.is }
  keeps-after (stops u f) k = record { is = tt }
  keeps-after (ends u) k = record { is = tt }

module _ (t : ℕ) (st : State) where
  by-test : (b : Bool) (x y : Move State) → AskKeeps t st x → AskKeeps t st y → AskKeeps t st (cond b x y)
  by-test true x y h k = h
  by-test false x y h k = k

  schedules-keep : (s : State) (es : List rules.Entry) → AskKeeps t st (schedules s es)
  unfolding schedules
  schedules-keep s es = record { is = tt }

  stores-keep : (r : cells.Race) (up tracked : State) (k opcode c o v : ℕ) → AskKeeps t st (machines.stores_unless r up tracked t k opcode c o v)
  stores-keep (cells.race_of kind other) up tracked k opcode c o v = record { is = tt }
  stores-keep cells.no_race up tracked k opcode c o v = record { is = tt }

  store_keeps : (k opcode c o v : ℕ) → AskKeeps t st (stores st t k opcode c o v)
  unfolding stores
  store_keeps k opcode c o v =
      let up = machines.version_raised st t in
      stores-keep (cells.store_race up.clocks t c) up (cells.with_clocks up (cells.store_tracked up.clocks t c)) k opcode c o v

  reads-keep : (a : cells.AccessResult) (k opcode r slot mask : ℕ) → AskKeeps t st (machines.reads a t k opcode r slot mask)
  reads-keep (cells.raced kind other s) k opcode r slot mask = record { is = tt }
  reads-keep (cells.read v s) k opcode r slot mask = record { is = tt }

  leaves-keep : (a : cells.AccessResult) (k opcode c r : ℕ) → AskKeeps t st (machines.leaves_in a t k opcode c r)
  leaves-keep (cells.raced kind other s) k opcode c r = record { is = tt }
  leaves-keep (cells.read v s) k opcode c r = record { is = tt }

  writes-keep : (r : cells.Race) (written : State) (k opcode v : ℕ) → AskKeeps t st (machines.writes_unless r st written t k opcode v)
  writes-keep (cells.race_of kind other) written k opcode v = record { is = tt }
  writes-keep cells.no_race written k opcode v = record { is = tt }

  joins-keep : (k opcode target : ℕ) → AskKeeps t st (joins st t k opcode target)
  unfolding joins
  joins-keep k opcode target = by-test (machines.is_in st.numbers machines.ended target) (machines.done (machines.joined_with st t target) t k opcode) (schedules (machines.blocked_on st t target) []) (record { is = tt }) (schedules-keep (machines.blocked_on st t target) [])

  explores-keep : (k opcode : ℕ) (on : Bool) → AskKeeps t st (machines.explores st t k opcode on)
  explores-keep k opcode on =
      let off = machines.done (machines.with_numbers st (names.with_number st.numbers names.exploring (cond on 1 0))) t k opcode in
      by-test (machines.is_skipping st.numbers) (machines.done st t k opcode) (cond (eqb (number st.numbers names.exploring) (cond on 1 0)) (stops st rules.flags) off) (record { is = tt })
      (by-test (eqb (number st.numbers names.exploring) (cond on 1 0)) (stops st rules.flags) off (record { is = tt }) (record { is = tt }))

  acts-keep : (p : Program) (k n : ℕ) (op : Table.Op) → AskKeeps t st (acts_as p st t k n op)
  unfolding acts_as
  acts-keep p k n (Table.load c o r) = record { is = record { who = refl; row = refl } }
  acts-keep p k n (Table.store c o a) = store_keeps k n c o a
  acts-keep p k n (Table.store_register c o r) = store_keeps k n c o (register st t r)
  acts-keep p k n (Table.rmw c o f change r) = record { is = record { who = refl; row = refl } }
  acts-keep p k n (Table.fence o) = record { is = tt }
  acts-keep p k n (Table.unsync_load c r) = reads-keep (cells.unsync_load_done st t c) k n r (cells.newest (number st.numbers (names.count c))) 0
  acts-keep p k n (Table.with_mut c change r) = leaves-keep (cells.mut_done st t c change) k n c r
  acts-keep p k n Table.yield = schedules-keep (machines.completed (machines.yield_done st t) t (one_more k)) (machines.entry t k n machines.no_slot 0 0)
  acts-keep p k n (Table.join target) = joins-keep k n target
  acts-keep p k n (Table.jump target) = record { is = tt }
  acts-keep p k n (Table.jump_if r a target) = record { is = tt }
  acts-keep p k n (Table.jump_unless r a target) = record { is = tt }
  acts-keep p k n (Table.check r a) = by-test (eqb (register st t r) a) (machines.done st t k n) (stops st rules.check) (record { is = tt }) (record { is = tt })
  acts-keep p k n Table.critical = explores-keep k n false
  acts-keep p k n Table.explore_state = explores-keep k n true
  acts-keep p k n Table.skip_branch = record { is = tt }
  acts-keep p k n (Table.spurious r) = record { is = record { who = refl; row = refl } }
  acts-keep p k n (Table.plain_read c r) = reads-keep (plains.plain_read_done st t c) k n r machines.no_slot 0
  acts-keep p k n (Table.plain_write c a) = writes-keep (plains.plain_write_race st.clocks t c) (plains.plain_write_done st t c a) k n a

module _ (t : ℕ) (below : t < 5) (st : State) where
  begun-keeps : (p : Program) (k : ℕ) (op : Table.Op) (x : Pending) → AskKeeps t st (begun_as p (row_begun st t) t k op x)
  begun-keeps p k op nothing =
      keeps-after t st (row_begun st t) (begun-same t st below) (acts p (row_begun st t) t k op) (acts-keep t (row_begun st t) p k (Table.opcode_of op) op)
  begun-keeps p k op (pends action c) = schedules-keep t st (machines.with_operation (row_begun st t) t action c) []

  begins-keep : (p : Program) (k : ℕ) (op : Table.Op) → AskKeeps t st (begins p st t k op)
  unfolding begins
  begins-keep p k op =
      by-test t st (leb p.operations (number st.numbers names.rows_begun)) (stops st rules.rows) (begun_as p (row_begun st t) t k op (pending_of op))
      (record { is = tt }) (begun-keeps p k op (pending_of op))

  row_keeps : (p : Program) (k : ℕ) (row : Table.Decoded Table.Op) → AskKeeps t st (machines.of_row p st t k row)
  row_keeps p k Table.refused = record { is = tt }
  row_keeps p k (Table.decoded op) =
      by-test t st (is_to_begin st t) (begins p st t k op) (acts p st t k op) (begins-keep p k op) (acts-keep t st p k (Table.opcode_of op) op)

  next-keeps : (p : Program) (k : ℕ) → AskKeeps t st (next_at p st t k)
  unfolding next_at
  next-keeps p k =
      by-test t st (is_to_begin st t && leb (row_count p t) k) (schedules (thread_ended st t) []) (machines.of_row p st t k (row_of p t k))
      (schedules-keep t st (thread_ended st t) []) (row_keeps p k (row_of p t k))

still-there : (st s : State) (h : Here) → Same h.site.thread st s → AtRow st h → AtRow s h
still-there st s h e a =
    record {
      who = e.who ∙ a.who;
      row = ap (λ (t : ℕ). number s.numbers (names.next_row t)) (e.who ∙ a.who) ∙ e.row
          ∙ ap (λ (t : ℕ). number st.numbers (names.next_row t)) (sym a.who) ∙ a.row;
    }

moves-at : (ev : Happening) (st s : State) (h : Here) → AtRow st h → AskKeeps h.site.thread st (move_at ev h s) → MovesAt ev s h
moves-at (Ok event.Moves) st s h a k = tt
moves-at (Ok (event.Done slot mask v)) st s h a k = tt
moves-at (Ok (event.Asks question.Thread yielded)) st s h a k = tt
moves-at (Ok (event.Asks question.Slot yielded)) st s h a k = still-there st s h k.is a
moves-at (Ok (event.Asks question.Bit yielded)) st s h a k = still-there st s h k.is a
moves-at (Ok event.Ends) st s h a k = tt
moves-at (Err f) st s h a k = tt

taken-state : (p : Program) (L : explorer.Limits) (site : rules.Site) (w : Walk State) (s : State) (m : Move State) → explorer.taken (machine p) L site (explorer.with_state w s) m ≡ explorer.taken (machine p) L site w m
taken-state p L site w s (moves st es) = refl
taken-state p L site w s (asks st es e q) = refl
taken-state p L site w s (stops st f) = refl
taken-state p L site w s (ends st) = refl

module _ (c : Cursor) (h : Here) (ev : Happening) (shape : List ℕ) (limits : Limits) (clocks : Clocks) (marks : MarkTable) (values : Values) (numbers : Numbers) (clocks2 : Clocks) (marks2 : MarkTable) (values2 : Values) (numbers2 : Numbers) (path trace : List ℕ)
    (does : (p : Program) → p.operations ≡ limits.operations → cells_of p.table ≡ get_or shape 1 0
    → move_at ev h (state clocks2 marks2 values2 numbers2) ≡ next_with p (state clocks marks values numbers) h.site.thread h.site.row (get_or shape (2 + h.site.thread) 0) (decoded_of h.row))
    (below : h.site.thread < 5) (r : Ticked) (exit : Lent) (g : Goes (lent clocks2 marks2 values2 numbers2 path trace) exit c r 60 h (TakesNeeds ev h limits.bound) (taken_at ev h)) where
  abbrev left : State
  left = state clocks2 marks2 values2 numbers2

  abbrev first : State
  first = state clocks marks values numbers

  pub tick-takes : Goes (lent clocks marks values numbers path trace) exit c r 60 h (TicksNeeds shape limits h) (ticked_at h)
  tick-takes =
      record {
        gone = g.gone;
        wrote = g.wrote;
        comes = λ p L w rooms needs s.
            let is : move_at ev h left ≡ next_at p first h.site.thread h.site.row =
            does p needs.operations needs.cells ∙ next-with p first h.site.thread h.site.row _ _ needs.rows rooms.is_row in
            let there : AtRow first h = subst (λ (st : State). AtRow st h) s.is_state needs.there in
            let kept : AskKeeps h.site.thread first (move_at ev h left) =
            subst (λ (m : Move State). AskKeeps h.site.thread first m) (sym is) (next-keeps h.site.thread below first p h.site.row) in
            subst (λ (y : Tick State). ComesTo r.outcome r.cursor exit y)
            (taken-state p L (site_of h.site) w left (move_at ev h left)
            ∙ ap (explorer.taken (machine p) L (site_of h.site) w) (is ∙ ap (λ (st : State). next_at p st h.site.thread h.site.row) (sym s.is_state)))
            (g.comes p L (explorer.with_state w left) rooms (record { moves = moves-at ev first left h there kept; is_bound = needs.is_bound })
            (record { is_state = refl; holds = s.holds; is-len = s.is-len; is-opened = s.is-opened; is_pos = s.is_pos; front = s.front; is-entries = s.is-entries }));
      }
