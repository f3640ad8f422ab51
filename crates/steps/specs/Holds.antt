-- What the cells and the registers hold after some of the steps: a table of 65 numbers, and a name for each. Assumes nothing.
--     held, with_held     what a place holds, and a number put there
--     held_at_start        before the first step
--     step_taken          what a step changes
--     held_after          after the first n steps
use Rattle.std.specs.Prelude.{ℕ, zero, suc, ◌+◌, List, Bool, cond, ◌&&◌, ltb, eqb, get_or, set, replicate}
use Rattle.rules.specs.Cell.{slot_of}
use Rattle.rules.specs.Cell as cell
use Rattle.rules.specs.Change.{Change, Changed, success, failure, applied}
use Rattle.rules.specs.Event.{Entry}
use Rattle.rules.specs.State.{store_at, register_at, threads, cells, plains, history}
use Rattle.rules.specs.Table.{Op, Decoded, refused, decoded, start_value, registers, load, store, store_register, rmw, fence, unsync_load, with_mut, yield, join, jump, jump_if, jump_unless, check, critical, explore_state, skip_branch, spurious, plain_read, plain_write}
use Rattle.rules.specs.Vector.{one_more}
use Rattle.steps.specs.Entries.{entry_read, operation_at}

-- of a cell: the step that wrote what a slot holds, counted from 1, or 0; how many stores it had; its newest value. Of a thread:
-- a register; the row that it is at. Of a plain cell: the step that wrote what it holds, or 0
pub data HeldPlace : Type 0 where
  writer : (cell slot : ℕ) → HeldPlace
  count : (cell : ℕ) → HeldPlace
  newest_value : (cell : ℕ) → HeldPlace
  register : (thread r : ℕ) → HeldPlace
  next_row : (thread : ℕ) → HeldPlace
  plain_writer : (plain : ℕ) → HeldPlace

abbrev pub is_place : HeldPlace → Bool
is_place (writer c s) = ltb c cells && ltb s history
is_place (count c) = ltb c cells
is_place (newest_value c) = ltb c cells
is_place (register t r) = ltb t threads && ltb r registers
is_place (next_row t) = ltb t threads
is_place (plain_writer c) = ltb c plains

abbrev pub held_place_of : HeldPlace → ℕ
held_place_of (writer c s) = store_at c s
held_place_of (count c) = 28 + c
held_place_of (newest_value c) = 32 + c
held_place_of (register t r) = 36 + register_at t r
held_place_of (next_row t) = 56 + t
held_place_of (plain_writer c) = 61 + c

-- what a place holds; 0 where there is no such place, and there nothing is put
unfoldable pub held : List ℕ → HeldPlace → ℕ
held h p = cond (is_place p) (get_or h (held_place_of p) 0) 0

unfoldable pub with_held : List ℕ → HeldPlace → ℕ → List ℕ
with_held h p v = cond (is_place p) (set h (held_place_of p) v) h

-- "Slot is cnt mod 7": a store takes the next slot
unfoldable pub store_held : List ℕ → ℕ → ℕ → ℕ → List ℕ
store_held h c v step =
    with_held
    (with_held (with_held h (writer c (slot_of (held h (count c)))) step) (count c) (one_more (held h (count c))))
    (newest_value c) v

unfoldable pub written_over : List ℕ → ℕ → ℕ → ℕ → List ℕ
written_over h c v step = with_held (with_held h (writer c (cell.newest (held h (count c)))) step) (newest_value c) v

-- what a change leaves: an RMW that succeeds is a store, an exclusive one writes over the newest
abbrev pub rmw_left : List ℕ → ℕ → ℕ → Changed → List ℕ
rmw_left h c step (success v) = store_held h c v step
rmw_left h c step failure = h

abbrev pub exclusive_left : List ℕ → ℕ → ℕ → Changed → List ℕ
exclusive_left h c step (success v) = written_over h c v step
exclusive_left h c step failure = h

-- "Opcodes 0, 3, 5, 6 put the value read in the register, also on failure.": an exclusive change reads the newest
unfoldable pub rmw_held : List ℕ → ℕ → ℕ → Change → ℕ → ℕ → ℕ → List ℕ
rmw_held h t c change r v step = rmw_left (with_held h (register t r) v) c step (applied change v)

unfoldable pub exclusive_held : List ℕ → ℕ → ℕ → Change → ℕ → ℕ → List ℕ
exclusive_held h t c change r step =
    exclusive_left (with_held h (register t r) (held h (newest_value c))) c step (applied change (held h (newest_value c)))

-- "cells take a Release store of their start value": no step writes it, nor that of a plain cell
abbrev pub start_stored : List ℕ → ℕ → List ℕ → List ℕ
start_stored table c h = store_held h c (start_value table c) 0

unfoldable pub held_at_start : List ℕ → List ℕ
held_at_start table = start_stored table 3 (start_stored table 2 (start_stored table 1 (start_stored table 0 (replicate 65 0))))

-- by its opcode, what a row of thread t changes, with the value of its entry: "read (opcodes 0, 3, 5, 16), stored (1, 2)",
-- "the value read or written" (document 02, §5)
unfoldable pub acted : List ℕ → ℕ → ℕ → ℕ → Op → List ℕ
acted h t v step (load c o r) = with_held h (register t r) v
acted h t v step (store c o a) = store_held h c v step
acted h t v step (store_register c o r) = store_held h c v step
acted h t v step (rmw c o f change r) = rmw_held h t c change r v step
acted h t v step (fence o) = h
acted h t v step (unsync_load c r) = with_held h (register t r) v
acted h t v step (with_mut c change r) = exclusive_held h t c change r step
acted h t v step yield = h
acted h t v step (join thread) = h
acted h t v step (jump target) = h
acted h t v step (jump_if r a target) = h
acted h t v step (jump_unless r a target) = h
acted h t v step (check r a) = h
acted h t v step critical = h
acted h t v step explore_state = h
acted h t v step skip_branch = h
acted h t v step (spurious r) = with_held h (register t r) v
acted h t v step (plain_read c r) = with_held h (register t r) v
acted h t v step (plain_write c a) = with_held h (plain_writer c) step

-- the row that a thread goes on with
unfoldable pub next_of : List ℕ → ℕ → ℕ → Op → ℕ
next_of h t k (load c o r) = k + 1
next_of h t k (store c o a) = k + 1
next_of h t k (store_register c o r) = k + 1
next_of h t k (rmw c o f change r) = k + 1
next_of h t k (fence o) = k + 1
next_of h t k (unsync_load c r) = k + 1
next_of h t k (with_mut c change r) = k + 1
next_of h t k yield = k + 1
next_of h t k (join thread) = k + 1
next_of h t k (jump target) = target
next_of h t k (jump_if r a target) = cond (eqb (held h (register t r)) a) target (k + 1)
next_of h t k (jump_unless r a target) = cond (eqb (held h (register t r)) a) (k + 1) target
next_of h t k (check r a) = k + 1
next_of h t k critical = k + 1
next_of h t k explore_state = k + 1
next_of h t k skip_branch = k + 1
next_of h t k (spurious r) = k + 1
next_of h t k (plain_read c r) = k + 1
next_of h t k (plain_write c a) = k + 1

-- what a step changes that does this, by its entry
abbrev pub step_taken_as : List ℕ → ℕ → Entry → Decoded Op → List ℕ
step_taken_as h i e refused = h
step_taken_as h i e (decoded op) =
    acted (with_held h (next_row e.thread) (next_of h e.thread e.row op)) e.thread e.value (i + 1) op

unfoldable pub step_taken : List ℕ → List ℕ → ℕ → List ℕ → List ℕ
step_taken table trace i h = step_taken_as h i (entry_read trace i) (operation_at table trace i)

unfoldable pub held_after : List ℕ → List ℕ → ℕ → List ℕ
held_after table trace zero = held_at_start table
held_after table trace (suc n) = step_taken table trace n (held_after table trace n)
