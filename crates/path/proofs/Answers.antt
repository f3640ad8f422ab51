-- For callers: what an answer tells of its numbers, where a `match` has taken it apart. Assumes nothing.
use Prim.Native.Nat.{ℕ, ◌+◌, ◌*◌, ◌<◌, ◌≤◌}
use mathlib.Core.List.{List}
use mathlib.Core.Path.{◌≡◌}
use lib.ListN.{length}
use Rattle.record.specs.Answers.{OfferedSlot}
use Rattle.record.specs.declared.Offered.{Offered}
use Rattle.std.specs.Prelude.{Option, Some, Result, Ok, Err}
use Rattle.path.specs.Answers.{Opened, Refused, PushedWithin, ChosenThread}
use Rattle.path.specs.declared.NotAdded.{NotAdded}
use Rattle.path.specs.declared.NotAdded.TheVariants.{Full, Preempted}

pub added-opened : {entry : List ℕ} {len most n : ℕ} {p : Result ℕ NotAdded} (exit : List ℕ) → p ≡ Ok n → PushedWithin entry exit len most p → Opened entry len most n
added-opened exit e h = rw e at h

pub full-refused : {entry exit : List ℕ} {p : Result ℕ NotAdded} (len most : ℕ) → p ≡ Err Full → PushedWithin entry exit len most p → Refused entry exit (length entry < 16 * len + 16)
full-refused len most e h = rw e at h

pub preempted-refused : {entry exit : List ℕ} {p : Result ℕ NotAdded} (len most : ℕ) → p ≡ Err Preempted → PushedWithin entry exit len most p → Refused entry exit (16 * len + 16 ≤ length entry)
preempted-refused len most e h = rw e at h

pub chosen-below : {t : ℕ} {c : Option (Option ℕ)} → c ≡ Some (Some t) → ChosenThread c → t < 5
chosen-below e h = rw e at h

pub slot-below : {o : Offered} {r : Option Offered} → r ≡ Some o → OfferedSlot r → o.slot < 7
slot-below e h = rw e at h
