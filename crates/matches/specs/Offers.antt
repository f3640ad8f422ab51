-- What the answers of a scan of a cell's stores stand for. Assumes nothing.
--     fate_of, drops         what a scan says of a store, and which stores drop it
--     scanned, offered      the slots that are written where no equal orders are met
use Rattle.std.specs.Prelude.{ℕ, List, Bool, true, false, Result, Ok, Err, ◌||◌, length, get_or}
use Rattle.std.proofs.lemmas.List.Edits.{sets}
use Rattle.rules.specs.Cell as rules
use Rattle.rules.specs.Event as Event
use Rattle.rules.specs.Event.{slots_of}
use Rattle.rules.specs.State.{Numbers}
use Rattle.matches.specs.declared.EqualOrders.{EqualOrders}

abbrev pub fate_of : Result Bool EqualOrders → rules.Fate
fate_of (Ok true) = rules.kept
fate_of (Ok false) = rules.dropped
fate_of (Err equal) = rules.equal_met

-- whether store i is dropped at a newer store j, by which stores are seen and whether i was seen before the yield
abbrev pub drops : List Bool → Bool → Numbers → ℕ → ℕ → ℕ → ℕ → Bool
drops seen before_yield numbers c o i j = get_or seen j false || before_yield || rules.all_seq_cst numbers c i j o

-- how many slots are offered and the list that they are written to, or that equal orders were met
pub data Scan : Type 0 where
  slots : ℕ → List ℕ → Scan
  equal_met : Scan

abbrev pub scanned : Result ℕ EqualOrders → List ℕ → Scan
scanned (Ok n) dst = slots n dst
scanned (Err equal) dst = equal_met

-- the slots that are offered, written at the start of a list
abbrev pub offered : Event.Matched → List ℕ → Scan
offered (Event.offers os) dst = slots (length (slots_of os)) (sets dst 0 (slots_of os))
offered Event.equal dst = equal_met
