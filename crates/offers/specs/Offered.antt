-- Demand 3, what a load or an RMW is offered, of the definition's scans over any tables. Assumes nothing.
--     Below                        a store that is recorded below another
--     Among, Rising                a slot among a list, a list that rises strictly
--     OfferedRight                 what holds of the slots that a scan offers
--     LoadOffered, RmwOffered      it holds of every load's scan and of every RMW's
--     SomeOfferedToLoad, SomeOfferedRmw  in a cell that has a store one is offered
use Rattle.std.specs.Prelude.{ℕ, ◌≤◌, ◌<◌, List, [], ◌∷◌, Bool, true, ◌≡◌, length, get_or}
use Rattle.rules.specs.Vector.{less}
use Rattle.rules.specs.Event.{offers, slots_of}
use Rattle.rules.specs.State.{Clocks, Numbers, number, count, history}
use Rattle.rules.specs.Cell.{order_of, live_in, seen_by, matched_load, matched_rmw}
use Rattle.ledger.specs.History.{Every}

-- "recorded below": the order of the store in slot i of a cell is less than that of the store in slot j
abbrev pub Below : Clocks → ℕ → ℕ → ℕ → Type 0
Below clocks c i j = less (order_of clocks c i) (order_of clocks c j) ≡ true

-- a number stands in a list, at some place
abbrev pub Among : ℕ → List ℕ → Type 0
Among x xs = (at : ℕ) × (at < length xs) × (get_or xs at 0 ≡ x)

abbrev pub Rising : List ℕ → Type 0
Rising [] = Unit {0}
Rising (x ∷ xs) = Every (λ y. x < y) xs × Rising xs

-- The slots of a cell that a scan offers, where these are the stores that the thread has seen by then
pub record OfferedRight (clocks : Clocks) (numbers : Numbers) (c : ℕ) (Seen : ℕ → Type 0) (offered : List Bool) : Type 0 where
  -- "each live store recorded below no other"
  pub each :
      (i : ℕ) → i < live_in numbers c → ((j : ℕ) → j < live_in numbers c → Below clocks c i j → ⊥) → Among i (slots_of offered)
  -- "never one recorded below another live store that its thread has seen by then"
  pub never : (i j : ℕ) → Among i (slots_of offered) → j < live_in numbers c → Seen j → Below clocks c i j → ⊥
  -- only live stores, in slots that there are
  pub live : (i : ℕ) → Among i (slots_of offered) → (i < live_in numbers c) × (i < history)
  -- "Offers rise strictly."
  pub rising : Rising (slots_of offered)
  -- there is always one, in a cell that has a store
  pub some : 1 ≤ number numbers (count c) → 0 < length (slots_of offered)
  -- each live slot is judged, and no other
  pub judged : length offered ≡ live_in numbers c
  pub few : length offered ≤ history

unfoldable pub LoadOffered : Type 0
LoadOffered =
    (clocks : Clocks) (rows : List (List ℕ)) (numbers : Numbers) (t c o : ℕ) (offered : List Bool)
    → matched_load clocks rows numbers t c o ≡ offers offered
    → OfferedRight clocks numbers c (λ j. seen_by clocks rows t j ≡ true) offered

-- "RMW drops at any greater j.", seen or not
unfoldable pub RmwOffered : Type 0
RmwOffered =
    (clocks : Clocks) (numbers : Numbers) (c : ℕ) (offered : List Bool) → matched_rmw clocks numbers c ≡ offers offered
    → OfferedRight clocks numbers c (λ j. Unit {0}) offered

-- the same, by itself
unfoldable pub SomeOfferedToLoad : Type 0
SomeOfferedToLoad =
    (clocks : Clocks) (rows : List (List ℕ)) (numbers : Numbers) (t c o : ℕ) (offered : List Bool) → 1 ≤ number numbers (count c)
    → matched_load clocks rows numbers t c o ≡ offers offered → 0 < length (slots_of offered)

unfoldable pub SomeOfferedRmw : Type 0
SomeOfferedRmw =
    (clocks : Clocks) (numbers : Numbers) (c : ℕ) (offered : List Bool) → 1 ≤ number numbers (count c)
    → matched_rmw clocks numbers c ≡ offers offered → 0 < length (slots_of offered)
