-- The conditions under which the impossible outcome never comes can be met: a machine of four states that asks each kind of
-- question. Assumes nothing.
--     asker, asks_for                       the machine, and what it asks in a state
--     HoldsThere, AsksThere, OverThere     what it keeps
--     Meets                                it meets the conditions
use Rattle.std.specs.Prelude.{ℕ, zero, suc, ◌≤◌, [], ◌∷◌, true, ◌≡◌}
use Rattle.rules.specs.Vector.{thread}
use Rattle.rules.specs.Path.{unbounded}
use Rattle.rules.specs.Event.{Question, which_thread, which_slot, which_bit, offers, yielded, cannot_run, other, Move, moves, asks, ends, no_site, Machine}
use Rattle.rules.specs.Explorer.{Limits}
use Rattle.kept.specs.Kept.{Never}

abbrev pub asks_for : ℕ → Question
asks_for zero = which_thread [] (thread 0) (other ∷ yielded ∷ cannot_run ∷ cannot_run ∷ cannot_run ∷ [])
asks_for (suc zero) = which_slot (offers (true ∷ true ∷ []))
asks_for (suc (suc s)) = which_bit

abbrev pub does_next : ℕ → Move ℕ
does_next zero = asks 0 [] true (asks_for 0)
does_next (suc zero) = asks 1 [] true (asks_for 1)
does_next (suc (suc zero)) = asks 2 [] true (asks_for 2)
does_next (suc (suc (suc s))) = ends 3

abbrev pub asker : Machine
asker = record {
  State = ℕ;
  start = 0;
  next = λ s. record { site = no_site; move = does_next s };
  answered = λ s a. moves (suc s) [];
  final = λ s. true;
}

abbrev pub limits_there : Limits
limits_there = record { branches = 3; operations = 1; bound = unbounded; ticks = 4 }

-- no entry is noted, and there are four states
abbrev pub HoldsThere : ℕ → ℕ → Type 0
HoldsThere s n = (n ≡ 0) × (s ≤ 3)

abbrev pub AsksThere : ℕ → ℕ → Question → Type 0
AsksThere s n q = (n ≡ 0) × (s ≤ 2) × (q ≡ asks_for s)

abbrev pub OverThere : ℕ → ℕ → Type 0
OverThere s n = n ≡ 0

unfoldable pub Meets : Type 0
Meets = Never asker limits_there HoldsThere AsksThere OverThere
