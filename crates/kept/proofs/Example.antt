-- The machine of four states meets the conditions. Assumes nothing.
use Prim.Native.Nat.{ℕ, zero, suc, ◌-◌, ◌<◌}
use mathlib.Core.List.{List, [], ◌∷◌}
use mathlib.Core.Bool.{Bool, true}
use mathlib.Core.Path.{◌≡◌, refl}
use native.Mathlib.Omega.{arith}
use Rattle.rules.specs.Event as Event
use Rattle.rules.specs.Event.{Question, slots_from}
use Rattle.kept.specs.Kept.{OfNext, Keeps, Possible, Answerable, Falls}
use Rattle.kept.specs.Example.{asks_for, does_next, asker, HoldsThere, AsksThere, OverThere, Meets}

keeps-next : (s n : ℕ) → HoldsThere s n → OfNext asker HoldsThere AsksThere OverThere n (does_next s)
keeps-next zero n h = (omega (arith, h.0), omega arith, refl)
keeps-next (suc zero) n h = (omega (arith, h.0), omega arith, refl)
keeps-next (suc (suc zero)) n h = (omega (arith, h.0), omega arith, refl)
keeps-next (suc (suc (suc s))) n h = h.0

keeps : Keeps asker HoldsThere AsksThere OverThere
keeps = record {
  at-start = (refl, omega arith);
  at_next = keeps-next;
  at-answer = λ s n q a h f. (omega (arith, h.0), omega (arith, h.1));
  at-question = λ s n q h. h.0;
  at_tick = λ s n h. h.0;
}

never-stops : (s : ℕ) → Possible (does_next s)
never-stops zero = tt
never-stops (suc zero) = tt
never-stops (suc (suc zero)) = tt
never-stops (suc (suc (suc s))) = tt

falls-next : (s : ℕ) → Falls (λ u. 3 - u) (3 - s) (does_next s)
falls-next zero = tt
falls-next (suc zero) = tt
falls-next (suc (suc zero)) = tt
falls-next (suc (suc (suc s))) = tt

falls-answered : (s u : ℕ) (es : List Event.Entry) (x : Bool) (q : Question) → does_next s ≡ Event.asks u es x q → 3 - suc u < 3 - s
falls-answered zero u es x q e = let z : 0 ≡ u = cc in omega arith
falls-answered (suc zero) u es x q e = let z : 1 ≡ u = cc in omega arith
falls-answered (suc (suc zero)) u es x q e = let z : 2 ≡ u = cc in omega arith
falls-answered (suc (suc (suc s))) u es x q e = let z : ◌≡◌ {A = ℕ} 0 1 = cc in absurd (omega arith)

-- the thread that is initial can run
scheduled : Answerable (asks_for 0)
scheduled = record {
  five = refl;
  can = λ t e. let z : 0 ≡ t = cc in rw (← z) (omega arith, λ f. let y : ◌≡◌ {A = ℕ} 0 1 = cc in omega arith);
  none = λ e. let y : ◌≡◌ {A = ℕ} 0 1 = cc in absurd (omega arith);
}

-- both slots are offered
offered : Answerable (asks_for 1)
unfolding slots_from
offered = record {
  some = λ bs e. let z : true ∷ true ∷ [] ≡ bs = cc in rw (← z) (omega arith);
  few = λ bs e. let z : true ∷ true ∷ [] ≡ bs = cc in rw (← z) (omega arith);
}

answerable : (s : ℕ) → Answerable (asks_for s)
answerable zero = scheduled
answerable (suc zero) = offered
answerable (suc (suc s)) = tt

pub meets : Meets
unfolding Meets
meets = record {
  keeps = keeps;
  room = λ s n h. omega arith;
  next-possible = λ s n h. never-stops s;
  question = λ s n q h. rw h.2 (answerable s);
  answer-possible = λ s n q a h f. tt;
  left = λ s. 3 - s;
  enough = omega arith;
  next-falls = λ s n h. falls-next s;
  answer-falls = λ s n u es x q a h e f. falls-answered s u es x q e;
}
