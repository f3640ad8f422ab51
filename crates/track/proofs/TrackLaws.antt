-- The laws of tracked accesses: a race is looked for by one sort of access after another, and an access that has none is
-- recorded. Assumes nothing.
--     answered          an answer that was taken apart
--     here, past        the first sort that races answers; one that does not leaves it to those behind it
--     raced, clear      what a function answers and leaves, with a race and with none
use Prim.Native.Nat.{ℕ}
use mathlib.Core.Path.{◌≡◌, ap, sym, ◌∙◌}
use Rattle.rules.specs.Cell as rules
use Rattle.rules.specs.Cell.{no_race, or_else, recorded, join_into}
use Rattle.rules.specs.State.{Clocks, Vector, causality}
use Rattle.std.specs.Prelude.{Result}
use Rattle.std.specs.Result.{IsErrAnd}
use Rattle.std.proofs.lemmas.Result.{err_from_is_err_and}
use Rattle.track.specs.declared.Race.{Race}
use Rattle.track.specs.Tracked.{race_meant, Tracked}

pub answered : (r s : Result Unit Race) (x : rules.Race) → r ≡ s → race_meant r ≡ x → race_meant s ≡ x
answered r s x e f = sym (ap race_meant e) ∙ f

pub here : (a b : rules.Race) (kind other : ℕ) → rules.race_of kind other ≡ a → rules.race_of kind other ≡ or_else a b
here a b kind other e = rw (← e)

pub past : (a b r : rules.Race) → no_race ≡ a → r ≡ b → r ≡ or_else a b
past a b r e f = rw (← e) f

module _ (clocks : Clocks) (v : Vector) (t : ℕ) (whole : rules.Race) where
  pub raced : (r : Result Unit Race) (race : Race) → IsErrAnd r (λ x. x ≡ race) → rules.race_of race.kind race.other ≡ whole → Tracked (race_meant r) clocks whole (recorded whole clocks v t)
  raced r race up e =
      let p = err_from_is_err_and r up in
      record { answer = rw (p.1, p.2) e; left = rw (← e) }

  pub clear : (left : Clocks) → no_race ≡ whole → left ≡ join_into clocks v (causality t) → Tracked no_race left whole (recorded whole clocks v t)
  clear left e f = record { answer = e; left = rw (← e) f }
