-- The laws of a new branch's seed. Assumes nothing.
--     seed-first, seed-yield, seed-skip, seed-disabled     what a thread's place in it is
--     seed-at, seed-length                                the seed's places, and how many
use Prim.Native.Nat.{ℕ, zero, suc, ◌<◌}
use mathlib.Core.Bool.{Bool, true, false, cond}
use mathlib.Core.List.{List, map}
use mathlib.Core.Path.{◌≡◌, refl, sym}
use mathlib.Core.Logic.{◌≢◌, ◌⊎◌, inl, inr, ⊎_elim}
use native.Mathlib.Omega.{arith}
use lib.Dec.{eqb}
use Rattle.std.specs.Prelude.{Option, None, Some}
use Rattle.std.specs.Option.{option_eq}
use Rattle.vv.specs.Whom.{whom}
use lib.ListN.{length, get_or, set, length-set}
use lib.Seq.{get_or-set_same, get_or-set_other}
use borrow.Author.Tests.{ne_eqb, eqb-true, eqb-false}
use Rattle.rules.specs.State as names
use Rattle.rules.specs.State.{Numbers, number}
use Rattle.rules.specs.Path.{active, yield, skip, disabled, to_active}
use Rattle.rules.specs.Vector.{Whom, nobody, thread}
use Rattle.rules.specs.Explorer.{seed_state, seed_of}
use Rattle.rules.specs.Machine.{yielded, runnable, standing, every_thread, initial}

pub seed-first : (b : Bool) (x : ℕ) → b ≡ true → active ≡ cond b active x
seed-first b x e = rw e

module _ (b : Bool) (other : b ≡ false) (x : ℕ) (numbers : Numbers) (t : ℕ) (is : x ≡ number numbers (names.state t)) where
  pub seed-yield : x ≡ yielded → yield ≡ cond b active (seed_state (standing numbers t))
  unfolding standing
  seed-yield e = rw (other, ← is, e)

  pub seed-skip : x ≡ runnable → skip ≡ cond b active (seed_state (standing numbers t))
  unfolding standing
  seed-skip e = rw (other, ← is, e)

  pub seed-disabled : x ≢ yielded → x ≢ runnable → disabled ≡ cond b active (seed_state (standing numbers t))
  unfolding standing
  seed-disabled n m = rw (other, ← is, ne_eqb x yielded n, ne_eqb x runnable m)

abbrev states : Numbers → List ℕ
states numbers = map seed_state (map (standing numbers) every_thread)

state-at : (numbers : Numbers) (t : ℕ) → t < 5 → seed_state (standing numbers t) ≡ get_or (states numbers) t 0
state-at numbers zero h = refl
state-at numbers (suc zero) h = refl
state-at numbers (suc (suc zero)) h = refl
state-at numbers (suc (suc (suc zero))) h = refl
state-at numbers (suc (suc (suc (suc zero)))) h = refl
state-at numbers (suc (suc (suc (suc (suc t))))) h = absurd (omega arith)

flag : (b : Bool) → (b ≡ true) ⊎ (b ≡ false)
flag true = inl refl
flag false = inr refl

put-at : (l : List ℕ) (i t x : ℕ) → t < length l → x ≡ get_or l t 0 → cond (eqb i t) active x ≡ get_or (set l i active) t 0
put-at l i t x h e =
    ⊎_elim
    (λ (f : eqb i t ≡ true). rw (f, eqb-true i t f) (sym (get_or-set_same l t active 0 h)))
    (λ (f : eqb i t ≡ false). rw (f, get_or-set_other l i t active 0 (λ g. eqb-false i t f (sym g))) e)
    (flag (eqb i t))

active-at : (first : Option ℕ) (numbers : Numbers) (t : ℕ) → t < 5 → cond (option_eq eqb first (Some t)) active (seed_state (standing numbers t)) ≡ get_or (to_active (whom first) (states numbers)) t 0
active-at None numbers t h = state-at numbers t h
active-at (Some i) numbers t h = put-at (states numbers) i t (seed_state (standing numbers t)) h (state-at numbers t h)

-- the whole seed
abbrev pub seeded : Numbers → List ℕ
seeded numbers = seed_of (initial numbers) (map (standing numbers) every_thread)

pub seed-at : (numbers : Numbers) (first : Option ℕ) (t : ℕ) (b : Bool) → t < 5 → whom first ≡ initial numbers → b ≡ option_eq eqb first (Some t) →
    cond b active (seed_state (standing numbers t)) ≡ get_or (seeded numbers) t 0
unfolding seed_of
seed-at numbers first t b h e f = rw (f, ← e) (active-at first numbers t h)

active-length : (w : Whom) (numbers : Numbers) → length (to_active w (states numbers)) ≡ 5
active-length nobody numbers = refl
active-length (thread i) numbers = length-set (states numbers) i active

pub seed-length : (numbers : Numbers) → length (seeded numbers) ≡ 5
unfolding seed_of
seed-length numbers = active-length (initial numbers) numbers
