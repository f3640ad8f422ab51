-- The walk to the next comparison, a comparison's fields, and when a condition can be written. Assumes nothing.
--     next-all, next-on, next-found, next-none      the walk
--     part_none, part-some                          no comparison has room there, or one has
--     claim-is, claim-many, claim-none              the line of a condition, and nothing where there is none
use Prim.Native.Nat.{ℕ, ◌+◌, ◌-◌, ◌≤◌, ◌<◌}
use mathlib.Core.List.{List, []}
use Rattle.std.specs.Prelude.{Option, Some, None}
use mathlib.Core.Bool.{Bool, true, false, not}
use mathlib.Core.Path.{◌≡◌, refl, ap}
use native.Mathlib.Omega.{arith}
use borrow.Author.Tests.{le-leb, lt-leb, lt-ltb, le-ltb}
use lib.ListN.{length, get_or}
use Rattle.rules.specs.Table.{u64_at, first_not}
use Rattle.rules.specs.Condition.{is_sign, compared, is_condition}
use Rattle.rules.specs.Writer.{condition_shown}
use Rattle.table.proofs.Walks.{first_on, first_found}
use Rattle.put.specs.Puts.{Puts}
use Rattle.put.proofs.PutLaws.{puts_none}
use Rattle.steps.specs.Holds.{held, register}
use Rattle.unmet.specs.declared.Part.{Part}
use Rattle.unmet.specs.Parts.{is_other, one_below, next_from, part_at, claim_shown}

-- what is left to be found from place i on
abbrev pub next_left : List ℕ → ℕ → Option ℕ
next_left bs i = one_below (length bs) (first_not (is_other bs) (length bs - i) i)

module _ (bs : List ℕ) (i : ℕ) where
  pub next-all : next_left bs i ≡ next_from bs i
  unfolding next_from
  next-all = refl

  pub next-on : i < length bs → is_sign (get_or bs i 0) ≡ false → next_left bs (i + 1) ≡ next_left bs i
  next-on h e = ap (one_below (length bs)) (first_on (is_other bs) (length bs) i h (ap not e))

  pub next-found : i < length bs → is_sign (get_or bs i 0) ≡ true → next_left bs i ≡ Some i
  next-found h e = rw (first_found (is_other bs) (length bs) i h (ap not e), lt-ltb i (length bs) h)

  pub next-none : length bs ≤ i → next_left bs i ≡ None
  unfolding first_not
  next-none h = let e : length bs - i ≡ 0 = omega arith in rw (e, le-ltb i (length bs) h)

module _ (bs h : List ℕ) (at : ℕ) where
  pub part_none : length bs < at + 11 → None ≡ part_at bs h at
  unfolding part_at
  part_none k = rw (lt-leb (at + 11) (length bs) k)

  abbrev made : ℕ → ℕ → ℕ → ℕ → ℕ → Bool → Part
  made sign thread r number value holds = record { sign = sign; thread = thread; register = r; number = number; value = value; holds = holds }

  pub part-some : at + 11 ≤ length bs → (number k value : ℕ) (holds : Bool) →
      number ≡ u64_at bs (at + 3) → k ≡ get_or bs (at + 2) 0 → value ≡ held h (register (get_or bs (at + 1) 0) k) →
      holds ≡ compared (get_or bs at 0) value number →
      Some (made (get_or bs at 0) (get_or bs (at + 1) 0) (get_or bs (at + 2) 0) number value holds) ≡ part_at bs h at
  unfolding part_at
  part-some room number k value holds n r v t = rw (le-leb (at + 11) (length bs) room, t, v, n, r)

module _ (threads : ℕ) (bs : List ℕ) where
  pub claim-is : threads ≤ 10 → is_condition threads bs ≡ true → condition_shown bs ≡ claim_shown threads bs
  unfolding claim_shown
  claim-is h e = rw (le-leb threads 10 h, e)

  claim-not : threads ≤ 10 → is_condition threads bs ≡ false → [] ≡ claim_shown threads bs
  unfolding claim_shown
  claim-not h e = rw (le-leb threads 10 h, e)

  claim-past : 10 < threads → [] ≡ claim_shown threads bs
  unfolding claim_shown
  claim-past h = rw (lt-leb threads 10 h)

  module _ (text : List ℕ) (at : ℕ) (fits : at ≤ 18446744073709551615) where
    nothing : [] ≡ claim_shown threads bs → Puts text text at (claim_shown threads bs) at
    nothing e = rw e at (puts_none text at fits)

    pub claim-none : threads ≤ 10 → is_condition threads bs ≡ false → Puts text text at (claim_shown threads bs) at
    claim-none h e = nothing (claim-not h e)

    pub claim-many : 10 < threads → Puts text text at (claim_shown threads bs) at
    claim-many h = nothing (claim-past h)
