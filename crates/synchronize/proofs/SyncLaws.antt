-- The laws of synchronisation, for the functions that test an order by its number. Over all clocks. Assumes nothing.
--     load-joins, load-alone       what a load leaves the thread, by whether its order acquires
--     store-joins, store-alone     what a store leaves for loads, by whether its order releases
use Prim.Native.Nat.{ℕ, ◌≤◌, ◌<◌}
use mathlib.Core.List.{List}
use mathlib.Core.Bool.{true, false, ◌||◌}
use mathlib.Core.Path.{◌≡◌}
use mathlib.Core.Logic.{◌≢◌, ◌⊎◌, ⊎_elim}
use native.Mathlib.Omega.{arith}
use lib.Dec.{eqb}
use borrow.Author.Tests.{eq-eqb, ne_eqb, eqb-false}
use Rattle.rules.specs.Vector.{joined}
use Rattle.rules.specs.State.{Clocks, vector, causality, released, sync}
use Rattle.rules.specs.Cell.{acquires, releases, join_into, load_synced, store_synced}
use Rattle.synchronize.proofs.SeenLaws.{flag}

module _ (o : ℕ) where
  -- both lists of orders end in 3 and 4
  upper : 3 ≤ o → o < 5 → (acquires o ≡ true) × (releases o ≡ true)
  upper h k =
      ⊎_elim
      (λ e. (rw (ne_eqb o 2 (λ f. omega arith), e), rw (ne_eqb o 1 (λ f. omega arith), e)))
      (λ e. let four = eq-eqb o 4 (omega (arith, eqb-false o 3 e)) in (rw (ne_eqb o 2 (λ f. omega arith), e, four), rw (ne_eqb o 1 (λ f. omega arith), e, four)))
      (flag (eqb o 3))

  acquiring : 2 ≤ o → o < 5 → acquires o ≡ true
  acquiring h k = ⊎_elim (λ e. rw e) (λ e. (upper (omega (arith, eqb-false o 2 e)) k).0) (flag (eqb o 2))

  releasing : (o ≡ 1) ⊎ ((3 ≤ o) × (o < 5)) → releases o ≡ true
  releasing h = ⊎_elim (λ e. rw (eq-eqb o 1 e)) (λ e. (upper e.0 e.1).1) h

  -- neither 3 nor 4, nor the order that stands before them
  neither : (b : ℕ) → o ≢ b → o ≢ 3 → o ≢ 4 → eqb o b || eqb o 3 || eqb o 4 ≡ false
  neither b m n k = rw (ne_eqb o b m, ne_eqb o 3 n, ne_eqb o 4 k)

module _ (clocks : Clocks) (t store o : ℕ) where
  pub load-joins : 2 ≤ o → o < 5 → (at : ℕ) → at ≡ store → (left : Clocks) → left ≡ join_into clocks (causality t) (sync at) →
      left ≡ load_synced clocks t store o
  unfolding load_synced
  load-joins h k at f left e = rw (acquiring o h k, ← f) e

  pub load-alone : (o < 2) ⊎ (5 ≤ o) → clocks ≡ load_synced clocks t store o
  unfolding load_synced
  load-alone h =
      ⊎_elim
      (λ l. rw (neither o 2 (λ e. omega arith) (λ e. omega arith) (λ e. omega arith)))
      (λ l. rw (neither o 2 (λ e. omega arith) (λ e. omega arith) (λ e. omega arith)))
      h

module _ (clocks : Clocks) (t o : ℕ) (from first : List ℕ) (e : first ≡ joined from (vector clocks (released t))) where
  pub store-joins : (o ≡ 1) ⊎ ((3 ≤ o) × (o < 5)) → (left : List ℕ) → left ≡ joined first (vector clocks (causality t)) →
      left ≡ store_synced clocks t from o
  unfolding store_synced
  store-joins h left f = rw (releasing o h, ← e) f

  pub store-alone : o ≢ 1 → (o < 3) ⊎ (5 ≤ o) → first ≡ store_synced clocks t from o
  unfolding store_synced
  store-alone n h =
      ⊎_elim
      (λ l. rw (neither o 1 n (λ e. omega arith) (λ e. omega arith)) e)
      (λ l. rw (neither o 1 n (λ e. omega arith) (λ e. omega arith)) e)
      h
