-- The laws of what is held: a place that is read or written, a store, a step, the steps one after the other. Assumes nothing.
--     both, not_first, not-second           the tests of a place that is named by two numbers
--     reads, reads_none, puts               a place, and one that there is not
--     stored_at, over-at                    a store, and one that writes over the newest
--     start-on, start-all                   the cells that take their start values
--     left-from, jump-from                  a change of what a register was put into, a jump on one
--     taken_none, taken_made                a step
--     after_on, after-all                   the walk along the steps
use Prim.Native.Nat.{ℕ, zero, suc, ◌+◌, ◌*◌, ◌≤◌, ◌<◌}
use mathlib.Core.Bool.{true, false, cond, ◌&&◌}
use mathlib.Core.List.{List}
use mathlib.Core.Path.{◌≡◌, ap, ◌∙◌}
use native.Mathlib.Omega.{arith}
use native.Mathlib.Numerals.{add-one}
use lib.Dec.{ltb, eqb}
use lib.ListN.{get_or, set, replicate}
use borrow.Author.Tests.{lt-ltb, le-ltb}
use Rattle.layout.specs.Slots.{Next, Newest}
use Rattle.rules.specs.Change.{Change, Changed, applied}
use Rattle.rules.specs.Table.{Op, refused, decoded, start_value}
use Rattle.rules.specs.Vector.{one_more}
use Rattle.steps.specs.Entries.{entry_read, operation_at}
use Rattle.steps.specs.Holds.{HeldPlace, register, next_row, is_place, held_place_of, held, with_held, store_held, written_over, start_stored, held_at_start, acted, next_of, step_taken, held_after}

module _ (a b m n : ℕ) where
  pub both : a < m → b < n → ltb a m && ltb b n ≡ true
  both p q = rw (lt-ltb a m p, lt-ltb b n q)

  pub not_first : m ≤ a → ltb a m && ltb b n ≡ false
  not_first p = rw (le-ltb a m p)

  pub not-second : a < m → n ≤ b → ltb a m && ltb b n ≡ false
  not-second p q = rw (lt-ltb a m p, le-ltb b n q)

module _ (h : List ℕ) (p : HeldPlace) where
  pub reads : {at : ℕ} → at ≡ held_place_of p → is_place p ≡ true → get_or h at 0 ≡ held h p
  unfolding held
  reads e is = rw (is, e)

  pub reads_none : is_place p ≡ false → 0 ≡ held h p
  unfolding held
  reads_none is = rw is

  pub puts : {at : ℕ} (v : ℕ) → at ≡ held_place_of p → is_place p ≡ true → set h at v ≡ with_held h p v
  unfolding with_held
  puts v e is = rw (is, e)

module _ (h : List ℕ) (c v step : ℕ) (l : c < 4) {at slot : ℕ} (e : at ≡ 7 * c + slot) where
  pub stored_at : Next (get_or h (28 + c) 0) slot → {n : ℕ} → n ≡ one_more (get_or h (28 + c) 0) →
      set (set (set h at step) (28 + c) n) (32 + c) v ≡ store_held h c v step
  unfolding store_held held with_held
  stored_at s m = rw (e, s.is, lt-ltb c 4 l, lt-ltb _ 7 (rw s.is at s.within), m)

  pub over-at : Newest (get_or h (28 + c) 0) slot → set (set h at step) (32 + c) v ≡ written_over h c v step
  unfolding written_over held with_held
  over-at s = rw (e, s.is, lt-ltb c 4 l, lt-ltb _ 7 (rw s.is at s.within))

-- the first cells take their start values, one after the other
unfoldable pub cells_started : List ℕ → ℕ → List ℕ
cells_started table zero = replicate 65 0
cells_started table (suc c) = start_stored table c (cells_started table c)

module _ (table : List ℕ) (c : ℕ) where
  pub start-on : {v : ℕ} {h out : List ℕ} → v ≡ start_value table c → h ≡ cells_started table c → out ≡ store_held h c v 0 →
      out ≡ cells_started table (c + 1)
  unfolding cells_started
  start-on p q o = rw (add-one, ← p, ← q) o

  pub start-all : {h : List ℕ} → 4 ≤ c → c ≤ 4 → h ≡ cells_started table c → h ≡ held_at_start table
  unfolding cells_started held_at_start
  start-all p q e = let n : c ≡ 4 = omega arith in rw n at e

-- a change of what a register was put into
pub left-from : (left : List ℕ → ℕ → ℕ → Changed → List ℕ) (h : List ℕ) (t r c step : ℕ) (change : Change) {x out : List ℕ} {v w : ℕ} →
    v ≡ w → x ≡ with_held h (register t r) v → out ≡ left x c step (applied change v) →
    out ≡ left (with_held h (register t r) w) c step (applied change w)
left-from left h t r c step change e f o = rw (← e, ← f) o

-- a jump on a register that was read
pub jump-from : {x y next : ℕ} (a then other : ℕ) → x ≡ y → next ≡ cond (eqb x a) then other → next ≡ cond (eqb y a) then other
jump-from a then other e o = rw (← e) o

module _ (table trace : List ℕ) (i : ℕ) (h : List ℕ) where
  pub taken_none : operation_at table trace i ≡ refused → h ≡ step_taken table trace i h
  unfolding step_taken
  taken_none p = rw p

  pub taken_made : {op : Op} {t k v next : ℕ} {went out : List ℕ} → operation_at table trace i ≡ decoded op →
      t ≡ (entry_read trace i).thread → k ≡ (entry_read trace i).row → v ≡ (entry_read trace i).value → next ≡ next_of h t k op →
      went ≡ with_held h (next_row t) next → out ≡ acted went t v (i + 1) op → out ≡ step_taken table trace i h
  unfolding step_taken
  taken_made p e f g n w o = rw (p, ← e, ← f, ← g, ← n, ← w) o

  pub after_on : {x : List ℕ} → h ≡ held_after table trace i → x ≡ step_taken table trace i h → x ≡ held_after table trace (i + 1)
  unfolding held_after
  after_on e o = rw (add-one, ← e) o

  pub after-all : {n : ℕ} → h ≡ held_after table trace i → i ≤ n → n ≤ i → h ≡ held_after table trace n
  after-all {n} e p q = e ∙ ap (λ (k : ℕ). held_after table trace k) (omega arith)
