-- The laws of which stores are offered, for the functions that scan a cell's stores. Assumes nothing.
--     compared-told, all-seq-cst      two stores, as they were read
--     fate-..                         one store more is met in the scan of a store's fate
--     offer-..                        one store more is offered or not, and written
use Rattle.std.specs.Prelude.{Result, Ok, Err, IsErr}
use Prim.Native.Nat.{ℕ, suc, ◌+◌, ◌-◌, ◌≤◌, ◌<◌}
use mathlib.Core.List.{List, []}
use mathlib.Core.Bool.{Bool, true, false, cond, ◌&&◌, ◌||◌, true≢false}
use mathlib.Core.Path.{◌≡◌, refl, ap, sym, ◌∙◌}
use mathlib.Core.Logic.{◌≢◌, ◌⊎◌, ⊎_elim}
use native.Mathlib.Omega.{arith}
use native.Mathlib.Numerals.{add-one}
use lib.Dec.{eqb}
use lib.ListN.{length, get_or, set}
use lib.Seq.{sets}
use borrow.Author.Tests.{eq-eqb, ne_eqb}
use Rattle.rules.specs.Vector as Vectors
use Rattle.rules.specs.Seen.{seen_before_yield, seen_slots}
use Rattle.rules.specs.State.{Clocks, Numbers, vector, number, store_at, causality, modification_order, is_seq_cst, last_yield}
use Rattle.rules.specs.Cell as rules
use Rattle.rules.specs.Cell.{all_seq_cst, fate_from, load_fate, live_in, matched_from, order_of}
use Rattle.rules.specs.Event as Event
use Rattle.rules.specs.Event.{slots_from}
use Rattle.vv.specs.declared.Ordering.{Ordering}
use Rattle.vv.specs.declared.Ordering.TheVariants as Orders
use Rattle.vv.specs.Compared.{ordering_of}
use Rattle.matches.specs.declared.EqualOrders.{EqualOrders}
use Rattle.matches.specs.Offers.{fate_of, drops, Scan, slots, equal_met, scanned, offered}
use Rattle.synchronize.proofs.SeenLaws.{seen_slots-at}

-- Two stores, as they were read

-- an answer about the two orders that were read is one about those of the stores
pub compared-told : (clocks : Clocks) (c i j first second : ℕ) → first ≡ store_at c i → second ≡ store_at c j → (r : Ordering) →
    r ≡ ordering_of (vector clocks (modification_order first)) (vector clocks (modification_order second)) → r ≡ ordering_of (order_of clocks c i) (order_of clocks c j)
compared-told clocks c i j first second at by r e = rw (← at, ← by) e

pub all-seq-cst : (numbers : Numbers) (c i j o first second : ℕ) → first ≡ store_at c i → second ≡ store_at c j →
    eqb o 4 && eqb (number numbers (is_seq_cst first)) 1 && eqb (number numbers (is_seq_cst second)) 1 ≡ all_seq_cst numbers c i j o
all-seq-cst numbers c i j o first second e f = rw (e, f)

-- A store's fate

-- a store that is not the one judged: the scan ends at it, or goes on with the rest
abbrev met : Ordering → Bool → rules.Fate → rules.Fate
met Orders.Equal drop rest = rules.equal_met
met Orders.Less drop rest = cond drop rules.dropped rest
met Orders.Neither drop rest = rest

-- the same, by the definition's tests
by_tests : (same below drop : Bool) (rest : rules.Fate) →
    met (cond same Orders.Equal (cond below Orders.Less Orders.Neither)) drop rest
    ≡ elim same [ true ↦ rules.equal_met | false ↦ elim (below && drop) [ true ↦ rules.dropped | false ↦ rest ] ]
by_tests true below drop rest = refl
by_tests false true true rest = refl
by_tests false true false rest = refl
by_tests false false drop rest = refl

module _ (clocks : Clocks) (c i : ℕ) (d : ℕ → Bool) (l j : ℕ) where
  fate-here : j < l → fate_from clocks c i d (l - j) j ≡ fate_from clocks c i d (suc (l - (j + 1))) j
  fate-here h = let e : l - j ≡ suc (l - (j + 1)) = omega arith in ap (λ (n : ℕ). fate_from clocks c i d n j) e

  fate-met : j < l → j ≢ i →
      fate_from clocks c i d (l - j) j ≡ met (ordering_of (order_of clocks c i) (order_of clocks c j)) (d j) (fate_from clocks c i d (l - (j + 1)) (j + 1))
  unfolding fate_from
  fate-met h n =
      fate-here h
      ∙ (rw (ne_eqb j i n, fate_from)
      (sym (by_tests (Vectors.equal (order_of clocks c i) (order_of clocks c j)) (Vectors.less (order_of clocks c i) (order_of clocks c j)) (d j) (fate_from clocks c i d (l - (j + 1)) (j + 1)))))

-- the scan, with the stores from j to l still to be met
module _ (clocks : Clocks) (c i : ℕ) (d : ℕ → Bool) (l j : ℕ) (whole : rules.Fate) (left : fate_from clocks c i d (l - j) j ≡ whole) where
  pub fate-none : l ≤ j → rules.kept ≡ whole
  unfolding fate_from
  fate-none h = let e : l - j ≡ 0 = omega arith in sym (ap (λ (n : ℕ). fate_from clocks c i d n j) e) ∙ left

  module _ (h : j < l) where
    pub fate-own : j ≡ i → fate_from clocks c i d (l - (j + 1)) (j + 1) ≡ whole
    unfolding fate_from
    fate-own e = sym (fate-here clocks c i d l j h ∙ rw (eq-eqb j i e, fate_from)) ∙ left

    module _ (n : j ≢ i) (r s : Ordering) (e : r ≡ ordering_of (order_of clocks c i) (order_of clocks c j)) (told : r ≡ s) where
      pub fate-told : met s (d j) (fate_from clocks c i d (l - (j + 1)) (j + 1)) ≡ whole
      fate-told =
          ap (λ (o : Ordering). met o (d j) (fate_from clocks c i d (l - (j + 1)) (j + 1))) (sym told ∙ e)
          ∙ (sym (fate-met clocks c i d l j h n) ∙ left)

    module _ (n : j ≢ i) (r : Ordering) (e : r ≡ ordering_of (order_of clocks c i) (order_of clocks c j)) (told : r ≡ Orders.Less) where
      pub fate-dropped : d j ≡ true → rules.dropped ≡ whole
      fate-dropped f = rw f at (fate-told n r Orders.Less e told)

      pub fate-below : d j ≡ false → fate_from clocks c i d (l - (j + 1)) (j + 1) ≡ whole
      fate-below f = rw f at (fate-told n r Orders.Less e told)

-- the whole scan, with as many stores as are live
pub fate-all : (clocks : Clocks) (c i : ℕ) (d : ℕ → Bool) (l live : ℕ) → l ≡ live → fate_from clocks c i d (l - 0) 0 ≡ fate_from clocks c i d live 0
fate-all clocks c i d l live e = let f : l - 0 ≡ live = omega arith in ap (λ (n : ℕ). fate_from clocks c i d n 0) f

pub drops-some : (a b c : Bool) → (a ≡ true) ⊎ ((b ≡ true) ⊎ (c ≡ true)) → a || b || c ≡ true
drops-some true b c h = refl
drops-some false true c h = refl
drops-some false false true h = refl
drops-some false false false h = ⊎_elim (λ e. e) (λ k. ⊎_elim (λ e. e) (λ e. e) k) h

pub drops-none : (a b c : Bool) → a ≡ false → b ≡ false → c ≡ false → a || b || c ≡ false
drops-none a b c e f g = rw (e, f, g)

-- by which stores are seen, all asked at once
pub fate-load : (clocks : Clocks) (rows : List (List ℕ)) (numbers : Numbers) (t c o i : ℕ) (seen : List Bool) (before_yield : Bool) →
    seen ≡ seen_slots rows (vector clocks (causality t)) →
    before_yield ≡ seen_before_yield (get_or rows i []) t (number numbers (last_yield t)) →
    fate_from clocks c i (drops seen before_yield numbers c o i) (live_in numbers c) 0 ≡ load_fate clocks rows numbers t c o i
unfolding load_fate
fate-load clocks rows numbers t c o i seen before_yield e f =
    let same : (j : ℕ) → drops seen before_yield numbers c o i j ≡ rules.load_drops clocks rows numbers t c o i j =
    λ j. rw (e, f, seen_slots-at rows (vector clocks (causality t)) j) in
    ap (λ (d : ℕ → Bool). fate_from clocks c i d (live_in numbers c) 0) (λ k j. same j k)

-- Offers

-- the n slots written so far, with those offered from slot i on still to be written
abbrev pub offering : List ℕ → ℕ → ℕ → Event.Matched → Scan
offering dst n i (Event.offers os) = slots (n + length (slots_from i os)) (sets dst n (slots_from i os))
offering dst n i Event.equal = equal_met

offer-one : (dst : List ℕ) (n i : ℕ) (m : Event.Matched) → offering dst n i (rules.also_offered true m) ≡ offering (set dst n i) (n + 1) (i + 1) m
unfolding slots_from
offer-one dst n i (Event.offers os) =
    let e : n + suc (length (slots_from (i + 1) os)) ≡ n + 1 + length (slots_from (i + 1) os) = omega arith in rw (e, add-one)
offer-one dst n i Event.equal = refl

offer-not : (dst : List ℕ) (n i : ℕ) (m : Event.Matched) → offering dst n i (rules.also_offered false m) ≡ offering dst n (i + 1) m
unfolding slots_from
offer-not dst n i (Event.offers os) = refl
offer-not dst n i Event.equal = refl

module _ (fate : ℕ → rules.Fate) (l i : ℕ) where
  matched-here : i < l → matched_from fate (l - i) i ≡ rules.by_fate (fate i) (matched_from fate (l - (i + 1)) (i + 1))
  unfolding matched_from
  matched-here h = let e : l - i ≡ suc (l - (i + 1)) = omega arith in ap (λ (n : ℕ). matched_from fate n i) e

  matched-none : l ≤ i → matched_from fate (l - i) i ≡ Event.offers []
  unfolding matched_from
  matched-none h = let e : l - i ≡ 0 = omega arith in ap (λ (n : ℕ). matched_from fate n i) e

-- the offers, with those of the slots from i to l still to be made
module _ (fate : ℕ → rules.Fate) (l i : ℕ) (dst : List ℕ) (n : ℕ) (whole : Scan) (left : offering dst n i (matched_from fate (l - i) i) ≡ whole) where
  pub offer-none : l ≤ i → slots n dst ≡ whole
  unfolding slots_from
  offer-none h =
      let e : n + 0 ≡ n = omega arith in
      sym (ap (λ (k : ℕ). slots k dst) e) ∙ (sym (ap (offering dst n i) (matched-none fate l i h)) ∙ left)

  offer-told : i < l → (f : rules.Fate) → f ≡ fate i → offering dst n i (rules.by_fate f (matched_from fate (l - (i + 1)) (i + 1))) ≡ whole
  offer-told h f e =
      ap (λ (f : rules.Fate). offering dst n i (rules.by_fate f (matched_from fate (l - (i + 1)) (i + 1)))) e
      ∙ (sym (ap (offering dst n i) (matched-here fate l i h)) ∙ left)

  -- the list and the count as they then are
  module _ (h : i < l) (b : Bool) (e : fate_of (Ok b) ≡ fate i) (to : List ℕ) (m : ℕ) where
    pub offer-kept : b ≡ true → to ≡ set dst n i → m ≡ n + 1 → offering to m (i + 1) (matched_from fate (l - (i + 1)) (i + 1)) ≡ whole
    offer-kept told f g = rw (f, g) (sym (offer-one dst n i (matched_from fate (l - (i + 1)) (i + 1))) ∙ offer-told h rules.kept (rw told at e))

    pub offer-dropped : b ≡ false → to ≡ dst → m ≡ n → offering to m (i + 1) (matched_from fate (l - (i + 1)) (i + 1)) ≡ whole
    offer-dropped told f g = rw (f, g) (sym (offer-not dst n i (matched_from fate (l - (i + 1)) (i + 1))) ∙ offer-told h rules.dropped (rw told at e))

  pub offer-equal : i < l → rules.equal_met ≡ fate i → (r : Result ℕ EqualOrders) → IsErr r → scanned r dst ≡ whole
  offer-equal h e (Ok m) up = absurd (true≢false (sym up))
  offer-equal h e (Err equal) up = offer-told h rules.equal_met e

start : (dst : List ℕ) (m : Event.Matched) → offering dst 0 0 m ≡ offered m dst
start dst (Event.offers os) = let e : 0 + length (slots_from 0 os) ≡ length (slots_from 0 os) = omega arith in rw e
start dst Event.equal = refl

-- all offers, with as many stores as are live
pub offer-all : (fate : ℕ → rules.Fate) (dst : List ℕ) (l live : ℕ) → l ≡ live → offering dst 0 0 (matched_from fate (l - 0) 0) ≡ offered (matched_from fate live 0) dst
offer-all fate dst l live e =
    let f : l - 0 ≡ live = omega arith in
    ap (λ (n : ℕ). offering dst 0 0 (matched_from fate n 0)) f ∙ start dst (matched_from fate live 0)
