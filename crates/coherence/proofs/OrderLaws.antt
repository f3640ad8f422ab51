-- The laws of modification order, for the functions that join the orders of a cell's stores one after another. Assumes nothing.
--     cohere-..          a load's store takes in the orders of the others that the thread knows
--     store-..           a new store's order takes in those of the stores that its thread has seen
use Prim.Native.Nat.{ℕ, suc, ◌+◌, ◌-◌, ◌≤◌, ◌<◌}
use mathlib.Core.List.{List, []}
use mathlib.Core.Bool.{Bool, true, false, cond}
use mathlib.Core.Path.{◌≡◌, refl, ap, sym, ◌∙◌}
use mathlib.Core.Logic.{◌≢◌}
use native.Mathlib.Omega.{arith}
use lib.ListN.{get_or}
use borrow.Author.Tests.{eq-eqb, ne_eqb}
use Rattle.rules.specs.Vector.{joined, less}
use Rattle.rules.specs.Seen.{seen}
use Rattle.rules.specs.State.{Clocks, Numbers, vector, with_vector, store_at, causality, happens_before, modification_order}
use Rattle.rules.specs.Cell.{coheres, coherent_from, coherent, live_in, live_stores, order_of, seen_by, store_order_from, store_order}

-- An order that is made from slot to slot: `made so n i` is made of `so` by the n slots from i on, `one so i` by slot i alone
module _
    (made : List ℕ → ℕ → ℕ → List ℕ) (one : List ℕ → ℕ → List ℕ)
    (none : (so : List ℕ) (i : ℕ) → made so 0 i ≡ so)
    (some : (so : List ℕ) (n i : ℕ) → made so (suc n) i ≡ made (one so i) n (i + 1))
    (l i : ℕ) (so whole : List ℕ) (left : made so (l - i) i ≡ whole) where
  made_all : l ≤ i → so ≡ whole
  made_all h = let e : l - i ≡ 0 = omega arith in sym (none so i) ∙ (sym (ap (λ (n : ℕ). made so n i) e) ∙ left)

  made-on : i < l → (now : List ℕ) → now ≡ one so i → made now (l - (i + 1)) (i + 1) ≡ whole
  made-on h now f =
      let e : l - i ≡ suc (l - (i + 1)) = omega arith in
      ap (λ (o : List ℕ). made o (l - (i + 1)) (i + 1)) f ∙ (sym (ap (λ (n : ℕ). made so n i) e ∙ some so (l - (i + 1)) i) ∙ left)

-- as many slots as are live
made-start : (made : List ℕ → ℕ → ℕ → List ℕ) (so first : List ℕ) (l live : ℕ) → so ≡ first → l ≡ live → made so (l - 0) 0 ≡ made first live 0
made-start made so first l live e f = let g : l - 0 ≡ live = omega arith in cc

-- Coherence

module _ (clocks : Clocks) (rows : List (List ℕ)) (t c slot : ℕ) where
  abbrev cohering : List ℕ → ℕ → List ℕ
  cohering so i = cond (coheres clocks rows t c slot i) (joined so (order_of clocks c i)) so

  cohere-zero : (so : List ℕ) (i : ℕ) → coherent_from clocks rows t c slot so 0 i ≡ so
  unfolding coherent_from
  cohere-zero so i = refl

  cohere-suc : (so : List ℕ) (n i : ℕ) → coherent_from clocks rows t c slot so (suc n) i ≡ coherent_from clocks rows t c slot (cohering so i) n (i + 1)
  unfolding coherent_from
  cohere-suc so n i = refl

  pub cohere-start : (so : List ℕ) (store l live : ℕ) → store ≡ store_at c slot → so ≡ vector clocks (modification_order store) → l ≡ live →
      coherent_from clocks rows t c slot so (l - 0) 0 ≡ coherent_from clocks rows t c slot (order_of clocks c slot) live 0
  cohere-start so store l live at e f =
      made-start (coherent_from clocks rows t c slot) so (order_of clocks c slot) l live (e ∙ ap (λ (s : ℕ). vector clocks (modification_order s)) at) f

  pub cohere-done : (numbers : Numbers) (store : ℕ) (so : List ℕ) → store ≡ store_at c slot →
      so ≡ coherent_from clocks rows t c slot (order_of clocks c slot) (live_in numbers c) 0 →
      with_vector clocks (modification_order store) so ≡ coherent clocks rows numbers t c slot
  unfolding coherent
  cohere-done numbers store so at e = rw (at, e)

  -- the order so far, with the slots from i to l still to be joined
  module _ (l i : ℕ) (so whole : List ℕ) (left : coherent_from clocks rows t c slot so (l - i) i ≡ whole) where
    pub cohere-all : l ≤ i → so ≡ whole
    cohere-all h = made_all (coherent_from clocks rows t c slot) cohering cohere-zero cohere-suc l i so whole left h

    cohere-on : i < l → (now : List ℕ) → now ≡ cohering so i → coherent_from clocks rows t c slot now (l - (i + 1)) (i + 1) ≡ whole
    cohere-on h now e = made-on (coherent_from clocks rows t c slot) cohering cohere-zero cohere-suc l i so whole left h now e

    module _ (h : i < l) (now : List ℕ) where
      pub cohere-own : i ≡ slot → now ≡ so → coherent_from clocks rows t c slot now (l - (i + 1)) (i + 1) ≡ whole
      cohere-own e f = cohere-on h now (rw (eq-eqb i slot e) f)

      module _ (n : i ≢ slot) (store : ℕ) (at : store ≡ store_at c i) (a : Bool)
          (e : a ≡ seen (get_or rows i []) (vector clocks (causality t))) where
        cohere-with : coheres clocks rows t c slot i ≡ true → now ≡ joined so (vector clocks (modification_order store)) →
            coherent_from clocks rows t c slot now (l - (i + 1)) (i + 1) ≡ whole
        cohere-with g j = cohere-on h now (rw (g, ← at) j)

        -- a store that is seen is not asked whether it happened before
        pub cohere-seen : a ≡ true → now ≡ joined so (vector clocks (modification_order store)) →
            coherent_from clocks rows t c slot now (l - (i + 1)) (i + 1) ≡ whole
        cohere-seen g j = cohere-with (rw (ne_eqb i slot n, ← e, g)) j

        module _ (unseen : a ≡ false) (b : Bool) (f : b ≡ less (vector clocks (happens_before store)) (vector clocks (causality t))) where
          known : (k : Bool) → b ≡ k → coheres clocks rows t c slot i ≡ k
          known k g = rw (ne_eqb i slot n, ← at, ← e, ← f, unseen) g

          pub cohere-before : b ≡ true → now ≡ joined so (vector clocks (modification_order store)) →
              coherent_from clocks rows t c slot now (l - (i + 1)) (i + 1) ≡ whole
          cohere-before g j = cohere-with (known true g) j

          pub cohere-unknown : b ≡ false → now ≡ so → coherent_from clocks rows t c slot now (l - (i + 1)) (i + 1) ≡ whole
          cohere-unknown g j = cohere-on h now (rw (known false g) j)

-- A new store's order

module _ (clocks : Clocks) (rows : List (List ℕ)) (t c : ℕ) where
  abbrev storing : List ℕ → ℕ → List ℕ
  storing so i = cond (seen_by clocks rows t i) (joined so (order_of clocks c i)) so

  store-zero : (so : List ℕ) (i : ℕ) → store_order_from clocks rows t c so 0 i ≡ so
  unfolding store_order_from
  store-zero so i = refl

  store-suc : (so : List ℕ) (n i : ℕ) → store_order_from clocks rows t c so (suc n) i ≡ store_order_from clocks rows t c (storing so i) n (i + 1)
  unfolding store_order_from
  store-suc so n i = refl

  pub store-start : (l count : ℕ) → l ≡ live_stores count →
      store_order_from clocks rows t c (vector clocks (causality t)) (l - 0) 0 ≡ store_order clocks rows count t c
  unfolding store_order
  store-start l count e =
      made-start (store_order_from clocks rows t c) (vector clocks (causality t)) (vector clocks (causality t)) l (live_stores count) refl e

  -- the order so far, with the slots from i to l still to be joined
  module _ (l i : ℕ) (so whole : List ℕ) (left : store_order_from clocks rows t c so (l - i) i ≡ whole) where
    pub store-all : l ≤ i → so ≡ whole
    store-all h = made_all (store_order_from clocks rows t c) storing store-zero store-suc l i so whole left h

    module _ (h : i < l) (now : List ℕ) (a : Bool) (e : a ≡ seen (get_or rows i []) (vector clocks (causality t))) where
      store-on : (k : Bool) → a ≡ k → now ≡ cond k (joined so (order_of clocks c i)) so → store_order_from clocks rows t c now (l - (i + 1)) (i + 1) ≡ whole
      store-on k g f = made-on (store_order_from clocks rows t c) storing store-zero store-suc l i so whole left h now (rw (← e, g) f)

      pub store-seen : a ≡ true → (store : ℕ) → store ≡ store_at c i → now ≡ joined so (vector clocks (modification_order store)) →
          store_order_from clocks rows t c now (l - (i + 1)) (i + 1) ≡ whole
      store-seen g store at f = store-on true g (rw (← at) f)

      pub store-unseen : a ≡ false → now ≡ so → store_order_from clocks rows t c now (l - (i + 1)) (i + 1) ≡ whole
      store-unseen g f = store-on false g f
