-- A scan of a cell's stores. Assumes nothing.
--     less-irrefl, less-trans      `less` is a strict order, over vectors of any length
--     dropped-by                   a store that is dropped has been below one that drops it
--     kept-below                   a store that is kept is below none that would drop it
--     judged-at                    what is offered is what is kept, where no equal orders were met
--     some-top                     among finitely many stores one is below no other
use Prim.Native.Nat.{ℕ, zero, suc, ◌+◌, ◌≤◌, ◌<◌}
use mathlib.Core.List.{List, [], ◌∷◌}
use mathlib.Core.Bool.{Bool, true, false, ◌&&◌, true≢false, false≢true}
use mathlib.Core.Path.{◌≡◌, refl, ap, sym, ◌∙◌}
use native.Mathlib.Omega.{arith}
use lib.Dec.{eqb}
use lib.ListN.{length, get_or}
use borrow.Author.Tests.{eqb-true, eqb-false}
use Rattle.rules.specs.Vector as Vectors
use Rattle.rules.specs.Vector.{less}
use Rattle.rules.proofs.VectorLaws.{at_most-trans, at_most-antisym, less-true, less-made}
use Rattle.rules.specs.Event as Event
use Rattle.rules.specs.Event.{Matched, offers}
use Rattle.rules.specs.State.{Clocks}
use Rattle.rules.specs.Cell.{order_of, Fate, kept, dropped, equal_met, fate_from, by_fate, matched_from}
use Rattle.offers.specs.Offered.{Below}

-- Less

pub less-irrefl : (xs : List ℕ) → less xs xs ≡ true → ⊥
less-irrefl xs p = (less-true xs xs p).1 refl

pub less-trans : (xs ys zs : List ℕ) → less xs ys ≡ true → less ys zs ≡ true → less xs zs ≡ true
less-trans xs ys zs p q =
    let h = less-true xs ys p in
    let k = less-true ys zs q in
    less-made xs zs (at_most-trans xs ys zs h.0 k.0)
    (λ e. h.1 (at_most-antisym xs ys h.0 (rw (← e) at k.0)))

-- A store's fate

both : (a b : Bool) → (a && b) ≡ true → (a ≡ true) × (b ≡ true)
both true true e = (refl, refl)
both true false e = absurd (false≢true e)
both false b e = absurd (false≢true e)

-- what stands at the front of a scan: the store itself, one with an equal order, one that drops it, or none of these
abbrev front : Bool → Bool → Bool → Fate → Fate
front true same drop rest = rest
front false true drop rest = equal_met
front false false true rest = dropped
front false false false rest = rest

by_tests : (own same drop : Bool) (rest : Fate) →
    elim own [ true ↦ rest | false ↦ elim same [ true ↦ equal_met | false ↦ elim drop [ true ↦ dropped | false ↦ rest ] ] ]
    ≡ front own same drop rest
by_tests true same drop rest = refl
by_tests false true drop rest = refl
by_tests false false true rest = refl
by_tests false false false rest = refl

module _ (clocks : Clocks) (c i : ℕ) (drops : ℕ → Bool) where
  -- a store j that drops i
  abbrev pub Drops : ℕ → Type 0
  Drops j = Below clocks c i j × (drops j ≡ true)

  abbrev pub DropsFrom : ℕ → ℕ → Type 0
  DropsFrom n j = (k : ℕ) × (j ≤ k) × (k < j + n) × Drops k

  further : (n j : ℕ) → DropsFrom n (j + 1) → DropsFrom (suc n) j
  further n j (k, a, b, d) = (k, omega arith, omega arith, d)

  abbrev test : ℕ → Bool
  test j = less (order_of clocks c i) (order_of clocks c j) && drops j

  abbrev rest : ℕ → ℕ → Fate
  rest n j = fate_from clocks c i drops n (j + 1)

  scan-front : (n j : ℕ) → fate_from clocks c i drops (suc n) j
      ≡ front (eqb j i) (Vectors.equal (order_of clocks c i) (order_of clocks c j)) (test j) (rest n j)
  unfolding fate_from
  scan-front n j = by_tests (eqb j i) (Vectors.equal (order_of clocks c i) (order_of clocks c j)) (test j) (rest n j)

  dropped-front : (n j : ℕ) (own same drop : Bool) → test j ≡ drop → front own same drop (rest n j) ≡ dropped →
      (rest n j ≡ dropped → DropsFrom n (j + 1)) → DropsFrom (suc n) j
  dropped-front n j true same drop t f go = further n j (go f)
  dropped-front n j false true drop t f go = let z : ◌≡◌ {A = ℕ} 0 1 = cc in absurd (omega arith)
  dropped-front n j false false true t f go =
      (j, omega arith, omega arith, both (less (order_of clocks c i) (order_of clocks c j)) (drops j) t)
  dropped-front n j false false false t f go = further n j (go f)

  pub dropped-by : (n j : ℕ) → fate_from clocks c i drops n j ≡ dropped → DropsFrom n j
  unfolding fate_from
  dropped-by zero j e = let z : ◌≡◌ {A = ℕ} 0 1 = cc in absurd (omega arith)
  dropped-by (suc n) j e =
      dropped-front n j (eqb j i) (Vectors.equal (order_of clocks c i) (order_of clocks c j)) (test j) refl
      (sym (scan-front n j) ∙ e)
      (λ f. dropped-by n (j + 1) f)

  test-true : (j k : ℕ) → Drops k → j ≡ k → test j ≡ true
  test-true j k d h = rw (h, d.0, d.1)

  -- the store that drops it stands further on
  kept-front : (n j k : ℕ) → Drops k → (own : Bool) → eqb j i ≡ own → (same drop : Bool) → test j ≡ drop →
      front own same drop (rest n j) ≡ kept → ((j ≡ k → ⊥) → rest n j ≡ kept → ⊥) → ⊥
  kept-front n j k d true o same drop t f go =
      let g : j ≡ i = eqb-true j i o in
      go (λ h. less-irrefl (order_of clocks c i) (let z : k ≡ i = sym h ∙ g in rw z at d.0)) f
  kept-front n j k d false o true drop t f go = let z : ◌≡◌ {A = ℕ} 0 1 = cc in omega arith
  kept-front n j k d false o false true t f go = let z : ◌≡◌ {A = ℕ} 0 1 = cc in omega arith
  kept-front n j k d false o false false t f go = go (λ h. true≢false (sym (test-true j k d h) ∙ t)) f

  pub kept-below : (n j : ℕ) → fate_from clocks c i drops n j ≡ kept → DropsFrom n j → ⊥
  kept-below zero j e (k, a, b, d) = omega arith
  kept-below (suc n) j e (k, a, b, d) =
      kept-front n j k d (eqb j i) refl (Vectors.equal (order_of clocks c i) (order_of clocks c j)) (test j) refl
      (sym (scan-front n j) ∙ e)
      (λ m f. kept-below n (j + 1) f (k, omega arith, omega arith, d))

-- What is offered

-- by a store's fate: equal orders are met nowhere
abbrev pub Judged : Fate → Bool → Type 0
Judged kept b = b ≡ true
Judged dropped b = b ≡ false
Judged equal_met b = ⊥

-- one store more
one-more : (f : Fate) (m : Matched) (os : List Bool) → by_fate f m ≡ offers os →
    (b : Bool) × (more : List Bool) × (os ≡ b ∷ more) × (m ≡ offers more) × Judged f b
one-more kept (offers more) os e = (true, more, cc, refl, refl)
one-more kept Event.equal os e = let z : ◌≡◌ {A = ℕ} 0 1 = cc in absurd (omega arith)
one-more dropped (offers more) os e = (false, more, cc, refl, refl)
one-more dropped Event.equal os e = let z : ◌≡◌ {A = ℕ} 0 1 = cc in absurd (omega arith)
one-more equal_met m os e = let z : ◌≡◌ {A = ℕ} 0 1 = cc in absurd (omega arith)

module _ (fate : ℕ → Fate) where
  pub judged-length : (n i : ℕ) (os : List Bool) → matched_from fate n i ≡ offers os → length os ≡ n
  unfolding matched_from
  judged-length zero i os e = let z : os ≡ [] = cc in rw z
  judged-length (suc n) i os e =
      let h = one-more (fate i) (matched_from fate n (i + 1)) os e in
      let k = judged-length n (i + 1) h.1 h.3 in
      rw h.2 (ap suc k)

  pub judged-at : (n i : ℕ) (os : List Bool) → matched_from fate n i ≡ offers os → (k : ℕ) → k < n →
      Judged (fate (i + k)) (get_or os k false)
  unfolding matched_from
  judged-at zero i os e k b = absurd (omega arith)
  judged-at (suc n) i os e zero b =
      let h = one-more (fate i) (matched_from fate n (i + 1)) os e in
      let z : i + 0 ≡ i = omega arith in
      rw (z, h.2) h.4
  judged-at (suc n) i os e (suc k) b =
      let h = one-more (fate i) (matched_from fate n (i + 1)) os e in
      let z : i + suc k ≡ i + 1 + k = omega arith in
      rw (z, h.2) (judged-at n (i + 1) h.1 h.3 k (omega arith))

-- A store that is below no other

-- of the first n stores
abbrev pub Top : Clocks → ℕ → ℕ → ℕ → Type 0
Top clocks c n i = (i < n) × ((j : ℕ) → j < n → Below clocks c i j → ⊥)

module _ (clocks : Clocks) (c : ℕ) where
  higher : (n : ℕ) → (i : ℕ) × Top clocks c (suc n) i → (i : ℕ) × Top clocks c (suc (suc n)) i
  higher n (i, (b, top)) = go (less (order_of clocks c i) (order_of clocks c (suc n))) refl
    where
      go : (x : Bool) → less (order_of clocks c i) (order_of clocks c (suc n)) ≡ x → (k : ℕ) × Top clocks c (suc (suc n)) k
      go true e = (suc n, (omega arith, λ j h d. beyond j h d (eqb j (suc n)) refl))
        where
          beyond : (j : ℕ) → j < suc (suc n) → Below clocks c (suc n) j → (y : Bool) → eqb j (suc n) ≡ y → ⊥
          beyond j h d true f = less-irrefl (order_of clocks c (suc n)) (rw (eqb-true j (suc n) f) at d)
          beyond j h d false f =
              top j (omega (arith, eqb-false j (suc n) f))
              (less-trans (order_of clocks c i) (order_of clocks c (suc n)) (order_of clocks c j) e d)
      go false e = (i, (omega arith, λ j h d. beyond j h d (eqb j (suc n)) refl))
        where
          beyond : (j : ℕ) → j < suc (suc n) → Below clocks c i j → (y : Bool) → eqb j (suc n) ≡ y → ⊥
          beyond j h d true f = true≢false (sym (rw (eqb-true j (suc n) f) at d) ∙ e)
          beyond j h d false f = top j (omega (arith, eqb-false j (suc n) f)) d

  pub some-top : (n : ℕ) → (i : ℕ) × Top clocks c (suc n) i
  some-top zero = (0, (omega arith, λ j h d. less-irrefl (order_of clocks c 0) (rw (first j h) at d)))
    where
      first : (j : ℕ) → j < 1 → j ≡ 0
      first j h = omega arith
  some-top (suc n) = higher n (some-top n)
