-- Parts of vectors: what holds of each part of every vector is kept by a join, by a raise and by a write under a name; and a
-- thread's version never falls. Assumes nothing.
--     Fit                  a list of five such parts
--     joined-fit, raised-fit, zeros-fit, set-fit         its laws
--     Since                vectors of such parts, where versions have come at least so far
--     put, join-into       a write under a name, one vector into another of its kind
--     now, lowered         the versions that there are, and less
--     eased                less is asked of each part
use Prim.Native.Nat.{ℕ, ◌+◌, ◌≤◌, ◌<◌, max}
use mathlib.Core.List.{List, []}
use mathlib.Core.Bool.{Bool, true, false}
use mathlib.Core.Path.{◌≡◌, refl, ap, sym, subst, ◌∙◌}
use mathlib.Core.Logic.{◌≢◌, ◌⊎◌, inl, inr}
use native.Mathlib.Omega.{arith}
use native.Mathlib.Decide.{ℕ_discrete}
use lib.Dec.{ltb}
use lib.ListN.{length, get_or, set, length-set, length-replicate, get_or-replicate}
use lib.Seq.{get_or-set_same, get_or-set_other}
use borrow.Author.Tests.{ltb-true, ltb-false}
use Rattle.rules.specs.Vector.{joined, raised, zeros, largest}
use Rattle.rules.specs.State.{Clocks, Vector, vector, with_vector, vector_at, vectors_held, threads, causality}
use Rattle.rules.specs.Cell.{version, join_into}
use Rattle.rules.proofs.StateLaws.{InVectors, vector_at-apart, vector_at-within, vector-same, vector-other, vector-kept}
use Rattle.rules.proofs.VectorLaws.{joined-part, length-joined, length-raised, raised-other, raised-own}
use Rattle.bounds.specs.Bounds.{Counter, counter_of, Vectors}

pub flag : (b : Bool) → (b ≡ true) ⊎ (b ≡ false)
flag true = inl refl
flag false = inr refl

-- what holds of two numbers holds of the greater
of-max : (Q : ℕ → Type 0) (x y : ℕ) → Q x → Q y → Q (max x y)
of-max Q x y f g =
    elim (flag (ltb x y)) [
      | inl e ↦ let m : max x y ≡ y = omega (arith, ltb-true x y e) in rw m g
      | inr e ↦ let m : max x y ≡ x = omega (arith, ltb-false x y e) in rw m f
    ]

-- five parts of which each is so
pub record Fit (Q : ℕ → ℕ → Type 0) (xs : List ℕ) : Type 0 where
  pub five : length xs ≡ threads
  pub each : (u : ℕ) → u < threads → Q u (get_or xs u 0)

module _ (Q : ℕ → ℕ → Type 0) where
  pub joined-fit : (xs ys : List ℕ) → Fit Q xs → Fit Q ys → Fit Q (joined xs ys)
  joined-fit xs ys f g = record {
    five = omega (arith, length-joined xs ys, f.five, g.five);
    each = λ u h. rw (joined-part xs ys u) (of-max (Q u) (get_or xs u 0) (get_or ys u 0) (f.each u h) (g.each u h));
  }

  pub set-fit : (xs : List ℕ) (t x : ℕ) → Fit Q xs → Q t x → Fit Q (set xs t x)
  set-fit xs t x f q = record {
    five = length-set xs t x ∙ f.five;
    each = λ u h. elim (ℕ_discrete u t) [
      | yes e ↦ rw (e, get_or-set_same xs t x 0 (omega (arith, f.five))) q
      | no d ↦ rw (get_or-set_other xs t u x 0 d) (f.each u h)
    ];
  }

  pub zeros-fit : ((u : ℕ) → u < threads → Q u 0) → Fit Q (zeros threads)
  zeros-fit f = record {
    five = length-replicate {A = ℕ} threads 0;
    each = λ u h. rw (get_or-replicate {A = ℕ} threads u 0 0 h) (f u h);
  }

-- what is said of a vector after a write under the name v
after : (clocks : Clocks) (v w : Vector) (parts : List ℕ) → length clocks ≡ vectors_held → InVectors v → InVectors w →
    (R : Vector → List ℕ → Type 0) → R v parts → R w (vector clocks w) → R w (vector (with_vector clocks v parts) w)
after clocks v w parts l h k R f g =
    elim (ℕ_discrete (vector_at w) (vector_at v)) [
      | yes e ↦ rw (vector_at-apart w v k h e, vector-same clocks v parts (omega (arith, vector_at-within v h))) f
      | no d ↦ rw (vector-other clocks v w parts d) g
    ]

-- vectors whose parts are so, where each thread's version has come at least so far
pub record Since (P : Counter → ℕ → ℕ → Type 0) (least : ℕ → ℕ) (clocks : Clocks) : Type 0 where
  pub vectors : Vectors P clocks
  pub since : (u : ℕ) → u < threads → least u ≤ version clocks u

module _ {P : Counter → ℕ → ℕ → Type 0} {least : ℕ → ℕ} where
  pub fit_of : (clocks : Clocks) (v : Vector) → InVectors v → Since P least clocks → Fit (P (counter_of v)) (vector clocks v)
  fit_of clocks v h s = record { five = s.vectors.five v h; each = s.vectors.parts v h }

  pub put : (clocks : Clocks) (v : Vector) (parts : List ℕ) → InVectors v → Since P least clocks → Fit (P (counter_of v)) parts →
      ((u : ℕ) → u < threads → vector_at (causality u) ≡ vector_at v → least u ≤ get_or parts u 0) → Since P least
      (with_vector clocks v parts)
  put clocks v parts h s f g =
      let l = s.vectors.held in
      record {
        vectors = record {
          held = vector-kept clocks v parts ∙ l;
          five = λ w k. after clocks v w parts l h k (λ (x : Vector) (xs : List ℕ). length xs ≡ threads) f.five
              (s.vectors.five w k);
          parts = λ w k u b.
              after clocks v w parts l h k (λ (x : Vector) (xs : List ℕ). P (counter_of x) u (get_or xs u 0)) (f.each u b)
              (s.vectors.parts w k u b);
        };
        since = λ u b. elim (ℕ_discrete (vector_at (causality u)) (vector_at v)) [
          | yes e ↦ rw (e, vector-same clocks v parts (omega (arith, vector_at-within v h))) (g u b e)
          | no d ↦ rw (vector-other clocks v (causality u) parts d) (s.since u b)
        ];
      }

  -- one vector takes in another of its kind
  pub join-into : (clocks : Clocks) (v w : Vector) → InVectors v → InVectors w → counter_of w ≡ counter_of v → Since P least clocks →
      Since P least (join_into clocks v w)
  join-into clocks v w h k e s =
      put clocks v _ h s
      (joined-fit (P (counter_of v)) _ _ (fit_of clocks v h s) (subst (λ (x : Counter). Fit (P x) (vector clocks w)) e
      (fit_of clocks w k s)))
      (λ u b q.
      let same : vector clocks v ≡ vector clocks (causality u) = ap (λ (i : ℕ). get_or clocks i []) (sym q) in
      omega (arith, joined-part (vector clocks v) (vector clocks w) u, s.since u b, ap (λ (xs : List ℕ). get_or xs u 0) same))

-- the versions that there are
pub now : {P : Counter → ℕ → ℕ → Type 0} {least : ℕ → ℕ} (clocks : Clocks) → Since P least clocks → Since P (version clocks) clocks
now clocks s = record { vectors = s.vectors; since = λ u b. omega arith }

-- less is asked of each part, and of the versions
pub eased : {P Q : Counter → ℕ → ℕ → Type 0} (clocks : Clocks) → ((k : Counter) (u x : ℕ) → u < threads → P k u x → Q k u x) →
    Vectors P clocks → Vectors Q clocks
eased clocks f s = record { held = s.held; five = s.five; parts = λ v h u b. f (counter_of v) u _ b (s.parts v h u b) }

pub lowered : {P : Counter → ℕ → ℕ → Type 0} {least less : ℕ → ℕ} (clocks : Clocks) → ((u : ℕ) → u < threads → less u ≤ least u) →
    Since P least clocks → Since P less clocks
lowered clocks f s = record { vectors = s.vectors; since = λ u b. omega (arith, f u b, s.since u b) }

-- a thread's own part of a vector, by one: where it is below the largest number it is not held back
pub raised-fit : {Q R : ℕ → ℕ → Type 0} (xs : List ℕ) (t : ℕ) → t < threads → Fit Q xs → get_or xs t 0 < largest →
    ((u x : ℕ) → u < threads → u ≢ t → Q u x → R u x) → R t (get_or xs t 0 + 1) → Fit R (raised xs t)
raised-fit xs t b f l g r = record {
  five = length-raised xs t ∙ f.five;
  each = λ u h. elim (ℕ_discrete u t) [
    | yes e ↦ rw (e, raised-own xs t (omega (arith, f.five)) l) r
    | no d ↦ rw (raised-other xs t u d) (g u _ h d (f.each u h))
  ];
}
