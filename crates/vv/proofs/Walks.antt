-- Laws for loops that walk along two vectors: what is left to be asked from place i on. Over every length. Assumes nothing.
--     left-cons, left-none     whatever is asked of two lists, of what is left of them at i
--     at_most-.., equal-.., compared-.., ahead-..    a part that lets the walk go on, and one that ends it
--     join-..                  the parts below i are joined, what is left is still to be
--     raise-..                 the walk comes to the thread, is elsewhere, is past all
--     within, beyond           a place within five parts, and one past them
-- and for a function without a loop: less-told
use Prim.Native.Nat.{ℕ, suc, ◌+◌, ◌≤◌, ◌<◌, max}
use mathlib.Core.List.{List, [], ◌∷◌, ◌++◌, append-nil}
use mathlib.Core.Bool.{Bool, true, false, cond, not, ◌&&◌, true≢false}
use mathlib.Core.Path.{◌≡◌, refl, ap, sym, ◌∙◌}
use mathlib.Core.Logic.{◌≢◌, ◌⊎◌, inl, inr, ⊎_elim}
use lib.Dec.{ltb, eqb}
use native.Mathlib.Omega.{arith}
use native.Mathlib.Numerals.{add-one}
use lib.ListN.{length, get_or, set, take, drop, drop_of_length-le}
use lib.Seq.{drop-cons, take-suc-set, drop-set-lt, set-get_or, set_out, take_all, append_snoc}
use borrow.Author.Tests.{lt-ltb, le-ltb, le-leb, lt-leb, ne_eqb, eq-eqb, ltb-true, ltb-false}
use Rattle.rules.specs.Vector.{at_most, equal, less, joined, one_more, raised, ahead, one_up, Whom, nobody, thread}
use Rattle.rules.proofs.VectorLaws.{at_most-refl, equal-true}
use denote.Enum.Bare.{sameb}
use Rattle.vv.specs.contracts.Ordering.{the_type}
use Rattle.vv.specs.declared.Ordering.{Ordering}
use Rattle.vv.specs.declared.Ordering.TheVariants.{Less, Equal, Neither}
use Rattle.vv.specs.Compared.{ordering_of}

module _ {A : Type 0} (f : List ℕ → List ℕ → A) (xs ys : List ℕ) (i : ℕ) where
  pub left-cons : i < length xs → i < length ys →
      f (drop i xs) (drop i ys) ≡ f (get_or xs i 0 ∷ drop (i + 1) xs) (get_or ys i 0 ∷ drop (i + 1) ys)
  left-cons h k = rw (add-one, drop-cons xs i 0, drop-cons ys i 0)

  pub left-none : length xs ≤ i → length ys ≤ i → f (drop i xs) (drop i ys) ≡ f [] []
  left-none h k = rw (drop_of_length-le xs h, drop_of_length-le ys k)

-- the vectors of a run have five parts
module _ (xs : List ℕ) (i : ℕ) (len : length xs ≡ 5) where
  pub within : i < 5 → i < length xs
  within below = omega (arith, len, below)

  pub beyond : 5 ≤ i → length xs ≤ i
  beyond past = omega (arith, len, past)

flag : (b : Bool) → (b ≡ true) ⊎ (b ≡ false)
flag true = inl refl
flag false = inr refl

module _ (xs ys : List ℕ) (i : ℕ) (h : i < length xs) (k : i < length ys) where
  pub at_most-on : get_or xs i 0 ≤ get_or ys i 0 → at_most (drop (i + 1) xs) (drop (i + 1) ys) ≡ at_most (drop i xs) (drop i ys)
  unfolding at_most
  at_most-on l = rw (left-cons at_most xs ys i h k, le-leb (get_or xs i 0) (get_or ys i 0) l)

  pub at_most-ends : get_or ys i 0 < get_or xs i 0 → at_most (drop i xs) (drop i ys) ≡ false
  unfolding at_most
  at_most-ends l = rw (left-cons at_most xs ys i h k, lt-leb (get_or xs i 0) (get_or ys i 0) l)

module _ (xs ys : List ℕ) (i : ℕ) (h : i < length xs) (k : i < length ys) where
  pub equal-on : get_or xs i 0 ≡ get_or ys i 0 → equal (drop (i + 1) xs) (drop (i + 1) ys) ≡ equal (drop i xs) (drop i ys)
  unfolding equal
  equal-on e = rw (left-cons equal xs ys i h k, eq-eqb (get_or xs i 0) (get_or ys i 0) e)

  pub equal-ends : get_or xs i 0 ≢ get_or ys i 0 → equal (drop i xs) (drop i ys) ≡ false
  unfolding equal
  equal-ends n = rw (left-cons equal xs ys i h k, ne_eqb (get_or xs i 0) (get_or ys i 0) n)

-- how the whole compares, by whether all parts so far are the same and by how what is left compares
abbrev pub after : Bool → Ordering → Ordering
after true o = o
after false Less = Less
after false Equal = Less
after false Neither = Neither

after-neither : (so : Bool) → after so Neither ≡ Neither
after-neither true = refl
after-neither false = refl

-- vectors that are equal are at most each other
equal-most : (xs ys : List ℕ) → equal xs ys ≡ true → at_most xs ys ≡ true
equal-most xs ys e = rw (← equal-true xs ys e) (at_most-refl xs)

-- past a part that is less the rest need be at most alone: by the definition's two tests of the rest
only-most : (so same most : Bool) → (same ≡ true → most ≡ true) →
    after (so && false) (cond same Equal (cond (most && not same) Less Neither)) ≡ after so (cond (most && true) Less Neither)
only-most true true true h = refl
only-most false true true h = refl
only-most so true false h = absurd (true≢false (sym (h refl)))
only-most true false true h = refl
only-most false false true h = refl
only-most true false false h = refl
only-most false false false h = refl

so-far : (so : Bool) → so && true ≡ so
so-far true = refl
so-far false = refl

module _ (x y : ℕ) (xs ys : List ℕ) (l : x ≤ y) (so : Bool) where
  past_same : eqb x y ≡ true → after (so && eqb x y) (ordering_of xs ys) ≡ after so (ordering_of (x ∷ xs) (y ∷ ys))
  unfolding at_most equal less
  past_same e = rw (e, le-leb x y l, so-far so)

  past-less : eqb x y ≡ false → after (so && eqb x y) (ordering_of xs ys) ≡ after so (ordering_of (x ∷ xs) (y ∷ ys))
  unfolding at_most equal less
  past-less e = rw (e, le-leb x y l) (only-most so (equal xs ys) (at_most xs ys) (equal-most xs ys))

module _ (xs ys : List ℕ) (i : ℕ) (h : i < length xs) (k : i < length ys) where
  pub compared-on : (so : Bool) → get_or xs i 0 ≤ get_or ys i 0 →
      after (so && eqb (get_or xs i 0) (get_or ys i 0)) (ordering_of (drop (i + 1) xs) (drop (i + 1) ys)) ≡ after so (ordering_of (drop i xs) (drop i ys))
  compared-on so l =
      rw (left-cons ordering_of xs ys i h k) (⊎_elim (past_same _ _ _ _ l so) (past-less _ _ _ _ l so) (flag (eqb (get_or xs i 0) (get_or ys i 0))))

  pub compared-ends : (so : Bool) → get_or ys i 0 < get_or xs i 0 → after so (ordering_of (drop i xs) (drop i ys)) ≡ Neither
  unfolding at_most equal less
  compared-ends so l =
      rw (left-cons ordering_of xs ys i h k, lt-leb (get_or xs i 0) (get_or ys i 0) l, ne_eqb (get_or xs i 0) (get_or ys i 0) (λ e. omega (arith, e))) (after-neither so)

-- with no part left, what was found so far is the answer
pub compared-none : (xs ys : List ℕ) (i : ℕ) → length xs ≤ i → length ys ≤ i → (so t : Bool) → so ≡ t → after t Equal ≡ after so (ordering_of (drop i xs) (drop i ys))
unfolding equal
compared-none xs ys i h k so t e = rw (left-none ordering_of xs ys i h k, e)

less-of : (same most : Bool) → sameb the_type (cond same Equal (cond (most && not same) Less Neither)) Less ≡ most && not same
less-of true true = refl
less-of true false = refl
less-of false true = refl
less-of false false = refl

pub less-told : (xs ys : List ℕ) (r : Ordering) → r ≡ ordering_of xs ys → sameb the_type r Less ≡ less xs ys
unfolding less
less-told xs ys r e = rw e (less-of (equal xs ys) (at_most xs ys))

-- an answer about what is left at i, as one about the whole
abbrev pub past : ℕ → Whom → Whom
past i nobody = nobody
past i (thread t) = thread (i + t)

past_next : (i : ℕ) (w : Whom) → past (i + 1) w ≡ past i (one_up w)
past_next i nobody = refl
past_next i (thread t) = let e : (i + 1) + t ≡ i + (t + 1) = omega arith in cc

pub past-none : (w : Whom) → past 0 w ≡ w
past-none nobody = refl
past-none (thread t) = let e : 0 + t ≡ t = omega arith in cc

module _ (xs ys : List ℕ) (i : ℕ) (h : i < length xs) (k : i < length ys) where
  pub ahead-on : get_or ys i 0 ≤ get_or xs i 0 → past (i + 1) (ahead (drop (i + 1) xs) (drop (i + 1) ys)) ≡ past i (ahead (drop i xs) (drop i ys))
  unfolding ahead
  ahead-on l = rw (left-cons ahead xs ys i h k, le-ltb (get_or xs i 0) (get_or ys i 0) l, past_next)

  pub ahead-ends : get_or xs i 0 < get_or ys i 0 → past i (ahead (drop i xs) (drop i ys)) ≡ thread i
  unfolding ahead
  ahead-ends l = rw (left-cons ahead xs ys i h k, lt-ltb (get_or xs i 0) (get_or ys i 0) l) (let e : i + 0 ≡ i = omega arith in cc)

-- xs with the parts from i on still to be joined with those of ys
abbrev pub joining : List ℕ → List ℕ → ℕ → List ℕ
joining xs ys i = take i xs ++ joined (drop i xs) (drop i ys)

module _ (xs ys : List ℕ) (i : ℕ) (h : i < length xs) (k : i < length ys) where
  join-set : (v : ℕ) → v ≡ max (get_or xs i 0) (get_or ys i 0) → joining (set xs i v) ys (i + 1) ≡ joining xs ys i
  unfolding joined
  join-set v e =
      rw (left-cons joined xs ys i h k, add-one, take-suc-set xs i v h, drop-set-lt (suc i) xs i v (omega arith), append_snoc, e)

  pub join-taken : get_or xs i 0 < get_or ys i 0 → joining (set xs i (get_or ys i 0)) ys (i + 1) ≡ joining xs ys i
  join-taken l = join-set (get_or ys i 0) (omega arith)

  pub join_kept : get_or ys i 0 ≤ get_or xs i 0 → joining xs ys (i + 1) ≡ joining xs ys i
  join_kept l = ap (λ (l : List ℕ). joining l ys (i + 1)) (sym (set-get_or xs i 0)) ∙ join-set (get_or xs i 0) (omega arith)

-- with nothing left to be joined, xs is what it is
pub join-none : (xs ys : List ℕ) (i : ℕ) → length xs ≤ i → length ys ≤ i → joining xs ys i ≡ xs
unfolding joined
join-none xs ys i h k = rw (take_all i xs h, drop_of_length-le xs h, drop_of_length-le ys k, append-nil)

-- xs, raised once the walk has passed the thread
abbrev pub raising : List ℕ → ℕ → ℕ → List ℕ
raising xs t i = cond (ltb t i) (raised xs t) xs

pub raise-none : (xs : List ℕ) (t : ℕ) → xs ≡ raising xs t 0
raise-none xs t = rw (le-ltb t 0 (omega arith))

pub raise-own : (xs ys : List ℕ) (t i v : ℕ) → ys ≡ raising xs t i → i ≡ t → v ≡ one_more (get_or ys i 0) → set ys i v ≡ raising xs t (i + 1)
unfolding raised
raise-own xs ys t i v e o w =
    let same : ys ≡ xs = e ∙ ap (λ (b : Bool). cond b (raised xs t) xs) (le-ltb t i (omega (arith, o))) in
    rw (lt-ltb t (i + 1) (omega (arith, o)), w, same, o)

raise-past : (xs : List ℕ) (t i : ℕ) → i ≢ t → raising xs t i ≡ raising xs t (i + 1)
raise-past xs t i n =
    ⊎_elim
    (λ e. rw (e, lt-ltb t (i + 1) (omega (arith, ltb-true t i e))))
    (λ e. rw (e, le-ltb t (i + 1) (omega (arith, ltb-false t i e, n))))
    (flag (ltb t i))

pub raise-on : (xs ys : List ℕ) (t i v : ℕ) → ys ≡ raising xs t i → i ≢ t → v ≡ get_or ys i 0 → set ys i v ≡ raising xs t (i + 1)
raise-on xs ys t i v e n w = ap (set ys i) w ∙ set-get_or ys i 0 ∙ e ∙ raise-past xs t i n

pub raise-all : (xs : List ℕ) (t i : ℕ) → length xs ≤ i → raising xs t i ≡ raised xs t
unfolding raised
raise-all xs t i h =
    ⊎_elim (λ e. rw e) (λ e. rw e (sym (set_out xs t _ (omega (arith, ltb-false t i e))))) (flag (ltb t i))
