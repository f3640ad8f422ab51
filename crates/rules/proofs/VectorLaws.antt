-- The laws of vectors, each over every length. Assumes nothing.
--     at_most-refl, at_most-trans, at_most-antisym   `at_most` is a partial order
--     equal-refl, equal-true, equal-false         `equal` is equality
--     less-true, less-made                        `less` is at most and not equal
--     joined-left, joined-right, joined-least     the join is an upper bound, and the least
--     joined-comm, joined-idem                    it commutes and is idempotent
--     ahead-nobody, nobody-ahead                  nobody is ahead exactly where the other is at most this
--     ahead-lowest, ahead-is                      whoever is ahead is the lowest whose part in the other is greater
use Prim.Native.Nat.{ℕ, zero, suc, ◌+◌, ◌≤◌, ◌<◌, max}
use mathlib.Core.List.{List, [], ◌∷◌}
use mathlib.Core.Bool.{Bool, true, false, not, ◌&&◌, true≢false, false≢true, and-eq-true_iff}
use mathlib.Core.Path.{◌≡◌, refl, ap, sym, subst, ◌∙◌}
use mathlib.Core.Logic.{◌≢◌, ◌⊎◌, inl, inr, ⊎_elim}
use native.Mathlib.Omega.{arith}
use native.Mathlib.Numerals.{add-one}
use lib.Dec.{ltb, leb, eqb}
use lib.ListN.{length, get_or, length-set}
use lib.Seq.{get_or-set_same, get_or-set_other}
use borrow.Author.Tests.{ltb-true, ltb-false, leb-true, eqb-true, lt-ltb, le-ltb, le-leb, eq-eqb, not-true}
use Rattle.rules.specs.Vector.{at_most, equal, less, joined, raised, largest, ahead, one_up, Whom, nobody, thread}

-- both halves of a test
both : (a b : Bool) → a && b ≡ true → (a ≡ true) × (b ≡ true)
both a b = (and-eq-true_iff a b).0

made : {a b : Bool} → a ≡ true → b ≡ true → a && b ≡ true
made {a} {b} p q = (and-eq-true_iff a b).1 (p, q)

flag : (b : Bool) → (b ≡ true) ⊎ (b ≡ false)
flag true = inl refl
flag false = inr refl

-- At most

at_most-cons : (x y : ℕ) (xs ys : List ℕ) → at_most (x ∷ xs) (y ∷ ys) ≡ true → (x ≤ y) × (at_most xs ys ≡ true)
unfolding at_most
at_most-cons x y xs ys p = let h = both (leb x y) (at_most xs ys) p in (leb-true x y h.0, h.1)

longer : (x : ℕ) (xs : List ℕ) → at_most (x ∷ xs) [] ≡ true → ⊥
unfolding at_most
longer x xs p = false≢true p

pub at_most-refl : (xs : List ℕ) → at_most xs xs ≡ true
unfolding at_most
at_most-refl [] = refl
at_most-refl (x ∷ xs) = made (le-leb x x (omega arith)) (at_most-refl xs)

pub at_most-trans : (xs ys zs : List ℕ) → at_most xs ys ≡ true → at_most ys zs ≡ true → at_most xs zs ≡ true
unfolding at_most
at_most-trans [] ys zs p q = refl
at_most-trans (x ∷ xs) [] zs p q = absurd (longer x xs p)
at_most-trans (x ∷ xs) (y ∷ ys) [] p q = absurd (longer y ys q)
at_most-trans (x ∷ xs) (y ∷ ys) (z ∷ zs) p q =
    let h = at_most-cons x y xs ys p in
    let k = at_most-cons y z ys zs q in
    made (le-leb x z (omega arith)) (at_most-trans xs ys zs h.1 k.1)

pub at_most-antisym : (xs ys : List ℕ) → at_most xs ys ≡ true → at_most ys xs ≡ true → xs ≡ ys
at_most-antisym [] [] p q = refl
at_most-antisym [] (y ∷ ys) p q = absurd (longer y ys q)
at_most-antisym (x ∷ xs) [] p q = absurd (longer x xs p)
at_most-antisym (x ∷ xs) (y ∷ ys) p q =
    let h = at_most-cons x y xs ys p in
    let k = at_most-cons y x ys xs q in
    let e : x ≡ y = omega arith in
    let t : xs ≡ ys = at_most-antisym xs ys h.1 k.1 in
    cc

-- what "each part ≤" says of each part
pub at_most-part : (xs ys : List ℕ) (k : ℕ) → at_most xs ys ≡ true → get_or xs k 0 ≤ get_or ys k 0
at_most-part [] ys k p = omega arith
at_most-part (x ∷ xs) [] k p = absurd (longer x xs p)
at_most-part (x ∷ xs) (y ∷ ys) zero p = (at_most-cons x y xs ys p).0
at_most-part (x ∷ xs) (y ∷ ys) (suc k) p = at_most-part xs ys k (at_most-cons x y xs ys p).1

-- and that each part says it
pub at_most-made : (xs ys : List ℕ) → length xs ≤ length ys → ((k : ℕ) → k < length xs → get_or xs k 0 ≤ get_or ys k 0) → at_most xs ys ≡ true
unfolding at_most
at_most-made [] ys l h = refl
at_most-made (x ∷ xs) [] l h = absurd (omega arith)
at_most-made (x ∷ xs) (y ∷ ys) l h = made (le-leb x y (h zero (omega arith))) (at_most-made xs ys (omega arith) (λ k b. h (suc k) (omega arith)))

-- All equal

pub equal-refl : (xs : List ℕ) → equal xs xs ≡ true
unfolding equal
equal-refl [] = refl
equal-refl (x ∷ xs) = made (eq-eqb x x refl) (equal-refl xs)

pub equal-true : (xs ys : List ℕ) → equal xs ys ≡ true → xs ≡ ys
unfolding equal
equal-true [] [] p = refl
equal-true [] (y ∷ ys) p = absurd (false≢true p)
equal-true (x ∷ xs) [] p = absurd (false≢true p)
equal-true (x ∷ xs) (y ∷ ys) p =
    let h = both (eqb x y) (equal xs ys) p in
    let e : x ≡ y = eqb-true x y h.0 in
    let t : xs ≡ ys = equal-true xs ys h.1 in
    cc

pub equal-false : (xs ys : List ℕ) → equal xs ys ≡ false → xs ≢ ys
equal-false xs ys p e = true≢false (sym (subst (λ (l : List ℕ). equal xs l ≡ true) e (equal-refl xs)) ∙ p)

-- Less

pub less-true : (xs ys : List ℕ) → less xs ys ≡ true → (at_most xs ys ≡ true) × (xs ≢ ys)
unfolding less
less-true xs ys p =
    let h = both (at_most xs ys) (not (equal xs ys)) p in (h.0, equal-false xs ys (not-true (equal xs ys) h.1))

pub less-made : (xs ys : List ℕ) → at_most xs ys ≡ true → xs ≢ ys → less xs ys ≡ true
unfolding less
less-made xs ys p n = made p (⊎_elim (λ e. absurd (n (equal-true xs ys e))) (λ e. ap not e) (flag (equal xs ys)))

-- Join

pub joined-left : (xs ys : List ℕ) → at_most xs (joined xs ys) ≡ true
unfolding at_most joined
joined-left [] ys = refl
joined-left (x ∷ xs) [] = at_most-refl (x ∷ xs)
joined-left (x ∷ xs) (y ∷ ys) = made (le-leb x (max x y) (omega arith)) (joined-left xs ys)

pub joined-comm : (xs ys : List ℕ) → joined xs ys ≡ joined ys xs
unfolding joined
joined-comm [] [] = refl
joined-comm [] (y ∷ ys) = refl
joined-comm (x ∷ xs) [] = refl
joined-comm (x ∷ xs) (y ∷ ys) =
    let h : max x y ≡ max y x = omega arith in
    let t : joined xs ys ≡ joined ys xs = joined-comm xs ys in
    cc

pub joined-right : (xs ys : List ℕ) → at_most ys (joined xs ys) ≡ true
joined-right xs ys = rw joined-comm (joined-left ys xs)

pub joined-least : (xs ys zs : List ℕ) → at_most xs zs ≡ true → at_most ys zs ≡ true → at_most (joined xs ys) zs ≡ true
unfolding at_most joined
joined-least [] ys zs p q = q
joined-least (x ∷ xs) [] zs p q = p
joined-least (x ∷ xs) (y ∷ ys) [] p q = absurd (longer x xs p)
joined-least (x ∷ xs) (y ∷ ys) (z ∷ zs) p q =
    let h = at_most-cons x z xs zs p in
    let k = at_most-cons y z ys zs q in
    made (le-leb (max x y) z (omega arith)) (joined-least xs ys zs h.1 k.1)

-- where one is at most the other, their join is the other
pub joined-absorbs : (xs ys : List ℕ) → at_most xs ys ≡ true → joined xs ys ≡ ys
joined-absorbs xs ys p = at_most-antisym (joined xs ys) ys (joined-least xs ys ys p (at_most-refl ys)) (joined-right xs ys)

pub joined-idem : (xs : List ℕ) → joined xs xs ≡ xs
joined-idem xs = joined-absorbs xs xs (at_most-refl xs)

pub length-joined : (xs ys : List ℕ) → length (joined xs ys) ≡ max (length xs) (length ys)
unfolding joined
length-joined [] ys = omega arith
length-joined (x ∷ xs) [] = omega arith
length-joined (x ∷ xs) (y ∷ ys) = omega (arith, length-joined xs ys)

pub joined-part : (xs ys : List ℕ) (k : ℕ) → get_or (joined xs ys) k 0 ≡ max (get_or xs k 0) (get_or ys k 0)
unfolding joined
joined-part [] ys k = omega arith
joined-part (x ∷ xs) [] zero = omega arith
joined-part (x ∷ xs) [] (suc k) = omega arith
joined-part (x ∷ xs) (y ∷ ys) zero = refl
joined-part (x ∷ xs) (y ∷ ys) (suc k) = joined-part xs ys k

-- Ahead

later : (w : Whom) → one_up w ≡ nobody → w ≡ nobody
later nobody e = refl
later (thread t) e = let z : ◌≡◌ {A = ℕ} 0 1 = cc in absurd (omega arith)

pub ahead-nobody : (xs ys : List ℕ) → ahead xs ys ≡ nobody → at_most ys xs ≡ true
unfolding ahead at_most
ahead-nobody xs [] e = refl
ahead-nobody [] (y ∷ ys) e = let z : ◌≡◌ {A = ℕ} 0 1 = cc in absurd (omega arith)
ahead-nobody (x ∷ xs) (y ∷ ys) e =
    ⊎_elim
    (λ t. let z : ◌≡◌ {A = ℕ} 0 1 = cc (t) in absurd (omega arith))
    (λ f. made (le-leb y x (ltb-false x y f)) (ahead-nobody xs ys (later (ahead xs ys) (rw f at e))))
    (flag (ltb x y))

pub nobody-ahead : (xs ys : List ℕ) → at_most ys xs ≡ true → ahead xs ys ≡ nobody
unfolding ahead
nobody-ahead xs [] p = refl
nobody-ahead [] (y ∷ ys) p = absurd (longer y ys p)
nobody-ahead (x ∷ xs) (y ∷ ys) p =
    let h = at_most-cons y x ys xs p in
    let f : ltb x y ≡ false = le-ltb x y h.0 in
    rw (f, nobody-ahead xs ys h.1)

-- that k is the lowest place where ys is greater than xs
pub record Lowest (xs ys : List ℕ) (k : ℕ) : Type 0 where
  pub greater : get_or xs k 0 < get_or ys k 0
  pub below : (j : ℕ) → j < k → get_or ys j 0 ≤ get_or xs j 0

lowest-here : (x y : ℕ) (xs ys : List ℕ) → x < y → Lowest (x ∷ xs) (y ∷ ys) 0
lowest-here x y xs ys h = record { greater = h; below = λ j l. absurd (omega arith) }

below-later : (x y : ℕ) (xs ys : List ℕ) (k : ℕ) → y ≤ x → Lowest xs ys k → (j : ℕ) → j < k + 1 → get_or {A = ℕ} (y ∷ ys) j 0 ≤ get_or {A = ℕ} (x ∷ xs) j 0
below-later x y xs ys k h p zero l = h
below-later x y xs ys k h p (suc j) l = p.below j (omega arith)

lowest-later : (x y : ℕ) (xs ys : List ℕ) (k : ℕ) → y ≤ x → Lowest xs ys k → Lowest (x ∷ xs) (y ∷ ys) (k + 1)
lowest-later x y xs ys k h p = record { greater = rw add-one p.greater; below = below-later x y xs ys k h p }

earlier : (w : Whom) (k : ℕ) → one_up w ≡ thread k → (m : ℕ) × (w ≡ thread m) × (k ≡ m + 1)
earlier nobody k e = let z : ◌≡◌ {A = ℕ} 0 1 = cc in absurd (omega arith)
earlier (thread t) k e = (t, refl, cc)

ahead-false : (x y : ℕ) (xs ys : List ℕ) → ltb x y ≡ false → ahead (x ∷ xs) (y ∷ ys) ≡ one_up (ahead xs ys)
unfolding ahead
ahead-false x y xs ys f = rw f

pub ahead-lowest : (xs ys : List ℕ) (k : ℕ) → length ys ≤ length xs → ahead xs ys ≡ thread k → Lowest xs ys k
unfolding ahead
ahead-lowest xs [] k l e = let z : ◌≡◌ {A = ℕ} 0 1 = cc in absurd (omega arith)
ahead-lowest [] (y ∷ ys) k l e = absurd (omega arith)
ahead-lowest (x ∷ xs) (y ∷ ys) k l e =
    ⊎_elim
    (λ t. let z : k ≡ 0 = cc (t) in rw z (lowest-here x y xs ys (ltb-true x y t)))
    (λ f.
    let b : length ys ≤ length xs = omega arith in
    let m = earlier (ahead xs ys) k (sym (ahead-false x y xs ys f) ∙ e) in
    rw m.2 (lowest-later x y xs ys m.0 (ltb-false x y f) (ahead-lowest xs ys m.0 b m.1)))
    (flag (ltb x y))

pub ahead-is : (xs ys : List ℕ) (k : ℕ) → length ys ≤ length xs → Lowest xs ys k → ahead xs ys ≡ thread k
unfolding ahead
ahead-is xs [] k l p = absurd (omega (arith, p.greater))
ahead-is [] (y ∷ ys) k l p = absurd (omega arith)
ahead-is (x ∷ xs) (y ∷ ys) zero l p = rw (lt-ltb x y p.greater)
ahead-is (x ∷ xs) (y ∷ ys) (suc k) l p =
    let q : Lowest xs ys k = record { greater = p.greater; below = λ j b. p.below (suc j) (omega arith) } in
    let e : ahead xs ys ≡ thread k = ahead-is xs ys k (omega arith) q in
    ahead-false x y xs ys (le-ltb x y (p.below zero (omega arith))) ∙ ap one_up e ∙ ap thread (add-one k)

-- Raise

pub length-raised : (xs : List ℕ) (t : ℕ) → length (raised xs t) ≡ length xs
unfolding raised
length-raised xs t = simp length-set

pub raised-other : (xs : List ℕ) (t k : ℕ) → k ≢ t → get_or (raised xs t) k 0 ≡ get_or xs k 0
unfolding raised
raised-other xs t k n = get_or-set_other xs t k _ 0 n

pub raised-own : (xs : List ℕ) (t : ℕ) → t < length xs → get_or xs t 0 < largest → get_or (raised xs t) t 0 ≡ get_or xs t 0 + 1
unfolding raised
raised-own xs t b l = get_or-set_same xs t _ 0 b ∙ rw (lt-ltb (get_or xs t 0) largest l)
