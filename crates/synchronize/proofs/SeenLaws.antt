-- The laws of first sight, for the functions that answer it. Over every length. Assumes nothing.
--     known-below, known-last     the latest mark that a part knows
--     seen-on                     one mark more of a store is asked, and what was found so far is kept
--     slots-on, slots-all         the stores below i are answered, what is left is still to be
--     touch-..                    the walk comes to the thread, is elsewhere, is past all
--     yield-..                    by the tests that a function without a loop makes
-- and what the definitions say:
--     seen-made, seen-found       seen is that some thread's mark is known
--     touched-..                  only the thread's own mark changes, and only where unseen
--     seen_slots-.., touched_at-..  of each slot of a cell
use Prim.Native.Nat.{ℕ, zero, suc, ◌+◌, ◌≤◌, ◌<◌}
use mathlib.Core.List.{List, [], ◌∷◌, ◌++◌, append-nil}
use mathlib.Core.Bool.{Bool, true, false, cond, not, ◌&&◌, ◌||◌, false≢true, and-eq-true_iff}
use mathlib.Core.Path.{◌≡◌, refl, ap, sym, ◌∙◌}
use mathlib.Core.Logic.{◌≢◌, ◌⊎◌, inl, inr, ⊎_elim}
use native.Mathlib.Omega.{arith}
use native.Mathlib.Numerals.{add-one}
use lib.Dec.{ltb, leb, eqb}
use lib.ListN.{length, get_or, set, take, drop, drop_of_length-le, length-set, length-map, get_or-eq_default, get_or-map}
use lib.Seq.{drop-cons, take-suc-set, set_out, take_all, append_snoc, set-get_or, get_or-set_same, get_or-set_other}
use borrow.Author.Tests.{lt-ltb, le-ltb, le-leb, lt-leb, eq-eqb, ne_eqb, ltb-true, ltb-false, leb-true, leb-false, eqb-true, eqb-false, not-true}
use Rattle.rules.specs.Vector.{Whom, nobody, thread, one_up}
use Rattle.vv.proofs.Walks.{left-cons}
use Rattle.rules.specs.Seen.{unseen, mark_of, known, seen_through, someone, seen, seen_before_yield, touched, touched_at, seen_slots}

never : (b : Bool) → false ≡ b && false
never true = refl
never false = refl

someone-next : (w : Whom) → someone (one_up w) ≡ someone w
someone-next nobody = refl
someone-next (thread t) = refl

-- a test either holds or does not
pub flag : (b : Bool) → (b ≡ true) ⊎ (b ≡ false)
flag true = inl refl
flag false = inr refl

both : (a b : Bool) → a && b ≡ true → (a ≡ true) × (b ≡ true)
both a b = (and-eq-true_iff a b).0

other-false : (a b : Bool) → a ≡ true → a && b ≡ false → b ≡ false
other-false true b o p = p
other-false false b o p = absurd (false≢true o)

pub or-or : (a b c : Bool) → (a || b) || c ≡ a || (b || c)
or-or true b c = refl
or-or false b c = refl

module _ (m part : ℕ) where
  -- no mark is as late as a part that is less than unseen
  pub known-below : part < unseen → leb m part ≡ known m part
  known-below h =
      ⊎_elim
      (λ e. rw (ne_eqb m unseen (λ u. omega (arith, leb-true m part e, u))))
      (λ e. rw e (never (not (eqb m unseen))))
      (flag (leb m part))

  not_known : part ≡ unseen → leb m 65534 ≡ false → (eqb m unseen ≡ true) ⊎ (eqb m unseen ≡ false) → false ≡ known m part
  not_known h e (inl u) = rw u
  not_known h e (inr u) = rw (u, lt-leb m part (omega (arith, leb-false m 65534 e, eqb-false m unseen u, h)))

  -- a part that is the number of unseen knows every mark, and unseen is none
  pub known-last : part ≡ unseen → leb m 65534 ≡ known m part
  known-last h =
      ⊎_elim
      (λ e. rw (e, ne_eqb m unseen (λ u. omega (arith, leb-true m 65534 e, u)), le-leb m part (omega (arith, leb-true m 65534 e, h))))
      (λ e. e ∙ not_known h e (flag (eqb m unseen)))
      (flag (leb m 65534))

seen_next : (m v : ℕ) (marks vs : List ℕ) → known m v ≡ false → seen (m ∷ marks) (v ∷ vs) ≡ seen marks vs
unfolding seen seen_through
seen_next m v marks vs e = rw e (someone-next (seen_through marks vs))

seen-or : (m v : ℕ) (marks vs : List ℕ) → known m v || seen marks vs ≡ seen (m ∷ marks) (v ∷ vs)
unfolding seen seen_through
seen-or m v marks vs =
    ⊎_elim (λ e. rw e) (λ e. rw e (sym (someone-next (seen_through marks vs)))) (flag (known m v))

module _ (marks vs : List ℕ) (i : ℕ) (h : i < length marks) (k : i < length vs) (so b : Bool) where
  pub seen-on : b ≡ known (get_or marks i 0) (get_or vs i 0) → (so || b) || seen (drop (i + 1) marks) (drop (i + 1) vs) ≡ so || seen (drop i marks) (drop i vs)
  seen-on e = rw (e, left-cons seen marks vs i h k, ← seen-or) (or-or so _ _)

-- with no mark left, what was found so far is the answer
pub so-far : (so : Bool) → so || false ≡ so
so-far true = refl
so-far false = refl

-- the answers below i, with those for the stores from i on still to be made
abbrev pub answering : List Bool → List (List ℕ) → List ℕ → ℕ → List Bool
answering done rows vs i = take i done ++ seen_slots (drop i rows) vs

module _ (done : List Bool) (rows : List (List ℕ)) (vs : List ℕ) (i : ℕ) where
  pub slots-on : i < length done → i < length rows → (b : Bool) → b ≡ seen (get_or rows i []) vs →
      answering (set done i b) rows vs (i + 1) ≡ answering done rows vs i
  unfolding seen_slots
  slots-on h k b e = rw (add-one, drop-cons rows i [], take-suc-set done i b h, append_snoc, e)

  pub slots-all : length done ≤ i → length rows ≤ i → answering done rows vs i ≡ done
  unfolding seen_slots
  slots-all h k = rw (take_all i done h, drop_of_length-le rows k, append-nil)

-- within a list it is no matter what would stand past its end
within : (xs : List ℕ) (i a b : ℕ) → i < length xs → get_or xs i a ≡ get_or xs i b
within [] i a b h = absurd (omega arith)
within (x ∷ xs) zero a b h = refl
within (x ∷ xs) (suc i) a b h = within xs i a b (omega arith)

module _ (marks : List ℕ) (t : ℕ) (h : t < length marks) where
  marked : mark_of marks t ≡ get_or marks t 0
  marked = within marks t unseen 0 h

  touch-first : (v : ℕ) → get_or marks t 0 ≡ unseen → set marks t v ≡ touched marks t v
  unfolding touched
  touch-first v e = rw (eq-eqb (mark_of marks t) unseen (marked ∙ e))

  pub touch-again : (v : ℕ) → get_or marks t 0 ≢ unseen → marks ≡ touched marks t v
  unfolding touched
  touch-again v n = rw (ne_eqb (mark_of marks t) unseen (λ e. n (sym marked ∙ e)))

  pub yield-unseen : (y : ℕ) → get_or marks t 0 ≡ unseen → false ≡ seen_before_yield marks t y
  unfolding seen_before_yield
  yield-unseen y e = rw (eq-eqb (mark_of marks t) unseen (marked ∙ e)) (never (not (eqb y unseen)))

  pub yield-seen : (y : ℕ) → y ≢ unseen → get_or marks t 0 ≢ unseen → leb (get_or marks t 0) y ≡ seen_before_yield marks t y
  unfolding seen_before_yield
  yield-seen y m n = rw (ne_eqb y unseen m, ne_eqb (mark_of marks t) unseen (λ e. n (sym marked ∙ e)), marked)

module _ (marks : List ℕ) (t : ℕ) (h : length marks ≤ t) where
  pub touch-nobody : (v : ℕ) → marks ≡ touched marks t v
  unfolding touched
  touch-nobody v = rw (get_or-eq_default marks unseen h) (sym (set_out marks t v h))

  pub yield-nobody : (y : ℕ) → false ≡ seen_before_yield marks t y
  unfolding seen_before_yield
  yield-nobody y = rw (get_or-eq_default marks unseen h) (never (not (eqb y unseen)))

-- marks, touched once the walk has passed the thread
abbrev pub touching : List ℕ → ℕ → ℕ → ℕ → List ℕ
touching marks t v i = cond (ltb t i) (touched marks t v) marks

module _ (marks : List ℕ) (t v : ℕ) where
  pub touch-none : marks ≡ touching marks t v 0
  touch-none = rw (le-ltb t 0 (omega arith))

  touch-past : (i : ℕ) → i ≢ t → touching marks t v i ≡ touching marks t v (i + 1)
  touch-past i n =
      ⊎_elim
      (λ e. rw (e, lt-ltb t (i + 1) (omega (arith, ltb-true t i e))))
      (λ e. rw (e, le-ltb t (i + 1) (omega (arith, ltb-false t i e, n))))
      (flag (ltb t i))

  pub touch-all : (i : ℕ) → length marks ≤ i → touching marks t v i ≡ touched marks t v
  touch-all i h =
      ⊎_elim (λ e. rw e) (λ e. rw e (touch-nobody marks t (omega (arith, ltb-false t i e)) v)) (flag (ltb t i))

  module _ (now : List ℕ) (i : ℕ) (e : now ≡ touching marks t v i) (h : i < length now) where
    still : i ≡ t → now ≡ marks
    still o = e ∙ ap (λ (b : Bool). cond b (touched marks t v) marks) (le-ltb t i (omega (arith, o)))

    touch-first-at : i ≡ t → get_or now i 0 ≡ unseen → set now i v ≡ touching marks t v (i + 1)
    touch-first-at o u =
        rw (lt-ltb t (i + 1) (omega (arith, o))) (rw (← still o, ← o) (touch-first now i h v u))

    touch-again-at : i ≡ t → get_or now i 0 ≢ unseen → now ≡ touching marks t v (i + 1)
    touch-again-at o n =
        rw (lt-ltb t (i + 1) (omega (arith, o))) (rw (← still o, ← o) (touch-again now i h v n))

    -- one place more, whose new mark is w: the test was that it is the thread's and unseen
    pub touch-own : (w : ℕ) → eqb i t && eqb (get_or now i 0) unseen ≡ true → w ≡ v → set now i w ≡ touching marks t v (i + 1)
    touch-own w p q =
        let k = both (eqb i t) (eqb (get_or now i 0) unseen) p in
        ap (set now i) q ∙ touch-first-at (eqb-true i t k.0) (eqb-true (get_or now i 0) unseen k.1)

    pub touch-on : (w : ℕ) → eqb i t && eqb (get_or now i 0) unseen ≡ false → w ≡ get_or now i 0 → set now i w ≡ touching marks t v (i + 1)
    touch-on w p q =
        ap (set now i) q ∙ set-get_or now i 0 ∙
        ⊎_elim
        (λ o. touch-again-at (eqb-true i t o) (eqb-false (get_or now i 0) unseen (other-false _ _ o p)))
        (λ o. e ∙ touch-past i (eqb-false i t o))
        (flag (eqb i t))

pub yield-none : (marks : List ℕ) (t y : ℕ) → y ≡ unseen → false ≡ seen_before_yield marks t y
unfolding seen_before_yield
yield-none marks t y e = rw (eq-eqb y unseen e)

-- What the definitions say of each thread and each slot

-- "for some thread, mark ≤ that part"
pub record Known (marks vs : List ℕ) (t : ℕ) : Type 0 where
  pub part : t < length vs
  pub there : mark_of marks t ≢ unseen
  pub reached : mark_of marks t ≤ get_or vs t 0

later : (m v t : ℕ) (marks vs : List ℕ) → Known (m ∷ marks) (v ∷ vs) (suc t) → Known marks vs t
later m v t marks vs k = record { part = omega (arith, k.part); there = k.there; reached = k.reached }

pub seen-made : (marks vs : List ℕ) (t : ℕ) → Known marks vs t → seen marks vs ≡ true
unfolding seen seen_through
seen-made [] vs t k = absurd (k.there refl)
seen-made (m ∷ marks) [] t k = absurd (omega (arith, k.part))
seen-made (m ∷ marks) (v ∷ vs) zero k = rw (ne_eqb m unseen k.there, le-leb m v k.reached)
seen-made (m ∷ marks) (v ∷ vs) (suc t) k =
    ⊎_elim (λ e. rw e) (λ e. seen_next m v marks vs e ∙ seen-made marks vs t (later m v t marks vs k)) (flag (known m v))

sooner : (m v t : ℕ) (marks vs : List ℕ) → Known marks vs t → Known (m ∷ marks) (v ∷ vs) (suc t)
sooner m v t marks vs k = record { part = omega (arith, k.part); there = k.there; reached = k.reached }

here : (m v : ℕ) (marks vs : List ℕ) → known m v ≡ true → Known (m ∷ marks) (v ∷ vs) 0
here m v marks vs e =
    let h = both (not (eqb m unseen)) (leb m v) e in
    record { part = omega arith; there = eqb-false m unseen (not-true (eqb m unseen) h.0); reached = leb-true m v h.1 }

pub seen-found : (marks vs : List ℕ) → seen marks vs ≡ true → (t : ℕ) × Known marks vs t
unfolding seen seen_through
seen-found [] vs p = absurd (false≢true p)
seen-found (m ∷ marks) [] p = absurd (false≢true p)
seen-found (m ∷ marks) (v ∷ vs) p =
    ⊎_elim
    (λ e. (0, here m v marks vs e))
    (λ e. let k = seen-found marks vs (sym (seen_next m v marks vs e) ∙ p) in (suc k.0, sooner m v k.0 marks vs k.1))
    (flag (known m v))

pub length-touched : (marks : List ℕ) (t v : ℕ) → length (touched marks t v) ≡ length marks
unfolding touched
length-touched marks t v =
    ⊎_elim (λ e. rw e (length-set marks t v)) (λ e. rw e) (flag (eqb (mark_of marks t) unseen))

-- "only where unseen"
pub touched-seen : (marks : List ℕ) (t v : ℕ) → mark_of marks t ≢ unseen → touched marks t v ≡ marks
unfolding touched
touched-seen marks t v n = rw (ne_eqb (mark_of marks t) unseen n)

pub touched-own : (marks : List ℕ) (t v : ℕ) → t < length marks → mark_of marks t ≡ unseen → mark_of (touched marks t v) t ≡ v
unfolding touched
touched-own marks t v h e = rw (eq-eqb (mark_of marks t) unseen e) (get_or-set_same marks t v unseen h)

pub touched-other : (marks : List ℕ) (t k v : ℕ) → k ≢ t → mark_of (touched marks t v) k ≡ mark_of marks k
unfolding touched
touched-other marks t k v n =
    ⊎_elim (λ e. rw e (get_or-set_other marks t k v unseen n)) (λ e. rw e) (flag (eqb (mark_of marks t) unseen))

module _ (rows : List (List ℕ)) (vs : List ℕ) where
  pub length-seen_slots : length (seen_slots rows vs) ≡ length rows
  unfolding seen_slots
  length-seen_slots = length-map rows (λ (marks : List ℕ). seen marks vs)

  pub seen_slots-at : (i : ℕ) → get_or (seen_slots rows vs) i false ≡ seen (get_or rows i []) vs
  unfolding seen_slots seen seen_through
  seen_slots-at i = get_or-map (λ (marks : List ℕ). seen marks vs) rows i []

module _ (rows : List (List ℕ)) (slot t v : ℕ) where
  pub length-touched_at : length (touched_at rows slot t v) ≡ length rows
  unfolding touched_at
  length-touched_at = length-set rows slot _

  pub touched_at-own : slot < length rows → get_or (touched_at rows slot t v) slot [] ≡ touched (get_or rows slot []) t v
  unfolding touched_at
  touched_at-own h = get_or-set_same rows slot _ [] h

  pub touched_at-other : (k : ℕ) → k ≢ slot → get_or (touched_at rows slot t v) k [] ≡ get_or rows k []
  unfolding touched_at
  touched_at-other k n = get_or-set_other rows slot k _ [] n
