-- What counts as seen by a thread, where a mark is set and where it is left. Assumes nothing.
--     seen-stays                     what is seen stays so, where no mark that is set changes and the vector has not fallen
--     row_in, row_has                 a store's marks, after a write
--     Sound, sound-grows             every mark is at most its thread's version; so it stays while vectors grow
--     touch-.., first-..             a store that is touched, and one that is new
use Prim.Native.Nat.{ℕ, zero, suc, ◌≤◌, ◌<◌}
use mathlib.Core.List.{List, [], ◌∷◌}
use mathlib.Core.Bool.{Bool, true, false, cond, not, ◌&&◌, false≢true}
use mathlib.Core.Path.{◌≡◌, refl, ap, sym, ◌∙◌}
use mathlib.Core.Logic.{◌⊎◌, inl, inr}
use native.Mathlib.Omega.{arith}
use lib.Dec.{leb, eqb}
use lib.ListN.{length, get_or, set, length-set, get_or-replicate}
use lib.Seq.{get_or-set_same}
use borrow.Author.Tests.{eqb-true, eqb-false, leb-true, le-leb, ne_eqb}
use Rattle.rules.specs.Vector.{at_most, Whom, nobody, thread, one_up}
use Rattle.rules.proofs.VectorLaws.{at_most-part}
use Rattle.rules.specs.Seen.{unseen, unseens, mark_of, known, seen_through, someone, seen, touched, touched_at}
use Rattle.rules.specs.State.{Clocks, Marks, marks_of, with_marks, vector, vector_at, causality, threads}
use Rattle.rules.specs.Cell.{version, touch_done, seen_by_own}
use Rattle.rules.proofs.MeasureRows.{pick}
use Rattle.offers.proofs.Growing.{set-has, low, Bounded, Grows}

-- Seen

abbrev pub Known : ℕ → ℕ → Type 0
Known mark part = (mark ≡ unseen → ⊥) × (mark ≤ part)

known-true : (m part : ℕ) → known m part ≡ true → Known m part
known-true m part e = go (eqb m unseen) refl (leb m part) refl e
  where
    go : (x : Bool) → eqb m unseen ≡ x → (y : Bool) → leb m part ≡ y → (not x && y) ≡ true → Known m part
    go true p y q f = absurd (false≢true f)
    go false p true q f = (eqb-false m unseen p, leb-true m part q)
    go false p false q f = absurd (false≢true f)

known-made : (m part : ℕ) → Known m part → known m part ≡ true
known-made m part k = rw (ne_eqb m unseen k.0, le-leb m part k.1)

-- by some thread's mark
abbrev pub SeenBy : List ℕ → List ℕ → Type 0
SeenBy marks parts = (k : ℕ) × (k < length parts) × Known (mark_of marks k) (get_or parts k 0)

later : (w : Whom) → someone (one_up w) ≡ someone w
later nobody = refl
later (thread t) = refl

pub seen-some : (marks parts : List ℕ) → seen marks parts ≡ true → SeenBy marks parts
unfolding seen seen_through
seen-some [] parts e = absurd (false≢true e)
seen-some (m ∷ marks) [] e = absurd (false≢true e)
seen-some (m ∷ marks) (part ∷ parts) e = go (known m part) refl e (λ f. seen-some marks parts f)
  where
    go : (b : Bool) → known m part ≡ b → someone (cond b (thread 0) (one_up (seen_through marks parts))) ≡ true →
        (someone (seen_through marks parts) ≡ true → SeenBy marks parts) → SeenBy (m ∷ marks) (part ∷ parts)
    go true k f more = (0, omega arith, known-true m part k)
    go false k f more = let s = more (sym (later (seen_through marks parts)) ∙ f) in (suc s.0, omega (arith, s.1), s.2)

pub seen-made : (marks parts : List ℕ) → SeenBy marks parts → seen marks parts ≡ true
unfolding seen seen_through
seen-made [] parts (k, b, h) = absurd (h.0 refl)
seen-made (m ∷ marks) [] (k, b, h) = absurd (omega arith)
seen-made (m ∷ marks) (part ∷ parts) (zero, b, h) = rw (known-made m part h)
seen-made (m ∷ marks) (part ∷ parts) (suc k, b, h) = go (known m part) (seen-made marks parts (k, omega arith, h))
  where
    go : (x : Bool) → someone (seen_through marks parts) ≡ true →
        someone (cond x (thread 0) (one_up (seen_through marks parts))) ≡ true
    go true f = refl
    go false f = later (seen_through marks parts) ∙ f

-- a mark that is set is left
abbrev pub Stays : List ℕ → List ℕ → Type 0
Stays row now = (k : ℕ) → (mark_of row k ≡ unseen → ⊥) → mark_of now k ≡ mark_of row k

pub most-length : (xs ys : List ℕ) → at_most xs ys ≡ true → length xs ≤ length ys
unfolding at_most
most-length [] ys e = omega arith
most-length (x ∷ xs) [] e = absurd (false≢true e)
most-length (x ∷ xs) (y ∷ ys) e = let h = most-length xs ys (right (leb x y) (at_most xs ys) e) in omega arith
  where
    right : (a b : Bool) → (a && b) ≡ true → b ≡ true
    right true b f = f
    right false b f = absurd (false≢true f)

pub seen-stays : (row now parts after : List ℕ) → Stays row now → at_most parts after ≡ true → seen row parts ≡ true →
    seen now after ≡ true
seen-stays row now parts after s h e =
    let k = seen-some row parts e in
    let same = s k.0 k.2.0 in
    seen-made now after (
      k.0,
      omega (arith, k.1, most-length parts after h),
      (λ u. k.2.0 (sym same ∙ u), omega (arith, same, k.2.1, at_most-part parts after k.0 h)),
    )

pub touched-stays : (row : List ℕ) (t v : ℕ) → Stays row (touched row t v)
unfolding touched
touched-stays row t v k h =
    pick (λ (x : List ℕ). mark_of x k ≡ mark_of row k) (eqb (mark_of row t) unseen)
    (λ e. set-has (λ (x : ℕ). x ≡ mark_of row k) row t k v unseen refl (λ f. absurd (h (ap (mark_of row) f ∙ eqb-true _ _ e))))
    (λ e. refl)

-- a mark of a thread is none, or at most this version
abbrev pub Marked : List ℕ → ℕ → ℕ → Type 0
Marked row t v = (mark_of row t ≡ unseen) ⊎ (mark_of row t ≤ v)

pub touched-length : (row : List ℕ) (t v : ℕ) → length (touched row t v) ≡ length row
unfolding touched
touched-length row t v =
    pick (λ (x : List ℕ). length x ≡ length row) (eqb (mark_of row t) unseen) (λ e. length-set row t v) (λ e. refl)

pub touched-marked : (row : List ℕ) (t v u w : ℕ) → Marked row u w → (u ≡ t → v ≤ w) → Marked (touched row t v) u w
unfolding touched
touched-marked row t v u w h new =
    pick (λ (x : List ℕ). Marked x u w) (eqb (mark_of row t) unseen)
    (λ e. set-has (λ (x : ℕ). (x ≡ unseen) ⊎ (x ≤ w)) row t u v unseen h (λ f. inr (new f)))
    (λ e. h)

-- the thread that touches a store has seen it
pub touched-seen : (row : List ℕ) (t v : ℕ) (parts : List ℕ) → t < length row → t < length parts → v ≡ get_or parts t 0 →
    v < unseen →
    Marked row t v → seen (touched row t v) parts ≡ true
unfolding touched
touched-seen row t v parts h l e few m = seen-made _ parts (t, l, known (eqb (mark_of row t) unseen) refl m)
  where
    known : (b : Bool) → eqb (mark_of row t) unseen ≡ b → Marked row t v →
        Known (mark_of (cond b (set row t v) row) t) (get_or parts t 0)
    known true f k =
        let s = get_or-set_same row t v unseen h in (λ u. omega (arith, s), omega (arith, s))
    known false f (inl k) = absurd (eqb-false _ _ f k)
    known false f (inr k) = (eqb-false _ _ f, omega arith)

-- A cell's marks

-- those of the store in a slot
abbrev pub row_in : Marks → ℕ → ℕ → List ℕ
row_in marks c i = get_or (marks_of marks c) i []

-- with those of one slot written
abbrev pub written : Marks → ℕ → ℕ → List ℕ → Marks
written marks c slot row = with_marks marks c (set (marks_of marks c) slot row)

pub row_has : (P : List ℕ → Type 0) (marks : Marks) (d slot : ℕ) (row : List ℕ) (c i : ℕ) → P (row_in marks c i) →
    (c ≡ d → i ≡ slot → P row) → P (row_in (written marks d slot row) c i)
row_has P marks d slot row c i old new =
    set-has (λ (rows : List (List ℕ)). P (get_or rows i [])) marks d c (set (marks_of marks d) slot row) [] old
    (λ e. set-has P (marks_of marks d) slot i row [] (rw e at old) (λ f. new e f))

pub row_written : (marks : Marks) (c slot : ℕ) (row : List ℕ) → c < length marks → slot < length (marks_of marks c) →
    row_in (written marks c slot row) c slot ≡ row
row_written marks c slot row h l =
    ap (λ (rows : List (List ℕ)). get_or rows slot []) (get_or-set_same marks c (set (marks_of marks c) slot row) [] h)
    ∙ get_or-set_same (marks_of marks c) slot row [] l

-- All marks

-- the marks are all there, none is above its thread's version, and what flows into the threads' vectors is at most n
pub record Sound (n : ℕ) (clocks : Clocks) (marks : Marks) : Type 0 where
  pub long : (t : ℕ) → t < threads → 5 ≤ length (vector clocks (causality t))
  pub bounded : Bounded n clocks
  pub held : 4 ≤ length marks
  pub rows : (c : ℕ) → c < 4 → 7 ≤ length (marks_of marks c)
  pub wide : (c i : ℕ) → c < 4 → i < 7 → 5 ≤ length (row_in marks c i)
  pub marked : (c i t : ℕ) → t < threads → Marked (row_in marks c i) t (version clocks t)

marked_more : (row : List ℕ) (t v w : ℕ) → v ≤ w → Marked row t v → Marked row t w
marked_more row t v w h (inl e) = inl e
marked_more row t v w h (inr l) = inr (omega arith)

pub sound-grows : (n m : ℕ) (a b : Clocks) (marks : Marks) → Grows n m a b → Sound n a marks → Sound m b marks
sound-grows n m a b marks g s = record {
  long = λ t h. omega (arith, s.long t h, most-length _ _ (g.grown t h));
  bounded = g.bounded s.bounded;
  held = s.held;
  rows = s.rows;
  wide = s.wide;
  marked = λ c i t h.
      marked_more (row_in marks c i) t (version a t) (version b t) (at_most-part _ _ t (g.grown t h)) (s.marked c i t h);
}

-- the marks of one slot are written, as many as before or five, none above its thread's version
module _ (n : ℕ) (clocks : Clocks) (marks : Marks) (d slot : ℕ) (row : List ℕ) (s : Sound n clocks marks) where
  pub written-sound : (d < 4 → slot < 7 → 5 ≤ length row) → ((t : ℕ) → t < threads → Marked row t (version clocks t)) →
      Sound n clocks (written marks d slot row)
  written-sound five new = record {
    long = s.long;
    bounded = s.bounded;
    held = omega (arith, s.held, length-set marks d (set (marks_of marks d) slot row));
    rows = λ c h.
        set-has (λ (rows : List (List ℕ)). 7 ≤ length rows) marks d c (set (marks_of marks d) slot row) [] (s.rows c h)
        (λ e. omega (arith, length-set (marks_of marks d) slot row, rw e at (s.rows c h)));
    wide = λ c i h l.
        row_has (λ (x : List ℕ). 5 ≤ length x) marks d slot row c i (s.wide c i h l) (λ e f. five (omega arith) (omega arith));
    marked = λ c i t h.
        row_has (λ (x : List ℕ). Marked x t (version clocks t)) marks d slot row c i (s.marked c i t h) (λ e f. new t h);
  }

-- A store that a thread touches, and one that is new
module _ (n : ℕ) (clocks : Clocks) (marks : Marks) (t c slot : ℕ) (below : t < threads) (s : Sound n clocks marks) where
  pub touch-sound : Sound n clocks (touch_done clocks marks t c slot)
  unfolding touch_done touched_at
  touch-sound =
      let row = row_in marks c slot in
      written-sound n clocks marks c slot (touched row t (version clocks t)) s
      (λ h l. omega (arith, touched-length row t (version clocks t), s.wide c slot h l))
      (λ u h. touched-marked row t (version clocks t) u (version clocks u) (s.marked c slot u h) (λ e. rw e (omega arith)))

  pub first-sound : Sound n clocks (with_marks marks c (seen_by_own clocks (marks_of marks c) t slot))
  first-sound =
      written-sound n clocks marks c slot (touched (unseens 5) t (version clocks t)) s
      (λ h l. omega (arith, touched-length (unseens 5) t (version clocks t)))
      (λ u h. touched-marked (unseens 5) t (version clocks t) u (version clocks u) (inl (none_yet u h)) (λ e. rw e (omega arith)))
    where
      none_yet : (u : ℕ) → u < threads → mark_of (unseens 5) u ≡ unseen
      none_yet u h = get_or-replicate {A = ℕ} 5 u unseen unseen h

  module _ (h : c < 4) (l : slot < 7) (few : n < unseen) where
    -- with this row in its place
    sees_row : (row : List ℕ) → seen row (vector clocks (causality t)) ≡ true →
        seen (row_in (written marks c slot row) c slot) (vector clocks (causality t)) ≡ true
    sees_row row e = rw (row_written marks c slot row (omega (arith, s.held)) (omega (arith, s.rows c h))) e

    small-version : version clocks t < unseen
    small-version = omega (arith, s.bounded (vector_at (causality t)) (low (omega arith)) t)

    pub touch-sees : seen (row_in (touch_done clocks marks t c slot) c slot) (vector clocks (causality t)) ≡ true
    unfolding touch_done touched_at
    touch-sees =
        let row = row_in marks c slot in
        sees_row (touched row t (version clocks t))
        (touched-seen row t (version clocks t) (vector clocks (causality t)) (omega (arith, s.wide c slot h l))
        (omega (arith, s.long t below)) refl small-version (s.marked c slot t below))

    pub first-sees : seen (row_in (with_marks marks c (seen_by_own clocks (marks_of marks c) t slot)) c slot) (vector clocks (causality t)) ≡ true
    first-sees =
        sees_row (touched (unseens 5) t (version clocks t))
        (touched-seen (unseens 5) t (version clocks t) (vector clocks (causality t)) (omega arith)
        (omega (arith, s.long t below)) refl small-version (inl (get_or-replicate {A = ℕ} 5 t unseen unseen below)))

-- every mark that is set stays, where a store is touched; and all others', where one is new
pub touch-stays : (clocks : Clocks) (marks : Marks) (t d slot c i : ℕ) →
    Stays (row_in marks c i) (row_in (touch_done clocks marks t d slot) c i)
unfolding touch_done touched_at
touch-stays clocks marks t d slot c i =
    row_has (Stays (row_in marks c i)) marks d slot (touched (row_in marks d slot) t (version clocks t)) c i (λ k h. refl)
    (λ e f. rw (e, f) (touched-stays (row_in marks d slot) t (version clocks t)))

pub first-stays : (clocks : Clocks) (marks : Marks) (t d slot c i : ℕ) → (c ≡ d → i ≡ slot → ⊥) →
    Stays (row_in marks c i) (row_in (with_marks marks d (seen_by_own clocks (marks_of marks d) t slot)) c i)
first-stays clocks marks t d slot c i n =
    row_has (Stays (row_in marks c i)) marks d slot (touched (unseens 5) t (version clocks t)) c i (λ k h. refl)
    (λ e f. absurd (n e f))
