-- The laws of records of 16 bytes in a list of bytes. Assumes nothing.
--     byte_at, byte_put            a byte of the list is a byte of its record
--     bytes-put, whole-put         the same for several bytes in a row, and for all of a record
--     put_on                       one more byte in a row
--     write-on, write-all          the steps of a loop that puts bytes one after the other
--     record-now, record-other     what is read after a record was put
--     record-again, record_same    a second one in the same place; the one that stands there already
--     flat, Sized                  records one after the other, each of 16 bytes
--     flat-record, flat-put        a record among them
--     flat-more                    what follows them, taken for one more
use Prim.Native.Nat.{ℕ, zero, suc, ◌+◌, ◌*◌, ◌-◌, ◌≤◌, ◌<◌}
use mathlib.Core.List.{List, [], ◌∷◌, ◌++◌, append_assoc, append-nil}
use mathlib.Core.Path.{◌≡◌, refl, ap, sym, ◌∙◌}
use mathlib.Core.Logic.{◌≢◌, ◌⊎◌, inl, inr, ⊎_elim}
use native.Mathlib.Omega.{arith}
use native.Mathlib.Numerals.{add-one}
use lib.ListN.{length, get_or, set, take, drop, length-append, length-take, length-drop, take-append-drop}
use lib.Seq.{take_at, drop_at, set-append_left, take-add, drop-drop, take-take, take_all, paste, paste-suc, length-take-le, get_or-take, get_or-drop, drop-append-add, take-append-add, drop-cons, set_split, take-append-le, drop-append-le}
use Rattle.rules.specs.Records.{record_at, with_record}

-- One record

module _ {A : Type 0} where
  pub set-append-add : (xs ys : List A) (n : ℕ) (a : A) → set (xs ++ ys) (length xs + n) a ≡ xs ++ set ys n a
  set-append-add [] ys n a = let e : 0 + n ≡ n = omega arith in ap (λ (m : ℕ). set ys m a) e
  set-append-add (x ∷ xs) ys n a =
      let e : suc (length xs) + n ≡ suc (length xs + n) = omega arith in
      ap (λ (m : ℕ). set (x ∷ (xs ++ ys)) m a) e ∙ ap (λ (l : List A). x ∷ l) (set-append-add xs ys n a)

  -- a list is what stands before a place, n elements from there, and the rest
  pub three : (l : List A) (p n : ℕ) → l ≡ take p l ++ (take n (drop p l) ++ drop (p + n) l)
  three l p n =
      sym (take-append-drop p l) ∙ ap (λ (x : List A). take p l ++ x) (sym (take-append-drop n (drop p l)) ∙ ap (λ (x : List A). take n (drop p l) ++ x) (drop-drop n p l))

rebuilt : (b c : List ℕ) (k : ℕ) (s : List ℕ) → take (16 * k) b ≡ take (16 * k) c → drop (16 * k + 16) b ≡ drop (16 * k + 16) c → with_record b k s ≡ with_record c k s
unfolding with_record
rebuilt b c k s f d = cc

apart : (j k : ℕ) → j ≢ k → (j < k) ⊎ (k < j)
apart zero zero n = absurd (n refl)
apart zero (suc k) n = inl (omega arith)
apart (suc j) zero n = inr (omega arith)
apart (suc j) (suc k) n = ⊎_elim (λ b. inl (omega arith)) (λ b. inr (omega arith)) (apart j k (λ e. n (ap suc e)))

below : (b : List ℕ) (k j : ℕ) → j < k → 16 * k ≤ length b → record_at b j ≡ record_at (take (16 * k) b) j
unfolding record_at
below b k j h l =
    let f : length (take (16 * k) b) ≡ 16 * k = length-take-le (16 * k) b l in
    let d : length (drop (16 * j) (take (16 * k) b)) ≡ 16 * k - 16 * j = length-drop (16 * j) (take (16 * k) b) ∙ ap (λ (n : ℕ). n - 16 * j) f in
    ap (λ (x : List ℕ). take 16 (drop (16 * j) x)) (sym (take-append-drop (16 * k) b))
    ∙ ap (take 16) (drop-append-le (16 * j) (take (16 * k) b) (drop (16 * k) b) (omega arith))
    ∙ take-append-le 16 (drop (16 * j) (take (16 * k) b)) (drop (16 * k) b) (omega arith)

above : (b c : List ℕ) (k j : ℕ) → k < j → drop (16 * k + 16) b ≡ drop (16 * k + 16) c → record_at b j ≡ record_at c j
unfolding record_at
above b c k j h e =
    let n : 16 * k + 16 + (16 * j - (16 * k + 16)) ≡ 16 * j = omega arith in
    ap (λ (m : ℕ). take 16 (drop m b)) (sym n)
    ∙ ap (take 16) (sym (drop-drop (16 * j - (16 * k + 16)) (16 * k + 16) b) ∙ ap (drop (16 * j - (16 * k + 16))) e ∙ drop-drop (16 * j - (16 * k + 16)) (16 * k + 16) c)
    ∙ ap (λ (m : ℕ). take 16 (drop m c)) n

module _ (bytes : List ℕ) (k : ℕ) (fits : 16 * k + 16 ≤ length bytes) where
  length_front : length (take (16 * k) bytes) ≡ 16 * k
  length_front = length-take-le (16 * k) bytes (omega arith)

  pub length-record_at : length (record_at bytes k) ≡ 16
  unfolding record_at
  length-record_at = simp (length-take, length-drop) (omega arith)

  pub record_same : with_record bytes k (record_at bytes k) ≡ bytes
  unfolding record_at with_record
  record_same = sym (three bytes (16 * k) 16)

  pub length-with_record : (r : List ℕ) → length r ≡ 16 → length (with_record bytes k r) ≡ length bytes
  unfolding with_record
  length-with_record r e = simp (length-append, length-take, length-drop) (omega arith)

  pub record-now : (r : List ℕ) → length r ≡ 16 → record_at (with_record bytes k r) k ≡ r
  unfolding record_at with_record
  record-now r e = rw (drop_at (take (16 * k) bytes) (r ++ drop (16 * k + 16) bytes) (16 * k) length_front, take_at r (drop (16 * k + 16) bytes) 16 e)

  rest-now : (r : List ℕ) → length r ≡ 16 → drop (16 * k + 16) (with_record bytes k r) ≡ drop (16 * k + 16) bytes
  unfolding with_record
  rest-now r e =
      let l : length (take (16 * k) bytes ++ r) ≡ 16 * k + 16 = length-append (take (16 * k) bytes) r ∙ (omega (arith, length_front)) in
      ap (drop (16 * k + 16)) (sym (append_assoc (take (16 * k) bytes) r (drop (16 * k + 16) bytes)))
      ∙ drop_at (take (16 * k) bytes ++ r) (drop (16 * k + 16) bytes) (16 * k + 16) l

  front-now : (r : List ℕ) → take (16 * k) (with_record bytes k r) ≡ take (16 * k) bytes
  unfolding with_record
  front-now r = take_at (take (16 * k) bytes) (r ++ drop (16 * k + 16) bytes) (16 * k) length_front

  pub record-again : (r s : List ℕ) → length r ≡ 16 → with_record (with_record bytes k r) k s ≡ with_record bytes k s
  record-again r s e = rebuilt (with_record bytes k r) bytes k s (front-now r) (rest-now r e)

  pub byte_at : (j : ℕ) → j < 16 → get_or bytes (16 * k + j) 0 ≡ get_or (record_at bytes k) j 0
  unfolding record_at
  byte_at j b = sym (get_or-take 16 (drop (16 * k) bytes) j 0 b ∙ get_or-drop (16 * k) bytes j 0)

  pub byte_put : (j v : ℕ) → j < 16 → set bytes (16 * k + j) v ≡ with_record bytes k (set (record_at bytes k) j v)
  unfolding record_at with_record
  byte_put j v b =
      let front : List ℕ = take (16 * k) bytes in
      let own : List ℕ = take 16 (drop (16 * k) bytes) in
      let rest : List ℕ = drop (16 * k + 16) bytes in
      let l : length own ≡ 16 = simp (length-take, length-drop) (omega arith) in
      let e : 16 * k + j ≡ length front + j = omega (arith, length_front) in
      ap (λ (x : List ℕ). set x (16 * k + j) v) (three bytes (16 * k) 16)
      ∙ ap (λ (n : ℕ). set (front ++ (own ++ rest)) n v) e
      ∙ set-append-add front (own ++ rest) j v
      ∙ ap (λ (x : List ℕ). front ++ x) (set-append_left own rest j v (omega arith))

  pub bytes-put : (j n : ℕ) (s : List ℕ) → j + n ≤ 16 → paste bytes (16 * k + j) s n ≡ with_record bytes k (paste (record_at bytes k) j s n)
  unfolding record_at with_record
  bytes-put j n s b =
      let front : List ℕ = take (16 * k) bytes in
      let own : List ℕ = take 16 (drop (16 * k) bytes) in
      let rest : List ℕ = drop (16 * k + 16) bytes in
      let l : length own ≡ 16 = simp (length-take, length-drop) (omega arith) in
      let f : take (16 * k + j) bytes ≡ front ++ take j own = take-add (16 * k) j bytes ∙ ap (λ (x : List ℕ). front ++ x) (sym (take-take j 16 (drop (16 * k) bytes) (omega arith))) in
      let w : drop (16 * k) bytes ≡ own ++ rest = sym (take-append-drop 16 (drop (16 * k) bytes)) ∙ ap (λ (x : List ℕ). own ++ x) (drop-drop 16 (16 * k) bytes) in
      let m : 16 * k + j + n ≡ 16 * k + (j + n) = omega arith in
      let g : drop (16 * k + j + n) bytes ≡ drop (j + n) own ++ rest =
      ap (λ (x : ℕ). drop x bytes) m ∙ sym (drop-drop (j + n) (16 * k) bytes) ∙ ap (drop (j + n)) w ∙ drop-append-le (j + n) own rest (omega arith) in
      rw (f, g) (simp append_assoc)

  record-below : (j : ℕ) → j < k → (r : List ℕ) → length r ≡ 16 → record_at (with_record bytes k r) j ≡ record_at bytes j
  record-below j b r e =
      below (with_record bytes k r) k j b (omega (arith, length-with_record r e))
      ∙ ap (λ (x : List ℕ). record_at x j) (front-now r)
      ∙ sym (below bytes k j b (omega arith))

  record-above : (j : ℕ) → k < j → (r : List ℕ) → length r ≡ 16 → record_at (with_record bytes k r) j ≡ record_at bytes j
  record-above j b r e = above (with_record bytes k r) bytes k j b (rest-now r e)

  pub record-other : (j : ℕ) → j ≢ k → (r : List ℕ) → length r ≡ 16 → record_at (with_record bytes k r) j ≡ record_at bytes j
  record-other j n r e =
      ⊎_elim (λ b. record-below j b r e) (λ b. record-above j b r e) (apart j k n)

  pub whole-put : (r : List ℕ) → length r ≡ 16 → paste bytes (16 * k) r 16 ≡ with_record bytes k r
  unfolding with_record
  whole-put r e = rw (take_all 16 r (omega arith), append_assoc)

-- a step of a loop that puts one byte after the other
pub put_on : (bytes : List ℕ) (p : ℕ) (s : List ℕ) (j v : ℕ) → p + j < length bytes → j < length s → v ≡ get_or s j 0 → set (paste bytes p s j) (p + j) v ≡ paste bytes p s (j + 1)
put_on bytes p s j v h l e = rw (e, add-one) (paste-suc bytes p s j 0 h l)

-- the same, for a loop that puts the first `size` of some bytes
module _ (bytes : List ℕ) (at : ℕ) (s : List ℕ) (size : ℕ) (fits : at + size ≤ length bytes) (has : size ≤ length s) (now : List ℕ) (i : ℕ) (so_far : now ≡ paste bytes at s i) where
  pub write-on : i < size → set now (at + i) (get_or s i 0) ≡ paste bytes at s (i + 1)
  write-on h = ap (λ (x : List ℕ). set x (at + i) (get_or s i 0)) so_far ∙ put_on bytes at s i (get_or s i 0) (omega arith) (omega arith) refl

  pub write-all : i ≤ size → size ≤ i → now ≡ paste bytes at s size
  write-all h l = let e : i ≡ size = omega arith in so_far ∙ ap (λ (x : ℕ). paste bytes at s x) e

-- Records one after the other

unfoldable pub flat : List (List ℕ) → List ℕ
flat [] = []
flat (r ∷ rs) = r ++ flat rs

pub data Sized : List (List ℕ) → Type 0 where
  none : Sized []
  more : {r : List ℕ} {rs : List (List ℕ)} → length r ≡ 16 → Sized rs → Sized (r ∷ rs)

pub sized-append : {rs qs : List (List ℕ)} → Sized rs → Sized qs → Sized (rs ++ qs)
sized-append none t = t
sized-append (more e s) t = more e (sized-append s t)

flat_append : (rs qs : List (List ℕ)) → flat (rs ++ qs) ≡ flat rs ++ flat qs
unfolding flat
flat_append [] qs = refl
flat_append (r ∷ rs) qs = ap (λ (x : List ℕ). r ++ x) (flat_append rs qs) ∙ sym (append_assoc r (flat rs) (flat qs))

pub length-flat : {rs : List (List ℕ)} → Sized rs → length (flat rs) ≡ 16 * length rs
unfolding flat
length-flat none = refl
length-flat (more {r} {rs} e s) = length-append r (flat rs) ∙ (omega (arith, e, length-flat s))

drop-flat : {rs : List (List ℕ)} → Sized rs → (k : ℕ) → k ≤ length rs → (z : List ℕ) → drop (16 * k) (flat rs ++ z) ≡ flat (drop k rs) ++ z
unfolding flat
drop-flat s zero h z = refl
drop-flat none (suc k) h z = absurd (omega arith)
drop-flat (more {r} {rs} e s) (suc k) h z =
    let n : 16 * suc k ≡ length r + 16 * k = omega (arith, e) in
    ap (λ (x : List ℕ). drop (16 * suc k) x) (append_assoc r (flat rs) z)
    ∙ ap (λ (m : ℕ). drop m (r ++ (flat rs ++ z))) n
    ∙ drop-append-add r (flat rs ++ z) (16 * k)
    ∙ drop-flat s k (omega arith) z

take-flat : {rs : List (List ℕ)} → Sized rs → (k : ℕ) → k ≤ length rs → (z : List ℕ) → take (16 * k) (flat rs ++ z) ≡ flat (take k rs)
unfolding flat
take-flat s zero h z = refl
take-flat none (suc k) h z = absurd (omega arith)
take-flat (more {r} {rs} e s) (suc k) h z =
    let n : 16 * suc k ≡ length r + 16 * k = omega (arith, e) in
    ap (λ (x : List ℕ). take (16 * suc k) x) (append_assoc r (flat rs) z)
    ∙ ap (λ (m : ℕ). take m (r ++ (flat rs ++ z))) n
    ∙ take-append-add r (flat rs ++ z) (16 * k)
    ∙ ap (λ (x : List ℕ). r ++ x) (take-flat s k (omega arith) z)

sized-at : {rs : List (List ℕ)} → Sized rs → (k : ℕ) → k < length rs → length (get_or rs k []) ≡ 16
sized-at none k h = absurd (omega arith)
sized-at (more e s) zero h = e
sized-at (more e s) (suc k) h = sized-at s k (omega arith)

module _ {rs : List (List ℕ)} (s : Sized rs) (k : ℕ) (h : k < length rs) (z : List ℕ) where
  pub flat-record : record_at (flat rs ++ z) k ≡ get_or rs k []
  unfolding record_at flat
  flat-record =
      ap (take 16) (drop-flat s k (omega arith) z)
      ∙ ap (λ (x : List (List ℕ)). take 16 (flat x ++ z)) (drop-cons rs k [] h)
      ∙ ap (take 16) (append_assoc (get_or rs k []) (flat (drop (suc k) rs)) z)
      ∙ take_at (get_or rs k []) (flat (drop (suc k) rs) ++ z) 16 (sized-at s k h)

  pub flat-put : (r : List ℕ) → with_record (flat rs ++ z) k r ≡ flat (set rs k r) ++ z
  unfolding with_record flat
  flat-put r =
      let n : 16 * k + 16 ≡ 16 * suc k = omega arith in
      ap (λ (x : List ℕ). x ++ (r ++ drop (16 * k + 16) (flat rs ++ z))) (take-flat s k (omega arith) z)
      ∙ ap (λ (m : ℕ). flat (take k rs) ++ (r ++ drop m (flat rs ++ z))) n
      ∙ ap (λ (x : List ℕ). flat (take k rs) ++ (r ++ x)) (drop-flat s (suc k) (omega arith) z)
      ∙ sym
      (ap (λ (x : List (List ℕ)). flat x ++ z) (set_split rs k r h)
      ∙ ap (λ (x : List ℕ). x ++ z) (flat_append (take k rs) (r ∷ drop (suc k) rs))
      ∙ append_assoc (flat (take k rs)) (r ++ flat (drop (suc k) rs)) z
      ∙ ap (λ (x : List ℕ). flat (take k rs) ++ x) (append_assoc r (flat (drop (suc k) rs)) z))

pub flat-more : (rs : List (List ℕ)) (r z : List ℕ) → flat rs ++ (r ++ z) ≡ flat (rs ++ (r ∷ [])) ++ z
unfolding flat
flat-more rs r z =
    sym (ap (λ (x : List ℕ). x ++ z) (flat_append rs (r ∷ [])) ∙ ap (λ (x : List ℕ). (flat rs ++ x) ++ z) (append-nil r) ∙ append_assoc (flat rs) r z)
