-- Lists without repetition, rising lists, and lists in another order.
--     every_map .. disjoint-by        what each of a list has
--     Rising, rising-nodup            a rising list repeats nothing
--     left_comm, shuffled             other orders of lists put together
use Prim.Native.Nat.{ℕ, zero, suc, ◌+◌, ◌≤◌, ◌<◌}
use mathlib.Core.List.Memᴰ
use mathlib.Core.List.Perm
use mathlib.Core.List.Pairwise
use mathlib.Core.List.{List, [], ◌∷◌, ◌++◌, map, append_assoc, Perm, Permᴰ, perm_append_comm, Nodup, Memᴰ, Disjoint}
use mathlib.Core.Bool.{Bool, true, false, cond}
use mathlib.Core.Path.{◌≡◌, refl, ap, sym, subst, ◌∙◌}
use mathlib.Core.Logic.{∥∥₁_elim}
use mathlib.Core.HLevel.{⊥_prop, ¬_prop}
use native.Mathlib.Omega.{arith}
use native.Mathlib.Nat.{ℕ_set}
use lib.Dec.{eqb}
use lib.ListN.{length, get_or, drop}
use Rattle.rules.specs.Event.{slots_from}
use Rattle.ledger.specs.History.{Every}
use Rattle.ledger.specs.Turning.{threads_from}

-- What each of a list has

pub every_map : {A : Type 0} (P Q : A → Type 0) (xs : List A) → ((x : A) → P x → Q x) → Every P xs → Every Q xs
every_map P Q [] f e = tt
every_map P Q (x ∷ xs) f e = (f x e.0, every_map P Q xs f e.1)

pub every_append : {A : Type 0} (P : A → Type 0) (xs ys : List A) → Every P xs → Every P ys → Every P (xs ++ ys)
every_append P [] ys e f = f
every_append P (x ∷ xs) ys e f = (e.0, every_append P xs ys e.1 f)

pub every-at : {A : Type 0} (P : A → Type 0) (xs : List A) (i : ℕ) (d : A) → i < length xs → Every P xs → P (get_or xs i d)
every-at P [] i d h e = absurd (omega arith)
every-at P (x ∷ xs) zero d h e = e.0
every-at P (x ∷ xs) (suc i) d h e = every-at P xs i d (omega arith) e.1

pub every-mem : {A : Type 0} (P : A → Type 0) (xs : List A) → Every P xs → (a : A) → Memᴰ a xs → P a
every-mem P [] e a m = absurd (Memᴰ.not-nil m)
every-mem P (x ∷ xs) e a (Memᴰ.head p) = subst P (sym p) e.0
every-mem P (x ∷ xs) e a (Memᴰ.tail m) = every-mem P xs e.1 a m

pub disjoint-by : {A : Type 0} (P Q : A → Type 0) (xs ys : List A) → Every P xs → Every Q ys → ((a : A) → P a → Q a → ⊥) → Disjoint xs ys
disjoint-by P Q xs ys e f h a m n =
    ∥∥₁_elim m ⊥_prop (λ d. ∥∥₁_elim n ⊥_prop (λ g. h a (every-mem P xs e a d) (every-mem Q ys f a g)))

pub every-of-map : {A B : Type 0} (P : B → Type 0) (f : A → B) (xs : List A) → Every (λ x. P (f x)) xs → Every P (map f xs)
every-of-map P f [] e = tt
every-of-map P f (x ∷ xs) e = (e.0, every-of-map P f xs e.1)

pub nodup-map : {A B : Type 0} (f : A → B) → ((x y : A) → f x ≡ f y → x ≡ y) → (xs : List A) → Nodup xs → Nodup (map f xs)
nodup-map f inj xs n = Pairwise.map (λ a b. ¬_prop) f (λ a b k e. k (inj a b e)) n

-- Rising lists

abbrev pub Rising : List ℕ → Type 0
Rising [] = Unit {0}
Rising (x ∷ xs) = Every (λ y. x < y) xs × Rising xs

pub rising-nodup : (xs : List ℕ) → Rising xs → Nodup xs
rising-nodup [] r = Pairwise.nil
rising-nodup (x ∷ xs) r =
    Pairwise.cons (λ a m. ∥∥₁_elim m ¬_prop (λ d (e : x ≡ a). let k : x < a = every-mem (λ y. x < y) xs r.0 a d in omega arith)) (rising-nodup xs r.1)

pub rising-drop : (k : ℕ) (xs : List ℕ) → Rising xs → Rising (drop k xs)
rising-drop zero xs r = r
rising-drop (suc k) [] r = tt
rising-drop (suc k) (x ∷ xs) r = rising-drop k xs r.1

later : (x : ℕ) (xs : List ℕ) (k : ℕ) → k < length xs → Every (λ y. x < y) xs → x < get_or xs k 0
later x [] k h e = absurd (omega arith)
later x (y ∷ ys) zero h e = e.0
later x (y ∷ ys) (suc k) h e = later x ys k (omega arith) e.1

pub rising-at : (xs : List ℕ) (j k : ℕ) → Rising xs → j < k → k < length xs → get_or xs j 0 < get_or xs k 0
rising-at [] j k r h l = absurd (omega arith)
rising-at (x ∷ xs) j zero r h l = absurd (omega arith)
rising-at (x ∷ xs) zero (suc k) r h l = later x xs k (omega arith) r.0
rising-at (x ∷ xs) (suc j) (suc k) r h l = rising-at xs j k r.1 (omega arith) (omega arith)

weaker : (i : ℕ) (xs : List ℕ) → Every (λ y. i + 1 ≤ y) xs → Every (λ y. i ≤ y) xs
weaker i [] e = tt
weaker i (x ∷ xs) e = (omega (arith, e.0), weaker i xs e.1)

stricter : (i : ℕ) (xs : List ℕ) → Every (λ y. i + 1 ≤ y) xs → Every (λ y. i < y) xs
stricter i [] e = tt
stricter i (x ∷ xs) e = (omega (arith, e.0), stricter i xs e.1)

slots-from : (i : ℕ) (bs : List Bool) → Every (λ y. i ≤ y) (slots_from i bs)
unfolding slots_from
slots-from i [] = tt
slots-from i (true ∷ bs) = (omega arith, weaker i (slots_from (i + 1) bs) (slots-from (i + 1) bs))
slots-from i (false ∷ bs) = weaker i (slots_from (i + 1) bs) (slots-from (i + 1) bs)

-- "Offers rise strictly."
pub slots-rising : (i : ℕ) (bs : List Bool) → Rising (slots_from i bs)
unfolding slots_from
slots-rising i [] = tt
slots-rising i (true ∷ bs) = (stricter i (slots_from (i + 1) bs) (slots-from (i + 1) bs), slots-rising (i + 1) bs)
slots-rising i (false ∷ bs) = slots-rising (i + 1) bs

threads-from : (t x : ℕ) (states : List ℕ) → Every (λ y. t ≤ y) (threads_from t x states)
unfolding threads_from
threads-from t x [] = tt
threads-from t x (s ∷ states) = go (eqb s x) (weaker t (threads_from (t + 1) x states) (threads-from (t + 1) x states))
  where
    go : (b : Bool) → Every (λ y. t ≤ y) (threads_from (t + 1) x states) →
        Every (λ y. t ≤ y) (cond b (t ∷ threads_from (t + 1) x states) (threads_from (t + 1) x states))
    go true e = (omega arith, e)
    go false e = e

pub threads-rising : (t x : ℕ) (states : List ℕ) → Rising (threads_from t x states)
unfolding threads_from
threads-rising t x [] = tt
threads-rising t x (s ∷ states) = go (eqb s x) (threads-rising (t + 1) x states)
  where
    go : (b : Bool) → Rising (threads_from (t + 1) x states) →
        Rising (cond b (t ∷ threads_from (t + 1) x states) (threads_from (t + 1) x states))
    go true r = (stricter t (threads_from (t + 1) x states) (threads-from (t + 1) x states), r)
    go false r = r

-- Other orders

perm-length-data : {A : Type 0} {xs ys : List A} → Permᴰ xs ys → length xs ≡ length ys
perm-length-data Permᴰ.nil = refl
perm-length-data (Permᴰ.cons e d) = ap suc (perm-length-data d)
perm-length-data (Permᴰ.swap e f) = refl
perm-length-data (Permᴰ.trans d e) = perm-length-data d ∙ perm-length-data e

pub perm-length : {A : Type 0} {xs ys : List A} → Perm xs ys → length xs ≡ length ys
perm-length {xs = xs} {ys = ys} p = ∥∥₁_elim p (ℕ_set (length xs) (length ys)) perm-length-data

pub left_comm : {A : Type 0} (xs ys zs : List A) → Perm (xs ++ (ys ++ zs)) (ys ++ (xs ++ zs))
left_comm xs ys zs =
    subst (λ l. Perm l (ys ++ (xs ++ zs))) (append_assoc xs ys zs)
    (subst (λ l. Perm ((xs ++ ys) ++ zs) l) (append_assoc ys xs zs) (Perm.append_right {l₁ = xs ++ ys} {l₂ = ys ++ xs} zs (perm_append_comm xs ys)))

pub shuffled : {A : Type 0} (cs bs ns os ms ps : List A) → Perm cs (ns ++ os) → Perm bs (ms ++ ps) →
    Perm (cs ++ bs) ((ns ++ ms) ++ (os ++ ps))
shuffled cs bs ns os ms ps p q =
    Perm.trans {l₂ = (ns ++ os) ++ (ms ++ ps)} (Perm.append {l₁ = cs} {l₂ = ns ++ os} {t₁ = bs} {t₂ = ms ++ ps} p q)
    (subst (λ l. Perm l ((ns ++ ms) ++ (os ++ ps))) (sym (append_assoc ns os (ms ++ ps)))
    (subst (λ l. Perm (ns ++ (os ++ (ms ++ ps))) l) (sym (append_assoc ns ms (os ++ ps)))
    (Perm.append_left {t₁ = os ++ (ms ++ ps)} {t₂ = ms ++ (os ++ ps)} ns (left_comm os ms ps))))
