-- The threads' vectors only grow, and no part of what flows into them is above a number. Assumes nothing.
--     Flows, Bounded                   the vectors that flow into a thread's, and that their parts are at most n
--     Grows                            no thread's vector has fallen, and what was bounded by n is bounded by m
--     join-grows .. fenced-grows       what is done to the vectors
use Prim.Native.Nat.{ℕ, zero, suc, ◌+◌, ◌≤◌, ◌<◌}
use mathlib.Core.List.{List, [], ◌∷◌}
use mathlib.Core.Bool.{true, cond}
use mathlib.Core.Path.{◌≡◌, refl, ap}
use native.Mathlib.Omega.{arith}
use lib.Dec.{ltb, eqb}
use lib.ListN.{get_or, set}
use Rattle.rules.specs.Vector.{at_most, joined, raised, one_more, largest}
use Rattle.rules.proofs.VectorLaws.{at_most-refl, at_most-trans, at_most-made, joined-left, joined-part, length-raised}
use Rattle.rules.specs.State.{Clocks, Marks, Numbers, Vector, vector, with_vector, vector_at, store_at, threads, number, marks_of}
use Rattle.rules.specs.State.{causality, released, seq_cst, happens_before, modification_order, sync, schedule_of, count}
use Rattle.rules.specs.Cell
use Rattle.rules.specs.Cell.{join_into, acquires, releases, Race, no_race, race_of, recorded, with_store, kth_oldest, seen_by}
use Rattle.rules.proofs.MeasureRows.{pick}

-- what stands at a place after a write there or elsewhere
pub set-has : {A : Type 0} (P : A → Type 0) (xs : List A) (at k : ℕ) (x d : A) → P (get_or xs k d) → (k ≡ at → P x) →
    P (get_or (set xs at x) k d)
set-has P [] at k x d old new = old
set-has P (y ∷ ys) zero zero x d old new = new refl
set-has P (y ∷ ys) zero (suc k) x d old new = old
set-has P (y ∷ ys) (suc at) zero x d old new = old
set-has P (y ∷ ys) (suc at) (suc k) x d old new = set-has P ys at k x d old (λ e. new (ap suc e))

-- Parts

abbrev pub Small : ℕ → List ℕ → Type 0
Small n xs = (j : ℕ) → get_or xs j 0 ≤ n

small-joined : (n : ℕ) (xs ys : List ℕ) → Small n xs → Small n ys → Small n (joined xs ys)
small-joined n xs ys p q j = omega (arith, joined-part xs ys j, p j, q j)

more-most : (x n : ℕ) → x ≤ n → one_more x ≤ n + 1
more-most x n h = pick (λ (y : ℕ). y ≤ n + 1) (ltb x largest) (λ e. omega arith) (λ e. omega arith)

more-least : (x : ℕ) → x ≤ one_more x
more-least x = pick (λ (y : ℕ). x ≤ y) (ltb x largest) (λ e. omega arith) (λ e. omega arith)

small-raised : (n : ℕ) (xs : List ℕ) (t : ℕ) → Small n xs → Small (n + 1) (raised xs t)
unfolding raised
small-raised n xs t p j =
    set-has (λ (x : ℕ). x ≤ n + 1) xs t j (one_more (get_or xs t 0)) 0 (omega (arith, p j)) (λ e. more-most (get_or xs t 0) n (p t))

raised-most : (xs : List ℕ) (t : ℕ) → at_most xs (raised xs t) ≡ true
unfolding raised
raised-most xs t =
    at_most-made xs (raised xs t) (omega (arith, length-raised xs t))
    (λ k b. set-has (λ (x : ℕ). get_or xs k 0 ≤ x) xs t k (one_more (get_or xs t 0)) 0 (omega arith)
    (λ e. rw e (more-least (get_or xs t 0))))

-- Vectors

-- the places of the vectors that flow into a thread's causality: the threads' own and what they have released, the global one,
-- and what stores hand on. Those of plain cells stand behind these: they do not flow, but are bounded as well
pub data Flows : ℕ → Type 0 where
  low : {k : ℕ} → k < 10 → Flows k
  global : {k : ℕ} → k ≡ 15 → Flows k
  high : {k : ℕ} → 96 ≤ k → Flows k

abbrev pub Bounded : ℕ → Clocks → Type 0
Bounded n clocks = (k : ℕ) → Flows k → Small n (get_or clocks k [])

pub record Grows (n m : ℕ) (a b : Clocks) : Type 0 where
  pub grown : (t : ℕ) → t < threads → at_most (vector a (causality t)) (vector b (causality t)) ≡ true
  pub bounded : Bounded n a → Bounded m b

pub grows-refl : (n : ℕ) (a : Clocks) → Grows n n a a
grows-refl n a = record { grown = λ t h. at_most-refl (vector a (causality t)); bounded = λ b. b }

pub grows-more : (n m : ℕ) (a : Clocks) → n ≤ m → Grows n m a a
grows-more n m a h = record { grown = λ t l. at_most-refl (vector a (causality t)); bounded = λ b k f j. omega (arith, b k f j) }

pub grows-trans : {n m l : ℕ} {a b c : Clocks} → Grows n m a b → Grows m l b c → Grows n l a c
grows-trans {n} {m} {l} {a} {b} {c} p q = record {
  grown = λ t h.
      at_most-trans (vector a (causality t)) (vector b (causality t)) (vector c (causality t)) (p.grown t h) (q.grown t h);
  bounded = λ x. q.bounded (p.bounded x);
}

-- a vector is written: a thread's own only grows, and what flows is bounded
pub write-grown : (a : Clocks) (v : Vector) (parts : List ℕ) (t : ℕ) →
    (vector_at (causality t) ≡ vector_at v → at_most (vector a (causality t)) parts ≡ true) →
    at_most (vector a (causality t)) (vector (with_vector a v parts) (causality t)) ≡ true
write-grown a v parts t own =
    set-has (λ (xs : List ℕ). at_most (vector a (causality t)) xs ≡ true) a (vector_at v) (vector_at (causality t)) parts []
    (at_most-refl (vector a (causality t))) own

pub write-bounded : (n m : ℕ) (a : Clocks) (v : Vector) (parts : List ℕ) → n ≤ m → Bounded n a →
    (Flows (vector_at v) → Small m parts) →
    Bounded m (with_vector a v parts)
write-bounded n m a v parts more b flows k f j =
    set-has (λ (xs : List ℕ). get_or xs j 0 ≤ m) a (vector_at v) k parts [] (omega (arith, b k f j)) (λ e. flows (rw e at f) j)

pub write-grows : (n m : ℕ) (a : Clocks) (v : Vector) (parts : List ℕ) → n ≤ m →
    ((t : ℕ) → t < threads → vector_at (causality t) ≡ vector_at v → at_most (vector a (causality t)) parts ≡ true) →
    (Bounded n a → Flows (vector_at v) → Small m parts) → Grows n m a (with_vector a v parts)
write-grows n m a v parts more own flows = record {
  grown = λ t h. write-grown a v parts t (own t h);
  bounded = λ b. write-bounded n m a v parts more b (flows b);
}

-- one that is no thread's own
pub aside_grows : (n : ℕ) (a : Clocks) (v : Vector) (parts : List ℕ) → 5 ≤ vector_at v →
    (Bounded n a → Flows (vector_at v) → Small n parts) → Grows n n a (with_vector a v parts)
aside_grows n a v parts h flows = write-grows n n a v parts (omega arith) (λ t l e. absurd (omega arith)) flows

-- it takes in another that flows if it does
pub join-grows : (n : ℕ) (a : Clocks) (v w : Vector) → (Flows (vector_at v) → Flows (vector_at w)) → Grows n n a (join_into a v w)
join-grows n a v w both =
    write-grows n n a v (joined (vector a v) (vector a w)) (omega arith)
    (λ t h e. rw e (joined-left (vector a v) (vector a w)))
    (λ b f. small-joined n (vector a v) (vector a w) (b (vector_at v) f) (b (vector_at w) (both f)))

-- one of those between, which do not flow
pub none-flows : (k : ℕ) → 16 ≤ k → k < 96 → Flows k → ⊥
none-flows k h l (low b) = omega arith
none-flows k h l (global e) = omega arith
none-flows k h l (high b) = omega arith

pub schedule-flows : (k : ℕ) → 10 ≤ k → k < 15 → Flows k → ⊥
schedule-flows k h l (low b) = omega arith
schedule-flows k h l (global e) = omega arith
schedule-flows k h l (high b) = omega arith

-- What the accesses do

module _ (n : ℕ) (a : Clocks) where
  pub load-sync-grows : (t store o : ℕ) → Grows n n a (Cell.load_synced a t store o)
  unfolding Cell.load_synced
  load-sync-grows t store o =
      pick (Grows n n a) (acquires o) (λ e. join-grows n a (causality t) (sync store) (λ f. high (omega arith)))
      (λ e. grows-refl n a)

  pub recorded-grows : (r : Race) (v : Vector) (t : ℕ) → t < threads → Grows n n a (recorded r a v t)
  recorded-grows no_race v t h = join-grows n a v (causality t) (λ f. low (omega arith))
  recorded-grows (race_of kind other) v t h = grows-refl n a

  -- a release or an acquire, of a store's sync vector
  pub small-synced : (t : ℕ) (s : List ℕ) (o : ℕ) → t < threads → Bounded n a → Small n s → Small n (Cell.store_synced a t s o)
  unfolding Cell.store_synced
  small-synced t s o h b p =
      let r = small-joined n s (vector a (released t)) p (b (vector_at (released t)) (low (omega arith))) in
      pick (Small n) (releases o)
      (λ e. small-joined n (joined s (vector a (released t))) (vector a (causality t)) r
      (b (vector_at (causality t)) (low (omega arith))))
      (λ e. r)

  pub coherent-grows : (rows : List (List ℕ)) (numbers : Numbers) (t c slot : ℕ) → c < 4 → slot < 7 →
      Grows n n a (Cell.coherent a rows numbers t c slot)
  unfolding Cell.coherent
  coherent-grows rows numbers t c slot h l =
      aside_grows n a (modification_order (store_at c slot)) _ (omega arith)
      (λ b f. absurd (none-flows (vector_at (modification_order (store_at c slot))) (omega arith) (omega arith) f))

  -- a store's three vectors
  pub store-grows : (t store : ℕ) (so s : List ℕ) → t < threads → store < 28 → (Bounded n a → Small n s) →
      Grows n n a (with_store a store (vector a (causality t)) so s)
  store-grows t store so s h l p =
      let hb = vector a (causality t) in
      let a1 = with_vector a (happens_before store) hb in
      let a2 = with_vector a1 (modification_order store) so in
      record {
        grown = λ u k.
            let at = causality u in
            at_most-trans (vector a at) (vector a2 at) (vector (with_vector a2 (sync store) s) at)
            (at_most-trans (vector a at) (vector a1 at) (vector a2 at)
            (write-grown a (happens_before store) hb u (λ e. absurd (omega arith)))
            (write-grown a1 (modification_order store) so u (λ e. absurd (omega arith))))
            (write-grown a2 (sync store) s u (λ e. absurd (omega arith)));
        bounded = λ b.
            write-bounded n n a2 (sync store) s (omega arith)
            (write-bounded n n a1 (modification_order store) so (omega arith)
            (write-bounded n n a (happens_before store) hb (omega arith) b (λ f. b (vector_at (causality t)) (low (omega arith))))
            (λ f. absurd (none-flows (vector_at (modification_order store)) (omega arith) (omega arith) f)))
            (λ f. p b);
      }

  -- "raise the own version, by 1"
  pub raise-grows : (t : ℕ) → t < threads → Grows n (n + 1) a (with_vector a (causality t) (raised (vector a (causality t)) t))
  raise-grows t h =
      write-grows n (n + 1) a (causality t) (raised (vector a (causality t)) t) (omega arith)
      (λ u k e. rw e (raised-most (vector a (causality t)) t))
      (λ b f. small-raised n (vector a (causality t)) t (b (vector_at (causality t)) f))

  -- a schedule vector, which nothing of these takes in
  pub schedule-grows : (t : ℕ) (parts : List ℕ) → t < threads → Grows n n a (with_vector a (schedule_of t) parts)
  schedule-grows t parts h =
      aside_grows n a (schedule_of t) parts (omega arith)
      (λ b f. absurd (schedule-flows (vector_at (schedule_of t)) (omega arith) (omega arith) f))

  pub access-grows : (v : Vector) (parts : List ℕ) → 32 ≤ vector_at v → vector_at v < 40 → Grows n n a (with_vector a v parts)
  access-grows v parts h l =
      aside_grows n a v parts (omega arith) (λ b f. absurd (none-flows (vector_at v) (omega arith) (omega arith) f))

-- Fences

module _ (n : ℕ) where
  acquired-grows : (a : Clocks) (rows : List (List ℕ)) (cnt t c left k : ℕ) →
      Grows n n a (Cell.acquired_from a rows cnt t c left k)
  unfolding Cell.acquired_from
  acquired-grows a rows cnt t c zero k = grows-refl n a
  acquired-grows a rows cnt t c (suc left) k =
      grows-trans
      (pick (Grows n n a) (seen_by a rows t (kth_oldest cnt k))
      (λ e. join-grows n a (causality t) (sync (store_at c (kth_oldest cnt k))) (λ f. high (omega arith))) (λ e. grows-refl n a))
      (acquired-grows
      (cond (seen_by a rows t (kth_oldest cnt k)) (join_into a (causality t) (sync (store_at c (kth_oldest cnt k)))) a)
      rows cnt t c left (k + 1))

  cells-grow : (a : Clocks) (marks : Marks) (numbers : Numbers) (t left c : ℕ) →
      Grows n n a (Cell.cells_acquired a marks numbers t left c)
  unfolding Cell.cells_acquired Cell.cell_acquired
  cells-grow a marks numbers t zero c = grows-refl n a
  cells-grow a marks numbers t (suc left) c =
      grows-trans (acquired-grows a (marks_of marks c) (number numbers (count c)) t c _ 0)
      (cells-grow (Cell.cell_acquired a (marks_of marks c) (number numbers (count c)) t c) marks numbers t left (c + 1))

  acquire-grows : (a : Clocks) (marks : Marks) (numbers : Numbers) (t cells : ℕ) →
      Grows n n a (Cell.fence_acquired a marks numbers t cells)
  unfolding Cell.fence_acquired
  acquire-grows a marks numbers t cells = cells-grow a marks numbers t cells 0

  release-grows : (a : Clocks) (t : ℕ) → t < threads → Grows n n a (Cell.fence_released a t)
  unfolding Cell.fence_released
  release-grows a t h =
      aside_grows n a (released t) (vector a (causality t)) (omega arith) (λ b f. b (vector_at (causality t)) (low (omega arith)))

  global-grows : (a : Clocks) (t : ℕ) → t < threads → Grows n n a (Cell.fence_seq_cst a t)
  unfolding Cell.fence_seq_cst
  global-grows a t h =
      grows-trans (join-grows n a (causality t) seq_cst (λ f. global refl))
      (join-grows n (join_into a (causality t) seq_cst) seq_cst (causality t) (λ f. low (omega arith)))

  pub fenced-grows : (a : Clocks) (marks : Marks) (numbers : Numbers) (t cells o : ℕ) → t < threads →
      Grows n n a (Cell.fenced a marks numbers t cells o)
  unfolding Cell.fenced
  fenced-grows a marks numbers t cells o h =
      let acquired = acquire-grows a marks numbers t cells in
      let both = grows-trans acquired (release-grows (Cell.fence_acquired a marks numbers t cells) t h) in
      pick (Grows n n a) (eqb o 1) (λ e. release-grows a t h)
      (λ e. pick (Grows n n a) (eqb o 2) (λ e. acquired)
      (λ e. pick (Grows n n a) (eqb o 3) (λ e. both)
      (λ e. pick (Grows n n a) (eqb o 4) (λ e. grows-trans both (global-grows _ t h)) (λ e. grows-refl n a))))
