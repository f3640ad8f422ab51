-- The start of each execution: no mark is above its thread's version. Assumes nothing.
--     start-sound        with every part at most 2
use Prim.Native.Nat.{ℕ, zero, suc, ◌+◌, ◌≤◌, ◌<◌}
use mathlib.Core.List.{List, [], ◌∷◌}
use mathlib.Core.Bool.{Bool}
use mathlib.Core.Path.{◌≡◌, refl}
use mathlib.Core.Logic.{inl, inr}
use native.Mathlib.Omega.{arith}
use lib.ListN.{length, get_or, set, replicate, length-replicate}
use Rattle.rules.specs.Vector.{zeros}
use Rattle.rules.specs.Seen.{unseen, unseens}
use Rattle.rules.specs.Table.{threads_of, cells_of, plains_of, start_value}
use Rattle.rules.specs.State.{State, Clocks, Marks, with_vector, vector_at, threads, cells, history, vectors_held, causality, mutated}
use Rattle.rules.specs.Cell.{with_clocks, version, join_into}
use Rattle.rules.specs.Machine
use Rattle.rules.specs.Machine.{Program, start, first_causality}
use Rattle.offers.proofs.Growing.{set-has, Small, low, write-bounded, join-grows}
use Rattle.offers.proofs.Sight.{Marked, row_in, Sound, sound-grows}
use Rattle.offers.proofs.Steps.{SoundState, calm_more, store-sound}
use Rattle.offers.proofs.Moves.{small-zeros}
use Rattle.offers.proofs.Accessing.{plain-write-calm}

pub replicate-has : {A : Type 0} (P : A → Type 0) (n k : ℕ) (x d : A) → P x → P d → P (get_or (replicate n x) k d)
replicate-has P zero k x d p q = q
replicate-has P (suc n) zero x d p q = p
replicate-has P (suc n) (suc k) x d p q = replicate-has P n k x d p q

replicate-in : {A : Type 0} (P : A → Type 0) (n k : ℕ) (x d : A) → k < n → P x → P (get_or (replicate n x) k d)
replicate-in P zero k x d h p = absurd (omega arith)
replicate-in P (suc n) zero x d h p = p
replicate-in P (suc n) (suc k) x d h p = replicate-in P n k x d (omega arith) p

-- the marks of a store that no thread has seen
unmarked : (c i t v : ℕ) → Marked (row_in (replicate cells (replicate history (unseens threads))) c i) t v
unmarked c i t v =
    replicate-has (λ (rows : List (List ℕ)). Marked (get_or rows i []) t v) cells c (replicate history (unseens threads)) []
    (replicate-has (λ (row : List ℕ). Marked row t v) history i (unseens threads) []
    (inl (replicate-has (λ (x : ℕ). x ≡ unseen) threads t unseen unseen refl refl)) (inl refl))
    (inl refl)

blank-sound : (n : ℕ) (explores : Bool) → SoundState n (Machine.blank explores)
unfolding Machine.blank
blank-sound n explores = record {
  long = λ t h.
      replicate-in (λ (xs : List ℕ). 5 ≤ length xs) vectors_held (vector_at (causality t)) (zeros threads) [] (omega arith)
      (omega arith);
  bounded = λ k f j.
      replicate-has (λ (xs : List ℕ). get_or xs j 0 ≤ n) vectors_held k (zeros threads) [] (small-zeros n j) (omega arith);
  held = omega (arith, length-replicate {A = List (List ℕ)} cells (replicate history (unseens threads)));
  rows = λ c h.
      replicate-in (λ (rows : List (List ℕ)). 7 ≤ length rows) cells c (replicate history (unseens threads)) [] h (omega arith);
  wide = λ c i h l.
      replicate-in (λ (rows : List (List ℕ)). 5 ≤ length (get_or rows i [])) cells c (replicate history (unseens threads)) [] h
      (replicate-in (λ (row : List ℕ). 5 ≤ length row) history i (unseens threads) [] l (omega arith));
  marked = λ c i t h. unmarked c i t _;
}

-- a thread's vector is made anew, its own part no lower than its marks
made-sound : (n : ℕ) (clocks : Clocks) (marks : Marks) (t : ℕ) (parts : List ℕ) → t < threads → 5 ≤ length parts → Small n parts →
    ((c i : ℕ) → Marked (row_in marks c i) t (get_or parts t 0)) → Sound n clocks marks →
    Sound n (with_vector clocks (causality t) parts) marks
made-sound n clocks marks t parts below five small own s = record {
  long = λ u h.
      set-has (λ (xs : List ℕ). 5 ≤ length xs) clocks (vector_at (causality t)) (vector_at (causality u)) parts [] (s.long u h)
      (λ e. five);
  bounded = write-bounded n n clocks (causality t) parts (omega arith) s.bounded (λ f. small);
  held = s.held;
  rows = s.rows;
  wide = s.wide;
  marked = λ c i u h.
      set-has (λ (xs : List ℕ). Marked (row_in marks c i) u (get_or xs u 0)) clocks (vector_at (causality t))
      (vector_at (causality u)) parts []
      (s.marked c i u h) (λ e. let f : u ≡ t = omega arith in rw f (own c i));
}

-- cells are made
cells-sound : (table : List ℕ) (n left c : ℕ) (st : State) → c + left ≤ cells → SoundState n st →
    SoundState n (Machine.cells_made table st left c)
unfolding Machine.cells_made
cells-sound table n zero c st h s = s
cells-sound table n (suc left) c st h s =
    let open-to = join_into st.clocks (mutated c) (causality 0) in
    let one =
    sound-grows n n st.clocks open-to st.marks
    (join-grows n st.clocks (mutated c) (causality 0) (λ f. low (omega arith))) s in
    cells-sound table n left (c + 1) (Machine.cell_made table st c) (omega arith)
    (store-sound n (with_clocks st open-to) 0 c (zeros threads) (start_value table c) 1 (omega arith) (omega arith) one
    (λ b. small-zeros n))

-- plain cells are made
plains-sound : (table : List ℕ) (n left c : ℕ) (st : State) → SoundState n st → SoundState n (Machine.plains_made table st left c)
unfolding Machine.plains_made
plains-sound table n zero c st s = s
plains-sound table n (suc left) c st s =
    plains-sound table n left (c + 1) (Machine.plain_made table st c)
    ((plain-write-calm 0 n (omega arith) st c (start_value table (cells_of table + c))).sound s)

-- "then thread 0 is (2,0,0,0,0), each other thread has 1 at place 0 and 1 at its own"
record First (t : ℕ) : Type 0 where
  five : 5 ≤ length (first_causality t)
  small : Small 2 (first_causality t)
  own : 1 ≤ get_or (first_causality t) t 0

small-five : (a b c d e n : ℕ) → a ≤ n → b ≤ n → c ≤ n → d ≤ n → e ≤ n → Small n (a ∷ b ∷ c ∷ d ∷ e ∷ [])
small-five a b c d e n p q r s t zero = p
small-five a b c d e n p q r s t (suc zero) = q
small-five a b c d e n p q r s t (suc (suc zero)) = r
small-five a b c d e n p q r s t (suc (suc (suc zero))) = s
small-five a b c d e n p q r s t (suc (suc (suc (suc zero)))) = t
small-five a b c d e n p q r s t (suc (suc (suc (suc (suc j))))) = omega arith

two : (a b c d e : ℕ) → (a ≤ 2) × (b ≤ 2) × (c ≤ 2) × (d ≤ 2) × (e ≤ 2) → Small 2 (a ∷ b ∷ c ∷ d ∷ e ∷ [])
two a b c d e h = small-five a b c d e 2 h.0 h.1 h.2 h.3 h.4

first : (t : ℕ) → t < threads → First t
first zero h = record { five = omega arith; small = two 2 0 0 0 0 (omega arith); own = omega arith }
first (suc zero) h = record { five = omega arith; small = two 1 1 0 0 0 (omega arith); own = omega arith }
first (suc (suc zero)) h = record { five = omega arith; small = two 1 0 1 0 0 (omega arith); own = omega arith }
first (suc (suc (suc zero))) h = record { five = omega arith; small = two 1 0 0 1 0 (omega arith); own = omega arith }
first (suc (suc (suc (suc zero)))) h = record { five = omega arith; small = two 1 0 0 0 1 (omega arith); own = omega arith }
first (suc (suc (suc (suc (suc t))))) h = absurd (omega arith)

-- no mark is above 1
abbrev LowMarks : Marks → Type 0
LowMarks marks = (c i t : ℕ) → t < threads → Marked (row_in marks c i) t 1

marked-up : (row : List ℕ) (t v w : ℕ) → v ≤ w → Marked row t v → Marked row t w
marked-up row t v w h (inl e) = inl e
marked-up row t v w h (inr l) = inr (omega arith)

threads-sound : (left t : ℕ) (st : State) → t + left ≤ threads → LowMarks st.marks → SoundState 2 st →
    SoundState 2 (Machine.threads_started st left t)
unfolding Machine.threads_started
threads-sound zero t st h ones s = s
threads-sound (suc left) t st h ones s =
    let f = first t (omega arith) in
    threads-sound left (t + 1) (Machine.thread_started st t) (omega arith) ones
    (made-sound 2 st.clocks st.marks t (first_causality t) (omega arith) f.five f.small
    (λ c i. marked-up (row_in st.marks c i) t 1 _ f.own (ones c i t (omega arith))) s)

module _ (p : Program) (few : threads_of p.table ≤ threads) (held : cells_of p.table ≤ cells) where
  abbrev made : State
  made =
      Machine.plains_made p.table
      (Machine.cells_made p.table (Machine.thread0_making (Machine.blank p.exploring)) (cells_of p.table) 0)
      (plains_of p.table) 0

  making-sound : SoundState 1 (Machine.thread0_making (Machine.blank p.exploring))
  unfolding Machine.blank
  making-sound =
      made-sound 1 (Machine.blank p.exploring).clocks (Machine.blank p.exploring).marks 0 (set (zeros threads) 0 1)
      (omega arith) (omega arith)
      (small-five 1 0 0 0 0 1 (omega arith) (omega arith) (omega arith) (omega arith) (omega arith)) (λ c i. unmarked c i 0 1)
      (blank-sound 1 p.exploring)

  made_so : SoundState 1 made
  made_so =
      plains-sound p.table 1 (plains_of p.table) 0 _
      (cells-sound p.table 1 (cells_of p.table) 0 _ (omega arith) making-sound)

  pub start-sound : SoundState 2 (start p)
  unfolding start
  start-sound =
      threads-sound (threads_of p.table) 0 made (omega arith)
      (λ c i t h. marked-up (row_in made.marks c i) t (version made.clocks t) 1
      (made_so.bounded (vector_at (causality t)) (low (omega arith)) t) (made_so.marked c i t h))
      ((calm_more 1 2 made (omega arith)).sound made_so)
