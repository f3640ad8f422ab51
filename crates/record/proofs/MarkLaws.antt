-- The laws of marks in a schedule's record. Assumes nothing.
--     explore-here, explore-not        one thread
--     all-..                           the walk up that explores each
--     marks-..                         the states marked, by the target's state
use Prim.Native.Nat.{ℕ, zero, suc, ◌+◌, ◌*◌, ◌≤◌, ◌<◌}
use mathlib.Core.List.{List, [], ◌∷◌, map}
use mathlib.Core.Bool.{true, false}
use mathlib.Core.Path.{◌≡◌, refl, ap, sym, ◌∙◌}
use mathlib.Core.Logic.{◌≢◌}
use native.Mathlib.Omega.{arith}
use native.Mathlib.Numerals.{add-one}
use borrow.Author.Tests.{eq-eqb, ne_eqb}
use lib.Dec.{eqb}
use lib.ListN.{length, get_or, set, get_or-eq_default}
use lib.Seq.{set-get_or, set_out}
use Rattle.rules.specs.Path.{skip_to_pending, marked, skip, disabled, visited}
use Rattle.rules.proofs.MarkLaws.{is_skip, skips, made-same, made-set, made_all}
use Rattle.record.specs.Fields.{record_byte, with_record_byte, states_at, with_states_at}
use Rattle.record.specs.Schedules.{Explores, ExploresAll, RecordMarked}
use Rattle.record.proofs.StatesLaws.{length-states_at, state-at, state-put, states-same, states-now, states-again}

-- Lists of states

get_d_any : (l : List ℕ) (n d e : ℕ) → n < length l → get_or l n d ≡ get_or l n e
get_d_any [] n d e h = absurd (omega arith)
get_d_any (x ∷ l) zero d e h = refl
get_d_any (x ∷ l) (suc n) d e h = get_d_any l n d e (omega arith)

-- the first n explored
unfoldable pub explored_to : ℕ → List ℕ → List ℕ
explored_to zero l = l
explored_to (suc n) [] = []
explored_to (suc n) (x ∷ l) = skip_to_pending x ∷ explored_to n l

length_to : (n : ℕ) (l : List ℕ) → length (explored_to n l) ≡ length l
unfolding explored_to
length_to zero l = refl
length_to (suc n) [] = refl
length_to (suc n) (x ∷ l) = ap suc (length_to n l)

to-next : (n : ℕ) (l : List ℕ) → get_or (explored_to n l) n visited ≡ get_or l n visited
unfolding explored_to
to-next zero l = refl
to-next (suc n) [] = refl
to-next (suc n) (x ∷ l) = to-next n l

to-on : (n : ℕ) (l : List ℕ) → set (explored_to n l) n (skip_to_pending (get_or l n visited)) ≡ explored_to (suc n) l
unfolding explored_to
to-on zero [] = refl
to-on zero (x ∷ l) = refl
to-on (suc n) [] = refl
to-on (suc n) (x ∷ l) = ap (λ (y : List ℕ). skip_to_pending x ∷ y) (to-on n l)

to-all : (n : ℕ) (l : List ℕ) → length l ≤ n → explored_to n l ≡ map skip_to_pending l
unfolding explored_to
to-all zero [] h = refl
to-all zero (x ∷ l) h = absurd (omega arith)
to-all (suc n) [] h = refl
to-all (suc n) (x ∷ l) h = ap (λ (y : List ℕ). skip_to_pending x ∷ y) (to-all n l (omega arith))

-- of the first n, how many are Skip
unfoldable pub skips_to : ℕ → List ℕ → ℕ
skips_to zero l = 0
skips_to (suc n) [] = 0
skips_to (suc n) (x ∷ l) = is_skip x + skips_to n l

skips-on : (n : ℕ) (l : List ℕ) → skips_to n l + is_skip (get_or l n visited) ≡ skips_to (suc n) l
unfolding skips_to
skips-on zero [] = refl
skips-on zero (x ∷ l) = omega arith
skips-on (suc n) [] = refl
skips-on (suc n) (x ∷ l) = omega (arith, skips-on n l)

skips-all : (n : ℕ) (l : List ℕ) → length l ≤ n → skips_to n l ≡ skips l
unfolding skips_to skips
skips-all zero [] h = refl
skips-all zero (x ∷ l) h = absurd (omega arith)
skips-all (suc n) [] h = refl
skips-all (suc n) (x ∷ l) h = ap (λ (y : ℕ). is_skip x + y) (skips-all n l (omega arith))

module _ (bytes : List ℕ) (k : ℕ) (fits : 16 * k + 16 ≤ length bytes) where
  abbrev own : List ℕ
  own = states_at bytes k

  five : length own ≡ 5
  five = length-states_at bytes k fits

  -- One thread: f is the byte that was read

  module _ (t f : ℕ) (b : t < 5) (e : f ≡ record_byte bytes k (2 + t)) where
    state-is : f ≡ get_or own t visited
    state-is = e ∙ state-at bytes k fits t b ∙ get_d_any own t 0 visited (omega (arith, five))

    pub explore-here : f ≡ 1 → (exit : List ℕ) → exit ≡ with_record_byte bytes k (2 + t) 3 → Explores bytes exit k t 1
    explore-here q exit p =
        let z : eqb (get_or own t visited) skip ≡ true = eq-eqb (get_or own t visited) skip (sym state-is ∙ q) in
        record { few = omega arith; opens = sym (made-set own t ∙ rw z); puts = rw z (p ∙ state-put bytes k fits t 3 b) }

    pub explore-not : f ≢ 1 → Explores bytes bytes k t 0
    explore-not q =
        let z : eqb (get_or own t visited) skip ≡ false = ne_eqb (get_or own t visited) skip (λ w. q (state-is ∙ w)) in
        record {
          few = omega arith;
          opens = sym (made-set own t ∙ rw z);
          puts = rw z (sym (states-same bytes k fits) ∙ ap (with_states_at bytes k) (sym (set-get_or own t visited)));
        }

    pub marks-all : f ≡ 0 → (exit : List ℕ) (r : ℕ) → ExploresAll bytes exit k r → RecordMarked bytes exit k t r
    unfolding marked
    marks-all q exit r h =
        let z : eqb (get_or own t visited) disabled ≡ true = eq-eqb (get_or own t visited) disabled (sym state-is ∙ q) in
        record { few = h.few; puts = rw z h.puts; opens = rw z h.opens }

    pub marks-one : f ≢ 0 → (exit : List ℕ) (r : ℕ) → Explores bytes exit k t r → RecordMarked bytes exit k t r
    unfolding marked
    marks-one q exit r h =
        let z : eqb (get_or own t visited) disabled ≡ false = ne_eqb (get_or own t visited) disabled (λ w. q (state-is ∙ w)) in
        record { few = omega (arith, h.few); puts = rw z h.puts; opens = rw z h.opens }

  -- a thread that is none
  pub marks-none : (t : ℕ) → 5 ≤ t → RecordMarked bytes bytes k t 0
  unfolding marked
  marks-none t b =
      let z : get_or own t visited ≡ visited = get_or-eq_default own visited {n = t} (omega (arith, five)) in
      let o : set own t visited ≡ own = set_out own t visited (omega (arith, five)) in
      record {
        few = omega arith;
        puts = rw (z, o) (sym (states-same bytes k fits));
        opens = rw (z, o) (sym (made-same own));
      }

  -- All threads

  pub all_none : bytes ≡ with_states_at bytes k (explored_to 0 own)
  unfolding explored_to
  all_none = sym (states-same bytes k fits)

  pub skips-none : 0 ≡ skips_to 0 own
  unfolding skips_to
  skips-none = refl

  module _ (n : ℕ) (p : List ℕ) (e : p ≡ with_states_at bytes k (explored_to n own)) (q : List ℕ) (r : ℕ) (h : Explores p q k n r) where
    five-to : length (explored_to n own) ≡ 5
    five-to = length_to n own ∙ five

    own-now : states_at p k ≡ explored_to n own
    own-now = ap (λ (x : List ℕ). states_at x k) e ∙ states-now bytes k fits (explored_to n own) five-to

    state-now : get_or (states_at p k) n visited ≡ get_or own n visited
    state-now = ap (λ (x : List ℕ). get_or x n visited) own-now ∙ to-next n own

    pub all-on : q ≡ with_states_at bytes k (explored_to (n + 1) own)
    all-on =
        h.puts
        ∙ ap (λ (x : ℕ). with_states_at p k (set (states_at p k) n (skip_to_pending x))) state-now
        ∙ ap (λ (x : List ℕ). with_states_at p k (set x n (skip_to_pending (get_or own n visited)))) own-now
        ∙ ap (with_states_at p k) (to-on n own)
        ∙ ap (λ (x : List ℕ). with_states_at x k (explored_to (suc n) own)) e
        ∙ states-again bytes k fits (explored_to n own) five-to (explored_to (suc n) own)
        ∙ ap (λ (x : ℕ). with_states_at bytes k (explored_to x own)) (sym (add-one n))

    pub more-on : (m : ℕ) → m ≡ skips_to n own → m + r ≡ skips_to (n + 1) own
    more-on m f =
        let g : r ≡ is_skip (get_or own n visited) = h.opens ∙ made-set (states_at p k) n ∙ ap is_skip state-now in
        let s : skips_to (suc n) own ≡ skips_to (n + 1) own = ap (λ (x : ℕ). skips_to x own) (sym (add-one n)) in
        omega (arith, skips-on n own)

  pub all_done : (n : ℕ) (p : List ℕ) (r : ℕ) → 5 ≤ n → r ≤ 5 → p ≡ with_states_at bytes k (explored_to n own) → r ≡ skips_to n own → ExploresAll bytes p k r
  all_done n p r b few e f = record {
    few = few;
    opens = f ∙ skips-all n own (omega (arith, five)) ∙ sym (made_all own);
    puts = e ∙ ap (with_states_at bytes k) (to-all n own (omega (arith, five)));
  }
