-- The laws of a schedule's record. Assumes nothing.
--     Fewer, first-of-five, first-by, five-byte, five-alike      the threads of five
--     stands-exploring, -preemptions, -initial, -prev  what stands in its bytes
--     active-is, active-byte                           its Active thread
--     preempts-..                                      its preemptions
--     prev-..                                          the schedule before it
use Prim.Native.Nat.{ℕ, suc, ◌+◌, ◌*◌, ◌/◌, ◌%◌, ◌≤◌, ◌<◌}
use mathlib.Core.List.{List, [], ◌∷◌, ◌++◌}
use mathlib.Core.Bool.{Bool, true, false, cond}
use mathlib.Core.Path.{◌≡◌, refl, ap, sym, ◌∙◌}
use mathlib.Core.Logic.{◌≢◌}
use native.Mathlib.Omega.{arith}
use borrow.Author.Tests.{lt-ltb, le-ltb, eq-eqb, ne_eqb}
use lib.Dec.{ltb, eqb}
use lib.ListN.{length, get_or, replicate}
use lib.Seq.{get_or-append-add}
use Rattle.rules.specs.Vector.{Whom, nobody, thread, one_up}
use Rattle.rules.specs.Path.{Schedule, schedule, encoded, flag, first_in, active_in, active, active_of, or_none, preemptions_with}
use Rattle.record.specs.Fields.{record_byte, states_at}
use Rattle.record.specs.Places.{First, FoundBelow, found_as}
use Rattle.record.specs.Schedules.{byte_of, position_at, prev_in}
use Rattle.record.specs.Stands.{BranchStands}
use Rattle.std.specs.Prelude.{Option, Some, None}
use Rattle.std.specs.Option.{option_eq}
use Rattle.record.proofs.StandsLaws.{stands-field, stands-states, five-states}

-- The threads of five

abbrev pub Fewer : ℕ → Whom → Type 0
Fewer n nobody = Unit
Fewer n (thread t) = t < n

fewer-on : (b : Bool) (n : ℕ) (w : Whom) → Fewer n w → Fewer (suc n) (cond b (thread 0) (one_up w))
fewer-on true n w h = omega arith
fewer-on false n nobody h = tt
fewer-on false n (thread t) h = omega arith

first-fewer : (x : ℕ) (l : List ℕ) → Fewer (length l) (first_in x l)
unfolding first_in
first-fewer x [] = tt
first-fewer x (s ∷ l) = fewer-on (eqb s x) (length l) (first_in x l) (first-fewer x l)

pub first-of-five : (x : ℕ) (l : List ℕ) → length l ≡ 5 → Fewer 5 (first_in x l)
first-of-five x l e = rw e at (first-fewer x l)

pub first-by : (x : ℕ) (l : List ℕ) (r : Option ℕ) → length l ≡ 5 → r ≡ found_as (first_in x l) → First l x r
first-by x l r n e = record { few = rw e (below-five (first_in x l) (first-of-five x l n)); is = e }
  where
    below-five : (w : Whom) → Fewer 5 w → FoundBelow 5 (found_as w)
    below-five nobody h = tt
    below-five (thread t) h = h

pub five-byte : (w : Whom) → Fewer 5 w → byte_of (found_as w) ≡ or_none w
five-byte nobody h = refl
five-byte (thread t) h = rw (lt-ltb t 5 h) refl

pub five-alike : (v w : Whom) → Fewer 5 v → Fewer 5 w → option_eq eqb (found_as v) (found_as w) ≡ eqb (or_none v) (or_none w)
five-alike nobody nobody g h = refl
five-alike nobody (thread t) g h = sym (ne_eqb 255 t (λ e. omega arith))
five-alike (thread t) nobody g h = sym (ne_eqb t 255 (λ e. omega arith))
five-alike (thread t) (thread u) g h = refl

-- What stands in its bytes

pub flag_is : (b : Bool) → eqb (flag b) 1 ≡ b
flag_is true = refl
flag_is false = refl

module _ {bytes : List ℕ} {k : ℕ} {s : Schedule} (h : BranchStands bytes k (schedule s)) where
  pub stands-exploring : eqb (record_byte bytes k 1) 1 ≡ s.exploring
  unfolding encoded
  stands-exploring = ap (λ (x : ℕ). eqb x 1) (stands-field h 1 (omega arith)) ∙ flag_is s.exploring

  late : (r : List ℕ) (n m : ℕ) → m ≡ 5 + n → get_or (s.states ++ r) m 0 ≡ get_or r n 0
  late r n m e =
      let f : m ≡ length s.states + n = omega (arith, five-states h) in
      ap (λ (x : ℕ). get_or (s.states ++ r) x 0) f ∙ get_or-append-add s.states r n 0

  abbrev rest : List ℕ
  rest = s.preemptions ∷ s.initial ∷ s.prev % 256 ∷ s.prev / 256 ∷ replicate 5 0

  pub stands-preemptions : record_byte bytes k 7 ≡ s.preemptions
  unfolding encoded
  stands-preemptions = stands-field h 7 (omega arith) ∙ late rest 0 5 refl

  pub stands-initial : record_byte bytes k 8 ≡ s.initial
  unfolding encoded
  stands-initial = stands-field h 8 (omega arith) ∙ late rest 1 6 refl

  low : record_byte bytes k 9 ≡ s.prev % 256
  unfolding encoded
  low = stands-field h 9 (omega arith) ∙ late rest 2 7 refl

  high : record_byte bytes k 10 ≡ s.prev / 256
  unfolding encoded
  high = stands-field h 10 (omega arith) ∙ late rest 3 8 refl

  pub stands-prev : position_at bytes k ≡ s.prev
  stands-prev = omega (arith, low, high)

  -- Its Active thread

  pub active-is : (r : Option ℕ) → First (states_at bytes k) active r → r ≡ found_as (active_in s.states)
  active-is r f = f.is ∙ ap (λ (x : List ℕ). found_as (first_in active x)) (stands-states h)

  pub active-byte : (r : Option ℕ) → First (states_at bytes k) active r → byte_of r ≡ active_of s
  unfolding active_of
  active-byte r f = ap byte_of (active-is r f) ∙ five-byte (active_in s.states) (first-of-five active s.states (five-states h))

  -- Its preemptions

  module _ (p i : ℕ) (e : p ≡ record_byte bytes k 7) (f : i ≡ record_byte bytes k 8) where
    pub preempts-none : i ≡ 255 → p ≡ preemptions_with s
    unfolding preemptions_with
    preempts-none n = let z : eqb s.initial 255 ≡ true = eq-eqb s.initial 255 (sym stands-initial ∙ sym f ∙ n) in rw z (e ∙ stands-preemptions)

    module _ (r : Option ℕ) (g : First (states_at bytes k) active r) (n : i ≢ 255) where
      other-than : eqb s.initial 255 ≡ false
      other-than = ne_eqb s.initial 255 (λ q. n (f ∙ stands-initial ∙ q))

      pub preempts-same : i ≡ byte_of r → p ≡ preemptions_with s
      unfolding preemptions_with
      preempts-same q =
          let z : eqb s.initial (active_of s) ≡ true = eq-eqb s.initial (active_of s) (sym stands-initial ∙ sym f ∙ q ∙ active-byte r g) in
          rw (other-than, z) (e ∙ stands-preemptions)

      pub preempts-more : i ≢ byte_of r → p + 1 ≡ preemptions_with s
      unfolding preemptions_with
      preempts-more q =
          let z : eqb s.initial (active_of s) ≡ false = ne_eqb s.initial (active_of s) (λ w. q (f ∙ stands-initial ∙ w ∙ sym (active-byte r g))) in
          rw (other-than, z) (ap (λ (x : ℕ). x + 1) (e ∙ stands-preemptions))

-- The schedule before it, with the position as it was read

module _ (bytes : List ℕ) (k low high : ℕ) (e : low ≡ record_byte bytes k 9) (f : high ≡ record_byte bytes k 10) where
  position-is : low + 256 * high ≡ position_at bytes k
  position-is = omega arith

  pub prev-above : k ≤ low + 256 * high → None ≡ prev_in bytes k
  unfolding prev_in
  prev-above b = let z : ltb (position_at bytes k) k ≡ false = le-ltb (position_at bytes k) k (omega arith) in rw z

  module _ (b : low + 256 * high < k) (kind : Bool) (g : kind ≡ eqb (record_byte bytes (low + 256 * high) 0) 1) where
    below-it : ltb (position_at bytes k) k ≡ true
    below-it = lt-ltb (position_at bytes k) k (omega arith)

    kind-is : kind ≡ eqb (record_byte bytes (position_at bytes k) 0) 1
    kind-is = g ∙ ap (λ (x : ℕ). eqb (record_byte bytes x 0) 1) position-is

    pub prev-other : kind ≡ false → None ≡ prev_in bytes k
    unfolding prev_in
    prev-other q = rw (below-it, ← kind-is, q)

    pub prev-there : kind ≡ true → Some (low + 256 * high) ≡ prev_in bytes k
    unfolding prev_in
    prev-there q = rw (below-it, ← kind-is, q) (ap Some position-is)
