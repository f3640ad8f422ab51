-- The laws of a schedule that is written. Assumes nothing.
--     toggled-..                       the first Yield made Active
--     initial-..                       the initial active thread
--     prev-put                         the two bytes of prev
use Prim.Native.Nat.{ℕ, ◌+◌, ◌*◌, ◌/◌, ◌%◌, ◌≤◌}
use mathlib.Core.List.{List}
use mathlib.Core.Path.{◌≡◌, refl, ap, sym, ◌∙◌}
use lib.Dec.{eqb}
use lib.ListN.{length, length-set}
use Rattle.rules.specs.Vector.{Whom, nobody, thread}
use Rattle.rules.specs.Path.{first_in, active_in, active, yield, or_none, to_active, unless_active, toggled}
use Rattle.record.specs.Fields.{with_record_byte, states_at, with_states_at}
use Rattle.record.specs.Places.{First, found_as}
use Rattle.record.specs.Schedules.{byte_of, initial_at}
use Rattle.std.specs.Prelude.{Option, Some, None, is_some, true, false, not}
use Rattle.std.specs.Option.{option_eq}
use borrow.Author.Tests.{not-true, not-false}
use Rattle.record.proofs.Places.{none_of, some_of}
use Rattle.record.proofs.StatesLaws.{length-states_at, state-put, states-same}
use Rattle.record.proofs.ScheduleLaws.{Fewer, first-of-five, five-byte, five-alike}

length-to_active : (w : Whom) (l : List ℕ) → length (to_active w l) ≡ length l
length-to_active nobody l = refl
length-to_active (thread t) l = length-set l t active

length-unless : (w : Whom) (l : List ℕ) → length (unless_active w l) ≡ length l
length-unless nobody l = length-to_active (first_in yield l) l
length-unless (thread t) l = refl

pub length-toggled : (l : List ℕ) → length (toggled l) ≡ length l
unfolding toggled
length-toggled l = length-unless (active_in l) l

module _ (bytes : List ℕ) (k : ℕ) (fits : 16 * k + 16 ≤ length bytes) where
  abbrev own : List ℕ
  own = states_at bytes k

  few : (x : ℕ) → Fewer 5 (first_in x own)
  few x = first-of-five x own (length-states_at bytes k fits)

  found : (x r : ℕ) → First own x (Some r) → first_in x own ≡ thread r
  found x r f = some_of (first_in x own) r f.is

  missing : (x : ℕ) → First own x None → first_in x own ≡ nobody
  missing x f = none_of (first_in x own) f.is

  -- The first Yield

  pub toggled-kept : (a : Option ℕ) → First own active a → is_some a ≡ true → bytes ≡ with_states_at bytes k (toggled own)
  unfolding toggled
  toggled-kept None f h = cc
  toggled-kept (Some a) f h = rw (found active a f) (sym (states-same bytes k fits))

  pub toggled-none : (a : Option ℕ) → First own active a → is_some a ≡ false → First own yield None → bytes ≡ with_states_at bytes k (toggled own)
  unfolding toggled
  toggled-none None f h g = rw (missing active f, missing yield g) (sym (states-same bytes k fits))
  toggled-none (Some a) f h g = cc

  pub toggled-put : (a : Option ℕ) → First own active a → is_some a ≡ false → (y : ℕ) → First own yield (Some y) → (q : List ℕ) → q ≡ with_record_byte bytes k (2 + y) 4 → q ≡ with_states_at bytes k (toggled own)
  unfolding toggled
  toggled-put None f h y g q e = rw (missing active f, found yield y g) (e ∙ state-put bytes k fits y 4 g.few)
  toggled-put (Some a) f h y g q e = cc

  -- The initial active thread

  module _ (a : Option ℕ) (f : First own active a) where
    own-byte : byte_of a ≡ or_none (active_in own)
    own-byte = ap byte_of f.is ∙ five-byte (active_in own) (few active)

    pub initial-first : (prev : Option ℕ) (r : ℕ) → prev ≡ None → r ≡ byte_of a → r ≡ initial_at bytes k prev
    initial-first prev r e g = rw e (g ∙ own-byte)

    module _ (prev : Option ℕ) (p : ℕ) (b : Option ℕ) (room : 16 * p + 16 ≤ length bytes) (e : prev ≡ Some p) (g : First (states_at bytes p) active b) where
      alike : option_eq eqb a b ≡ eqb (or_none (active_in own)) (or_none (active_in (states_at bytes p)))
      alike =
          ap (λ (x : Option ℕ). option_eq eqb x b) f.is
          ∙ ap (λ (x : Option ℕ). option_eq eqb (found_as (active_in own)) x) g.is
          ∙ five-alike (active_in own) (active_in (states_at bytes p)) (few active) (first-of-five active (states_at bytes p) (length-states_at bytes p room))

      pub initial-other : not (option_eq eqb a b) ≡ true → 255 ≡ initial_at bytes k prev
      initial-other n = rw (e, ← alike, not-true (option_eq eqb a b) n)

      pub initial-same : not (option_eq eqb a b) ≡ false → (r : ℕ) → r ≡ byte_of a → r ≡ initial_at bytes k prev
      initial-same n r q = rw (e, ← alike, not-false (option_eq eqb a b) n) (q ∙ own-byte)

pub prev-put : (bytes : List ℕ) (k : ℕ) (p q : List ℕ) (n m : ℕ) → p ≡ with_record_byte bytes k 9 (n % 256) → q ≡ with_record_byte p k 10 (n / 256 % 256) → n ≡ m → q ≡ with_record_byte (with_record_byte bytes k 9 (m % 256)) k 10 (m / 256 % 256)
prev-put bytes k p q n m a b e =
    b
    ∙ ap (λ (x : List ℕ). with_record_byte x k 10 (n / 256 % 256)) a
    ∙ ap (λ (x : ℕ). with_record_byte (with_record_byte bytes k 9 (x % 256)) k 10 (x / 256 % 256)) e
