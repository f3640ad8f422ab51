-- A number that was written in digits is read back (crate digits). Assumes nothing.
use Prim.Native.Nat.{ℕ, ◌/◌, ◌%◌, ◌^◌, ◌≤◌, ◌<◌}
use mathlib.Core.Path.{◌≡◌, ap, sym, ◌∙◌}
use mathlib.Core.List.{List, [], ◌∷◌, ◌++◌, append_assoc, append-nil}
use native.Mathlib.Omega.{arith}
use Rattle.digits.specs.Shown.{digit, shown}
use Rattle.digits.proofs.ShownLaws.{shown-small, shown-large, tenfold, some}
use Rattle.decimal.specs.Decimal.{extended, with_digits, number_spelled}
use Rattle.std.proofs.Common.{Some}
use Rattle.decimal.proofs.Laws.{one-more, behind-all}

-- the digits of n in front of others
abbrev Read : ℕ → Type 0
Read n = n < 2 ^ 64 → (bs : List ℕ) → with_digits (Some 0) (shown n ++ bs) ≡ with_digits (Some n) bs

-- one digit more makes n of m
read_one : (m d n : ℕ) (bs : List ℕ) → d < 10 → extended m (digit d) ≡ n → n < 2 ^ 64 → with_digits (Some m) (digit d ∷ bs) ≡ with_digits (Some n) bs
unfolding with_digits
read_one m d n bs s e h =
    ap (λ p. with_digits p bs) (sym (one-more m (digit d) (omega arith) (omega arith) (omega arith)))
    ∙ ap (λ (k : ℕ). with_digits (Some k) bs) e

read_small : (n : ℕ) → n < 10 → Read n
read_small n s h bs = rw (shown-small n s) (read_one 0 n n bs s (omega arith) h)

read-large : (n : ℕ) → 10 ≤ n → Read (n / 10) → Read n
read-large n s before h bs =
    rw (shown-large n s, append_assoc) (before (omega arith) (digit (n % 10) ∷ bs) ∙ read_one (n / 10) (n % 10) n bs (omega arith) (omega arith) h)

pub read_back : (n : ℕ) → n < 2 ^ 64 → number_spelled (shown n) ≡ Some n
unfolding with_digits
read_back n h =
    sym (behind-all (shown n) (some n))
    ∙ ap (with_digits (Some 0)) (sym (append-nil (shown n)))
    ∙ tenfold Read read_small read-large n h []
