-- A number's digits as the definition has them are those that crate digits spells. Assumes nothing.
--     same_digits     before any bytes, where there are steps enough
--     same-shown      of a number of 64 bits
use Prim.Native.Nat.{ℕ, zero, suc, ◌/◌, ◌%◌, ◌^◌, ◌≤◌, ◌<◌}
use mathlib.Core.List.{List, [], ◌∷◌, ◌++◌, append_assoc, append-nil}
use mathlib.Core.Path.{◌≡◌, sym, ◌∙◌}
use native.Mathlib.Omega.{arith}
use native.Mathlib.Decide.{dec_lt}
use borrow.Author.Tests.{lt-ltb, le-ltb}
use lib.ListN.{length, length-append}
use Rattle.rules.specs.Writer as rules
use Rattle.rules.specs.Writer.{digits_of}
use Rattle.digits.specs.Shown.{digit, shown}
use Rattle.digits.proofs.ShownLaws.{shown-small, shown-large, some, at-most}

pub same_digits : (k v : ℕ) (behind : List ℕ) → length (shown v) ≤ k → digits_of k v behind ≡ shown v ++ behind
unfolding digits_of
same_digits zero v behind h = absurd (omega (arith, some v))
same_digits (suc k) v behind h =
    elim (dec_lt v 10) [
      | yes s ↦ rw (digits_of, lt-ltb v 10 s, shown-small v s)
      | no s ↦
          let t : 10 ≤ v = omega arith in
          let few : length (shown (v / 10)) ≤ k = omega (arith, rw (shown-large v t, length-append) at h) in
          rw (digits_of, le-ltb v 10 t, shown-large v t, append_assoc) (same_digits k (v / 10) (digit (v % 10) ∷ behind) few)
    ]

pub same-shown : (v : ℕ) → v < 2 ^ 64 → shown v ≡ rules.shown v
same-shown v h = sym (same_digits 20 v [] (at-most v h) ∙ append-nil (shown v))
