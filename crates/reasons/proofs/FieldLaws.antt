-- Which field is wrong, put together from the tests. Assumes nothing.
--     fit-as                    whether a row of the first fields is one
--     wrong-at, wrong-last      the first of the tests that fails, and where none does
use Prim.Native.Nat.{ℕ, zero, suc, ◌+◌, ◌≤◌, ◌<◌}
use mathlib.Core.Bool.{Bool, true, false}
use mathlib.Core.List.{List, [], ◌∷◌}
use mathlib.Core.Path.{◌≡◌, ap, ◌∙◌}
use native.Mathlib.Omega.{arith}
use lib.ListN.{get_or}
use Rattle.rules.specs.Table.{Row, Room, row_decoded, is_fine}
use Rattle.reasons.specs.declared.Field.{Field}
use Rattle.reasons.specs.declared.Field.TheVariants.{Object, Order, Kind, Failure, Register, Target, A, B}
use Rattle.reasons.specs.Wrong.{first_fields, is_fit, is_opcode, wrong_in}

-- the fields behind the opcode, but for the last
abbrev pub behind : List Field
behind = Object ∷ Order ∷ Kind ∷ Failure ∷ Register ∷ Target ∷ A ∷ []

module _ (room : Room) (r : Row) where
  pub fit-as : (n : ℕ) (x : Row) (is : Bool) → is ≡ is_fine (row_decoded room x) → x ≡ first_fields room.row r n → is ≡ is_fit room r n
  unfolding is_fit
  fit-as n x is e h = e ∙ ap (λ (y : Row). is_fine (row_decoded room y)) h

  module _ (o : is_opcode room r ≡ true) where
    pub wrong-at : (other : Field) (n : ℕ) → n < 7 → ((k : ℕ) → k < n → is_fit room r (k + 1) ≡ true) →
        is_fit room r (n + 1) ≡ false → get_or behind n other ≡ wrong_in room r
    unfolding wrong_in
    wrong-at other zero h f w = rw (o, w)
    wrong-at other (suc zero) h f w = rw (o, f 0 (omega arith), w)
    wrong-at other (suc (suc zero)) h f w = rw (o, f 0 (omega arith), f 1 (omega arith), w)
    wrong-at other (suc (suc (suc zero))) h f w = rw (o, f 0 (omega arith), f 1 (omega arith), f 2 (omega arith), w)
    wrong-at other (suc (suc (suc (suc zero)))) h f w = rw (o, f 0 (omega arith), f 1 (omega arith), f 2 (omega arith), f 3 (omega arith), w)
    wrong-at other (suc (suc (suc (suc (suc zero))))) h f w = rw (o, f 0 (omega arith), f 1 (omega arith), f 2 (omega arith), f 3 (omega arith), f 4 (omega arith), w)
    wrong-at other (suc (suc (suc (suc (suc (suc zero)))))) h f w = rw (o, f 0 (omega arith), f 1 (omega arith), f 2 (omega arith), f 3 (omega arith), f 4 (omega arith), f 5 (omega arith), w)
    wrong-at other (suc (suc (suc (suc (suc (suc (suc n))))))) h f w = absurd (omega arith)

    pub wrong-last : (n : ℕ) → 7 ≤ n → ((k : ℕ) → k < n → is_fit room r (k + 1) ≡ true) → B ≡ wrong_in room r
    unfolding wrong_in
    wrong-last n h f = rw (o, f 0 (omega arith), f 1 (omega arith), f 2 (omega arith), f 3 (omega arith), f 4 (omega arith), f 5 (omega arith), f 6 (omega arith))
