-- What may stand for a letter, in two steps: which kind of word, and which values. Assumes nothing.
--     found_field  a field's number, of which 9 is none
--     field_in     the field that a piece of a form stands for
--     kind_in      the register, plain cell, number or order that a word is
--     may_stand    whether a field may have a value
use Rattle.std.specs.Prelude.{ℕ, List, Bool, true, cond, not, ◌&&◌, ◌||◌, ltb, leb, eqb, length, get_or, Option, Some, None}
use Rattle.rules.specs.Table.{Room, is_load_order, is_store_order, is_fence_order}
use Rattle.rules.specs.Token.{Found, number_in, register_in, plain_in}
use Rattle.rules.specs.Form.{order_in, field_of}

abbrev pub found_field : ℕ → Option ℕ
found_field n = cond (ltb n 9) (Some n) None

unfoldable pub field_in : List ℕ → ℕ
field_in piece = cond (eqb (length piece) 1) (field_of (get_or piece 0 0)) 9

unfoldable pub kind_in : ℕ → List ℕ → Found
kind_in b word =
    cond (eqb b 82) (register_in word)
    (cond (eqb b 80) (plain_in word)
    (cond (eqb b 67 || eqb b 84 || eqb b 74 || eqb b 71 || eqb b 65 || eqb b 66) (number_in word)
    (order_in word)))

unfoldable pub may_stand : Room → ℕ → ℕ → Bool
may_stand room b v =
    cond (eqb b 67) (ltb v room.cells)
    (cond (eqb b 80) (ltb v room.plains)
    (cond (eqb b 84) (ltb v room.threads)
    (cond (eqb b 74) (leb v room.rows)
    (cond (eqb b 71) (leb v room.rows && not (eqb v room.row))
    (cond (eqb b 76 || eqb b 88) (is_load_order v)
    (cond (eqb b 83) (is_store_order v)
    (cond (eqb b 70) (is_fence_order v)
    true)))))))
