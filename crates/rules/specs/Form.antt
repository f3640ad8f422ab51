-- How each row of a program is written: docs/GRAMMAR.md, on rows. Assumes nothing.
--     forms               a form for each opcode and change kind
--     value_of             what may stand for a word of a form
--     row_in               a line that is a row: its fields; or the first token that no form has there
--     fields_as_bytes            a row's fields as bytes of the table
use Rattle.std.specs.Prelude.{ℕ, zero, suc, ◌%◌, List, [], ◌∷◌, ◌++◌, map, Bool, true, false, cond, not, ◌&&◌, ◌||◌, ltb, leb, eqb, length, get_or, set, take}
use Prim.Native.String.{String}
use Rattle.rules.specs.Vector.{equal}
use Rattle.rules.specs.Table.{Room, is_load_order, is_store_order, is_fence_order}
use Rattle.rules.specs.Event.{little}
use Rattle.rules.specs.Token.{bytes_of, is_empty, ends_line, past_blanks, token, past_token, next_line, Found, nothing, found, found_if, only, number_in, register_in, plain_in, place_in}

-- "Orders: 0 Relaxed, 1 Release, 2 Acquire, 3 AcqRel, 4 SeqCst."
abbrev pub orders : List (List ℕ)
orders = map bytes_of ("relaxed" ∷ "release" ∷ "acquire" ∷ "acqrel" ∷ "seqcst" ∷ [])

abbrev pub order_in : List ℕ → Found
order_in bs = place_in 0 bs orders

-- Rows

-- How a row is written: its opcode and change kind, and its words. A capital letter stands for a field: R register, C cell, P plain cell,
-- T thread, J jump target, G that of a jump without a test, A and B operands, L, S, O, F the order of a load, a store, an RMW, a fence, X the failure order
pub record Form : Type 0 where
  pub opcode : ℕ
  pub kind : ℕ
  pub words : List ℕ

abbrev pub form : ℕ → ℕ → String → Form
form opcode kind words = record { opcode = opcode; kind = kind; words = bytes_of words }

unfoldable pub forms : List Form
forms =
    form 0 0 "R = load C L"
    ∷ form 1 0 "store A to C S"
    ∷ form 2 0 "store R to C S"
    ∷ form 3 0 "R = swap A on C O"
    ∷ form 3 1 "R = add A on C O"
    ∷ form 3 2 "R = sub A on C O"
    ∷ form 3 3 "R = and A on C O"
    ∷ form 3 4 "R = or A on C O"
    ∷ form 3 5 "R = xor A on C O"
    ∷ form 3 6 "R = nand A on C O"
    ∷ form 3 7 "R = max A on C O"
    ∷ form 3 8 "R = min A on C O"
    ∷ form 3 9 "R = signed_max A on C O"
    ∷ form 3 10 "R = signed_min A on C O"
    ∷ form 3 11 "R = compare_exchange A B on C O X"
    ∷ form 3 12 "R = decrement on C O X"
    ∷ form 4 0 "fence F"
    ∷ form 5 0 "R = unsync_load C"
    ∷ form 6 0 "R = with_mut swap A on C"
    ∷ form 6 1 "R = with_mut add A on C"
    ∷ form 6 2 "R = with_mut sub A on C"
    ∷ form 6 3 "R = with_mut and A on C"
    ∷ form 6 4 "R = with_mut or A on C"
    ∷ form 6 5 "R = with_mut xor A on C"
    ∷ form 6 6 "R = with_mut nand A on C"
    ∷ form 6 7 "R = with_mut max A on C"
    ∷ form 6 8 "R = with_mut min A on C"
    ∷ form 6 9 "R = with_mut signed_max A on C"
    ∷ form 6 10 "R = with_mut signed_min A on C"
    ∷ form 6 11 "R = with_mut compare_exchange A B on C"
    ∷ form 6 12 "R = with_mut decrement on C"
    ∷ form 7 0 "yield"
    ∷ form 8 0 "join T"
    ∷ form 9 0 "jump G"
    ∷ form 10 0 "if R = A jump J"
    ∷ form 11 0 "if R != A jump J"
    ∷ form 12 0 "check R = A"
    ∷ form 13 0 "critical"
    ∷ form 14 0 "explore_state"
    ∷ form 15 0 "skip_branch"
    ∷ form 16 0 "R = branch_spurious"
    ∷ form 17 0 "R = read P"
    ∷ form 18 0 "write A to P"
    ∷ []

-- a row's fields in the order in which they stand in its bytes: opcode, cell or thread, order, failure order, change kind, register,
-- jump target, a, b. The field that a letter stands for; 9 is none
unfoldable pub field_of : ℕ → ℕ
field_of b =
    cond (eqb b 82) 5
    (cond (eqb b 67 || eqb b 84 || eqb b 80) 1
    (cond (eqb b 74 || eqb b 71) 6
    (cond (eqb b 65) 7
    (cond (eqb b 66) 8
    (cond (eqb b 76 || eqb b 83 || eqb b 79 || eqb b 70) 2
    (cond (eqb b 88) 3
    9))))))

-- what may stand for a letter
unfoldable pub letter_in : Room → ℕ → List ℕ → Found
letter_in room b word =
    cond (eqb b 82) (register_in word)
    (cond (eqb b 67) (only (λ (v : ℕ). ltb v room.cells) (number_in word))
    (cond (eqb b 80) (only (λ (v : ℕ). ltb v room.plains) (plain_in word))
    (cond (eqb b 84) (only (λ (v : ℕ). ltb v room.threads) (number_in word))
    (cond (eqb b 74) (only (λ (v : ℕ). leb v room.rows) (number_in word))
    (cond (eqb b 71) (only (λ (v : ℕ). leb v room.rows && not (eqb v room.row)) (number_in word))
    (cond (eqb b 65 || eqb b 66) (number_in word)
    (cond (eqb b 76 || eqb b 88) (only is_load_order (order_in word))
    (cond (eqb b 83) (only is_store_order (order_in word))
    (cond (eqb b 70) (only is_fence_order (order_in word))
    (order_in word))))))))))

-- a letter alone stands for a field, every other word for itself
abbrev pub is_field : List ℕ → Bool
is_field piece = eqb (length piece) 1 && ltb (field_of (get_or piece 0 0)) 9

unfoldable pub value_of : Room → List ℕ → List ℕ → Found
value_of room piece word =
    cond (is_field piece) (letter_in room (get_or piece 0 0) word) (found_if (equal piece word) 0)

-- the fields with this one's value; a word that stands for itself sets none
abbrev pub with_field : List ℕ → List ℕ → ℕ → List ℕ
with_field fields piece v = cond (is_field piece) (set fields (field_of (get_or piece 0 0)) v) fields

-- a line that is of this form, with the lines behind it; or the place of the first token that is not
pub data Followed : Type 0 where
  stuck : List ℕ → Followed
  fits : List ℕ → List ℕ → Followed

-- no form has as many words
abbrev pub most_words : ℕ
most_words = 10

unfoldable pub follow : ℕ → Room → List ℕ → List ℕ → List ℕ → Followed
follow zero room words fields bs = stuck (past_blanks bs)
follow (suc n) room words fields bs =
    elim (is_empty (past_blanks words)) [
      | true ↦ cond (ends_line (past_blanks bs)) (fits fields (next_line (past_blanks bs))) (stuck (past_blanks bs))
      | false ↦
          elim (value_of room (token (past_blanks words)) (token (past_blanks bs))) [
            | nothing ↦ stuck (past_blanks bs)
            | found v ↦ follow n room (past_token (past_blanks words)) (with_field fields (token (past_blanks words)) v) (past_token (past_blanks bs))
          ]
    ]

abbrev pub blank_fields : Form → List ℕ
blank_fields f = f.opcode ∷ 0 ∷ 0 ∷ 0 ∷ f.kind ∷ 0 ∷ 0 ∷ 0 ∷ 0 ∷ []

-- the place that lies further on
abbrev pub further : List ℕ → List ℕ → List ℕ
further one other = cond (ltb (length other) (length one)) other one

-- a line that is of no form is refused at the first token that no form has there
unfoldable pub tried : Room → List Form → List ℕ → List ℕ → Followed
tried room [] best bs = stuck best
tried room (f ∷ fs) best bs =
    elim (follow most_words room f.words (blank_fields f) bs) [
      | stuck rest ↦ tried room fs (further best rest) bs
      | fits fields rest ↦ fits fields rest
    ]

unfoldable pub row_in : Room → List ℕ → Followed
row_in room bs = tried room forms (past_blanks bs) bs

-- "Row: opcode, cell or thread, order, failure order, change kind, register .., jump target u16 .., operand a u64, operand b u64.": a byte each,
-- and two, eight and eight
unfoldable pub fields_as_bytes : List ℕ → List ℕ
fields_as_bytes fields =
    map (λ (v : ℕ). v % 256) (take 6 fields)
    ++ (little 2 (get_or fields 6 0) ++ (little 8 (get_or fields 7 0) ++ little 8 (get_or fields 8 0)))
