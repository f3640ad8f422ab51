-- No text is too long to be counted. Assumes nothing.
--     text-short      the whole text of a table of bytes and a condition
use Prim.Native.Nat.{ℕ, zero, suc, ◌+◌, ◌-◌, ◌*◌, ◌/◌, ◌%◌, ◌≤◌}
use mathlib.Core.List.{List, [], ◌∷◌, ◌++◌}
use mathlib.Core.Bool.{Bool, true, false, cond, ◌&&◌, ◌||◌, and-eq-true_iff}
use mathlib.Core.Path.{◌≡◌, refl}
use native.Mathlib.Omega.{arith}
use native.Mathlib.Decide.{dec_lt}
use borrow.Author.Tests.{leb-true}
use lib.Dec.{ltb, leb, eqb}
use lib.ListN.{length, get_or, take, drop, length-append, length-take, get_or-eq_default}
use lib.Seq.{get_or-drop, get_or-take}
use Rattle.rules.specs.Table.{Row, u64_at, row_at, cells_of, plains_of, values_of, threads_of, counts_of, first_rows, start_value}
use Rattle.rules.specs.Condition.{condition_bytes, is_sign, opens, closes}
use Rattle.rules.specs.Token.{bytes_of, space}
use Rattle.rules.specs.Form.{Form, forms, field_of}
use Rattle.rules.specs.Text.{symbols}
use Rattle.put.specs.Puts.{last}
use Rattle.rules.specs.Writer.{digits_of, shown, order_shown, letter_shown, form_shown, form_in, fields_of, row_shown, rows_shown, threads_shown, values_shown, plains_shown, blank_before, units_shown, condition_shown, written_text}

abbrev digit : ℕ → ℕ → List ℕ → Bool → List ℕ
digit n v behind t = elim t [ true ↦ (48 + v) ∷ behind | false ↦ digits_of n (v / 10) ((48 + v % 10) ∷ behind) ]

digits-short : (n v : ℕ) (behind : List ℕ) → length (digits_of n v behind) ≤ n + length behind
unfolding digits_of
digits-short zero v behind = omega arith
digits-short (suc n) v behind =
    elim (ltb v 10) as (λ t. length (digit n v behind t) ≤ suc n + length behind) [
      | true ↦ omega arith
      | false ↦ omega (arith, digits-short n (v / 10) ((48 + v % 10) ∷ behind))
    ]

shown-short : (v : ℕ) → length (shown v) ≤ 20
shown-short v = omega (arith, digits-short 20 v [])

order-short : (o : ℕ) → length (order_shown o) ≤ 7
unfolding bytes_of
order-short zero = omega arith
order-short (suc zero) = omega arith
order-short (suc (suc zero)) = omega arith
order-short (suc (suc (suc zero))) = omega arith
order-short (suc (suc (suc (suc zero)))) = omega arith
order-short (suc (suc (suc (suc (suc o))))) = omega arith

symbol-short : (i : ℕ) → length (get_or symbols i []) ≤ 3
unfolding bytes_of
symbol-short zero = omega arith
symbol-short (suc zero) = omega arith
symbol-short (suc (suc zero)) = omega arith
symbol-short (suc (suc (suc zero))) = omega arith
symbol-short (suc (suc (suc (suc zero)))) = omega arith
symbol-short (suc (suc (suc (suc (suc zero))))) = omega arith
symbol-short (suc (suc (suc (suc (suc (suc zero)))))) = omega arith
symbol-short (suc (suc (suc (suc (suc (suc (suc zero))))))) = omega arith
symbol-short (suc (suc (suc (suc (suc (suc (suc (suc zero)))))))) = omega arith
symbol-short (suc (suc (suc (suc (suc (suc (suc (suc (suc zero))))))))) = omega arith
symbol-short (suc (suc (suc (suc (suc (suc (suc (suc (suc (suc i)))))))))) = omega arith

-- one of two texts
either-short : (t : Bool) (a b : List ℕ) (n : ℕ) → length a ≤ n → length b ≤ n → length (cond t a b) ≤ n
either-short true a b n h k = h
either-short false a b n h k = k

letter-short : (b : ℕ) (fields : List ℕ) → length (letter_shown b fields) ≤ 21
unfolding letter_shown
letter-short b fields =
    either-short (eqb b 82) _ _ 21 (omega (arith, shown-short (get_or fields 5 0)))
    (either-short (eqb b 80) _ _ 21 (omega (arith, shown-short (get_or fields 1 0)))
    (either-short (eqb (field_of b) 2 || eqb (field_of b) 3) _ _ 21 (omega (arith, order-short (get_or fields (field_of b) 0))) (omega (arith, shown-short (get_or fields (field_of b) 0)))))

words-short : (words fields : List ℕ) → length (form_shown words fields) ≤ 21 * length words
unfolding form_shown
words-short [] fields = omega arith
words-short (b ∷ bs) fields =
    let one = either-short (ltb (field_of b) 9) (letter_shown b fields) (b ∷ []) 21 (letter-short b fields) (omega arith) in
    omega (arith, length-append (cond (ltb (field_of b) 9) (letter_shown b fields) (b ∷ [])) (form_shown bs fields), one, words-short bs fields)

-- no form has more than 40 bytes
unfoldable narrow : List Form → Bool
narrow [] = true
narrow (f ∷ fs) = leb (length f.words) 40 && narrow fs

abbrev or-on : ℕ → ℕ → Form → List Form → Bool → Form
or-on opcode kind f fs t = elim t [ true ↦ f | false ↦ form_in opcode kind fs ]

form-short : (opcode kind : ℕ) (fs : List Form) → narrow fs ≡ true → length (form_in opcode kind fs).words ≤ 40
unfolding form_in narrow
form-short opcode kind [] e = omega arith
form-short opcode kind (f ∷ fs) e =
    let both = (and-eq-true_iff (leb (length f.words) 40) (narrow fs)).0 e in
    elim (eqb f.opcode opcode && eqb f.kind kind) as (λ t. length (or-on opcode kind f fs t).words ≤ 40) [
      | true ↦ leb-true (length f.words) 40 both.0
      | false ↦ form-short opcode kind fs both.1
    ]

forms-narrow : narrow forms ≡ true
unfolding narrow forms bytes_of
forms-narrow = refl

row-short : (r : Row) → length (row_shown r) ≤ 1000
unfolding row_shown
row-short r =
    omega (arith, length-append (form_shown (form_in r.opcode r.kind forms).words (fields_of r)) (10 ∷ []), words-short (form_in r.opcode r.kind forms).words (fields_of r), form-short r.opcode r.kind forms forms-narrow)

rows_short : (t : List ℕ) (n i : ℕ) → length (rows_shown t n i) ≤ 1000 * n
unfolding rows_shown
rows_short t zero i = omega arith
rows_short t (suc n) i =
    omega (arith, length-append (row_shown (row_at t (values_of t) i)) (rows_shown t n (i + 1)), row-short (row_at t (values_of t) i), rows_short t n (i + 1))

values-short : (t : List ℕ) (n i : ℕ) → length (values_shown t n i) ≤ 21 * n
unfolding values_shown
values-short t zero i = omega arith
values-short t (suc n) i =
    omega (arith, length-append (shown (start_value t i)) (values_shown t n (i + 1)), shown-short (start_value t i), values-short t n (i + 1))

abbrev plainly : List ℕ → Bool → List ℕ
plainly t some =
    elim some [ true ↦ bytes_of "plain" ++ (values_shown t (plains_of t) (cells_of t) ++ (10 ∷ [])) | false ↦ [] ]

plains-short : (t : List ℕ) → length (plains_shown t) ≤ 6 + 21 * plains_of t
unfolding plains_shown bytes_of
plains-short t =
    elim (leb 1 (plains_of t)) as (λ some. length (plainly t some) ≤ 6 + 21 * plains_of t) [
      | true ↦ omega (arith, length-append (values_shown t (plains_of t) (cells_of t)) (10 ∷ []), values-short t (plains_of t) (cells_of t))
      | false ↦ omega arith
    ]

-- a table's bytes
module _ (t : List ℕ) (bytes : (i : ℕ) → get_or t i 0 ≤ 255) where
  count-short : (i : ℕ) → get_or (counts_of t) i 0 ≤ 255
  unfolding counts_of
  count-short i =
      elim (dec_lt i 5) [
        | yes h ↦ rw (get_or-take 5 (drop 2 t) i 0 h, get_or-drop 2 t i 0) (bytes (2 + i))
        | no h ↦
            let none : get_or (take 5 (drop 2 t)) i 0 ≡ 0 = get_or-eq_default (take 5 (drop 2 t)) 0 {n = i} (omega (arith, length-take 5 (drop 2 t))) in
            omega arith
      ]

  threads-short : (n i : ℕ) → length (threads_shown t n i) ≤ 260000 * n
  unfolding threads_shown bytes_of
  threads-short zero i = omega arith
  threads-short (suc n) i =
      omega (arith, length-append (rows_shown t (get_or (counts_of t) i 0) (get_or (first_rows 0 (counts_of t)) i 0)) (threads_shown t n (i + 1)), rows_short t (get_or (counts_of t) i 0) (get_or (first_rows 0 (counts_of t)) i 0), count-short i, threads-short n (i + 1))

blank-short : (opened : Bool) (b : ℕ) → length (blank_before opened b) ≤ 1
blank-short opened b = either-short (opened || eqb b closes) [] (space ∷ []) 1 (omega arith) (omega arith)

abbrev unit : ℕ → Bool → ℕ → List ℕ → Bool → List ℕ
unit n opened b bs t =
    elim t [
      | true ↦
          blank_before opened b
          ++ ((48 + get_or bs 0 0) ∷ 46 ∷ 114 ∷ (48 + get_or bs 1 0) ∷ space ∷ (get_or symbols (b - 1) [] ++ (space ∷ (shown (u64_at bs 2) ++ units_shown n false (drop 10 bs)))))
      | false ↦ blank_before opened b ++ (get_or symbols (b - 1) [] ++ units_shown n (eqb b opens) bs)
    ]

unit-short : (n : ℕ) (opened : Bool) (b : ℕ) (bs : List ℕ) (t : Bool) → length (units_shown n false (drop 10 bs)) ≤ 40 * n → length (units_shown n (eqb b opens) bs) ≤ 40 * n → length (unit n opened b bs t) ≤ 40 * suc n
unit-short n opened b bs true h k =
    let blank = blank-short opened b in
    let symbol = symbol-short (b - 1) in
    let number = shown-short (u64_at bs 2) in
    let rest = length-append (shown (u64_at bs 2)) (units_shown n false (drop 10 bs)) in
    let more = length-append (get_or symbols (b - 1) []) (space ∷ (shown (u64_at bs 2) ++ units_shown n false (drop 10 bs))) in
    omega (arith, length-append (blank_before opened b) ((48 + get_or bs 0 0) ∷ 46 ∷ 114 ∷ (48 + get_or bs 1 0) ∷ space ∷ (get_or symbols (b - 1) [] ++ (space ∷ (shown (u64_at bs 2) ++ units_shown n false (drop 10 bs))))))
unit-short n opened b bs false h k =
    let blank = blank-short opened b in
    let symbol = symbol-short (b - 1) in
    let more = length-append (get_or symbols (b - 1) []) (units_shown n (eqb b opens) bs) in
    omega (arith, length-append (blank_before opened b) (get_or symbols (b - 1) [] ++ units_shown n (eqb b opens) bs))

units-short : (n : ℕ) (opened : Bool) (bs : List ℕ) → length (units_shown n opened bs) ≤ 40 * n
unfolding units_shown
units-short zero opened bs = omega arith
units-short (suc n) opened [] = omega arith
units-short (suc n) opened (b ∷ bs) = unit-short n opened b bs (is_sign b) (units-short n false (drop 10 bs)) (units-short n (eqb b opens) bs)

condition-short : (bs : List ℕ) → length (condition_shown bs) ≤ 8 + 40 * length bs
unfolding condition_shown bytes_of
condition-short [] = omega arith
condition-short (b ∷ bs) =
    omega (arith, length-append (units_shown (suc (length bs)) false (b ∷ bs)) (10 ∷ []), units-short (suc (length bs)) false (b ∷ bs))

pub text-short : (t c : List ℕ) → ((i : ℕ) → get_or t i 0 ≤ 255) → length c ≤ condition_bytes → length (written_text t c) ≤ last
unfolding written_text bytes_of
text-short t c bytes h =
    let values = values-short t (cells_of t) 0 in
    let plain = plains-short t in
    let threads = threads-short t bytes (threads_of t) 0 in
    let condition = condition-short c in
    let cells = bytes 1 in
    let plains = bytes 7 in
    let all = bytes 0 in
    let rest = length-append (threads_shown t (threads_of t) 0) (condition_shown c) in
    let lines = length-append (plains_shown t) (threads_shown t (threads_of t) 0 ++ condition_shown c) in
    omega (arith, length-append (values_shown t (cells_of t) 0) (10 ∷ (plains_shown t ++ (threads_shown t (threads_of t) 0 ++ condition_shown c))))
