-- Rows in bytes that are appended one after the other. Assumes nothing.
--     Same, row_same       two places with the same bytes hold the same row
--     row_kept             what is appended leaves the rows before it
--     row-behind           and stands behind them
--     row_new              a row's bytes are the row
use Prim.Native.Nat.{ℕ, suc, ◌+◌, ◌*◌, ◌%◌, ◌^◌, ◌≤◌, ◌<◌}
use mathlib.Core.List.{List, ◌++◌}
use mathlib.Core.Path.{◌≡◌, refl, ap, sym, subst, ◌∙◌}
use native.Mathlib.Omega.{arith}
use lib.ListN.{length, get_or, get_or-append}
use lib.Seq.{get_or-append-add}
use Rattle.rules.specs.Event.{little}
use Rattle.rules.specs.Table.{Row, row_from, u16_at, u32_at, u64_at}
use Rattle.rules.specs.Form.{fields_as_bytes}
use Rattle.rules.specs.Writer.{fields_of}
use Rattle.returns.proofs.RowRead.{row_with, fields_back, limit_at}

module _ (t u : List ℕ) where
  -- n bytes from two places on
  abbrev Same : ℕ → ℕ → ℕ → Type 0
  Same n p q = (i : ℕ) → i < n → get_or t (p + i) 0 ≡ get_or u (q + i) 0

  shifted : (n p q j m : ℕ) → j + m ≤ n → Same n p q → Same m (p + j) (q + j)
  shifted n p q j m h s i l =
      let e : p + j + i ≡ p + (j + i) = omega arith in
      let f : q + j + i ≡ q + (j + i) = omega arith in
      ap (λ (k : ℕ). get_or t k 0) e ∙ s (j + i) (omega arith) ∙ ap (λ (k : ℕ). get_or u k 0) (sym f)

  first : (n p q : ℕ) → Same (suc n) p q → get_or t p 0 ≡ get_or u q 0
  first n p q s =
      let e : p + 0 ≡ p = omega arith in
      let f : q + 0 ≡ q = omega arith in
      ap (λ (k : ℕ). get_or t k 0) (sym e) ∙ s 0 (omega arith) ∙ ap (λ (k : ℕ). get_or u k 0) f

  u16-same : (p q : ℕ) → Same 2 p q → u16_at t p ≡ u16_at u q
  unfolding u16_at
  u16-same p q s = λ i. first 1 p q s i + 256 * s 1 (omega arith) i

  u32-same : (p q : ℕ) → Same 4 p q → u32_at t p ≡ u32_at u q
  unfolding u32_at
  u32-same p q s = λ i. u16-same p q (λ j l. s j (omega arith)) i + 65536 * u16-same (p + 2) (q + 2) (shifted 4 p q 2 2 (omega arith) s) i

  u64-same : (p q : ℕ) → Same 8 p q → u64_at t p ≡ u64_at u q
  unfolding u64_at
  u64-same p q s = λ i. u32-same p q (λ j l. s j (omega arith)) i + 4294967296 * u32-same (p + 4) (q + 4) (shifted 8 p q 4 4 (omega arith) s) i

  row_same : (p q : ℕ) → Same 24 p q → row_from t p ≡ row_from u q
  unfolding row_from
  row_same p q s = λ i. record {
    opcode = first 23 p q s i;
    object = s 1 (omega arith) i;
    order = s 2 (omega arith) i;
    failure = s 3 (omega arith) i;
    kind = s 4 (omega arith) i;
    register = s 5 (omega arith) i;
    target = u16-same (p + 6) (q + 6) (shifted 24 p q 6 2 (omega arith) s) i;
    a = u64-same (p + 8) (q + 8) (shifted 24 p q 8 8 (omega arith) s) i;
    b = u64-same (p + 16) (q + 16) (shifted 24 p q 16 8 (omega arith) s) i;
  }

pub row_kept : (b x : List ℕ) (at : ℕ) → at + 24 ≤ length b → row_from (b ++ x) at ≡ row_from b at
row_kept b x at h = row_same (b ++ x) b at at (λ i l. get_or-append b x 0 (at + i) (omega arith))

pub row-behind : (b x : List ℕ) (n j : ℕ) → length b ≡ n → row_from (b ++ x) (n + j) ≡ row_from x j
row-behind b x n j e =
    row_same (b ++ x) x (n + j) j
    (λ i l.
    let f : n + j + i ≡ length b + (j + i) = omega arith in
    ap (λ (k : ℕ). get_or (b ++ x) k 0) f ∙ get_or-append-add b x (j + i) 0)

-- A row's bytes

byte_small : (v : ℕ) → v < 256 → v % 256 ≡ v
byte_small v h = omega arith

target-there : (r : Row) → r.target < 65536 → u16_at (fields_as_bytes (fields_of r)) 6 ≡ r.target
unfolding u16_at fields_as_bytes little
target-there r h = omega arith

a-there : (r : Row) → r.a < 2 ^ 64 → u64_at (fields_as_bytes (fields_of r)) 8 ≡ r.a
unfolding u64_at u32_at u16_at fields_as_bytes little
a-there r h = omega arith

b_there : (r : Row) → r.b < 2 ^ 64 → u64_at (fields_as_bytes (fields_of r)) 16 ≡ r.b
unfolding u64_at u32_at u16_at fields_as_bytes little
b_there r h = omega arith

row-there : (r : Row) → ((i : ℕ) → i < 9 → get_or (fields_of r) i 0 < limit_at i) → row_from (fields_as_bytes (fields_of r)) 0 ≡ r
unfolding row_from fields_as_bytes
row-there r h = λ i. record {
  opcode = byte_small r.opcode (h 0 (omega arith)) i;
  object = byte_small r.object (h 1 (omega arith)) i;
  order = byte_small r.order (h 2 (omega arith)) i;
  failure = byte_small r.failure (h 3 (omega arith)) i;
  kind = byte_small r.kind (h 4 (omega arith)) i;
  register = byte_small r.register (h 5 (omega arith)) i;
  target = target-there r (h 6 (omega arith)) i;
  a = a-there r (h 7 (omega arith)) i;
  b = b_there r (h 8 (omega arith)) i;
}

pub row_new : (b fields : List ℕ) (n : ℕ) → length b ≡ n → length fields ≡ 9 → ((i : ℕ) → i < 9 → get_or fields i 0 < limit_at i) → row_from (b ++ fields_as_bytes fields) n ≡ row_with fields
row_new b fields n e l h =
    let z : n ≡ n + 0 = omega arith in
    let f = fields_back fields l in
    ap (row_from (b ++ fields_as_bytes fields)) z
    ∙ row-behind b (fields_as_bytes fields) n 0 e
    ∙ ap (λ (x : List ℕ). row_from (fields_as_bytes x) 0) (sym f)
    ∙ row-there (row_with fields) (λ i k. subst (λ (x : List ℕ). get_or x i 0 < limit_at i) (sym f) (h i k))

row-long : (r : Row) → length (fields_as_bytes (fields_of r)) ≡ 24
unfolding fields_as_bytes little
row-long r = refl

pub row-bytes-long : (fields : List ℕ) → length fields ≡ 9 → length (fields_as_bytes fields) ≡ 24
row-bytes-long fields l = ap (λ (x : List ℕ). length (fields_as_bytes x)) (sym (fields_back fields l)) ∙ row-long (row_with fields)
