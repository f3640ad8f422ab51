-- That texts and tables are told apart. Assumes nothing.
use Prim.Native.Nat.{ℕ, zero, suc, ◌≤◌}
use mathlib.Core.List.{List, [], ◌∷◌}
use mathlib.Core.Bool.{Bool, true, false, true≢false, cond, ◌&&◌}
use mathlib.Core.Path.{◌≡◌, refl, ap, sym, ◌∙◌}
use native.Mathlib.Omega.{arith}
use borrow.Author.Tests.{le-leb, lt-leb}
use lib.Dec.{leb, eqb}
use lib.ListN.{length, get_or}
use Rattle.rules.specs.Vector.{equal}
use Rattle.rules.specs.Table.{Judged, header_bytes, max_threads, judged, good, bad_header, header_fine, rows_judged, counts_of}
use Rattle.rules.specs.Token.{run_length, ends_line, token_length, bytes_of}
use Rattle.rules.specs.Text.{Draft, Line, goes_on, refused_line, ended, concludes, TextRead, refused_at, accepted, table_of, concluded, nothing_made, line_of, lines_from, read_text, lines_in, threads_ahead}
use Rattle.source.specs.Told.{holds_table, ToldApart}

-- whatever a test says, where both its ways are the same
either : {A : Type 0} (x : A) (t : Bool) → cond t x x ≡ x
either x true = refl
either x false = refl

-- a first line that begins with such a byte
refused-1 : (lines all : ℕ) (bs : List ℕ) → line_of lines all 0 nothing_made (1 ∷ bs) ≡ refused_line (1 ∷ bs)
unfolding line_of run_length ends_line token_length equal bytes_of
refused-1 lines all bs = either (refused_line (1 ∷ bs)) (eqb (length (1 ∷ bs)) 0)

refused-2 : (lines all : ℕ) (bs : List ℕ) → line_of lines all 0 nothing_made (2 ∷ bs) ≡ refused_line (2 ∷ bs)
unfolding line_of run_length ends_line token_length equal bytes_of
refused-2 lines all bs = either (refused_line (2 ∷ bs)) (eqb (length (2 ∷ bs)) 0)

refused-3 : (lines all : ℕ) (bs : List ℕ) → line_of lines all 0 nothing_made (3 ∷ bs) ≡ refused_line (3 ∷ bs)
unfolding line_of run_length ends_line token_length equal bytes_of
refused-3 lines all bs = either (refused_line (3 ∷ bs)) (eqb (length (3 ∷ bs)) 0)

refused-4 : (lines all : ℕ) (bs : List ℕ) → line_of lines all 0 nothing_made (4 ∷ bs) ≡ refused_line (4 ∷ bs)
unfolding line_of run_length ends_line token_length equal bytes_of
refused-4 lines all bs = either (refused_line (4 ∷ bs)) (eqb (length (4 ∷ bs)) 0)

refused-5 : (lines all : ℕ) (bs : List ℕ) → line_of lines all 0 nothing_made (5 ∷ bs) ≡ refused_line (5 ∷ bs)
unfolding line_of run_length ends_line token_length equal bytes_of
refused-5 lines all bs = either (refused_line (5 ∷ bs)) (eqb (length (5 ∷ bs)) 0)

-- what comes of a line
abbrev on : ℕ → ℕ → ℕ → Line → TextRead
on n lines all l =
    elim l [
      | goes_on more made rest ↦ lines_from n lines all more made rest
      | refused_line rest ↦ refused_at rest
      | ended made ↦ accepted (table_of made) []
      | concludes made rest ↦ concluded lines made rest
    ]

first-line : (n lines all : ℕ) (bs : List ℕ) → lines_from (suc n) lines all 0 nothing_made bs ≡ on n lines all (line_of lines all 0 nothing_made bs)
unfolding lines_from
first-line n lines all bs = refl

module _ (bs table condition : List ℕ) (e : read_text bs ≡ accepted table condition) where
  never : ((lines all : ℕ) → line_of lines all 0 nothing_made bs ≡ refused_line bs) → ⊥
  unfolding read_text
  never refused =
      let lines = lines_in bs in
      let all = threads_ahead lines bs in
      let s : lines_in bs ≡ suc (length bs) = omega arith in
      let r : lines_from lines lines all 0 nothing_made bs ≡ refused_at bs =
      ap (λ (n : ℕ). lines_from n lines all 0 nothing_made bs) s
      ∙ first-line (length bs) lines all bs
      ∙ ap (on (length bs) lines all) (refused lines all) in
      let z : ◌≡◌ {A = ℕ} 0 1 = cc in
      omega arith

high : (n : ℕ) → 6 ≤ n → leb 1 n && leb n max_threads ≡ false
high n h = rw (le-leb 1 n (omega arith), lt-leb n max_threads (omega arith))

text-told : (bytes table condition : List ℕ) → read_text bytes ≡ accepted table condition → holds_table bytes ≡ false
text-told [] table condition e = refl
text-told (zero ∷ bs) table condition e = refl
text-told (suc zero ∷ bs) table condition e = absurd (never (1 ∷ bs) table condition e (λ lines all. refused-1 lines all bs))
text-told (suc (suc zero) ∷ bs) table condition e = absurd (never (2 ∷ bs) table condition e (λ lines all. refused-2 lines all bs))
text-told (suc (suc (suc zero)) ∷ bs) table condition e = absurd (never (3 ∷ bs) table condition e (λ lines all. refused-3 lines all bs))
text-told (suc (suc (suc (suc zero))) ∷ bs) table condition e = absurd (never (4 ∷ bs) table condition e (λ lines all. refused-4 lines all bs))
text-told (suc (suc (suc (suc (suc zero)))) ∷ bs) table condition e = absurd (never (5 ∷ bs) table condition e (λ lines all. refused-5 lines all bs))
text-told (suc (suc (suc (suc (suc (suc b))))) ∷ bs) table condition e = high (suc (suc (suc (suc (suc (suc b)))))) (omega arith)

-- a header that is fine
second : (a b c d e f : Bool) → a && b && c && d && e && f ≡ true → b ≡ true
second true true c d e f h = refl
second true false c d e f h = h
second false b c d e f h = absurd (true≢false (sym h))

fine : (bytes : List ℕ) → header_fine bytes ≡ true → holds_table bytes ≡ true
unfolding header_fine
fine [] h = h
fine (b ∷ bs) h =
    second (leb header_bytes (length (b ∷ bs))) (leb 1 b && leb b max_threads) _ _ _ _ h

by-header : (t : Bool) (rows : Judged) → cond t rows bad_header ≡ good → t ≡ true
by-header true rows e = refl
by-header false rows e = let z : ◌≡◌ {A = ℕ} 0 1 = cc in absurd (omega arith)

table-told : (bytes : List ℕ) → judged bytes ≡ good → holds_table bytes ≡ true
unfolding judged
table-told bytes e = fine bytes (by-header (header_fine bytes) (rows_judged bytes 0 0 (counts_of bytes)) e)

pub told : ToldApart
told = record { text = text-told; table = table-told }
