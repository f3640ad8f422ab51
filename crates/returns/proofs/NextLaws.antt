-- The next line, from anywhere in this one; and that more fuel finds no more lines. Assumes nothing.
--     next-skip, next_past          past blanks and a token it is the same
--     next-shorter                  and shorter than what is left
--     rows-line, threads-line       rows and threads ahead, with fuel to spare
use Prim.Native.Nat.{ℕ, zero, suc, ◌+◌, ◌≤◌, ◌<◌}
use mathlib.Core.List.{List, [], ◌∷◌}
use mathlib.Core.Bool.{Bool, true, false, cond, ◌&&◌, ◌||◌, true≢false}
use mathlib.Core.Path.{◌≡◌, refl, ap, sym, ◌∙◌}
use native.Mathlib.Omega.{arith}
use lib.Dec.{eqb}
use lib.ListN.{length, get_or, drop, length-drop}
use borrow.Author.Tests.{eqb-true}
use Rattle.rules.specs.Token.{line_feed, is_blank, is_letter, is_symbol, run_length, token_length, line_length, ends_line, is_empty, past_blanks, past_token, next_line}
use Rattle.rules.specs.Text.{says, is_bare, rows_ahead, threads_ahead}

-- The next line

-- a byte that is no line feed belongs to the line
next_one : (b : ℕ) (bs : List ℕ) → eqb b line_feed ≡ false → next_line (b ∷ bs) ≡ next_line bs
unfolding line_length
next_one b bs h = rw h refl

next-run : (p : ℕ → Bool) → p line_feed ≡ false → (bs : List ℕ) → next_line (drop (run_length p bs) bs) ≡ next_line bs
unfolding run_length
next-run p e [] = refl
next-run p e (b ∷ bs) = by (p b) refl (eqb b line_feed) refl (next-run p e bs)
  where
    by : (x : Bool) → p b ≡ x → (y : Bool) → eqb b line_feed ≡ y → next_line (drop (run_length p bs) bs) ≡ next_line bs →
        next_line (drop (cond x (suc (run_length p bs)) 0) (b ∷ bs)) ≡ next_line (b ∷ bs)
    by false f y g more = refl
    by true f true g more = absurd (true≢false (sym f ∙ ap p (eqb-true b line_feed g) ∙ e))
    by true f false g more = more ∙ sym (next_one b bs g)

pub next-skip : (bs : List ℕ) → next_line (past_blanks bs) ≡ next_line bs
next-skip bs = next-run is_blank refl bs

on-no-feed : (b : ℕ) (bs : List ℕ) → ends_line (b ∷ bs) ≡ false → eqb b line_feed ≡ false
unfolding ends_line
on-no-feed b bs e = by (eqb b line_feed) e
  where
    by : (x : Bool) → (x || eqb b 35 || (eqb b 13 && eqb (get_or bs 0 0) line_feed)) ≡ false → x ≡ false
    by true h = h
    by false h = refl

next-other : (bs : List ℕ) → ends_line bs ≡ false → next_line (drop 1 bs) ≡ next_line bs
unfolding ends_line
next-other [] e = absurd (true≢false e)
next-other (b ∷ bs) e = sym (next_one b bs (on-no-feed b bs e))

pub next_past : (bs : List ℕ) → next_line (past_token bs) ≡ next_line bs
unfolding token_length
next_past bs = by (ends_line bs) refl (is_letter (get_or bs 0 0)) (is_symbol (get_or bs 0 0))
  where
    by : (x : Bool) → ends_line bs ≡ x → (y z : Bool) → next_line (drop (cond x 0 (cond y (run_length is_letter bs) (cond z (run_length is_symbol bs) 1))) bs) ≡ next_line bs
    by true e y z = refl
    by false e true z = next-run is_letter refl bs
    by false e false true = next-run is_symbol refl bs
    by false e false false = next-other bs e

pub skip-shorter : (bs : List ℕ) → length (past_blanks bs) ≤ length bs
skip-shorter bs = omega (arith, length-drop (run_length is_blank bs) bs)

next-shorter : (bs : List ℕ) → is_empty bs ≡ false → length (next_line bs) < length bs
unfolding line_length
next-shorter [] e = absurd (true≢false e)
next-shorter (b ∷ bs) e = by (eqb b line_feed)
  where
    by : (x : Bool) → length (drop (cond x 1 (suc (line_length bs))) (b ∷ bs)) < length (b ∷ bs)
    by true = omega arith
    by false = omega (arith, length-drop (line_length bs) bs)

pub line-shorter : (bs : List ℕ) → is_empty (past_blanks bs) ≡ false → length (next_line (past_blanks bs)) < length bs
line-shorter bs e = omega (arith, next-shorter (past_blanks bs) e, skip-shorter bs)

-- Rows and threads ahead

-- lines counted up to one at which to stop
ahead : (List ℕ → Bool) → (List ℕ → ℕ) → ℕ → List ℕ → ℕ
ahead stop weigh zero bs = 0
ahead stop weigh (suc n) bs = elim (stop bs) [ true ↦ 0 | false ↦ weigh bs + ahead stop weigh n (next_line (past_blanks bs)) ]

module _ (stop : List ℕ → Bool) (weigh : List ℕ → ℕ) (goes : (bs : List ℕ) → stop bs ≡ false → is_empty (past_blanks bs) ≡ false) where
  enough : (n : ℕ) (bs : List ℕ) → length bs < n → ahead stop weigh (suc n) bs ≡ ahead stop weigh n bs
  unfolding ahead
  enough zero bs h = absurd (omega arith)
  enough (suc n) bs h = by (stop bs) refl (λ more k. enough n more k)
    where
      by : (x : Bool) → stop bs ≡ x → ((more : List ℕ) → length more < n → ahead stop weigh (suc n) more ≡ ahead stop weigh n more) →
          ◌≡◌ {A = ℕ} (elim x [ true ↦ 0 | false ↦ weigh bs + ahead stop weigh (suc n) (next_line (past_blanks bs)) ]) (elim x [ true ↦ 0 | false ↦ weigh bs + ahead stop weigh n (next_line (past_blanks bs)) ])
      by true e more = refl
      by false e more = let l = line-shorter bs (goes bs e) in ap (λ (k : ℕ). weigh bs + k) (more (next_line (past_blanks bs)) (omega arith))

  ahead-line : (l : ℕ) (bs : List ℕ) → length bs < suc l → stop bs ≡ false → ahead stop weigh (suc l) bs ≡ weigh bs + ahead stop weigh (suc l) (next_line (past_blanks bs))
  unfolding ahead
  ahead-line l bs h e =
      let k = line-shorter bs (goes bs e) in
      rw (ahead, e) (ap (λ (n : ℕ). weigh bs + n) (sym (enough l (next_line (past_blanks bs)) (omega arith))))

abbrev pub rows_end : List ℕ → Bool
rows_end bs = is_empty (past_blanks bs) || says "thread" bs || says "finally" bs

abbrev pub threads_end : List ℕ → Bool
threads_end bs = is_empty (past_blanks bs) || says "finally" bs

abbrev row_here : List ℕ → ℕ
row_here bs = cond (is_bare bs) 0 1

abbrev thread_here : List ℕ → ℕ
thread_here bs = cond (says "thread" bs) 1 0

rows-go : (bs : List ℕ) → rows_end bs ≡ false → is_empty (past_blanks bs) ≡ false
rows-go bs e = by (is_empty (past_blanks bs)) (says "thread" bs) e
  where
    by : (x y : Bool) → (x || y || says "finally" bs) ≡ false → x ≡ false
    by true y h = h
    by false y h = refl

threads-go : (bs : List ℕ) → threads_end bs ≡ false → is_empty (past_blanks bs) ≡ false
threads-go bs e = by (is_empty (past_blanks bs)) e
  where
    by : (x : Bool) → (x || says "finally" bs) ≡ false → x ≡ false
    by true h = h
    by false h = refl

rows_are : (n : ℕ) (bs : List ℕ) → rows_ahead n bs ≡ ahead rows_end row_here n bs
unfolding rows_ahead ahead
rows_are zero bs = refl
rows_are (suc n) bs = ap (λ (k : ℕ). elim (rows_end bs) [ true ↦ 0 | false ↦ row_here bs + k ]) (rows_are n (next_line (past_blanks bs)))

threads-are : (n : ℕ) (bs : List ℕ) → threads_ahead n bs ≡ ahead threads_end thread_here n bs
unfolding threads_ahead ahead
threads-are zero bs = refl
threads-are (suc n) bs = ap (λ (k : ℕ). elim (threads_end bs) [ true ↦ 0 | false ↦ thread_here bs + k ]) (threads-are n (next_line (past_blanks bs)))

module _ (l : ℕ) (bs : List ℕ) where
  pub rows-line : length bs < suc l → rows_end bs ≡ false → rows_ahead (suc l) bs ≡ cond (is_bare bs) 0 1 + rows_ahead (suc l) (next_line (past_blanks bs))
  rows-line h e =
      rows_are (suc l) bs ∙ ahead-line rows_end row_here rows-go l bs h e ∙ ap (λ (n : ℕ). row_here bs + n) (sym (rows_are (suc l) (next_line (past_blanks bs))))

  pub threads-line : length bs < suc l → threads_end bs ≡ false → threads_ahead (suc l) bs ≡ cond (says "thread" bs) 1 0 + threads_ahead (suc l) (next_line (past_blanks bs))
  threads-line h e =
      threads-are (suc l) bs ∙ ahead-line threads_end thread_here threads-go l bs h e ∙ ap (λ (n : ℕ). thread_here bs + n) (sym (threads-are (suc l) (next_line (past_blanks bs))))
