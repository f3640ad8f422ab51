-- A report in numbers. Assumes nothing.
--     twenty           the numbers of five summaries
--     numbers-made     of a report
use Prim.Native.Nat.{ℕ, zero, suc, ◌+◌, ◌<◌}
use mathlib.Core.List.{List, [], ◌∷◌}
use mathlib.Core.Path.{◌≡◌, refl, sym, ap, ◌∙◌}
use native.Mathlib.Omega.{arith}
use lib.ListN.{length, get_or}
use lib.Seq.{ext_get_or}
use Rattle.report.specs.Answers.{report_of, summary_of, summaries_of, answer_number, race_kind_of, other_of, thread_at_fault, row_at_fault}
use Rattle.report.specs.declared.Summary.{Summary}
use Rattle.report.specs.declared.Report.{Report}
use Rattle.numbers.specs.Numbers.{four_of, summary_numbers, numbers_of}

-- five summaries, taken apart
pub record Five (ts : List Summary) (none : Summary) : Type 0 where
  pub is : ts ≡ get_or ts 0 none ∷ get_or ts 1 none ∷ get_or ts 2 none ∷ get_or ts 3 none ∷ get_or ts 4 none ∷ []

five : (ts : List Summary) (none : Summary) → length ts ≡ 5 → Five ts none
five [] none e = let z : ◌≡◌ {A = ℕ} 0 5 = e in absurd (omega arith)
five (a ∷ []) none e = let z : ◌≡◌ {A = ℕ} 1 5 = e in absurd (omega arith)
five (a ∷ b ∷ []) none e = let z : ◌≡◌ {A = ℕ} 2 5 = e in absurd (omega arith)
five (a ∷ b ∷ c ∷ []) none e = let z : ◌≡◌ {A = ℕ} 3 5 = e in absurd (omega arith)
five (a ∷ b ∷ c ∷ d ∷ []) none e = let z : ◌≡◌ {A = ℕ} 4 5 = e in absurd (omega arith)
five (a ∷ b ∷ c ∷ d ∷ f ∷ []) none e = record { is = refl }
five (a ∷ b ∷ c ∷ d ∷ f ∷ g ∷ more) none e = absurd (omega (arith, e))

pub twenty : (ts : List Summary) (none : Summary) → length ts ≡ 5 →
    (a b c d e : List ℕ) → a ≡ four_of (summary_of (get_or ts 0 none)) → b ≡ four_of (summary_of (get_or ts 1 none)) → c ≡ four_of (summary_of (get_or ts 2 none)) →
    d ≡ four_of (summary_of (get_or ts 3 none)) → e ≡ four_of (summary_of (get_or ts 4 none)) →
    get_or a 0 0 ∷ get_or a 1 0 ∷ get_or a 2 0 ∷ get_or a 3 0
    ∷ get_or b 0 0 ∷ get_or b 1 0 ∷ get_or b 2 0 ∷ get_or b 3 0
    ∷ get_or c 0 0 ∷ get_or c 1 0 ∷ get_or c 2 0 ∷ get_or c 3 0
    ∷ get_or d 0 0 ∷ get_or d 1 0 ∷ get_or d 2 0 ∷ get_or d 3 0
    ∷ get_or e 0 0 ∷ get_or e 1 0 ∷ get_or e 2 0 ∷ get_or e 3 0 ∷ []
    ≡ summary_numbers (summaries_of ts)
unfolding summary_numbers
twenty ts none l a b c d e p q r s t = rw (p, q, r, s, t) (ap (λ (xs : List Summary). summary_numbers (summaries_of xs)) (sym (five ts none l).is))

-- the n numbers from k on
unfoldable spread : ℕ → ℕ → List ℕ → List ℕ
spread zero k t = []
spread (suc n) k t = get_or t k 0 ∷ spread n (k + 1) t

length-spread : (n k : ℕ) (t : List ℕ) → length (spread n k t) ≡ n
unfolding spread
length-spread zero k t = refl
length-spread (suc n) k t = ap suc (length-spread n (k + 1) t)

spread_at : (n k : ℕ) (t : List ℕ) (i : ℕ) → i < n → get_or (spread n k t) i 0 ≡ get_or t (k + i) 0
unfolding spread
spread_at zero k t i h = absurd (omega (arith, h))
spread_at (suc n) k t zero h = ap (λ (j : ℕ). get_or t j 0) (omega arith)
spread_at (suc n) k t (suc i) h = spread_at n (k + 1) t i (omega arith) ∙ ap (λ (j : ℕ). get_or t j 0) (omega arith)

all-spread : (n : ℕ) (t : List ℕ) → length t ≡ n → spread n 0 t ≡ t
all-spread n t e =
    ext_get_or 0 (spread n 0 t) t (length-spread n 0 t ∙ sym e)
    (λ i h. spread_at n 0 t i (omega (arith, length-spread n 0 t)) ∙ ap (λ (j : ℕ). get_or t j 0) (omega arith))

twenty-spread : (t : List ℕ) → spread 20 0 t
    ≡ get_or t 0 0 ∷ get_or t 1 0 ∷ get_or t 2 0 ∷ get_or t 3 0 ∷ get_or t 4 0 ∷ get_or t 5 0 ∷ get_or t 6 0 ∷ get_or t 7 0 ∷ get_or t 8 0 ∷ get_or t 9 0
    ∷ get_or t 10 0 ∷ get_or t 11 0 ∷ get_or t 12 0 ∷ get_or t 13 0 ∷ get_or t 14 0 ∷ get_or t 15 0 ∷ get_or t 16 0 ∷ get_or t 17 0 ∷ get_or t 18 0 ∷ get_or t 19 0 ∷ []
unfolding spread
twenty-spread t = refl

module _ (r : Report) (answer thread row kind other : ℕ) (t : List ℕ) where
  pub numbers-made : answer ≡ answer_number r.answer → thread ≡ thread_at_fault r.answer → row ≡ row_at_fault r.answer → kind ≡ race_kind_of r.answer → other ≡ other_of r.answer
      → (t ≡ summary_numbers (summaries_of r.threads)) × (length t ≡ 20)
      → answer ∷ r.begun ∷ r.opened ∷ r.still_open ∷ r.rows ∷ thread ∷ row ∷ kind ∷ other
      ∷ get_or t 0 0 ∷ get_or t 1 0 ∷ get_or t 2 0 ∷ get_or t 3 0 ∷ get_or t 4 0 ∷ get_or t 5 0 ∷ get_or t 6 0 ∷ get_or t 7 0 ∷ get_or t 8 0 ∷ get_or t 9 0
      ∷ get_or t 10 0 ∷ get_or t 11 0 ∷ get_or t 12 0 ∷ get_or t 13 0 ∷ get_or t 14 0 ∷ get_or t 15 0 ∷ get_or t 16 0 ∷ get_or t 17 0 ∷ get_or t 18 0 ∷ get_or t 19 0 ∷ []
      ≡ numbers_of (report_of r)
  numbers-made f p q g h l =
      rw (f, p, q, g, h)
      (ap (λ (xs : List ℕ). answer_number r.answer ∷ r.begun ∷ r.opened ∷ r.still_open ∷ r.rows ∷ thread_at_fault r.answer ∷ row_at_fault r.answer ∷ race_kind_of r.answer ∷ other_of r.answer ∷ xs)
      (sym (twenty-spread t) ∙ all-spread 20 t l.1 ∙ l.0))
