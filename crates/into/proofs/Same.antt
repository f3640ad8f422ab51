-- Two answers of the second entry that meet its promise are equal. Assumes nothing.
use mathlib.Core.List.{List, [], ◌∷◌}
use mathlib.Core.Path.{◌≡◌, refl, ap, sym, subst, ◌∙◌}
use Rattle.rules.specs.Explored as rules
use Rattle.report.specs.Answers.{summary_of, summaries_of}
use Rattle.report.specs.declared.Summary.{Summary}
use Rattle.into.specs.Same.{OneInto}

-- a summary of the definition is the code's by its numbers, and no two summaries have the same
same-record : (x y : Summary) → summary_of x ≡ summary_of y → x ≡ y
same-record x y e = ap (λ (s : rules.Summary). record { state = s.state; rows = s.rows; yields = s.yields; version = s.version }) e

abbrev first : List rules.Summary → rules.Summary
first [] = rules.no_summary
first (x ∷ xs) = x

abbrev rest : List rules.Summary → List rules.Summary
rest [] = []
rest (x ∷ xs) = xs

abbrev IsNone : List rules.Summary → Type 0
IsNone [] = Unit
IsNone (x ∷ xs) = ⊥

same-list : (xs ys : List Summary) → summaries_of xs ≡ summaries_of ys → xs ≡ ys
same-list [] [] e = refl
same-list [] (y ∷ ys) e = absurd (subst IsNone e tt)
same-list (x ∷ xs) [] e = absurd (subst IsNone (sym e) tt)
same-list (x ∷ xs) (y ∷ ys) e = cc (same-record x y (ap first e), same-list xs ys (ap rest e))

pub one-into : OneInto
unfolding OneInto
one-into table condition s path trace list r q left_path left_trace other_path other_trace left_list other_list h k =
    let e = h ∙ sym k in (
      ap (λ (x : rules.ExploredInto). x.explored.report) e,
      ap (λ (x : rules.ExploredInto). x.explored.path) e,
      ap (λ (x : rules.ExploredInto). x.explored.trace) e,
      same-list left_list other_list (ap (λ (x : rules.ExploredInto). x.list) e),
    )
