-- How a path grows within an execution: records are marked, and others are added after them.
use mathlib.Core.List.{List, [], ◌∷◌, ◌++◌}
use mathlib.Core.Path.{◌≡◌, refl, ap}
use Rattle.rules.specs.Path.{Branch}
use Rattle.ledger.proofs.Marking.{Marking, marking-trans, AllMarking, all-refl}

abbrev pub Grown : List Branch → List Branch → Type 0
Grown [] cs = Unit {0}
Grown (b ∷ bs) [] = ⊥
Grown (b ∷ bs) (c ∷ cs) = Marking b c × Grown bs cs

pub grown-trans : (bs cs ds : List Branch) → Grown bs cs → Grown cs ds → Grown bs ds
grown-trans [] cs ds p q = tt
grown-trans (b ∷ bs) [] ds p q = absurd p
grown-trans (b ∷ bs) (c ∷ cs) [] p q = absurd q
grown-trans (b ∷ bs) (c ∷ cs) (d ∷ ds) p q = (marking-trans p.0 q.0, grown-trans bs cs ds p.1 q.1)

pub marking-grown : (bs cs : List Branch) → AllMarking bs cs → Grown bs cs
marking-grown [] [] p = tt
marking-grown [] (c ∷ cs) p = tt
marking-grown (b ∷ bs) [] p = absurd p
marking-grown (b ∷ bs) (c ∷ cs) p = (p.0, marking-grown bs cs p.1)

pub grown-refl : (bs : List Branch) → Grown bs bs
grown-refl bs = marking-grown bs bs (all-refl bs)

pub grown-append : (bs cs ds : List Branch) → Grown bs cs → Grown bs (cs ++ ds)
grown-append [] cs ds p = tt
grown-append (b ∷ bs) [] ds p = absurd p
grown-append (b ∷ bs) (c ∷ cs) ds p = (p.0, grown-append bs cs ds p.1)

-- what follows a place where nothing is left out
pub all_snoc : (pre : List Branch) (b : Branch) (cs : List Branch) → AllMarking (pre ++ (b ∷ [])) cs →
    (pre' : List Branch) × (c : Branch) × (cs ≡ pre' ++ (c ∷ [])) × AllMarking pre pre' × Marking b c
all_snoc [] b [] p = absurd p
all_snoc [] b (c ∷ []) p = ([], c, refl, tt, p.0)
all_snoc [] b (c ∷ d ∷ cs) p = absurd p.1
all_snoc (a ∷ pre) b [] p = absurd p
all_snoc (a ∷ pre) b (c ∷ cs) p =
    let r = all_snoc pre b cs p.1 in (c ∷ r.0, r.1, ap (λ (l : List Branch). c ∷ l) r.2, (p.0, r.3), r.4)
