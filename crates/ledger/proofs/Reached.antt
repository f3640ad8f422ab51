-- Names that have been turned to: along the path, or left behind by it. No open name is one of these, and none is repeated.
--     Reached                              the relation
--     reached-grown, reached-stepped       it is kept
--     unreached, open-nodup                the names that are open
--     stepped-open                         the step to the next path turns to one that was open
use Prim.Native.Nat.{◌<◌}
use mathlib.Core.List.Perm
use mathlib.Core.List.Pairwise
use mathlib.Core.List.{List, [], ◌∷◌, ◌++◌, map, Perm, perm_middle, Nodup, Nodup-append}
use mathlib.Core.Bool.{Bool, true, false, cond}
use mathlib.Core.Path.{◌≡◌, refl, sym, ◌∙◌}
use mathlib.Core.Logic.{◌≢◌, ◌⊎◌, inl, inr}
use native.Mathlib.Omega.{arith}
use lib.Dec.{ltb}
use lib.ListN.{length, length-append, length-map}
use borrow.Author.Tests.{ltb-true}
use Rattle.rules.specs.Path.{Branch, Choice, choice_of, stepped, or_turned, turned_branch, open_at, open_in}
use Rattle.ledger.specs.History.{Every}
use Rattle.ledger.specs.Tree.{no_choice}
use Rattle.ledger.specs.Turning.{Name, alternatives, name_here, beyond, open_names}
use Rattle.ledger.proofs.Marking.{marking-choice}
use Rattle.ledger.proofs.Growth.{Grown}
use Rattle.ledger.proofs.Records.{Used, used-differs, used-marking, used-turned, used-left}
use Rattle.ledger.proofs.Proper.{Proper, proper-sound}
use Rattle.ledger.proofs.Behind.{nothing-open, not-nil}
use Rattle.ledger.proofs.Alternatives.{alternatives-length, unused, others, alternatives-nodup, alternatives-turned}
use Rattle.ledger.proofs.Lists.{every_map, every_append, every-of-map, disjoint-by, nodup-map}

abbrev pub Reached : List Branch → Name → Type 0
Reached [] [] = Unit {0}
Reached [] (c ∷ cs) = ⊥
Reached (b ∷ bs) [] = Unit {0}
Reached (b ∷ bs) (c ∷ cs) = Used b c ⊎ ((c ≡ choice_of b) × Reached bs cs)

reached-nil : (bs : List Branch) → Reached bs []
reached-nil [] = tt
reached-nil (b ∷ bs) = tt

pub reached-grown : (bs ds : List Branch) (cs : Name) → Grown bs ds → Reached bs cs → Reached ds cs
reached-grown [] ds [] g h = reached-nil ds
reached-grown [] ds (c ∷ cs) g h = absurd h
reached-grown (b ∷ bs) [] cs g h = absurd g
reached-grown (b ∷ bs) (d ∷ ds) [] g h = tt
reached-grown (b ∷ bs) (d ∷ ds) (c ∷ cs) g (inl u) = inl (used-marking c g.0 u)
reached-grown (b ∷ bs) (d ∷ ds) (c ∷ cs) g (inr h) = inr (h.0 ∙ sym (marking-choice g.0), reached-grown bs ds cs g.1 h.1)

-- a path's own choices
pub reached-all : (bs : List Branch) → Reached bs (map choice_of bs)
reached-all [] = tt
reached-all (b ∷ bs) = inr (refl, reached-all bs)

reached-turned : (b : Branch) (c : Choice) (cs : Name) → (0 < open_at b → Used (turned_branch b) c) →
    cond (ltb 0 (open_at b)) (turned_branch b ∷ []) [] ≢ [] →
    Reached (cond (ltb 0 (open_at b)) (turned_branch b ∷ []) []) (c ∷ cs)
reached-turned b c cs u n = go (ltb 0 (open_at b)) refl n
  where
    go : (y : Bool) → ltb 0 (open_at b) ≡ y → cond y (turned_branch b ∷ []) [] ≢ [] → Reached (cond y (turned_branch b ∷ []) []) (c ∷ cs)
    go true e n = inl (u (ltb-true 0 (open_at b) e))
    go false e n = absurd (n refl)

pub reached-stepped : (bs : List Branch) (cs : Name) → stepped bs ≢ [] → Reached bs cs → Reached (stepped bs) cs
unfolding stepped
reached-stepped [] [] n h = absurd (n refl)
reached-stepped [] (c ∷ cs) n h = absurd h
reached-stepped (b ∷ bs) [] n h = reached-nil (stepped (b ∷ bs))
reached-stepped (b ∷ bs) (c ∷ cs) n h = go (stepped bs) n h (λ m k. reached-stepped bs cs m k)
  where
    go : (ds : List Branch) → or_turned ds b ≢ [] → Reached (b ∷ bs) (c ∷ cs) → (ds ≢ [] → Reached bs cs → Reached ds cs) →
        Reached (or_turned ds b) (c ∷ cs)
    go [] n (inl u) k = reached-turned b c cs (λ o. used-turned b c o u) n
    go [] n (inr h) k = reached-turned b c cs (λ o. rw h.0 (used-left b o)) n
    go (d ∷ ds) n (inl u) k = inl u
    go (d ∷ ds) n (inr h) k = inr (h.0, k (not-nil d ds) h.1)

-- The names that are open

pub unreached : (bs : List Branch) → Every Proper bs → Every (λ n. Reached bs n → ⊥) (open_names bs)
unfolding open_names
unreached [] p = tt
unreached (b ∷ bs) p =
    every_append (λ n. Reached (b ∷ bs) n → ⊥) (map name_here (alternatives b)) (map (beyond (choice_of b)) (open_names bs))
    (every-of-map (λ n. Reached (b ∷ bs) n → ⊥) name_here (alternatives b) (here (alternatives b) (unused b p.0) (others b p.0)))
    (every-of-map (λ n. Reached (b ∷ bs) n → ⊥) (beyond (choice_of b)) (open_names bs)
    (every_map (λ n. Reached bs n → ⊥) (λ n. Reached (b ∷ bs) (choice_of b ∷ n) → ⊥) (open_names bs) there (unreached bs p.1)))
  where
    here : (as' : List Choice) → Every (λ a. Used b a → ⊥) as' → Every (λ a. a ≢ choice_of b) as' →
        Every (λ a. Reached (b ∷ bs) (a ∷ []) → ⊥) as'
    here [] u o = tt
    here (a ∷ as') u o = (one, here as' u.1 o.1)
      where
        one : Reached (b ∷ bs) (a ∷ []) → ⊥
        one (inl v) = u.0 v
        one (inr v) = o.0 v.0

    there : (n : Name) → (Reached bs n → ⊥) → Reached (b ∷ bs) (choice_of b ∷ n) → ⊥
    there n h (inl u) = used-differs b (choice_of b) (proper-sound b p.0) u refl
    there n h (inr k) = h k.1

first_of : Name → Choice
first_of [] = no_choice
first_of (c ∷ cs) = c

pub open-nodup : (bs : List Branch) → Every Proper bs → Nodup (open_names bs)
unfolding open_names first_of
open-nodup [] p = Pairwise.nil
open-nodup (b ∷ bs) p =
    (Nodup-append {l₁ = map name_here (alternatives b)} {l₂ = map (beyond (choice_of b)) (open_names bs)}).1 (
      nodup-map name_here (λ x y e. cc) (alternatives b) (alternatives-nodup b p.0),
      nodup-map (beyond (choice_of b)) (λ x y e. cc) (open_names bs) (open-nodup bs p.1),
      disjoint-by (λ n. first_of n ≢ choice_of b) (λ n. first_of n ≡ choice_of b) (map name_here (alternatives b)) (map (beyond (choice_of b)) (open_names bs))
          (every-of-map (λ n. first_of n ≢ choice_of b) name_here (alternatives b) (others b p.0))
          (every-of-map (λ n. first_of n ≡ choice_of b) (beyond (choice_of b)) (open_names bs) (same (open_names bs)))
          (λ a x y. x y),
    )
  where
    same : (ns : List Name) → Every (λ n. choice_of b ≡ choice_of b) ns
    same [] = tt
    same (n ∷ ns) = (refl, same ns)

-- The step

pub open-length : (bs : List Branch) → length (open_names bs) ≡ open_in bs
unfolding open_names open_in
open-length [] = refl
open-length (b ∷ bs) =
    rw (length-append, length-map (alternatives b) name_here, length-map (open_names bs) (beyond (choice_of b)), alternatives-length b, open-length bs)

none : {A : Type 0} (xs : List A) → length xs ≡ 0 → xs ≡ []
none [] e = refl
none (x ∷ xs) e = absurd (omega arith)

pub nothing-named : (bs : List Branch) → open_in bs ≡ 0 → open_names bs ≡ []
nothing-named bs e = none (open_names bs) (open-length bs ∙ e)

-- the next path turns to a name that was open, and leaves the others open
pub stepped-open : (bs : List Branch) → Every Proper bs → stepped bs ≢ [] →
    Perm (open_names bs) (map choice_of (stepped bs) ∷ open_names (stepped bs))
unfolding stepped open_names
stepped-open [] p n = absurd (n refl)
stepped-open (b ∷ bs) p n = go (stepped bs) refl n (λ m. stepped-open bs p.1 m)
  where
    on : (y : Bool) → ltb 0 (open_at b) ≡ y → cond y (turned_branch b ∷ []) [] ≢ [] →
        Perm (map name_here (alternatives b) ++ []) (map choice_of (cond y (turned_branch b ∷ []) []) ∷ open_names (cond y (turned_branch b ∷ []) []))
    on true e n = rw (alternatives-turned b p.0 (ltb-true 0 (open_at b) e)) (Perm.refl (map name_here (choice_of (turned_branch b) ∷ alternatives (turned_branch b)) ++ []))
    on false e n = absurd (n refl)

    go : (ds : List Branch) → stepped bs ≡ ds → or_turned ds b ≢ [] → (ds ≢ [] → Perm (open_names bs) (map choice_of ds ∷ open_names ds)) →
        Perm (map name_here (alternatives b) ++ map (beyond (choice_of b)) (open_names bs)) (map choice_of (or_turned ds b) ∷ open_names (or_turned ds b))
    go [] e n h = rw (nothing-named bs (nothing-open bs e)) (on (ltb 0 (open_at b)) refl n)
    go (d ∷ ds) e n h =
        Perm.trans {l₂ = map name_here (alternatives b) ++ (beyond (choice_of b) (map choice_of (d ∷ ds)) ∷ map (beyond (choice_of b)) (open_names (d ∷ ds)))}
        (Perm.append_left {t₁ = map (beyond (choice_of b)) (open_names bs)} {t₂ = beyond (choice_of b) (map choice_of (d ∷ ds)) ∷ map (beyond (choice_of b)) (open_names (d ∷ ds))}
        (map name_here (alternatives b)) (Perm.map (beyond (choice_of b)) (h (not-nil d ds))))
        (perm_middle (map name_here (alternatives b)) (map (beyond (choice_of b)) (open_names (d ∷ ds))))
