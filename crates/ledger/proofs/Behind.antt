-- Choices that were left behind: equal to the path's up to a branch, and there one that the record has used.
--     Behind                             the relation
--     behind-grown                       a path that grows leaves it behind still
--     behind-stepped, left-stepped       so does the next path, which leaves behind the path's own choices too
--     behind-parted                      what is left behind parts from the path's choices
use Prim.Native.Nat.{ℕ, suc, ◌+◌, ◌<◌}
use mathlib.Core.List.{List, [], ◌∷◌, map}
use mathlib.Core.Bool.{Bool, true, false, cond}
use mathlib.Core.Path.{◌≡◌, refl, sym, ◌∙◌}
use mathlib.Core.Logic.{◌≢◌, ◌⊎◌, inl, inr}
use native.Mathlib.Omega.{arith}
use lib.Dec.{ltb}
use borrow.Author.Tests.{ltb-true, ltb-false}
use Rattle.rules.specs.Path.{Branch, Choice, choice_of, stepped, or_turned, turned_branch, open_at, open_in}
use Rattle.ledger.specs.History.{Every}
use Rattle.ledger.specs.Tree.{Parted}
use Rattle.ledger.proofs.Marking.{marking-choice}
use Rattle.ledger.proofs.Growth.{Grown}
use Rattle.ledger.proofs.Records.{Used, Sound, used-differs, used-marking, used-turned, used-left}

abbrev pub Behind : List Branch → List Choice → Type 0
Behind [] cs = ⊥
Behind (b ∷ bs) [] = ⊥
Behind (b ∷ bs) (c ∷ cs) = Used b c ⊎ ((c ≡ choice_of b) × Behind bs cs)

pub behind-grown : (bs ds : List Branch) (cs : List Choice) → Grown bs ds → Behind bs cs → Behind ds cs
behind-grown [] ds cs g h = absurd h
behind-grown (b ∷ bs) [] cs g h = absurd g
behind-grown (b ∷ bs) (d ∷ ds) [] g h = h
behind-grown (b ∷ bs) (d ∷ ds) (c ∷ cs) g (inl u) = inl (used-marking c g.0 u)
behind-grown (b ∷ bs) (d ∷ ds) (c ∷ cs) g (inr h) = inr (h.0 ∙ sym (marking-choice g.0), behind-grown bs ds cs g.1 h.1)

-- where something is open there is a next path
pub nothing-open : (bs : List Branch) → stepped bs ≡ [] → open_in bs ≡ 0
unfolding stepped open_in
nothing-open [] e = refl
nothing-open (b ∷ bs) e = go (stepped bs) refl e (λ f. nothing-open bs f)
  where
    go : (cs : List Branch) → stepped bs ≡ cs → or_turned cs b ≡ [] → (stepped bs ≡ [] → open_in bs ≡ 0) → open_at b + open_in bs ≡ 0
    go [] f e h = on (ltb 0 (open_at b)) refl e
      where
        on : (y : Bool) → ltb 0 (open_at b) ≡ y → cond y (turned_branch b ∷ []) [] ≡ [] → open_at b + open_in bs ≡ 0
        on true k e = let z : ◌≡◌ {A = ℕ} 0 1 = cc in absurd (omega arith)
        on false k e = let i = ltb-false 0 (open_at b) k in let j = h f in omega arith
    go (c ∷ cs) f e h = let z : ◌≡◌ {A = ℕ} 0 1 = cc in absurd (omega arith)

pub some-open : (bs : List Branch) → 0 < open_in bs → stepped bs ≢ []
some-open bs o e = let z = nothing-open bs e in omega arith

-- at the record that is turned, or before it
turned-behind : (b : Branch) (c : Choice) (cs : List Choice) → Used (turned_branch b) c →
    cond (ltb 0 (open_at b)) (turned_branch b ∷ []) [] ≢ [] →
    Behind (cond (ltb 0 (open_at b)) (turned_branch b ∷ []) []) (c ∷ cs)
turned-behind b c cs u n = go (ltb 0 (open_at b)) n
  where
    go : (y : Bool) → cond y (turned_branch b ∷ []) [] ≢ [] → Behind (cond y (turned_branch b ∷ []) []) (c ∷ cs)
    go true n = inl u
    go false n = absurd (n refl)

pub is_open : (b : Branch) → cond (ltb 0 (open_at b)) (turned_branch b ∷ []) [] ≢ [] → 0 < open_at b
is_open b n = go (ltb 0 (open_at b)) refl n
  where
    go : (y : Bool) → ltb 0 (open_at b) ≡ y → cond y (turned_branch b ∷ []) [] ≢ [] → 0 < open_at b
    go true e n = ltb-true 0 (open_at b) e
    go false e n = absurd (n refl)

pub not-nil : (b : Branch) (bs : List Branch) → (b ∷ bs) ≢ []
not-nil b bs e = let z : ◌≡◌ {A = ℕ} 0 1 = cc in omega arith

pub behind-stepped : (bs : List Branch) (cs : List Choice) → stepped bs ≢ [] → Behind bs cs → Behind (stepped bs) cs
unfolding stepped
behind-stepped [] cs n h = absurd h
behind-stepped (b ∷ bs) [] n h = absurd h
behind-stepped (b ∷ bs) (c ∷ cs) n h = go (stepped bs) n h (λ m k. behind-stepped bs cs m k)
  where
    go : (ds : List Branch) → or_turned ds b ≢ [] → Behind (b ∷ bs) (c ∷ cs) → (ds ≢ [] → Behind bs cs → Behind ds cs) →
        Behind (or_turned ds b) (c ∷ cs)
    go [] n (inl u) k = turned-behind b c cs (used-turned b c (is_open b n) u) n
    go [] n (inr h) k = turned-behind b c cs (rw h.0 (used-left b (is_open b n))) n
    go (d ∷ ds) n (inl u) k = inl u
    go (d ∷ ds) n (inr h) k = inr (h.0, k (not-nil d ds) h.1)

-- the path's own choices are left behind by the next path
pub left-stepped : (bs : List Branch) → stepped bs ≢ [] → Behind (stepped bs) (map choice_of bs)
unfolding stepped
left-stepped [] n = n refl
left-stepped (b ∷ bs) n = go (stepped bs) n (λ m. left-stepped bs m)
  where
    go : (ds : List Branch) → or_turned ds b ≢ [] → (ds ≢ [] → Behind ds (map choice_of bs)) →
        Behind (or_turned ds b) (choice_of b ∷ map choice_of bs)
    go [] n k = turned-behind b (choice_of b) (map choice_of bs) (used-left b (is_open b n)) n
    go (d ∷ ds) n k = inr (refl, k (not-nil d ds))

-- what is left behind parts from the path
pub behind-parted : (bs ds : List Branch) (cs : List Choice) → Every Sound bs → Grown bs ds → Behind bs cs → Parted cs (map choice_of ds)
behind-parted [] ds cs s g h = absurd h
behind-parted (b ∷ bs) [] cs s g h = absurd g
behind-parted (b ∷ bs) (d ∷ ds) [] s g h = absurd h
behind-parted (b ∷ bs) (d ∷ ds) (c ∷ cs) s g (inl u) =
    record {
      branch = 0;
      one-reaches = omega arith;
      other-reaches = omega arith;
      equal-before = refl;
      different = λ e. used-differs b c s.0 u (e ∙ marking-choice g.0);
    }
behind-parted (b ∷ bs) (d ∷ ds) (c ∷ cs) s g (inr h) =
    let p = behind-parted bs ds cs s.1 g.1 h.1 in
    let e : c ≡ choice_of d = h.0 ∙ sym (marking-choice g.0) in
    record {
      branch = suc p.branch;
      one-reaches = omega (arith, p.one-reaches);
      other-reaches = omega (arith, p.other-reaches);
      equal-before = cc (e, p.equal-before);
      different = p.different;
    }
