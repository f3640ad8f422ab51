-- Where the next path turns, and that an execution goes through its turning point.
--     Place, turn-place         the branch at which the next path parts from the path
--     grown-choices             a path that grows begins with the same choices
use Prim.Native.Nat.{ℕ, suc, ◌<◌}
use mathlib.Core.List.{List, [], ◌∷◌, map}
use mathlib.Core.Bool.{Bool, true, false, cond}
use mathlib.Core.Path.{◌≡◌, refl, ap}
use mathlib.Core.Logic.{◌≢◌}
use native.Mathlib.Omega.{arith}
use lib.Dec.{ltb}
use lib.ListN.{length, take, get_or}
use borrow.Author.Tests.{ltb-true}
use Rattle.rules.specs.Path.{Branch, Choice, choice_of, stepped, or_turned, turned_branch, open_at}
use Rattle.ledger.specs.History.{Every}
use Rattle.ledger.specs.Tree.{no_choice}
use Rattle.ledger.proofs.Marking.{marking-choice}
use Rattle.ledger.proofs.Growth.{Grown}
use Rattle.ledger.proofs.Records.{used-differs, used-left}
use Rattle.ledger.proofs.Proper.{Proper, proper-sound, proper-turned}
use Rattle.ledger.proofs.Behind.{not-nil}

pub record Place (bs ds : List Branch) : Type 0 where
  pub place : ℕ
  pub point : length ds ≡ suc place
  pub reached : place < length bs
  pub before : take place (map choice_of bs) ≡ take place (map choice_of ds)
  pub new : get_or (map choice_of bs) place no_choice ≢ get_or (map choice_of ds) place no_choice

pub turn-place : (bs : List Branch) → Every Proper bs → stepped bs ≢ [] → Place bs (stepped bs)
unfolding stepped
turn-place [] p n = absurd (n refl)
turn-place (b ∷ bs) p n = go (stepped bs) n (λ m. turn-place bs p.1 m)
  where
    on : (y : Bool) → ltb 0 (open_at b) ≡ y → cond y (turned_branch b ∷ []) [] ≢ [] → Place (b ∷ bs) (cond y (turned_branch b ∷ []) [])
    on true e n =
        let o = ltb-true 0 (open_at b) e in
        record {
          place = 0;
          point = refl;
          reached = omega arith;
          before = refl;
          new = used-differs (turned_branch b) (choice_of b) (proper-sound (turned_branch b) (proper-turned b o p.0)) (used-left b o);
        }
    on false e n = absurd (n refl)

    go : (ds : List Branch) → or_turned ds b ≢ [] → (ds ≢ [] → Place bs ds) → Place (b ∷ bs) (or_turned ds b)
    go [] n h = on (ltb 0 (open_at b)) refl n
    go (d ∷ ds) n h =
        let r = h (not-nil d ds) in
        record {
          place = suc r.place;
          point = ap suc r.point;
          reached = omega (arith, r.reached);
          before = ap (λ (l : List Choice). choice_of b ∷ l) r.before;
          new = r.new;
        }

pub grown-choices : (bs cs : List Branch) → Grown bs cs → take (length bs) (map choice_of cs) ≡ map choice_of bs
grown-choices [] cs g = refl
grown-choices (b ∷ bs) [] g = absurd g
grown-choices (b ∷ bs) (c ∷ cs) g = let e = marking-choice g.0 in let f = grown-choices bs cs g.1 in cc
