-- The laws of the walks along a whole path. Assumes nothing.
--     any-..       down, as long as nothing is open: what is open in the first n branches is what is open in all
--     sum-..       up: what is open in the first n branches
--     step-..      down, dropping branches: the first n have the same next path as all
use Prim.Native.Nat.{ℕ, zero, suc, ◌+◌, ◌*◌, ◌-◌, ◌≤◌, ◌<◌}
use mathlib.Core.List.{List, [], ◌∷◌, ◌++◌}
use mathlib.Core.Bool.{Bool, true, false, cond}
use mathlib.Core.Path.{◌≡◌, refl, ap, sym, subst, ◌∙◌}
use native.Mathlib.Omega.{arith}
use native.Mathlib.Numerals.{add-one}
use borrow.Author.Tests.{lt-ltb, le-ltb}
use lib.Dec.{ltb}
use lib.ListN.{length, get_or, set, take, length-append}
use lib.Seq.{take_all, take-suc, set_at, length-take-le, get_or-take}
use Rattle.rules.specs.Path.{Branch, schedule, load, spurious, no_branch, open_at, open_in, or_turned, stepped, turned_branch}
use Rattle.record.specs.Fields.{cleared}
use Rattle.record.specs.Stands.{BranchStands}
use Rattle.record.specs.Steps.{OpenAt, StepsAt, spent, branch_stepped}
use Rattle.record.proofs.OpenLaws.{tried_open, tried-shaped}
use Rattle.path.specs.Holds.{Holds}
use Rattle.path.specs.Places.{Present, records_of}
use Rattle.path.specs.Steps.{AnyOpen, OpenIn, StepsPath}
use Rattle.path.proofs.HoldsLaws.{holds-room, holds-stands, holds-put, holds-dropped}
use Rattle.path.proofs.PrevLaws.{skeleton}

-- Where a walk starts

-- what is there: all of a path that the bytes hold
here-all : {path : List ℕ} {len n : ℕ} → Present path len n → (bs : List Branch) → Holds path bs → length bs ≡ len → n ≡ len
here-all {path} {len} p bs q e =
    let f : ltb (records_of path) len ≡ false = le-ltb (records_of path) len (omega (arith, holds-room q)) in
    p.is ∙ ap (λ (b : Bool). cond b (records_of path) len) f

pub present-few : (path : List ℕ) (len : ℕ) → records_of path < len → Present path len (records_of path)
present-few path len l = record { few = omega arith; fits = omega arith; is = rw (lt-ltb (records_of path) len l) }

pub present-all : (path : List ℕ) (len : ℕ) → len ≤ records_of path → Present path len len
present-all path len l = record { few = omega arith; fits = omega arith; is = rw (le-ltb (records_of path) len l) }

-- What is open

open-append : (bs cs : List Branch) → open_in (bs ++ cs) ≡ open_in bs + open_in cs
unfolding open_in
open-append [] cs = omega arith
open-append (b ∷ bs) cs = omega (arith, open-append bs cs)

open-one-more : (bs : List Branch) (k : ℕ) → k < length bs → open_in (take (suc k) bs) ≡ open_in (take k bs) + open_at (get_or bs k no_branch)
unfolding open_in
open-one-more bs k h =
    ap open_in (take-suc bs k no_branch h) ∙ open-append (take k bs) (get_or bs k no_branch ∷ []) ∙ (omega arith)

-- Down

abbrev pub Below : List ℕ → ℕ → ℕ → Type 0
Below path len n = (bs : List Branch) → Holds path bs → length bs ≡ len → open_in bs ≡ open_in (take n bs)

pub any-start : (path : List ℕ) (len n : ℕ) → Present path len n → Below path len n
any-start path len n p bs q e = ap open_in (sym (take_all n bs (omega (arith, here-all p bs q e))))

module _ (path : List ℕ) (len n r : ℕ) (h : 0 < n) (k : n ≤ len) (o : OpenAt path (n - 1) r) (v : Below path len n) where
  one_fewer : (bs : List Branch) → Holds path bs → length bs ≡ len → open_in bs ≡ open_in (take (n - 1) bs) + r
  one_fewer bs q e =
      let s : n ≡ suc (n - 1) = omega arith in
      let b : n - 1 < length bs = omega arith in
      v bs q e
      ∙ ap (λ (m : ℕ). open_in (take m bs)) s
      ∙ open-one-more bs (n - 1) b
      ∙ ap (λ (m : ℕ). open_in (take (n - 1) bs) + m) (sym (o.is (get_or bs (n - 1) no_branch) (holds-stands q (n - 1) (get_or bs (n - 1) no_branch) b refl)))

  pub any_here : 0 < r → AnyOpen path len true
  any_here l = record { is = λ bs q e. sym (lt-ltb 0 (open_in bs) (omega (arith, one_fewer bs q e))) }

  pub any-on : r ≤ 0 → Below path len (n - 1)
  any-on l bs q e = omega (arith, one_fewer bs q e)

pub any_none : (path : List ℕ) (len n : ℕ) → n ≤ 0 → Below path len n → AnyOpen path len false
unfolding open_in
any_none path len zero h v = record { is = λ bs q e. ap (ltb 0) (sym (v bs q e)) }
any_none path len (suc n) h v = absurd (omega arith)

-- Up

abbrev pub Summed : List ℕ → ℕ → ℕ → ℕ → Type 0
Summed path len n sum = (bs : List Branch) → Holds path bs → length bs ≡ len → sum ≡ open_in (take n bs)

pub sum-start : (path : List ℕ) (len : ℕ) → Summed path len 0 0
unfolding open_in
sum-start path len bs q e = refl

pub sum-on : (path : List ℕ) (len n sum r : ℕ) → n < len → OpenAt path n r → Summed path len n sum → Summed path len (n + 1) (sum + r)
sum-on path len n sum r h o v bs q e =
    let b : n < length bs = omega arith in
    rw (add-one) (sym (open-one-more bs n b ∙ (omega (arith, v bs q e, o.is (get_or bs n no_branch) (holds-stands q n (get_or bs n no_branch) b refl)))))

pub sum-all : (path : List ℕ) (len all n sum : ℕ) → Present path len all → sum ≤ 6 * n → n ≤ all → all ≤ n → Summed path len n sum → OpenIn path len sum
sum-all path len all n sum p f h k v = record {
  few = omega (arith, p.few);
  is = λ bs q e. v bs q e ∙ ap open_in (take_all n bs (omega (arith, here-all p bs q e)));
}

-- Down, with the branches dropped

-- a branch that was asked for its next choice has the prev that it had
either-alike : (c : Bool) (b d e : Branch) → skeleton e ≡ skeleton b → skeleton e ≡ skeleton d → skeleton e ≡ skeleton (cond c b d)
either-alike true b d e p q = p
either-alike false b d e p q = q

turned-alike : (b : Branch) → skeleton b ≡ skeleton (turned_branch b)
unfolding turned_branch
turned-alike (schedule s) = refl
turned-alike (load l) = refl
turned-alike (spurious u) = refl

spent-alike : (b : Branch) → skeleton b ≡ skeleton (spent b)
unfolding spent
spent-alike (schedule s) = refl
spent-alike (load l) = refl
spent-alike (spurious u) = refl

tried-alike : (b : Branch) → skeleton b ≡ skeleton (branch_stepped b)
unfolding branch_stepped
tried-alike b = either-alike (ltb 0 (open_at b)) (turned_branch b) (spent b) b (turned-alike b) (spent-alike b)

kept : (bs : List Branch) (b c : Branch) → or_turned (bs ++ (b ∷ [])) c ≡ c ∷ (bs ++ (b ∷ []))
kept [] b c = refl
kept (d ∷ bs) b c = refl

step-turned : (bs : List Branch) (b : Branch) → ltb 0 (open_at b) ≡ true → stepped (bs ++ (b ∷ [])) ≡ bs ++ (turned_branch b ∷ [])
unfolding stepped
step-turned [] b t = rw t
step-turned (c ∷ bs) b t = ap (λ (x : List Branch). or_turned x c) (step-turned bs b t) ∙ kept bs (turned_branch b) c

step-dropped : (bs : List Branch) (b : Branch) → ltb 0 (open_at b) ≡ false → stepped (bs ++ (b ∷ [])) ≡ stepped bs
unfolding stepped
step-dropped [] b t = rw t
step-dropped (c ∷ bs) b t = ap (λ (x : List Branch). or_turned x c) (step-dropped bs b t)

pub record StillLeft (start path : List ℕ) (len n : ℕ) : Type 0 where
  pub holds : (bs : List Branch) → Holds start bs → length bs ≡ len → Holds path (take n bs)
  pub next : (bs : List Branch) → Holds start bs → length bs ≡ len → stepped (take n bs) ≡ stepped bs

pub step_start : (start : List ℕ) (len n : ℕ) → Present start len n → StillLeft start start len n
step_start start len n p =
    let all : (bs : List Branch) → Holds start bs → length bs ≡ len → take n bs ≡ bs = λ bs q e. take_all n bs (omega (arith, here-all p bs q e)) in
    record { holds = λ bs q e. rw (all bs q e) q; next = λ bs q e. ap stepped (all bs q e) }

-- the first n branches, their last one apart
apart : (bs : List Branch) (n : ℕ) → 0 < n → n ≤ length bs → take n bs ≡ take (n - 1) bs ++ (get_or bs (n - 1) no_branch ∷ [])
apart bs n h k =
    let s : n ≡ suc (n - 1) = omega arith in
    ap (λ (m : ℕ). take m bs) s ∙ take-suc bs (n - 1) no_branch (omega arith)

module _ (start path mid : List ℕ) (len n : ℕ) (h : 0 < n) (k : n ≤ len) (r : Bool) (o : StepsAt path mid (n - 1) r) (v : StillLeft start path len n) where
  module _ (bs : List Branch) (q : Holds start bs) (e : length bs ≡ len) where
    whole : take n bs ≡ take (n - 1) bs ++ (get_or bs (n - 1) no_branch ∷ [])
    whole = apart bs n h (omega arith)

    inside : n - 1 < length (take n bs)
    inside = omega (arith, length-take-le n bs (omega arith))

    same : get_or (take n bs) (n - 1) no_branch ≡ get_or bs (n - 1) no_branch
    same = get_or-take n bs (n - 1) no_branch (omega arith)

    abbrev its : Branch
    its = get_or bs (n - 1) no_branch

    stands : BranchStands path (n - 1) its
    stands = holds-stands (v.holds bs q e) (n - 1) its inside same

    said : r ≡ ltb 0 (open_at its)
    said = o.said its stands

    long : length (take (n - 1) bs) ≡ n - 1
    long = length-take-le (n - 1) bs (omega arith)

    now : Holds mid (take (n - 1) bs ++ (branch_stepped its ∷ []))
    now =
        let x : set (take n bs) (n - 1) (branch_stepped its) ≡ take (n - 1) bs ++ (branch_stepped its ∷ []) =
        ap (λ (l : List Branch). set l (n - 1) (branch_stepped its)) whole ∙ set_at (take (n - 1) bs) its [] (branch_stepped its) (n - 1) long in
        let y : Holds mid (set (take n bs) (n - 1) (branch_stepped its)) =
        rw (o.puts its stands) (holds-put (v.holds bs q e) (n - 1) (branch_stepped its) inside (tried-shaped its stands.shape) (ap skeleton same ∙ tried-alike its)) in
        subst (Holds mid) x y

    turned-to : r ≡ true → stepped bs ≡ take (n - 1) bs ++ (turned_branch its ∷ [])
    turned-to t = sym (v.next bs q e) ∙ ap stepped whole ∙ step-turned (take (n - 1) bs) its (sym said ∙ t)

    turned-holds : r ≡ true → Holds mid (stepped bs)
    turned-holds t = rw (turned-to t, ← tried_open its (sym said ∙ t)) now

    turned-length : r ≡ true → n ≡ length (stepped bs)
    turned-length t =
        omega (arith, ap length (turned-to t) ∙ length-append (take (n - 1) bs) (turned_branch its ∷ []), long)

    dropped-next : r ≡ false → stepped (take (n - 1) bs) ≡ stepped bs
    dropped-next t = sym (sym (v.next bs q e) ∙ ap stepped whole ∙ step-dropped (take (n - 1) bs) its (sym said ∙ t))

    dropped-holds : Holds (cleared mid (n - 1)) (take (n - 1) bs)
    unfolding cleared
    dropped-holds = rw long at (holds-dropped (take (n - 1) bs) (branch_stepped its) now)

  pub step-here : r ≡ true → 16 * n ≤ length start → length mid ≡ length start → StepsPath start mid len (n - 1 + 1)
  step-here t f w = let e : n - 1 + 1 ≡ n = omega arith in rw e record { few = k; fits = f; keeps = w; left = λ bs q e. turned-length bs q e t; holds = λ bs q e. turned-holds bs q e t }

  pub step-on : r ≡ false → (exit : List ℕ) → exit ≡ cleared mid (n - 1) → StillLeft start exit len (n - 1)
  step-on t exit f = record { holds = λ bs q e. rw f (dropped-holds bs q e); next = λ bs q e. dropped-next bs q e t }

pub step-none : (start path : List ℕ) (len n : ℕ) → n ≤ 0 → length path ≡ length start → StillLeft start path len n → StepsPath start path len 0
unfolding stepped
step-none start path len zero h w v = record {
  few = omega arith;
  fits = omega arith;
  keeps = w;
  left = λ bs q e. ap length (v.next bs q e);
  holds = λ bs q e. subst (Holds path) (v.next bs q e) (v.holds bs q e);
}
step-none start path len (suc n) h w v = absurd (omega arith)
