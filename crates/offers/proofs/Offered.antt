-- What a load and an RMW are offered.
--     load-offered, rmw-offered          the statements
--     some-offered, some-offered-rmw     a cell that has a store offers one
use Prim.Native.Nat.{ℕ, zero, suc, ◌+◌, ◌≤◌, ◌<◌}
use mathlib.Core.List.{List}
use mathlib.Core.Bool.{Bool, true, false, cond, true≢false, ◌||◌}
use mathlib.Core.Path.{◌≡◌, refl, sym, ◌∙◌}
use native.Mathlib.Omega.{arith}
use lib.Dec.{ltb}
use lib.ListN.{length, get_or}
use borrow.Author.Tests.{ltb-true}
use Rattle.rules.specs.Event.{offers, slots_of}
use Rattle.rules.specs.State.{Clocks, Numbers, number, count, history}
use Rattle.rules.specs.Cell.{Fate, kept, dropped, equal_met, fate_from, matched_from, live_in, live_stores, seen_by, load_drops, load_fate, rmw_fate, matched_load, matched_rmw}
use Rattle.offers.specs.Offered.{Below, Among, OfferedRight, LoadOffered, RmwOffered, SomeOfferedToLoad, SomeOfferedRmw}
use Rattle.offers.proofs.Slots.{offered-among, among-offered, slots-rise, among-some}
use Rattle.offers.proofs.Scans.{dropped-by, kept-below, Judged, judged-length, judged-at, Top, some-top}

-- how many slots are live
pub live-few : (n : ℕ) → live_stores n ≤ 7
live-few n = go (ltb n history) refl
  where
    go : (b : Bool) → ltb n history ≡ b → cond b n history ≤ 7
    go true e = omega (arith, ltb-true)
    go false e = omega arith

pub live-some : (n : ℕ) → 1 ≤ n → (k : ℕ) × (live_stores n ≡ suc k)
live-some zero h = absurd (omega arith)
live-some (suc n) h = go (ltb (suc n) history)
  where
    go : (b : Bool) → (k : ℕ) × (cond b (suc n) history ≡ suc k)
    go true = (n, refl)
    go false = (6, refl)

-- what a scan of a store with these tests says of each that is offered
module _ (clocks : Clocks) (numbers : Numbers) (c : ℕ) (Seen : ℕ → Type 0) (drops : ℕ → ℕ → Bool)
    (seen-drops : (i j : ℕ) → Seen j → drops i j ≡ true) (offered : List Bool)
    (by-scans : matched_from (λ (i : ℕ). fate_from clocks c i (drops i) (live_in numbers c) 0)
    (live_in numbers c) 0 ≡ offers offered) where
  abbrev scan : ℕ → Fate
  scan i = fate_from clocks c i (drops i) (live_in numbers c) 0

  judged : (i : ℕ) → i < live_in numbers c → Judged (scan i) (get_or offered i false)
  judged i h = let e : 0 + i ≡ i = omega arith in rw e at (judged-at scan (live_in numbers c) 0 offered by-scans i h)

  sized : length offered ≡ live_in numbers c
  sized = judged-length scan (live_in numbers c) 0 offered by-scans

  top-offered : (i : ℕ) → Top clocks c (live_in numbers c) i → get_or offered i false ≡ true
  top-offered i (b, top) = go (scan i) refl (judged i b)
    where
      go : (f : Fate) → scan i ≡ f → Judged f (get_or offered i false) → get_or offered i false ≡ true
      go kept e j = j
      go dropped e j =
          let d = dropped-by clocks c i (drops i) (live_in numbers c) 0 e in
          absurd (top d.0 (omega (arith, d.2)) d.3.0)
      go equal_met e j = absurd j

  top-among : (i : ℕ) → Top clocks c (live_in numbers c) i → Among i (slots_of offered)
  top-among i t = offered-among offered i (top-offered i t)

  never-below : (i j : ℕ) → Among i (slots_of offered) → j < live_in numbers c → Seen j → Below clocks c i j → ⊥
  never-below i j a h s d =
      let k = among-offered offered i a in
      go k.1 (scan i) refl (judged i (omega (arith, k.0, sized)))
    where
      go : get_or offered i false ≡ true → (f : Fate) → scan i ≡ f → Judged f (get_or offered i false) → ⊥
      go e kept f q = kept-below clocks c i (drops i) (live_in numbers c) 0 f (j, omega arith, omega arith, (d, seen-drops i j s))
      go e dropped f q = true≢false (sym e ∙ q)
      go e equal_met f q = q

  pub offered-right : OfferedRight clocks numbers c Seen offered
  offered-right = record {
    each = λ i b top. top-among i (b, top);
    never = never-below;
    live = λ i a.
        let k = among-offered offered i a in
        let few = live-few (number numbers (count c)) in
        (omega (arith, k.0, sized), omega (arith, k.0, sized));
    rising = slots-rise offered 0;
    some = λ h.
        let l = live-some (number numbers (count c)) h in
        let t = some-top clocks c l.0 in
        among-some t.0 (slots_of offered) (top-among t.0 (rw l.1 t.1));
    judged = sized;
    few = omega (arith, sized, live-few (number numbers (count c)));
  }

either_left : (a b c : Bool) → a ≡ true → (a || b || c) ≡ true
either_left a b c e = rw e

pub load-offered : LoadOffered
unfolding LoadOffered matched_load load_fate
load-offered clocks rows numbers t c o offered e =
    offered-right clocks numbers c (λ j. seen_by clocks rows t j ≡ true) (load_drops clocks rows numbers t c o)
    (λ i j s. either_left _ _ _ s) offered e

pub rmw-offered : RmwOffered
unfolding RmwOffered matched_rmw rmw_fate
rmw-offered clocks numbers c offered e = offered-right clocks numbers c (λ j. Unit {0}) (λ i j. true) (λ i j s. refl) offered e

pub some-offered : SomeOfferedToLoad
unfolding SomeOfferedToLoad LoadOffered
some-offered clocks rows numbers t c o offered h e = (load-offered clocks rows numbers t c o offered e).some h

pub some-offered-rmw : SomeOfferedRmw
unfolding SomeOfferedRmw RmwOffered
some-offered-rmw clocks numbers c offered h e = (rmw-offered clocks numbers c offered e).some h
