-- What every tick of an execution keeps of the ledger: only marks and added records change it. Assumes nothing.
--     replied-ledger           an answer leaves it as it is
--     execution-keeps          what marks and added records keep holds at the end
--     never-goes               an execution is over or has met a fault
--     execution-begun          one execution more has begun
use Prim.Native.Nat.{ℕ, zero, suc, ◌+◌}
use mathlib.Core.List.{List, [], ◌∷◌}
use mathlib.Core.Bool.{Bool, true, false, cond}
use mathlib.Core.Path.{◌≡◌, refl, ◌∙◌}
use native.Mathlib.Omega.{arith}
use lib.Dec.{eqb}
use lib.ListN.{length, get_or}
use Rattle.rules.specs.Path.{Branch, Bound, no_branch}
use Rattle.rules.specs.Event.{Point, nowhere, branch, Question, which_thread, which_slot, which_bit, Site, Move, Machine, moves, asks, stops, ends, impossible}
use Rattle.rules.specs.Explorer.{Limits, Ledger, backtrack_from, all_marked, first_marked, Pushed, pushes, faults, pushed, with_branch, Reply, says, unexpected, reply}
use Rattle.rules.specs.Explorer.{Walk, Tick, goes, over, faulted, with_ledger, with_state, onward, noted, fits, followed, replied, new_branch, met, asked, taken, tick, walked, one_begun, execution}
use Rattle.ledger.specs.History.{left_by, starting}

module _ (M : Machine) (limits : Limits) where
  followed-ledger : (site : Site) (w : Walk M.State) (e : Move M.State) → (left_by (followed M limits site w e)).ledger ≡ w.ledger
  followed-ledger site w (moves s es) = go (fits M limits w es)
    where
      go : (x : Bool) → (left_by (cond x (goes (noted w s es)) (faulted impossible site (with_state w s)))).ledger ≡ w.ledger
      go true = refl
      go false = refl
  followed-ledger site w (asks s es x q) = refl
  followed-ledger site w (stops s f) = refl
  followed-ledger site w (ends s) = refl

  pub replied-ledger : (site : Site) (w : Walk M.State) (r : Reply) → (left_by (replied M limits site w r)).ledger ≡ w.ledger
  replied-ledger site w (says a) = followed-ledger site (onward w) (M.answered w.state a)
  replied-ledger site w unexpected = refl

module _ (M : Machine) (limits : Limits) (P : Ledger → Type 0)
    (marks : (l : Ledger) (q : Question) → P l → P (first_marked limits.bound l q))
    (adds : (l : Ledger) (b : Branch) → P l → P (with_branch l b)) where
  replied-keeps : (site : Site) (w : Walk M.State) (r : Reply) → P w.ledger → P (left_by (replied M limits site w r)).ledger
  replied-keeps site w r p = rw (replied-ledger M limits site w r) p

  new-keeps : (site : Site) (w : Walk M.State) (q : Question) (a : Pushed) → P w.ledger → P (left_by (new_branch M limits site w q a)).ledger
  new-keeps site w q (pushes b) p =
      replied-keeps site (with_ledger w (with_branch w.ledger b)) (reply w.pos b q) (adds w.ledger b p)
  new-keeps site w q (faults f) p = p

  met-keeps : (site : Site) (w : Walk M.State) (x : Bool) (q : Question) → P w.ledger → P (left_by (met M limits site w x q)).ledger
  met-keeps site w x q p = go (eqb w.pos (length w.ledger.path))
    where
      go : (y : Bool) → P (left_by (cond y (new_branch M limits site w q (pushed limits.branches w.ledger.path x q))
          (replied M limits site w (reply w.pos (get_or w.ledger.path w.pos no_branch) q)))).ledger
      go true = new-keeps site w q (pushed limits.branches w.ledger.path x q) p
      go false = replied-keeps site w (reply w.pos (get_or w.ledger.path w.pos no_branch) q) p

  taken-keeps : (site : Site) (w : Walk M.State) (e : Move M.State) → P w.ledger → P (left_by (taken M limits site w e)).ledger
  taken-keeps site w (moves s es) p = go (fits M limits w es)
    where
      go : (y : Bool) → P (left_by (cond y (goes (noted w s es)) (faulted impossible site (with_state w s)))).ledger
      go true = p
      go false = p
  taken-keeps site w (asks s es x q) p = go (fits M limits w es)
    where
      go : (y : Bool) → P (left_by (cond y (asked M limits site (noted w s es) x q) (faulted impossible site (with_state w s)))).ledger
      go true = met-keeps site (with_ledger (noted w s es) (first_marked limits.bound w.ledger q)) x q (marks w.ledger q p)
      go false = p
  taken-keeps site w (stops s f) p = p
  taken-keeps site w (ends s) p = p

  tick-keeps : (w : Walk M.State) → P w.ledger → P (left_by (tick M limits w)).ledger
  unfolding tick
  tick-keeps w p = taken-keeps (M.next w.state).site w (M.next w.state).move p

  walked_keeps : (n : ℕ) (w : Walk M.State) → P w.ledger → P (left_by (walked M limits n w)).ledger
  unfolding walked
  walked_keeps zero w p = p
  walked_keeps (suc n) w p = go (tick M limits w) (tick-keeps w p) (λ v q. walked_keeps n v q)
    where
      go : (t : Tick M.State) → P (left_by t).ledger → ((v : Walk M.State) → P v.ledger → P (left_by (walked M limits n v)).ledger) →
          P (left_by {S = M.State} (elim t [ goes v ↦ walked M limits n v | over v ↦ over v | faulted f s v ↦ faulted f s v ])).ledger
      go (goes v) q h = h v q
      go (over v) q h = q
      go (faulted f s v) q h = q

  pub execution-keeps : (l : Ledger) → P (one_begun M limits l) → P (left_by (execution M limits l)).ledger
  unfolding execution
  execution-keeps l p = walked_keeps limits.ticks (starting M limits l) p

-- an execution is over or has met a fault
walked-ends : (M : Machine) (limits : Limits) (n : ℕ) (v w : Walk M.State) → walked M limits n v ≡ goes w → ⊥
unfolding walked
walked-ends M limits zero v w e = let z : ◌≡◌ {A = ℕ} 0 1 = cc in omega arith
walked-ends M limits (suc n) v w e = go (tick M limits v) e (λ u f. walked-ends M limits n u w f)
  where
    go : (t : Tick M.State) →
        elim t [ goes u ↦ walked M limits n u | over u ↦ over u | faulted f s u ↦ faulted f s u ] ≡ goes w →
        ((u : Walk M.State) → walked M limits n u ≡ goes w → ⊥) → ⊥
    go (goes u) f h = h u f
    go (over u) f h = let z : ◌≡◌ {A = ℕ} 0 1 = cc in omega arith
    go (faulted g s u) f h = let z : ◌≡◌ {A = ℕ} 0 1 = cc in omega arith

pub never-goes : (M : Machine) (limits : Limits) (l : Ledger) (w : Walk M.State) → execution M limits l ≡ goes w → ⊥
unfolding execution
never-goes M limits l w e = walked-ends M limits limits.ticks (starting M limits l) w e

-- Executions begun

backtrack_from-begun : (bound : Bound) (l : Ledger) (p : Point) (t : ℕ) → (backtrack_from bound l p t).begun ≡ l.begun
backtrack_from-begun bound l nowhere t = refl
backtrack_from-begun bound l (branch point) t = refl

all_marked-begun : (bound : Bound) (l : Ledger) (points : List Point) (t : ℕ) → (all_marked bound l points t).begun ≡ l.begun
unfolding all_marked
all_marked-begun bound l [] t = refl
all_marked-begun bound l (p ∷ points) t =
    all_marked-begun bound (backtrack_from bound l p t) points (t + 1) ∙ backtrack_from-begun bound l p t

first_marked-begun : (bound : Bound) (l : Ledger) (q : Question) → (first_marked bound l q).begun ≡ l.begun
first_marked-begun bound l (which_thread points initial standings) = all_marked-begun bound l points 0
first_marked-begun bound l (which_slot m) = refl
first_marked-begun bound l which_bit = refl

pub execution-begun : (M : Machine) (limits : Limits) (l : Ledger) → (left_by (execution M limits l)).ledger.begun ≡ l.begun + 1
execution-begun M limits l =
    execution-keeps M limits (λ m. m.begun ≡ l.begun + 1) (λ m q e. first_marked-begun limits.bound m q ∙ e) (λ m b e. e) l refl
