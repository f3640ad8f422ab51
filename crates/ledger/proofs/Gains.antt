-- What ticks and executions do to the path, whatever the machine asks: marks, and records added.
--     tick-gained             a tick
--     course-gains            what an execution opens and what it leaves open
use Prim.Native.Nat.{ℕ, zero, suc}
use mathlib.Core.List.Perm
use mathlib.Core.List.{List, [], ◌∷◌, ◌++◌, append_assoc, Perm}
use mathlib.Core.Bool.{Bool, true, false, cond}
use mathlib.Core.Path.{◌≡◌, refl, ap, sym, subst}
use lib.Dec.{eqb}
use lib.ListN.{length, get_or}
use Rattle.rules.specs.Path.{Branch, no_branch}
use Rattle.rules.specs.Event as Event
use Rattle.rules.specs.Event.{Machine, moves, asks, stops, ends, Question}
use Rattle.rules.specs.Explorer.{Limits, Ledger, Walk, Tick, goes, over, faulted, Reply, reply, Pushed, pushes, faults, pushed, with_branch, with_ledger, with_state, noted, first_marked, replied, new_branch, met, asked, taken, tick, fits, walked, execution}
use Rattle.ledger.specs.History.{Every, ticks_from, starting, course_of, end, left_by}
use Rattle.ledger.specs.Turning.{Name, open_names, opened_names, joined_over, opened_tick}
use Rattle.ledger.proofs.Ledgers.{replied-ledger}
use Rattle.ledger.proofs.Marking.{AllMarking, all-refl, first_marked-marks}
use Rattle.ledger.proofs.Growth.{Grown, grown-refl, grown-trans}
use Rattle.ledger.proofs.Proper.{Proper, pushed-proper}
use Rattle.ledger.proofs.Opened.{Gained, gained-grown, gained-proper, marking-gained, gained-added, opened-open}
use Rattle.ledger.proofs.Lists.{left_comm}

module _ (M : Machine) (limits : Limits) where
  -- A tick

  abbrev path_left : Tick M.State → List Branch
  path_left t = (left_by t).ledger.path

  replied-path : (site : Event.Site) (w : Walk M.State) (r : Reply) → path_left (replied M limits site w r) ≡ w.ledger.path
  replied-path site w r = ap (λ (l : Ledger). l.path) (replied-ledger M limits site w r)

  new-gained : (bs : List Branch) (site : Event.Site) (w : Walk M.State) (x : Bool) (q : Question) → AllMarking bs w.ledger.path →
      (P : Pushed) →
      pushed limits.branches w.ledger.path x q ≡ P → Gained bs (path_left (new_branch M limits site w q P))
  new-gained bs site w x q m (pushes b) e =
      rw (replied-path site (with_ledger w (with_branch w.ledger b)) (reply w.pos b q))
      (gained-added bs w.ledger.path b m (pushed-proper limits.branches w.ledger.path x q b e))
  new-gained bs site w x q m (faults f) e = marking-gained bs w.ledger.path m

  met-gained : (bs : List Branch) (site : Event.Site) (w : Walk M.State) (x : Bool) (q : Question) → AllMarking bs w.ledger.path →
      Gained bs (path_left (met M limits site w x q))
  met-gained bs site w x q m = go (eqb w.pos (length w.ledger.path))
    where
      go : (y : Bool) → Gained bs (path_left (cond y (new_branch M limits site w q (pushed limits.branches w.ledger.path x q))
          (replied M limits site w (reply w.pos (get_or w.ledger.path w.pos no_branch) q))))
      go true = new-gained bs site w x q m (pushed limits.branches w.ledger.path x q) refl
      go false = rw (replied-path site w (reply w.pos (get_or w.ledger.path w.pos no_branch) q)) (marking-gained bs w.ledger.path m)

  idle : (w : Walk M.State) → Gained w.ledger.path w.ledger.path
  idle w = marking-gained w.ledger.path w.ledger.path (all-refl w.ledger.path)

  taken-gained : (site : Event.Site) (w : Walk M.State) (e : Event.Move M.State) → Gained w.ledger.path (path_left (taken M limits site w e))
  taken-gained site w (moves s es) = go (fits M limits w es)
    where
      go : (x : Bool) → Gained w.ledger.path (path_left (cond x (goes (noted w s es)) (faulted Event.impossible site (with_state w s))))
      go true = idle w
      go false = idle w
  taken-gained site w (asks s es x q) = go (fits M limits w es)
    where
      go : (y : Bool) → Gained w.ledger.path (path_left (cond y (asked M limits site (noted w s es) x q) (faulted Event.impossible site (with_state w s))))
      go true =
          met-gained w.ledger.path site (with_ledger (noted w s es) (first_marked limits.bound w.ledger q)) x q
          (first_marked-marks limits.bound w.ledger q)
      go false = idle w
  taken-gained site w (stops s f) = idle w
  taken-gained site w (ends s) = idle w

  pub tick-gained : (w : Walk M.State) → Gained w.ledger.path (path_left (tick M limits w))
  unfolding tick
  tick-gained w = taken-gained (M.next w.state).site w (M.next w.state).move

  -- An execution

  pub record Gains (w : Walk M.State) (ws : List (Walk M.State)) (v : Walk M.State) : Type 0 where
    pub grown : Grown w.ledger.path v.ledger.path
    pub proper : Every Proper w.ledger.path → Every Proper v.ledger.path
    pub opens : Perm (joined_over (opened_tick M limits) ws ++ open_names w.ledger.path) (open_names v.ledger.path)

  -- put together: what was opened later, what was opened first, and what was open
  combined : (news rest were mids lasts : List Name) → Perm mids (news ++ were) → Perm (rest ++ mids) lasts →
      Perm ((news ++ rest) ++ were) lasts
  combined news rest were mids lasts p q =
      subst (λ l. Perm l lasts) (sym (append_assoc news rest were))
      (Perm.trans {l₂ = rest ++ (news ++ were)} (left_comm news rest were)
      (Perm.trans {l₂ = rest ++ mids} (Perm.append_left {t₁ = news ++ were} {t₂ = mids} rest (Perm.symm p)) q))

  one-tick : (w v : Walk M.State) → Gained w.ledger.path v.ledger.path →
      opened_tick M limits w ≡ opened_names w.ledger.path v.ledger.path →
      (ws : List (Walk M.State)) (u : Walk M.State) → Gains v ws u → Gains w (w ∷ ws) u
  unfolding joined_over
  one-tick w v g e ws u r =
      record {
        grown = grown-trans w.ledger.path v.ledger.path u.ledger.path (gained-grown w.ledger.path v.ledger.path g) r.grown;
        proper = λ p. r.proper (gained-proper w.ledger.path v.ledger.path g p);
        opens = rw e (combined (opened_names w.ledger.path v.ledger.path) (joined_over (opened_tick M limits) ws) (open_names w.ledger.path) (open_names v.ledger.path) (open_names u.ledger.path)
            (opened-open w.ledger.path v.ledger.path g) r.opens);
      }

  no-tick : (w : Walk M.State) → Gains w [] w
  unfolding joined_over
  no-tick w = record { grown = grown-refl w.ledger.path; proper = λ p. p; opens = Perm.refl (open_names w.ledger.path) }

  pub walk-gains : (n : ℕ) (w : Walk M.State) → Gains w (ticks_from M limits n w) (left_by (walked M limits n w))
  unfolding ticks_from walked
  walk-gains zero w = no-tick w
  walk-gains (suc n) w = go (tick M limits w) refl (λ v. walk-gains n v)
    where
      go : (t : Tick M.State) → tick M limits w ≡ t →
          ((v : Walk M.State) → Gains v (ticks_from M limits n v) (left_by (walked M limits n v))) →
          Gains w (w ∷ elim t [ goes v ↦ ticks_from M limits n v | over v ↦ [] | faulted f s v ↦ [] ])
          (left_by (elim t [ goes v ↦ walked M limits n v | over v ↦ over v | faulted f s v ↦ faulted f s v ]))
      go (goes v) e h = one-tick w v (rw e at (tick-gained w)) (rw e) (ticks_from M limits n v) (left_by (walked M limits n v)) (h v)
      go (over v) e h = one-tick w v (rw e at (tick-gained w)) (rw e) [] v (no-tick v)
      go (faulted f s v) e h = one-tick w v (rw e at (tick-gained w)) (rw e) [] v (no-tick v)

  pub course-gains : (l : Ledger) → Gains (starting M limits l) (course_of M limits l).ticks (end (course_of M limits l))
  unfolding course_of execution
  course-gains l = walk-gains limits.ticks (starting M limits l)
