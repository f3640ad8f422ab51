-- The tree of executions: each execution parts from every earlier one.
use Prim.Native.Nat.{ℕ, ◌+◌, ◌<◌}
use mathlib.Core.List.{List, [], ◌∷◌, ◌++◌, map, append-nil}
use mathlib.Core.Bool.{Bool, true, false}
use mathlib.Core.Path.{◌≡◌, refl, sym, subst}
use native.Mathlib.Omega.{arith}
use lib.Dec.{ltb}
use lib.ListN.{length, get_or, take, length-append, get_or-append}
use lib.Seq.{get_or_at, append_snoc}
use borrow.Author.Tests.{ltb-true, ltb-false}
use Rattle.rules.specs.Path.{stepped, open_in}
use Rattle.rules.specs.Event.{Machine}
use Rattle.rules.specs.Explorer.{Limits, Ledger, Walk, over, execution, Execution, execution_of, Verdict, next_ledger, empty, run}
use Rattle.ledger.specs.History.{left_by, Every, Course, course_of, courses, executed, Made, Real}
use Rattle.ledger.specs.Tree.{Parted, no_execution, Tree}
use Rattle.ledger.proofs.Growth.{Grown}
use Rattle.ledger.proofs.Lists.{every_map, every_append, every-at}
use Rattle.ledger.proofs.Leads.{leads-nil, leads-sound}
use Rattle.ledger.proofs.Runs.{Known, next_known, grown-end, whole}
use Rattle.ledger.proofs.History.{real}
use Rattle.ledger.proofs.Behind.{Behind, behind-grown, behind-stepped, left-stepped, behind-parted, some-open}

-- Pairs

abbrev Pairs : List Execution → Type 0
Pairs hs = (i j : ℕ) → i < j → j < length hs → Parted (get_or hs i no_execution).choices (get_or hs j no_execution).choices

pairs-snoc : (past : List Execution) (e : Execution) → Pairs past → Every (λ h. Parted h.choices e.choices) past →
    Pairs (past ++ (e ∷ []))
pairs-snoc past e p q i j h k = go (ltb j (length past)) refl
  where
    n : length (past ++ (e ∷ [])) ≡ length past + 1
    n = length-append past (e ∷ [])

    go : (y : Bool) → ltb j (length past) ≡ y →
        Parted (get_or (past ++ (e ∷ [])) i no_execution).choices (get_or (past ++ (e ∷ [])) j no_execution).choices
    go true t =
        let b : j < length past = ltb-true j (length past) t in
        rw (get_or-append past (e ∷ []) no_execution i (omega arith), get_or-append past (e ∷ []) no_execution j b) (p i j h b)
    go false t =
        let b : length past ≡ j = let c = ltb-false j (length past) t in omega (arith, n) in
        rw (get_or-append past (e ∷ []) no_execution i (omega arith), get_or_at past e [] no_execution j b)
        (every-at (λ h. Parted h.choices e.choices) past i no_execution (omega arith) q)

-- Executions

module _ (M : Machine) (limits : Limits) where
  record Kept (l : Ledger) (past : List Execution) : Type 0 where
    known : Known M limits l.path
    behind : Every (λ h. Behind l.path h.choices) past
    pairs : Pairs past

  -- the next one parts from all before, whatever it comes to
  parts : (l : Ledger) (past : List Execution) → Kept l past → Pairs (past ++ (executed (course_of M limits l) ∷ []))
  unfolding course_of
  parts l past i =
      let w = left_by (execution M limits l) in
      pairs-snoc past (execution_of w) i.pairs
      (every_map (λ h. Behind l.path h.choices) (λ h. Parted h.choices (execution_of w).choices) past
      (λ h b. behind-parted l.path (take w.pos w.ledger.path) h.choices (leads-sound M limits limits.ticks M.start [] 0 l.path i.known) (grown-end M limits l i.known) b)
      i.behind)

  kept_on : (l : Ledger) (past : List Execution) → Kept l past → (w : Walk M.State) → execution M limits l ≡ over w →
      0 < open_in w.ledger.path → Kept (next_ledger w.ledger) (past ++ (executed (course_of M limits l) ∷ []))
  unfolding course_of
  kept_on l past i w e o =
      let bs = w.ledger.path in
      let n = some-open bs o in
      let z = whole M limits l i.known w e in
      let g : Grown l.path bs = rw (e, z) at (grown-end M limits l i.known) in
      record {
        known = next_known M limits l i.known w e;
        behind = every_append (λ h. Behind (stepped bs) h.choices) past (execution_of (left_by (execution M limits l)) ∷ [])
            (every_map (λ h. Behind l.path h.choices) (λ h. Behind (stepped bs) h.choices) past
            (λ h b. behind-stepped bs h.choices n (behind-grown l.path bs h.choices g b)) i.behind)
            (rw (e, z) (left-stepped bs n), tt);
        pairs = parts l past i;
      }

  all-part : (n : ℕ) (w : Walk M.State) (v : Verdict) (l : Ledger) (past : List Execution) (cs : List (Course M.State)) → Kept l past →
      Made M limits n w v l cs → Pairs (past ++ map executed cs)
  all-part n w v l past [] i m = rw append-nil i.pairs
  all-part n w v l past (c ∷ []) i m = rw m.0 (parts l past i)
  all-part n w v l past (c ∷ d ∷ cs) i m =
      let e = executed (course_of M limits l) in
      rw m.0
      (subst Pairs (append_snoc past e (map executed (d ∷ cs)))
      (all-part n w v (next_ledger m.1.ledger) (past ++ (e ∷ [])) (d ∷ cs) (kept_on l past i m.1 m.2 m.4) m.6))

pub tree : Tree
unfolding Tree Real
tree M limits n =
    subst Pairs (sym (real M limits n).history)
    (all-part M limits n (run M limits n).walk (run M limits n).verdict empty [] (courses M limits n)
    (record { known = leads-nil M limits limits.ticks M.start [] 0; behind = tt; pairs = λ a b c d. absurd (omega arith) })
    (real M limits n).made)
