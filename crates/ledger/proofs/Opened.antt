-- What is open after a tick is what was open, and what the tick has opened.
--     Gained                  records marked, and proper ones added after them
--     opened-open             the names
use Prim.Native.Nat.{ℕ, ◌+◌}
use mathlib.Core.List.Perm
use mathlib.Core.List.{List, [], ◌∷◌, ◌++◌, map, map-append, append-nil, Perm, perm_middle}
use mathlib.Core.Bool.{Bool, true, false, cond}
use mathlib.Core.Path.{◌≡◌, refl, subst}
use mathlib.Core.Logic.{inl, inr}
use lib.Dec.{eqb}
use Rattle.rules.specs.Path.{Branch, schedule, load, spurious, Schedule, choice_of, pending, marked}
use Rattle.ledger.specs.History.{Every}
use Rattle.ledger.specs.Turning.{threads_from, running, alternatives, name_here, beyond, open_names, newly_pending, marked_alternatives, opened_names}
use Rattle.ledger.proofs.Events.{StatesMarked, states-refl, states-trans, marked-states, not-both}
use Rattle.ledger.proofs.Marking.{Marking, same, mark, marking-choice, AllMarking}
use Rattle.ledger.proofs.Growth.{Grown}
use Rattle.ledger.proofs.Proper.{Proper, proper-marking}
use Rattle.ledger.proofs.Lists.{shuffled}

-- Paths of one execution

abbrev pub Gained : List Branch → List Branch → Type 0
Gained [] cs = Every Proper cs
Gained (b ∷ bs) [] = ⊥
Gained (b ∷ bs) (c ∷ cs) = Marking b c × Gained bs cs

pub gained-grown : (bs cs : List Branch) → Gained bs cs → Grown bs cs
gained-grown [] cs g = tt
gained-grown (b ∷ bs) [] g = absurd g
gained-grown (b ∷ bs) (c ∷ cs) g = (g.0, gained-grown bs cs g.1)

pub marking-gained : (bs cs : List Branch) → AllMarking bs cs → Gained bs cs
marking-gained [] [] m = tt
marking-gained [] (c ∷ cs) m = absurd m
marking-gained (b ∷ bs) [] m = absurd m
marking-gained (b ∷ bs) (c ∷ cs) m = (m.0, marking-gained bs cs m.1)

pub gained-added : (bs cs : List Branch) (b : Branch) → AllMarking bs cs → Proper b → Gained bs (cs ++ (b ∷ []))
gained-added [] [] b m f = (f, tt)
gained-added [] (c ∷ cs) b m f = absurd m
gained-added (a ∷ bs) [] b m f = absurd m
gained-added (a ∷ bs) (c ∷ cs) b m f = (m.0, gained-added bs cs b m.1 f)

pub gained-proper : (bs cs : List Branch) → Gained bs cs → Every Proper bs → Every Proper cs
gained-proper [] cs g e = g
gained-proper (b ∷ bs) [] g e = absurd g
gained-proper (b ∷ bs) (c ∷ cs) g e = (proper-marking g.0 e.0, gained-proper bs cs g.1 e.1)

-- Threads

threads-made : (t : ℕ) (xs ys : List ℕ) → StatesMarked xs ys →
    Perm (threads_from t pending ys) (newly_pending t xs ys ++ threads_from t pending xs)
unfolding threads_from newly_pending
threads-made t [] [] p = Perm.refl []
threads-made t [] (y ∷ ys) p = absurd p
threads-made t (x ∷ xs) [] p = absurd p
threads-made t (x ∷ xs) (y ∷ ys) (inl e, p) = rw (← e, not-both x) (go (eqb x pending) (threads-made (t + 1) xs ys p))
  where
    go : (b : Bool) → Perm (threads_from (t + 1) pending ys) (newly_pending (t + 1) xs ys ++ threads_from (t + 1) pending xs) →
        Perm (cond b (t ∷ threads_from (t + 1) pending ys) (threads_from (t + 1) pending ys))
        (newly_pending (t + 1) xs ys ++ cond b (t ∷ threads_from (t + 1) pending xs) (threads_from (t + 1) pending xs))
    go true h = Perm.trans (Perm.cons t h) (Perm.symm (perm_middle (newly_pending (t + 1) xs ys) (threads_from (t + 1) pending xs)))
    go false h = h
threads-made t (x ∷ xs) (y ∷ ys) (inr e, p) = rw (e.0, e.1) (Perm.cons t (threads-made (t + 1) xs ys p))

-- Records

-- what marks make of a record, state by state
abbrev Changed : Branch → Branch → Type 0
Changed b (schedule r) = (s : Schedule) × (b ≡ schedule s) × (s.exploring ≡ r.exploring) × StatesMarked s.states r.states
Changed b (load l) = b ≡ load l
Changed b (spurious u) = b ≡ spurious u

unchanged : (b : Branch) → Changed b b
unchanged (schedule s) = (s, refl, refl, states-refl s.states)
unchanged (load l) = refl
unchanged (spurious u) = refl

changed : {b c : Branch} → Marking b c → Changed b c
changed {b} same = unchanged b
changed (mark s t e m) =
    let r = changed m in
    (r.0, r.1, r.2, states-trans r.0.states s.states (marked s.states t) r.3 (marked-states s.states t))

schedule-opened : (s r : Schedule) → s.exploring ≡ r.exploring → StatesMarked s.states r.states →
    Perm (alternatives (schedule r)) (marked_alternatives (schedule s) (schedule r) ++ alternatives (schedule s))
unfolding alternatives marked_alternatives
schedule-opened s r e m = rw (← e) (go s.exploring)
  where
    ts : Perm (threads_from 0 pending r.states) (newly_pending 0 s.states r.states ++ threads_from 0 pending s.states)
    ts = threads-made 0 s.states r.states m

    go : (x : Bool) → Perm (cond x (map running (threads_from 0 pending r.states)) [])
        (cond x (map running (newly_pending 0 s.states r.states)) [] ++ cond x (map running (threads_from 0 pending s.states)) [])
    go true =
        subst (λ l. Perm (map running (threads_from 0 pending r.states)) l)
        (map-append running (newly_pending 0 s.states r.states) (threads_from 0 pending s.states)) (Perm.map running ts)
    go false = Perm.refl []

marked-opened : (b c : Branch) → Changed b c → Perm (alternatives c) (marked_alternatives b c ++ alternatives b)
unfolding marked_alternatives
marked-opened b (schedule r) k = rw k.1 (schedule-opened k.0 r k.2 k.3)
marked-opened b (load l) k = rw k (Perm.refl (alternatives (load l)))
marked-opened b (spurious u) k = rw k (Perm.refl (alternatives (spurious u)))

-- Paths

pub opened-open : (bs cs : List Branch) → Gained bs cs → Perm (open_names cs) (opened_names bs cs ++ open_names bs)
unfolding open_names opened_names
opened-open [] cs g = rw append-nil (Perm.refl (open_names cs))
opened-open (b ∷ bs) [] g = absurd g
opened-open (b ∷ bs) (c ∷ cs) g =
    let e : choice_of c ≡ choice_of b = marking-choice g.0 in
    shuffled (map name_here (alternatives c)) (map (beyond (choice_of c)) (open_names cs))
    (map name_here (marked_alternatives b c)) (map name_here (alternatives b))
    (map (beyond (choice_of c)) (opened_names bs cs)) (map (beyond (choice_of b)) (open_names bs))
    (subst (λ l. Perm (map name_here (alternatives c)) l) (map-append name_here (marked_alternatives b c) (alternatives b)) (Perm.map name_here (marked-opened b c (changed g.0))))
    (rw (← e) (subst (λ l. Perm (map (beyond (choice_of c)) (open_names cs)) l) (map-append (beyond (choice_of c)) (opened_names bs cs) (open_names bs)) (Perm.map (beyond (choice_of c)) (opened-open bs cs g.1))))
