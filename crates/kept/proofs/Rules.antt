-- The path obeys the rules of its records at every moment of every run. Assumes nothing.
--     tick-obeys       after a tick
--     ruled            at every walk of every execution, and of the path left
use Prim.Native.Nat.{ℕ}
use mathlib.Core.List.{List, [], ◌∷◌}
use mathlib.Core.Bool.{Bool, true, false, cond}
use mathlib.Core.Path.{◌≡◌}
use Rattle.rules.specs.Path.{stepped}
use Rattle.rules.specs.Event.{Machine, Move, moves, asks, stops, ends, Question, Site, impossible}
use Rattle.rules.specs.Explorer.{Limits, Ledger, Walk, Tick, goes, over, faulted, noted, with_state, fits, followed, tick, execution, Verdict, next_ledger, empty, run}
use Rattle.ledger.specs.History.{Every, Course, ticks_from, starting, course_of, courses, left_by, Made, Real}
use Rattle.ledger.proofs.Lists.{every_map}
use Rattle.ledger.proofs.Runs.{Known}
use Rattle.ledger.proofs.Balance.{stops-left}
use Rattle.ledger.proofs.History.{real}
use Rattle.kept.specs.Kept.{Holding, Asking, Keeps, Answerable}
use Rattle.kept.specs.Held.{HoldsOfWalk}
use Rattle.kept.specs.Rules.{PathRules, RuledIn, Ruled}
use Rattle.kept.proofs.Ticked.{Expected, expected, marks_made, Met, known, new, Ticked, alone, crowded, refused, answered, passer}
use Rattle.kept.proofs.Courses.{After, walk-by, every-course}
use Rattle.kept.proofs.Held.{next-asks, Later, tick-cases, tick-holds}
use Rattle.kept.proofs.RecordRules.{Obeys, obeys-rules, obeys-none, obeys-marks, obeys-added, obeys-stepped}

module _ (M : Machine) (limits : Limits) (Holds : Holding M) (Asked : Asking M) (Over : Holding M)
    (keeps : Keeps M Holds Asked Over) (can : (s : M.State) (n : ℕ) (q : Question) → Asked s n q → Answerable q) where
  abbrev PathObeys : Walk M.State → Type 0
  PathObeys w = Obeys limits w.ledger.path

  -- A tick

  followed-obeys : (site : Site) (w : Walk M.State) (e : Move M.State) → PathObeys w →
      PathObeys (left_by (followed M limits site w e))
  followed-obeys site w (moves s es) o = go (fits M limits w es)
    where
      go : (y : Bool) → PathObeys (left_by (cond y (goes (noted w s es)) (faulted impossible site (with_state w s))))
      go true = o
      go false = o
  followed-obeys site w (asks s es x q) o = o
  followed-obeys site w (stops s f) o = o
  followed-obeys site w (ends s) o = o

  met-obeys : (w : Walk M.State) (x : Bool) (q : Question) (l : Ledger) → Answerable q → PathObeys w → Met M limits w x q l →
      Obeys limits l.path
  met-obeys w x q l a o known = obeys-marks limits w.ledger q o
  met-obeys w x q l a o (new b e) = obeys-added limits (marks_made M limits w q).path x q b a e (obeys-marks limits w.ledger q o)

  ticked-obeys : (w : Walk M.State) (t : Tick M.State) → HoldsOfWalk M Holds w → PathObeys w → Ticked M limits w t →
      PathObeys (left_by t)
  ticked-obeys w t h o (alone e p a) = followed-obeys _ w e o
  ticked-obeys w t h o (crowded s es x q p f) = o
  ticked-obeys w t h o (refused s es x q f p r) = obeys-marks limits w.ledger q o
  ticked-obeys w t h o (answered s es x q l a p m g) =
      followed-obeys _ (passer M limits w s es l) (M.answered s a)
      (met-obeys w x q l (can s _ q (next-asks M Holds Asked Over keeps w h s es x q p)) o m)

  tick-obeys : (w : Walk M.State) → HoldsOfWalk M Holds w → PathObeys w → Expected M limits w → PathObeys (left_by (tick M limits w))
  tick-obeys w h o r = ticked-obeys w (tick M limits w) h o (tick-cases M limits Holds Asked Over keeps can w h r)

  -- An execution

  abbrev Both : Walk M.State → Type 0
  Both w = HoldsOfWalk M Holds w × PathObeys w

  on-obeys : (t : Tick M.State) → Later M Holds Over t → PathObeys (left_by t) → After Both (λ u. PathObeys (left_by u)) t
  on-obeys (goes w) h o = (h, o)
  on-obeys (over w) h o = o
  on-obeys (faulted f s w) h o = o

  course-obeys : (l : Ledger) → Known M limits l.path → Obeys limits l.path →
      Every PathObeys (ticks_from M limits limits.ticks (starting M limits l)) × PathObeys (left_by (execution M limits l))
  unfolding execution
  course-obeys l k o =
      walk-by M limits (λ n. Both) PathObeys (λ u. PathObeys (left_by u)) (λ n w p. p.1)
      (λ n w r p. on-obeys (tick M limits w) (tick-holds M limits Holds Asked Over keeps can w p.0 r) (tick-obeys w p.0 p.1 r))
      (λ w p. p.1)
      limits.ticks (starting M limits l) (expected M limits l k) (keeps.at-start, o)

  course-ruled : (l : Ledger) → Known M limits l.path → Obeys limits l.path →
      RuledIn M limits (course_of M limits l)
  unfolding course_of
  course-ruled l k o =
      let r = course-obeys l k o in
      record {
        at-start = obeys-rules limits l.path o;
        at-ticks =
            every_map PathObeys (λ w. PathRules limits w.ledger.path)
            (ticks_from M limits limits.ticks (starting M limits l))
            (λ w p. obeys-rules limits w.ledger.path p) r.0;
        at-end = obeys-rules limits (left_by (execution M limits l)).ledger.path r.1;
      }

  next-obeys : (l : Ledger) → Known M limits l.path → Obeys limits l.path → (w : Walk M.State) →
      execution M limits l ≡ over w → Obeys limits (stepped w.ledger.path)
  next-obeys l k o w e = obeys-stepped limits w.ledger.path (rw e at (course-obeys l k o).1)

  -- The path left by the last one

  last-ruled : (n : ℕ) (w : Walk M.State) (v : Verdict) (l : Ledger) (c : Course M.State) (cs : List (Course M.State)) →
      Made M limits n w v l (c ∷ cs) → Every (RuledIn M limits) (c ∷ cs) → PathRules limits w.ledger.path
  unfolding course_of
  last-ruled n w v l c [] m r =
      let z = stops-left M limits n w v (execution M limits l) m.1 in rw z at (rw m.0 at r.0).at-end
  last-ruled n w v l c (d ∷ cs) m r = last-ruled n w v (next_ledger m.1.ledger) d cs m.6 r.1

  left-ruled : (n : ℕ) (w : Walk M.State) (v : Verdict) (cs : List (Course M.State)) → Made M limits n w v empty cs →
      Every (RuledIn M limits) cs → PathRules limits w.ledger.path
  left-ruled n w v [] m r = rw m.1 (obeys-rules limits [] (obeys-none limits))
  left-ruled n w v (c ∷ cs) m r = last-ruled n w v empty c cs m r

pub ruled : Ruled
unfolding Ruled Real
ruled M limits Holds Asked Over keeps can n =
    let all = every-course M limits (λ l. Obeys limits l.path) (RuledIn M limits)
    (course-ruled M limits Holds Asked Over keeps can) (next-obeys M limits Holds Asked Over keeps can) (obeys-none limits) n in
    record {
      executions = all;
      left =
          left-ruled M limits Holds Asked Over keeps can n (run M limits n).walk (run M limits n).verdict (courses M limits n)
          (real M limits n).made all;
    }
