-- A machine that never comes to the impossible outcome by itself never comes to it in any run. Assumes nothing.
--     pushed-possible                         nor does a record that cannot be added
--     Sure, followed-sure, tick-sure          after an answer, after a tick
--     never-impossible                        all executions of every run
use Prim.Native.Nat.{ℕ, ◌+◌, ◌≤◌, ◌<◌}
use mathlib.Core.List.{List, [], ◌∷◌, ◌++◌}
use mathlib.Core.Bool.{Bool, true, true≢false}
use mathlib.Core.Path.{◌≡◌, refl, sym, ◌∙◌}
use native.Mathlib.Omega.{arith}
use lib.ListN.{length}
use borrow.Author.Tests.{le-leb}
use Rattle.rules.specs.Path.{Branch, Added, added, thread_added, load_added, spurious_added}
use Rattle.rules.specs.Event as Event
use Rattle.rules.specs.Event.{Machine, Move, moves, asks, stops, ends, Entry, Question, which_thread, which_slot, which_bit, offers, slots_of, Fault, Site, impossible}
use Rattle.rules.specs.Explorer.{Limits, Ledger, Walk, Tick, goes, over, faulted, fits, followed, tick, execution, seed_of, or_fault, faults, pushed, stopped, next_ledger, empty, run}
use Rattle.ledger.specs.History.{Every, Course, starting, course_of, courses, left_by, Made, Real}
use Rattle.ledger.proofs.Runs.{Known}
use Rattle.ledger.proofs.History.{real}
use Rattle.kept.specs.Kept.{Holding, Asking, OfAnswer, Possible, Falls, Never}
use Rattle.kept.specs.Held.{HoldsOfWalk, NotImpossible, EndsOver}
use Rattle.kept.specs.Possible.{PossibleIn, NeverImpossible}
use Rattle.kept.proofs.Ticked.{Expected, expected, Ticked, alone, crowded, refused, answered, passer}
use Rattle.kept.proofs.Courses.{After, walk-by, every-course}
use Rattle.kept.proofs.Held.{alone-holds, next-holds, next-asks, asks-noted, Later, tick-cases, tick-holds, course-holds}

-- A record that cannot be added

or-possible : (a : Added) (f : Fault) → or_fault a ≡ faults f → f ≡ impossible → ⊥
or-possible (added b) f e i = let z : ◌≡◌ {A = ℕ} 0 1 = cc in omega arith
or-possible Added.full f e i = let z : ◌≡◌ {A = ℕ} 0 1 = cc in omega arith
or-possible Added.preempted f e i = let z : ◌≡◌ {A = ℕ} 0 1 = cc in omega arith

pub pushed-possible : (B : ℕ) (bs : List Branch) (x : Bool) (q : Question) (f : Fault) → pushed B bs x q ≡ faults f →
    f ≡ impossible → ⊥
unfolding pushed
pushed-possible B bs x (which_thread points initial standings) f e i = or-possible (thread_added B bs x (seed_of initial standings)) f e i
pushed-possible B bs x (which_slot (offers slots)) f e i = or-possible (load_added B bs x (slots_of slots)) f e i
pushed-possible B bs x (which_slot Event.equal) f e i = let z : ◌≡◌ {A = ℕ} 0 1 = cc in omega arith
pushed-possible B bs x which_bit f e i = or-possible (spurious_added B bs x) f e i

module _ (M : Machine) (limits : Limits) (Holds : Holding M) (Asked : Asking M) (Over : Holding M)
    (N : Never M limits Holds Asked Over) where
  abbrev sure-left : Walk M.State → ℕ
  sure-left w = N.left w.state

  -- not the impossible outcome; and where it goes on, fewer ticks than n are left
  abbrev Sure : ℕ → Tick M.State → Type 0
  Sure n (goes w) = sure-left w < n
  Sure n (over w) = Unit {0}
  Sure n (faulted f s w) = f ≡ impossible → ⊥

  -- entries have room where something holds with them
  has_room : (s : M.State) (w : Walk M.State) (es : List Entry) → Over s (length w.trace + length es) →
      fits M limits w es ≡ true
  has_room s w es h = le-leb (length w.trace + length es) limits.operations (N.room s (length w.trace + length es) h)

  followed-sure : (n : ℕ) (site : Site) (w : Walk M.State) (e : Move M.State) → OfAnswer M Holds Over (length w.trace) e →
      Possible e → Falls N.left n e → Sure n (followed M limits site w e)
  followed-sure n site w (moves s es) h p f = rw (has_room s w es (N.keeps.at_tick s (length w.trace + length es) h)) f
  followed-sure n site w (asks s es x q) h p f = absurd h
  followed-sure n site w (stops s g) h p f = p
  followed-sure n site w (ends s) h p f = tt

  ticked-sure : (w : Walk M.State) (t : Tick M.State) → HoldsOfWalk M Holds w → Ticked M limits w t → Sure (sure-left w) t
  ticked-sure w t h (alone e p a) =
      followed-sure (sure-left w) _ w e
      (alone-holds M Holds Asked Over limits (length w.trace) e a (next-holds M Holds Asked Over N.keeps w e h p))
      (rw p at (N.next-possible w.state (length w.trace) h))
      (rw p at (N.next-falls w.state (length w.trace) h))
  ticked-sure w t h (crowded s es x q p f) =
      let k = N.keeps.at-question s (length w.trace + length es) q (next-asks M Holds Asked Over N.keeps w h s es x q p) in
      absurd (true≢false (sym (has_room s w es k) ∙ f))
  ticked-sure w t h (refused s es x q f p r) = pushed-possible _ _ x q f r
  ticked-sure w t h (answered s es x q l a p m g) =
      let k = asks-noted M Holds Asked Over N.keeps w h s es x q p in
      followed-sure (sure-left w) _ (passer M limits w s es l) (M.answered s a)
      (N.keeps.at-answer s (length (w.trace ++ es)) q a k g)
      (N.answer-possible s (length (w.trace ++ es)) q a k g)
      (N.answer-falls w.state (length w.trace) s es x q a h p g)

  tick-sure : (w : Walk M.State) → HoldsOfWalk M Holds w → Expected M limits w → Sure (sure-left w) (tick M limits w)
  tick-sure w h r = ticked-sure w (tick M limits w) h (tick-cases M limits Holds Asked Over N.keeps N.question w h r)

  -- An execution

  abbrev Outcome : Tick M.State → Type 0
  Outcome (goes w) = Unit {0}
  Outcome (over w) = Unit {0}
  Outcome (faulted f s w) = f ≡ impossible → ⊥

  -- the ticks that may yet be made suffice
  abbrev Suffices : ℕ → Walk M.State → Type 0
  Suffices n w = HoldsOfWalk M Holds w × (sure-left w < n)

  on-sure : (n m : ℕ) (t : Tick M.State) → m ≤ n → Later M Holds Over t → Sure m t → After (Suffices n) Outcome t
  on-sure n m (goes w) h k s = (k, omega arith)
  on-sure n m (over w) h k s = tt
  on-sure n m (faulted f s w) h k c = c

  not_so : (t : Tick M.State) → Outcome t → NotImpossible t
  not_so t o site w e = (rw e at o) refl

  left-holds : (t : Tick M.State) → NotImpossible t → EndsOver M Over t → HoldsOfWalk M Over (left_by t)
  left-holds t o h = rw (h.2 o) at h.1

  course-possible : (l : Ledger) → Known M limits l.path → PossibleIn M Holds Asked Over (course_of M limits l)
  unfolding course_of execution
  course-possible l o =
      let r =
      walk-by M limits Suffices (HoldsOfWalk M Holds) Outcome (λ n w p. p.0)
      (λ n w r p. on-sure n (sure-left w) (tick M limits w) (omega (arith, p.1))
      (tick-holds M limits Holds Asked Over N.keeps N.question w p.0 r) (tick-sure w p.0 r))
      (λ w p. absurd (omega (arith, p.1)))
      limits.ticks (starting M limits l) (expected M limits l o) (N.keeps.at-start, N.enough) in
      let h = course-holds M limits Holds Asked Over N.keeps N.question l o in
      let o = not_so (execution M limits l) r.1 in
      record {
        never = o;
        held = h;
        at-end = left-holds (execution M limits l) o h.at-end;
      }

  -- The verdict

  no-verdict : (n : ℕ) (w : Walk M.State) (site : Site) (l : Ledger) (cs : List (Course M.State)) → l.begun < n →
      Made M limits n w (stopped impossible site) l cs → Every (PossibleIn M Holds Asked Over) cs → ⊥
  unfolding course_of
  no-verdict n w site l [] h m e = omega (arith, m.0)
  no-verdict n w site l (c ∷ []) h m e = e.0.never site w (rw m.0 m.1)
  no-verdict n w site l (c ∷ d ∷ cs) h m e = no-verdict n w site (next_ledger m.1.ledger) (d ∷ cs) m.5 m.6 e.1

pub never-impossible : NeverImpossible
unfolding NeverImpossible Real
never-impossible M limits Holds Asked Over N n =
    let all =
    every-course M limits (λ l. Unit {0}) (PossibleIn M Holds Asked Over) (λ l o p. course-possible M limits Holds Asked Over N l o)
    (λ l o p w e. tt) tt n in
    record {
      executions = all;
      verdict = λ h site e.
          no-verdict M limits Holds Asked Over N n (run M limits n).walk site empty (courses M limits n) (omega arith)
          (rw e at (real M limits n).made) all;
    }
