-- What a machine keeps holds. Assumes nothing.
--     next-holds, followed-holds, tick-holds     of the next move, after an answer, after a tick
--     held                                       at every tick of every execution of every run
use Prim.Native.Nat.{ℕ, ◌+◌}
use mathlib.Core.List.{List, ◌++◌}
use mathlib.Core.Bool.{Bool, true, false, cond}
use mathlib.Core.Path.{◌≡◌, refl}
use lib.ListN.{length, length-append}
use Rattle.rules.specs.Event.{Machine, Move, moves, asks, stops, ends, Entry, Question, Site, impossible}
use Rattle.rules.specs.Explorer.{Limits, Ledger, Walk, Tick, goes, faulted, noted, with_state, fits, followed, tick, execution}
use Rattle.ledger.specs.History.{ticks_from, starting, course_of}
use Rattle.ledger.proofs.Lists.{every_map}
use Rattle.ledger.proofs.Runs.{Known}
use Rattle.kept.specs.Kept.{Holding, Asking, OfNext, OfAnswer, Keeps, Answerable}
use Rattle.kept.specs.Held.{HoldsOfWalk, AskedAt, EndsOver, HeldIn, HeldByAll}
use Rattle.kept.proofs.Ticked.{Expected, expected, Alone, Ticked, alone, crowded, refused, answered, ticked, passer}
use Rattle.kept.proofs.Courses.{After, walk-by, every-course}

module _ (M : Machine) (Holds : Holding M) (Asked : Asking M) (Over : Holding M) where
  pub alone-holds : (limits : Limits) (n : ℕ) (e : Move M.State) → Alone M limits e → OfNext M Holds Asked Over n e →
      OfAnswer M Holds Over n e
  alone-holds limits n (moves s es) a h = h
  alone-holds limits n (asks s es x q) a h = absurd a
  alone-holds limits n (stops s f) a h = h
  alone-holds limits n (ends s) a h = h

  -- a machine that has been answered does nothing that it could not do next
  pub answer-next : (n : ℕ) (e : Move M.State) → OfAnswer M Holds Over n e → OfNext M Holds Asked Over n e
  answer-next n (moves s es) h = h
  answer-next n (asks s es x q) h = absurd h
  answer-next n (stops s f) h = h
  answer-next n (ends s) h = h

module _ (M : Machine) (Holds : Holding M) (Asked : Asking M) (Over : Holding M) (keeps : Keeps M Holds Asked Over) where
  -- of the next move, and where it asks

  pub next-holds : (w : Walk M.State) (e : Move M.State) → HoldsOfWalk M Holds w → (M.next w.state).move ≡ e →
      OfNext M Holds Asked Over (length w.trace) e
  next-holds w e h p = rw p at (keeps.at_next w.state (length w.trace) h)

  pub next-asks : (w : Walk M.State) → HoldsOfWalk M Holds w → AskedAt M Asked w
  next-asks w h s es x q p = next-holds w (asks s es x q) h p

  -- at the question, with the entries that are noted
  pub asks-noted : (w : Walk M.State) → HoldsOfWalk M Holds w → (s : M.State) (es : List Entry) (x : Bool) (q : Question) →
      (M.next w.state).move ≡ asks s es x q → Asked s (length (w.trace ++ es)) q
  asks-noted w h s es x q p = rw length-append (next-asks w h s es x q p)

-- of the walk from which the next tick is made, or of what is left
abbrev pub Later : (M : Machine) → Holding M → Holding M → Tick M.State → Type 0
Later M Holds Over t = After (HoldsOfWalk M Holds) (EndsOver M Over) t

module _ (M : Machine) (limits : Limits) (Holds : Holding M) (Asked : Asking M) (Over : Holding M) (keeps : Keeps M Holds Asked Over)
    (can : (s : M.State) (n : ℕ) (q : Question) → Asked s n q → Answerable q) where
  -- After a tick

  followed-holds : (site : Site) (w : Walk M.State) (e : Move M.State) → OfAnswer M Holds Over (length w.trace) e →
      Later M Holds Over (followed M limits site w e)
  followed-holds site w (moves s es) h = go (fits M limits w es)
    where
      go : (y : Bool) → Later M Holds Over (cond y (goes (noted w s es)) (faulted impossible site (with_state w s)))
      go true = rw length-append h
      go false =
          let n = length w.trace + length es in (n, keeps.at_tick s n h, λ o. absurd (o site (with_state w s) refl))
  followed-holds site w (asks s es x q) h = absurd h
  followed-holds site w (stops s f) h = (length w.trace, h, λ o. refl)
  followed-holds site w (ends s) h = (length w.trace, h, λ o. refl)

  ticked-holds : (w : Walk M.State) (t : Tick M.State) → HoldsOfWalk M Holds w → Ticked M limits w t → Later M Holds Over t
  ticked-holds w t h (alone e p a) =
      followed-holds _ w e (alone-holds M Holds Asked Over limits (length w.trace) e a (next-holds M Holds Asked Over keeps w e h p))
  ticked-holds w t h (crowded s es x q p f) =
      let n = length w.trace + length es in
      (n, keeps.at-question s n q (next-asks M Holds Asked Over keeps w h s es x q p), λ o. absurd (o _ (with_state w s) refl))
  ticked-holds w t h (refused s es x q f p r) =
      let n = length (w.trace ++ es) in
      (n, keeps.at-question s n q (asks-noted M Holds Asked Over keeps w h s es x q p), λ o. refl)
  ticked-holds w t h (answered s es x q l a p m g) =
      followed-holds _ (passer M limits w s es l) (M.answered s a)
      (keeps.at-answer s (length (w.trace ++ es)) q a (asks-noted M Holds Asked Over keeps w h s es x q p) g)

  pub tick-cases : (w : Walk M.State) → HoldsOfWalk M Holds w → Expected M limits w → Ticked M limits w (tick M limits w)
  tick-cases w h r =
      ticked M limits w r (λ s es x q p. can s (length (w.trace ++ es)) q (asks-noted M Holds Asked Over keeps w h s es x q p))

  pub tick-holds : (w : Walk M.State) → HoldsOfWalk M Holds w → Expected M limits w → Later M Holds Over (tick M limits w)
  tick-holds w h r = ticked-holds w (tick M limits w) h (tick-cases w h r)

  -- An execution

  pub course-holds : (l : Ledger) → Known M limits l.path → HeldIn M Holds Asked Over (course_of M limits l)
  unfolding course_of execution
  course-holds l o =
      let r =
      walk-by M limits (λ n. HoldsOfWalk M Holds) (HoldsOfWalk M Holds) (EndsOver M Over) (λ n w h. h) (λ n w r h. tick-holds w h r)
      (λ w h. (length w.trace, keeps.at_tick w.state (length w.trace) h, λ o. refl))
      limits.ticks (starting M limits l) (expected M limits l o) keeps.at-start in
      record {
        at-ticks = r.0;
        at-questions =
            every_map (HoldsOfWalk M Holds) (AskedAt M Asked) (ticks_from M limits limits.ticks (starting M limits l))
            (next-asks M Holds Asked Over keeps) r.0;
        at-end = r.1;
      }

pub held : HeldByAll
unfolding HeldByAll
held M limits Holds Asked Over keeps can n =
    every-course M limits (λ l. Unit {0}) (HeldIn M Holds Asked Over)
    (λ l o p. course-holds M limits Holds Asked Over keeps can l o) (λ l o p w e. tt) tt n
