-- How a tick comes out, along a path that leads, of a machine whose questions can be answered. Assumes nothing.
--     Expected, expected       where a question meets a known record, the two agree
--     Met                      the ledger with which a question is answered
--     Ticked, ticked           the cases of a tick
use Prim.Native.Nat.{ℕ, zero, suc, ◌+◌}
use mathlib.Core.List.{List, [], ◌∷◌, ◌++◌, append-nil}
use mathlib.Core.Bool.{Bool, true, false, cond, true≢false}
use mathlib.Core.Path.{◌≡◌, refl, sym, subst, ◌∙◌}
use lib.Dec.{eqb}
use lib.ListN.{length, get_or}
use lib.Seq.{get_or_at}
use borrow.Author.Tests.{eq-eqb}
use Rattle.rules.specs.Path.{Branch, no_branch}
use Rattle.rules.specs.Event.{Machine, Move, moves, asks, stops, ends, Entry, Question, Pick, Fault, impossible, Site}
use Rattle.rules.specs.Explorer.{Limits, Ledger, Walk, Tick, goes, over, faulted, reply, Pushed, pushes, faults, pushed, with_branch, with_ledger, with_state, noted, first_marked, fits, followed, replied, new_branch, asked, taken, tick}
use Rattle.ledger.specs.History.{Every, ticks_from, starting}
use Rattle.ledger.specs.Replay.{Agrees}
use Rattle.ledger.proofs.Marking.{AllMarking, all-length, all_split, first_marked-marks}
use Rattle.ledger.proofs.Records.{agrees-marking}
use Rattle.ledger.proofs.Leads.{Asks, Leads}
use Rattle.ledger.proofs.Outcomes.{Stays, Fine}
use Rattle.ledger.proofs.Ticks.{tick-fine}
use Rattle.ledger.proofs.Runs.{Known}
use Rattle.kept.specs.Kept.{Fitting, Answerable}
use Rattle.kept.proofs.Answers.{added-agrees, answers}

module _ (M : Machine) (limits : Limits) where
  -- the ledger at a question, with its marks made
  abbrev pub marks_made : Walk M.State → Question → Ledger
  marks_made w q = first_marked limits.bound w.ledger q

  -- A known record agrees with the question that meets it
  abbrev pub Expected : Walk M.State → Type 0
  Expected w =
      (s : M.State) (es : List Entry) (x : Bool) (q : Question) → (M.next w.state).move ≡ asks s es x q →
      fits M limits w es ≡ true → eqb w.pos (length (marks_made w q).path) ≡ false →
      Agrees x (get_or (marks_made w q).path w.pos no_branch) q

  meets-known : (n : ℕ) (w : Walk M.State) (pre rest : List Branch) → w.pos ≡ length pre → w.ledger.path ≡ pre ++ rest →
      (s : M.State) (es : List Entry) (x : Bool) (q : Question) →
      Asks M limits (Leads M limits n) w.trace w.pos rest (asks s es x q) →
      eqb w.pos (length (marks_made w q).path) ≡ false → Agrees x (get_or (marks_made w q).path w.pos no_branch) q
  meets-known n w pre rest k e s es x q o f =
      let r = all_split pre rest (marks_made w q).path
      (subst (λ (z : List Branch). AllMarking z (marks_made w q).path) e (first_marked-marks limits.bound w.ledger q)) in
      go rest r.0 r.1 r.2 (all-length pre r.0 r.3 ∙ sym k) r.4 o
    where
      go : (rest pre₁ rest₁ : List Branch) → (marks_made w q).path ≡ pre₁ ++ rest₁ → length pre₁ ≡ w.pos → AllMarking rest rest₁ →
          Asks M limits (Leads M limits n) w.trace w.pos rest (asks s es x q) →
          Agrees x (get_or (marks_made w q).path w.pos no_branch) q
      go [] pre₁ [] p i m h =
          let z = eq-eqb w.pos (length (marks_made w q).path) (rw (p, append-nil) (sym i)) in absurd (true≢false (sym z ∙ f))
      go [] pre₁ (c ∷ cs) p i m h = absurd m
      go (b ∷ bs) pre₁ [] p i m h = absurd m
      go (b ∷ bs) pre₁ (c ∷ cs) p i m h =
          let z : get_or (marks_made w q).path w.pos no_branch ≡ c = rw p (get_or_at pre₁ c cs no_branch w.pos i) in
          rw z (agrees-marking x q m.0 h.1)

  later-ticks : (n : ℕ) (w : Walk M.State) (pre : List Branch) (t : Tick M.State) →
      Fine M limits n w pre (M.next w.state).move t →
      ((v : Walk M.State) → Stays M limits n w pre (M.next w.state).move v → Every Expected (ticks_from M limits n v)) →
      Every Expected (elim t [ goes v ↦ ticks_from M limits n v | over v ↦ [] | faulted f s v ↦ [] ])
  later-ticks n w pre (goes v) r h = h v r
  later-ticks n w pre (over v) r h = tt
  later-ticks n w pre (faulted f s v) r h = tt

  ticks-expected : (n : ℕ) (w : Walk M.State) (pre rest : List Branch) → w.pos ≡ length pre → w.ledger.path ≡ pre ++ rest →
      Leads M limits n w.state w.trace w.pos rest → Every Expected (ticks_from M limits n w)
  unfolding ticks_from Leads
  ticks-expected zero w pre rest k e o = tt
  ticks-expected (suc n) w pre rest k e o = (
    λ s es x q p h f. meets-known n w pre rest k e s es x q (rw p at o) f,
    later-ticks n w pre (tick M limits w) (tick-fine M limits n w pre k rest e o)
        (λ v r. ticks-expected n v r.done r.rest r.pos-is r.path-is r.ahead),
  )

  -- at every tick of an execution from a path that leads
  pub expected : (l : Ledger) → Known M limits l.path → Every Expected (ticks_from M limits limits.ticks (starting M limits l))
  expected l o = ticks-expected limits.ticks (starting M limits l) [] l.path refl refl o

  -- The cases of a tick

  -- the path as it is known, or with a new record
  pub data Met (w : Walk M.State) (x : Bool) (q : Question) : Ledger → Type 0 where
    known : Met w x q (marks_made w q)
    new : (b : Branch) → pushed limits.branches (marks_made w q).path x q ≡ pushes b → Met w x q (with_branch (marks_made w q) b)

  -- at the question
  abbrev pub waiting : Walk M.State → M.State → List Entry → Question → Walk M.State
  waiting w s es q = with_ledger (noted w s es) (marks_made w q)

  -- past the branch that has answered
  abbrev pub passer : Walk M.State → M.State → List Entry → Ledger → Walk M.State
  passer w s es l = record { state = s; ledger = l; pos = w.pos + 1; trace = w.trace ++ es }

  -- a move that asks nothing
  abbrev pub Alone : Move M.State → Type 0
  Alone (moves s es) = Unit {0}
  Alone (asks s es x q) = ⊥
  Alone (stops s f) = Unit {0}
  Alone (ends s) = Unit {0}

  abbrev pub site : Walk M.State → Site
  site w = (M.next w.state).site

  pub data Ticked (w : Walk M.State) : Tick M.State → Type 0 where
    -- the machine does not ask
    alone : (e : Move M.State) → (M.next w.state).move ≡ e → Alone e → Ticked w (followed M limits (site w) w e)
    -- it asks, and its entries have no room
    crowded : (s : M.State) (es : List Entry) (x : Bool) (q : Question) → (M.next w.state).move ≡ asks s es x q →
        fits M limits w es ≡ false → Ticked w (faulted impossible (site w) (with_state w s))
    -- no record can be added
    refused : (s : M.State) (es : List Entry) (x : Bool) (q : Question) (f : Fault) → (M.next w.state).move ≡ asks s es x q →
        pushed limits.branches (marks_made w q).path x q ≡ faults f →
        Ticked w (faulted f (site w) (waiting w s es q))
    -- it is answered
    answered : (s : M.State) (es : List Entry) (x : Bool) (q : Question) (l : Ledger) (a : Pick) →
        (M.next w.state).move ≡ asks s es x q → Met w x q l → Fitting q a →
        Ticked w (followed M limits (site w) (passer w s es l) (M.answered s a))

  module _ (w : Walk M.State) (ready : Expected w)
      (can : (s : M.State) (es : List Entry) (x : Bool) (q : Question) → (M.next w.state).move ≡ asks s es x q →
      Answerable q) where
    -- a record that agrees answers
    replied-ticked : (s : M.State) (es : List Entry) (x : Bool) (q : Question) (l : Ledger) (b : Branch) →
        (M.next w.state).move ≡ asks s es x q → Met w x q l → Agrees x b q →
        Ticked w (replied M limits (site w) (with_ledger (noted w s es) l) (reply w.pos b q))
    replied-ticked s es x q l b e m g =
        let r = answers x w.pos b q (can s es x q e) g in rw r.1 (answered s es x q l r.0 e m r.2)

    new-ticked : (s : M.State) (es : List Entry) (x : Bool) (q : Question) (p : Pushed) → (M.next w.state).move ≡ asks s es x q →
        pushed limits.branches (marks_made w q).path x q ≡ p →
        Ticked w (new_branch M limits (site w) (waiting w s es q) q p)
    new-ticked s es x q (pushes b) e h =
        replied-ticked s es x q (with_branch (marks_made w q) b) b e (new b h)
        (added-agrees limits.branches (marks_made w q).path x q b (can s es x q e) h)
    new-ticked s es x q (faults f) e h = refused s es x q f e h

    asked-ticked : (s : M.State) (es : List Entry) (x : Bool) (q : Question) → (M.next w.state).move ≡ asks s es x q →
        fits M limits w es ≡ true → Ticked w (asked M limits (site w) (noted w s es) x q)
    asked-ticked s es x q e h = go (eqb w.pos (length (marks_made w q).path)) refl
      where
        go : (y : Bool) → eqb w.pos (length (marks_made w q).path) ≡ y →
            Ticked w (cond y
            (new_branch M limits (site w) (waiting w s es q) q (pushed limits.branches (marks_made w q).path x q))
            (replied M limits (site w) (waiting w s es q) (reply w.pos (get_or (marks_made w q).path w.pos no_branch) q)))
        go true f = new-ticked s es x q (pushed limits.branches (marks_made w q).path x q) e refl
        go false f = replied-ticked s es x q (marks_made w q) _ e known (ready s es x q e h f)

    taken-ticked : (e : Move M.State) → (M.next w.state).move ≡ e → Ticked w (taken M limits (site w) w e)
    taken-ticked (moves s es) e = alone (moves s es) e tt
    taken-ticked (asks s es x q) e = go (fits M limits w es) refl
      where
        go : (y : Bool) → fits M limits w es ≡ y →
            Ticked w (cond y (asked M limits (site w) (noted w s es) x q) (faulted impossible (site w) (with_state w s)))
        go true f = asked-ticked s es x q e f
        go false f = crowded s es x q e f
    taken-ticked (stops s f) e = alone (stops s f) e tt
    taken-ticked (ends s) e = alone (ends s) e tt

    pub ticked : Ticked w (tick M limits w)
    unfolding tick
    ticked = taken-ticked (M.next w.state).move refl
