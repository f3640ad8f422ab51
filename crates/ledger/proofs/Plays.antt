-- An execution along a path that leads is the machine played with its choices.
--     agreed-answer           a record that agrees answers as its choice does
--     pushed-faults           the faults that a question meets
--     tick-plays              one tick
--     walk-plays              an execution
use Prim.Native.Nat.{ℕ, zero, suc, ◌+◌}
use mathlib.Core.List.{List, [], ◌∷◌, ◌++◌, map, map-append, append_assoc, append-nil}
use mathlib.Core.Bool.{Bool, true, false, cond, ◌&&◌}
use mathlib.Core.Path.{◌≡◌, refl, ap, sym, subst, ◌∙◌}
use mathlib.Core.Logic.{inl, inr}
use native.Mathlib.Omega.{arith}
use lib.Dec.{ltb, leb}
use lib.ListN.{length, get_or, take, length-append}
use lib.Seq.{get_or_at, take_at}
use borrow.Author.Tests.{eq-eqb, ne_eqb}
use Rattle.rules.specs.Path.{Branch, schedule, load, spurious, Choice, choice_of, no_branch, Added, added, thread_added, load_added, spurious_added, last_schedule, preemptions_after}
use Rattle.rules.specs.Event as Event
use Rattle.rules.specs.Event.{Machine, moves, asks, stops, ends, Entry, Question, which_thread, which_slot, which_bit, offers, Pick, read_slot, Fault, impossible, Site}
use Rattle.rules.specs.Explorer.{Limits, Ledger, Walk, Tick, goes, over, faulted, Reply, says, unexpected, reply, Pushed, pushes, faults, or_fault, pushed, with_branch, with_state, noted, all_below, max_slots, first_marked, followed, replied, new_branch, met, asked, taken, tick, walked}
use Rattle.ledger.specs.History.{left_by}
use Rattle.ledger.specs.Replay.{Agrees}
use Rattle.ledger.specs.Play.{answer_to, after_answer, at_tick, played, AtQuestion, EndsAs}
use Rattle.ledger.proofs.Marking.{AllMarking, all-length, all_split, marking-choice, first_marked-marks}
use Rattle.ledger.proofs.Growth.{Grown, grown-append, marking-grown}
use Rattle.ledger.proofs.Records.{Answers}
use Rattle.ledger.proofs.Leads.{room, Asks, Leads, asks-marking, leads-marking}
use Rattle.ledger.proofs.Outcomes.{pushed-agrees, Stays, Fine}
use Rattle.ledger.proofs.Ticks.{Passing, tick-fine}

-- A record's answer and its choice's

agreed-load : (k : ℕ) (values : List ℕ) (pos : ℕ) (slots : List Bool) (x : Bool) → values ≡ Event.slots_of slots →
    Answers (cond x (says (read_slot (get_or values pos 0) values)) unexpected) →
    ◌≡◌ {A = Reply} (says (read_slot (get_or values pos 0) (Event.slots_of slots))) (cond x (says (read_slot (get_or values pos 0) values)) unexpected)
agreed-load k values pos slots true e h = rw (← e)
agreed-load k values pos slots false e h = absurd h

agreed-slot : (k : ℕ) (values : List ℕ) (pos : ℕ) (m : Event.Matched) (slots : List Bool) (x : Bool) → m ≡ offers slots →
    values ≡ Event.slots_of slots →
    Answers (cond x (says (read_slot (get_or values pos 0) values)) unexpected) →
    answer_to k (Choice.reads (get_or values pos 0)) (which_slot m) ≡ cond x (says (read_slot (get_or values pos 0) values)) unexpected
agreed-slot k values pos m slots x e f h = rw e (agreed-load k values pos slots x f h)

pub agreed-answer : (k : ℕ) (x : Bool) (b : Branch) (q : Question) → Agrees x b q → Answers (reply k b q) →
    answer_to k (choice_of b) q ≡ reply k b q
unfolding choice_of reply
agreed-answer k x (schedule s) (which_thread points initial standings) a h = refl
agreed-answer k x (schedule s) (which_slot m) a h = absurd a
agreed-answer k x (schedule s) which_bit a h = absurd a
agreed-answer k x (load l) (which_thread points initial standings) a h = absurd a
agreed-answer k x (load l) (which_slot m) a h =
    agreed-slot k l.values l.pos m a.1 (ltb l.pos (length l.values) && all_below max_slots l.values) a.2 a.3 h
agreed-answer k x (load l) which_bit a h = absurd a
agreed-answer k x (spurious u) (which_thread points initial standings) a h = absurd a
agreed-answer k x (spurious u) (which_slot m) a h = absurd a
agreed-answer k x (spurious u) which_bit a h = refl

all-choices : (bs cs : List Branch) → AllMarking bs cs → map choice_of cs ≡ map choice_of bs
all-choices [] [] m = refl
all-choices [] (c ∷ cs) m = absurd m
all-choices (b ∷ bs) [] m = absurd m
all-choices (b ∷ bs) (c ∷ cs) m = let e = marking-choice m.0 in let f = all-choices bs cs m.1 in cc

-- The faults of a question

only-fault : (c d : Bool) (b : Branch) (f : Fault) → or_fault (cond c Added.full (cond d Added.preempted (added b))) ≡ faults f → AtQuestion f
only-fault true d b f e = let z : Event.full ≡ f = cc in subst AtQuestion z tt
only-fault false true b f e = let z : Event.preemptions ≡ f = cc in subst AtQuestion z tt
only-fault false false b f e = let z : ◌≡◌ {A = ℕ} 0 1 = cc in absurd (omega arith)

just-fault : (c : Bool) (b : Branch) (f : Fault) → or_fault (cond c Added.full (added b)) ≡ faults f → AtQuestion f
just-fault true b f e = let z : Event.full ≡ f = cc in subst AtQuestion z tt
just-fault false b f e = let z : ◌≡◌ {A = ℕ} 0 1 = cc in absurd (omega arith)

pushed-faults : (B : ℕ) (bs : List Branch) (x : Bool) (q : Question) (f : Fault) → pushed B bs x q ≡ faults f → AtQuestion f
unfolding pushed thread_added load_added spurious_added
pushed-faults B bs x (which_thread points initial standings) f e =
    only-fault (leb B (length bs)) (ltb 255 (preemptions_after (last_schedule bs))) _ f e
pushed-faults B bs x (which_slot (offers slots)) f e = just-fault (leb B (length bs)) _ f e
pushed-faults B bs x (which_slot Event.equal) f e = let z : Event.equal_orders ≡ f = cc in subst AtQuestion z tt
pushed-faults B bs x which_bit f e = just-fault (leb B (length bs)) _ f e

-- One tick

-- the choices of the branches passed
abbrev pub made : {S : Type 0} → Walk S → List Choice
made w = map choice_of (take w.pos w.ledger.path)

module _ (M : Machine) (limits : Limits) where
  -- it goes on, and so does the play, with the choices made in this tick used up
  pub record Along (n : ℕ) (w : Walk M.State) (pre : List Branch) (site : Site) (e : Event.Move M.State) (v : Walk M.State) : Type 0 where
    pub used : List Choice
    pub made-is : made v ≡ map choice_of pre ++ used
    pub plays : (ds : List Choice) →
        at_tick M limits (played M limits n) site w.trace w.pos (used ++ ds) e ≡ played M limits n v.state v.trace v.pos ds

  -- it ends, and so does the play
  pub record There (n : ℕ) (w : Walk M.State) (pre : List Branch) (site : Site) (e : Event.Move M.State) (t : Tick M.State) : Type 0 where
    pub used : List Choice
    pub made-is : made (left_by t) ≡ map choice_of pre ++ used
    pub plays : EndsAs t (at_tick M limits (played M limits n) site w.trace w.pos used e)

  abbrev pub Plays : ℕ → Walk M.State → List Branch → Site → Event.Move M.State → Tick M.State → Type 0
  Plays n w pre site e (goes v) = Along n w pre site e v
  Plays n w pre site e (over v) = There n w pre site e (over v)
  Plays n w pre site e (faulted f s v) = There n w pre site e (faulted f s v)

-- After an answer

module _ (M : Machine) (limits : Limits) (n : ℕ) (w : Walk M.State) (pre : List Branch) (pos-is : w.pos ≡ length pre)
    (s : M.State) (es : List Entry) (x : Bool) (q : Question) (fit : room M limits w.trace es ≡ true) where
  abbrev Pass : Ledger → List Branch → Pick → Type 0
  Pass = Passing M limits n w pre pos-is s es x q fit

  abbrev at_next : Ledger → M.State → List Entry → Walk M.State
  at_next l s' tr = record { state = s'; ledger = l; pos = w.pos + 1; trace = tr }

  passed-choices : (l : Ledger) (bs : List Branch) (a : Pick) (p : Pass l bs a) →
      map choice_of (take (w.pos + 1) l.path) ≡ map choice_of pre ++ (choice_of p.b ∷ [])
  passed-choices l bs a p =
      let k : length p.pre₁ ≡ w.pos = all-length pre p.pre₁ p.marking ∙ sym pos-is in
      let e : l.path ≡ (p.pre₁ ++ (p.b ∷ [])) ++ bs = p.path-is ∙ sym (append_assoc p.pre₁ (p.b ∷ []) bs) in
      let i : length (p.pre₁ ++ (p.b ∷ [])) ≡ w.pos + 1 = rw length-append (omega arith) in
      let t : take (w.pos + 1) l.path ≡ p.pre₁ ++ (p.b ∷ []) = rw e (take_at (p.pre₁ ++ (p.b ∷ [])) bs (w.pos + 1) i) in
      rw (t, map-append, all-choices pre p.pre₁ p.marking)

  -- the play at this question, with this record's choice first
  at-answer : (site : Site) (l : Ledger) (bs : List Branch) (a : Pick) (p : Pass l bs a) (ds : List Choice) (ev : Event.Move M.State) →
      M.answered s a ≡ ev →
      at_tick M limits (played M limits n) site w.trace w.pos (choice_of p.b ∷ ds) (asks s es x q)
      ≡ after_answer M limits (played M limits n) site (w.trace ++ es) (w.pos + 1) ds ev
  at-answer site l bs a p ds ev e =
      let r : answer_to w.pos (choice_of p.b) q ≡ says a =
      agreed-answer w.pos x p.b q p.agrees (rw p.answers tt) ∙ p.answers in
      rw (fit, r, e)

  followed-plays : (site : Site) (l : Ledger) (bs : List Branch) (a : Pick) → Pass l bs a → (ev : Event.Move M.State) →
      M.answered s a ≡ ev →
      Plays M limits n w pre site (asks s es x q) (followed M limits site (at_next l s (w.trace ++ es)) ev)
  followed-plays site l bs a p (moves s₂ es₂) e = go (room M limits (w.trace ++ es) es₂) refl
    where
      go : (y : Bool) → room M limits (w.trace ++ es) es₂ ≡ y →
          Plays M limits n w pre site (asks s es x q) (cond y (goes (at_next l s₂ (w.trace ++ es ++ es₂))) (faulted Event.impossible site (at_next l s₂ (w.trace ++ es))))
      go true f =
          record {
            used = choice_of p.b ∷ [];
            made-is = passed-choices l bs a p;
            plays = λ ds. at-answer site l bs a p ds (moves s₂ es₂) e ∙ rw f;
          }
      go false f =
          record {
            used = choice_of p.b ∷ [];
            made-is = passed-choices l bs a p;
            plays = inl (at-answer site l bs a p [] (moves s₂ es₂) e ∙ rw f);
          }
  followed-plays site l bs a p (asks s₂ es₂ x₂ q₂) e =
      record { used = choice_of p.b ∷ []; made-is = passed-choices l bs a p; plays = inl (at-answer site l bs a p [] (asks s₂ es₂ x₂ q₂) e) }
  followed-plays site l bs a p (stops s₂ f) e =
      record { used = choice_of p.b ∷ []; made-is = passed-choices l bs a p; plays = inl (at-answer site l bs a p [] (stops s₂ f) e) }
  followed-plays site l bs a p (ends s₂) e =
      record { used = choice_of p.b ∷ []; made-is = passed-choices l bs a p; plays = at-answer site l bs a p [] (ends s₂) e }

  abbrev asker : Ledger → Walk M.State
  asker l = record { state = s; ledger = l; pos = w.pos; trace = w.trace ++ es }

  -- where no branch is passed
  asks_nothing : (site : Site) (l : Ledger) (pre₁ rest₁ : List Branch) (f : Fault) → l.path ≡ pre₁ ++ rest₁ → AllMarking pre pre₁ → AtQuestion f →
      There M limits n w pre site (asks s es x q) (faulted f site (asker l))
  asks_nothing site l pre₁ rest₁ f e m a =
      let k : length pre₁ ≡ w.pos = all-length pre pre₁ m ∙ sym pos-is in
      let t : take w.pos l.path ≡ pre₁ = rw e (take_at pre₁ rest₁ w.pos k) in
      record { used = []; made-is = rw (t, append-nil) (all-choices pre pre₁ m); plays = inr (a, rw fit) }

  -- A question meets the path

  known-plays : (site : Site) (l : Ledger) (pre₁ : List Branch) (b : Branch) (bs : List Branch) → l.path ≡ pre₁ ++ (b ∷ bs) →
      AllMarking pre pre₁ →
      Grown w.ledger.path l.path → Agrees x b q → (r : Reply) → reply w.pos b q ≡ r →
      Plays M limits n w pre site (asks s es x q) (replied M limits site (asker l) r)
  known-plays site l pre₁ b bs e m g h (says a) k =
      followed-plays site l bs a (record { pre₁ = pre₁; b = b; path-is = e; marking = m; grown = g; agrees = h; answers = k }) (M.answered s a) refl
  known-plays site l pre₁ b bs e m g h unexpected k = asks_nothing site l pre₁ (b ∷ bs) impossible e m tt

  added-plays : (site : Site) (l : Ledger) (b : Branch) → AllMarking pre l.path → Grown w.ledger.path l.path →
      pushed limits.branches l.path x q ≡ pushes b → (r : Reply) → reply w.pos b q ≡ r →
      Plays M limits n w pre site (asks s es x q) (replied M limits site (asker (with_branch l b)) r)
  added-plays site l b m g k (says a) h =
      followed-plays site (with_branch l b) [] a
      (record {
        pre₁ = l.path;
        b = b;
        path-is = refl;
        marking = m;
        grown = grown-append w.ledger.path l.path (b ∷ []) g;
        agrees = pushed-agrees limits.branches l.path x q b w.pos k (rw h tt);
        answers = h;
      })
      (M.answered s a) refl
  added-plays site l b m g k unexpected h = asks_nothing site (with_branch l b) l.path (b ∷ []) impossible refl m tt

  new-plays : (site : Site) (l : Ledger) → AllMarking pre l.path → Grown w.ledger.path l.path →
      (P : Pushed) → pushed limits.branches l.path x q ≡ P →
      Plays M limits n w pre site (asks s es x q) (new_branch M limits site (asker l) q P)
  new-plays site l m g (pushes b) k = added-plays site l b m g k (reply w.pos b q) refl
  new-plays site l m g (faults f) k =
      asks_nothing site l l.path [] f (sym (append-nil l.path)) m (pushed-faults limits.branches l.path x q f k)

  met-plays : (site : Site) (l : Ledger) (pre₁ rest₁ : List Branch) → l.path ≡ pre₁ ++ rest₁ → AllMarking pre pre₁ →
      Grown w.ledger.path l.path →
      Asks M limits (Leads M limits n) w.trace w.pos rest₁ (asks s es x q) →
      Plays M limits n w pre site (asks s es x q) (met M limits site (asker l) x q)
  met-plays site l pre₁ [] e m g o =
      let f : l.path ≡ pre₁ = e ∙ append-nil pre₁ in
      let i : length pre₁ ≡ w.pos = all-length pre pre₁ m ∙ sym pos-is in
      rw (eq-eqb w.pos (length l.path) (rw f (sym i)))
      (new-plays site l (rw f m) g (pushed limits.branches l.path x q) refl)
  met-plays site l pre₁ (b ∷ bs) e m g o =
      let i : length pre₁ ≡ w.pos = all-length pre pre₁ m ∙ sym pos-is in
      let j : length l.path ≡ length pre₁ + suc (length bs) = rw (e, length-append) refl in
      let k : get_or l.path w.pos no_branch ≡ b = rw e (get_or_at pre₁ b bs no_branch w.pos i) in
      rw (ne_eqb w.pos (length l.path) (λ z. omega arith), k)
      (known-plays site l pre₁ b bs e m g o.1 (reply w.pos b q) refl)

  asked-plays : (site : Site) (rest : List Branch) → w.ledger.path ≡ pre ++ rest →
      Asks M limits (Leads M limits n) w.trace w.pos rest (asks s es x q) →
      Plays M limits n w pre site (asks s es x q) (asked M limits site (noted w s es) x q)
  asked-plays site rest e o =
      let l = first_marked limits.bound w.ledger q in
      let m = first_marked-marks limits.bound w.ledger q in
      let r = all_split pre rest l.path (subst (λ (z : List Branch). AllMarking z l.path) e m) in
      met-plays site l r.0 r.1 r.2 r.3 (marking-grown w.ledger.path l.path m)
      (asks-marking M limits (Leads M limits n) (leads-marking M limits n) w.trace w.pos rest r.1 (asks s es x q) r.4 o)

-- A tick

module _ (M : Machine) (limits : Limits) (n : ℕ) (w : Walk M.State) (pre rest : List Branch) (pos-is : w.pos ≡ length pre) (path-is : w.ledger.path ≡ pre ++ rest) where
  so-far : made w ≡ map choice_of pre ++ []
  so-far = rw (path-is, take_at pre rest w.pos (sym pos-is), append-nil)

  taken-plays : (site : Site) (e : Event.Move M.State) → Asks M limits (Leads M limits n) w.trace w.pos rest e →
      Plays M limits n w pre site e (taken M limits site w e)
  taken-plays site (moves s es) o = go (room M limits w.trace es) refl
    where
      go : (y : Bool) → room M limits w.trace es ≡ y →
          Plays M limits n w pre site (moves s es) (cond y (goes (noted w s es)) (faulted Event.impossible site (with_state w s)))
      go true f = record { used = []; made-is = so-far; plays = λ ds. rw f }
      go false f = record { used = []; made-is = so-far; plays = inl (rw f) }
  taken-plays site (asks s es x q) o = go (room M limits w.trace es) refl
    where
      go : (y : Bool) → room M limits w.trace es ≡ y →
          Plays M limits n w pre site (asks s es x q) (cond y (asked M limits site (noted w s es) x q) (faulted Event.impossible site (with_state w s)))
      go true f = asked-plays M limits n w pre pos-is s es x q f site rest path-is o
      go false f = record { used = []; made-is = so-far; plays = inl (rw f) }
  taken-plays site (stops s f) o = record { used = []; made-is = so-far; plays = inl refl }
  taken-plays site (ends s) o = record { used = []; made-is = so-far; plays = refl }

  pub tick-plays : Leads M limits (suc n) w.state w.trace w.pos rest →
      Plays M limits n w pre (M.next w.state).site (M.next w.state).move (tick M limits w)
  unfolding tick Leads
  tick-plays o = taken-plays (M.next w.state).site (M.next w.state).move o

-- An execution

module _ (M : Machine) (limits : Limits) where
  -- the choices that it makes from here on, and the play with them
  abbrev pub Whole : ℕ → Walk M.State → List Branch → Tick M.State → Type 0
  Whole n w pre t =
      (ds : List Choice) × (made (left_by t) ≡ map choice_of pre ++ ds) × EndsAs t (played M limits n w.state w.trace w.pos ds)

  on-from : (n : ℕ) (w : Walk M.State) (pre : List Branch) (t : Tick M.State) → Fine M limits n w pre (M.next w.state).move t →
      Plays M limits n w pre (M.next w.state).site (M.next w.state).move t →
      ((v : Walk M.State) (r : Stays M limits n w pre (M.next w.state).move v) → Whole n v r.done (walked M limits n v)) →
      Whole (suc n) w pre (elim t [ goes v ↦ walked M limits n v | over v ↦ over v | faulted f s v ↦ faulted f s v ])
  unfolding played
  on-from n w pre (goes v) r p h =
      let k = h v r in
      let d : made v ≡ map choice_of r.done = rw (r.path-is, take_at r.done r.rest v.pos (sym r.pos-is)) in (
        p.used ++ k.0,
        k.1 ∙ ap (λ (l : List Choice). l ++ k.0) (sym d ∙ p.made-is) ∙ append_assoc (map choice_of pre) p.used k.0,
        rw (p.plays k.0) k.2,
      )
  on-from n w pre (over v) r p h = (p.used, p.made-is, p.plays)
  on-from n w pre (faulted f s v) r p h = (p.used, p.made-is, p.plays)

  pub walk-plays : (n : ℕ) (w : Walk M.State) (pre rest : List Branch) → w.pos ≡ length pre → w.ledger.path ≡ pre ++ rest →
      Leads M limits n w.state w.trace w.pos rest → Whole n w pre (walked M limits n w)
  unfolding walked played
  walk-plays zero w pre rest k e o = ([], rw (e, take_at pre rest w.pos (sym k), append-nil), inl refl)
  walk-plays (suc n) w pre rest k e o =
      on-from n w pre (tick M limits w) (tick-fine M limits n w pre k rest e o) (tick-plays M limits n w pre rest k e o)
      (λ v r. walk-plays n v r.done r.rest r.pos-is r.path-is r.ahead)
