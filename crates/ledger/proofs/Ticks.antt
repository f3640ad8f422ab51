-- One tick along a path that leads: it goes on along the path, and whatever else comes has gone through all of it.
--     tick-fine                      every tick comes out so
use Prim.Native.Nat.{ℕ, suc, ◌+◌}
use mathlib.Core.List.{List, [], ◌∷◌, ◌++◌, append_assoc, append-nil}
use mathlib.Core.Bool.{Bool, true, false, cond, true≢false}
use mathlib.Core.Path.{◌≡◌, refl, ap, sym, subst, ◌∙◌}
use native.Mathlib.Omega.{arith}
use lib.ListN.{length, get_or, length-append}
use lib.Seq.{get_or_at, take_at, take_all}
use borrow.Author.Tests.{eq-eqb, ne_eqb}
use Rattle.rules.specs.Path.{Branch, no_branch}
use Rattle.rules.specs.Event as Event
use Rattle.rules.specs.Event.{Machine, moves, asks, stops, ends, Entry, Question, Pick}
use Rattle.rules.specs.Explorer.{Limits, Ledger, Walk, goes, faulted, Reply, says, unexpected, reply}
use Rattle.rules.specs.Explorer.{Pushed, pushes, faults, pushed, with_branch, noted, with_state, first_marked, followed, replied, new_branch, met, asked, taken, tick}
use Rattle.ledger.specs.Replay.{Agrees}
use Rattle.ledger.proofs.Marking.{AllMarking, all-refl, all-trans, all-length, all_split, marking-reply, first_marked-marks}
use Rattle.ledger.proofs.Growth.{Grown, grown-refl, grown-append, marking-grown, all_snoc}
use Rattle.ledger.proofs.Records.{agrees-marking}
use Rattle.ledger.proofs.Leads.{room, Onward, Replies, Asks, Leads, onward-moves, asks-moves, asks-marking, leads-marking, leads-nil}
use Rattle.ledger.proofs.Outcomes.{pushed-agrees, Passed, Back, Stays, Overs, Ends, Fine}

-- After an answer

module _ (M : Machine) (limits : Limits) (n : ℕ) (w : Walk M.State) (pre : List Branch) (pos-is : w.pos ≡ length pre)
    (s : M.State) (es : List Entry) (x : Bool) (q : Question) (fit : room M limits w.trace es ≡ true) where
  -- the record that has answered, and those before and after it
  pub record Passing (l : Ledger) (bs : List Branch) (a : Pick) : Type 0 where
    pub pre₁ : List Branch
    pub b : Branch
    pub path-is : l.path ≡ pre₁ ++ (b ∷ bs)
    pub marking : AllMarking pre pre₁
    pub grown : Grown w.ledger.path l.path
    pub agrees : Agrees x b q
    pub answers : reply w.pos b q ≡ says a

  abbrev passer : Ledger → Walk M.State
  passer l = record { state = s; ledger = l; pos = w.pos + 1; trace = w.trace ++ es }

  abbrev leaver : Ledger → M.State → Walk M.State
  leaver l s' = record { state = s'; ledger = l; pos = w.pos + 1; trace = w.trace ++ es }

  place : (l : Ledger) (bs : List Branch) (a : Pick) (p : Passing l bs a) → length p.pre₁ ≡ w.pos
  place l bs a p = all-length pre p.pre₁ p.marking ∙ sym pos-is

  length-passed : (l : Ledger) (a : Pick) → Passing l [] a → length l.path ≡ w.pos + 1
  length-passed l a p =
      let k = place l [] a p in rw (p.path-is, length-append) (omega arith)

  passed-by : (l : Ledger) (bs : List Branch) (a : Pick) → Passing l bs a → (v : Walk M.State) → v.ledger ≡ l →
      Passed M limits (asks s es x q) w v
  passed-by l bs a p v e h =
      let k : get_or l.path w.pos no_branch ≡ p.b = rw p.path-is (get_or_at p.pre₁ p.b bs no_branch w.pos (place l bs a p)) in
      (s, es, x, q, refl, rw (e, k) p.agrees)

  ends-here : (l : Ledger) (a : Pick) → Passing l [] a → (s' : M.State) → Ends M limits w (asks s es x q) (leaver l s')
  ends-here l a p s' =
      let k = length-passed l a p in
      record {
        within = omega arith;
        grown = rw (take_all (w.pos + 1) l.path (omega arith)) p.grown;
        passed = passed-by l [] a p (leaver l s') refl;
      }

  -- a record after marks, before what leads on
  back_by : (l : Ledger) (bs : List Branch) (a : Pick) (p : Passing l bs a) (ev : Event.Move M.State) → M.answered s a ≡ ev →
      (pre' rest' : List Branch) → AllMarking (p.pre₁ ++ (p.b ∷ [])) pre' →
      Onward M limits (Leads M limits n) (w.trace ++ es) (w.pos + 1) rest' ev →
      Back M limits n w pre (asks s es x q) (pre' ++ rest')
  back_by l bs a p ev e pre' rest' m o =
      let r = all_snoc p.pre₁ p.b pre' m in
      let k : reply w.pos r.1 q ≡ says a = marking-reply w.pos q r.4 ∙ p.answers in (
        r.0,
        r.1 ∷ rest',
        ap (λ (z : List Branch). z ++ rest') r.2 ∙ append_assoc r.0 (r.1 ∷ []) rest',
        all-trans pre p.pre₁ r.0 p.marking r.3,
        (fit, agrees-marking x q r.4 p.agrees, rw (k, e) o),
      )

  onward-ahead : (tr : List Entry) (k : ℕ) (bs : List Branch) (s₂ : M.State) (es₂ : List Entry) →
      Onward M limits (Leads M limits n) tr k bs (moves s₂ es₂) → Leads M limits n s₂ (tr ++ es₂) k bs
  onward-ahead tr k [] s₂ es₂ o = leads-nil M limits n s₂ (tr ++ es₂) k
  onward-ahead tr k (b ∷ bs) s₂ es₂ o = o.1

  stays_here : (l : Ledger) (bs : List Branch) (a : Pick) (p : Passing l bs a) (s₂ : M.State) (es₂ : List Entry) →
      M.answered s a ≡ moves s₂ es₂ →
      room M limits (w.trace ++ es) es₂ ≡ true →
      Onward M limits (Leads M limits n) (w.trace ++ es) (w.pos + 1) bs (moves s₂ es₂) →
      Stays M limits n w pre (asks s es x q) (noted (passer l) s₂ es₂)
  stays_here l bs a p s₂ es₂ e f o =
      let k = place l bs a p in
      record {
        done = p.pre₁ ++ (p.b ∷ []);
        rest = bs;
        path-is = rw append_assoc p.path-is;
        pos-is = rw length-append (omega arith);
        ahead = onward-ahead (w.trace ++ es) (w.pos + 1) bs s₂ es₂ o;
        grown = p.grown;
        back = λ pre' rest' m h. back_by l bs a p (moves s₂ es₂) e pre' rest' m
            (onward-moves M limits (Leads M limits n) (w.trace ++ es) (w.pos + 1) rest' s₂ es₂ f h);
        passed = passed-by l bs a p (noted (passer l) s₂ es₂) refl;
      }

  overs-here : (l : Ledger) (a : Pick) (p : Passing l [] a) (s₂ : M.State) → M.answered s a ≡ ends s₂ →
      Overs M limits n w pre (asks s es x q) (leaver l s₂)
  overs-here l a p s₂ e =
      record {
        at-end = sym (length-passed l a p);
        grown = p.grown;
        back = (p.pre₁, p.b ∷ [], p.path-is, p.marking, (fit, p.agrees, rw p.answers tt));
        passed = passed-by l [] a p (leaver l s₂) refl;
      }

  followed-fine : (site : Event.Site) (l : Ledger) (bs : List Branch) (a : Pick) → Passing l bs a → (ev : Event.Move M.State) →
      M.answered s a ≡ ev →
      Onward M limits (Leads M limits n) (w.trace ++ es) (w.pos + 1) bs ev →
      Fine M limits n w pre (asks s es x q) (followed M limits site (passer l) ev)
  followed-fine site l bs a p (moves s₂ es₂) e o = go (room M limits (w.trace ++ es) es₂) refl
    where
      no_room : (bs : List Branch) → Passing l bs a → room M limits (w.trace ++ es) es₂ ≡ false →
          Onward M limits (Leads M limits n) (w.trace ++ es) (w.pos + 1) bs (moves s₂ es₂) →
          Ends M limits w (asks s es x q) (leaver l s₂)
      no_room [] p f o = ends-here l a p s₂
      no_room (b ∷ bs) p f o = absurd (true≢false (sym o.0 ∙ f))

      go : (y : Bool) → room M limits (w.trace ++ es) es₂ ≡ y →
          Fine M limits n w pre (asks s es x q) (cond y (goes (noted (passer l) s₂ es₂)) (faulted Event.impossible site (leaver l s₂)))
      go true f = stays_here l bs a p s₂ es₂ e f o
      go false f = no_room bs p f o
  followed-fine site l [] a p (asks s₂ es₂ x₂ q₂) e o = ends-here l a p s₂
  followed-fine site l (b ∷ bs) a p (asks s₂ es₂ x₂ q₂) e o = absurd o
  followed-fine site l [] a p (stops s₂ f) e o = ends-here l a p s₂
  followed-fine site l (b ∷ bs) a p (stops s₂ f) e o = absurd o
  followed-fine site l [] a p (ends s₂) e o = overs-here l a p s₂ e
  followed-fine site l (b ∷ bs) a p (ends s₂) e o = absurd o

  -- A question meets the path

  -- at the question, with the marks made
  abbrev asker : Ledger → Walk M.State
  asker l = record { state = s; ledger = l; pos = w.pos; trace = w.trace ++ es }

  known-fine : (site : Event.Site) (l : Ledger) (pre₁ : List Branch) (b : Branch) (bs : List Branch) → l.path ≡ pre₁ ++ (b ∷ bs) →
      AllMarking pre pre₁ →
      Grown w.ledger.path l.path → Agrees x b q → (r : Reply) → reply w.pos b q ≡ r →
      Replies M limits (Leads M limits n) s (w.trace ++ es) w.pos bs r →
      Fine M limits n w pre (asks s es x q) (replied M limits site (asker l) r)
  known-fine site l pre₁ b bs e m g h (says a) k o =
      followed-fine site l bs a (record { pre₁ = pre₁; b = b; path-is = e; marking = m; grown = g; agrees = h; answers = k }) (M.answered s a) refl o
  known-fine site l pre₁ b bs e m g h unexpected k o = absurd o

  added-fine : (site : Event.Site) (l : Ledger) (b : Branch) → AllMarking pre l.path → Grown w.ledger.path l.path →
      pushed limits.branches l.path x q ≡ pushes b → (r : Reply) → reply w.pos b q ≡ r →
      Fine M limits n w pre (asks s es x q) (replied M limits site (asker (with_branch l b)) r)
  added-fine site l b m g k (says a) h =
      followed-fine site (with_branch l b) [] a
      (record {
        pre₁ = l.path;
        b = b;
        path-is = refl;
        marking = m;
        grown = grown-append w.ledger.path l.path (b ∷ []) g;
        agrees = pushed-agrees limits.branches l.path x q b w.pos k (rw h tt);
        answers = h;
      })
      (M.answered s a) refl tt
  added-fine site l b m g k unexpected h =
      let i : length l.path ≡ w.pos = all-length pre l.path m ∙ sym pos-is in
      record {
        within = rw length-append (omega arith);
        grown = rw (take_at l.path (b ∷ []) w.pos i) g;
        passed = λ j. absurd (omega arith);
      }

  new-fine : (site : Event.Site) (l : Ledger) → AllMarking pre l.path → Grown w.ledger.path l.path →
      (P : Pushed) → pushed limits.branches l.path x q ≡ P →
      Fine M limits n w pre (asks s es x q) (new_branch M limits site (asker l) q P)
  new-fine site l m g (pushes b) k = added-fine site l b m g k (reply w.pos b q) refl
  new-fine site l m g (faults f) k =
      let i : length l.path ≡ w.pos = all-length pre l.path m ∙ sym pos-is in
      record {
        within = omega arith;
        grown = rw (take_all w.pos l.path (omega arith)) g;
        passed = λ j. absurd (omega arith);
      }

  met-fine : (site : Event.Site) (l : Ledger) (pre₁ rest₁ : List Branch) → l.path ≡ pre₁ ++ rest₁ → AllMarking pre pre₁ →
      Grown w.ledger.path l.path →
      Asks M limits (Leads M limits n) w.trace w.pos rest₁ (asks s es x q) →
      Fine M limits n w pre (asks s es x q) (met M limits site (asker l) x q)
  met-fine site l pre₁ [] e m g o =
      let f : l.path ≡ pre₁ = e ∙ append-nil pre₁ in
      let i : length pre₁ ≡ w.pos = all-length pre pre₁ m ∙ sym pos-is in
      rw (eq-eqb w.pos (length l.path) (rw f (sym i)))
      (new-fine site l (rw f m) g (pushed limits.branches l.path x q) refl)
  met-fine site l pre₁ (b ∷ bs) e m g o =
      let i : length pre₁ ≡ w.pos = all-length pre pre₁ m ∙ sym pos-is in
      let j : length l.path ≡ length pre₁ + suc (length bs) = rw (e, length-append) refl in
      let k : get_or l.path w.pos no_branch ≡ b = rw e (get_or_at pre₁ b bs no_branch w.pos i) in
      rw (ne_eqb w.pos (length l.path) (λ z. omega arith), k)
      (known-fine site l pre₁ b bs e m g o.1 (reply w.pos b q) refl o.2)

  asked-fine : (site : Event.Site) (rest : List Branch) → w.ledger.path ≡ pre ++ rest →
      Asks M limits (Leads M limits n) w.trace w.pos rest (asks s es x q) →
      Fine M limits n w pre (asks s es x q) (asked M limits site (noted w s es) x q)
  asked-fine site rest e o =
      let l = first_marked limits.bound w.ledger q in
      let m = first_marked-marks limits.bound w.ledger q in
      let r = all_split pre rest l.path (subst (λ (z : List Branch). AllMarking z l.path) e m) in
      met-fine site l r.0 r.1 r.2 r.3 (marking-grown w.ledger.path l.path m)
      (asks-marking M limits (Leads M limits n) (leads-marking M limits n) w.trace w.pos rest r.1 (asks s es x q) r.4 o)

-- A tick

module _ (M : Machine) (limits : Limits) (n : ℕ) (w : Walk M.State) (pre : List Branch) (pos-is : w.pos ≡ length pre) where
  -- where nothing is left of the path, and no branch is passed
  idle-ends : (e : Event.Move M.State) (s : M.State) → w.ledger.path ≡ pre ++ [] → Ends M limits w e (with_state w s)
  idle-ends e s p =
      let i : length w.ledger.path ≡ w.pos = rw (p, append-nil) (sym pos-is) in
      record {
        within = omega arith;
        grown = rw (take_all w.pos w.ledger.path (omega arith)) (grown-refl w.ledger.path);
        passed = λ j. absurd (omega arith);
      }

  -- where there is no room for the entries
  full-ends : (e : Event.Move M.State) (es : List Entry) (s : M.State) (rest : List Branch) → w.ledger.path ≡ pre ++ rest →
      room M limits w.trace es ≡ false → ((b : Branch) (bs : List Branch) → rest ≡ b ∷ bs → room M limits w.trace es ≡ true) →
      Ends M limits w e (with_state w s)
  full-ends e es s [] p f t = idle-ends e s p
  full-ends e es s (b ∷ bs) p f t = absurd (true≢false (sym (t b bs refl) ∙ f))

  moves-fine : (s : M.State) (es : List Entry) (rest : List Branch) → w.ledger.path ≡ pre ++ rest → room M limits w.trace es ≡ true →
      Leads M limits n s (w.trace ++ es) w.pos rest →
      Stays M limits n w pre (moves s es) (noted w s es)
  moves-fine s es rest p f o =
      record {
        done = pre;
        rest = rest;
        path-is = p;
        pos-is = pos-is;
        ahead = o;
        grown = grown-refl w.ledger.path;
        back = λ pre' rest' m h. (pre', rest', refl, m, asks-moves M limits (Leads M limits n) w.trace w.pos rest' s es f h);
        passed = λ j. absurd (omega arith);
      }

  moves-room : (s : M.State) (es : List Entry) (rest : List Branch) →
      Asks M limits (Leads M limits n) w.trace w.pos rest (moves s es) →
      (b : Branch) (bs : List Branch) → rest ≡ b ∷ bs → room M limits w.trace es ≡ true
  moves-room s es [] o b bs e = let z : ◌≡◌ {A = ℕ} 0 1 = cc in absurd (omega arith)
  moves-room s es (c ∷ cs) o b bs e = o.0

  moves-ahead : (s : M.State) (es : List Entry) (rest : List Branch) →
      Asks M limits (Leads M limits n) w.trace w.pos rest (moves s es) →
      Leads M limits n s (w.trace ++ es) w.pos rest
  moves-ahead s es [] o = leads-nil M limits n s (w.trace ++ es) w.pos
  moves-ahead s es (c ∷ cs) o = o.1

  asks-room : (s : M.State) (es : List Entry) (x : Bool) (q : Question) (rest : List Branch) →
      Asks M limits (Leads M limits n) w.trace w.pos rest (asks s es x q) →
      (b : Branch) (bs : List Branch) → rest ≡ b ∷ bs → room M limits w.trace es ≡ true
  asks-room s es x q [] o b bs e = let z : ◌≡◌ {A = ℕ} 0 1 = cc in absurd (omega arith)
  asks-room s es x q (c ∷ cs) o b bs e = o.0

  taken_fine : (site : Event.Site) (e : Event.Move M.State) (rest : List Branch) → w.ledger.path ≡ pre ++ rest →
      Asks M limits (Leads M limits n) w.trace w.pos rest e →
      Fine M limits n w pre e (taken M limits site w e)
  taken_fine site (moves s es) rest p o = go (room M limits w.trace es) refl
    where
      go : (y : Bool) → room M limits w.trace es ≡ y →
          Fine M limits n w pre (moves s es) (cond y (goes (noted w s es)) (faulted Event.impossible site (with_state w s)))
      go true f = moves-fine s es rest p f (moves-ahead s es rest o)
      go false f = full-ends (moves s es) es s rest p f (moves-room s es rest o)
  taken_fine site (asks s es x q) rest p o = go (room M limits w.trace es) refl
    where
      go : (y : Bool) → room M limits w.trace es ≡ y →
          Fine M limits n w pre (asks s es x q) (cond y (asked M limits site (noted w s es) x q) (faulted Event.impossible site (with_state w s)))
      go true f = asked-fine M limits n w pre pos-is s es x q f site rest p o
      go false f = full-ends (asks s es x q) es s rest p f (asks-room s es x q rest o)
  taken_fine site (stops s f) [] p o = idle-ends (stops s f) s p
  taken_fine site (stops s f) (b ∷ bs) p o = absurd o
  taken_fine site (ends s) [] p o =
      record {
        at-end = rw (p, append-nil) pos-is;
        grown = grown-refl w.ledger.path;
        back = (pre, [], p, all-refl pre, tt);
        passed = λ j. absurd (omega arith);
      }
  taken_fine site (ends s) (b ∷ bs) p o = absurd o

  pub tick-fine : (rest : List Branch) → w.ledger.path ≡ pre ++ rest → Leads M limits (suc n) w.state w.trace w.pos rest →
      Fine M limits n w pre (M.next w.state).move (tick M limits w)
  unfolding tick Leads
  tick-fine rest p o = taken_fine (M.next w.state).site (M.next w.state).move rest p o
