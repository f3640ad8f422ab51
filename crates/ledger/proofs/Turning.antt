-- Turning points: each execution but the first turns at an opened choice, no two at the same, and what is opened is what was
-- turned to together with what is open.
use Prim.Native.Nat.{ℕ}
use mathlib.Core.List.Perm
use mathlib.Core.List.Nodup
use mathlib.Core.List.Pairwise
use mathlib.Core.List.{List, [], ◌∷◌, ◌++◌, map, append_assoc, append-nil, Perm, perm_middle, mem-cons_self, Nodup, Mem, Nodup-append, Pairwise-singleton}
use mathlib.Core.Path.{◌≡◌, refl, ap, sym, subst, ◌∙◌}
use mathlib.Core.Logic.{◌≢◌, ∥∥₁_elim}
use mathlib.Core.HLevel.{¬_prop}
use native.Mathlib.Omega.{arith}
use lib.ListN.{length, take, length-append, length-map}
use Rattle.rules.specs.Path.{choice_of, stepped, open_in}
use Rattle.rules.specs.Event.{Machine}
use Rattle.rules.specs.Explorer.{Limits, Ledger, Walk, over, execution, execution_of, Verdict, exhausted, next_ledger, empty, run}
use Rattle.ledger.specs.History.{left_by, Every, Course, starting, course_of, courses, Made, Real}
use Rattle.ledger.specs.Turning.{Name, open_names, joined_over, opened_course, opened_of, turned_of, open_of, partings, others, turning_point, choices_of, Turns, Each, Turning}
use Rattle.ledger.proofs.Leads.{leads-nil}
use Rattle.ledger.proofs.Runs.{Known, next_known, grown-end, whole}
use Rattle.ledger.proofs.Behind.{some-open}
use Rattle.ledger.proofs.Proper.{Proper, proper-stepped}
use Rattle.ledger.proofs.Reached.{Reached, reached-grown, reached-stepped, reached-all, unreached, open-nodup, open-length, nothing-named, stepped-open}
use Rattle.ledger.proofs.Gains.{Gains, course-gains}
use Rattle.ledger.proofs.Balance.{Level, stops-left, made-sums, none_left}
use Rattle.ledger.proofs.History.{real}
use Rattle.ledger.proofs.Partings.{turns-part}
use Rattle.ledger.proofs.Points.{turn-place, grown-choices}
use Rattle.ledger.proofs.Lists.{perm-length, every_map, every_append, every-mem, disjoint-by, left_comm}

module _ (M : Machine) (limits : Limits) where
  -- what is kept from one execution to the next: the names turned to so far
  record Kept (l : Ledger) (past : List Name) : Type 0 where
    known : Known M limits l.path
    proper : Every Proper l.path
    reached : Every (Reached l.path) past
    once : Nodup past

  -- what is then told of an execution from this ledger, those after it, and the walk that the last one left
  record Tale (l : Ledger) (past : List Name) (rest : List (Course M.State)) (w : Walk M.State) : Type 0 where
    opens : Perm (joined_over (opened_course M limits) (course_of M limits l ∷ rest) ++ open_names l.path) (map turning_point rest ++ open_names w.ledger.path)
    once : Nodup ((past ++ map turning_point rest) ++ open_names w.ledger.path)
    turns : Each Turns (course_of M limits l ∷ rest)

  -- One execution

  gains : (l : Ledger) (w : Walk M.State) → left_by (execution M limits l) ≡ w →
      Gains M limits (starting M limits l) (course_of M limits l).ticks w
  unfolding course_of
  gains l w e = subst (λ v. Gains M limits (starting M limits l) (course_of M limits l).ticks v) e (course-gains M limits l)

  -- nothing that is open at its end was turned to before
  once-open : (l : Ledger) (past : List Name) → Kept l past → (w : Walk M.State) → left_by (execution M limits l) ≡ w →
      Nodup (past ++ open_names w.ledger.path)
  once-open l past i w e =
      let g = gains l w e in
      let p = g.proper i.proper in
      (Nodup-append {l₁ = past} {l₂ = open_names w.ledger.path}).1 (
        i.once,
        open-nodup w.ledger.path p,
        disjoint-by (Reached w.ledger.path) (λ n. Reached w.ledger.path n → ⊥) past (open_names w.ledger.path)
            (every_map (Reached l.path) (Reached w.ledger.path) past (λ n h. reached-grown l.path w.ledger.path n g.grown h) i.reached)
            (unreached w.ledger.path p) (λ n x y. y x),
      )

  -- where a run stops
  stops : (l : Ledger) (past : List Name) → Kept l past → (w : Walk M.State) → left_by (execution M limits l) ≡ w → Tale l past [] w
  unfolding joined_over
  stops l past i w e = record { opens = rw append-nil (gains l w e).opens; once = rw append-nil (once-open l past i w e); turns = tt }

  -- where it goes on

  next-name : Walk M.State → Name
  next-name w = map choice_of (stepped w.ledger.path)

  kept_on : (l : Ledger) (past : List Name) → Kept l past → (w : Walk M.State) → execution M limits l ≡ over w →
      stepped w.ledger.path ≢ [] → Kept (next_ledger w.ledger) (past ++ (next-name w ∷ []))
  unfolding next-name
  kept_on l past i w e n =
      let bs = w.ledger.path in
      let g = gains l w (ap left_by e) in
      let p = g.proper i.proper in
      let q = every_map (Reached l.path) (Reached bs) past (λ c h. reached-grown l.path bs c g.grown h) i.reached in
      let m : Mem (map choice_of (stepped bs)) (open_names bs) = (Perm.mem_iff (stepped-open bs p n)).1 mem-cons_self in
      let u : Reached bs (map choice_of (stepped bs)) →
      ⊥ = ∥∥₁_elim m ¬_prop (λ d. every-mem (λ c. Reached bs c → ⊥) (open_names bs) (unreached bs p) (map choice_of (stepped bs)) d) in
      record {
        known = next_known M limits l i.known w e;
        proper = proper-stepped bs p;
        reached = every_append (Reached (stepped bs)) past (map choice_of (stepped bs) ∷ [])
            (every_map (Reached bs) (Reached (stepped bs)) past (λ c h. reached-stepped bs c n h) q) (reached-all (stepped bs), tt);
        once = (Nodup-append {l₁ = past} {l₂ = map choice_of (stepped bs) ∷ []}).1 (
          i.once,
          Pairwise-singleton (λ (a b : Name). a ≢ b) (map choice_of (stepped bs)),
          disjoint-by (Reached bs) (λ c. Reached bs c → ⊥) past (map choice_of (stepped bs) ∷ []) q (u, tt) (λ c x y. y x),
        );
      }

  turns-here : (l : Ledger) (past : List Name) → Kept l past → (w : Walk M.State) → execution M limits l ≡ over w →
      stepped w.ledger.path ≢ [] → Turns (course_of M limits l) (course_of M limits (next_ledger w.ledger))
  unfolding course_of
  turns-here l past i w e n =
      let bs = w.ledger.path in
      let m = next_ledger w.ledger in
      let g = gains l w (ap left_by e) in
      let r = turn-place bs (g.proper i.proper) n in
      let k : Known M limits (stepped bs) = next_known M limits l i.known w e in
      let z : (execution_of (left_by (execution M limits l))).choices ≡ map choice_of bs =
      ap (λ t. (execution_of (left_by t)).choices) e ∙ ap (map choice_of) (whole M limits l i.known w e) in
      record {
        place = r.place;
        point = length-map (stepped bs) choice_of ∙ r.point;
        through = subst (λ h. take h (choices_of (course_of M limits m)) ≡ map choice_of (stepped bs)) r.point
            (grown-choices (stepped bs) (take (left_by (execution M limits m)).pos (left_by (execution M limits m)).ledger.path) (grown-end M limits m k));
        reached = rw (z, length-map bs choice_of) r.reached;
        before = rw z r.before;
        new = rw z r.new;
      }

  -- what was opened first, then, and what was open: the next turning point, and what is told from there
  onwards : (first later were left next after lasts : List Name) (t : Name) → Perm (first ++ were) left → Perm left (t ∷ next) →
      Perm (later ++ next) (after ++ lasts) → Perm ((first ++ later) ++ were) ((t ∷ after) ++ lasts)
  onwards first later were left next after lasts t p q r =
      subst (λ l. Perm l (t ∷ (after ++ lasts))) (sym (append_assoc first later were))
      (Perm.trans {l₂ = later ++ (first ++ were)} (left_comm first later were)
      (Perm.trans {l₂ = later ++ (t ∷ next)}
      (Perm.append_left {t₁ = first ++ were} {t₂ = t ∷ next} later (Perm.trans {l₂ = left} p q))
      (Perm.trans {l₂ = t ∷ (later ++ next)} (perm_middle later next) (Perm.cons t r))))

  goes-on : (l : Ledger) (past : List Name) → Kept l past → (w : Walk M.State) → execution M limits l ≡ over w →
      stepped w.ledger.path ≢ [] →
      (rest : List (Course M.State)) (v : Walk M.State) → Tale (next_ledger w.ledger) (past ++ (next-name w ∷ [])) rest v →
      Tale l past (course_of M limits (next_ledger w.ledger) ∷ rest) v
  unfolding joined_over next-name course_of
  goes-on l past i w e n rest v h =
      let bs = w.ledger.path in
      let g = gains l w (ap left_by e) in
      record {
        opens = onwards (opened_course M limits (course_of M limits l)) (joined_over (opened_course M limits) (course_of M limits (next_ledger w.ledger) ∷ rest))
            (open_names l.path) (open_names bs) (open_names (stepped bs)) (map turning_point rest) (open_names v.ledger.path) (map choice_of (stepped bs))
            g.opens (stepped-open bs (g.proper i.proper) n) h.opens;
        once = subst (λ x. Nodup (x ++ open_names v.ledger.path)) (append_assoc past (map choice_of (stepped bs) ∷ []) (map turning_point rest)) h.once;
        turns = (turns-here l past i w e n, h.turns);
      }

  -- A run

  told : (n : ℕ) (w : Walk M.State) (v : Verdict) (l : Ledger) (names : List Name) (c : Course M.State) (cs : List (Course M.State)) →
      Kept l names → Made M limits n w v l (c ∷ cs) → (c ≡ course_of M limits l) × Tale l names cs w
  told n w v l names c [] i m = (m.0, stops l names i w (stops-left M limits n w v (execution M limits l) m.1))
  told n w v l names c (d ∷ cs) i m =
      let u = m.1 in
      let k = some-open u.ledger.path m.4 in
      let r = told n w v (next_ledger u.ledger) (names ++ (next-name u ∷ [])) d cs (kept_on l names i u m.2 k) m.6 in
      (m.0, rw r.0 (goes-on l names i u m.2 k cs w r.1))

-- Of all executions of a run

record Turnings (M : Machine) (limits : Limits) (cs : List (Course M.State)) (w : Walk M.State) (v : Verdict) : Type 0 where
  opens : Perm (joined_over (opened_course M limits) cs) (map turning_point (others cs) ++ open_names w.ledger.path)
  once : Nodup (map turning_point (others cs) ++ open_names w.ledger.path)
  turns : Each Turns cs
  counted : length (joined_over (opened_course M limits) cs) ≡ w.ledger.opened
  ends : v ≡ exhausted → open_names w.ledger.path ≡ []

-- as many as are counted: by the balance, each execution but the first has turned to one, and the others are open
counted-all : {S : Type 0} (names : List Name) (c : Course S) (cs : List (Course S)) (w : Walk S) →
    Perm names (map turning_point cs ++ open_names w.ledger.path) → Level w.ledger → w.ledger.begun ≡ length (c ∷ cs) →
    length names ≡ w.ledger.opened
counted-all names c cs w p l b =
    let o = open-length w.ledger.path in
    let k = length-map cs turning_point in
    let a = length-append (map turning_point cs) (open_names w.ledger.path) in
    omega (arith, perm-length p, a, k, o)

turnings : (M : Machine) (limits : Limits) (n : ℕ) (w : Walk M.State) (v : Verdict) (cs : List (Course M.State)) →
    Made M limits n w v empty cs → Turnings M limits cs w v
unfolding joined_over open_names open_in
turnings M limits n w v [] m = rw m.1 (record { opens = Perm.refl []; once = Pairwise.nil; turns = tt; counted = refl; ends = λ e. refl })
turnings M limits n w v (c ∷ cs) m =
    let r =
    told M limits n w v empty [] c cs
    (record { known = leads-nil M limits limits.ticks M.start [] 0; proper = tt; reached = tt; once = Pairwise.nil }) m in
    let t = r.1 in
    let o = rw append-nil at t.opens in
    let s = made-sums M limits n w v empty c cs refl m in
    let p = subst (λ d. Perm (joined_over (opened_course M limits) (d ∷ cs)) (map turning_point cs ++ open_names w.ledger.path)) (sym r.0) o in
    record {
      opens = p;
      once = t.once;
      turns = subst (λ d. Each Turns (d ∷ cs)) (sym r.0) t.turns;
      counted = counted-all (joined_over (opened_course M limits) (c ∷ cs)) c cs w p s.level (omega (arith, s.begun-is));
      ends = λ e. nothing-named w.ledger.path (none_left M limits n w empty c cs (subst (λ (x : Verdict). Made M limits n w x empty (c ∷ cs)) e m));
    }

pub turning : Turning
unfolding Turning Real opened_of turned_of open_of
turning M limits n =
    let r = real M limits n in
    let t = turnings M limits n (run M limits n).walk (run M limits n).verdict (courses M limits n) r.made in
    record {
      turns = t.turns;
      parts = turns-part (courses M limits n) t.turns ∙ ap partings (sym r.history);
      different = Nodup.of_append_left (open_names (run M limits n).walk.ledger.path) t.once;
      together = t.opens;
      once = Perm.nodup (Perm.symm t.opens) t.once;
      counted = t.counted;
      as_many = open-length (run M limits n).walk.ledger.path;
      in-the-end = λ e. (t.ends e, rw (t.ends e, append-nil) at t.opens);
    }
