-- The wrong explorers break the page: what their runs come to (WrongRuns) against the sentence in question. Assumes nothing.
--     at-most .. last-of-one              of lists
--     misoffered, unwatched, disagrees    of a tick that asks for a slot
--     two-active, pointed-back            of records
--     wrong                               what is broken
use Prim.Native.Nat.{ℕ, zero, suc, ◌≤◌, ◌<◌, max}
use mathlib.Core.List.{List, [], ◌∷◌, Nodup, Nodup-cons, Mem, mem-cons_self, mem-cons_of_mem}
use mathlib.Core.Bool.{Bool, true, false}
use mathlib.Core.Path.{◌≡◌, refl, sym, ap, subst, ◌∙◌}
use mathlib.Core.Logic.{◌≢◌, inl, inr}
use native.Mathlib.Omega.{arith}
use lib.Dec.{ltb}
use lib.ListN.{length, get_or, take, length-map, length-append}
use borrow.Author.Tests.{ltb-true}
use Rattle.rules.specs.Event as Event
use Rattle.rules.specs.Event.{Matched, offers, Question, which_thread, which_slot, which_bit, Move, moves, asks, stops, ends, Entry}
use Rattle.rules.specs.Explored as Explored
use Rattle.rules.specs.Explored.{Settings, program_of, limits_of, verdict_number}
use Rattle.rules.specs.Explorer.{Limits, Ledger, empty, Verdict, Walk, Tick, goes, over, faulted}
use Rattle.rules.specs.Machine.{Program, machine, next, current, active_op}
use Rattle.rules.specs.Path as Path
use Rattle.rules.specs.Path.{Branch, schedule, load, spurious, no_branch, Choice, choice_of}
use Rattle.rules.specs.Table.{judged, good}
use Rattle.rules.specs.State as State
use Rattle.rules.specs.State.{State}
use Rattle.rules.specs.Worked.{one_load, store_and_load}
use Rattle.ledger.specs.Wrong.{dropping_step, inventing}
use Rattle.ledger.specs.History.{Every, Course, course_of, Made, end, executed}
use Rattle.ledger.specs.Tree.{Parted}
use Rattle.ledger.specs.Turning as turning
use Rattle.ledger.specs.Turning.{Each, Name}
use Rattle.ledger.proofs.Lists.{perm-length, every-at, every_map}
use Rattle.ledger.specs.Replay as replay
use Rattle.kept.specs.Held.{HoldsOfWalk}
use Rattle.kept.specs.Rules.{RecordRules, PathRules, RuledIn}
use Rattle.standing.specs.Standing as standing
use Rattle.bounds.specs.Bounds.{BoundsLeft}
use Rattle.bounds.specs.Range.{RangeIn}
use Rattle.offers.specs.Chosen as chosen
use Rattle.offers.specs.Chosen.{OfferOfRow, Offers, OfferingTick, OfferingCourse, tick_left}
use Rattle.offers.specs.Seen.{Taken, here, on, Lasting, Watched, Seeing}
use Rattle.offers.proofs.Chosen.{all-offers}
use Rattle.demands.specs.Demands as Demands
use Rattle.demands.specs.Demands.{Explorer, right, LastIs, ButLast, the_answers, opened_choices, turned_choices, open_choices}
use Rattle.demands.specs.Wrong as Wrong
use Rattle.demands.specs.Wrong.{settings, p3_settings, tight, path_for, trace_for, of_thread_one, aBit, store_then_load, two_loads, yield_and_load, load_then_bit, with_parts, no_course, no_walk}
use Rattle.demands.proofs.Answered.{true-false}
use Rattle.demands.proofs.WrongRuns.{is_over, fault_in, is_good, values_in, states_in, preemptions_in, prev_in, cell_in, slots_in, match_in, question_in, state_in, entries_in, exploring_in}
use Rattle.demands.proofs.WrongRuns.{is_slot, asks_slot, mask_in, made_by, course_at, walk_at, known_by, sees, There, Misoffers, computed}

-- Lists

abbrev most : List ℕ → ℕ
most [] = 0
most (x ∷ xs) = max x (most xs)

at-most : (xs : List ℕ) (k : ℕ) → get_or xs k 0 ≤ most xs
at-most [] k = omega arith
at-most (x ∷ xs) zero = omega arith
at-most (x ∷ xs) (suc k) = omega (arith, at-most xs k)

mem-at : {A : Type 0} (xs : List A) (k : ℕ) (d : A) → k < length xs → Mem (get_or xs k d) xs
mem-at [] k d h = absurd (omega arith)
mem-at (x ∷ xs) zero d h = mem-cons_self
mem-at (x ∷ xs) (suc k) d h = mem-cons_of_mem x (mem-at xs k d (omega arith))

-- two of a list without repetition are not the same
repeats : {A : Type 0} (xs : List A) (i j : ℕ) (d : A) → i < j → j < length xs → get_or xs i d ≡ get_or xs j d → Nodup xs → ⊥
repeats [] i j d h k e n = omega arith
repeats (x ∷ xs) i zero d h k e n = omega arith
repeats {A} (x ∷ xs) zero (suc j) d h k e n =
    (Nodup-cons.0 n).0 (subst (λ (a : A). Mem a xs) (sym e) (mem-at xs j d (omega arith)))
repeats (x ∷ xs) (suc i) (suc j) d h k e n = repeats xs i j d (omega arith) (omega arith) e (Nodup-cons.0 n).1

each_at : {A : Type 0} (R : A → A → Type 0) (xs : List A) (k : ℕ) (d : A)
    → suc k < length xs → Each R xs → R (get_or xs k d) (get_or xs (suc k) d)
each_at R [] k d h e = absurd (omega arith)
each_at R (x ∷ []) k d h e = absurd (omega arith)
each_at R (x ∷ y ∷ xs) zero d h e = e.0
each_at R (x ∷ y ∷ xs) (suc k) d h e = each_at R (y ∷ xs) k d (omega arith) e.1

-- equal choices part nowhere
never-part : (xs ys : List Choice) → xs ≡ ys → Parted xs ys → ⊥
never-part xs ys e p = p.different (rw e)

-- what each but the last has
but-last-at : (P : Course State → Type 0) (cs : List (Course State)) (k : ℕ) → suc k < length cs → ButLast P cs → P (get_or cs k no_course)
but-last-at P [] k h b = absurd (omega arith)
but-last-at P (c ∷ []) k h b = absurd (omega arith)
but-last-at P (c ∷ d ∷ cs) zero h b = b.0
but-last-at P (c ∷ d ∷ cs) (suc k) h b = but-last-at P (d ∷ cs) k (omega arith) b.1

-- a single execution is the last
last-of-one : (cs : List (Course State)) (t : Tick State) → length cs ≡ 1 → LastIs cs t → (get_or cs 0 no_course).outcome ≡ t
last-of-one [] t h l = absurd (omega arith)
last-of-one (c ∷ []) t h l = l
last-of-one (c ∷ d ∷ cs) t h l = absurd (omega arith)

-- Moves that ask for a slot

slot-asked : (m : Move State) → asks_slot m ≡ 1 → m ≡ asks (state_in m) (entries_in m) (exploring_in m) (which_slot (match_in (question_in m)))
slot-asked (moves s es) h = absurd (omega (arith, h))
slot-asked (asks s es exploring (which_thread points initial standings)) h = absurd (omega (arith, h))
slot-asked (asks s es exploring (which_slot m)) h = refl
slot-asked (asks s es exploring which_bit) h = absurd (omega (arith, h))
slot-asked (stops s f) h = absurd (omega (arith, h))
slot-asked (ends s) h = absurd (omega (arith, h))

slot-question : (m : Move State) → asks_slot m ≡ 1 → is_slot (question_in m) ≡ 1
slot-question (moves s es) h = absurd (omega (arith, h))
slot-question (asks s es exploring q) h = h
slot-question (stops s f) h = absurd (omega (arith, h))
slot-question (ends s) h = absurd (omega (arith, h))

-- a record that does not have as many values as are offered
misoffered : (p : Program) (limits : Limits) (w : Walk State) (s : State) (es : List Entry) (x : Bool) (m : Matched) (a b : ℕ)
    → (next p w.state).move ≡ asks s es x (which_slot m) → w.pos < (tick_left p limits w).pos
    → length (values_in (get_or (tick_left p limits w).ledger.path w.pos no_branch)) ≡ a → length (slots_in m) ≡ b → (a ≡ b → ⊥)
    → OfferingTick p limits w → ⊥
misoffered p limits w s es x m a b e k f g differ h =
    let c = (h.at_slot s es x m e).chosen k in
    differ
    (sym f
    ∙ ap (λ (z : Branch). length (values_in z)) c.at-branch
    ∙ ap length c.all
    ∙ ap (λ (z : Matched). length (slots_in z)) (sym c.is)
    ∙ g)

-- Demand 1

pub wrong-answers : Wrong.WrongAnswers
unfolding Explored.refused
wrong-answers =
    let c = computed in
    record {
      one = λ h. let z = at-most the_answers h.one.0 in omega (arith, h.one.2, c.no_answer, z);
      two = λ h. omega (arith, h.two.whenever c.not-fine, c.three-first);
      three = λ h. omega (arith, h.three.whenever (c.fine, λ e. omega (arith, e)), c.four-first);
      four = λ h. omega (arith, h.four.whenever (c.fine, refl, λ e. omega (arith, e)), c.five-first);
      five = λ h.
          let n : judged [] ≢ good = λ e. let z = ap is_good (sym e ∙ c.not_good) in omega (arith, z) in
          omega (arith, h.five.whenever (c.fine, refl, refl, inl n), c.taken);
      header = λ h. omega (arith, (h.header c.header-five c.not_good).0, c.header-thread);
      row = λ h. omega (arith, (h.row c.row-five 0 0 c.bad-row).1, c.row-row);
      no-condition = λ h. omega (arith, h.five.whenever (c.fine, refl, refl, inr c.claim-none), c.claim-taken);
      claim = λ h. omega (arith, (h.claim c.claim-five c.claim-good).0, c.claim-thread);
      leaves = λ h.
          let z = ap (λ (x : Explored.Explored). get_or x.path 0 0) (h.leaves c.cleared) in
          omega (arith, z, c.cleared-path);
      reports = λ h. omega (arith, ap (λ (r : Explored.Report). r.row) (h.reports c.misplaced-ran), c.misplaced, c.placed);
      ran = λ h.
          let z = ap (λ (xs : List ℕ). get_or xs 16 0) (h.ran c.over-ran).1 in
          omega (arith, z, c.left_over, c.zero-past);
    }

-- The balance, the tree, the turning points; why it stopped

pub wrong-balances : Wrong.WrongBalances
wrong-balances =
    let c = computed in
    record {
      counted-twice = λ h. omega (arith, h.equation, c.twice.begun, c.twice.opened, c.twice.left);
      not-counted = λ h. omega (arith, h.equation, c.uncounted-two.begun, c.uncounted-two.opened, c.uncounted-two.left);
      not_within = λ h. omega (arith, h.within, c.uncounted-one.opened, c.uncounted-one.left);
      not-begun = λ h. omega (arith, h.begun, c.fault-begun, c.fault-made);
      not_opened = λ h. omega (arith, h.opened, c.twice-counted, c.twice-opened);
      not_left = λ h. omega (arith, h.left, c.none-open, c.some-open);
      not-told = λ h.
          let z = ap length h.told.history ∙ length-map (made_by Wrong.untold one_load (settings 3 1 1)) executed in
          omega (arith, z, c.untold-made, c.untold);
    }

pub wrong-turns : Wrong.WrongTurns
wrong-turns =
    let c = computed in
    record {
      apart = λ h. never-part _ _ c.anew-same (h 0 1 (omega arith) (omega (arith, c.anew-told)));
      nowhere = λ h.
          let z = each_at turning.Turns (made_by Wrong.anew aBit (settings 2 1 2)) 0 no_course (omega (arith, c.anew-made)) h.turns in
          omega (arith, z.point, c.anew-point);
      same = λ h.
          repeats {A = Name} ([] ∷ [] ∷ []) 0 1 [] (omega arith) (omega arith) refl (subst Nodup c.anew-turned h.different);
      dropped = λ h.
          let x = with_parts dropping_step in
          let z = length-append (turned_choices x store_and_load [] (p3_settings 2) [] []) (open_choices x store_and_load [] (p3_settings 2) [] []) in
          omega (arith, perm-length h.together, z, c.dropped-opened, c.dropped-turned, c.dropped-open);
      again = λ h.
          repeats (opened_choices Wrong.forgetful store_and_load [] (p3_settings 6) [] []) 2 5 [] (omega arith) (omega (arith, c.forgetful-opened))
          (c.forgetful-first ∙ sym c.forgetful-again) h.once;
      left_open = λ h. omega (arith, (h.exhausted c.early).0, c.early-open);
      never-taken = λ h.
          omega (arith, perm-length (h.exhausted c.untaken).1, c.untaken-opened, c.untaken-turned);
    }

pub wrong-stops : Wrong.WrongStops
wrong-stops =
    let c = computed in
    record {
      said = λ h. omega (arith, h.says, c.spent-last, c.exhausted-last);
      some-open = λ h. omega (arith, (h.exhausted c.early-verdict).1, c.early-open);
      overlooked = λ h.
          let z = last-of-one (made_by Wrong.overlooking one_load (settings 2 1 1)) _ c.overlooked-listed (h.exhausted c.overlooked).0 in
          omega (arith, ap is_over z, c.overlooked-last);
      unspent = λ h. omega (arith, (h.spent c.unspent-verdict).2, c.unspent);
      behind-none = λ h.
          let z = ap verdict_number (sym c.none-verdict ∙ h.unmet.whenever (c.none_last, c.none-false)) in omega (arith, z);
      behind-one = λ h.
          let s = p3_settings 2 in
          let P = Demands.ConditionMet Wrong.judging_last store_and_load of_thread_one s (path_for s) (trace_for s) in
          let z = every-at P ((Wrong.judging_last).executions store_and_load of_thread_one s) 1 no_course (omega (arith, c.one-made)) (h.met (omega (arith, c.one-said))) in
          true-false z.1 c.one-false;
      unjudged = λ h.
          let s = p3_settings 3 in
          let P = Demands.ConditionMet Wrong.unjudging store_and_load of_thread_one s (path_for s) (trace_for s) in
          let z = but-last-at P ((Wrong.unjudging).executions store_and_load of_thread_one s) 1 (omega (arith, c.unjudged-made)) h.earlier in
          true-false z.1 c.unjudged-false;
      condemned = λ h. true-false c.condemned-true (h.unmet.only c.condemned).1;
      misplaced = λ h. omega (arith, (h.place c.place-said).1, c.place-row);
      invented = λ h.
          let z = last-of-one (made_by (with_parts inventing) store_and_load (p3_settings 1)) _ c.invented-listed (h.fault _ _ c.invented) in
          omega (arith, ap is_over z, c.invented-last);
    }

-- What is offered

-- at a tick of an execution that has one

there : {A B : Type 0} (xs : List A) (ys : A → List B) (a : A) (b : B) (P : B → Type 0) (i k : ℕ)
    → ltb i (length xs) ≡ true → ltb k (length (ys (get_or xs i a))) ≡ true → Every (λ x. Every P (ys x)) xs
    → P (get_or (ys (get_or xs i a)) k b)
there xs ys a b P i k h l e =
    every-at P (ys (get_or xs i a)) k b (ltb-true k _ l) (every-at (λ x. Every P (ys x)) xs i a (ltb-true i _ h) e)

module _ (x : Explorer) (table : List ℕ) (s : Settings) (i k : ℕ) (h : There x table s i k) where
  at_tick : (P : Walk State → Type 0) → Every (λ c. Every P c.ticks) (made_by x table s) → P (walk_at x table s i k)
  at_tick P e = there (made_by x table s) (λ c. c.ticks) no_course no_walk P i k h.made h.ticked e

  breaks-offers : (a b : ℕ) → (a ≡ b → ⊥) → Misoffers x table s i k a b
      → Every (OfferingCourse (program_of table [] s) (limits_of s)) (made_by x table s) → ⊥
  breaks-offers a b differ m e =
      let w = walk_at x table s i k in
      let move = (next (program_of table [] s) w.state).move in
      misoffered (program_of table [] s) (limits_of s) w (state_in move) (entries_in move) (exploring_in move) (match_in (question_in move)) a b
      (slot-asked move m.asked) (ltb-true _ _ m.passed) m.values m.slots differ
      (at_tick (OfferingTick (program_of table [] s) (limits_of s)) e)

-- the first execution is the machine's
made-first : (M : Event.Machine) (limits : Limits) (n : ℕ) (w : Walk M.State) (v : Verdict) (l : Ledger) (cs : List (Course M.State)) (d : Course M.State)
    → 0 < length cs → Made M limits n w v l cs → get_or cs 0 d ≡ course_of M limits l
made-first M limits n w v l [] d h m = absurd (omega arith)
made-first M limits n w v l (c ∷ []) d h m = m.0
made-first M limits n w v l (c ∷ e ∷ cs) d h m = m.0

-- what a thread sees it sees at the next tick too, where the slot was not taken
lasting-next : (ws : List (Walk State)) (k t c i : ℕ) → suc k < length ws → t < State.threads → c < State.cells
    → (Taken c i (get_or ws k no_walk).state (get_or ws (suc k) no_walk).state → ⊥) → Lasting ws
    → sees (get_or ws k no_walk) t c i ≡ true → sees (get_or ws (suc k) no_walk) t c i ≡ true
lasting-next [] k t c i h a b f l e = absurd (omega arith)
lasting-next (w ∷ []) k t c i h a b f l e = absurd (omega arith)
lasting-next (w ∷ v ∷ ws) zero t c i h a b f l e = l.0 t c i a b e v (on f here)
lasting-next (w ∷ v ∷ ws) (suc k) t c i h a b f l e = lasting-next (v ∷ ws) k t c i (omega arith) a b f l.1 e

-- the cell that is read is that of the row
read_cell : (p : Program) (s : State) (m : Matched) (offered : List Bool) (c opcode : ℕ)
    → OfferOfRow p s m offered c opcode → c ≡ cell_in (active_op p s)
read_cell p s m offered c opcode (chosen.of_load e f g) = sym (ap cell_in e)
read_cell p s m offered c opcode (chosen.of_rmw e f g) = sym (ap cell_in e)

-- the slot that is read is the choice of the record
abbrev slot_in : Choice → ℕ
slot_in (Path.runs w) = 0
slot_in (Path.reads v) = v
slot_in (Path.says b) = 0

not_seen : (w : Walk State) (t c i t' c' i' : ℕ) → t ≡ t' → c ≡ c' → i ≡ i' → sees w t' c' i' ≡ false → sees w t c i ≡ true → ⊥
not_seen w t c i t' c' i' e f g h k = true-false k (cc (e, f, g, h))

unwatched : (p : Program) (limits : Limits) (w v : Walk State) (t c i : ℕ)
    → asks_slot (next p w.state).move ≡ 1 → w.pos < (tick_left p limits w).pos
    → choice_of (get_or (tick_left p limits w).ledger.path w.pos no_branch) ≡ Path.reads i
    → current (state_in (next p w.state).move) ≡ t → cell_in (active_op p (state_in (next p w.state).move)) ≡ c
    → sees v t c i ≡ false → OfferingTick p limits w → Watched p limits w v → ⊥
unfolding choice_of
unwatched p limits w v t c i a k e f g h o r =
    let move = (next p w.state).move in
    let asked = slot-asked move a in
    let it = (o.at_slot (state_in move) (entries_in move) (exploring_in move) (match_in (question_in move)) asked).chosen k in
    not_seen v (current (state_in move)) it.cell (get_or it.by.values it.by.pos 0) t c i f
    (read_cell p (state_in move) (match_in (question_in move)) it.offered it.cell it.opcode it.reading ∙ g)
    (ap (λ (b : Branch). slot_in (choice_of b)) (sym it.at-branch) ∙ ap slot_in e)
    h (r.read (state_in move) (entries_in move) (exploring_in move) (match_in (question_in move)) asked it)

pub wrong-offers : Wrong.WrongOffers
unfolding Offers
wrong-offers =
    let c = computed in
    let p = program_of store_and_load [] (p3_settings 2) in
    let limits = limits_of (p3_settings 2) in
    record {
      shortened = λ h.
          breaks-offers Wrong.shortening store_and_load (p3_settings 2) 1 4 c.shortened-there 1 2 (λ e. omega (arith, e)) c.shortened h.offers;
      too-few = λ h.
          breaks-offers Wrong.too_few load_then_bit (settings 6 3 2) 1 4 c.few-there 1 2 (λ e. omega (arith, e)) c.few h.offers;
      too-few-at-first = λ h.
          let M = machine (program_of store_and_load [] (p3_settings 1)) in
          let stop = (Wrong.too_few).run store_and_load [] (p3_settings 1) in
          let z = made-first M (limits_of (p3_settings 1)) 1 stop.walk stop.verdict empty (made_by Wrong.too_few store_and_load (p3_settings 1)) no_course (omega (arith, c.few-made)) h.told.made in
          omega (arith, ap (mask_in 1) z, c.few-mask, c.right-mask);
      too-many = λ h.
          breaks-offers Wrong.too_many store_then_load (settings 4 2 2) 1 3 c.many-there 2 1 (λ e. omega (arith, e)) c.many h.offers;
      blind = λ h.
          breaks-offers Wrong.blind store_then_load (settings 4 2 2) 1 3 c.blind-there 2 1 (λ e. omega (arith, e)) c.blind h.offers;
      wiped = λ h.
          let s = settings 3 1 1 in
          let made = ltb-true _ _ c.wiped-there.made in
          let ticked = ltb-true _ _ c.wiped-there.ticked in
          let e = every-at (Seeing (program_of one_load [] s) (limits_of s)) (made_by Wrong.wiping one_load s) 0 no_course made h.seen in
          true-false
          (lasting-next (course_at Wrong.wiping one_load s 0).ticks 1 0 0 0 ticked (omega arith) (omega arith)
          (λ taken. omega (arith, taken.0, c.wiped-slot)) e.lasting c.wiped-seen)
          c.wiped-unseen;
      unseen =
          unwatched p limits Wrong.before_load (Wrong.tick_of Wrong.unseeing store_and_load (p3_settings 2) Wrong.before_load) 1 0 1
          c.ticks-asked (ltb-true _ _ c.ticks-passed) c.ticks-branch c.ticks-thread c.ticks-cell c.ticks-unseen
          (at_tick right store_and_load (p3_settings 2) 1 4 c.ticks-there (OfferingTick p limits) (all-offers p limits 2));
    }

-- What holds at every tick

-- two threads that are Active
two-active : (before : List Branch) (b : Branch) → get_or (states_in b) 0 0 ≡ Path.active → get_or (states_in b) 1 0 ≡ Path.active
    → RecordRules before b → ⊥
two-active before (schedule r) e f h = omega (arith, h.one-active 0 1 e f)
two-active before (load l) e f h = omega (arith, e)
two-active before (spurious u) e f h = omega (arith, e)

-- a record before the first
pointed-back : (before : List Branch) (b : Branch) → length before ≡ 0 → prev_in b ≡ 0 → RecordRules before b → ⊥
pointed-back before (schedule r) e f h =
    elim h.prev [ inl none ↦ omega (arith, none.0, f) | inr newest ↦ omega (arith, newest.within, e) ]
pointed-back before (load l) e f h = omega (arith, f)
pointed-back before (spurious u) e f h = omega (arith, f)

-- one that has passed the bound
passes : (limits : Limits) (n : ℕ) → limits.bound ≡ Path.at_most n → (bs : List Branch) (k : ℕ) (b : Branch) → get_or bs k no_branch ≡ b
    → n < preemptions_in b → PathRules limits bs → ⊥
passes limits n e bs k (schedule r) f h o = omega (arith, o.bounded n e k r f)
passes limits n e bs k (load l) f h o = omega arith
passes limits n e bs k (spurious u) f h o = omega arith

-- one with other values than are offered
disagreed : (x : Bool) (b : Branch) (q : Question) → is_slot q ≡ 1 → (length (values_in b) ≡ length (slots_in (match_in q)) → ⊥)
    → replay.Agrees x b q → ⊥
disagreed x b (which_thread points initial standings) e f h = omega (arith, e)
disagreed x (schedule r) (which_slot m) e f h = h
disagreed x (load l) (which_slot m) e f h = f (ap length h.3 ∙ ap (λ (z : Matched). length (slots_in z)) (sym h.2))
disagreed x (spurious u) (which_slot m) e f h = h
disagreed x b which_bit e f h = omega (arith, e)

disagrees : (p : Program) (limits : Limits) (w : Walk State) (a b : ℕ) → (a ≡ b → ⊥) → asks_slot (next p w.state).move ≡ 1
    → w.pos < (tick_left p limits w).pos → length (values_in (get_or (tick_left p limits w).ledger.path w.pos no_branch)) ≡ a
    → length (slots_in (match_in (question_in (next p w.state).move))) ≡ b → replay.Answered (machine p) limits w → ⊥
unfolding replay.Answered
disagrees p limits w a b differ e k f g h =
    let it = h k in
    let q : it.3 ≡ question_in (next p w.state).move = ap question_in (sym it.4) in
    disagreed it.2 (get_or (tick_left p limits w).ledger.path w.pos no_branch) it.3
    (ap is_slot q ∙ slot-question (next p w.state).move e)
    (λ same. differ (sym f ∙ same ∙ ap (λ (y : Question). length (slots_in (match_in y))) q ∙ g)) it.5

abbrev Possible : Tick State → Type 0
Possible t = (site : Event.Site) (w : Walk State) → t ≡ faulted Event.impossible site w → ⊥

impossible-as : (t : Tick State) → fault_in t ≡ Event.impossible → Possible t → ⊥
impossible-as (goes w) e h = let z = ap Event.fault_number e in omega (arith, z)
impossible-as (over w) e h = let z = ap Event.fault_number e in omega (arith, z)
impossible-as (faulted f s w) e h = h s w (ap (λ (g : Event.Fault). faulted g s w) e)

abbrev Standing : List ℕ → Settings → Walk State → Type 0
Standing table s = HoldsOfWalk (machine (program_of table [] s)) (standing.FactsHold (program_of table [] s))

abbrev Stood : List ℕ → Settings → Walk State → Type 0
Stood table s = HoldsOfWalk (machine (program_of table [] s)) (standing.FactsLeft (program_of table [] s))

pub wrong-ticks : Wrong.WrongTicks
wrong-ticks =
    let c = computed in
    record {
      impossible = λ h.
          impossible-as (course_at Wrong.one_tick one_load (settings 3 1 1) 0).outcome c.no-tick
          (every-at (λ (d : Course State). Possible d.outcome) (made_by Wrong.one_tick one_load (settings 3 1 1)) 0 no_course
          (omega (arith, c.no-ticks)) h.possible);
      rows = λ h.
          let z = at_tick Wrong.one_row_more two_loads (settings 5 1 1) 0 3 c.rows-there (Standing two_loads (settings 5 1 1)) h.stands in
          omega (arith, z.over.limited, c.rows-begun);
      asleep = λ h.
          let s = settings 5 2 1 in
          let z = at_tick Wrong.forgetting_one yield_and_load s 0 2 c.asleep-there (Standing yield_and_load s) h.stands in
          z.over.awake 0 (omega arith) (λ e. omega (arith, e, c.asleep-active)) c.asleep;
      refused = λ h.
          let s = settings 5 1 1 in
          let z =
          every-at (λ (d : Course State). Stood two_loads s (end d)) (made_by Wrong.counting_refused two_loads s) 0 no_course
          (omega (arith, c.refused-made)) h.stood in
          omega (arith, z.limited, c.refused-begun);
      raised = λ h.
          let p = program_of one_load [] (settings 3 1 1) in
          let P = HoldsOfWalk (machine p) (BoundsLeft p) in
          let z =
          at_tick Wrong.raising one_load (settings 3 1 1) 0 2 c.raised-there P
          (every_map (RangeIn p) (λ (d : Course State). Every P d.ticks) (made_by Wrong.raising one_load (settings 3 1 1))
          (λ d r. r.by_rows) h.ranges) in
          let v = z.vectors.parts (State.causality 0) (omega arith) 0 (omega arith) in
          omega (arith, v, c.raised-version, c.raised-rows);
      two-active = λ h.
          let M = machine (program_of store_and_load [] (p3_settings 3)) in
          let known = known_by Wrong.both_active store_and_load (p3_settings 3) 2 in
          let z = every-at (RuledIn M (limits_of (p3_settings 3))) (made_by Wrong.both_active store_and_load (p3_settings 3)) 2 no_course (omega (arith, c.active-made)) h.records in
          two-active (take 0 known) (get_or known 0 no_branch) c.active-first c.active-second
          (z.at-start.records 0 (omega (arith, c.active-known)));
      pointed = λ h.
          let M = machine (program_of store_and_load [] (p3_settings 2)) in
          let known = known_by Wrong.pointing store_and_load (p3_settings 2) 1 in
          let z = every-at (RuledIn M (limits_of (p3_settings 2))) (made_by Wrong.pointing store_and_load (p3_settings 2)) 1 no_course (omega (arith, c.pointed-made)) h.records in
          pointed-back (take 0 known) (get_or known 0 no_branch) refl c.pointed-first
          (z.at-start.records 0 (omega (arith, c.pointed-known)));
      past_bound = λ h.
          let M = machine (program_of store_and_load [] (tight 3)) in
          let known = known_by Wrong.unheeding store_and_load (tight 3) 2 in
          let z = every-at (RuledIn M (limits_of (tight 3))) (made_by Wrong.unheeding store_and_load (tight 3)) 2 no_course (omega (arith, c.past-made)) h.records in
          passes (limits_of (tight 3)) 0 refl known 0 (get_or known 0 no_branch) refl (omega (arith, c.past_first)) z.at-start;
      disagreeing = λ h.
          let p = program_of store_and_load [] (p3_settings 2) in
          let limits = limits_of (p3_settings 2) in
          let P = replay.Answered (machine p) limits in
          let m = c.shortened in
          disagrees p limits (walk_at Wrong.shortening store_and_load (p3_settings 2) 1 4) 1 2 (λ e. omega (arith, e))
          m.asked (ltb-true _ _ m.passed) m.values m.slots
          (at_tick Wrong.shortening store_and_load (p3_settings 2) 1 4 c.shortened-there P
          (every_map (replay.Follows (machine p) limits) (λ (d : Course State). Every P d.ticks) (made_by Wrong.shortening store_and_load (p3_settings 2))
          (λ d r. r.answered) h.follows));
    }

pub wrong : Wrong.Wrong
wrong = record {
  answers = wrong-answers;
  balances = wrong-balances;
  turns = wrong-turns;
  offers = wrong-offers;
  stops = wrong-stops;
  ticks = wrong-ticks;
}
