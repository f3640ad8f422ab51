-- Demand 3, and all of it, by citing. Assumes nothing.
--     demanded      the page
use Prim.Native.Nat.{ℕ, ◌+◌, ◌≤◌}
use mathlib.Core.List.{List, [], ◌∷◌, Perm}
use mathlib.Core.Bool.{true, false}
use mathlib.Core.Path.{◌≡◌, refl, sym, ap, subst, ◌∙◌}
use native.Mathlib.Omega.{arith}
use lib.ListN.{length, length-map}
use Rattle.rules.specs.Vector.{largest}
use Rattle.rules.specs.Path.{open_in}
use Rattle.rules.specs.Event.{Machine, Fault, Site, impossible}
use Rattle.rules.specs.State.{State}
use Rattle.rules.specs.Machine.{Program, machine, final}
use Rattle.rules.specs.Explorer as explorer
use Rattle.rules.specs.Explorer.{Limits, Ledger, Walk, Tick, over, faulted, Stop, Verdict, exhausted, spent, unmet, stopped, execution, empty}
use Rattle.rules.specs.Explored.{Settings, Explored, ran, reported, stop_of, program_of, limits_of, verdict_number, verdict_site}
use Rattle.ledger.specs.History as history
use Rattle.rules.proofs.LimitLaws.{operations-most, executions-most, operations-fit}
use Rattle.rules.proofs.MeasureAccepted.{good-header}
use Rattle.ledger.specs.History.{end, Every, Course, course_of, Made, Told, Real, executed}
use Rattle.ledger.specs.Balance.{Balance, Balanced, Begun}
use Rattle.ledger.specs.Tree.{Tree}
use Rattle.ledger.specs.Turning as turning
use Rattle.ledger.proofs.Balance.{balanced, begun-told}
use Rattle.ledger.proofs.History.{real}
use Rattle.ledger.specs.Replay.{Follows, Replay}
use Rattle.ledger.proofs.Lists.{every_map}
use Rattle.ledger.proofs.Replay.{replay}
use Rattle.ledger.proofs.Tree.{tree}
use Rattle.ledger.proofs.Turning as turned
use Rattle.kept.specs.Kept.{Never}
use Rattle.kept.specs.Held.{HoldsOfWalk}
use Rattle.kept.specs.Possible.{PossibleIn, PossibleRun, NeverImpossible}
use Rattle.kept.specs.Rules.{RuledRun, Ruled}
use Rattle.kept.proofs.Possible.{never-impossible}
use Rattle.kept.proofs.Rules.{ruled}
use Rattle.standing.specs.Standing as standing
use Rattle.standing.proofs.Standing.{standing-never}
use Rattle.bounds.specs.Range.{RangeIn, RangeHeld}
use Rattle.bounds.proofs.Whole.{accepted-fits}
use Rattle.bounds.proofs.Range.{range-held}
use Rattle.offers.specs.Offered.{SomeOfferedToLoad, SomeOfferedRmw}
use Rattle.offers.specs.Chosen.{Offers}
use Rattle.offers.specs.Seen.{Seen}
use Rattle.offers.proofs.Chosen.{all-offers}
use Rattle.offers.proofs.Seen.{all_seen}
use Rattle.offers.proofs.Offered.{some-offered, some-offered-rmw}
use Rattle.demands.specs.Demands as Demands
use Rattle.demands.specs.Demands.{right, report, run, the_machine, executions, opened_choices, turned_choices, open_choices, Balances, Apart, Turns, LastIs, ButLast}
use Rattle.demands.proofs.Answered.{fault-number, true-false, Ran, has-run, ran-number, answered}

only-exhausted : (v : Verdict) → verdict_number v ≡ 0 → v ≡ exhausted
only-exhausted exhausted e = refl
only-exhausted spent e = absurd (omega (arith, e))
only-exhausted unmet e = absurd (omega (arith, e))
only-exhausted (stopped f site) e = absurd (omega (arith, e, (fault-number f).0))

-- "with the condition's place (thread and row 255)"
place_of : (v : Verdict) → verdict_number v ≡ 18 → ((verdict_site v).thread ≡ 255) × ((verdict_site v).row ≡ 255)
unfolding verdict_site
place_of exhausted e = absurd (omega (arith, e))
place_of spent e = absurd (omega (arith, e))
place_of unmet e = (refl, refl)
place_of (stopped f site) e = absurd ((fault-number f).1 e)

-- the last of a list came out in one way
same-last : (cs : List (Course State)) (t u : Tick State) → LastIs cs t → LastIs cs u → t ≡ u
same-last [] t u a b = absurd a
same-last (c ∷ []) t u a b = sym a ∙ b
same-last (c ∷ d ∷ cs) t u a b = same-last (d ∷ cs) t u a b

-- Why a run stopped

module _ (p : Program) (limits : Limits) (n : ℕ) (w : Walk State) (v : Verdict) where
  came-out : (l : Ledger) (c : Course State) (cs : List (Course State)) → Made (machine p) limits n w v l (c ∷ cs)
      → (t : Tick State) × LastIs (c ∷ cs) t × history.Stops (machine p) limits n w v t
  unfolding course_of
  came-out l c [] m = (execution (machine p) limits l, ap (λ (x : Course State). x.outcome) m.0, m.1)
  came-out l c (d ∷ cs) m = came-out (explorer.next_ledger m.1.ledger) d cs m.6

  last-came : (cs : List (Course State)) → 1 ≤ n → Made (machine p) limits n w v empty cs → (t : Tick State) × LastIs cs t × history.Stops (machine p) limits n w v t
  last-came [] h m = absurd (omega (arith, m.0))
  last-came (c ∷ cs) h m = came-out empty c cs m

  stops-exhausted : (t : Tick State) → v ≡ exhausted → history.Stops (machine p) limits n w v t → t ≡ over w
  stops-exhausted t e h = (subst (λ (x : Verdict). history.Stops (machine p) limits n w x t) e h).0

  stops-spent : (t : Tick State) → v ≡ spent → history.Stops (machine p) limits n w v t → t ≡ over w
  stops-spent t e h = (subst (λ (x : Verdict). history.Stops (machine p) limits n w x t) e h).0

  -- the verdict is 18 exactly where the condition was false, and it was true at 0 and 1
  stops-unmet : (t : Tick State) → v ≡ unmet → history.Stops (machine p) limits n w v t → (t ≡ over w) × (final p w.state ≡ false)
  stops-unmet t e h = subst (λ (x : Verdict). history.Stops (machine p) limits n w x t) e h

  is-unmet : (x : Verdict) (t : Tick State) → t ≡ over w → final p w.state ≡ false → history.Stops (machine p) limits n w x t → x ≡ unmet
  is-unmet exhausted t e f h = absurd (true-false h.1 f)
  is-unmet spent t e f h = absurd (true-false h.1 f)
  is-unmet unmet t e f h = refl
  is-unmet (stopped g site) t e f h = let z : ◌≡◌ {A = ℕ} 0 1 = cc (sym e ∙ h) in absurd (omega arith)

  stops-met : (x : Verdict) (t : Tick State) → verdict_number x ≤ 1 → history.Stops (machine p) limits n w x t →
      (t ≡ over w) × (final p w.state ≡ true)
  stops-met exhausted t k h = (h.0, h.1)
  stops-met spent t k h = (h.0, h.1)
  stops-met unmet t k h = absurd (omega arith)
  stops-met (stopped f site) t k h = absurd (omega (arith, (fault-number f).0))

  abbrev MetIn : Course State → Type 0
  MetIn c = (c.outcome ≡ over (end c)) × (final p (end c).state ≡ true)

  met_by : (c : Course State) (u : Walk State) → c.outcome ≡ over u → final p u.state ≡ true → MetIn c
  met_by c u e f = let z = ap history.left_by e in (e ∙ ap over (sym z), ap (λ (x : Walk State). final p x.state) z ∙ f)

  earlier-met : (l : Ledger) (cs : List (Course State)) → Made (machine p) limits n w v l cs → ButLast MetIn cs
  unfolding course_of
  earlier-met l [] m = tt
  earlier-met l (c ∷ []) m = tt
  earlier-met l (c ∷ d ∷ cs) m = (
    met_by c m.1 (ap (λ (x : Course State). x.outcome) m.0 ∙ m.2) m.3,
    earlier-met (explorer.next_ledger m.1.ledger) (d ∷ cs) m.6,
  )

  all-met : (cs : List (Course State)) → ButLast MetIn cs → LastIs cs (over w) → final p w.state ≡ true → Every MetIn cs
  all-met [] b l f = absurd l
  all-met (c ∷ []) b l f = (met_by c w l f, tt)
  all-met (c ∷ d ∷ cs) b l f = (b.0, all-met (d ∷ cs) b.1 l f)

  stops-fault : (t : Tick State) (f : Fault) (site : Site) → v ≡ stopped f site → history.Stops (machine p) limits n w v t → t ≡ faulted f site w
  stops-fault t f site e h = subst (λ (x : Verdict). history.Stops (machine p) limits n w x t) e h

module _ (table condition : List ℕ) (s : Settings) (path trace : List ℕ) (r : Ran table condition s path trace) where
  abbrev whole : Stop State
  whole = run right table condition s path trace

  abbrev itself : Machine
  itself = the_machine right table condition s path trace

  allowed : 1 ≤ s.executions
  allowed = (executions-most s r.range).0

  -- the report is that of the run's stop
  begun-is : (report right table condition s path trace).begun ≡ whole.walk.ledger.begun
  unfolding ran reported
  begun-is = ap (λ (x : Explored). x.report.begun) r.is

  opened-is : (report right table condition s path trace).opened ≡ whole.walk.ledger.opened
  unfolding ran reported
  opened-is = ap (λ (x : Explored). x.report.opened) r.is

  open_is : (report right table condition s path trace).still_open ≡ open_in whole.walk.ledger.path
  unfolding ran reported
  open_is = ap (λ (x : Explored). x.report.still_open) r.is

  thread-is : (report right table condition s path trace).thread ≡ (verdict_site whole.verdict).thread
  unfolding ran reported
  thread-is = ap (λ (x : Explored). x.report.thread) r.is

  row_is : (report right table condition s path trace).row ≡ (verdict_site whole.verdict).row
  unfolding ran reported
  row_is = ap (λ (x : Explored). x.report.row) r.is

  balance : Balance s.executions whole
  unfolding stop_of Balanced
  balance = balanced itself (limits_of s) s.executions allowed

  told : Told itself (limits_of s) s.executions (executions right table condition s path trace) whole
  unfolding stop_of Real
  told = real itself (limits_of s) s.executions

  as_many : whole.walk.ledger.begun ≡ length whole.history
  unfolding stop_of Begun
  as_many = begun-told itself (limits_of s) s.executions

  turns-so : turning.Turned itself (limits_of s) s.executions
  unfolding turning.Turning
  turns-so = turned.turning itself (limits_of s) s.executions

  -- the choices by name are the ledger's
  counted-so : length (opened_choices right table condition s path trace) ≡ whole.walk.ledger.opened
  unfolding stop_of turning.opened_of
  counted-so = turns-so.counted

  left_so : length (open_choices right table condition s path trace) ≡ open_in whole.walk.ledger.path
  unfolding stop_of turning.open_of
  left_so = turns-so.as_many

  all-turned : whole.verdict ≡ exhausted → Perm (opened_choices right table condition s path trace) (turned_choices right table condition s path trace)
  unfolding stop_of turning.opened_of turning.turned_of
  all-turned e = (turns-so.in-the-end e).1

  pub balances : Balances right table condition s path trace
  balances =
      record {
        equation = omega (arith, balance.equation, begun-is, opened-is, open_is);
        within = omega (arith, balance.within, opened-is, open_is);
        begun = begun-is ∙ as_many ∙ ap length told.history ∙ length-map (executions right table condition s path trace) executed;
        opened = opened-is ∙ sym counted-so;
        left = open_is ∙ sym left_so;
        told = told;
      }

  pub apart : Apart right table condition s path trace
  unfolding stop_of Tree
  apart i j h k = tree itself (limits_of s) s.executions i j h k

  exhausted-is : (report right table condition s path trace).answer ≡ 0 → whole.verdict ≡ exhausted
  exhausted-is e = only-exhausted whole.verdict (sym (ran-number table condition s path trace r.is) ∙ e)

  pub turns : Turns right table condition s path trace
  unfolding stop_of turning.opened_of turning.turned_of turning.open_of
  turns =
      record {
        turns = turns-so.turns;
        different = turns-so.different;
        together = turns-so.together;
        once = turns-so.once;
        exhausted = λ e. (open_is ∙ (balance.none_left (exhausted-is e)).0, all-turned (exhausted-is e));
      }

  last-so : (t : Tick State) × LastIs (executions right table condition s path trace) t × history.Stops itself (limits_of s) s.executions whole.walk whole.verdict t
  last-so = last-came (program_of table condition s) (limits_of s) s.executions whole.walk whole.verdict (executions right table condition s path trace) allowed told.made

  last_as : (t : Tick State) → last-so.0 ≡ t → LastIs (executions right table condition s path trace) t
  last_as t e = subst (LastIs (executions right table condition s path trace)) e last-so.1

  abbrev p : Program
  p = program_of table condition s

  earlier-so : ButLast (Demands.ConditionMet right table condition s path trace) (executions right table condition s path trace)
  earlier-so = earlier-met p (limits_of s) s.executions whole.walk whole.verdict empty (executions right table condition s path trace) told.made

  pub stops : Demands.Stops right table condition s path trace
  stops =
      record {
        says = ran-number table condition s path trace r.is;
        exhausted = λ e. (
          last_as (over whole.walk) (stops-exhausted (program_of table condition s) (limits_of s) s.executions whole.walk whole.verdict last-so.0 e last-so.2),
          open_is ∙ (balance.none_left e).0,
        );
        spent = λ e. (
          last_as (over whole.walk) (stops-spent (program_of table condition s) (limits_of s) s.executions whole.walk whole.verdict last-so.0 e last-so.2),
          omega (arith, open_is, (balance.some_left e).0),
          begun-is ∙ (balance.some_left e).1,
        );
        unmet = record {
          only = λ e.
              let z = stops-unmet p (limits_of s) s.executions whole.walk whole.verdict last-so.0 e last-so.2 in
              (last_as (over whole.walk) z.0, z.1);
          whenever = λ h.
              is-unmet p (limits_of s) s.executions whole.walk whole.verdict whole.verdict last-so.0
              (same-last (executions right table condition s path trace) last-so.0 (over whole.walk) last-so.1 h.0) h.1 last-so.2;
        };
        place = λ e.
            let z = place_of whole.verdict (sym (ran-number table condition s path trace r.is) ∙ e) in
            (thread-is ∙ z.0, row_is ∙ z.1);
        earlier = earlier-so;
        met = λ h.
            let z =
            stops-met p (limits_of s) s.executions whole.walk whole.verdict whole.verdict last-so.0
            (omega (arith, ran-number table condition s path trace r.is)) last-so.2 in
            all-met p (limits_of s) s.executions whole.walk whole.verdict (executions right table condition s path trace)
            earlier-so (last_as (over whole.walk) z.0) z.1;
        fault = λ f site e.
            last_as (faulted f site whole.walk)
            (stops-fault (program_of table condition s) (limits_of s) s.executions whole.walk whole.verdict last-so.0 f site e last-so.2);
      }

  -- What holds at every tick

  some : standing.SomeOffered
  unfolding SomeOfferedToLoad SomeOfferedRmw
  some = record { to_load = some-offered; to_rmw = some-offered-rmw }

  never : Never itself (limits_of s) (standing.FactsHold (program_of table condition s)) (standing.FactsAsked (program_of table condition s)) (standing.FactsLeft (program_of table condition s))
  never = standing-never table condition s r.accepted r.range some

  possible-so : PossibleRun itself (limits_of s) (standing.FactsHold (program_of table condition s)) (standing.FactsAsked (program_of table condition s)) (standing.FactsLeft (program_of table condition s)) s.executions
  unfolding NeverImpossible
  possible-so = never-impossible itself (limits_of s) (standing.FactsHold (program_of table condition s)) (standing.FactsAsked (program_of table condition s)) (standing.FactsLeft (program_of table condition s)) never s.executions

  ruled-so : RuledRun itself (limits_of s) s.executions
  unfolding Ruled
  ruled-so = ruled itself (limits_of s) (standing.FactsHold (program_of table condition s)) (standing.FactsAsked (program_of table condition s)) (standing.FactsLeft (program_of table condition s)) never.keeps never.question s.executions

  pub never-so : (site : Site) → whole.verdict ≡ stopped impossible site → ⊥
  unfolding stop_of
  never-so = possible-so.verdict allowed

  ranges-so : Every (RangeIn (program_of table condition s)) (executions right table condition s path trace)
  unfolding RangeHeld
  ranges-so =
      range-held (program_of table condition s) (accepted-fits table condition s (good-header table r.accepted) r.range) (standing.FactsHold (program_of table condition s))
      (standing.FactsAsked (program_of table condition s)) (standing.FactsLeft (program_of table condition s)) never.keeps never.question (limits_of s) s.executions

  follows_so : Every (Follows itself (limits_of s)) (executions right table condition s path trace)
  unfolding Replay
  follows_so = replay itself (limits_of s) s.executions

  abbrev Facts : Walk State → Type 0
  Facts = HoldsOfWalk itself (standing.FactsHold (program_of table condition s))

  abbrev FactsLeft : Walk State → Type 0
  FactsLeft = HoldsOfWalk itself (standing.FactsLeft (program_of table condition s))

  pub sound : Demands.Sound right table condition s path trace
  sound =
      let P = PossibleIn itself (standing.FactsHold (program_of table condition s)) (standing.FactsAsked (program_of table condition s)) (standing.FactsLeft (program_of table condition s)) in
      let cs = executions right table condition s path trace in
      record {
        possible = every_map P (λ c. (site : Site) (w : Walk State) → c.outcome ≡ faulted impossible site w → ⊥) cs (λ c h. h.never) possible-so.executions;
        stands = every_map P (λ c. Every Facts c.ticks) cs (λ c h. h.held.at-ticks) possible-so.executions;
        stood = every_map P (λ c. FactsLeft (end c)) cs (λ c h. h.at-end) possible-so.executions;
        ranges = ranges-so;
        records = ruled-so.executions;
        follows = follows_so;
      }

  -- What is offered

  few-rows : s.operations + 4 ≤ largest
  few-rows = omega (arith, operations-most s r.range, operations-fit)

  pub offered : Demands.Offered right table condition s path trace
  unfolding Offers Seen
  offered =
      record {
        offers = all-offers (program_of table condition s) (limits_of s) s.executions;
        seen = all_seen (program_of table condition s) (limits_of s) s.executions (good-header table r.accepted) (omega (arith, few-rows)) (omega (arith, few-rows));
      }

  pub run-demanded : Demands.Run right table condition s path trace
  run-demanded =
      record { balances = balances; apart = apart; turns = turns; offered = offered; stops = stops; sound = sound }

pub demanded : Demands.Demands
unfolding Demands.Demands
demanded table condition s path trace =
    record {
      answered = answered table condition s path trace (λ r. never-so table condition s path trace r);
      run = λ h. run-demanded table condition s path trace (has-run table condition s path trace h);
    }
