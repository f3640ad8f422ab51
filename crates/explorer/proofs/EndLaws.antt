-- One execution after another, and where a run stops. Assumes nothing.
--     running_none, running_more      before the first execution, and after one more
--     ran_out                         the report and both buffers where the run stops
use Prim.Native.Nat.{ℕ, suc, ◌+◌, ◌-◌, ◌*◌, ◌≤◌, ◌<◌, min}
use mathlib.Core.List.{List, [], ◌∷◌, ◌++◌}
use mathlib.Core.Bool.{Bool, true, false}
use mathlib.Core.Path.{◌≡◌, refl, sym, ap, subst, ◌∙◌}
use native.Mathlib.Omega.{arith}
use lib.Dec.{eqb, ltb}
use lib.ListN.{length, get_or, take, replicate, length-replicate, get_or-replicate, length-take}
use lib.Seq.{ext_get_or, get_or-take}
use borrow.Author.Tests.{eq-eqb, ne_eqb, eqb-true, eqb-false, ltb-true, ltb-false}
use Rattle.rules.specs.State.{State}
use Rattle.rules.specs.Table.{shape_of}
use Rattle.rules.specs.Machine as machine
use Rattle.rules.specs.Path.{open_in, written}
use Rattle.rules.specs.Event.{Entry}
use Rattle.rules.specs.Explorer as explorer
use Rattle.rules.specs.Explorer.{Walk, Ledger, Execution, execution_of, Tick, After, stops_here, goes_on, Stop, stop, next_ledger, after}
use Rattle.rules.specs.Explored as rules
use Rattle.rules.specs.Explored.{Settings, limits_of, stop_of, ran, reported, trace_left}
use Rattle.ledger.specs.History.{left_by}
use Rattle.ledger.proofs.Ledgers.{execution-begun}
use Rattle.layout.specs.Tables.{state}
use Rattle.path.specs.Holds.{Holds}
use Rattle.path.specs.Steps.{StepsPath}
use Rattle.path.proofs.HoldsLaws.{holds-none}
use Rattle.trace.specs.Entries.{Cleared, Front}
use Rattle.trace.proofs.FrontLaws.{front-noted}
use Rattle.report.specs.Answers.{report_of}
use Rattle.report.specs.declared.Answer.{Answer}
use Rattle.report.specs.declared.Report.{Report}
use Rattle.report.proofs.AnswerLaws.{ran-reported}
use Rattle.meeting.specs.Stands.{Lent, Stands, ComesTo}
use Rattle.meeting.specs.declared.Cursor.{Cursor}
use Rattle.meeting.specs.declared.Ticked.{Ticked}
use Rattle.iteration.specs.Executes.{machine_of, RunReady, TermsGiven, Executes}
use Rattle.iteration.specs.declared.Terms.{Terms}
use Rattle.ending.specs.Ends.{met_by, judged_as, Judges}
use Rattle.std.specs.Prelude.{Option, None, Some}
use Rattle.ending.proofs.JudgeLaws.{stops-with, goes_with, left-stands}
use Rattle.explorer.specs.Runs.{Further, Running, Stepped, RunStopped, Empty, Ran}
use Rattle.explorer.specs.declared.run.Progress.{Progress}
use Rattle.explorer.proofs.RunLaws.{goes-on, greater-within}

zeros-only : (bytes : List ℕ) → Empty bytes → bytes ≡ replicate (length bytes) 0
zeros-only bytes h =
    ext_get_or 0 bytes (replicate (length bytes) 0) (sym (length-replicate (length bytes) 0))
    (λ i l. h i ∙ sym (get_or-replicate (length bytes) i 0 0 l))

-- the Nth execution is the one after which none may come
same_tests : (n m k : ℕ) → n + k ≡ m → eqb n m ≡ eqb k 0
same_tests n m k e = go (eqb k 0) refl
  where
    go : (b : Bool) → eqb k 0 ≡ b → eqb n m ≡ b
    go true h = eq-eqb n m (omega (arith, e, eqb-true k 0 h))
    go false h = ne_eqb n m (λ (f : n ≡ m). eqb-false k 0 h (omega (arith, e)))

pub ready-kept : {table : List ℕ} {s : Settings} {path trace path' trace' : List ℕ} → RunReady table s path trace → length path' ≡ length path → length trace' ≡ length trace → RunReady table s path' trace'
ready-kept r e f =
    record { in-range = r.in-range; path-long = e ∙ r.path-long; trace-long = f ∙ r.trace-long; accepted = r.accepted }

take_same : (n : ℕ) (xs ys : List ℕ) → length xs ≡ length ys → ((i : ℕ) → i < n → get_or xs i 0 ≡ get_or ys i 0) → take n xs ≡ take n ys
take_same n xs ys e h =
    ext_get_or 0 (take n xs) (take n ys)
    (length-take n xs ∙ ap (min n) e ∙ sym (length-take n ys))
    (λ i l.
    let below : i < n = omega (arith, length-take n xs) in
    get_or-take n xs i 0 below ∙ h i below ∙ sym (get_or-take n ys i 0 below))

-- what is cleared past the entries leaves them as they are
front-left : {entry exit : List ℕ} {from to : ℕ} (es : List Entry) → Cleared entry exit from to → 16 * length es ≡ from → Front entry es → Front exit es
front-left {entry} {exit} es c e front =
    take_same (16 * length es) exit entry c.long (λ i h. c.below i (omega (arith, e))) ∙ front

module _ (table condition : List ℕ) (s : Settings) where
  abbrev whole : Stop State
  whole = stop_of table condition s

  abbrev from : ℕ → Ledger → List Execution → Stop State
  from n l past = explorer.run_from (machine_of table condition s) (limits_of s) n l past

  abbrev final : State → Bool
  final = (machine_of table condition s).final

  abbrev execution : Ledger → Tick State
  execution l = explorer.execution (machine_of table condition s) (limits_of s) l

  whole_from : whole ≡ from (s.executions - 0) explorer.empty []
  unfolding stop_of explorer.run
  whole_from = ap (λ (n : ℕ). from n explorer.empty []) (omega arith)

  abbrev onward : ℕ → After State → Stop State
  onward k (stops_here r) = r
  onward k (goes_on m more) = from k m more

  from_more : (k : ℕ) (l : Ledger) (past : List Execution) → from (suc k) l past ≡ onward k (after final (eqb k 0) past (execution l))
  unfolding explorer.run_from
  from_more k l past = go (after final (eqb k 0) past (execution l))
    where
      go : (a : After State) → elim a [ stops_here r ↦ r | goes_on m more ↦ from k m more ] ≡ onward k a
      go (stops_here r) = refl
      go (goes_on m more) = refl

  from-stops : (k : ℕ) (l : Ledger) (past : List Execution) (r : Stop State) → after final (eqb k 0) past (execution l) ≡ stops_here r → from (suc k) l past ≡ r
  from-stops k l past r e = from_more k l past ∙ ap (onward k) e

  from_goes : (k : ℕ) (l : Ledger) (past : List Execution) (m : Ledger) (more : List Execution) → after final (eqb k 0) past (execution l) ≡ goes_on m more → from (suc k) l past ≡ from k m more
  from_goes k l past m more e = from_more k l past ∙ ap (onward k) e

  ran-made : (path trace : List ℕ) (r : Stop State) → whole ≡ r → {exit_path exit_trace : List ℕ} (report : Report) → report_of report ≡ reported r
      → exit_path ≡ written (length path) r.walk.ledger.path → exit_trace ≡ trace_left (length trace) r.walk.trace
      → Ran table condition s path trace report exit_path exit_trace
  unfolding ran
  ran-made path trace r is report e f g = rw (is, sym e, sym f, sym g) refl

  -- only the lengths of the buffers matter
  pub ran-cleared : {n m k l : ℕ} {x : rules.Explored} → x ≡ ran k l whole → k ≡ n → l ≡ m → x ≡ ran n m whole
  ran-cleared h e f = h ∙ (cc (e, f))

  pub running_none : (path trace : List ℕ) (p : Progress) → RunReady table s path trace → Empty path → Empty trace
      → (p.cursor.len ≡ 0) × (p.cursor.opened ≡ 0) × (p.longest ≡ 0) × (p.begun ≡ 0) → 0 < s.executions → Running table condition s path trace p
  running_none path trace p ready none empty (len, opened, longest, begun) more =
      record {
        allowed = omega (arith, more, begun);
        within = omega (arith, len);
        few = omega (arith, opened);
        room = omega (arith, longest);
        ready = ready;
        clean = λ i h. empty i;
        coming = record {
          ledger = explorer.empty;
          past = [];
          knows = record {
            holds = subst (λ (b : List ℕ). Holds b []) (sym (zeros-only path none)) (holds-none (length path));
            is-len = sym len;
            is-opened = sym opened;
          };
          is-begun = sym begun;
          rest = whole_from ∙ ap (λ (n : ℕ). from (s.executions - n) explorer.empty []) (sym begun);
        };
      }

  -- an execution more
  module _ {path trace : List ℕ} {p : Progress} (run : Running table condition s path trace p)
      {shape : List ℕ} (is-shape : shape ≡ shape_of table) {t : Terms} (given : TermsGiven s t)
      (entry exit : Lent) (same-path : entry.path ≡ path) (same-trace : entry.trace ≡ trace) (r : Ticked) (does : Executes entry exit table shape t p.cursor r)
      (q : Progress) (further : Further p r q)
      (v : Option Answer) (judges : Judges exit.path (met_by table condition exit.values) r.outcome r.cursor.len (eqb q.begun s.executions) v) where
    abbrev ledger : Ledger
    ledger = run.coming.ledger

    abbrev past : List Execution
    past = run.coming.past

    -- how many may come after it
    abbrev after-it : ℕ
    after-it = s.executions - q.begun

    abbrev its-last : Bool
    its-last = eqb q.begun s.executions

    comes : ComesTo r.outcome r.cursor exit (execution ledger)
    comes =
        does.comes condition s ledger given
        (record { ready = rw (sym same-path, sym same-trace) at run.ready; is-shape = is-shape })
        (rw (sym same-path) at run.coming.knows)

    stands : Stands exit r.cursor (left_by (execution ledger))
    stands = left-stands exit r.cursor r.outcome (execution ledger) comes

    is-met : final (state exit.clocks exit.marks exit.values exit.numbers) ≡ met_by table condition exit.values
    unfolding machine.final
    is-met = refl

    judged : v ≡ judged_as (met_by table condition exit.values) r.outcome (open_in (left_by (execution ledger)).ledger.path) its-last
    judged = judges.is (left_by (execution ledger)).ledger.path stands.holds stands.is-len

    last-is : its-last ≡ eqb after-it 0
    last-is = same_tests q.begun s.executions after-it (omega (arith, run.allowed, further.more))

    rest-is : whole ≡ from (suc after-it) ledger past
    rest-is = run.coming.rest ∙ ap (λ (n : ℕ). from n ledger past) (omega (arith, run.allowed, further.more))

    begun-is : (left_by (execution ledger)).ledger.begun ≡ q.begun
    begun-is =
        execution-begun (machine_of table condition s) (limits_of s) ledger ∙ ap (λ (n : ℕ). n + 1) run.coming.is-begun ∙ sym further.more

    clean-beyond : (i : ℕ) → 16 * p.longest ≤ i → 16 * r.cursor.entries ≤ i → get_or exit.trace i 0 ≡ 0
    clean-beyond i h k = does.beyond i k ∙ ap (λ (b : List ℕ). get_or b i 0) same-trace ∙ run.clean i h

    clean-past : (i : ℕ) → 16 * q.longest ≤ i → get_or exit.trace i 0 ≡ 0
    clean-past i h = clean-beyond i (omega (arith, further.longer.left)) (omega (arith, further.longer.right))

    same_len : q.cursor.len ≡ r.cursor.len
    same_len = ap (λ (c : Cursor). c.len) further.same-cursor

    same-opened : q.cursor.opened ≡ r.cursor.opened
    same-opened = ap (λ (c : Cursor). c.opened) further.same-cursor

    -- after which the run goes on
    pub running_more : v ≡ None → {path' : List ℕ} (d : Progress) → Stepped exit.path path' q d
        → length exit.path ≡ length path → length exit.trace ≡ length trace
        → Running table condition s path' exit.trace d
    running_more e {path'} d next long traced =
        let g = goes_with final exit r.cursor its-last past (met_by table condition exit.values) is-met r.outcome (execution ledger) comes (sym e ∙ judged) in
        let w : Walk State = g.walk in
        let steps : StepsPath exit.path path' q.cursor.len d.cursor.len = next.steps in
        let its-len : length w.ledger.path ≡ q.cursor.len = g.stands.is-len ∙ sym same_len in
        let allowed : q.begun < s.executions = omega (arith, run.allowed, further.more, goes-on v q.begun s.executions e judges.continues) in
        record {
          allowed = omega (arith, allowed, next.same-begun);
          within = omega (arith, steps.fits, steps.keeps);
          few = omega (arith, does.gone.few, run.few, next.same-opened, same-opened, next.same-begun, further.more);
          room = omega (arith, greater-within further.longer run.room does.gone.placed.noted (sym traced), next.same-longest);
          ready = ready-kept run.ready (steps.keeps ∙ long) traced;
          clean = λ i h. clean-past i (omega (arith, next.same-longest));
          coming = record {
            ledger = next_ledger w.ledger;
            past = past ++ (execution_of w ∷ []);
            knows = record {
              holds = steps.holds w.ledger.path g.stands.holds its-len;
              is-len = sym (steps.left w.ledger.path g.stands.holds its-len);
              is-opened = g.stands.is-opened ∙ sym same-opened ∙ sym next.same-opened;
            };
            is-begun = ap (λ (u : Walk State). u.ledger.begun) (sym g.left) ∙ begun-is ∙ sym next.same-begun;
            rest = rest-is
                ∙ from_goes after-it ledger past (next_ledger w.ledger) (past ++ (execution_of w ∷ [])) (rw (sym last-is) g.is)
                ∙ ap (λ (n : ℕ). from (s.executions - n) (next_ledger w.ledger) (past ++ (execution_of w ∷ []))) (sym next.same-begun);
          };
        }

    zero-past : (i : ℕ) → 16 * r.cursor.entries ≤ i → {trace' : List ℕ}
        → Cleared exit.trace trace' (16 * r.cursor.entries) (16 * q.longest) → get_or trace' i 0 ≡ 0
    zero-past i h {trace'} cleared = go (ltb i (16 * q.longest)) refl
      where
        go : (b : Bool) → ltb i (16 * q.longest) ≡ b → get_or trace' i 0 ≡ 0
        go true l = cleared.zero i h (ltb-true i (16 * q.longest) l)
        go false l =
            let past_all : 16 * q.longest ≤ i = omega (arith, ltb-false i (16 * q.longest) l) in
            cleared.above i past_all ∙ clean-past i past_all

    -- with which it stops
    pub ran_out : (a : Answer) → v ≡ Some a → {trace' : List ℕ} (report : Report)
        → RunStopped exit.clocks exit.numbers exit.path exit.trace trace' a q report
        → length exit.path ≡ length path → length exit.trace ≡ length trace
        → Ran table condition s path trace report exit.path trace'
    ran_out a e {trace'} report stops long traced =
        let g = stops-with final exit r.cursor its-last past (met_by table condition exit.values) is-met r.outcome (execution ledger) a comes (sym e ∙ judged) in
        let w : Walk State = g.walk in
        let cleared : Cleared exit.trace trace' (16 * r.cursor.entries) (16 * q.longest) =
        subst (λ (c : Cursor). Cleared exit.trace trace' (16 * c.entries) (16 * q.longest)) further.same-cursor stops.cleared in
        let stopped : Stop State = stop g.verdict w past in
        let is : whole ≡ stopped = rest-is ∙ from-stops after-it ledger past stopped (rw (sym last-is) g.is) in
        let its-begun : w.ledger.begun ≡ q.begun = ap (λ (u : Walk State). u.ledger.begun) (sym g.left) ∙ begun-is in
        let reports : report_of report ≡ reported stopped =
        stops.finished w.ledger.path exit.marks exit.values g.stands.holds (g.stands.is-len ∙ sym same_len)
        ∙ (cc (g.stands.is-opened, same-opened, g.stands.is_state, its-begun, ran-reported a stopped g.fits)) in
        let from : 16 * length w.trace ≡ 16 * r.cursor.entries = omega (arith, g.stands.is-entries) in
        let traces : trace' ≡ trace_left (length trace') w.trace =
        front-noted trace' w.trace (front-left w.trace cleared from g.stands.front)
        (λ i h. zero-past i (omega (arith, from)) cleared) in
        ran-made path trace stopped is report reports
        (g.stands.holds.same ∙ ap (λ (n : ℕ). written n w.ledger.path) long)
        (traces ∙ ap (λ (n : ℕ). trace_left n w.trace) (cleared.long ∙ traced))
