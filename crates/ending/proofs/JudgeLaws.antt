-- The end of an execution. Assumes nothing.
--     no_threads                                                 a table of no bytes
--     held_by                                                    the condition is judged with the table's threads
--     judge-goes, judge-fault, judge-unmet, judge-exhausted, judge-spent, judge-more      what it says of the run, by what it came
--                                                                to, whether the final condition is met and what is open
--     stops-with, goes_with                                      what comes after it, by the definition
--     left-stands                                                the walk that it leaves
use Prim.Native.Nat.{ℕ}
use mathlib.Core.List.{List, [], ◌∷◌, ◌++◌}
use mathlib.Core.Bool.{Bool, true, false, cond, not}
use mathlib.Core.Path.{◌≡◌, refl, sym, ap, ◌∙◌}
use native.Mathlib.Omega.{arith}
use lib.Dec.{eqb}
use lib.ListN.{length}
use Rattle.std.specs.Prelude.{Option, Some, None}
use borrow.Author.Tests.{eq-eqb, ne_eqb, ltb-true, ltb-false}
use Rattle.rules.specs.State.{State, Values}
use Rattle.rules.specs.Table.{threads_of}
use Rattle.rules.specs.Condition as claims
use Rattle.rules.specs.Event as events
use Rattle.rules.specs.Event.{no_site}
use Rattle.rules.specs.Path.{Branch, open_in}
use Rattle.rules.specs.Explorer as explorer
use Rattle.rules.specs.Explorer.{Walk, Execution, execution_of, Tick, goes, over, faulted, stops_here, goes_on, stop, next_ledger, after}
use Rattle.ledger.specs.History.{left_by}
use Rattle.layout.specs.Tables.{state}
use Rattle.condition.specs.Reads.{register_value}
use Rattle.path.specs.Holds.{Holds}
use Rattle.path.specs.Steps.{AnyOpen}
use Rattle.event.specs.declared.Fault.{Fault}
use Rattle.event.specs.declared.Fault.TheVariants as fault
use Rattle.event.specs.declared.Site.{Site}
use Rattle.report.specs.Answers.{AnswerFits}
use Rattle.report.specs.declared.Answer.{Answer}
use Rattle.report.specs.declared.Answer.TheVariants as answer
use Rattle.meeting.specs.Stands.{Lent, Stands, ComesTo, site_of}
use Rattle.meeting.specs.declared.Cursor.{Cursor}
use Rattle.meeting.specs.declared.Outcome.{Outcome}
use Rattle.meeting.specs.declared.Outcome.TheVariants as code
use Rattle.ending.specs.Ends.{met_by, at_no_site, ended_as, judged_as, Judges}

pub no_threads : (table : List ℕ) → length table ≡ 0 → 0 ≡ threads_of table
no_threads [] e = refl
no_threads (b ∷ table) e = absurd (omega arith)

-- The end of an execution

pub held_by : (table condition : List ℕ) (values : Values) {threads : ℕ} {held : Bool} → threads ≡ threads_of table → held ≡ claims.holds threads (register_value values) condition → held ≡ met_by table condition values
held_by table condition values e h = rw e at h

module _ (path : List ℕ) (met : Bool) (o : Outcome) (len : ℕ) (last : Bool) where
  pub judge-goes : {s : Site} → o ≡ code.Goes → site_of s ≡ no_site → Judges path met o len last (Some (answer.Stopped fault.Impossible s))
  judge-goes e z =
      record {
        continues = tt;
        is = λ bs h l.
            ap (λ (y : events.Site). Some (answer.Stopped fault.Impossible (record { thread = y.thread; row = y.row }))) z
            ∙ ap (λ (y : Outcome). judged_as met y (open_in bs) last) (sym e);
      }

  pub judge-fault : {f : Fault} {s : Site} → o ≡ code.Faulted f s → Judges path met o len last (Some (answer.Stopped f s))
  judge-fault e = record { continues = tt; is = λ bs h l. ap (λ (y : Outcome). judged_as met y (open_in bs) last) (sym e) }

  module _ (k : o ≡ code.Over) {held : Bool} (q : held ≡ met) where
    as-ended : (bs : List Branch) {b : Bool} → held ≡ b → judged_as met o (open_in bs) last ≡ ended_as b (open_in bs) last
    as-ended bs e = ap (λ (y : Outcome). judged_as met y (open_in bs) last) k ∙ ap (λ (y : Bool). ended_as y (open_in bs) last) (sym q ∙ e)

    pub judge-unmet : held ≡ false → Judges path met o len last (Some answer.Unmet)
    judge-unmet e = record { continues = tt; is = λ bs h l. sym (as-ended bs e) }

    -- the condition is met
    module _ (held-so : held ≡ true) {any : Bool} (a : AnyOpen path len any) where
      as-open : {none : Bool} (bs : List Branch) → eqb (open_in bs) 0 ≡ none → judged_as met o (open_in bs) last ≡ cond none (Some answer.Exhausted) (cond last (Some answer.Spent) None)
      as-open bs z =
          as-ended bs held-so
          ∙ ap (λ (y : Bool). cond y (Some answer.Exhausted) (cond last (Some answer.Spent) None)) z

      pub judge-exhausted : any ≡ false → Judges path met o len last (Some answer.Exhausted)
      judge-exhausted e =
          record {
            continues = tt;
            is = λ bs h l. sym (as-open bs (eq-eqb (open_in bs) 0 (omega (arith, ltb-false 0 (open_in bs) (sym (a.is bs h l) ∙ e)))));
          }

      some-open : any ≡ true → (bs : List Branch) → Holds path bs → length bs ≡ len → judged_as met o (open_in bs) last ≡ cond last (Some answer.Spent) None
      some-open e bs h l =
          as-open bs (ne_eqb (open_in bs) 0 (λ (y : open_in bs ≡ 0). omega (arith, ltb-true 0 (open_in bs) (sym (a.is bs h l) ∙ e))))

      pub judge-spent : any ≡ true → last ≡ true → Judges path met o len last (Some answer.Spent)
      judge-spent e f =
          record {
            continues = tt;
            is = λ bs h l. sym (some-open e bs h l ∙ ap (λ (y : Bool). cond y (Some answer.Spent) None) f);
          }

      pub judge-more : any ≡ true → last ≡ false → Judges path met o len last None
      judge-more e f =
          record {
            continues = f;
            is = λ bs h l. sym (some-open e bs h l ∙ ap (λ (y : Bool). cond y (Some answer.Spent) None) f);
          }

-- What comes after it, by the definition

pub record StopsWith (final : State → Bool) (x : Lent) (c : Cursor) (last : Bool) (past : List Execution) (t : Tick State) (a : Answer) : Type 0 where
  pub verdict : explorer.Verdict
  pub walk : Walk State
  pub is : after final last past t ≡ stops_here (stop verdict walk past)
  pub fits : AnswerFits a verdict
  pub stands : Stands x c walk
  pub left : left_by t ≡ walk

pub record GoesWith (final : State → Bool) (x : Lent) (c : Cursor) (last : Bool) (past : List Execution) (t : Tick State) : Type 0 where
  pub walk : Walk State
  pub is : after final last past t ≡ goes_on (next_ledger walk.ledger) (past ++ (execution_of walk ∷ []))
  pub stands : Stands x c walk
  pub left : left_by t ≡ walk

abbrev going_on : Option Answer → ℕ
going_on None = 1
going_on (Some a) = 0

answers-not : (a : Answer) → Some a ≡ None → ⊥
answers-not a e = let z : ◌≡◌ {A = ℕ} 0 1 = ap going_on e in omega arith

answers-same : (a b : Answer) → Some a ≡ Some b → a ≡ b
answers-same a b e = cc

module _ (final : State → Bool) (x : Lent) (c : Cursor) (last : Bool) (past : List Execution) (met : Bool)
    (is-met : final (state x.clocks x.marks x.values x.numbers) ≡ met) where
  met-by : (w : Walk State) → Stands x c w → final w.state ≡ met
  met-by w stands = ap final stands.is_state ∙ is-met

  over-stops : (w : Walk State) (a : Answer) (held none ends : Bool) → final w.state ≡ held → eqb (open_in w.ledger.path) 0 ≡ none → last ≡ ends
      → Some a ≡ cond (not held) (Some answer.Unmet) (cond none (Some answer.Exhausted) (cond ends (Some answer.Spent) None))
      → Stands x c w → StopsWith final x c last past (over w) a
  unfolding after
  over-stops w a false none ends q n l e stands =
      record { verdict = explorer.unmet; walk = w; is = rw q refl; fits = rw (answers-same a answer.Unmet e) refl; stands = stands; left = refl }
  over-stops w a true true ends q n l e stands =
      record { verdict = explorer.exhausted; walk = w; is = rw (q, n) refl; fits = rw (answers-same a answer.Exhausted e) refl; stands = stands; left = refl }
  over-stops w a true false true q n l e stands =
      record { verdict = explorer.spent; walk = w; is = rw (q, n, l) refl; fits = rw (answers-same a answer.Spent e) refl; stands = stands; left = refl }
  over-stops w a true false false q n l e stands = absurd (answers-not a e)

  over-goes : (w : Walk State) (held none ends : Bool) → final w.state ≡ held → eqb (open_in w.ledger.path) 0 ≡ none → last ≡ ends
      → None ≡ cond (not held) (Some answer.Unmet) (cond none (Some answer.Exhausted) (cond ends (Some answer.Spent) None))
      → Stands x c w → GoesWith final x c last past (over w)
  unfolding after
  over-goes w false none ends q n l e stands = absurd (answers-not answer.Unmet (sym e))
  over-goes w true true ends q n l e stands = absurd (answers-not answer.Exhausted (sym e))
  over-goes w true false true q n l e stands = absurd (answers-not answer.Spent (sym e))
  over-goes w true false false q n l e stands = record { walk = w; is = rw (q, n, l) refl; stands = stands; left = refl }

  pub stops-with : (o : Outcome) (t : Tick State) (a : Answer) → ComesTo o c x t
      → Some a ≡ judged_as met o (open_in (left_by t).ledger.path) last → StopsWith final x c last past t a
  unfolding after
  stops-with code.Goes (goes w) a h e =
      record {
        verdict = explorer.stopped events.impossible no_site;
        walk = w;
        is = refl;
        fits = rw (answers-same a (answer.Stopped fault.Impossible at_no_site) e) refl;
        stands = h;
        left = refl;
      }
  stops-with code.Goes (over w) a h e = absurd h
  stops-with code.Goes (faulted g s w) a h e = absurd h
  stops-with code.Over (goes w) a h e = absurd h
  stops-with code.Over (over w) a h e = over-stops w a met (eqb (open_in w.ledger.path) 0) last (met-by w h) refl refl e h
  stops-with code.Over (faulted g s w) a h e = absurd h
  stops-with (code.Faulted f s) (goes w) a h e = absurd h
  stops-with (code.Faulted f s) (over w) a h e = absurd h
  stops-with (code.Faulted f s) (faulted g there w) a h e =
      record {
        verdict = explorer.stopped g there;
        walk = w;
        is = refl;
        fits = rw (answers-same a (answer.Stopped f s) e) (cc (h.is-fault, h.is-site));
        stands = h.stands;
        left = refl;
      }

  pub goes_with : (o : Outcome) (t : Tick State) → ComesTo o c x t
      → None ≡ judged_as met o (open_in (left_by t).ledger.path) last → GoesWith final x c last past t
  goes_with code.Goes (goes w) h e = absurd (answers-not (answer.Stopped fault.Impossible at_no_site) (sym e))
  goes_with code.Goes (over w) h e = absurd h
  goes_with code.Goes (faulted g s w) h e = absurd h
  goes_with code.Over (goes w) h e = absurd h
  goes_with code.Over (over w) h e = over-goes w met (eqb (open_in w.ledger.path) 0) last (met-by w h) refl refl e h
  goes_with code.Over (faulted g s w) h e = absurd h
  goes_with (code.Faulted f s) (goes w) h e = absurd h
  goes_with (code.Faulted f s) (over w) h e = absurd h
  goes_with (code.Faulted f s) (faulted g there w) h e = absurd (answers-not (answer.Stopped f s) (sym e))

-- the walk that an outcome leaves stands for the tables and bytes
pub left-stands : (x : Lent) (c : Cursor) (o : Outcome) (t : Tick State) → ComesTo o c x t → Stands x c (left_by t)
left-stands x c code.Goes (goes w) h = h
left-stands x c code.Goes (over w) h = absurd h
left-stands x c code.Goes (faulted g s w) h = absurd h
left-stands x c code.Over (goes w) h = absurd h
left-stands x c code.Over (over w) h = h
left-stands x c code.Over (faulted g s w) h = absurd h
left-stands x c (code.Faulted f s) (goes w) h = absurd h
left-stands x c (code.Faulted f s) (over w) h = absurd h
left-stands x c (code.Faulted f s) (faulted g there w) h = h.stands
