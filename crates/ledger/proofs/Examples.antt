-- The small machine's runs, the right one's and the wrong ones', computed. Assumes nothing.
use Prim.Native.Nat.{ℕ, ◌+◌, ◌-◌, ◌<◌}
use mathlib.Core.List.{List, [], ◌∷◌}
use mathlib.Core.Path.{◌≡◌, refl, ap, sym, ◌∙◌}
use native.Mathlib.Omega.{arith}
use lib.ListN.{length, get_or, length-map}
use Rattle.rules.specs.Cell as Cell
use Rattle.rules.specs.Condition as Condition
use Rattle.rules.specs.Event as Event
use Rattle.rules.specs.Event.{Fault, deadlock, Site, no_site}
use Rattle.rules.specs.Explorer as Explorer
use Rattle.rules.specs.Explorer.{Limits, Walk, over, execution, empty, stopped}
use Rattle.rules.specs.Machine as Machine
use Rattle.rules.specs.Path as Path
use Rattle.rules.specs.Path.{Choice, runs, reads}
use Rattle.rules.specs.Seen as Seen
use Rattle.rules.specs.State.{State}
use Rattle.rules.specs.Table as Table
use Rattle.rules.specs.Vector as Vector
use Rattle.rules.specs.Vector.{nobody}
use Rattle.rules.specs.Worked as Worked
use Rattle.ledger.specs.Balance.{begun, opened, open-in}
use Rattle.ledger.specs.History.{Course, ticks_from, course_of, courses_from, courses, executed, Made}
use Rattle.ledger.specs.Named.{Named}
use Rattle.ledger.specs.Play.{played}
use Rattle.ledger.specs.Small as Small
use Rattle.ledger.specs.Tree.{no_execution, Parted}
use Rattle.ledger.specs.Turning.{running, threads_from, alternatives, open_names, newly_pending, marked_alternatives, opened_names, joined_over, opened_of, turned_of, open_of, parting, partings}
use Rattle.ledger.specs.Wrong.{Parts, walked_by, run_from_by, run_by, stepped_first, again_from, dropping_step, uncounted, reopening, inventing, wrong_run, Unbalanced, WrongLedgers}
use Rattle.ledger.specs.WrongTree.{stepped_twice, revisiting, SameAgain, WrongTree}

module _ (P : Parts State) (e c l : ℕ) where
  failing : begun (wrong_run P) ≡ e → opened (wrong_run P) ≡ c → open-in (wrong_run P) ≡ l → (e ≡ 1 + c - l → ⊥) → Unbalanced P e c l
  failing p q r f = record { begun-is = p; opened-is = q; open_is = r; fails = λ s. f (omega arith) }

-- equal choices part nowhere
never-part : (xs ys : List Choice) → xs ≡ ys → Parted xs ys → ⊥
never-part xs ys e p = p.different (rw e)

module _ (P : Parts State) (i j n : ℕ) (cs : List Choice) where
  again : i < j → j < n → length (wrong_run P).history ≡ n → (get_or (wrong_run P).history i no_execution).choices ≡ cs →
      (get_or (wrong_run P).history j no_execution).choices ≡ cs → SameAgain P i j
  again a b e f g = record { earlier = a; later = omega arith; fails = never-part _ _ (f ∙ sym g) }

-- a single execution that was over has met no fault
no-fault : (M : Event.Machine) (limits : Limits) (n : ℕ) (u w : Walk M.State) (f : Fault) (site : Site) (cs : List (Course M.State)) →
    execution M limits empty ≡ over u → length cs ≡ 1 → Made M limits n w (stopped f site) empty cs → ⊥
no-fault M limits n u w f site [] e k m = omega arith
no-fault M limits n u w f site (c ∷ []) e k m = let z : ◌≡◌ {A = ℕ} 0 1 = cc (sym e ∙ m.1) in omega arith
no-fault M limits n u w f site (c ∷ d ∷ cs) e k m = omega arith

record Computed : Type 0 where
  worked : Small.WorkedRuns
  named : Named
  wrong : WrongLedgers
  wrong-tree : WrongTree

computed : Computed
unfolding Condition.compared Condition.comparison_at Condition.condition_at Condition.holds Cell.load_synced Cell.store_synced Cell.fate_from Cell.load_fate Cell.matched_from Cell.matched_load Cell.load_race
    Cell.store_race Cell.load_tracked Cell.store_tracked Cell.coherent_from Cell.coherent Cell.touch_done Cell.store_order_from
    Cell.store_order Cell.store_done Cell.sighted Cell.load_done Event.little Event.slots_from Explorer.all_marked
    Explorer.seed_of Explorer.pushed Explorer.all_below Explorer.reply Explorer.tick Explorer.walked Explorer.execution
    Explorer.after Explorer.run_from Explorer.run Machine.for_threads Machine.blank Machine.cells_made Machine.plains_made
    Machine.threads_started Machine.start Machine.conflict Machine.fewest_from Machine.initial Machine.standing
    Machine.schedules Machine.access_made Machine.others_awake Machine.switched Machine.all_over Machine.scheduled
    Machine.stores Machine.acts_as Machine.begins Machine.thread_ended Machine.next_at Machine.next Machine.mask_of
    Machine.read_from Machine.answered Machine.final Path.first_in Path.active_of Path.toggled Path.preemptions_with Path.last_schedule
    Path.thread_added Path.load_added Path.marked Path.made_pending Path.takes_marks Path.schedule_marked Path.schedule_at
    Path.exploring_below Path.schedules_below Path.switch_in Path.marked_before Path.backtracked Path.pendings Path.open_at
    Path.open_in Path.turned Path.turned_branch Path.stepped Path.choice_of Seen.seen_through Seen.seen Seen.seen_before_yield
    Seen.touched Seen.touched_at Table.u16_at Table.u32_at Table.u64_at Table.counts_of Table.first_rows Table.start_value
    Table.row_from Table.row_at Table.change_decoded Table.row_decoded Table.op_at Vector.at_most Vector.equal Vector.less
    Vector.joined Vector.ahead Vector.raised Worked.rows_as_bytes Worked.threads_as_bytes Worked.values_as_bytes Worked.table_with Worked.loads_in
    Worked.loads_in_all ticks_from course_of courses_from courses threads_from alternatives open_names newly_pending
    marked_alternatives opened_names joined_over opened_of turned_of open_of parting partings played walked_by run_from_by run_by
    stepped_first again_from stepped_twice
computed = record {
  worked = record {
    p3 = refl;
    p4 = refl;
    p5 = refl;
    one = refl;
    four = refl;
    five = refl;
    fault = refl;
    claim-false = refl;
    claim-false-last = refl;
    claim-true = refl;
    path = refl;
  };
  named = record {
    opened = refl;
    turned = refl;
    none_open = refl;
    open-after-one = refl;
    open-after-four = refl;
    known = refl;
    passed = refl;
    play = refl;
    play-over = refl;
    play-short = refl;
  };
  wrong = record {
    dropping = failing dropping_step 4 4 0 refl refl refl (λ e. absurd (omega arith));
    silent = failing uncounted 5 2 0 refl refl refl (λ e. absurd (omega arith));
    again = failing reopening 10 6 2 refl refl refl (λ e. absurd (omega arith));
    invented = λ cs t.
        no-fault Small.small (Small.small_limits 16 Path.unbounded) 10 (wrong_run inventing).walk (wrong_run inventing).walk deadlock no_site cs refl
        (sym (length-map cs executed) ∙ sym (ap length t.history)) t.made;
    balances = refl;
  };
  wrong-tree = record {
    revisited = again revisiting 2 5 10 (running 1 ∷ running 1 ∷ reads 0 ∷ running 0 ∷ runs nobody ∷ []) (omega arith) (omega arith) refl refl refl;
    reopened = again reopening 2 5 10 (running 1 ∷ running 1 ∷ reads 0 ∷ running 0 ∷ runs nobody ∷ []) (omega arith) (omega arith) refl refl refl;
    repeated = record { earlier = omega arith; later = omega arith; first = refl; again = refl };
    dropped = record { fails = omega arith };
  };
}

pub worked : Small.WorkedRuns
worked = computed.worked

pub named : Named
named = computed.named

pub wrong : WrongLedgers
wrong = computed.wrong

pub wrong-tree : WrongTree
wrong-tree = computed.wrong-tree
