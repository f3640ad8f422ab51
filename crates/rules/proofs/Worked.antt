-- Document 01's cases P, and those under a final condition, hold of the definition: computed by the checker.
use mathlib.Core.List.{map}
use mathlib.Core.Path.{◌≡◌, refl}
use Rattle.rules.specs.Cell as Cell
use Rattle.rules.specs.Change as Change
use Rattle.rules.specs.Condition as Condition
use Rattle.rules.specs.Event as Event
use Rattle.rules.specs.Explored as Explored
use Rattle.rules.specs.Explorer as Explorer
use Rattle.rules.specs.Machine as Machine
use Rattle.rules.specs.Path as Path
use Rattle.rules.specs.Plain as Plain
use Rattle.rules.specs.Seen as Seen
use Rattle.rules.specs.Table as Table
use Rattle.rules.specs.Vector as Vector
use Rattle.rules.specs.Worked as Worked

-- "P: proved.": what the definition gives is what the document says, in every case of the table
pub cases-P : map (λ (w : Worked.Worked). w.given) Worked.worked ≡ map (λ (w : Worked.Worked). w.said) Worked.worked
unfolding Condition.compared Condition.behind Condition.comparison_at Condition.condition_at Condition.is_condition Condition.holds Cell.load_synced Cell.store_synced Cell.fate_from Cell.load_fate Cell.rmw_fate Cell.matched_from Cell.matched_load Cell.matched_rmw Cell.load_race Cell.unsync_load_race Cell.store_race Cell.mut_race Cell.load_tracked Cell.unsync_load_tracked Cell.store_tracked Cell.mut_tracked Cell.coherent_from Cell.coherent Cell.touch_done Cell.store_order_from Cell.store_order Cell.store_done Cell.sighted Cell.load_done Change.applied Cell.succeeded Cell.rmw_done Cell.unsync_load_done Cell.mut_done Plain.plain_read_race Plain.plain_write_race Plain.plain_read_tracked Plain.plain_write_tracked Plain.plain_read_done Plain.plain_write_done Cell.acquired_from Cell.cell_acquired Cell.cells_acquired Cell.fence_acquired Cell.fence_released Cell.fence_seq_cst Cell.fenced Event.little Event.entry_bytes Event.slots_from Explored.summary Explored.refused Explored.verdict_site Explored.reported Explored.entries_bytes Explored.trace_left Explored.stop_of Explored.ran Explored.settings_fine Explored.explored Explorer.all_marked Explorer.seed_of Explorer.pushed Explorer.all_below Explorer.reply Explorer.tick Explorer.walked Explorer.execution Explorer.after Explorer.run_from Explorer.run Machine.for_threads Machine.blank Machine.cells_made Machine.plains_made Machine.threads_started Machine.start Machine.conflict Machine.fewest_from Machine.initial Machine.standing Machine.schedules Machine.access_made Machine.others_awake Machine.switched Machine.all_over Machine.scheduled Machine.stores Machine.joins Machine.some_can_run Machine.acts_as Machine.begins Machine.thread_ended Machine.next_at Machine.next Machine.mask_of Machine.read_from Machine.bit_taken Machine.answered Machine.final Path.encoded Path.encoded_all Path.written Path.first_in Path.active_of Path.toggled Path.preemptions_with Path.last_schedule Path.thread_added Path.load_added Path.spurious_added Path.marked Path.made_pending Path.takes_marks Path.schedule_marked Path.schedule_at Path.exploring_below Path.schedules_below Path.switch_in Path.marked_before Path.backtracked Path.pendings Path.open_at Path.open_in Path.turned Path.turned_branch Path.stepped Path.choice_of Seen.seen_through Seen.seen Seen.seen_before_yield Seen.touched Seen.touched_at Table.u16_at Table.u32_at Table.u64_at Table.counts_of Table.counts_fine Table.total Table.header_fine Table.first_rows Table.start_value Table.row_from Table.row_at Table.change_decoded Table.row_decoded Table.op_at Table.first_not Table.first_bad Table.rows_judged Table.judged Vector.at_most Vector.equal Vector.less Vector.joined Vector.ahead Vector.raised Worked.rows_as_bytes Worked.threads_as_bytes Worked.values_as_bytes Worked.table_with Worked.loads_in Worked.loads_in_all Worked.numbers_from
cases-P = refl
