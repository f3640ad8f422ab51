use borrow.Author.Rules.{rules}
use Prim.Native.Nat.{◌+◌, ◌*◌, ◌≤◌}
use lib.ListN.{length}
use mathlib.Core.Path.{◌≡◌}
use Rattle.path.proofs.NewLaws.{thread-refused, thread-preempted, thread-added, opens-some, opens-nothing}
use Rattle.path.proofs.PushLaws.{full-err}
use Rattle.std.proofs.lemmas.Result.{err_from_is_err_and}
use Rattle.path.proofs.push_thread.Goals as goal

pub returns-in_err-room : goal.returns-in_err-room
returns-in_err-room c =
    let p = err_from_is_err_and c.from_residual.result c.from_residual.ensures.1 in
    let full = full-err c.in_err-room.ensures in
    rw (p.1, p.2, full.0) (thread-refused _ _ _ _ full.1)

pub returns-then-preemptions-gt-MAX_PREEMPTIONS : goal.returns-then-preemptions-gt-MAX_PREEMPTIONS
returns-then-preemptions-gt-MAX_PREEMPTIONS c =
    thread-preempted _ _ _ _ (search rules) _ c.last_schedule-prev.ensures _ c.preemptions_before-preemptions.ensures c.if-preemptions-gt-MAX_PREEMPTIONS.true

pub returns-then-exploring : goal.returns-then-exploring
returns-then-exploring c =
    let five : length c.args.seed ≡ 5 = search rules in
    let room : 16 * c.args.len + 16 ≤ length c.args.path.now = search rules in
    thread-added _ _ _ _ room _ c.last_schedule-prev.ensures _ c.preemptions_before-preemptions.ensures c.if-preemptions-gt-MAX_PREEMPTIONS.false five _ _ _ _ _ _ c.begin.ensures c.put_threads.ensures c.toggle_yield.ensures c.put_initial_active.ensures c.put.ensures c.put_prev.ensures (search rules) _ c.pending.ensures.few (opens-some c.if-exploring.true c.pending.ensures)

pub returns : goal.returns
returns c =
    let five : length c.args.seed ≡ 5 = search rules in
    let room : 16 * c.args.len + 16 ≤ length c.args.path.now = search rules in
    thread-added _ _ _ _ room _ c.last_schedule-prev.ensures _ c.preemptions_before-preemptions.ensures c.if-preemptions-gt-MAX_PREEMPTIONS.false five _ _ _ _ _ _ c.begin.ensures c.put_threads.ensures c.toggle_yield.ensures c.put_initial_active.ensures c.put.ensures c.put_prev.ensures (search rules) _ (search rules) (opens-nothing _ c.if-exploring.false)
