use borrow.Author.Rules.{rules}
use mathlib.Core.Path.{◌≡◌}
use lib.ListN.{length}
use Rattle.path.proofs.PushLaws.{load-refused, load-added, opens-left, opens-none, seven-of, full-err}
use Prim.Native.Nat.{◌≤◌}
use Rattle.std.proofs.lemmas.Result.{err_from_is_err_and}
use Rattle.path.proofs.push_load.Goals as goal

pub returns-in_err-room : goal.returns-in_err-room
returns-in_err-room c =
    let p = err_from_is_err_and c.from_residual.result c.from_residual.ensures.1 in
    let full = full-err c.in_err-room.ensures in
    rw (p.1, p.2, full.0) (load-refused _ _ _ c.args.seed c.args.n full.1)

pub returns-then-exploring : goal.returns-then-exploring
returns-then-exploring c =
    let seven : length c.args.seed ≡ 7 = search rules in
    let few : c.min-n.result ≤ 7 = search rules in
    load-added _ _ _ c.args.seed _ (search rules) seven few c.args.n (seven-of _ _ _ seven c.min-n.ensures) _ _ (search rules) _ (opens-left c.if-exploring.true few c.left.ensures) c.left.ensures.few c.begin.ensures c.put_values.ensures

pub returns : goal.returns
returns c =
    let seven : length c.args.seed ≡ 7 = search rules in
    let few : c.min-n.result ≤ 7 = search rules in
    load-added _ _ _ c.args.seed _ (search rules) seven few c.args.n (seven-of _ _ _ seven c.min-n.ensures) _ _ (search rules) _ (opens-none _ c.if-exploring.false) (search rules) c.begin.ensures c.put_values.ensures
