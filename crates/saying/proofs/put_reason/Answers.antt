use mathlib.Core.Path.{ap, sym, ◌∙◌}
use mathlib.Core.Bool.{true, false}
use Rattle.rules.specs.Token.{bytes_of}
use Rattle.put.proofs.PutLaws.{puts-are}
use Rattle.saying.proofs.SayLaws.{reason-by}
use Rattle.saying.proofs.put_reason.Goals as goal

pub returns-then-names_plain : goal.returns-then-names_plain
returns-then-names_plain c =
    puts-are _ _ _ _ _ _ (ap bytes_of (reason-by c.args.spot.row _ _ _ true (sym c.names_plain.ensures ∙ c.if-names_plain.true))) c.put_why_no_plain.ensures

pub returns : goal.returns
returns c =
    puts-are _ _ _ _ _ _ (ap bytes_of (reason-by c.args.spot.row _ _ _ false (sym c.names_plain.ensures ∙ c.if-names_plain.false))) c.put_why.ensures
