use mathlib.Core.Path.{ap, sym, ◌∙◌}
use Rattle.rules.specs.Form.{fits}
use Rattle.token.proofs.PlaceLaws.{left_by, between-line}
use Rattle.form.proofs.ended.Goals as goal

pub returns : goal.returns
returns c =
    let a = c.args in
    record {
      said = rw (sym c.ends_line.ensures ∙ c.if-not-ends_line.false) (ap (fits a.fields) (left_by a.text.now a.at c.next_line-at.result _ c.next_line-at.ensures));
      between = between-line _ _ _ c.next_line-at.ensures;
    }
