use mathlib.Core.Path.{ap, ◌∙◌}
use Rattle.rules.specs.Token.{place_in, bytes_of}
use Rattle.rules.specs.Form.{order_in}
use Rattle.token.proofs.ListLaws.{orders-line}
use Rattle.token.proofs.order.Goals as goal

pub returns : goal.returns
unfolding bytes_of
returns c =
    let got = c.part in
    c.place_in.ensures ∙ ap (place_in 0 got.result.now) orders-line ∙ ap order_in got.ensures
