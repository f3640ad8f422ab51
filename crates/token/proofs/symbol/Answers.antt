use mathlib.Core.Path.{ap, ◌∙◌}
use Rattle.rules.specs.Token.{place_in, bytes_of}
use Rattle.rules.specs.Text.{symbol_in}
use Rattle.token.proofs.ListLaws.{symbols-line}
use Rattle.token.proofs.symbol.Goals as goal

pub returns : goal.returns
unfolding bytes_of
returns c =
    let got = c.part in
    c.place_in.ensures ∙ ap (place_in 1 got.result.now) symbols-line ∙ ap symbol_in got.ensures
