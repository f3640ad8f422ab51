use mathlib.Core.Path.{refl}
use Rattle.rules.specs.Token.{bytes_of}
use Rattle.rules.specs.Form.{forms}
use Rattle.form.specs.Lines.{coded}
use Rattle.form.proofs.row_in.Goals as goal

pub tried-requires : goal.tried-requires
unfolding bytes_of forms coded
tried-requires c = refl
