use mathlib.Core.Path.{refl}
use native.Mathlib.Omega.{arith}
use Rattle.explorer.proofs.run.terms_of.Goals as goal

pub returns : goal.returns
returns c = λ few. record { operations = omega arith; bound = refl; exploring = refl }
