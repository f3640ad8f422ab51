use Prim.Native.Nat.{◌-◌}
use mathlib.Core.Path.{◌≡◌}
use lib.ListN.{drop}
use Rattle.rules.specs.Form.{follow, most_words}
use Rattle.token.specs.Places.{Between}
use Rattle.decode.specs.Ops.{room_meant}
use Rattle.form.proofs.followed.Given as goal

abbrev pub invariant-loop-i : goal.invariant-loop-i
invariant-loop-i l = (follow (most_words - l.i) (room_meant l.room) (drop l.from l.words) l.fields (drop l.to l.text) ≡ follow most_words (room_meant l.room) l.words l.initial.fields (drop l.at l.text)) × Between l.text l.at l.to
