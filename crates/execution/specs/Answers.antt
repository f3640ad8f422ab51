-- How the machine goes on with what a branch chooses, for every case of the code's. Assumes nothing.
use Rattle.std.specs.Prelude.{ℕ, ◌<◌, ◌≡◌, cond}
use Rattle.rules.specs.Event.{Move}
use Rattle.rules.specs.State.{State}
use Rattle.rules.specs.Table.{Op, Decoded}
use Rattle.rules.specs.Vector.{nobody, thread}
use Rattle.rules.specs.Machine.{role_in, scheduled, read_from, bit_taken}
use Rattle.event.specs.declared.Picked.{Picked}
use Rattle.event.specs.declared.Picked.TheVariants as choice

-- a slot is one of the seven
abbrev pub ChoiceWithin : Picked → Type 0
ChoiceWithin (choice.Thread chosen branch) = Unit
ChoiceWithin choice.Nobody = Unit
ChoiceWithin (choice.Slot slot mask) = slot < 7
ChoiceWithin (choice.Bit bit) = Unit

-- of a thread at a row that does this, from a state: the definition's `answered`, where that is the active thread's row
abbrev pub Answers : Picked → Decoded Op → ℕ → ℕ → State → Move State → Type 0
Answers (choice.Thread chosen branch) row t k st move = move ≡ scheduled st (thread chosen) branch
Answers choice.Nobody row t k st move = (at : ℕ) → move ≡ scheduled st nobody at
Answers (choice.Slot slot mask) row t k st move = move ≡ read_from st t k slot mask (role_in row)
Answers (choice.Bit bit) row t k st move = move ≡ bit_taken st t k (cond bit 1 0) (role_in row)
