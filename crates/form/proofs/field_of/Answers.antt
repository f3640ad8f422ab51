use mathlib.Core.Path.{ap}
use native.Mathlib.Omega.{arith}
use mathlib.Core.Logic.{inl, inr}
use Rattle.rules.specs.Form.{field_of}
use Rattle.form.specs.Letters.{found_field}
use Rattle.form.proofs.LetterLaws.{field-none}
use Rattle.form.proofs.field_of.Goals as goal

pub returns-in-82 : goal.returns-in-82
unfolding field_of
returns-in-82 c = rw c.in-82.is

pub returns-in-67 : goal.returns-in-67
unfolding field_of
returns-in-67 c = elim c.in-67.is [ inl e ↦ rw e | inr (inl e) ↦ rw e | inr (inr e) ↦ rw e ]

pub returns-in-74 : goal.returns-in-74
unfolding field_of
returns-in-74 c = elim c.in-74.is [ inl e ↦ rw e | inr e ↦ rw e ]

pub returns-in-65 : goal.returns-in-65
unfolding field_of
returns-in-65 c = rw c.in-65.is

pub returns-in-66 : goal.returns-in-66
unfolding field_of
returns-in-66 c = rw c.in-66.is

pub returns-in-76 : goal.returns-in-76
unfolding field_of
returns-in-76 c = elim c.in-76.is [ inl e ↦ rw e | inr (inl e) ↦ rw e | inr (inr (inl e)) ↦ rw e | inr (inr (inr e)) ↦ rw e ]

pub returns-in-88 : goal.returns-in-88
unfolding field_of
returns-in-88 c = rw c.in-88.is

pub returns-in_default : goal.returns-in_default
returns-in_default c =
    ap found_field
    (field-none _ (grind arith) (grind arith) (grind arith) (grind arith) (grind arith) (grind arith) (grind arith) (grind arith) (grind arith) (grind arith) (grind arith) (grind arith) (grind arith))
