-- The laws of what the branch at a position chooses. Assumes nothing.
--     load-..          by whether the record there is a load's
--     spurious-..      the same for a spurious branch
--     chosen-..        the same for a schedule
use Prim.Native.Nat.{ℕ, ◌<◌}
use mathlib.Core.List.{List}
use mathlib.Core.Bool.{Bool, true, false, not, true≢false, false≢true}
use mathlib.Core.Path.{◌≡◌, refl, ap, sym, ◌∙◌}
use native.Mathlib.Omega.{arith}
use borrow.Author.Tests.{ltb-true, ltb-false}
use lib.Dec.{ltb, eqb}
use lib.ListN.{length, get_or, get_or-eq_default}
use Rattle.rules.specs.Path as rules
use Rattle.rules.specs.Path.{Branch, encoded, no_branch, flag, schedule_at, the_schedule, active_in, active}
use Rattle.record.specs.Choices.{offered_by, OfLoad}
use Rattle.record.specs.Fields.{record_byte, states_at}
use Rattle.record.specs.Places.{First}
use Rattle.std.specs.Prelude.{Option, Some, None}
use Rattle.record.specs.Stands.{BranchStands}
use Rattle.record.specs.declared.Offered.{Offered}
use Rattle.record.proofs.StandsLaws.{stands-field}
use Rattle.record.proofs.ScheduleLaws.{active-is}
use Rattle.path.specs.Choices.{ReadsSlot, said_by, Says, chosen_of, Chooses}
use Rattle.path.specs.Holds.{Holds}
use Rattle.path.specs.Places.{HasKind}
use Rattle.path.specs.Walks.{HoldsAt}
use Rattle.path.proofs.HoldsLaws.{holds-stands, at-stands}
use Rattle.path.proofs.KindLaws.{There, there, kind-yes, kind-past, kind-unlike, kind-not, kind-inside}
use Rattle.path.proofs.PrevLaws.{schedule-there}

-- the first byte of its record
first_byte : {bytes : List ℕ} {bs : List Branch} → Holds bytes bs → (k : ℕ) → k < length bs → record_byte bytes k 0 ≡ get_or (encoded (get_or bs k no_branch)) 0 0
first_byte {bytes} {bs} h k l = stands-field (holds-stands h k (get_or bs k no_branch) l refl) 0 (omega arith)

-- A load

other-load : (b : Branch) → eqb (get_or (encoded b) 0 0) 2 ≡ false → None ≡ offered_by b
unfolding encoded offered_by
other-load (rules.schedule s) e = refl
other-load (rules.load l) e = absurd (true≢false e)
other-load (rules.spurious u) e = refl

no-load : None ≡ offered_by no_branch
unfolding offered_by
no-load = refl

a-load : {bytes : List ℕ} {at : ℕ} (b : Branch) → BranchStands bytes at b → (r : Option Offered) → OfLoad bytes at r → eqb (get_or (encoded b) 0 0) 2 ≡ true → r ≡ offered_by b
unfolding encoded
a-load (rules.schedule s) q r o e = absurd (false≢true e)
a-load (rules.load l) q r o e = o.is l q
a-load (rules.spurious u) q r o e = absurd (false≢true e)

module _ (bytes : List ℕ) (at : ℕ) (k : Bool) (g : HasKind bytes at 2 k) where
  load-none : {bs : List Branch} → Holds bytes bs → k ≡ false → (t : Bool) → ltb at (length bs) ≡ t → None ≡ offered_by (get_or bs at no_branch)
  load-none {bs} h e true f =
      let l : at < length bs = ltb-true at (length bs) f in
      other-load (get_or bs at no_branch) (ap (λ (x : ℕ). eqb x 2) (sym (first_byte h at l)) ∙ kind-not g h e l)
  load-none {bs} h e false f = no-load ∙ ap offered_by (sym (get_or-eq_default bs no_branch {n = at} (ltb-false at (length bs) f)))

  pub load-not : k ≡ false → ReadsSlot bytes at None
  load-not e = record { slot = tt; past = λ l. refl; other = λ f. refl; is = λ bs h. load-none h e (ltb at (length bs)) refl }

  pub load_is : k ≡ true → (r : Option Offered) → OfLoad bytes at r → ReadsSlot bytes at r
  load_is e r o = record {
    slot = o.slot;
    past = λ l. absurd (kind-past g e l);
    other = λ f. absurd (kind-unlike g e f);
    is = λ bs h.
        let l : at < length bs = kind-inside g h 1 refl e in
        a-load (get_or bs at no_branch) (holds-stands h at (get_or bs at no_branch) l refl) r o (ap (λ (x : ℕ). eqb x 2) (sym (first_byte h at l)) ∙ kind-yes g e);
  }

-- A spurious branch

other-spurious : (b : Branch) → eqb (get_or (encoded b) 0 0) 3 ≡ false → None ≡ said_by b
unfolding encoded said_by
other-spurious (rules.schedule s) e = refl
other-spurious (rules.load l) e = refl
other-spurious (rules.spurious u) e = absurd (true≢false e)

no-spurious : None ≡ said_by no_branch
unfolding said_by
no-spurious = refl

flag-bit : (b : Bool) → not (eqb (flag b) 0) ≡ b
flag-bit true = refl
flag-bit false = refl

a-spurious : (b : Branch) (f : ℕ) → eqb (get_or (encoded b) 0 0) 3 ≡ true → f ≡ get_or (encoded b) 2 0 → Some (not (eqb f 0)) ≡ said_by b
unfolding encoded said_by
a-spurious (rules.schedule s) f e g = absurd (false≢true e)
a-spurious (rules.load l) f e g = absurd (false≢true e)
a-spurious (rules.spurious u) f e g = ap (λ (x : ℕ). Some (not (eqb x 0))) g ∙ ap Some (flag-bit u.bit)

module _ (bytes : List ℕ) (at : ℕ) (k : Bool) (g : HasKind bytes at 3 k) where
  spurious-none : {bs : List Branch} → Holds bytes bs → k ≡ false → (t : Bool) → ltb at (length bs) ≡ t → None ≡ said_by (get_or bs at no_branch)
  spurious-none {bs} h e true f =
      let l : at < length bs = ltb-true at (length bs) f in
      other-spurious (get_or bs at no_branch) (ap (λ (x : ℕ). eqb x 3) (sym (first_byte h at l)) ∙ kind-not g h e l)
  spurious-none {bs} h e false f = no-spurious ∙ ap said_by (sym (get_or-eq_default bs no_branch {n = at} (ltb-false at (length bs) f)))

  pub spurious-not : k ≡ false → Says bytes at None
  spurious-not e = record { past = λ l. refl; other = λ f. refl; is = λ bs h. spurious-none h e (ltb at (length bs)) refl }

  pub spurious-is : k ≡ true → (f : ℕ) → f ≡ record_byte bytes at 2 → Says bytes at (Some (not (eqb f 0)))
  spurious-is e f i = record {
    past = λ l. absurd (kind-past g e l);
    other = λ x. absurd (kind-unlike g e x);
    is = λ bs h.
        let l : at < length bs = kind-inside g h 2 refl e in
        a-spurious (get_or bs at no_branch) f
        (ap (λ (x : ℕ). eqb x 3) (sym (first_byte h at l)) ∙ kind-yes g e)
        (i ∙ stands-field (holds-stands h at (get_or bs at no_branch) l refl) 2 (omega arith));
  }

-- A schedule

other-chosen : (b : Branch) (k : ℕ) → eqb (get_or (encoded b) 0 0) 1 ≡ false → None ≡ chosen_of (the_schedule k b)
unfolding encoded
other-chosen (rules.schedule s) k e = absurd (true≢false e)
other-chosen (rules.load l) k e = refl
other-chosen (rules.spurious u) k e = refl

module _ (bytes : List ℕ) (at : ℕ) (k : Bool) (g : HasKind bytes at 1 k) where
  chosen_none : {bs : List Branch} → Holds bytes bs → k ≡ false → (t : Bool) → ltb at (length bs) ≡ t → None ≡ chosen_of (schedule_at bs at)
  unfolding schedule_at
  chosen_none {bs} h e true f =
      let l : at < length bs = ltb-true at (length bs) f in
      other-chosen (get_or bs at no_branch) at (ap (λ (x : ℕ). eqb x 1) (sym (first_byte h at l)) ∙ kind-not g h e l)
  chosen_none {bs} h e false f = ap (λ (b : Branch). chosen_of (the_schedule at b)) (sym (get_or-eq_default bs no_branch {n = at} (ltb-false at (length bs) f)))

  pub chosen-other : k ≡ false → Chooses bytes at None
  chosen-other e = record { within = tt; past = λ l. refl; other = λ f. refl; says = λ bs h. chosen_none h e (ltb at (length bs)) refl }

  module _ (e : k ≡ true) (a : Option ℕ) (f : First (states_at bytes at) active a) where
    module _ {bs : List Branch} (h : Holds bytes bs) where
      here : There bs at
      here = there h at (kind-yes g e)

      held : HoldsAt bytes bs at here.of
      held = record { path = h; there = here.is }

      chooses : chosen_of (schedule_at bs at) ≡ chosen_of (rules.at at here.of)
      chooses = ap chosen_of (schedule-there bs at here.of here.is)

      the-thread : Some a ≡ chosen_of (schedule_at bs at)
      the-thread = rw chooses (ap Some (active-is (at-stands held) a f))

    pub chosen-thread : Chooses bytes at (Some a)
    chosen-thread = record {
      within = f.few;
      past = λ l. absurd (kind-past g e l);
      other = λ x. absurd (kind-unlike g e x);
      says = λ bs h. the-thread h;
    }
