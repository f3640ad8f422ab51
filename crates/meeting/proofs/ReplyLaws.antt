-- What the branch at a position answers. Assumes nothing.
--     thread-chosen, thread-nobody, thread-unexpected      a schedule's
--     slot_read, slot-unexpected                           a load's
--     bit-said, bit-unexpected                             a spurious branch's
use Prim.Native.Nat.{ℕ, ◌%◌, ◌<◌}
use mathlib.Core.List.{List, [], ◌∷◌}
use mathlib.Core.Bool.{Bool, true, false, cond, ◌&&◌}
use mathlib.Core.Path.{◌≡◌, refl, ap, sym, subst}
use native.Mathlib.Omega.{arith}
use lib.Dec.{ltb}
use lib.ListN.{length, get_or}
use Rattle.rules.specs.Event as rules
use Rattle.rules.specs.Vector.{Whom, nobody, thread}
use Rattle.rules.specs.Path as paths
use Rattle.rules.specs.Path.{Branch, no_branch, positions}
use Rattle.rules.specs.Machine.{mask_of}
use Rattle.rules.specs.Explorer as explorer
use Rattle.rules.specs.Explorer.{says, unexpected}
use Rattle.record.specs.Choices as records
use Rattle.record.specs.Choices.{offered_by, all_slots}
use Rattle.record.specs.declared.Offered.{Offered}
use Rattle.std.specs.Prelude.{Option, Some, None}
use Rattle.path.specs.Holds.{Holds}
use Rattle.path.specs.Choices.{Chooses, ReadsSlot, Says, chosen_of, said_by}
use Rattle.record.specs.Places.{found_as}
use Rattle.event.specs.declared.Picked.{Picked}
use Rattle.event.specs.declared.Picked.TheVariants as choice
use Rattle.event.specs.declared.Question.{Question}
use Rattle.event.specs.declared.Question.TheVariants as question
use Rattle.meeting.specs.Branches.{question_of, ReplyWithin, AnswersBy, RepliesBy}

-- A schedule

abbrev ThreadSaid : ℕ → Option (Option ℕ) → explorer.Reply → Type 0
ThreadSaid pos (Some (Some t)) r = r ≡ says (rules.run_thread (thread t) pos)
ThreadSaid pos (Some None) r = r ≡ says (rules.run_thread nobody pos)
ThreadSaid pos None r = r ≡ unexpected

whom-said : (pos : ℕ) (w : Whom) → ThreadSaid pos (Some (found_as w)) (says (rules.run_thread w pos))
whom-said pos nobody = refl
whom-said pos (thread t) = refl

thread-said : (pos : ℕ) (b : Branch) (points : List rules.Point) (i : Whom) (s : List rules.Standing) → ThreadSaid pos (chosen_of (paths.the_schedule pos b)) (explorer.reply pos b (rules.which_thread points i s))
unfolding explorer.reply
thread-said pos (paths.schedule x) points i s = whom-said pos (paths.active_in x.states)
thread-said pos (paths.load l) points i s = refl
thread-said pos (paths.spurious u) points i s = refl

module _ (path : List ℕ) (pos : ℕ) (q : Question) (e : q ≡ question.Thread) (r : Option (Option ℕ)) (h : Chooses path pos r) where
  chosen-there : (bs : List Branch) → Holds path bs → r ≡ chosen_of (paths.the_schedule pos (get_or bs pos no_branch))
  unfolding paths.schedule_at
  chosen-there bs holds = h.says bs holds

  thread-replies : (a : Option Picked) → ReplyWithin a
      → ((x : explorer.Reply) → pos < positions → ThreadSaid pos r x → AnswersBy a x) → RepliesBy path pos q a
  thread-replies a within f =
      subst (λ (k : Question). RepliesBy path pos k a) (sym e)
      (record {
        within = within;
        is = λ bs holds small st t row.
            f (explorer.reply pos (get_or bs pos no_branch) (question_of question.Thread st t row)) small
            (subst (λ (x : Option (Option ℕ)). ThreadSaid pos x (explorer.reply pos (get_or bs pos no_branch) (question_of question.Thread st t row))) (sym (chosen-there bs holds))
            (thread-said pos (get_or bs pos no_branch) _ _ _));
      })

  pub thread-chosen : {t branch : ℕ} → r ≡ Some (Some t) → branch ≡ pos % positions → RepliesBy path pos q (Some (choice.Thread t branch))
  thread-chosen {t} {branch} g at =
      thread-replies (Some (choice.Thread t branch)) tt
      (λ x small s.
      let is : x ≡ says (rules.run_thread (thread t) pos) = subst (λ (y : Option (Option ℕ)). ThreadSaid pos y x) g s in
      let b : branch ≡ pos = omega (arith, at, small) in
      subst (λ (y : explorer.Reply). AnswersBy (Some (choice.Thread t branch)) y) (sym is) (ap (λ (k : ℕ). rules.run_thread (thread t) k) (sym b)))

  pub thread-nobody : r ≡ Some None → RepliesBy path pos q (Some choice.Nobody)
  thread-nobody g =
      thread-replies (Some choice.Nobody) tt
      (λ x small s.
      let is : x ≡ says (rules.run_thread nobody pos) = subst (λ (y : Option (Option ℕ)). ThreadSaid pos y x) g s in
      subst (λ (y : explorer.Reply). AnswersBy (Some choice.Nobody) y) (sym is) (record { at = pos; is = refl }))

  pub thread-unexpected : r ≡ None → RepliesBy path pos q None
  thread-unexpected g =
      thread-replies None tt
      (λ x small s.
      let is : x ≡ unexpected = subst (λ (y : Option (Option ℕ)). ThreadSaid pos y x) g s in
      subst (λ (y : explorer.Reply). AnswersBy None y) (sym is) tt)

-- A load

record SlotAnswer (slot mask : ℕ) (r : explorer.Reply) : Type 0 where
  values : List ℕ
  is : r ≡ says (rules.read_slot slot values)
  masked : mask ≡ mask_of 0 values

abbrev SlotSaid : Option Offered → explorer.Reply → Type 0
SlotSaid (Some o) r = SlotAnswer o.slot o.mask r
SlotSaid None r = r ≡ unexpected

below-slots : (vs : List ℕ) → explorer.all_below 7 vs ≡ all_slots vs
unfolding explorer.all_below all_slots
below-slots [] = refl
below-slots (v ∷ vs) = ap (λ (b : Bool). ltb v 7 && b) (below-slots vs)

load-by : (a b : Bool) (slot : ℕ) (vs : List ℕ)
    → SlotSaid (cond a (cond b (Some (record { slot = slot; mask = mask_of 0 vs })) None) None) (cond (a && b) (says (rules.read_slot slot vs)) unexpected)
load-by true true slot vs = record { values = vs; is = refl; masked = refl }
load-by true false slot vs = refl
load-by false b slot vs = refl

slot-said : (pos : ℕ) (b : Branch) (m : rules.Matched) → SlotSaid (offered_by b) (explorer.reply pos b (rules.which_slot m))
unfolding explorer.reply offered_by records.offers
slot-said pos (paths.schedule x) m = refl
slot-said pos (paths.load l) m =
    subst (λ (b : Bool). SlotSaid (offered_by (paths.load l)) (cond (ltb l.pos (length l.values) && b) (says (rules.read_slot (get_or l.values l.pos 0) l.values)) unexpected)) (sym (below-slots l.values))
    (load-by (ltb l.pos (length l.values)) (all_slots l.values) (get_or l.values l.pos 0) l.values)
slot-said pos (paths.spurious u) m = refl

module _ (path : List ℕ) (pos : ℕ) (q : Question) (e : q ≡ question.Slot) (r : Option Offered) (h : ReadsSlot path pos r) where
  slot-replies : (a : Option Picked) → ReplyWithin a → ((x : explorer.Reply) → SlotSaid r x → AnswersBy a x) → RepliesBy path pos q a
  slot-replies a within f =
      subst (λ (k : Question). RepliesBy path pos k a) (sym e)
      (record {
        within = within;
        is = λ bs holds small st t row.
            f (explorer.reply pos (get_or bs pos no_branch) (question_of question.Slot st t row))
            (subst (λ (x : Option Offered). SlotSaid x (explorer.reply pos (get_or bs pos no_branch) (question_of question.Slot st t row))) (sym (h.is bs holds))
            (slot-said pos (get_or bs pos no_branch) _));
      })

  pub slot_read : {o : Offered} → r ≡ Some o → o.slot < 7 → RepliesBy path pos q (Some (choice.Slot o.slot o.mask))
  slot_read {o} g few =
      slot-replies (Some (choice.Slot o.slot o.mask)) few
      (λ x s.
      let is : SlotAnswer o.slot o.mask x = subst (λ (y : Option Offered). SlotSaid y x) g s in
      subst (λ (y : explorer.Reply). AnswersBy (Some (choice.Slot o.slot o.mask)) y) (sym is.is) (record { values = is.values; is = refl; masked = is.masked }))

  pub slot-unexpected : r ≡ None → RepliesBy path pos q None
  slot-unexpected g =
      slot-replies None tt
      (λ x s.
      let is : x ≡ unexpected = subst (λ (y : Option Offered). SlotSaid y x) g s in
      subst (λ (y : explorer.Reply). AnswersBy None y) (sym is) tt)

-- A spurious branch

abbrev BitSaid : Option Bool → explorer.Reply → Type 0
BitSaid (Some b) r = r ≡ says (rules.take_bit b)
BitSaid None r = r ≡ unexpected

spurious-said : (pos : ℕ) (b : Branch) → BitSaid (said_by b) (explorer.reply pos b rules.which_bit)
unfolding explorer.reply said_by
spurious-said pos (paths.schedule x) = refl
spurious-said pos (paths.load l) = refl
spurious-said pos (paths.spurious u) = refl

module _ (path : List ℕ) (pos : ℕ) (q : Question) (e : q ≡ question.Bit) (r : Option Bool) (h : Says path pos r) where
  bit-replies : (a : Option Picked) → ReplyWithin a → ((x : explorer.Reply) → BitSaid r x → AnswersBy a x) → RepliesBy path pos q a
  bit-replies a within f =
      subst (λ (k : Question). RepliesBy path pos k a) (sym e)
      (record {
        within = within;
        is = λ bs holds small st t row.
            f (explorer.reply pos (get_or bs pos no_branch) rules.which_bit)
            (subst (λ (x : Option Bool). BitSaid x (explorer.reply pos (get_or bs pos no_branch) rules.which_bit)) (sym (h.is bs holds))
            (spurious-said pos (get_or bs pos no_branch)));
      })

  pub bit-said : {b : Bool} → r ≡ Some b → RepliesBy path pos q (Some (choice.Bit b))
  bit-said {b} g =
      bit-replies (Some (choice.Bit b)) tt
      (λ x s.
      let is : x ≡ says (rules.take_bit b) = subst (λ (y : Option Bool). BitSaid y x) g s in
      subst (λ (y : explorer.Reply). AnswersBy (Some (choice.Bit b)) y) (sym is) refl)

  pub bit-unexpected : r ≡ None → RepliesBy path pos q None
  bit-unexpected g =
      bit-replies None tt
      (λ x s.
      let is : x ≡ unexpected = subst (λ (y : Option Bool). BitSaid y x) g s in
      subst (λ (y : explorer.Reply). AnswersBy None y) (sym is) tt)
