-- What the answers and faults say that the code takes together. Assumes nothing.
--     no-fault      an answer that is no fault has no race
--     no_race       nor has a fault of another kind
--     raced         a race has its own kind and other thread
--     no_place      an answer that is neither a bad row nor a fault names no thread and row
--     placed        nor does a deadlock, but every other fault does
use Prim.Native.Nat.{ℕ}
use mathlib.Core.List.{List, [], ◌∷◌}
use mathlib.Core.Bool.{Bool, true, false, cond}
use mathlib.Core.Path.{◌≡◌, refl, ap, sym, ◌∙◌}
use lib.Dec.{leb}
use types.Run.{OneOf, miss}
use denote.Enum.Declared.{tag_of}
use Rattle.rules.specs.Event.{no_site, fault_number, race_kind, other_thread}
use Rattle.rules.specs.Explored.{verdict_site}
use Rattle.event.specs.contracts.Fault as Fault
use Rattle.event.specs.declared.Fault.{Fault}
use Rattle.event.specs.declared.Fault.TheVariants as fault
use Rattle.event.specs.declared.Site.{Site}
use Rattle.event.specs.Moves.{fault_of}
use Rattle.report.specs.contracts.Answer as Answer
use Rattle.report.specs.declared.Answer.{Answer}
use Rattle.report.specs.declared.Answer.TheVariants as answer
use Rattle.report.specs.Answers.{site_of, race_kind_of, other_of, thread_at_fault, row_at_fault}

pub no_place : (a : Answer) → OneOf (0 ∷ 1 ∷ 2 ∷ 3 ∷ 4 ∷ 7 ∷ []) (tag_of Answer.the_type a) → (255 ≡ thread_at_fault a) × (255 ≡ row_at_fault a)
no_place answer.Exhausted k = (refl, refl)
no_place answer.Spent k = (refl, refl)
no_place answer.BadSettings k = (refl, refl)
no_place answer.BadPath k = (refl, refl)
no_place answer.BadTrace k = (refl, refl)
no_place (answer.BadTable t r) k = absurd (miss (0 ∷ 1 ∷ 2 ∷ 3 ∷ 4 ∷ 7 ∷ []) 5 tt k)
no_place (answer.Stopped f s) k = absurd (miss (0 ∷ 1 ∷ 2 ∷ 3 ∷ 4 ∷ 7 ∷ []) 6 tt k)
no_place answer.Unmet k = (refl, refl)

pub no-fault : (a : Answer) → OneOf (0 ∷ 1 ∷ 2 ∷ 3 ∷ 4 ∷ 5 ∷ 7 ∷ []) (tag_of Answer.the_type a) → (0 ≡ race_kind_of a) × (255 ≡ other_of a)
no-fault answer.Exhausted k = (refl, refl)
no-fault answer.Spent k = (refl, refl)
no-fault answer.BadSettings k = (refl, refl)
no-fault answer.BadPath k = (refl, refl)
no-fault answer.BadTrace k = (refl, refl)
no-fault (answer.BadTable t r) k = (refl, refl)
no-fault (answer.Stopped f s) k = absurd (miss (0 ∷ 1 ∷ 2 ∷ 3 ∷ 4 ∷ 5 ∷ 7 ∷ []) 6 tt k)
no-fault answer.Unmet k = (refl, refl)

pub no_race : (f : Fault) → OneOf (0 ∷ 1 ∷ 2 ∷ 3 ∷ 5 ∷ 6 ∷ 7 ∷ 8 ∷ []) (tag_of Fault.the_type f) → (0 ≡ race_kind (fault_of f)) × (255 ≡ other_thread (fault_of f))
no_race fault.Deadlock k = (refl, refl)
no_race fault.Full k = (refl, refl)
no_race fault.Rows k = (refl, refl)
no_race fault.EqualOrders k = (refl, refl)
no_race (fault.Race kind other) k = absurd (miss (0 ∷ 1 ∷ 2 ∷ 3 ∷ 5 ∷ 6 ∷ 7 ∷ 8 ∷ []) 4 tt k)
no_race fault.Check k = (refl, refl)
no_race fault.Flags k = (refl, refl)
no_race fault.Preemptions k = (refl, refl)
no_race fault.Impossible k = (refl, refl)

module _ (a : Answer) (f : Fault) (s : Site) (e : a ≡ answer.Stopped f s) where
  pub raceless : OneOf (0 ∷ 1 ∷ 2 ∷ 3 ∷ 5 ∷ 6 ∷ 7 ∷ 8 ∷ []) (tag_of Fault.the_type f) → (0 ≡ race_kind_of a) × (255 ≡ other_of a)
  raceless k = rw e (no_race f k)

  pub raced : {kind other : ℕ} → f ≡ fault.Race kind other → (kind ≡ race_kind_of a) × (other ≡ other_of a)
  raced d = rw (e, d) (refl, refl)

  module _ (b : Bool) (n : b ≡ leb 11 (fault_number (fault_of f))) where
    pub placed : b ≡ true → (s.thread ≡ thread_at_fault a) × (s.row ≡ row_at_fault a)
    unfolding verdict_site
    placed t =
        let h : true ≡ leb 11 (fault_number (fault_of f)) = sym t ∙ n in
        rw e (ap (λ (v : Bool). (cond v (site_of s) no_site).thread) h, ap (λ (v : Bool). (cond v (site_of s) no_site).row) h)

    pub placeless : b ≡ false → (255 ≡ thread_at_fault a) × (255 ≡ row_at_fault a)
    unfolding verdict_site
    placeless t =
        let h : false ≡ leb 11 (fault_number (fault_of f)) = sym t ∙ n in
        rw e (ap (λ (v : Bool). (cond v (site_of s) no_site).thread) h, ap (λ (v : Bool). (cond v (site_of s) no_site).row) h)
