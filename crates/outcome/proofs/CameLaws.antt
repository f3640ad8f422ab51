-- What came of a step, from what its row was found to be. Assumes nothing.
--     no-came                 the rows of which nothing comes
--     came-none, came-some    a step that the trace does not hold, and one that it holds
use Prim.Native.Nat.{ℕ}
use Rattle.std.specs.Prelude.{Option, None}
use mathlib.Core.List.{List, [], ◌∷◌}
use mathlib.Core.Path.{◌≡◌, refl, ap, sym, ◌∙◌}
use types.Run.{OneOf, miss}
use denote.Enum.Declared.{tag_of}
use Rattle.rules.specs.Table as rules
use Rattle.decode.proofs.NumberLaws.{all_but}
use Rattle.decode.specs.contracts.Op.{the_type}
use Rattle.decode.specs.declared.Op.{Op}
use Rattle.decode.specs.declared.Op.TheVariants as code
use Rattle.decode.specs.Ops.{op_of}
use Rattle.steps.specs.Entries.{entry_read, operation_at}
use Rattle.outcome.specs.declared.Came.{Came}
use Rattle.outcome.specs.Comes.{came_of, came_by, came_of_step}

-- the places among the variants of the rows that neither read, write, jump nor check
abbrev quiet : List ℕ
quiet = all_but (0 ∷ 1 ∷ 2 ∷ 3 ∷ 5 ∷ 6 ∷ 9 ∷ 10 ∷ 11 ∷ 12 ∷ 16 ∷ 17 ∷ 18 ∷ [])

module _ (h : List ℕ) (t s v : ℕ) where
  pub no-came : (op : Op) → OneOf quiet (tag_of the_type op) → None ≡ came_of h t s v (op_of op)
  no-came (code.Load order cell register) k = absurd (miss quiet 0 tt k)
  no-came (code.Store order cell value) k = absurd (miss quiet 1 tt k)
  no-came (code.StoreRegister order cell register) k = absurd (miss quiet 2 tt k)
  no-came (code.Rmw order cell register change failure) k = absurd (miss quiet 3 tt k)
  no-came (code.Fence order) k = refl
  no-came (code.UnsyncLoad cell register) k = absurd (miss quiet 5 tt k)
  no-came (code.WithMut cell register change) k = absurd (miss quiet 6 tt k)
  no-came code.Yield k = refl
  no-came (code.Join thread) k = refl
  no-came (code.Jump target) k = absurd (miss quiet 9 tt k)
  no-came (code.JumpIf target register a) k = absurd (miss quiet 10 tt k)
  no-came (code.JumpUnless target register a) k = absurd (miss quiet 11 tt k)
  no-came (code.Check register a) k = absurd (miss quiet 12 tt k)
  no-came code.Critical k = refl
  no-came code.ExploreState k = refl
  no-came code.SkipBranch k = refl
  no-came (code.Spurious register) k = absurd (miss quiet 16 tt k)
  no-came (code.PlainRead plain register) k = absurd (miss quiet 17 tt k)
  no-came (code.PlainWrite plain value) k = absurd (miss quiet 18 tt k)

module _ (table trace h : List ℕ) (i : ℕ) where
  pub came-none : operation_at table trace i ≡ rules.refused → None ≡ came_of_step table trace h i
  unfolding came_of_step
  came-none e = sym (ap (came_by h (entry_read trace i)) e)

  pub came-some : (op : rules.Op) (t s v : ℕ) → operation_at table trace i ≡ rules.decoded op →
      t ≡ (entry_read trace i).thread → s ≡ (entry_read trace i).slot → v ≡ (entry_read trace i).value →
      (r : Option Came) → r ≡ came_of h t s v op → r ≡ came_of_step table trace h i
  unfolding came_of_step
  came-some op t s v e p q w r is =
      is ∙ (ap (λ (x : ℕ). came_of h x s v op) p ∙ ap (λ (x : ℕ). came_of h (entry_read trace i).thread x v op) q ∙ ap (λ (x : ℕ). came_of h (entry_read trace i).thread (entry_read trace i).slot x op) w) ∙ sym (ap (came_by h (entry_read trace i)) e)
