-- What is wrong with a table, put in words. Assumes nothing.
--     fine_at, told     whether a thread may have its rows, by what the code found of them
--     below_some, below-none      a number below another, and none
--     unnamed          what is put where the table is not accepted
use Prim.Native.Nat.{ℕ, ◌+◌, ◌<◌}
use native.Mathlib.Omega.{arith}
use lib.Dec.{ltb}
use borrow.Author.Tests.{lt-ltb, le-ltb}
use mathlib.Core.Bool.{Bool, true, false, true≢false}
use mathlib.Core.List.{List}
use mathlib.Core.Path.{◌≡◌, refl, sym, ◌∙◌}
use lib.ListN.{get_or}
use Rattle.rules.specs.Table.{count_fine, good}
use Rattle.page.specs.Pages.{Page}
use Rattle.table.specs.Answers.{judged_of}
use Rattle.std.specs.Prelude.{Some, None, Result, Ok, Err, is_ok}
use Rattle.table.specs.declared.BadTable.{BadTable}
use Rattle.table.specs.declared.BadTable.TheVariants as bad
use Rattle.refusal.specs.Headers.{one_below, put_header}
use Rattle.refusal.specs.Refusals.{put_unnamed}

abbrev pub fine_at : List ℕ → ℕ → ℕ → Bool
fine_at t threads i = count_fine threads i (get_or t (2 + i) 0)

pub told : (t : List ℕ) (threads i : ℕ) {count : ℕ} {r b : Bool} → count ≡ get_or t (2 + i) 0 → r ≡ count_fine threads i count → r ≡ b →
    fine_at t threads i ≡ b
told t threads i p q s = rw (← p) (sym q ∙ s)

module _ (n : ℕ) where
  pub below_some : (i k : ℕ) → k ≡ i → i < n → one_below n k ≡ Some i
  below_some i k p h = let e : ltb i n ≡ true = lt-ltb i n h in rw (p, e)

  pub below-none : (k : ℕ) → k ≡ n → one_below n k ≡ None
  below-none k p = let e : ltb n n ≡ false = le-ltb n n (omega arith) in rw (p, e)

pub unnamed : (l : Page) (t condition : List ℕ) (j : Result (Unit {0}) BadTable) {b : Bool} → b ≡ is_ok j → b ≡ false →
    put_header l t ≡ put_unnamed l t condition (judged_of j)
unnamed l t condition (Ok done) e f = absurd (true≢false (sym e ∙ f))
unnamed l t condition (Err bad.Header) e f = refl
unnamed l t condition (Err (bad.Row thread row)) e f = refl

pub good_named : (j : Result (Unit {0}) BadTable) {b : Bool} → b ≡ is_ok j → b ≡ true → judged_of j ≡ good
good_named (Ok done) e f = refl
good_named (Err why) e f = absurd (true≢false (sym f ∙ e))
