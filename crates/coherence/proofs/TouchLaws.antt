-- The laws of the marks on a cell's slots, for the functions that make them. Assumes nothing.
--     touch-again, touch-first        the thread's mark on the store that it reads
use Prim.Native.Nat.{ℕ}
use mathlib.Core.List.{List, []}
use mathlib.Core.Path.{◌≡◌}
use mathlib.Core.Logic.{◌≢◌, ⊎_elim}
use lib.Dec.{ltb}
use lib.ListN.{length, get_or, set}
use lib.Seq.{set-get_or}
use borrow.Author.Tests.{ltb-true, ltb-false}
use Rattle.rules.specs.Seen.{unseen, touched, touched_at}
use Rattle.rules.specs.State.{Clocks, Marks, marks_of}
use Rattle.rules.specs.Cell.{version, touch_done}
use Rattle.synchronize.proofs.SeenLaws as Seen

-- a mark that is there stays; a thread that is none has no mark to be made
mark-there : (marks : List ℕ) (t v : ℕ) → get_or marks t 0 ≢ unseen → marks ≡ touched marks t v
mark-there marks t v n =
    ⊎_elim
    (λ e. Seen.touch-again marks t (ltb-true t (length marks) e) v n)
    (λ e. Seen.touch-nobody marks t (ltb-false t (length marks) e) v)
    (Seen.flag (ltb t (length marks)))

module _ (clocks : Clocks) (marks : Marks) (t c slot : ℕ) where
  pub touch-first : (row : List ℕ) → row ≡ touched (get_or (marks_of marks c) slot []) t (version clocks t) →
      set marks c (set (marks_of marks c) slot row) ≡ touch_done clocks marks t c slot
  unfolding touch_done touched_at
  touch-first row e = rw e

  pub touch-again : get_or (get_or (marks_of marks c) slot []) t 0 ≢ unseen →
      marks ≡ touch_done clocks marks t c slot
  unfolding touch_done touched_at
  touch-again n = rw (← mark-there (get_or (marks_of marks c) slot []) t (version clocks t) n, set-get_or, set-get_or)
