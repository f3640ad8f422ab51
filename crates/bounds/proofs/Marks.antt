-- Marks of first sight: each is unseen or a version that its thread has reached, and a touch keeps that. Assumes nothing.
--     Row                  a store's five marks
--     none-later, later    versions that have come further
--     row_of, row-set      a store's marks, read and written
--     touched-row, unseen-row        a touch, and the marks of a store that no thread has seen
use Prim.Native.Nat.{ℕ, ◌≤◌, ◌<◌}
use mathlib.Core.List.{List, []}
use mathlib.Core.Path.{◌≡◌, ◌∙◌}
use mathlib.Core.Logic.{inl, inr}
use native.Mathlib.Omega.{arith}
use native.Mathlib.Decide.{ℕ_discrete}
use lib.Dec.{eqb}
use lib.ListN.{length, get_or, set, length-set, length-replicate, get_or-replicate}
use lib.Seq.{get_or-set_same, get_or-set_other}
use Rattle.rules.specs.Seen.{unseen, unseens, mark_of, touched}
use Rattle.rules.specs.State as State
use Rattle.rules.specs.State.{marks_of, with_marks, threads, cells, history}
use Rattle.rules.proofs.StateLaws.{marks-same, marks-other, marks-kept}
use Rattle.rules.proofs.MeasureRows.{pick}
use Rattle.bounds.specs.Bounds.{Or, Sights}

pub record Row (most : ℕ → ℕ) (xs : List ℕ) : Type 0 where
  pub five : length xs ≡ threads
  pub each : (u : ℕ) → u < threads → Or unseen (most u) (mark_of xs u)

pub none-later : {absent m k x : ℕ} → m ≤ k → Or absent m x → Or absent k x
none-later h (inl e) = inl e
none-later h (inr l) = inr (omega arith)

pub later : {most more : ℕ → ℕ} (marks : State.Marks) → ((u : ℕ) → u < threads → most u ≤ more u) → Sights most marks →
    Sights more marks
later marks f s = record {
  held = s.held;
  seven = s.seven;
  five = s.five;
  marked = λ c slot u h k b. none-later (f u b) (s.marked c slot u h k b);
}

module _ {most : ℕ → ℕ} where
  pub row_of : (marks : State.Marks) (c slot : ℕ) → c < cells → slot < history → Sights most marks →
      Row most (get_or (marks_of marks c) slot [])
  row_of marks c slot h k s = record { five = s.five c slot h k; each = λ u b. s.marked c slot u h k b }

  rows-set : (marks : State.Marks) (c slot : ℕ) (xs : List ℕ) → c < cells → slot < history → Row most xs → Sights most marks →
      (d i : ℕ) → d < cells → i < history → Row most (get_or (marks_of (with_marks marks c (set (marks_of marks c) slot xs)) d) i [])
  rows-set marks c slot xs h k r s d i hd hi =
      elim (ℕ_discrete d c) [
        | yes e ↦ rw (e, marks-same marks c (set (marks_of marks c) slot xs) (omega (arith, s.held))) (of-slot (ℕ_discrete i slot))
        | no f ↦ rw (marks-other marks c d (set (marks_of marks c) slot xs) f) (row_of marks d i hd hi s)
      ]
    where
      of-slot : Dec (i ≡ slot) → Row most (get_or (set (marks_of marks c) slot xs) i [])
      of-slot (yes e) = rw (e, get_or-set_same (marks_of marks c) slot xs [] (omega (arith, s.seven c h))) r
      of-slot (no f) = rw (get_or-set_other (marks_of marks c) slot i xs [] f) (row_of marks c i h hi s)

  pub row-set : (marks : State.Marks) (c slot : ℕ) (xs : List ℕ) → c < cells → slot < history → Row most xs → Sights most marks →
      Sights most (with_marks marks c (set (marks_of marks c) slot xs))
  row-set marks c slot xs h k r s = record {
    held = marks-kept marks c (set (marks_of marks c) slot xs) ∙ s.held;
    seven = λ d hd. elim (ℕ_discrete d c) [
      | yes e ↦ rw (e, marks-same marks c (set (marks_of marks c) slot xs) (omega (arith, s.held)))
          (length-set (marks_of marks c) slot xs ∙ s.seven c h)
      | no f ↦ rw (marks-other marks c d (set (marks_of marks c) slot xs) f) (s.seven d hd)
    ];
    five = λ d i hd hi. (rows-set marks c slot xs h k r s d i hd hi).five;
    marked = λ d i u hd hi b. (rows-set marks c slot xs h k r s d i hd hi).each u b;
  }

  -- "only where unseen"
  pub touched-row : (xs : List ℕ) (t version : ℕ) → t < threads → version ≤ most t → Row most xs → Row most (touched xs t version)
  unfolding touched
  touched-row xs t version b l r =
      pick (Row most) (eqb (mark_of xs t) unseen)
      (λ e. record {
        five = length-set xs t version ∙ r.five;
        each = λ u h. elim (ℕ_discrete u t) [
          | yes q ↦ rw (q, get_or-set_same xs t version unseen (omega (arith, r.five))) (inr l)
          | no f ↦ rw (get_or-set_other xs t u version unseen f) (r.each u h)
        ];
      })
      (λ e. r)

  pub unseen-row : Row most (unseens threads)
  unseen-row = record {
    five = length-replicate {A = ℕ} threads unseen;
    each = λ u h. inl (get_or-replicate {A = ℕ} threads u unseen unseen h);
  }
