-- The laws of a record that is a branch's. Assumes nothing.
--     length-encoded               16 bytes say a branch
--     stands-field                 a byte of its record
--     stands-moved, stands_same    another branch in its place; the same one
--     five-states, stands-states   a schedule's states
--     stands-states-put            others in their place
--     seven-values, stands-pos, -len, -values, -moved      a load's values and position
use Prim.Native.Nat.{ℕ, ◌≤◌, ◌<◌}
use mathlib.Core.List.{List}
use mathlib.Core.Bool.{true}
use mathlib.Core.Path.{◌≡◌, refl, ap, sym, ◌∙◌}
use native.Mathlib.Omega.{arith}
use borrow.Author.Tests.{eqb-true, leb-true}
use lib.ListN.{length, get_or, set, take, drop, length-append, length-replicate}
use Rattle.rules.specs.Path.{Branch, schedule, load, spurious, Schedule, Load, encoded, with_states}
use Rattle.rules.specs.Records.{with_record}
use Rattle.rules.proofs.RecordLaws.{byte_at, byte_put, record_same}
use Rattle.record.specs.Fields.{record_byte, with_record_byte, values_at, states_in, with_states_in, states_at, with_states_at}
use Rattle.record.specs.Stands.{BranchStands, shaped}
use Rattle.record.proofs.LoadLaws.{load-pos, load-len, load-values, load_moved}
use Rattle.record.proofs.StatesLaws.{schedule-states, schedule-put}

pub length-encoded : (b : Branch) → shaped b ≡ true → length (encoded b) ≡ 16
unfolding encoded
length-encoded (schedule s) h = simp length-append (omega (arith, eqb-true (length s.states) 5 h))
length-encoded (load l) h = simp (length-append, length-replicate) (omega (arith, leb-true (length l.values) 7 h))
length-encoded (spurious u) h = refl

module _ {bytes : List ℕ} {at : ℕ} {b : Branch} (h : BranchStands bytes at b) where
  pub stands-field : (j : ℕ) → j < 16 → record_byte bytes at j ≡ get_or (encoded b) j 0
  stands-field j l = byte_at bytes at h.fits j l ∙ ap (λ (x : List ℕ). get_or x j 0) h.same

  pub stands_same : bytes ≡ with_record bytes at (encoded b)
  stands_same = sym (record_same bytes at h.fits) ∙ ap (with_record bytes at) h.same

module _ {bytes : List ℕ} {at : ℕ} {s : Schedule} (h : BranchStands bytes at (schedule s)) where
  pub five-states : length s.states ≡ 5
  five-states = eqb-true (length s.states) 5 h.shape

  pub stands-states : states_at bytes at ≡ s.states
  unfolding states_at
  stands-states = ap states_in h.same ∙ schedule-states s five-states

  pub stands-states-put : (t : List ℕ) → with_states_at bytes at t ≡ with_record bytes at (encoded (schedule (with_states s t)))
  unfolding with_states_at
  stands-states-put t = ap (λ (x : List ℕ). with_record bytes at (with_states_in x t)) h.same ∙ ap (with_record bytes at) (schedule-put s five-states t)

module _ {bytes : List ℕ} {at : ℕ} {l : Load} (h : BranchStands bytes at (load l)) where
  pub seven-values : length l.values ≤ 7
  seven-values = leb-true (length l.values) 7 h.shape

  pub stands-pos : record_byte bytes at 9 ≡ l.pos
  stands-pos = stands-field h 9 (omega arith) ∙ load-pos l seven-values

  pub stands-len : record_byte bytes at 10 ≡ length l.values
  stands-len = stands-field h 10 (omega arith) ∙ load-len l seven-values

  pub stands-values : values_at bytes at (length l.values) ≡ l.values
  unfolding values_at
  stands-values = ap (λ (x : List ℕ). take (length l.values) (take 7 (drop 2 x))) h.same ∙ load-values l seven-values

  pub stands-moved : (p : ℕ) → with_record_byte bytes at 9 p ≡ with_record bytes at (encoded (load (record { exploring = l.exploring; values = l.values; pos = p })))
  stands-moved p =
      byte_put bytes at h.fits 9 p (omega arith)
      ∙ ap (λ (x : List ℕ). with_record bytes at (set x 9 p)) h.same
      ∙ ap (with_record bytes at) (load_moved l seven-values p)
