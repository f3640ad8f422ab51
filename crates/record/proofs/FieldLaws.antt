-- The laws of a record's bytes among those of the path. Assumes nothing.
--     begun-by         two bytes put one after the other begin a record
--     part-is, part-put          bytes of a record from one on
--     clear-by, threads-by, offers-by      all of them zeros; the five states; a load's values
use Prim.Native.Nat.{ℕ, ◌+◌, ◌-◌, ◌*◌, ◌≤◌, ◌<◌}
use mathlib.Core.List.{List, [], ◌++◌, append_assoc}
use mathlib.Core.Bool.{Bool}
use mathlib.Core.Path.{◌≡◌, refl, ap, sym, ◌∙◌}
use native.Mathlib.Omega.{arith}
use borrow.Rule.Slice.PartMut.{put_mid}
use lib.ListN.{length, set, take, drop, replicate, length-set, drop_of_length-le}
use lib.Seq.{paste, length-paste, drop-drop, take-take, take_all, length-take-le}
use Rattle.std.proofs.lemmas.Slice.{between_is, put_mid-paste}
use Rattle.rules.specs.Path.{flag}
use Rattle.rules.specs.Records.{record_at, with_record}
use Rattle.rules.proofs.RecordLaws.{byte_put, record-now, record-again, length-record_at, length-with_record, bytes-put}
use Rattle.record.specs.Fields.{with_record_byte, record_begun, cleared, with_offers, with_states_at, with_states_in}

-- a second byte put into the same record
pub put-again : (bytes : List ℕ) (at : ℕ) → 16 * at + 16 ≤ length bytes → (r : List ℕ) → length r ≡ 16 → (j v : ℕ) → j < 16 → with_record_byte (with_record bytes at r) at j v ≡ with_record bytes at (set r j v)
put-again bytes at fits r l j v b =
    byte_put (with_record bytes at r) at (omega (arith, length-with_record bytes at fits r l)) j v b
    ∙ ap (λ (x : List ℕ). with_record (with_record bytes at r) at (set x j v)) (record-now bytes at fits r l)
    ∙ record-again bytes at fits r (set r j v) l

module _ (bytes : List ℕ) (at : ℕ) (fits : 16 * at + 16 ≤ length bytes) where
  pub begun-by : (p q : List ℕ) (kind f : ℕ) (exploring : Bool) → p ≡ with_record_byte bytes at 0 kind → q ≡ with_record_byte p at 1 f → f ≡ flag exploring → q ≡ record_begun bytes at kind exploring
  unfolding record_begun
  begun-by p q kind f exploring a b c =
      let e : p ≡ with_record bytes at (set (record_at bytes at) 0 kind) = a ∙ byte_put bytes at fits 0 kind (omega arith) in
      let l : length (set (record_at bytes at) 0 kind) ≡ 16 = length-set (record_at bytes at) 0 kind ∙ length-record_at bytes at fits in
      b
      ∙ ap (λ (x : List ℕ). with_record_byte x at 1 f) e
      ∙ put-again bytes at fits (set (record_at bytes at) 0 kind) l 1 f (omega arith)
      ∙ ap (λ (x : ℕ). with_record bytes at (set (set (record_at bytes at) 0 kind) 1 x)) c

  -- n bytes of it from byte k on

  pub part-is : (k n m : ℕ) → k + n ≤ 16 → m ≡ n → take m (drop (16 * at + k) bytes) ≡ take n (drop k (record_at bytes at))
  unfolding record_at
  part-is k n m b e =
      let own : List ℕ = drop (16 * at) bytes in
      ap (λ (x : ℕ). take x (drop (16 * at + k) bytes)) e
      ∙ ap (take n) (sym (drop-drop k (16 * at) bytes))
      ∙ sym (take-take n (16 - k) (drop k own) (omega arith))
      ∙ ap (take n) (between_is own k 16)

  pub part-put : (k m : ℕ) (s q : List ℕ) → k + length s ≤ 16 → m ≡ length s → q ≡ s → put_mid (16 * at + k) m bytes q ≡ with_record bytes at (paste (record_at bytes at) k s (length s))
  part-put k m s q b e f =
      put_mid-paste (16 * at + k) m bytes q s (length s) f (sym e) refl ∙ bytes-put bytes at fits k (length s) s b

  pub clear-by : (q : List ℕ) → q ≡ with_record bytes at (paste (record_at bytes at) 0 (replicate 16 0) 16) → q ≡ cleared bytes at
  unfolding cleared
  clear-by q e =
      let d : drop 16 (record_at bytes at) ≡ [] = drop_of_length-le (record_at bytes at) {i = 16} (omega (arith, length-record_at bytes at fits)) in
      e ∙ ap (λ (x : List ℕ). with_record bytes at (replicate 16 0 ++ x)) d

  pub threads-by : (seed q : List ℕ) → length seed ≡ 5 → q ≡ with_record bytes at (paste (record_at bytes at) 2 seed (length seed)) → q ≡ with_states_at bytes at seed
  unfolding with_states_at with_states_in
  threads-by seed q l e =
      let r : List ℕ = record_at bytes at in
      let w : paste r 2 seed (length seed) ≡ take 2 r ++ (seed ++ drop 7 r) = rw (l, take_all 5 seed (omega arith)) (append_assoc (take 2 r) seed (drop 7 r)) in
      e ∙ ap (with_record bytes at) w

  -- a load's values: the seed's first n
  module _ (seed : List ℕ) (n : ℕ) (l : length seed ≡ 7) (few : n ≤ 7) where
    values-by : paste (record_at bytes at) 2 (take n seed) (length (take n seed)) ≡ paste (record_at bytes at) 2 seed n
    values-by =
        let w : length (take n seed) ≡ n = length-take-le n seed (omega arith) in
        rw (w, take_all n (take n seed) (omega arith))

    pub offers-by : (p q : List ℕ) → p ≡ with_record bytes at (paste (record_at bytes at) 2 (take n seed) (length (take n seed))) → q ≡ with_record_byte p at 10 n → q ≡ with_offers bytes at seed n
    unfolding with_offers
    offers-by p q e f =
        let own : List ℕ = paste (record_at bytes at) 2 seed n in
        let r : length own ≡ 16 = length-paste (record_at bytes at) 2 seed n (omega (arith, length-record_at bytes at fits)) (omega arith) ∙ length-record_at bytes at fits in
        f
        ∙ ap (λ (x : List ℕ). with_record_byte x at 10 n) (e ∙ ap (with_record bytes at) values-by)
        ∙ put-again bytes at fits own r 10 n (omega arith)
