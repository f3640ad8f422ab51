-- Laws for the loop over a group's members. Assumes nothing.
--     joins-there, joins-open               a byte that joins
--     Left, Goes                            what is left of a group behind a member equals the whole; by places
--     begun, first-bad                      behind the first member
--     goes-on, further, goes-bad, stuck, closed      behind a member: one more; a bad one; a byte that fits nowhere; the end
use Prim.Native.Nat.{ℕ, zero, suc, ◌+◌, ◌-◌, ◌≤◌, ◌<◌}
use native.Mathlib.Omega.{arith}
use mathlib.Core.Bool.{Bool, true, false}
use mathlib.Core.List.{List}
use mathlib.Core.Path.{◌≡◌, sym, ◌∙◌}
use lib.ListN.{length, drop, length-drop}
use lib.Seq.{drop-drop}
use borrow.Author.Tests.{eq-eqb, ne_eqb}
use Rattle.rules.specs.Condition.{Read, bad, read, next_byte, closes, group_at, behind, may_join, joined_by}
use Rattle.condition.specs.Reads.{ReadsCondition, NextByte}
use Rattle.std.specs.Prelude.{Result, Ok, Err}
use Rattle.condition.specs.declared.Read as code
use Rattle.condition.specs.declared.BadByte.{BadByte}

-- a byte that joins is there, and no bracket
pub joins-there : (joint b : ℕ) → may_join joint b ≡ true → 0 < b
joins-there joint zero e = let z : ◌≡◌ {A = ℕ} 0 1 = cc in omega arith
joins-there joint (suc b) e = omega arith

joins-open : (joint b : ℕ) → may_join joint b ≡ true → b ≡ closes → ⊥
joins-open joint b e d = let f : may_join joint 8 ≡ true = rw d at e in let z : ◌≡◌ {A = ℕ} 0 1 = cc in omega arith

-- what is left behind a member, with turns enough for it
pub record Left (member : List ℕ → Read) (joint : ℕ) (v : Bool) (bs : List ℕ) (whole : Read) : Type 0 where
  pub turns : ℕ
  pub enough : length bs ≤ turns
  pub same : behind member turns joint v bs ≡ whole

-- with so many turns
module _ (member : List ℕ → Read) (joint : ℕ) (v : Bool) (whole : Read) (bs : List ℕ) where
  turn_on : (n : ℕ) {w : Bool} {rest : List ℕ} → behind member n joint v bs ≡ whole → length bs ≤ n → may_join joint (next_byte bs) ≡ true → member (drop 1 bs) ≡ read w rest → length rest < length bs →
      Left member (next_byte bs) (joined_by (next_byte bs) v w) rest whole
  unfolding behind
  turn_on zero h l m e s = absurd (omega arith)
  turn_on (suc n) h l m e s = record { turns = n; enough = omega arith; same = rw (ne_eqb _ _ (joins-open joint (next_byte bs) m), m, e, behind) at h }

  turn-bad : (n : ℕ) {rest : List ℕ} → behind member n joint v bs ≡ whole → length bs ≤ n → 0 < length bs → may_join joint (next_byte bs) ≡ true → member (drop 1 bs) ≡ bad rest → bad rest ≡ whole
  unfolding behind
  turn-bad zero h l s m e = absurd (omega arith)
  turn-bad (suc n) h l s m e = rw (ne_eqb _ _ (joins-open joint (next_byte bs) m), m, e, behind) at h

  turn-closed : (n : ℕ) → behind member n joint v bs ≡ whole → length bs ≤ n → 0 < length bs → next_byte bs ≡ closes → read v (drop 1 bs) ≡ whole
  unfolding behind
  turn-closed zero h l s e = absurd (omega arith)
  turn-closed (suc n) h l s e = rw (eq-eqb _ _ e, behind) at h

  turn-stuck : (n : ℕ) → behind member n joint v bs ≡ whole → may_join joint (next_byte bs) ≡ false → (next_byte bs ≡ closes → ⊥) → bad bs ≡ whole
  unfolding behind
  turn-stuck zero h m d = h
  turn-stuck (suc n) h m d = rw (ne_eqb _ _ d, m, behind) at h

-- of a group whose first member begins at `start`, what is left at this place
pub record Goes (bytes : List ℕ) (start : ℕ) (member : List ℕ → Read) (at joint : ℕ) (v : Bool) : Type 0 where
  pub from : start ≤ at
  pub within : at ≤ length bytes
  pub left : Left member joint v (drop at bytes) (group_at member (drop start bytes))

module _ (bytes : List ℕ) (start : ℕ) (member : List ℕ → Read) {r : Result code.Read BadByte} where
  pub begun : {w : code.Read} → ReadsCondition bytes start r (member (drop start bytes)) → r ≡ Ok w → Goes bytes start member w.end 0 w.holds
  begun {w} h e =
      let first : ReadsCondition bytes start (Ok w) (member (drop start bytes)) = rw e at h in
      record {
        from = first.on;
        within = first.within;
        left = record {
          turns = length (drop start bytes);
          enough = simp length-drop (omega (arith, first.on));
          same = rw (sym first.is, group_at);
        };
      }

  pub first-bad : {bad : BadByte} {q : Result code.Read BadByte} → ReadsCondition bytes start r (member (drop start bytes)) → r ≡ Err bad → q ≡ Err bad →
      ReadsCondition bytes start q (group_at member (drop start bytes))
  first-bad {bad} {q} h e f =
      let first : ReadsCondition bytes start (Err bad) (member (drop start bytes)) = rw e at h in
      rw f (record { is = rw (sym first.is, group_at); on = first.on; within = first.within })

module _ (bytes : List ℕ) (start : ℕ) (member : List ℕ → Read) (at joint : ℕ) (v : Bool) (goes : Goes bytes start member at joint v) where
  more : at < length bytes → 0 < length (drop at bytes)
  more l = simp length-drop (omega arith)

  module _ {b : ℕ} (byte : NextByte bytes at b) {m : Bool} (joins : m ≡ may_join joint b) where
    joined : m ≡ true → may_join joint (next_byte (drop at bytes)) ≡ true
    joined e = cc byte.is

    pub there : m ≡ true → at < length bytes
    there e = byte.there (joins-there joint b (sym joins ∙ e))

    module _ (e : m ≡ true) {r : Result code.Read BadByte} (h : ReadsCondition bytes (at + 1) r (member (drop (at + 1) bytes))) where
      pub goes-on : {w : code.Read} {j : Bool} {b' : ℕ} → NextByte bytes at b' → r ≡ Ok w → j ≡ joined_by b' v w.holds → Goes bytes start member w.end b' j
      goes-on {w} {j} {b'} byte' d q =
          let one : ReadsCondition bytes (at + 1) (Ok w) (member (drop (at + 1) bytes)) = rw d at h in
          let l = there e in
          record {
            from = omega (arith, one.on, goes.from);
            within = one.within;
            left = rw (q, byte'.is) (turn_on member joint v _ (drop at bytes) goes.left.turns goes.left.same goes.left.enough (joined e) (rw drop-drop (sym one.is)) (simp length-drop (omega (arith, one.on))));
          }

      pub further : {w : code.Read} → r ≡ Ok w → length bytes - w.end < length bytes - at
      further {w} d =
          let one : ReadsCondition bytes (at + 1) (Ok w) (member (drop (at + 1) bytes)) = rw d at h in
          let l = there e in
          omega (arith, one.on)

      pub goes-bad : {bad : BadByte} {q : Result code.Read BadByte} → r ≡ Err bad → q ≡ Err bad → ReadsCondition bytes start q (group_at member (drop start bytes))
      goes-bad {bad} {q} d f =
          let one : ReadsCondition bytes (at + 1) (Err bad) (member (drop (at + 1) bytes)) = rw d at h in
          rw f (record {
            is = turn-bad member joint v _ (drop at bytes) goes.left.turns goes.left.same goes.left.enough (more (there e)) (joined e) (rw drop-drop (sym one.is));
            on = omega (arith, one.on, goes.from);
            within = one.within;
          })

    module _ (e : m ≡ false) {b' : ℕ} (byte' : NextByte bytes at b') where
      pub stuck : (b' ≡ closes → ⊥) → ReadsCondition bytes start (Err (record { at = at })) (group_at member (drop start bytes))
      stuck d =
          record {
            is = turn-stuck member joint v _ (drop at bytes) goes.left.turns goes.left.same (cc byte.is) (λ q. d (byte'.is ∙ q));
            on = goes.from;
            within = goes.within;
          }

      pub closed : b' ≡ closes → ReadsCondition bytes start (Ok (record { holds = v; end = at + 1 })) (group_at member (drop start bytes))
      closed d =
          let l : at < length bytes = byte'.there (omega arith) in
          record {
            is = rw drop-drop at (turn-closed member joint v _ (drop at bytes) goes.left.turns goes.left.same goes.left.enough (more l) (sym byte'.is ∙ d));
            on = omega (arith, goes.from);
            within = omega arith;
          }
