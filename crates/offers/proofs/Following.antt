-- What follows a move or an answer, where the tick goes on. Assumes nothing.
--     Replied, replied           what a branch can answer, by the question
--     Follow, follow             the state and the entries with which it goes on
--     tick-moves .. tick-ends    a tick that asks nothing
use Prim.Native.Nat.{ℕ, zero, suc, ◌+◌, ◌≤◌, ◌<◌}
use mathlib.Core.List.{List, [], ◌∷◌, ◌++◌}
use mathlib.Core.Bool.{Bool, true, false, cond, ◌&&◌, true≢false}
use mathlib.Core.Path.{◌≡◌, refl, ap, sym}
use native.Mathlib.Omega.{arith}
use lib.Dec.{ltb}
use lib.ListN.{length, get_or, length-append}
use borrow.Author.Tests.{ltb-true, leb-true}
use Rattle.rules.specs.Vector.{Whom}
use Rattle.rules.specs.Path.{Branch, schedule, load, spurious, Load, active_in}
use Rattle.rules.specs.Event as Event
use Rattle.rules.specs.Event.{Entry, Matched, Site, Question, which_thread, which_slot, which_bit, Pick, run_thread, read_slot, take_bit, Move, moves, asks, stops, ends}
use Rattle.rules.specs.State.{State}
use Rattle.rules.specs.Machine as Machine
use Rattle.rules.specs.Machine.{Program, machine}
use Rattle.rules.specs.Explorer.{Limits, Walk, Tick, goes, over, faulted, reply, says, unexpected, all_below, fits, followed, noted, tick}
use Rattle.rules.proofs.MeasureRows.{both_left, both_right}

-- What a branch can answer

below_at : (xs : List ℕ) (k : ℕ) → all_below 7 xs ≡ true → k < length xs → get_or xs k 0 < 7
unfolding all_below
below_at [] k e h = absurd (omega arith)
below_at (x ∷ xs) zero e h = ltb-true x 7 (both_left (ltb x 7) (all_below 7 xs) e)
below_at (x ∷ xs) (suc k) e h = below_at xs k (both_right (ltb x 7) (all_below 7 xs) e) (omega arith)

-- by the question: a thread, one of seven slots, a bit
abbrev pub Replied : Question → Pick → Type 0
Replied (which_thread points initial standings) a = (whom : Whom) × (at : ℕ) × (a ≡ run_thread whom at)
Replied (which_slot m) a = (slot : ℕ) × (values : List ℕ) × (slot < 7) × (a ≡ read_slot slot values)
Replied which_bit a = (bit : Bool) × (a ≡ take_bit bit)

never : {A : Type 0} (a : Pick) → unexpected ≡ says a → A
never a e = let z : ◌≡◌ {A = ℕ} 0 1 = cc in absurd (omega arith)

slot-replied : (l : Load) (m : Matched) (a : Pick) (x y : Bool) → ltb l.pos (length l.values) ≡ x →
    all_below 7 l.values ≡ y →
    cond (x && y) (says (read_slot (get_or l.values l.pos 0) l.values)) unexpected ≡ says a → Replied (which_slot m) a
slot-replied l m a true true e f g =
    (get_or l.values l.pos 0, l.values, below_at l.values l.pos f (ltb-true _ _ e), cc)
slot-replied l m a true false e f g = never a g
slot-replied l m a false y e f g = never a g

pub replied : (pos : ℕ) (b : Branch) (q : Question) (a : Pick) → reply pos b q ≡ says a → Replied q a
unfolding reply
replied pos (schedule s) (which_thread points initial standings) a e = (active_in s.states, pos, cc)
replied pos (schedule s) (which_slot m) a e = never a e
replied pos (schedule s) which_bit a e = never a e
replied pos (load l) (which_thread points initial standings) a e = never a e
replied pos (load l) (which_slot m) a e = slot-replied l m a _ _ refl refl e
replied pos (load l) which_bit a e = never a e
replied pos (spurious u) (which_thread points initial standings) a e = never a e
replied pos (spurious u) (which_slot m) a e = never a e
replied pos (spurious u) which_bit a e = (u.bit, cc)

-- What follows a move that goes on

abbrev is_going : Tick State → Bool
is_going (goes v) = true
is_going (over v) = false
is_going (faulted f s v) = false

module _ (p : Program) (limits : Limits) where
  pub record Follow (on v : Walk State) (mv : Move State) : Type 0 where
    pub state : State
    pub entries : List Entry
    pub is : mv ≡ moves state entries
    pub state-is : v.state ≡ state
    pub trace-is : v.trace ≡ on.trace ++ entries
    pub fit : length v.trace ≤ limits.operations

  pub follow : (site : Site) (on v : Walk State) (mv : Move State) → followed (machine p) limits site on mv ≡ goes v →
      Follow on v mv
  follow site on v (moves s es) e = go (fits (machine p) limits on es) refl e
    where
      go : (b : Bool) → fits (machine p) limits on es ≡ b →
          cond b (goes (noted on s es)) (faulted Event.impossible site
          (record { state = s; ledger = on.ledger; pos = on.pos; trace = on.trace }))
          ≡ goes v → Follow on v (moves s es)
      go true f g =
          let same : v ≡ noted on s es = cc in
          let long = leb-true (length on.trace + length es) limits.operations f in
          record {
            state = s;
            entries = es;
            is = refl;
            state-is = ap (λ (w : Walk State). w.state) same;
            trace-is = ap (λ (w : Walk State). w.trace) same;
            fit = omega (arith, long, length-append on.trace es, ap (λ (w : Walk State). length w.trace) same);
          }
      go false f g = absurd (true≢false (sym (ap is_going g)))
  follow site on v (asks s es x q) e = absurd (true≢false (sym (ap is_going e)))
  follow site on v (stops s f) e = absurd (true≢false (sym (ap is_going e)))
  follow site on v (ends s) e = absurd (true≢false (sym (ap is_going e)))

  -- a tick that asks nothing is what follows its move
  pub tick-moves : (w : Walk State) (s : State) (es : List Entry) → (Machine.next p w.state).move ≡ moves s es →
      tick (machine p) limits w ≡ followed (machine p) limits (Machine.next p w.state).site w (moves s es)
  unfolding tick
  tick-moves w s es e = rw e

  pub tick-stops : (w v : Walk State) (s : State) (f : Event.Fault) → (Machine.next p w.state).move ≡ stops s f →
      tick (machine p) limits w ≡ goes v → ⊥
  unfolding tick
  tick-stops w v s f e g = true≢false (sym (ap is_going (rw e at g)))

  pub tick-ends : (w v : Walk State) (s : State) → (Machine.next p w.state).move ≡ ends s → tick (machine p) limits w ≡ goes v →
      ⊥
  unfolding tick
  tick-ends w v s e g = true≢false (sym (ap is_going (rw e at g)))
