-- The laws of what is open at a record, and of a record at its next choice, for the branch that it is. Assumes nothing.
--     open-..      what is open at it, by its kind
--     step-..      its next choice, by its kind
--     tried-..     the branch that was asked for it
use Prim.Native.Nat.{ℕ, ◌+◌, ◌-◌}
use mathlib.Core.List.{List}
use mathlib.Core.Bool.{Bool, true, false, cond}
use mathlib.Core.Path.{◌≡◌, refl, ap, sym, ◌∙◌}
use mathlib.Core.Logic.{◌≢◌, ⊎_elim}
use native.Mathlib.Omega.{arith}
use borrow.Author.Tests.{lt-ltb, le-ltb, ltb-true, ltb-false, eq-eqb, eqb-true}
use lib.Dec.{ltb, eqb}
use lib.ListN.{length, get_or, set}
use Rattle.rules.specs.Vector.{Whom, nobody, thread}
use Rattle.rules.specs.Path.{Branch, Schedule, Load, Spurious, schedule, load, spurious, encoded, is_exploring, flag, with_states, open_at, pendings, pending, first_in, to_active, left, turned, turned_branch}
use Rattle.rules.specs.Records.{with_record}
use Rattle.rules.proofs.RecordLaws.{byte_put}
use Rattle.record.specs.Answers.{CountIs, Left}
use Rattle.record.specs.Fields.{record_byte, with_record_byte, states_at, with_states_at}
use Rattle.record.specs.Stands.{BranchStands, shaped}
use Rattle.record.specs.Steps.{Visits, Moves, Sets, OpenAt, StepsAt, spent, branch_stepped}
use Rattle.record.proofs.StandsLaws.{stands-field, stands_same, stands-states, stands-states-put, stands-pos, stands-len, stands-moved, seven-values}
use Rattle.record.proofs.ScheduleLaws.{flag_is}
use Rattle.record.proofs.StepLaws.{either, length-turned, length-left, SomeIn, some_in, pendings-left}

-- The first two bytes

explores : (b : Branch) → eqb (get_or (encoded b) 1 0) 1 ≡ is_exploring b
unfolding encoded
explores (schedule s) = flag_is s.exploring
explores (load l) = flag_is l.exploring
explores (spurious u) = flag_is u.exploring

not-open : (b : Branch) → is_exploring b ≡ false → open_at b ≡ 0
unfolding open_at
not-open (schedule s) e = rw e
not-open (load l) e = rw e
not-open (spurious u) e = rw e

three-kinds : (b : Branch) → get_or (encoded b) 0 0 ≢ 1 → get_or (encoded b) 0 0 ≢ 2 → get_or (encoded b) 0 0 ≢ 3 → ⊥
unfolding encoded
three-kinds (schedule s) f g h = f refl
three-kinds (load l) f g h = g refl
three-kinds (spurious u) f g h = h refl

-- What is open

open-schedule-of : {bytes : List ℕ} {at : ℕ} (b : Branch) → BranchStands bytes at b → get_or (encoded b) 0 0 ≡ 1 → is_exploring b ≡ true → pendings (states_at bytes at) ≡ open_at b
unfolding encoded open_at
open-schedule-of (schedule s) q k x = ap pendings (stands-states q) ∙ rw x
open-schedule-of (load m) q k x = absurd (omega arith)
open-schedule-of (spurious u) q k x = absurd (omega arith)

open-load-of : {bytes : List ℕ} {at : ℕ} (b : Branch) → BranchStands bytes at b → get_or (encoded b) 0 0 ≡ 2 → is_exploring b ≡ true → (r : ℕ) → Left (record_byte bytes at 9) (record_byte bytes at 10) r → r ≡ open_at b
unfolding encoded open_at
open-load-of (schedule s) q k x r o = absurd (omega arith)
open-load-of (load m) q k x r o =
    let few : ltb 7 (length m.values) ≡ false = le-ltb 7 (length m.values) (seven-values q) in
    o.is ∙ rw (stands-len q, stands-pos q, few, x)
open-load-of (spurious u) q k x r o = absurd (omega arith)

bit-open : (b : Bool) → ◌≡◌ {A = ℕ} (cond (eqb (flag b) 0) 1 0) (cond b 0 1)
bit-open true = refl
bit-open false = refl

spurious-bit : {bytes : List ℕ} {at : ℕ} {u : Spurious} → BranchStands bytes at (spurious u) → record_byte bytes at 2 ≡ flag u.bit
unfolding encoded
spurious-bit q = stands-field q 2 (omega arith)

open-spurious-of : {bytes : List ℕ} {at : ℕ} (b : Branch) → BranchStands bytes at b → get_or (encoded b) 0 0 ≡ 3 → is_exploring b ≡ true → cond (eqb (record_byte bytes at 2) 0) 1 0 ≡ open_at b
unfolding encoded open_at
open-spurious-of (schedule s) q k x = absurd (omega arith)
open-spurious-of (load m) q k x = absurd (omega arith)
open-spurious-of (spurious u) q k x = ap (λ (y : ℕ). cond (eqb y 0) 1 0) (spurious-bit q) ∙ bit-open u.bit ∙ rw x

-- as they are read: x whether it is explored
module _ (bytes : List ℕ) (at : ℕ) (x : Bool) (ex : x ≡ eqb (record_byte bytes at 1) 1) where
  explored : {b : Branch} → BranchStands bytes at b → x ≡ is_exploring b
  explored {b} q = ex ∙ ap (λ (y : ℕ). eqb y 1) (stands-field q 1 (omega arith)) ∙ explores b

  pub open-not : x ≡ false → OpenAt bytes at 0
  open-not e = record { few = omega arith; is = λ b q. sym (not-open b (sym (explored q) ∙ e)) }

  module _ (t : x ≡ true) (kind : ℕ) (ek : kind ≡ record_byte bytes at 0) where
    of-kind : {b : Branch} → BranchStands bytes at b → (k : ℕ) → kind ≡ k → get_or (encoded b) 0 0 ≡ k
    of-kind q k e = sym (ek ∙ stands-field q 0 (omega arith)) ∙ e

    yes : {b : Branch} → BranchStands bytes at b → is_exploring b ≡ true
    yes q = sym (explored q) ∙ t

    pub open-schedule : kind ≡ 1 → (r : ℕ) → CountIs 5 (pendings (states_at bytes at)) r → OpenAt bytes at r
    open-schedule k r o = record { few = omega (arith, o.few); is = λ b q. o.is ∙ open-schedule-of b q (of-kind q 1 k) (yes q) }

    pub open-load : kind ≡ 2 → (r : ℕ) → Left (record_byte bytes at 9) (record_byte bytes at 10) r → OpenAt bytes at r
    open-load k r o = record { few = o.few; is = λ b q. open-load-of b q (of-kind q 2 k) (yes q) r o }

    pub open-spurious : kind ≡ 3 → (r : ℕ) → CountIs 1 (cond (eqb (record_byte bytes at 2) 0) 1 0) r → OpenAt bytes at r
    open-spurious k r o = record { few = omega (arith, o.few); is = λ b q. o.is ∙ open-spurious-of b q (of-kind q 3 k) (yes q) }

    none_other : {b : Branch} → BranchStands bytes at b → kind ≢ 1 → kind ≢ 2 → kind ≢ 3 → ⊥
    none_other {b} q f g h =
        let e : kind ≡ get_or (encoded b) 0 0 = ek ∙ stands-field q 0 (omega arith) in
        three-kinds b (λ y. f (e ∙ y)) (λ y. g (e ∙ y)) (λ y. h (e ∙ y))

    pub open-other : kind ≢ 1 → kind ≢ 2 → kind ≢ 3 → OpenAt bytes at 0
    open-other f g h = record { few = omega arith; is = λ b q. absurd (none_other q f g h) }

-- The next choice

module _ (b : Branch) where
  pub tried_open : ltb 0 (open_at b) ≡ true → branch_stepped b ≡ turned_branch b
  unfolding branch_stepped
  tried_open e = rw e

  tried-spent : ltb 0 (open_at b) ≡ false → branch_stepped b ≡ spent b
  unfolding branch_stepped
  tried-spent e = rw e

not-spent : (b : Branch) → is_exploring b ≡ false → branch_stepped b ≡ b
unfolding spent
not-spent b e = tried-spent b (ap (ltb 0) (not-open b e)) ∙ same b e
  where
    same : (c : Branch) → is_exploring c ≡ false → spent c ≡ c
    same (schedule s) f = rw f
    same (load l) f = refl
    same (spurious u) f = refl

-- where none is Pending, the turn only leaves the Active
left-only : (s : List ℕ) → pendings s ≡ 0 → turned s ≡ left s
unfolding turned
left-only s e = none (first_in pending (left s)) (some_in (left s))
  where
    none : (w : Whom) → SomeIn (left s) w → to_active w (left s) ≡ left s
    none nobody h = refl
    none (thread t) h = absurd (omega (arith, h.0, pendings-left s))

-- its record, where it stays as it was
unchanged : {bytes : List ℕ} {at : ℕ} {b : Branch} → BranchStands bytes at b → branch_stepped b ≡ b → bytes ≡ with_record bytes at (encoded (branch_stepped b))
unchanged {bytes} {at} q t = stands_same q ∙ ap (λ (y : Branch). with_record bytes at (encoded y)) (sym t)

-- a schedule
tried-schedule : (s : Schedule) → s.exploring ≡ true → branch_stepped (schedule s) ≡ schedule (with_states s (turned s.states))
unfolding open_at turned_branch spent
tried-schedule s x =
    ⊎_elim
    (λ t. tried_open (schedule s) t)
    (λ t.
    let z : pendings s.states ≡ 0 = omega (arith, ltb-false 0 (pendings s.states) (rw x at t)) in
    tried-spent (schedule s) t
    ∙ ap (λ (y : Bool). schedule (with_states s (cond y (left s.states) s.states))) x
    ∙ ap (λ (y : List ℕ). schedule (with_states s y)) (sym (left-only s.states z)))
    (either (ltb 0 (open_at (schedule s))))

step-schedule-of : {bytes : List ℕ} {at : ℕ} (b : Branch) → BranchStands bytes at b → get_or (encoded b) 0 0 ≡ 1 → is_exploring b ≡ true → (exit : List ℕ) → exit ≡ with_states_at bytes at (turned (states_at bytes at)) → exit ≡ with_record bytes at (encoded (branch_stepped b))
unfolding encoded
step-schedule-of {bytes} {at} (schedule s) q k x exit f =
    f
    ∙ ap (λ (y : List ℕ). with_states_at bytes at (turned y)) (stands-states q)
    ∙ stands-states-put q (turned s.states)
    ∙ ap (λ (y : Branch). with_record bytes at (encoded y)) (sym (tried-schedule s x))
step-schedule-of (load m) q k x exit f = absurd (omega arith)
step-schedule-of (spurious u) q k x exit f = absurd (omega arith)

-- a load: whether a value follows its position
one_left : (p n : ℕ) → ltb (p + 1) n ≡ ltb 0 (n - 1 - p)
one_left p n =
    ⊎_elim
    (λ t. t ∙ sym (lt-ltb 0 (n - 1 - p) (omega (arith, ltb-true (p + 1) n t))))
    (λ t. t ∙ sym (le-ltb 0 (n - 1 - p) (omega (arith, ltb-false (p + 1) n t))))
    (either (ltb (p + 1) n))

load_said : {bytes : List ℕ} {at : ℕ} (m : Load) → m.exploring ≡ true → BranchStands bytes at (load m) → ltb (record_byte bytes at 9 + 1) (record_byte bytes at 10) ≡ ltb 0 (open_at (load m))
unfolding open_at
load_said m x q = rw (stands-pos q, stands-len q) (one_left m.pos (length m.values) ∙ rw x)

load-puts : {bytes : List ℕ} {at : ℕ} (m : Load) → BranchStands bytes at (load m) → (r : Bool) → r ≡ ltb 0 (open_at (load m)) → (exit : List ℕ) → exit ≡ cond r (with_record_byte bytes at 9 (record_byte bytes at 9 + 1)) bytes → exit ≡ with_record bytes at (encoded (branch_stepped (load m)))
unfolding turned_branch spent
load-puts {bytes} {at} m q true o exit f =
    f
    ∙ ap (λ (y : ℕ). with_record_byte bytes at 9 (y + 1)) (stands-pos q)
    ∙ stands-moved q (m.pos + 1)
    ∙ ap (λ (y : Branch). with_record bytes at (encoded y)) (sym (tried_open (load m) (sym o)))
load-puts m q false o exit f = f ∙ unchanged q (tried-spent (load m) (sym o))

step-load-of : {bytes : List ℕ} {at : ℕ} (b : Branch) → BranchStands bytes at b → get_or (encoded b) 0 0 ≡ 2 → is_exploring b ≡ true → (exit : List ℕ) (r : Bool) → Moves bytes exit at r → (r ≡ ltb 0 (open_at b)) × (exit ≡ with_record bytes at (encoded (branch_stepped b)))
unfolding encoded
step-load-of (schedule s) q k x exit r m = absurd (omega arith)
step-load-of (load n) q k x exit r m =
    let o : r ≡ ltb 0 (open_at (load n)) = m.said ∙ load_said n x q in
    (o, load-puts n q r o exit m.now)
step-load-of (spurious u) q k x exit r m = absurd (omega arith)

-- a spurious branch
bit-said : (b : Bool) → eqb (flag b) 0 ≡ ltb 0 (cond b 0 1)
bit-said true = refl
bit-said false = refl

spurious-said : {bytes : List ℕ} {at : ℕ} (u : Spurious) → u.exploring ≡ true → BranchStands bytes at (spurious u) → eqb (record_byte bytes at 2) 0 ≡ ltb 0 (open_at (spurious u))
unfolding open_at
spurious-said u x q = ap (λ (y : ℕ). eqb y 0) (spurious-bit q) ∙ bit-said u.bit ∙ rw x

spurious-yes : {bytes : List ℕ} {at : ℕ} (u : Spurious) → BranchStands bytes at (spurious u) → with_record_byte bytes at 2 1 ≡ with_record bytes at (encoded (turned_branch (spurious u)))
unfolding encoded turned_branch
spurious-yes {bytes} {at} u q =
    byte_put bytes at q.fits 2 1 (omega arith) ∙ ap (λ (y : List ℕ). with_record bytes at (set y 2 1)) q.same

spurious-puts : {bytes : List ℕ} {at : ℕ} (u : Spurious) → BranchStands bytes at (spurious u) → (r : Bool) → r ≡ ltb 0 (open_at (spurious u)) → (exit : List ℕ) → exit ≡ cond r (with_record_byte bytes at 2 1) bytes → exit ≡ with_record bytes at (encoded (branch_stepped (spurious u)))
unfolding spent
spurious-puts {bytes} {at} u q true o exit f =
    f ∙ spurious-yes u q ∙ ap (λ (y : Branch). with_record bytes at (encoded y)) (sym (tried_open (spurious u) (sym o)))
spurious-puts u q false o exit f = f ∙ unchanged q (tried-spent (spurious u) (sym o))

step-spurious-of : {bytes : List ℕ} {at : ℕ} (b : Branch) → BranchStands bytes at b → get_or (encoded b) 0 0 ≡ 3 → is_exploring b ≡ true → (exit : List ℕ) (r : Bool) → Sets bytes exit at r → (r ≡ ltb 0 (open_at b)) × (exit ≡ with_record bytes at (encoded (branch_stepped b)))
unfolding encoded
step-spurious-of (schedule s) q k x exit r m = absurd (omega arith)
step-spurious-of (load n) q k x exit r m = absurd (omega arith)
step-spurious-of (spurious u) q k x exit r m =
    let o : r ≡ ltb 0 (open_at (spurious u)) = m.said ∙ spurious-said u x q in
    (o, spurious-puts u q r o exit m.now)

-- as they are read
module _ (bytes : List ℕ) (at : ℕ) (x : Bool) (ex : x ≡ eqb (record_byte bytes at 1) 1) where
  pub step-not : x ≡ false → StepsAt bytes bytes at false
  step-not e =
      let no : (b : Branch) → BranchStands bytes at b → is_exploring b ≡ false = λ b q. sym (explored bytes at x ex q) ∙ e in
      record { said = λ b q. sym (ap (ltb 0) (not-open b (no b q))); puts = λ b q. unchanged q (not-spent b (no b q)) }

  module _ (t : x ≡ true) (kind : ℕ) (ek : kind ≡ record_byte bytes at 0) (exit : List ℕ) (r : Bool) where
    abbrev kinds : {b : Branch} → BranchStands bytes at b → (k : ℕ) → kind ≡ k → get_or (encoded b) 0 0 ≡ k
    kinds = of-kind bytes at x ex t kind ek

    abbrev on : {b : Branch} → BranchStands bytes at b → is_exploring b ≡ true
    on = yes bytes at x ex t kind ek

    pub step-schedule : kind ≡ 1 → Visits bytes exit at r → StepsAt bytes exit at r
    step-schedule k v = record {
      said = λ b q. v.said ∙ ap (ltb 0) (open-schedule-of b q (kinds q 1 k) (on q));
      puts = λ b q. step-schedule-of b q (kinds q 1 k) (on q) exit v.now;
    }

    pub step-load : kind ≡ 2 → Moves bytes exit at r → StepsAt bytes exit at r
    step-load k m = record {
      said = λ b q. (step-load-of b q (kinds q 2 k) (on q) exit r m).0;
      puts = λ b q. (step-load-of b q (kinds q 2 k) (on q) exit r m).1;
    }

    pub step-spurious : kind ≡ 3 → Sets bytes exit at r → StepsAt bytes exit at r
    step-spurious k m = record {
      said = λ b q. (step-spurious-of b q (kinds q 3 k) (on q) exit r m).0;
      puts = λ b q. (step-spurious-of b q (kinds q 3 k) (on q) exit r m).1;
    }

    pub step_other : kind ≢ 1 → kind ≢ 2 → kind ≢ 3 → StepsAt bytes exit at r
    step_other f g h = record {
      said = λ b q. absurd (none_other bytes at x ex t kind ek q f g h);
      puts = λ b q. absurd (none_other bytes at x ex t kind ek q f g h);
    }

-- The branch that was asked has as many states or values as before

either-shaped : (c : Bool) (b d : Branch) → shaped b ≡ true → shaped d ≡ true → shaped (cond c b d) ≡ true
either-shaped true b d p q = p
either-shaped false b d p q = q

either-long : (c : Bool) (s t : List ℕ) → length t ≡ length s → length (cond c t s) ≡ length s
either-long true s t e = e
either-long false s t e = refl

five-still : (s t : List ℕ) → eqb (length s) 5 ≡ true → length t ≡ length s → eqb (length t) 5 ≡ true
five-still s t e f = eq-eqb (length t) 5 (f ∙ eqb-true (length s) 5 e)

turned-shaped : (b : Branch) → shaped b ≡ true → shaped (turned_branch b) ≡ true
unfolding turned_branch
turned-shaped (schedule s) h = five-still s.states (turned s.states) h (length-turned s.states)
turned-shaped (load l) h = h
turned-shaped (spurious u) h = refl

spent-shaped : (b : Branch) → shaped b ≡ true → shaped (spent b) ≡ true
unfolding spent
spent-shaped (schedule s) h =
    five-still s.states (cond s.exploring (left s.states) s.states) h (either-long s.exploring s.states (left s.states) (length-left s.states))
spent-shaped (load l) h = h
spent-shaped (spurious u) h = refl

pub tried-shaped : (b : Branch) → shaped b ≡ true → shaped (branch_stepped b) ≡ true
unfolding branch_stepped
tried-shaped b h = either-shaped (ltb 0 (open_at b)) (turned_branch b) (spent b) (turned-shaped b h) (spent-shaped b h)
