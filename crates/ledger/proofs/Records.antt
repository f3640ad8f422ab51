-- A record and its choices, one after another.
--     Used                      a choice that a record had before its present one
--     Sound                     what a record has that agrees with its question
--     used-differs              a used choice is not the present one
--     used-marking, used-turned, used-left      marks and visits keep what is used, and a visit adds the choice it leaves
--     agrees-marking, agrees-turned, reply-turned     marks and visits keep the agreement, and that a record answers
use Prim.Native.Nat.{ℕ, ◌+◌, ◌-◌, ◌<◌}
use mathlib.Core.List.{List}
use mathlib.Core.Bool.{Bool, true, false, cond, ◌&&◌, false≢true}
use mathlib.Core.Path.{◌≡◌, refl, sym}
use mathlib.Core.Logic.{◌≢◌}
use native.Mathlib.Omega.{arith}
use lib.Dec.{ltb}
use lib.ListN.{length, get_or}
use borrow.Author.Tests.{lt-ltb}
use Rattle.rules.specs.Vector.{Whom, nobody, thread}
use Rattle.rules.specs.Path.{Branch, schedule, load, spurious, Schedule, Load, Spurious, Choice, runs, reads}
use Rattle.rules.specs.Path.{active, visited, active_in, turned, pendings, open_at, turned_branch, choice_of, marked, with_states}
use Rattle.rules.specs.Event.{Question, which_thread, which_slot, which_bit, slots_of, read_slot}
use Rattle.rules.specs.Explorer.{reply, Reply, says, unexpected, all_below, max_slots}
use Rattle.ledger.specs.Replay.{marks, visits, Agrees}
use Rattle.ledger.proofs.Events.{states-active, states-visited, marked-states}
use Rattle.ledger.proofs.Marking.{Marking, same, mark}
use Rattle.ledger.proofs.States.{found, turned-visited, turned-leaves, turned-someone}
use Rattle.ledger.proofs.Lists.{rising-at, slots-rising}

-- What is used

-- a schedule's: one that is Visited, or none where there is an Active
abbrev pub UsedThread : List ℕ → Whom → Type 0
UsedThread states nobody = active_in states ≢ nobody
UsedThread states (thread t) = get_or states t 0 ≡ visited

-- a load's: a value before the present one; a spurious branch's: no, where it says yes
abbrev pub Used : Branch → Choice → Type 0
Used (schedule s) (runs w) = UsedThread s.states w
Used (schedule s) (reads v) = ⊥
Used (schedule s) (Choice.says b) = ⊥
Used (load l) (runs w) = ⊥
Used (load l) (reads v) = (j : ℕ) × (j < l.pos) × (v ≡ get_or l.values j 0)
Used (load l) (Choice.says b) = ⊥
Used (spurious u) (runs w) = ⊥
Used (spurious u) (reads v) = ⊥
Used (spurious u) (Choice.says b) = (b ≡ false) × (u.bit ≡ true)

-- a load's values differ before its position
abbrev pub Sound : Branch → Type 0
Sound (schedule s) = Unit {0}
Sound (load l) = (j : ℕ) → j < l.pos → get_or l.values j 0 < get_or l.values l.pos 0
Sound (spurious u) = Unit {0}

pub agrees-sound : (exploring : Bool) (b : Branch) (q : Question) → Agrees exploring b q → Sound b
agrees-sound exploring (schedule s) q a = tt
agrees-sound exploring (load l) (which_thread points initial standings) a = absurd a
agrees-sound exploring (load l) (which_slot m) a =
    λ j h. rw a.3 (rising-at (slots_of a.1) j l.pos (slots-rising 0 a.1) h (rw a.3 at a.4))
agrees-sound exploring (load l) which_bit a = absurd a
agrees-sound exploring (spurious u) q a = tt

thread-differs : (states : List ℕ) (w : Whom) → UsedThread states w → w ≢ active_in states
thread-differs states nobody u e = u (sym e)
thread-differs states (thread t) u e = let a = found active states t (sym e) in omega arith

pub used-differs : (b : Branch) (c : Choice) → Sound b → Used b c → c ≢ choice_of b
unfolding choice_of
used-differs (schedule s) (runs w) k u e = thread-differs s.states w u (cc)
used-differs (schedule s) (reads v) k u e = u
used-differs (schedule s) (Choice.says b) k u e = u
used-differs (load l) (runs w) k u e = u
used-differs (load l) (reads v) k u e =
    let h = k u.0 u.1 in
    let z : get_or l.values u.0 0 ≡ get_or l.values l.pos 0 = cc in
    omega arith
used-differs (load l) (Choice.says b) k u e = u
used-differs (spurious v) (runs w) k u e = u
used-differs (spurious v) (reads w) k u e = u
used-differs (spurious v) (Choice.says b) k u e = let z : false ≡ true = cc in false≢true z

-- Marks

thread-marked : (states : List ℕ) (t : ℕ) (w : Whom) → UsedThread states w → UsedThread (marked states t) w
thread-marked states t nobody u = rw (states-active states (marked states t) (marked-states states t)) u
thread-marked states t (thread a) u = states-visited states (marked states t) a (marked-states states t) u

used-marked : (s : Schedule) (t : ℕ) (c : Choice) → Used (schedule s) c → Used (schedule (with_states s (marked s.states t))) c
used-marked s t (runs w) u = thread-marked s.states t w u
used-marked s t (reads v) u = u
used-marked s t (Choice.says b) u = u

pub used-marking : {b d : Branch} (c : Choice) → Marking b d → Used b c → Used d c
used-marking c same u = u
used-marking c (mark s t e p) u = used-marked s t c (used-marking c p u)

agrees-marked : (exploring : Bool) (s : Schedule) (t : ℕ) (q : Question) →
    Agrees exploring (schedule s) q → Agrees exploring (schedule (with_states s (marked s.states t))) q
agrees-marked exploring s t (which_thread points initial standings) a = (a.0, marks t a.1)
agrees-marked exploring s t (which_slot m) a = a
agrees-marked exploring s t which_bit a = a

pub agrees-marking : {b d : Branch} (exploring : Bool) (q : Question) → Marking b d → Agrees exploring b q → Agrees exploring d q
agrees-marking exploring q same a = a
agrees-marking exploring q (mark s t e p) a = agrees-marked exploring s t q (agrees-marking exploring q p a)

-- Visits

-- what is open, by kind
when-exploring : (x : Bool) (n : ℕ) → 0 < cond x n 0 → 0 < n
when-exploring true n h = h
when-exploring false n h = absurd (omega arith)

pub open-pending : (s : Schedule) → 0 < open_at (schedule s) → 0 < pendings s.states
unfolding open_at
open-pending s h = when-exploring s.exploring (pendings s.states) h

pub open-values : (l : Load) → 0 < open_at (load l) → l.pos + 1 < length l.values
unfolding open_at
open-values l h = let k = when-exploring l.exploring (length l.values - 1 - l.pos) h in omega arith

pub open-bit : (u : Spurious) → 0 < open_at (spurious u) → u.bit ≡ false
unfolding open_at
open-bit u h = go u.bit (when-exploring u.exploring (cond u.bit 0 1) h)
  where
    go : (b : Bool) → 0 < cond b 0 1 → b ≡ false
    go true k = absurd (omega arith)
    go false k = refl

thread-turned : (states : List ℕ) (w : Whom) → 0 < pendings states → UsedThread states w → UsedThread (turned states) w
thread-turned states nobody h u = turned-someone states h
thread-turned states (thread a) h u = turned-visited states a h u

pub used-turned : (b : Branch) (c : Choice) → 0 < open_at b → Used b c → Used (turned_branch b) c
unfolding turned_branch
used-turned (schedule s) (runs w) h u = thread-turned s.states w (open-pending s h) u
used-turned (schedule s) (reads v) h u = u
used-turned (schedule s) (Choice.says b) h u = u
used-turned (load l) (runs w) h u = u
used-turned (load l) (reads v) h u = (u.0, omega arith, u.2)
used-turned (load l) (Choice.says b) h u = u
used-turned (spurious v) (runs w) h u = u
used-turned (spurious v) (reads w) h u = u
used-turned (spurious v) (Choice.says b) h u = (u.0, refl)

thread-left : (states : List ℕ) (w : Whom) → active_in states ≡ w → 0 < pendings states → UsedThread (turned states) w
thread-left states nobody e h = turned-someone states h
thread-left states (thread a) e h = turned-leaves states a h e

pub used-left : (b : Branch) → 0 < open_at b → Used (turned_branch b) (choice_of b)
unfolding turned_branch choice_of
used-left (schedule s) h = thread-left s.states (active_in s.states) refl (open-pending s h)
used-left (load l) h = (l.pos, omega arith, refl)
used-left (spurious u) h = (open-bit u h, refl)

pub agrees-turned : (exploring : Bool) (b : Branch) (q : Question) → 0 < open_at b → Agrees exploring b q →
    Agrees exploring (turned_branch b) q
unfolding turned_branch
agrees-turned exploring (schedule s) (which_thread points initial standings) h a = (a.0, visits (open-pending s h) a.1)
agrees-turned exploring (schedule s) (which_slot m) h a = a
agrees-turned exploring (schedule s) which_bit h a = a
agrees-turned exploring (load l) (which_thread points initial standings) h a = a
agrees-turned exploring (load l) (which_slot m) h a = (a.0, a.1, a.2, a.3, open-values l h)
agrees-turned exploring (load l) which_bit h a = a
agrees-turned exploring (spurious u) (which_thread points initial standings) h a = a
agrees-turned exploring (spurious u) (which_slot m) h a = a
agrees-turned exploring (spurious u) which_bit h a = a

-- a record that answers still answers after a visit
abbrev pub Answers : Reply → Type 0
Answers (says a) = Unit {0}
Answers unexpected = ⊥

slot-turned : (values : List ℕ) (pos : ℕ) (x : Bool) →
    pos + 1 < length values →
    Answers (cond (ltb pos (length values) && x) (says (read_slot (get_or values pos 0) values)) unexpected) →
    Answers (cond (ltb (pos + 1) (length values) && x) (says (read_slot (get_or values (pos + 1) 0) values)) unexpected)
slot-turned values pos x h a =
    let e : ltb pos (length values) ≡ true = lt-ltb pos (length values) (omega arith) in
    let f : ltb (pos + 1) (length values) ≡ true = lt-ltb (pos + 1) (length values) h in
    rw f (go x (rw e at a))
  where
    go : (y : Bool) → Answers (cond y (says (read_slot (get_or values pos 0) values)) unexpected) →
        Answers (cond y (says (read_slot (get_or values (pos + 1) 0) values)) unexpected)
    go true b = tt
    go false b = b

pub reply-turned : (k : ℕ) (b : Branch) (q : Question) → 0 < open_at b → Answers (reply k b q) → Answers (reply k (turned_branch b) q)
unfolding turned_branch reply
reply-turned k (schedule s) (which_thread points initial standings) h a = tt
reply-turned k (schedule s) (which_slot m) h a = a
reply-turned k (schedule s) which_bit h a = a
reply-turned k (load l) (which_thread points initial standings) h a = a
reply-turned k (load l) (which_slot m) h a = slot-turned l.values l.pos (all_below max_slots l.values) (open-values l h) a
reply-turned k (load l) which_bit h a = a
reply-turned k (spurious u) (which_thread points initial standings) h a = a
reply-turned k (spurious u) (which_slot m) h a = a
reply-turned k (spurious u) which_bit h a = tt
