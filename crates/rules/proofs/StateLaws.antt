-- The laws of the state's names: what was written is read back, a write leaves every other name alone and keeps the tables'
-- lengths. Positions are unfolded here and nowhere else. Assumes nothing.
--     vector-same, vector-other, vector-kept     and the same for values, numbers and marks
--     vector_at-apart, value_at-apart, number_at-apart       different names within the tables stand at different positions
use Prim.Native.Nat.{ℕ, ◌+◌, ◌-◌, ◌≤◌, ◌<◌}
use mathlib.Core.List.{List, []}
use mathlib.Core.Bool.{false, cond}
use mathlib.Core.Path.{◌≡◌, refl, ap, sym, ◌∙◌}
use mathlib.Core.Logic.{◌≢◌}
use native.Mathlib.Omega.{arith}
use lib.Dec.{ltb}
use lib.ListN.{length, length-set}
use lib.Seq.{get_or-set_same, get_or-set_other}
use borrow.Author.Tests.{lt-ltb, le-ltb}
use Rattle.rules.specs.State

-- Read after write, leave alone, lengths kept

pub vector-same : (clocks : State.Clocks) (v : State.Vector) (parts : List ℕ) → State.vector_at v < length clocks →
    State.vector (State.with_vector clocks v parts) v ≡ parts
vector-same clocks v parts h = get_or-set_same clocks (State.vector_at v) parts [] h

pub vector-other : (clocks : State.Clocks) (v w : State.Vector) (parts : List ℕ) → State.vector_at w ≢ State.vector_at v →
    State.vector (State.with_vector clocks v parts) w ≡ State.vector clocks w
vector-other clocks v w parts d = get_or-set_other clocks (State.vector_at v) (State.vector_at w) parts [] d

pub vector-kept : (clocks : State.Clocks) (v : State.Vector) (parts : List ℕ) → length (State.with_vector clocks v parts) ≡ length clocks
vector-kept clocks v parts = length-set clocks (State.vector_at v) parts

pub value_same : (values : State.Values) (v : State.Value) (n : ℕ) → State.value_at v < length values →
    State.value (State.with_value values v n) v ≡ n
value_same values v n h = get_or-set_same values (State.value_at v) n 0 h

pub value-other : (values : State.Values) (v w : State.Value) (n : ℕ) → State.value_at w ≢ State.value_at v →
    State.value (State.with_value values v n) w ≡ State.value values w
value-other values v w n d = get_or-set_other values (State.value_at v) (State.value_at w) n 0 d

pub value-kept : (values : State.Values) (v : State.Value) (n : ℕ) → length (State.with_value values v n) ≡ length values
value-kept values v n = length-set values (State.value_at v) n

pub number_same : (numbers : State.Numbers) (k : State.Number) (n : ℕ) → State.number_at k < length numbers →
    State.number (State.with_number numbers k n) k ≡ n
number_same numbers k n h = get_or-set_same numbers (State.number_at k) n 0 h

pub number-other : (numbers : State.Numbers) (k j : State.Number) (n : ℕ) → State.number_at j ≢ State.number_at k →
    State.number (State.with_number numbers k n) j ≡ State.number numbers j
number-other numbers k j n d = get_or-set_other numbers (State.number_at k) (State.number_at j) n 0 d

pub number-kept : (numbers : State.Numbers) (k : State.Number) (n : ℕ) → length (State.with_number numbers k n) ≡ length numbers
number-kept numbers k n = length-set numbers (State.number_at k) n

pub marks-same : (marks : State.Marks) (c : ℕ) (rows : List (List ℕ)) → c < length marks →
    State.marks_of (State.with_marks marks c rows) c ≡ rows
marks-same marks c rows h = get_or-set_same marks c rows [] h

pub marks-other : (marks : State.Marks) (c d : ℕ) (rows : List (List ℕ)) → d ≢ c →
    State.marks_of (State.with_marks marks c rows) d ≡ State.marks_of marks d
marks-other marks c d rows e = get_or-set_other marks c d rows [] e

pub marks-kept : (marks : State.Marks) (c : ℕ) (rows : List (List ℕ)) → length (State.with_marks marks c rows) ≡ length marks
marks-kept marks c rows = length-set marks c rows

-- Different names, different positions: the name that stands at a position is found again

-- how many of a sort there are
abbrev pub InVectors : State.Vector → Type 0
InVectors (State.causality t) = t < 5
InVectors (State.released t) = t < 5
InVectors (State.schedule_of t) = t < 5
InVectors State.seq_cst = Unit
InVectors (State.loaded c) = c < 4
InVectors (State.unsync_loaded c) = c < 4
InVectors (State.stored c) = c < 4
InVectors (State.mutated c) = c < 4
InVectors (State.last_access c) = c < 4
InVectors (State.last_non_load c) = c < 4
InVectors (State.happens_before s) = s < 28
InVectors (State.modification_order s) = s < 28
InVectors (State.sync s) = s < 28
InVectors (State.read_access c) = c < 4
InVectors (State.write_access c) = c < 4

vector_named : ℕ → State.Vector
vector_named n =
    cond (ltb n 5) (State.causality (n - 0))
    (cond (ltb n 10) (State.released (n - 5))
    (cond (ltb n 15) (State.schedule_of (n - 10))
    (cond (ltb n 16) State.seq_cst
    (cond (ltb n 20) (State.loaded (n - 16))
    (cond (ltb n 24) (State.unsync_loaded (n - 20))
    (cond (ltb n 28) (State.stored (n - 24))
    (cond (ltb n 32) (State.mutated (n - 28))
    (cond (ltb n 36) (State.last_access (n - 32))
    (cond (ltb n 40) (State.last_non_load (n - 36))
    (cond (ltb n 68) (State.happens_before (n - 40))
    (cond (ltb n 96) (State.modification_order (n - 68))
    (cond (ltb n 124) (State.sync (n - 96))
    (cond (ltb n 128) (State.read_access (n - 124))
    (State.write_access (n - 128)))))))))))))))

-- the number within its sort
within : (base k : ℕ) → (base + k) - base ≡ k
within base k = omega arith

-- past a sort
past : (n m : ℕ) → m ≤ n → ltb n m ≡ false
past n m h = le-ltb n m h

vector-found : (v : State.Vector) → InVectors v → vector_named (State.vector_at v) ≡ v
unfolding vector_named
vector-found (State.causality t) h = rw (lt-ltb (0 + t) 5 (omega arith), within 0 t)
vector-found (State.released t) h = rw (past (5 + t) 5 (omega arith), lt-ltb (5 + t) 10 (omega arith), within 5 t)
vector-found (State.schedule_of t) h = rw (past (10 + t) 5 (omega arith), past (10 + t) 10 (omega arith), lt-ltb (10 + t) 15 (omega arith), within 10 t)
vector-found State.seq_cst h = refl
vector-found (State.loaded c) h = rw (past (16 + c) 5 (omega arith), past (16 + c) 10 (omega arith), past (16 + c) 15 (omega arith), past (16 + c) 16 (omega arith), lt-ltb (16 + c) 20 (omega arith), within 16 c)
vector-found (State.unsync_loaded c) h = rw (past (20 + c) 5 (omega arith), past (20 + c) 10 (omega arith), past (20 + c) 15 (omega arith), past (20 + c) 16 (omega arith), past (20 + c) 20 (omega arith), lt-ltb (20 + c) 24 (omega arith), within 20 c)
vector-found (State.stored c) h = rw (past (24 + c) 5 (omega arith), past (24 + c) 10 (omega arith), past (24 + c) 15 (omega arith), past (24 + c) 16 (omega arith), past (24 + c) 20 (omega arith), past (24 + c) 24 (omega arith), lt-ltb (24 + c) 28 (omega arith), within 24 c)
vector-found (State.mutated c) h = rw (past (28 + c) 5 (omega arith), past (28 + c) 10 (omega arith), past (28 + c) 15 (omega arith), past (28 + c) 16 (omega arith), past (28 + c) 20 (omega arith), past (28 + c) 24 (omega arith), past (28 + c) 28 (omega arith), lt-ltb (28 + c) 32 (omega arith), within 28 c)
vector-found (State.last_access c) h = rw (past (32 + c) 5 (omega arith), past (32 + c) 10 (omega arith), past (32 + c) 15 (omega arith), past (32 + c) 16 (omega arith), past (32 + c) 20 (omega arith), past (32 + c) 24 (omega arith), past (32 + c) 28 (omega arith), past (32 + c) 32 (omega arith), lt-ltb (32 + c) 36 (omega arith), within 32 c)
vector-found (State.last_non_load c) h = rw (past (36 + c) 5 (omega arith), past (36 + c) 10 (omega arith), past (36 + c) 15 (omega arith), past (36 + c) 16 (omega arith), past (36 + c) 20 (omega arith), past (36 + c) 24 (omega arith), past (36 + c) 28 (omega arith), past (36 + c) 32 (omega arith), past (36 + c) 36 (omega arith), lt-ltb (36 + c) 40 (omega arith), within 36 c)
vector-found (State.happens_before s) h = rw (past (40 + s) 5 (omega arith), past (40 + s) 10 (omega arith), past (40 + s) 15 (omega arith), past (40 + s) 16 (omega arith), past (40 + s) 20 (omega arith), past (40 + s) 24 (omega arith), past (40 + s) 28 (omega arith), past (40 + s) 32 (omega arith), past (40 + s) 36 (omega arith), past (40 + s) 40 (omega arith), lt-ltb (40 + s) 68 (omega arith), within 40 s)
vector-found (State.modification_order s) h = rw (past (68 + s) 5 (omega arith), past (68 + s) 10 (omega arith), past (68 + s) 15 (omega arith), past (68 + s) 16 (omega arith), past (68 + s) 20 (omega arith), past (68 + s) 24 (omega arith), past (68 + s) 28 (omega arith), past (68 + s) 32 (omega arith), past (68 + s) 36 (omega arith), past (68 + s) 40 (omega arith), past (68 + s) 68 (omega arith), lt-ltb (68 + s) 96 (omega arith), within 68 s)
vector-found (State.sync s) h = rw (past (96 + s) 5 (omega arith), past (96 + s) 10 (omega arith), past (96 + s) 15 (omega arith), past (96 + s) 16 (omega arith), past (96 + s) 20 (omega arith), past (96 + s) 24 (omega arith), past (96 + s) 28 (omega arith), past (96 + s) 32 (omega arith), past (96 + s) 36 (omega arith), past (96 + s) 40 (omega arith), past (96 + s) 68 (omega arith), past (96 + s) 96 (omega arith), lt-ltb (96 + s) 124 (omega arith), within 96 s)
vector-found (State.read_access c) h = rw (past (124 + c) 5 (omega arith), past (124 + c) 10 (omega arith), past (124 + c) 15 (omega arith), past (124 + c) 16 (omega arith), past (124 + c) 20 (omega arith), past (124 + c) 24 (omega arith), past (124 + c) 28 (omega arith), past (124 + c) 32 (omega arith), past (124 + c) 36 (omega arith), past (124 + c) 40 (omega arith), past (124 + c) 68 (omega arith), past (124 + c) 96 (omega arith), past (124 + c) 124 (omega arith), lt-ltb (124 + c) 128 (omega arith), within 124 c)
vector-found (State.write_access c) h = rw (past (128 + c) 5 (omega arith), past (128 + c) 10 (omega arith), past (128 + c) 15 (omega arith), past (128 + c) 16 (omega arith), past (128 + c) 20 (omega arith), past (128 + c) 24 (omega arith), past (128 + c) 28 (omega arith), past (128 + c) 32 (omega arith), past (128 + c) 36 (omega arith), past (128 + c) 40 (omega arith), past (128 + c) 68 (omega arith), past (128 + c) 96 (omega arith), past (128 + c) 124 (omega arith), past (128 + c) 128 (omega arith), within 128 c)

pub vector_at-apart : (v w : State.Vector) → InVectors v → InVectors w → State.vector_at v ≡ State.vector_at w → v ≡ w
vector_at-apart v w h k e = sym (vector-found v h) ∙ (ap vector_named e ∙ vector-found w k)

abbrev pub InValues : State.Value → Type 0
InValues (State.of_store s) = s < 28
InValues (State.of_register r) = r < 20
InValues (State.of_plain c) = c < 4

value_named : ℕ → State.Value
value_named n =
    cond (ltb n 28) (State.of_store (n - 0))
    (cond (ltb n 48) (State.of_register (n - 28))
    (State.of_plain (n - 48)))

value_found : (v : State.Value) → InValues v → value_named (State.value_at v) ≡ v
unfolding value_named
value_found (State.of_store s) h = rw (lt-ltb (0 + s) 28 (omega arith), within 0 s)
value_found (State.of_register r) h = rw (past (28 + r) 28 (omega arith), lt-ltb (28 + r) 48 (omega arith), within 28 r)
value_found (State.of_plain c) h = rw (past (48 + c) 28 (omega arith), past (48 + c) 48 (omega arith), within 48 c)

pub value_at-apart : (v w : State.Value) → InValues v → InValues w → State.value_at v ≡ State.value_at w → v ≡ w
value_at-apart v w h k e = sym (value_found v h) ∙ (ap value_named e ∙ value_found w k)

abbrev pub InNumbers : State.Number → Type 0
InNumbers (State.state t) = t < 5
InNumbers (State.next_row t) = t < 5
InNumbers (State.rows_of t) = t < 5
InNumbers (State.yields t) = t < 5
InNumbers (State.last_yield t) = t < 5
InNumbers (State.operation t) = t < 5
InNumbers (State.operates_on t) = t < 5
InNumbers (State.phase t) = t < 5
InNumbers (State.count c) = c < 4
InNumbers (State.access_branch c) = c < 4
InNumbers (State.non_load_branch c) = c < 4
InNumbers (State.is_seq_cst s) = s < 28
InNumbers State.active_thread = Unit
InNumbers State.rows_begun = Unit
InNumbers State.exploring = Unit
InNumbers State.skipping = Unit
InNumbers (State.awaits t) = t < 5

number_named : ℕ → State.Number
number_named n =
    cond (ltb n 5) (State.state (n - 0))
    (cond (ltb n 10) (State.next_row (n - 5))
    (cond (ltb n 15) (State.rows_of (n - 10))
    (cond (ltb n 20) (State.yields (n - 15))
    (cond (ltb n 25) (State.last_yield (n - 20))
    (cond (ltb n 30) (State.operation (n - 25))
    (cond (ltb n 35) (State.operates_on (n - 30))
    (cond (ltb n 40) (State.phase (n - 35))
    (cond (ltb n 44) (State.count (n - 40))
    (cond (ltb n 48) (State.access_branch (n - 44))
    (cond (ltb n 52) (State.non_load_branch (n - 48))
    (cond (ltb n 80) (State.is_seq_cst (n - 52))
    (cond (ltb n 81) State.active_thread
    (cond (ltb n 82) State.rows_begun
    (cond (ltb n 83) State.exploring
    (cond (ltb n 84) State.skipping
    (State.awaits (n - 84)))))))))))))))))

number-found : (v : State.Number) → InNumbers v → number_named (State.number_at v) ≡ v
unfolding number_named
number-found (State.state t) h = rw (lt-ltb (0 + t) 5 (omega arith), within 0 t)
number-found (State.next_row t) h = rw (past (5 + t) 5 (omega arith), lt-ltb (5 + t) 10 (omega arith), within 5 t)
number-found (State.rows_of t) h = rw (past (10 + t) 5 (omega arith), past (10 + t) 10 (omega arith), lt-ltb (10 + t) 15 (omega arith), within 10 t)
number-found (State.yields t) h = rw (past (15 + t) 5 (omega arith), past (15 + t) 10 (omega arith), past (15 + t) 15 (omega arith), lt-ltb (15 + t) 20 (omega arith), within 15 t)
number-found (State.last_yield t) h = rw (past (20 + t) 5 (omega arith), past (20 + t) 10 (omega arith), past (20 + t) 15 (omega arith), past (20 + t) 20 (omega arith), lt-ltb (20 + t) 25 (omega arith), within 20 t)
number-found (State.operation t) h = rw (past (25 + t) 5 (omega arith), past (25 + t) 10 (omega arith), past (25 + t) 15 (omega arith), past (25 + t) 20 (omega arith), past (25 + t) 25 (omega arith), lt-ltb (25 + t) 30 (omega arith), within 25 t)
number-found (State.operates_on t) h = rw (past (30 + t) 5 (omega arith), past (30 + t) 10 (omega arith), past (30 + t) 15 (omega arith), past (30 + t) 20 (omega arith), past (30 + t) 25 (omega arith), past (30 + t) 30 (omega arith), lt-ltb (30 + t) 35 (omega arith), within 30 t)
number-found (State.phase t) h = rw (past (35 + t) 5 (omega arith), past (35 + t) 10 (omega arith), past (35 + t) 15 (omega arith), past (35 + t) 20 (omega arith), past (35 + t) 25 (omega arith), past (35 + t) 30 (omega arith), past (35 + t) 35 (omega arith), lt-ltb (35 + t) 40 (omega arith), within 35 t)
number-found (State.count c) h = rw (past (40 + c) 5 (omega arith), past (40 + c) 10 (omega arith), past (40 + c) 15 (omega arith), past (40 + c) 20 (omega arith), past (40 + c) 25 (omega arith), past (40 + c) 30 (omega arith), past (40 + c) 35 (omega arith), past (40 + c) 40 (omega arith), lt-ltb (40 + c) 44 (omega arith), within 40 c)
number-found (State.access_branch c) h = rw (past (44 + c) 5 (omega arith), past (44 + c) 10 (omega arith), past (44 + c) 15 (omega arith), past (44 + c) 20 (omega arith), past (44 + c) 25 (omega arith), past (44 + c) 30 (omega arith), past (44 + c) 35 (omega arith), past (44 + c) 40 (omega arith), past (44 + c) 44 (omega arith), lt-ltb (44 + c) 48 (omega arith), within 44 c)
number-found (State.non_load_branch c) h = rw (past (48 + c) 5 (omega arith), past (48 + c) 10 (omega arith), past (48 + c) 15 (omega arith), past (48 + c) 20 (omega arith), past (48 + c) 25 (omega arith), past (48 + c) 30 (omega arith), past (48 + c) 35 (omega arith), past (48 + c) 40 (omega arith), past (48 + c) 44 (omega arith), past (48 + c) 48 (omega arith), lt-ltb (48 + c) 52 (omega arith), within 48 c)
number-found (State.is_seq_cst s) h = rw (past (52 + s) 5 (omega arith), past (52 + s) 10 (omega arith), past (52 + s) 15 (omega arith), past (52 + s) 20 (omega arith), past (52 + s) 25 (omega arith), past (52 + s) 30 (omega arith), past (52 + s) 35 (omega arith), past (52 + s) 40 (omega arith), past (52 + s) 44 (omega arith), past (52 + s) 48 (omega arith), past (52 + s) 52 (omega arith), lt-ltb (52 + s) 80 (omega arith), within 52 s)
number-found State.active_thread h = refl
number-found State.rows_begun h = refl
number-found State.exploring h = refl
number-found State.skipping h = refl
number-found (State.awaits t) h = rw (past (84 + t) 5 (omega arith), past (84 + t) 10 (omega arith), past (84 + t) 15 (omega arith), past (84 + t) 20 (omega arith), past (84 + t) 25 (omega arith), past (84 + t) 30 (omega arith), past (84 + t) 35 (omega arith), past (84 + t) 40 (omega arith), past (84 + t) 44 (omega arith), past (84 + t) 48 (omega arith), past (84 + t) 52 (omega arith), past (84 + t) 80 (omega arith), past (84 + t) 81 (omega arith), past (84 + t) 82 (omega arith), past (84 + t) 83 (omega arith), past (84 + t) 84 (omega arith), within 84 t)

pub number_at-apart : (v w : State.Number) → InNumbers v → InNumbers w → State.number_at v ≡ State.number_at w → v ≡ w
number_at-apart v w h k e = sym (number-found v h) ∙ (ap number_named e ∙ number-found w k)

-- every name is within its table
pub vector_at-within : (v : State.Vector) → InVectors v → State.vector_at v < State.vectors_held
vector_at-within (State.causality t) h = omega arith
vector_at-within (State.released t) h = omega arith
vector_at-within (State.schedule_of t) h = omega arith
vector_at-within State.seq_cst h = omega arith
vector_at-within (State.loaded c) h = omega arith
vector_at-within (State.unsync_loaded c) h = omega arith
vector_at-within (State.stored c) h = omega arith
vector_at-within (State.mutated c) h = omega arith
vector_at-within (State.last_access c) h = omega arith
vector_at-within (State.last_non_load c) h = omega arith
vector_at-within (State.happens_before s) h = omega arith
vector_at-within (State.modification_order s) h = omega arith
vector_at-within (State.sync s) h = omega arith
vector_at-within (State.read_access c) h = omega arith
vector_at-within (State.write_access c) h = omega arith

pub value_at-within : (v : State.Value) → InValues v → State.value_at v < State.values_held
value_at-within (State.of_store s) h = omega arith
value_at-within (State.of_register r) h = omega arith
value_at-within (State.of_plain c) h = omega arith

pub number_at-within : (k : State.Number) → InNumbers k → State.number_at k < State.numbers_held
number_at-within (State.state t) h = omega arith
number_at-within (State.next_row t) h = omega arith
number_at-within (State.rows_of t) h = omega arith
number_at-within (State.yields t) h = omega arith
number_at-within (State.last_yield t) h = omega arith
number_at-within (State.operation t) h = omega arith
number_at-within (State.operates_on t) h = omega arith
number_at-within (State.phase t) h = omega arith
number_at-within (State.count c) h = omega arith
number_at-within (State.access_branch c) h = omega arith
number_at-within (State.non_load_branch c) h = omega arith
number_at-within (State.is_seq_cst s) h = omega arith
number_at-within State.active_thread h = omega arith
number_at-within State.rows_begun h = omega arith
number_at-within State.exploring h = omega arith
number_at-within State.skipping h = omega arith
number_at-within (State.awaits t) h = omega arith
