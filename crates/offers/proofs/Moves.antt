-- What the machine does next: what was seen stays so, but for the slot that a store takes. Assumes nothing.
--     NextOf, next-steps              what the active thread does next
--     AnswerOf                        how it goes on with an answer
use Prim.Native.Nat.{ℕ, zero, suc, ◌+◌, ◌≤◌, ◌<◌}
use mathlib.Core.List.{List, []}
use mathlib.Core.Bool.{Bool, true, false, cond, not, ◌&&◌}
use mathlib.Core.Path.{refl, ◌∙◌}
use mathlib.Core.Logic.{◌≢◌, ◌⊎◌, inl, inr}
use native.Mathlib.Omega.{arith}
use lib.Dec.{eqb, ltb, leb}
use lib.ListN.{length}
use borrow.Author.Tests.{ltb-true}
use Rattle.rules.specs.Vector.{one_more, zeros}
use Rattle.rules.specs.Table as Table
use Rattle.rules.specs.Table.{Op, Decoded, refused, decoded}
use Rattle.rules.specs.Event as Event
use Rattle.rules.specs.Event.{Entry, which_thread, which_slot, which_bit, Move, moves, asks, stops, ends}
use Rattle.rules.specs.State as State
use Rattle.rules.specs.State.{State, Numbers, Number, number, with_number, number_at, threads, count, causality, schedule_of, stored, phase, next_row, operation, operates_on, rows_begun, rows_of, yields, last_yield, awaits, exploring, skipping}
use Rattle.rules.specs.Cell
use Rattle.rules.specs.Cell.{AccessResult, raced, read, Race, no_race, race_of, with_clocks, join_into}
use Rattle.rules.specs.Plain.{plain_read_done, plain_write_race, plain_write_done}
use Rattle.rules.specs.Machine
use Rattle.rules.specs.Machine.{Program, Pending, nothing, pends, pending_of, current, active_row, row_of, row_count, completed, version_raised, for_threads, entry, no_slot}
use Rattle.rules.proofs.StateLaws.{number-other, number-kept}
use Rattle.rules.proofs.MeasureRows.{pick, Names, RowNames, widest, row-in-place}
use Rattle.offers.proofs.Growing.{low, Grows, grows-trans, join-grows, raise-grows, schedule-flows, fenced-grows, recorded-grows, Small}
use Rattle.offers.proofs.Steps.{SameCounts, SoundState, Quiet, quiet-trans, Calm, Steps, calm-trans, calm_more, calm-clocks, calm-rest, calm-step, calm-before, calm-after, store-steps}
use Rattle.offers.proofs.Accessing.{Accessed, unsync-accessed, mut-accessed, plain-read-accessed, plain-write-calm}

-- Counts

pub none-counted : (a : Numbers) → SameCounts a a
none-counted a c h = refl

pub counts-then : (a b : Numbers) → SameCounts a b → (k : Number) (v : ℕ) → ((c : ℕ) → c < 4 → number_at (count c) ≢ number_at k) →
    SameCounts a (with_number b k v)
counts-then a b same k v d c h = number-other b k (count c) v (d c h) ∙ same c h

pub counts-threads : (f : ℕ → Numbers → Numbers) → ((t : ℕ) (a : Numbers) → t < 5 → SameCounts a (f t a)) →
    (n t : ℕ) (a : Numbers) → t + n ≤ 5 →
    SameCounts a (for_threads f n t a)
unfolding for_threads
counts-threads f each zero t a h c l = refl
counts-threads f each (suc n) t a h c l =
    counts-threads f each n (t + 1) (f t a) (omega arith) c l ∙ each t a (omega arith) c l

-- What the machine does next

-- something is noted, or no store is made
abbrev pub Notes : State → State → List Entry → Type 0
Notes a s es = (1 ≤ length es) ⊎ Quiet a s

-- by thread t from a state whose vectors are bounded by n: by as many more after it as it has entries; a version is raised where it
-- asks for a slot
abbrev pub NextOf : ℕ → ℕ → State → Move State → Type 0
NextOf t n a (moves s es) = Notes a s es × ((m : ℕ) → n + length es ≤ m → Steps t n m a s)
NextOf t n a (asks s es x (which_thread points initial standings)) = (m : ℕ) → n + length es ≤ m → Calm n m a s
NextOf t n a (asks s es x (which_slot q)) = (m : ℕ) → n + 1 ≤ m → Calm n m a s
NextOf t n a (asks s es x which_bit) = (m : ℕ) → n + length es ≤ m → Calm n m a s
NextOf t n a (stops s f) = (m : ℕ) → n + 1 ≤ m → Calm n m a s
NextOf t n a (ends s) = ⊥

-- and how it goes on with an answer
abbrev pub AnswerOf : ℕ → ℕ → State → Move State → Type 0
AnswerOf t n a (moves s es) = Notes a s es × Steps t n n a s
AnswerOf t n a (asks s es x q) = ⊥
AnswerOf t n a (stops s f) = Calm n n a s
AnswerOf t n a (ends s) = Calm n n a s

completed-calm : (n : ℕ) (st : State) (t k : ℕ) → t < threads → Calm n n st (completed st t k)
completed-calm n st t k h =
    let a = st.numbers in
    calm-rest n st st.values (completed st t k).numbers
    (counts-then a (with_number a (next_row t) k) (counts-then a a (none-counted a) (next_row t) k (omega arith)) (phase t) 0
    (omega arith))

-- with the value read in its register
pub kept-calm : (n : ℕ) (st : State) (t r v k : ℕ) → t < threads → Calm n n st (completed (Machine.with_register st t r v) t k)
kept-calm n st t r v k h =
    calm-trans (calm-rest n st (Machine.with_register st t r v).values st.numbers (none-counted st.numbers))
    (completed-calm n (Machine.with_register st t r v) t k h)

pub small-zeros : (n : ℕ) → Small n (zeros 5)
small-zeros n zero = omega arith
small-zeros n (suc zero) = omega arith
small-zeros n (suc (suc zero)) = omega arith
small-zeros n (suc (suc (suc zero))) = omega arith
small-zeros n (suc (suc (suc (suc zero)))) = omega arith
small-zeros n (suc (suc (suc (suc (suc j))))) = omega arith

module _ (t n : ℕ) (below : t < threads) (st : State) (sound : SoundState n st) (long : 44 ≤ length st.numbers) where
  more : (m : ℕ) → n ≤ m → Calm n m st st
  more m h = calm_more n m st h

  raised-calm : (m : ℕ) → n + 1 ≤ m → Calm n m st (version_raised st t)
  raised-calm m h =
      calm-trans (calm-clocks n (n + 1) st (version_raised st t).clocks (raise-grows n st.clocks t below))
      (calm_more (n + 1) m (version_raised st t) h)

  -- a quiet step, and the row is complete
  finished : (s : State) (k m : ℕ) → Calm n m st s → Steps t n m st (completed s t k)
  finished s k m q = calm-step (calm-trans q (completed-calm m s t k below)) sound

  rest : (numbers : Numbers) → SameCounts st.numbers numbers → (m : ℕ) → n ≤ m → Calm n m st (Machine.with_numbers st numbers)
  rest numbers same m h = calm-trans (more m h) (calm-rest m st st.values numbers same)

  schedules-next : (s : State) (es : List Entry) → ((m : ℕ) → n + length es ≤ m → Calm n m st s) →
      NextOf t n st (Machine.schedules s es)
  unfolding Machine.schedules
  schedules-next s es h = h

  tracked-grows : (m c : ℕ) → Grows m m (version_raised st t).clocks (Cell.store_tracked (version_raised st t).clocks t c)
  unfolding Cell.store_tracked
  tracked-grows m c =
      recorded-grows m (version_raised st t).clocks (Cell.store_race (version_raised st t).clocks t c) (stored c) t below

  stored_next : (k c o v : ℕ) → c < 4 → (m : ℕ) → n + 1 ≤ m →
      Steps t n m st
      (completed
      (Cell.store_done (with_clocks (version_raised st t) (Cell.store_tracked (version_raised st t).clocks t c)) t c (zeros 5) v o) t
      (one_more k))
  stored_next k c o v on m h =
      let up = version_raised st t in
      let tracked = with_clocks up (Cell.store_tracked up.clocks t c) in
      let q : Calm n m st tracked = calm-trans (raised-calm m h) (calm-clocks m m up tracked.clocks (tracked-grows m c)) in
      calm-after t n m below (completed-calm m (Cell.store_done tracked t c (zeros 5) v o) t (one_more k) below)
      (calm-before t n m m below q
      (store-steps m tracked t c (zeros 5) v o below on long (q.sound sound) (λ b. small-zeros m)))

  -- "1 store a; 2 store register"
  unless-next : (x : Race) (k opcode c o v : ℕ) → c < 4 →
      NextOf t n st
      (Machine.stores_unless x (version_raised st t)
      (with_clocks (version_raised st t) (Cell.store_tracked (version_raised st t).clocks t c)) t k opcode c o v)
  unless-next (race_of kind other) k opcode c o v on = raised-calm
  unless-next no_race k opcode c o v on = (inl (omega arith), λ m h. stored_next k c o v on m (omega arith))

  stores-next : (k opcode c o v : ℕ) → c < 4 → NextOf t n st (Machine.stores st t k opcode c o v)
  unfolding Machine.stores
  stores-next k opcode c o v on = unless-next (Cell.store_race (version_raised st t).clocks t c) k opcode c o v on

  -- accesses of the newest store
  reads-next : (x : AccessResult) (k opcode r slot mask : ℕ) → ((m : ℕ) → n ≤ m → Accessed t m below st x) →
      NextOf t n st (Machine.reads x t k opcode r slot mask)
  reads-next (raced kind other s) k opcode r slot mask h = λ m l. calm-trans (more m (omega arith)) (h m (omega arith))
  reads-next (read v s) k opcode r slot mask h = (
    inl (omega arith),
    λ m l.
        calm-before t n m m below (more m (omega arith))
        (calm-after t m m below (kept-calm m s t r v (one_more k) below) (h m (omega arith))),
  )

  leaves-next : (x : AccessResult) (k opcode c r : ℕ) → ((m : ℕ) → n ≤ m → Accessed t m below st x) →
      NextOf t n st (Machine.leaves_in x t k opcode c r)
  leaves-next (raced kind other s) k opcode c r h = λ m l. calm-trans (more m (omega arith)) (h m (omega arith))
  leaves-next (read v s) k opcode c r h = (
    inl (omega arith),
    λ m l.
        calm-before t n m m below (more m (omega arith))
        (calm-after t m m below (kept-calm m s t r v (one_more k) below) (h m (omega arith))),
  )

  -- "4 fence"
  fence-next : (p : Program) (k o : ℕ) (es : List Entry) → 1 ≤ length es →
      NextOf t n st (moves (completed (Machine.fences p st t o) t k) es)
  fence-next p k o es some =
      let up = version_raised st t in (
        inl some,
        λ m h. finished (Machine.fences p st t o) k m
            (calm-trans (raised-calm m (omega arith))
            (calm-clocks m m up (Machine.fences p st t o).clocks
            (fenced-grows m up.clocks up.marks up.numbers t _ o below))),
      )

  -- "7 yield"
  yield-calm : (k m : ℕ) → n ≤ m → Calm n m st (completed (Machine.yield_done st t) t k)
  yield-calm k m h =
      let a = st.numbers in
      let a1 = with_number a (State.state t) Machine.yielded in
      let a2 = with_number a1 (last_yield t) (Cell.version st.clocks t) in
      let a3 = with_number a2 (yields t) (one_more (number a2 (yields t))) in
      let s1 : SameCounts a a1 = counts-then a a (none-counted a) (State.state t) Machine.yielded (omega arith) in
      let s2 : SameCounts a a2 = counts-then a a1 s1 (last_yield t) (Cell.version st.clocks t) (omega arith) in
      let s3 : SameCounts a a3 = counts-then a a2 s2 (yields t) (one_more (number a2 (yields t))) (omega arith) in
      calm-trans
      (rest (Machine.yield_done st t).numbers (counts-then a a3 s3 (operation t) Machine.no_operation (omega arith)) m h)
      (completed-calm m (Machine.yield_done st t) t k below)

  -- "8 join thread"
  joined-calm : (target m : ℕ) → target < 5 → n + 1 ≤ m → Calm n m st (Machine.joined_with st t target)
  joined-calm target m l h =
      let up = version_raised st t in
      let one = join_into up.clocks (causality t) (causality target) in
      calm-trans (raised-calm m h)
      (calm-clocks m m up (Machine.joined_with st t target).clocks
      (grows-trans (join-grows m up.clocks (causality t) (causality target) (λ f. low (omega arith)))
      (join-grows m one (schedule_of t) (schedule_of target) (λ f. absurd (schedule-flows _ (omega arith) (omega arith) f)))))

  blocked-calm : (target m : ℕ) → n ≤ m → Calm n m st (Machine.blocked_on st t target)
  blocked-calm target m h =
      let a = st.numbers in
      let a1 = with_number a (State.state t) Machine.blocked in
      let a2 = with_number a1 (awaits t) target in
      let s1 : SameCounts a a1 = counts-then a a (none-counted a) (State.state t) Machine.blocked (omega arith) in
      let s2 : SameCounts a a2 = counts-then a a1 s1 (awaits t) target (omega arith) in
      rest (Machine.blocked_on st t target).numbers (counts-then a a2 s2 (operation t) Machine.no_operation (omega arith)) m h

  joins-next : (k opcode target : ℕ) → target < 5 → NextOf t n st (Machine.joins st t k opcode target)
  unfolding Machine.joins
  joins-next k opcode target l =
      pick (NextOf t n st) (Machine.is_in st.numbers Machine.ended target)
      (λ e. (
        inl (omega arith),
        λ m h.
            finished (Machine.joined_with st t target) (one_more k) m (joined-calm target m l (omega arith)),
      ))
      (λ e. schedules-next (Machine.blocked_on st t target) [] (λ m h. blocked-calm target m (omega arith)))

  -- a row that changes numbers alone
  done_next : (s : State) (k : ℕ) (es : List Entry) → ((m : ℕ) → n ≤ m → Calm n m st s) →
      NextOf t n st (moves (completed s t k) es)
  done_next s k es h =
      (inr (calm-trans (h n (omega arith)) (completed-calm n s t k below)).quiet, λ m l. finished s k m (h m (omega arith)))

  explores-next : (k opcode : ℕ) (on : Bool) → NextOf t n st (Machine.explores st t k opcode on)
  explores-next k opcode on =
      let a = st.numbers in
      let v : ℕ = cond on 1 0 in
      pick (NextOf t n st) (Machine.is_skipping a) (λ e. done_next st (one_more k) (entry t k opcode no_slot 0 0) more)
      (λ e. pick (NextOf t n st) (eqb (number a exploring) v) (λ f m h. more m (omega arith))
      (λ f. done_next (Machine.with_numbers st (with_number a exploring v)) (one_more k) (entry t k opcode no_slot 0 0)
      (rest (with_number a exploring v) (counts-then a a (none-counted a) exploring v (omega arith)))))

  skipped-calm : (m : ℕ) → n ≤ m → Calm n m st (Machine.skipped st)
  skipped-calm m h =
      let a = st.numbers in
      let s1 : SameCounts a (with_number a exploring 0) = counts-then a a (none-counted a) exploring 0 (omega arith) in
      rest (Machine.skipped st).numbers (counts-then a (with_number a exploring 0) s1 skipping 1 (omega arith)) m h

  writes-next : (x : Race) (k opcode c v : ℕ) →
      NextOf t n st (Machine.writes_unless x st (plain_write_done st t c v) t k opcode v)
  writes-next (race_of kind other) k opcode c v = λ m h. more m (omega arith)
  writes-next no_race k opcode c v =
      done_next (plain_write_done st t c v) (one_more k) (entry t k opcode no_slot 0 v)
      (λ m h. calm-trans (more m h) (plain-write-calm t m below st c v))

  acts-next : (p : Program) (k : ℕ) (op : Op) → Names (widest (row_count p t) k) op → NextOf t n st (Machine.acts p st t k op)
  unfolding Machine.acts_as
  acts-next p k (Table.load c o r) h = raised-calm
  acts-next p k (Table.store c o a) h = stores-next k 1 c o a h
  acts-next p k (Table.store_register c o r) h = stores-next k 2 c o (Machine.register st t r) h
  acts-next p k (Table.rmw c o f change r) h = raised-calm
  acts-next p k (Table.fence o) h = fence-next p (one_more k) o (entry t k 4 no_slot 0 0) (omega arith)
  acts-next p k (Table.unsync_load c r) h =
      reads-next (Cell.unsync_load_done st t c) k 5 r (Cell.newest (number st.numbers (count c))) 0
      (λ m h. unsync-accessed t m below st ((more m h).sound sound) c)
  acts-next p k (Table.with_mut c change r) h =
      leaves-next (Cell.mut_done st t c change) k 6 c r (λ m h. mut-accessed t m below st ((more m h).sound sound) c change)
  acts-next p k Table.yield h =
      schedules-next (completed (Machine.yield_done st t) t (one_more k)) (entry t k 7 no_slot 0 0)
      (λ m h. yield-calm (one_more k) m (omega arith))
  acts-next p k (Table.join target) h = joins-next k 8 target h
  acts-next p k (Table.jump target) h = done_next st target (entry t k 9 no_slot 0 0) more
  acts-next p k (Table.jump_if r a target) h =
      done_next st (cond (eqb (Machine.register st t r) a) target (one_more k)) (entry t k 10 no_slot 0 0) more
  acts-next p k (Table.jump_unless r a target) h =
      done_next st (cond (not (eqb (Machine.register st t r) a)) target (one_more k)) (entry t k 11 no_slot 0 0) more
  acts-next p k (Table.check r a) h =
      pick (NextOf t n st) (eqb (Machine.register st t r) a) (λ e. done_next st (one_more k) (entry t k 12 no_slot 0 0) more)
      (λ e m h. more m (omega arith))
  acts-next p k Table.critical h = explores-next k 13 false
  acts-next p k Table.explore_state h = explores-next k 14 true
  acts-next p k Table.skip_branch h = done_next (Machine.skipped st) (one_more k) (entry t k 15 no_slot 0 0) skipped-calm
  acts-next p k (Table.spurious r) h = λ m h. more m (omega arith)
  acts-next p k (Table.plain_read c r) h =
      reads-next (plain_read_done st t c) k 17 r no_slot 0 (λ m h. plain-read-accessed t m below st ((more m h).sound sound) c)
  acts-next p k (Table.plain_write c a) h = writes-next (plain_write_race st.clocks t c) k 18 c a

  -- A row begins, or a thread ends

  begun-calm : (m : ℕ) → n ≤ m → Calm n m st (Machine.row_begun st t)
  begun-calm m h =
      let a = st.numbers in
      let a1 = with_number a rows_begun (one_more (number a rows_begun)) in
      let a2 = with_number a1 (rows_of t) (one_more (number a1 (rows_of t))) in
      let s1 : SameCounts a a1 = counts-then a a (none-counted a) rows_begun (one_more (number a rows_begun)) (omega arith) in
      let s2 : SameCounts a a2 = counts-then a a1 s1 (rows_of t) (one_more (number a1 (rows_of t))) (omega arith) in
      rest (Machine.row_begun st t).numbers (counts-then a a2 s2 (phase t) Machine.to_act (omega arith)) m h

  pending-calm : (s : State) (op c m : ℕ) → Calm n m st s → Calm n m st (Machine.with_operation s t op c)
  pending-calm s op c m q =
      let a = s.numbers in
      let s1 : SameCounts a (with_number a (operation t) op) = counts-then a a (none-counted a) (operation t) op (omega arith) in
      calm-trans q
      (calm-rest m s s.values (Machine.with_operation s t op c).numbers
      (counts-then a (with_number a (operation t) op) s1 (operates_on t) c (omega arith)))

  begun-next : (p : Program) (k : ℕ) (op : Op) (x : Pending) → Names (widest (row_count p t) k) op →
      NextOf t n st (Machine.begun_as p st t k op x)
  begun-next p k op nothing h = acts-next p k op h
  begun-next p k op (pends action c) h =
      schedules-next (Machine.with_operation st t action c) [] (λ m h. pending-calm st action c m (more m (omega arith)))

  ended-calm : (m : ℕ) → n ≤ m → Calm n m st (Machine.thread_ended st t)
  unfolding Machine.thread_ended
  ended-calm m h =
      let a = st.numbers in
      let a1 = with_number a (State.state t) Machine.ended in
      let a2 = with_number a1 (operation t) Machine.no_operation in
      let s1 : SameCounts a a1 = counts-then a a (none-counted a) (State.state t) Machine.ended (omega arith) in
      let s2 : SameCounts a a2 = counts-then a a1 s1 (operation t) Machine.no_operation (omega arith) in
      rest (Machine.thread_ended st t).numbers
      (λ c l. counts-threads (Machine.freed t) freed-counts 5 0 a2 (omega arith) c l ∙ s2 c l) m h
    where
      freed-counts : (u : ℕ) (a : Numbers) → u < 5 → SameCounts a (Machine.freed t u a)
      freed-counts u a l =
          pick (SameCounts a) (Machine.is_in a Machine.blocked u && eqb (number a (awaits u)) t)
          (λ e. counts-then a a (none-counted a) (State.state u) Machine.runnable (omega arith)) (λ e. none-counted a)

-- a quiet step comes before
module _ (t n : ℕ) (below : t < threads) {a b : State} (q : Calm n n a b) where
  before-notes : (s : State) (es : List Entry) → Notes b s es → Notes a s es
  before-notes s es (inl h) = inl h
  before-notes s es (inr h) = inr (quiet-trans q.quiet h)

  before-next : (mv : Move State) → NextOf t n b mv → NextOf t n a mv
  before-next (moves s es) (h, k) = (before-notes s es h, λ m l. calm-before t n n m below q (k m l))
  before-next (asks s es x (which_thread points initial standings)) h = λ m l. calm-trans q (h m l)
  before-next (asks s es x (which_slot offered)) h = λ m l. calm-trans q (h m l)
  before-next (asks s es x which_bit) h = λ m l. calm-trans q (h m l)
  before-next (stops s f) h = λ m l. calm-trans q (h m l)
  before-next (ends s) h = h

module _ (t n : ℕ) (below : t < threads) (st : State) (sound : SoundState n st) (long : 44 ≤ length st.numbers) where
  begun-long : 44 ≤ length (Machine.row_begun st t).numbers
  begun-long =
      let a = st.numbers in
      let a1 = with_number a rows_begun (one_more (number a rows_begun)) in
      let a2 = with_number a1 (rows_of t) (one_more (number a1 (rows_of t))) in
      omega (
        arith,
        number-kept a rows_begun (one_more (number a rows_begun)),
        number-kept a1 (rows_of t) (one_more (number a1 (rows_of t))),
        number-kept a2 (phase t) Machine.to_act,
      )

  begins-next : (p : Program) (k : ℕ) (op : Op) → Names (widest (row_count p t) k) op →
      NextOf t n st (Machine.begins p st t k op)
  unfolding Machine.begins
  begins-next p k op named =
      let calm = begun-calm t n below st sound long n (omega arith) in
      pick (NextOf t n st) (leb p.operations (number st.numbers rows_begun)) (λ e m h. calm_more n m st (omega arith))
      (λ e. before-next t n below calm (Machine.begun_as p (Machine.row_begun st t) t k op (pending_of op))
      (begun-next t n below (Machine.row_begun st t) (calm.sound sound) begun-long p k op (pending_of op) named))

  row_next : (p : Program) (k : ℕ) (row : Decoded Op) → RowNames (widest (row_count p t) k) row → NextOf t n st (Machine.of_row p st t k row)
  unfolding RowNames
  row_next p k refused named = λ m h. calm_more n m st (omega arith)
  row_next p k (decoded op) named =
      pick (NextOf t n st) (Machine.is_to_begin st t) (λ e. begins-next p k op named) (λ e. acts-next t n below st sound long p k op named)

  at_next : (p : Program) (k : ℕ) → NextOf t n st (Machine.next_at p st t k)
  unfolding Machine.next_at
  at_next p k =
      pick (NextOf t n st) (Machine.is_to_begin st t && leb (row_count p t) k)
      (λ e. schedules-next t n below st sound long (Machine.thread_ended st t) []
      (λ m h. ended-calm t n below st sound long m (omega arith)))
      (λ e. row_next p k (row_of p t k) (row-in-place p t k))

pub next-steps : (p : Program) (n : ℕ) (st : State) → SoundState n st → 44 ≤ length st.numbers →
    NextOf (current st) n st (Machine.next p st).move
unfolding Machine.next
next-steps p n st sound long =
    pick (λ (x : Event.Event State). NextOf (current st) n st x.move) (ltb (current st) threads)
    (λ e. at_next (current st) n (ltb-true (current st) threads e) st sound long p (active_row st))
    (λ e m h. calm_more n m st (omega arith))
