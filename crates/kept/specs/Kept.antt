-- What a machine keeps from tick to tick, so that it holds at every tick of every execution of every run. Assumes nothing.
--     Fitting, Answerable     an answer that a branch made for the question can give; a question that has one
--     Possible, Falls         a move that is not the impossible one; one that leaves fewer ticks
--     OfNext, OfAnswer        what is kept by what a machine does next, and by how it goes on with an answer
--     Keeps                   a machine keeps something
--     Never                   and never comes to the impossible outcome by itself
use Rattle.std.specs.Prelude.{ℕ, ◌+◌, ◌≤◌, ◌<◌, List, Bool, ◌≡◌, length, get_or}
use Rattle.rules.specs.Vector.{Whom, nobody, thread}
use Rattle.rules.specs.Event.{impossible, Standing, cannot_run, other, Matched, offers, slots_of, Question, which_thread, which_slot, which_bit}
use Rattle.rules.specs.Event.{Pick, run_thread, read_slot, take_bit, Entry, Move, moves, asks, stops, ends, Machine}
use Rattle.rules.specs.Explorer.{Limits}

-- nobody where no thread can run, and else one that can
abbrev pub FittingThread : Whom → List Standing → Whom → Type 0
FittingThread initial standings nobody = (initial ≡ nobody) × ((t : ℕ) → get_or standings t cannot_run ≡ cannot_run)
FittingThread initial standings (thread t) = (t < length standings) × (get_or standings t cannot_run ≡ cannot_run → ⊥)

-- one of the slots that are offered, with all of them
pub record FittingSlot (m : Matched) (slot : ℕ) (values : List ℕ) : Type 0 where
  pub offered : List Bool
  pub is : m ≡ offers offered
  pub all : values ≡ slots_of offered
  pub at : ℕ
  pub within : at < length values
  pub chosen : slot ≡ get_or values at 0

abbrev pub Fitting : Question → Pick → Type 0
Fitting (which_thread points initial standings) (run_thread whom at) = FittingThread initial standings whom
Fitting (which_thread points initial standings) (read_slot slot values) = ⊥
Fitting (which_thread points initial standings) (take_bit bit) = ⊥
Fitting (which_slot m) (run_thread whom at) = ⊥
Fitting (which_slot m) (read_slot slot values) = FittingSlot m slot values
Fitting (which_slot m) (take_bit bit) = ⊥
Fitting which_bit (run_thread whom at) = ⊥
Fitting which_bit (read_slot slot values) = ⊥
Fitting which_bit (take_bit bit) = Unit

-- where slots are offered, there is one, and they are slots
pub record Offering (m : Matched) : Type 0 where
  pub some : (offered : List Bool) → m ≡ offers offered → 0 < length (slots_of offered)
  pub few : (offered : List Bool) → m ≡ offers offered → length offered ≤ 7

-- the initial thread is one that can run; there is none only where the others that can have yielded
pub record FineScheduling (initial : Whom) (standings : List Standing) : Type 0 where
  pub five : length standings ≡ 5
  pub can : (t : ℕ) → initial ≡ thread t → (t < 5) × (get_or standings t cannot_run ≡ cannot_run → ⊥)
  pub none : initial ≡ nobody → (t : ℕ) → get_or standings t cannot_run ≡ other → ⊥

abbrev pub Answerable : Question → Type 0
Answerable (which_thread points initial standings) = FineScheduling initial standings
Answerable (which_slot m) = Offering m
Answerable which_bit = Unit

-- a fault other than the impossible one
abbrev pub Possible : {S : Type 0} → Move S → Type 0
Possible (moves s es) = Unit
Possible (asks s es exploring q) = Unit
Possible (stops s f) = f ≡ impossible → ⊥
Possible (ends s) = Unit

-- the ticks that are left fall at every tick
abbrev pub Falls : {S : Type 0} → (S → ℕ) → ℕ → Move S → Type 0
Falls left n (moves s es) = left s < n
Falls left n (asks s es exploring q) = Unit
Falls left n (stops s f) = Unit
Falls left n (ends s) = Unit

module _ (M : Machine) where
  -- of a state, with so many entries in the trace
  abbrev pub Holding : Type 1
  Holding = M.State → ℕ → Type 0

  -- of a state that asks, with so many entries in the trace, and of its question
  abbrev pub Asking : Type 1
  Asking = M.State → ℕ → Question → Type 0

  abbrev pub OfNext : Holding → Asking → Holding → ℕ → Move M.State → Type 0
  OfNext Holds Asked Over n (moves s es) = Holds s (n + length es)
  OfNext Holds Asked Over n (asks s es exploring q) = Asked s (n + length es) q
  OfNext Holds Asked Over n (stops s f) = Over s n
  OfNext Holds Asked Over n (ends s) = Over s n

  -- a machine that has been answered does not ask again at once
  abbrev pub OfAnswer : Holding → Holding → ℕ → Move M.State → Type 0
  OfAnswer Holds Over n (moves s es) = Holds s (n + length es)
  OfAnswer Holds Over n (asks s es exploring q) = ⊥
  OfAnswer Holds Over n (stops s f) = Over s n
  OfAnswer Holds Over n (ends s) = Over s n

  -- between ticks; of a state that asks; and, which may be less, of one that has asked, stopped or ended: from there no tick is made,
  -- so that nothing has to be kept from there on
  pub record Keeps (Holds : Holding) (Asked : Asking) (Over : Holding) : Type 0 where
    pub at-start : Holds M.start 0
    pub at_next : (s : M.State) (n : ℕ) → Holds s n → OfNext Holds Asked Over n (M.next s).move
    pub at-answer : (s : M.State) (n : ℕ) (q : Question) (a : Pick) → Asked s n q → Fitting q a →
        OfAnswer Holds Over n (M.answered s a)
    -- the path may refuse any question, and ticks and entries may run out
    pub at-question : (s : M.State) (n : ℕ) (q : Question) → Asked s n q → Over s n
    pub at_tick : (s : M.State) (n : ℕ) → Holds s n → Over s n

  -- under these limits: the entries have room, the ticks suffice, and no move is the impossible one
  pub record Never (limits : Limits) (Holds : Holding) (Asked : Asking) (Over : Holding) : Type 0 where
    pub keeps : Keeps Holds Asked Over
    pub room : (s : M.State) (n : ℕ) → Over s n → n ≤ limits.operations
    pub next-possible : (s : M.State) (n : ℕ) → Holds s n → Possible (M.next s).move
    pub question : (s : M.State) (n : ℕ) (q : Question) → Asked s n q → Answerable q
    pub answer-possible : (s : M.State) (n : ℕ) (q : Question) (a : Pick) → Asked s n q → Fitting q a → Possible (M.answered s a)
    pub left : M.State → ℕ
    pub enough : left M.start < limits.ticks
    pub next-falls : (s : M.State) (n : ℕ) → Holds s n → Falls left (left s) (M.next s).move
    pub answer-falls :
        (s : M.State) (n : ℕ) (u : M.State) (es : List Entry) (exploring : Bool) (q : Question) (a : Pick) → Holds s n
        → (M.next s).move ≡ asks u es exploring q → Fitting q a → Falls left (left s) (M.answered u a)
