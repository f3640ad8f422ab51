-- A state with its numbers linked to what each thread began, owes and waits for; and the state's bounds from there and back.
-- Assumes nothing.
--     At                   so a state stands
--     opened               a bounded state stands so
--     holds, asks-thread, asks-row, over         and one that stands so is bounded
--     part-eased, eased-at           less is asked of a part, of the vectors
--     has_room             a thread's rows leave its version room
--     Ending, Going        what a move leaves, where it does not ask and where it may
use Prim.Native.Nat.{ℕ, ◌+◌, ◌≤◌, ◌<◌}
use mathlib.Core.Path.{◌≡◌, refl, ap, sym, ◌∙◌}
use native.Mathlib.Omega.{arith}
use Rattle.rules.specs.Vector.{largest}
use Rattle.rules.specs.Event.{Move}
use Rattle.rules.specs.State.{State, Numbers, threads}
use Rattle.rules.specs.Cell.{version}
use Rattle.rules.specs.Machine.{Program, current, machine}
use Rattle.rules.proofs.NumberLaws.{five-has, five-same}
use Rattle.kept.specs.Kept.{OfNext, OfAnswer}
use Rattle.kept.proofs.Held.{answer-next}
use Rattle.bounds.specs.Bounds.{Counter, of_versions, of_choices, given, but, nothing, rows_in, owed, waiting, PartBounded, NumbersBounded, Bounded, BoundsHold, BoundsScheduling, BoundsReading, BoundsAsked, BoundsLeft}
use Rattle.bounds.proofs.Parts.{eased}
use Rattle.bounds.proofs.Accesses.{Sound}
use Rattle.bounds.proofs.Numbers.{given-own, given-other, of-given, re-owed, Links}

-- Thread t is active. Each thread has begun so many rows and owes so much (for the tally, so much), and waits for at most so much
pub record At (p : Program) (t n : ℕ) (rows tallied owing waits least : ℕ → ℕ) (P : Counter → ℕ → ℕ → Type 0)
    (st : State) : Type 0 where
  pub sound : Sound P least st
  pub tally : NumbersBounded p n tallied least st.numbers
  pub links : Links t rows owing waits st.numbers

-- the part of another function of the same thread is smaller
given-less : (s t v : ℕ) (f g : ℕ → ℕ) (u : ℕ) → s ≡ t → f u ≤ g u → given s v f u ≤ given t v g u
given-less s t v f g u e h =
    of-given (λ (x : ℕ). given s v f u ≤ x) t v g u
    (λ q. rw (q, sym e, given-own s v f) (omega arith))
    (λ d. rw (given-other s v f u (λ q. d (q ∙ e))) h)

pub part-eased : (rows rows' o w o' w' : ℕ → ℕ) (k : Counter) (u x : ℕ) → rows u ≤ rows' u → o' u ≤ o u → w' u ≤ w u →
    PartBounded rows o w k u x → PartBounded rows' o' w' k u x
part-eased rows rows' o w o' w' of_versions u x e f g h = omega arith
part-eased rows rows' o w o' w' of_choices u x e f g h = omega arith

pub eased-at : {p : Program} {t n : ℕ} {rows tallied owing waits least : ℕ → ℕ} {P Q : Counter → ℕ → ℕ → Type 0} (st : State) →
    ((k : Counter) (u x : ℕ) → u < threads → P k u x → Q k u x) → At p t n rows tallied owing waits least P st →
    At p t n rows tallied owing waits least Q st
eased-at st f s = record {
  sound = record {
    clocks = record { vectors = eased st.clocks f s.sound.clocks.vectors; since = s.sound.clocks.since };
    sights = s.sound.sights;
  };
  tally = s.tally;
  links = s.links;
}

module _ {p : Program} {t n : ℕ} {rows owing waits least o w : ℕ → ℕ} (st : State)
    (s : At p t n rows owing owing waits least (PartBounded rows o w) st) where
  bounded : (o' w' : ℕ → ℕ) → ((u : ℕ) → u < threads → o' u ≤ o u) → ((u : ℕ) → u < threads → w' u ≤ w u) → Bounded p o' w' st n
  bounded o' w' f g =
      let same = s.links.owes in
      record {
        vectors = eased st.clocks
            (λ k u x b h. part-eased rows (rows_in st.numbers) o w o' w' k u x (omega (arith, s.links.begun_rows u b)) (f u b)
            (g u b) h)
            s.sound.clocks.vectors;
        sights = s.sound.sights;
        tally = re-owed st.numbers s.tally (owed st.numbers) (version st.clocks)
            (omega (arith, s.tally.entries, five-same owing (owed st.numbers) same)) (λ u b. omega (arith, same u b))
            s.sound.clocks.since;
      }

  pub holds : ((u : ℕ) → u < threads → owing u ≤ o u) → ((u : ℕ) → u < threads → but t waits u ≤ w u) → BoundsHold p st n
  holds f g =
      bounded (owed st.numbers) (but (current st) (waiting st.numbers))
      (λ u b. omega (arith, s.links.owes u b, f u b))
      (λ u b. omega (
        arith,
        g u b,
        given-less (current st) t 0 (waiting st.numbers) waits u s.links.runs
            (s.links.pends u b),
      ))

  pub asks-thread : ((u : ℕ) → u < threads → owing u ≤ o u) → ((u : ℕ) → u < threads → waits u ≤ w u) → BoundsScheduling p st n
  asks-thread f g =
      bounded (owed st.numbers) (waiting st.numbers) (λ u b. omega (arith, s.links.owes u b, f u b))
      (λ u b. omega (arith, g u b, s.links.pends u b))

  pub asks-row : t < threads → owing t ≡ 1 → ((u : ℕ) → u < threads → but t owing u ≤ o u) →
      ((u : ℕ) → u < threads → but t waits u ≤ w u) →
      BoundsReading p st n
  asks-row below e f g = (
    bounded (but (current st) (owed st.numbers)) (but (current st) (waiting st.numbers))
        (λ u b. omega (
          arith,
          f u b,
          given-less (current st) t 0 (owed st.numbers) owing u s.links.runs
              (omega (arith, s.links.owes u b)),
        ))
        (λ u b. omega (
          arith,
          g u b,
          given-less (current st) t 0 (waiting st.numbers) waits u s.links.runs
              (s.links.pends u b),
        )),
    ap (owed st.numbers) s.links.runs ∙ s.links.owes t below ∙ e,
  )

pub over : {p : Program} {t n : ℕ} {rows owing waits least : ℕ → ℕ} (o w : ℕ → ℕ) (st : State) →
    At p t n rows owing owing waits least (PartBounded rows o w) st → BoundsLeft p st n
over o w st s = bounded {o = o} {w = w} st s nothing nothing (λ u b. omega arith) (λ u b. omega arith)

-- a bounded state, by what its numbers say
pub opened : {p : Program} {o w : ℕ → ℕ} {n : ℕ} (st : State) → Bounded p o w st n →
    At p (current st) n (rows_in st.numbers) (owed st.numbers) (owed st.numbers) (waiting st.numbers)
    (version st.clocks)
    (PartBounded (rows_in st.numbers) o w) st
opened st s = record {
  sound = record { clocks = record { vectors = s.vectors; since = λ u b. omega arith }; sights = s.sights };
  tally = s.tally;
  links = record {
    held = s.tally.held;
    runs = refl;
    begun_rows = λ u b. refl;
    owes = λ u b. refl;
    pends = λ u b. omega arith;
  };
}

-- the rows of a thread leave its version room
pub has_room : {p : Program} {n : ℕ} {owing most : ℕ → ℕ} (a : Numbers) (t : ℕ) → t < threads → p.operations + 2 < largest →
    NumbersBounded p n owing most a →
    rows_in a t + 2 < largest
has_room a t b h s = omega (arith, five-has (rows_in a) t b, s.rows, s.limit)

-- a move that does not ask
abbrev pub Ending : Program → ℕ → Move State → Type 0
Ending p n m = OfAnswer (machine p) (BoundsHold p) (BoundsLeft p) n m

abbrev pub Going : Program → ℕ → Move State → Type 0
Going p n m = OfNext (machine p) (BoundsHold p) (BoundsAsked p) (BoundsLeft p) n m

pub ending-going : (p : Program) (n : ℕ) (m : Move State) → Ending p n m → Going p n m
ending-going p = answer-next (machine p) (BoundsHold p) (BoundsAsked p) (BoundsLeft p)
