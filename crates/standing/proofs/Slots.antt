-- The questions for a slot and for a bit: that they can be answered, and how the row goes on with its answer. Assumes nothing.
--     slot-answerable             some slot is offered, and those that are offered are slots
--     slot-after, bit-after       a load or an RMW reads a slot that is live; a spurious row takes its bit
use Prim.Native.Nat.{ℕ, ◌+◌, ◌-◌, ◌≤◌, ◌<◌}
use mathlib.Core.List.{List}
use mathlib.Core.Bool.{Bool, cond}
use mathlib.Core.Path.{◌≡◌, refl, sym, subst, ◌∙◌}
use native.Mathlib.Omega.{arith}
use Rattle.rules.specs.Table as Table
use Rattle.rules.specs.Table.{Op, decoded, room_of, threads_of, cells_of, judged, good}
use Rattle.rules.specs.Event.{Matched, read_slot, take_bit}
use Rattle.rules.specs.State as State
use Rattle.rules.specs.State.{State, Numbers, number, marks_of, threads, cells, phase, rows_begun, next_row, awaits, count}
use Rattle.rules.specs.Cell.{matched_load, matched_rmw, live_in}
use Rattle.rules.specs.Machine as Machine
use Rattle.rules.specs.Machine.{Program, current, active_op, active_role, row_count, to_act}
use Rattle.rules.proofs.NumberLaws.{five-has}
use Rattle.rules.proofs.SlotLaws.{Long, matched-long, offered-long, live-most}
use Rattle.rules.proofs.MeasureRows.{Names}
use Rattle.rules.proofs.Measure.{seen, other_work}
use Rattle.kept.specs.Kept.{FittingSlot, Offering}
use Rattle.kept.proofs.Answers.{slot-offered}
use Rattle.standing.specs.Standing.{Thread, FactsLeft, FactsHold, MatchOfRow, of_load, of_rmw, SomeOffered, under_way}
use Rattle.standing.proofs.Facts.{opened}
use Rattle.standing.proofs.Rows.{accepted-row}
use Rattle.standing.proofs.Steps as Steps
use Rattle.standing.proofs.Steps.{After, On}

-- a slot that is answered is live
slot-live : (numbers : Numbers) (c : ℕ) (m : Matched) → Long (live_in numbers c) m → (slot : ℕ) (values : List ℕ) →
    FittingSlot m slot values → slot < number numbers (count c)
slot-live numbers c m long slot values fit =
    omega (
      arith,
      slot-offered m slot values fit,
      offered-long (live_in numbers c) m long fit.offered fit.is,
      live-most (number numbers (count c)),
    )

load-long : (st : State) (t c o : ℕ) → Long (live_in st.numbers c) (matched_load st.clocks (marks_of st.marks c) st.numbers t c o)
unfolding matched_load
load-long st t c o = matched-long _ (live_in st.numbers c) 0

rmw-long : (st : State) (c : ℕ) → Long (live_in st.numbers c) (matched_rmw st.clocks st.numbers c)
unfolding matched_rmw
rmw-long st c = matched-long _ (live_in st.numbers c) 0

-- A row that has asked
module _ (p : Program) (held : cells_of p.table ≤ cells) (few : threads_of p.table ≤ threads) (accepted : judged p.table ≡ good)
    (st : State) (n : ℕ) (holds : FactsHold p st n) (acts : number st.numbers (phase (current st)) ≡ to_act) where
  abbrev a : Numbers
  a = st.numbers

  abbrev t : ℕ
  t = current st

  abbrev s : ℕ
  s = number a (State.state t)

  abbrev k : ℕ
  k = number a (next_row t)

  abbrev w : ℕ
  w = number a (awaits t)

  abbrev b : ℕ
  b = number a rows_begun

  abbrev q : ℕ
  q = under_way a - number a (phase t)

  stands : FactsLeft p st n
  stands = holds.over

  below : t < threads
  below = omega (arith, stands.runs)

  own : Thread p t s k to_act w
  own = rw acts at (stands.each t below)

  -- what its row names is there
  names : (op : Op) → active_op p st ≡ decoded op → Names (room_of p.table (row_count p t) k) op
  names op e =
      let said = accepted-row p accepted t k (own.acts refl) in
      let same : said.0 ≡ op = cc said.1 in
      subst (Names (room_of p.table (row_count p t) k)) same said.2

  -- some slot is offered, and those that are offered are slots
  pub slot-answerable : SomeOffered → (m : Matched) → MatchOfRow p st m → Offering m
  slot-answerable some m (of_load c o r e f) = record {
    some = λ offered g. some.to_load st.clocks (marks_of st.marks c) a t c o offered (stands.counted c (names _ e)) (sym f ∙ g);
    few = λ offered g. omega (arith, offered-long (live_in a c) m (rw f (load-long st t c o)) offered g, live-most (number a (count c)));
  }
  slot-answerable some m (of_rmw c o f change r e g) = record {
    some = λ offered h. some.to_rmw st.clocks a c offered (stands.counted c (names _ e)) (sym g ∙ h);
    few = λ offered h. omega (arith, offered-long (live_in a c) m (rw g (rmw-long st c)) offered h, live-most (number a (count c)));
  }

  sum : n + (q + to_act) ≡ b
  sum = omega (arith, stands.entries, five-has (λ (i : ℕ). number a (phase i)) t below)

  on : On p held few t s k w b (other_work a t) q n stands.runs holds.ready own sum stands.limited a
  on = record {
    is = seen a t below stands.whole refl refl acts;
    facts = opened p held few t below st n threads (λ d. refl) stands;
  }

  read-after : (m : Matched) → MatchOfRow p st m → (slot mask : ℕ) (values : List ℕ) → FittingSlot m slot values →
      After p n (Machine.read_from st t k slot mask (active_role p st))
  read-after m (of_load c o r e f) slot mask values fit =
      rw e
      (Steps.load_after p held few t s k w b (other_work a t) q n stands.runs holds.ready own sum stands.limited st c o r slot mask
      (slot-live a c m (rw f (load-long st t c o)) slot values fit) on)
  read-after m (of_rmw c o f change r e g) slot mask values fit =
      rw e
      (Steps.rmw-after p held few t s k w b (other_work a t) q n stands.runs holds.ready own sum stands.limited st c o f change r slot mask
      (names _ e) (slot-live a c m (rw g (rmw-long st c)) slot values fit) on)

  pub slot-after : (m : Matched) → MatchOfRow p st m → (slot : ℕ) (values : List ℕ) → FittingSlot m slot values →
      After p n (Machine.answered p st (read_slot slot values))
  unfolding Machine.answered
  slot-after m reading slot values fit = read-after m reading slot (Machine.mask_of 0 values) values fit

  pub bit-after : (r : ℕ) → active_op p st ≡ decoded (Table.spurious r) → (bit : Bool) → After p n (Machine.answered p st (take_bit bit))
  unfolding Machine.answered
  bit-after r e bit =
      rw e
      (Steps.bit-after p held few t s k w b (other_work a t) q n stands.runs holds.ready own sum stands.limited st r (cond bit 1 0) on)
