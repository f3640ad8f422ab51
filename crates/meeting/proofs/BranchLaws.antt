-- A branch that a question adds. Assumes nothing.
--     pushes-comes, thread-reaches, bit-reaches, slot-reaches      a branch is added, or none can be
--     offers-reaches, equal-reaches                                of a load, by what it is offered
--     reach-there, reach-adds                                      where one stands, and where none does
use Rattle.std.specs.Prelude.{Result, Ok, Err}
use Prim.Native.Nat.{ℕ, zero, suc, ◌+◌, ◌*◌, ◌≤◌}
use mathlib.Core.List.{List, [], ◌∷◌, ◌++◌, map}
use mathlib.Core.Bool.{Bool, true, false, cond}
use mathlib.Core.Path.{◌≡◌, refl, ap, sym, subst, ◌∙◌}
use native.Mathlib.Omega.{arith}
use borrow.Author.Tests.{ltb-true, eq-eqb, ne_eqb}
use lib.Dec.{eqb, ltb}
use lib.ListN.{length, take, drop, length-append}
use lib.Seq.{sets, sets-eq, take-append_seam}
use Rattle.rules.specs.Event as rules
use Rattle.rules.specs.Event.{slots_of, slots_from}
use Rattle.rules.specs.State.{State, Clocks, Marks as MarkTable, Values, Numbers, number, count, marks_of}
use Rattle.rules.specs.Cell as cells
use Rattle.rules.specs.Table as Table
use Rattle.decode.specs.Ops.{decoded_of}
use Rattle.event.specs.Moves.{offered_as, matched_for}
use Rattle.matches.specs.Offers.{Scan, slots, equal_met, scanned, offered}
use Rattle.matches.specs.declared.EqualOrders.{EqualOrders}
use Rattle.rules.specs.Path as paths
use Rattle.rules.specs.Path.{Branch, Added, thread_added, load_added, spurious_added, open_at}
use Rattle.rules.specs.Machine.{Role, loads, stores_operand, stores_register, modifies, takes_bit, otherwise, role_in, exploring_now, initial, standing, every_thread}
use Rattle.rules.specs.Explorer as explorer
use Rattle.rules.specs.Explorer.{Walk, Tick, goes, seed_of, or_fault, faults}
use Rattle.layout.specs.Tables.{state}
use Rattle.path.specs.Holds.{Holds}
use Rattle.path.specs.Places.{records_of}
use Rattle.path.specs.Pushes.{pushed_of, grown, Pushes, PushesThread}
use Rattle.std.specs.Prelude.{Result}
use Rattle.path.specs.declared.NotAdded.{NotAdded}
use Rattle.event.specs.declared.Fault.TheVariants as fault
use Rattle.event.specs.declared.Site.{Site}
use Rattle.event.specs.declared.Question.{Question}
use Rattle.event.specs.declared.Question.TheVariants as question
use Rattle.meeting.specs.Stands.{lent, Stands, ComesTo, GoesOn, FaultMet, site_of}
use Rattle.meeting.specs.Branches.{Met, OneMore, AddedTo, branched, asked_at, BranchesHeld, Reaches, added_at, reached_at}
use Rattle.meeting.specs.declared.Cursor.{Cursor}
use Rattle.event.specs.declared.Here.{Here}
use Rattle.meeting.specs.declared.Ticked.{Ticked}
use Rattle.meeting.proofs.ComesLaws.{same-stands, comes-goes, comes-faulted}

module _ (c : Cursor) (r : Ticked) (site : Site) (clocks : Clocks) (marks : MarkTable) (numbers : Numbers) (entry exit : List ℕ) where
  module _ (w : Walk State) (values : Values) (trace : List ℕ) (s : Stands (lent clocks marks values numbers entry trace) c w) where
    refused-stands : Holds exit w.ledger.path → Stands (lent clocks marks values numbers exit trace) c w
    refused-stands h =
        record { is_state = s.is_state; holds = h; is-len = s.is-len; is-opened = s.is-opened; is_pos = s.is_pos; front = s.front; is-entries = s.is-entries }

    more-stands : (b : Branch) → Holds exit (w.ledger.path ++ (b ∷ [])) → OneMore c (open_at b) r.cursor → Stands (lent clocks marks values numbers exit trace) r.cursor (explorer.with_ledger w (explorer.with_branch w.ledger b))
    more-stands b h m =
        record {
          is_state = s.is_state;
          holds = h;
          is-len = length-append w.ledger.path (b ∷ []) ∙ omega (arith, s.is-len, m.more-len);
          is-opened = omega (arith, s.is-opened, m.more-opened);
          is_pos = s.is_pos ∙ sym m.same-pos;
          front = s.front;
          is-entries = s.is-entries ∙ sym m.same_entries;
        }

    answer-comes : (a : Added) (p : Result ℕ NotAdded) → p ≡ pushed_of a → Holds exit (grown w.ledger.path a) → AddedTo p site c r
        → ComesTo r.outcome r.cursor (lent clocks marks values numbers exit trace) (branched (site_of site) w (or_fault a))
    answer-comes (paths.added b) p e h to =
        let m = subst (λ (x : Result ℕ NotAdded). AddedTo x site c r) e to in
        comes-goes r _ _ _ m.0 refl (more-stands b h m.1)
    answer-comes paths.full p e h to =
        let m = subst (λ (x : Result ℕ NotAdded). AddedTo x site c r) e to in
        comes-faulted r _ w fault.Full site _ m.is refl (same-stands m.stays (refused-stands h))
    answer-comes paths.preempted p e h to =
        let m = subst (λ (x : Result ℕ NotAdded). AddedTo x site c r) e to in
        comes-faulted r _ w fault.Preemptions site _ m.is refl (same-stands m.stays (refused-stands h))

  records : (L : explorer.Limits) → BranchesHeld L entry → records_of entry ≡ L.branches
  records L h = omega (arith, h.branches)

  pub pushes-comes : {most : ℕ} {answer : ℕ → List Branch → Added} {p : Result ℕ NotAdded} → Pushes entry exit c.len most answer p → AddedTo p site c r
      → (L : explorer.Limits) (w : Walk State) (values : Values) (trace : List ℕ) → BranchesHeld L entry → Stands (lent clocks marks values numbers entry trace) c w
      → ComesTo r.outcome r.cursor (lent clocks marks values numbers exit trace) (branched (site_of site) w (or_fault (answer L.branches w.ledger.path)))
  pushes-comes {most} {answer} {p} h to L w values trace room s =
      subst (λ (B : ℕ). ComesTo r.outcome r.cursor (lent clocks marks values numbers exit trace) (branched (site_of site) w (or_fault (answer B w.ledger.path)))) (records L room)
      (answer-comes w values trace s (answer (records_of entry) w.ledger.path) p (h.says w.ledger.path s.holds s.is-len) (h.holds w.ledger.path s.holds s.is-len) to)

  pub pushes-thread-comes : {exploring : Bool} {seed : List ℕ} {p : Result ℕ NotAdded} → 16 * c.len ≤ length entry → PushesThread entry exit c.len exploring seed p → AddedTo p site c r
      → (L : explorer.Limits) (w : Walk State) (values : Values) (trace : List ℕ) → BranchesHeld L entry → Stands (lent clocks marks values numbers entry trace) c w
      → ComesTo r.outcome r.cursor (lent clocks marks values numbers exit trace) (branched (site_of site) w (or_fault (thread_added L.branches w.ledger.path exploring seed)))
  pushes-thread-comes {exploring} {seed} {p} within h to L w values trace room s =
      subst (λ (B : ℕ). ComesTo r.outcome r.cursor (lent clocks marks values numbers exit trace) (branched (site_of site) w (or_fault (thread_added B w.ledger.path exploring seed)))) (records L room)
      (answer-comes w values trace s (thread_added (records_of entry) w.ledger.path exploring seed) p (h.says w.ledger.path s.holds s.is-len) (h.holds w.ledger.path s.holds s.is-len (omega (arith, room.branches, room.few, within))) to)

-- The question of each kind

module _ (c : Cursor) (r : Ticked) (h : Here) (q : Question) (clocks : Clocks) (marks : MarkTable) (numbers : Numbers) (entry exit : List ℕ) where
  abbrev adds : Question → State → explorer.Limits → Walk State → Tick State
  adds k st L w = branched (site_of h.site) w (explorer.pushed L.branches w.ledger.path (exploring_now st.numbers) (asked_at k h st))

  add-as : (k : Question) (w : Walk State) (values : Values) (L : explorer.Limits) → q ≡ k → w.state ≡ state clocks marks values numbers → adds k (state clocks marks values numbers) L w ≡ added_at q h L w
  add-as k w values L e st = sym (ap (λ (x : Question). added_at x h L w) e ∙ ap (λ (x : State). adds k x L w) st)

  module _ (met : Met c r exit) where
    added-reaches : (k : Question) → q ≡ k
        → ((L : explorer.Limits) (w : Walk State) (values : Values) (trace : List ℕ) → BranchesHeld L entry → Stands (lent clocks marks values numbers entry trace) c w
        → ComesTo r.outcome r.cursor (lent clocks marks values numbers exit trace) (adds k (state clocks marks values numbers) L w))
        → Reaches c r clocks marks numbers entry exit (added_at q h)
    added-reaches k e f =
        record {
          met = met;
          comes = λ L w values trace room s.
              subst (λ (y : Tick State). ComesTo r.outcome r.cursor (lent clocks marks values numbers exit trace) y) (add-as k w values L e s.is_state) (f L w values trace room s);
        }

    pub thread-reaches : {exploring : Bool} {seed : List ℕ} {p : Result ℕ NotAdded} → q ≡ question.Thread → exploring ≡ exploring_now numbers → seed ≡ seed_of (initial numbers) (map (standing numbers) every_thread)
        → 16 * c.len ≤ length entry → PushesThread entry exit c.len exploring seed p → AddedTo p h.site c r → Reaches c r clocks marks numbers entry exit (added_at q h)
    unfolding explorer.pushed
    thread-reaches {exploring} {seed} {p} e x y within push to =
        added-reaches question.Thread e
        (λ L w values trace room s.
        subst (λ (z : List ℕ). ComesTo r.outcome r.cursor (lent clocks marks values numbers exit trace) (branched (site_of h.site) w (or_fault (thread_added L.branches w.ledger.path (exploring_now numbers) z)))) y
        (subst (λ (b : Bool). ComesTo r.outcome r.cursor (lent clocks marks values numbers exit trace) (branched (site_of h.site) w (or_fault (thread_added L.branches w.ledger.path b seed)))) x
        (pushes-thread-comes c r h.site clocks marks numbers entry exit within push to L w values trace room s)))

    pub bit-reaches : {exploring : Bool} {p : Result ℕ NotAdded} → q ≡ question.Bit → exploring ≡ exploring_now numbers
        → Pushes entry exit c.len 1 (λ B bs. spurious_added B bs exploring) p → AddedTo p h.site c r → Reaches c r clocks marks numbers entry exit (added_at q h)
    unfolding explorer.pushed
    bit-reaches {exploring} {p} e x push to =
        added-reaches question.Bit e
        (λ L w values trace room s.
        subst (λ (b : Bool). ComesTo r.outcome r.cursor (lent clocks marks values numbers exit trace) (branched (site_of h.site) w (or_fault (spurious_added L.branches w.ledger.path b)))) x
        (pushes-comes c r h.site clocks marks numbers entry exit push to L w values trace room s))

    pub slot-reaches : q ≡ question.Slot → Reaches c r clocks marks numbers entry exit (added_at question.Slot h) → Reaches c r clocks marks numbers entry exit (added_at q h)
    slot-reaches e a = subst (λ (k : Question). Reaches c r clocks marks numbers entry exit (added_at k h)) (sym e) a

-- Where a branch stands, and where none does

module _ (c : Cursor) (r : Ticked) (h : Here) (q : Question) (clocks : Clocks) (marks : MarkTable) (numbers : Numbers) (entry : List ℕ) where
  pub reach-there : (c.pos ≡ c.len → ⊥) → Met c r entry → GoesOn c r → Reaches c r clocks marks numbers entry entry (reached_at q h)
  reach-there n met g =
      record {
        met = met;
        comes = λ L w values trace room s.
            let e : eqb w.pos (length w.ledger.path) ≡ false = ne_eqb w.pos (length w.ledger.path) (λ y. n (sym s.is_pos ∙ y ∙ s.is-len)) in
            comes-goes r _ w _ g.is (ap (λ (b : Bool). cond b (added_at q h L w) (goes w)) e) (same-stands g.stays s);
      }

  pub reach-adds : {exit : List ℕ} → c.pos ≡ c.len → Reaches c r clocks marks numbers entry exit (added_at q h) → Reaches c r clocks marks numbers entry exit (reached_at q h)
  reach-adds {exit} n a =
      record {
        met = a.met;
        comes = λ L w values trace room s.
            let e : eqb w.pos (length w.ledger.path) ≡ true = eq-eqb w.pos (length w.ledger.path) (s.is_pos ∙ n ∙ sym s.is-len) in
            subst (λ (y : Tick State). ComesTo r.outcome r.cursor (lent clocks marks values numbers exit trace) y) (sym (ap (λ (b : Bool). cond b (added_at q h L w) (goes w)) e)) (a.comes L w values trace room s);
      }

-- What a load or an RMW is offered

few-slots : (os : List Bool) (i : ℕ) → length (slots_from i os) ≤ length os
unfolding slots_from
few-slots [] i = omega arith
few-slots (true ∷ os) i = omega (arith, few-slots os (i + 1))
few-slots (false ∷ os) i = omega (arith, few-slots os (i + 1))

-- at most so many flags
abbrev FewBy : ℕ → rules.Matched → Type 0
FewBy n (rules.offers os) = length os ≤ n
FewBy n rules.equal = Unit

few-also : (b : Bool) (n : ℕ) (m : rules.Matched) → FewBy n m → FewBy (suc n) (cells.also_offered b m)
few-also b n (rules.offers os) h = omega (arith, h)
few-also b n rules.equal h = tt

few-fate : (f : cells.Fate) (n : ℕ) (m : rules.Matched) → FewBy n m → FewBy (suc n) (cells.by_fate f m)
few-fate cells.kept n m h = few-also true n m h
few-fate cells.dropped n m h = few-also false n m h
few-fate cells.equal_met n m h = tt

few-from : (fate : ℕ → cells.Fate) (n i : ℕ) → FewBy n (cells.matched_from fate n i)
unfolding cells.matched_from
few-from fate zero i = omega arith
few-from fate (suc n) i = few-fate (fate i) n (cells.matched_from fate n (i + 1)) (few-from fate n (i + 1))

few-seven : (k : ℕ) → k ≤ 7 → (m : rules.Matched) → FewBy k m → FewBy 7 m
few-seven k h (rules.offers os) f = omega (arith, f)
few-seven k h rules.equal f = tt

live-by : (n : ℕ) (b : Bool) → ltb n 7 ≡ b → cond b n 7 ≤ 7
live-by n true e = omega (arith, ltb-true n 7 e)
live-by n false e = omega arith

live-seven : (n : ℕ) → cells.live_stores n ≤ 7
live-seven n = live-by n (ltb n 7) refl

few-load : (clocks : Clocks) (rows : List (List ℕ)) (numbers : Numbers) (t c o : ℕ) → FewBy 7 (cells.matched_load clocks rows numbers t c o)
unfolding cells.matched_load
few-load clocks rows numbers t c o = few-seven (cells.live_in numbers c) (live-seven (number numbers (count c))) (cells.matched_from (cells.load_fate clocks rows numbers t c o) (cells.live_in numbers c) 0) (few-from (cells.load_fate clocks rows numbers t c o) (cells.live_in numbers c) 0)

few-rmw : (clocks : Clocks) (numbers : Numbers) (c : ℕ) → FewBy 7 (cells.matched_rmw clocks numbers c)
unfolding cells.matched_rmw
few-rmw clocks numbers c = few-seven (cells.live_in numbers c) (live-seven (number numbers (count c))) (cells.matched_from (cells.rmw_fate clocks numbers c) (cells.live_in numbers c) 0) (few-from (cells.rmw_fate clocks numbers c) (cells.live_in numbers c) 0)

few-as : (st : State) (t : ℕ) (role : Role) → FewBy 7 (offered_as st t role)
few-as st t (loads c o r) = few-load st.clocks (marks_of st.marks c) st.numbers t c o
few-as st t (modifies c o f change r) = few-rmw st.clocks st.numbers c
few-as st t (stores_operand c o a) = omega arith
few-as st t (stores_register c o r) = omega arith
few-as st t (takes_bit r) = omega arith
few-as st t otherwise = omega arith

few-for : (st : State) (t : ℕ) (row : Table.Decoded Table.Op) → FewBy 7 (matched_for st t row)
few-for st t row = few-as st t (role_in row)

-- the slots that were written are those that are offered
abbrev ReadBack : ℕ → List ℕ → rules.Matched → Type 0
ReadBack n seed (rules.offers os) = take n seed ≡ slots_of os
ReadBack n seed rules.equal = ⊥

abbrev count_of : Scan → ℕ
count_of (slots n dst) = n
count_of equal_met = 0

abbrev list_of : Scan → List ℕ
list_of (slots n dst) = dst
list_of equal_met = []

abbrev IsSlots : Scan → Type 0
IsSlots (slots n dst) = Unit
IsSlots equal_met = ⊥

take-sets : (dst vs : List ℕ) → length vs ≤ length dst → take (length vs) (sets dst 0 vs) ≡ vs
take-sets dst vs h = ap (take (length vs)) (sets-eq vs dst 0 (omega arith)) ∙ take-append_seam vs (drop (0 + length vs) dst)

read_back : (n : ℕ) (seed dst : List ℕ) (m : rules.Matched) → length dst ≡ 7 → FewBy 7 m → slots n seed ≡ offered m dst → ReadBack n seed m
read_back n seed dst (rules.offers os) long few e =
    ap (λ (k : ℕ). take k seed) (ap count_of e)
    ∙ ap (take (length (slots_of os))) (ap list_of e)
    ∙ take-sets dst (slots_of os) (omega (arith, few, few-slots os 0))
read_back n seed dst rules.equal long few e = subst IsSlots e tt

module _ (c : Cursor) (r : Ticked) (h : Here) (clocks : Clocks) (marks : MarkTable) (numbers : Numbers) (entry exit : List ℕ) (dst seed : List ℕ) (m : Result ℕ EqualOrders)
    (says : (values : Values) → scanned m seed ≡ offered (matched_for (state clocks marks values numbers) h.site.thread (decoded_of h.row)) dst) (met : Met c r exit) where
  offers-comes : (exploring : Bool) → exploring ≡ exploring_now numbers → (n : ℕ) → {p : Result ℕ NotAdded} → Pushes entry exit c.len 6 (λ B bs. load_added B bs exploring (take n seed)) p → AddedTo p h.site c r
      → (L : explorer.Limits) (w : Walk State) (values : Values) (trace : List ℕ) → BranchesHeld L entry → Stands (lent clocks marks values numbers entry trace) c w
      → (offer : rules.Matched) → ReadBack n seed offer
      → ComesTo r.outcome r.cursor (lent clocks marks values numbers exit trace) (branched (site_of h.site) w (explorer.load_pushed L.branches w.ledger.path (exploring_now numbers) offer))
  offers-comes exploring x n push to L w values trace room s (rules.offers os) back =
      subst (λ (z : List ℕ). ComesTo r.outcome r.cursor (lent clocks marks values numbers exit trace) (branched (site_of h.site) w (or_fault (load_added L.branches w.ledger.path (exploring_now numbers) z)))) back
      (subst (λ (b : Bool). ComesTo r.outcome r.cursor (lent clocks marks values numbers exit trace) (branched (site_of h.site) w (or_fault (load_added L.branches w.ledger.path b (take n seed))))) x
      (pushes-comes c r h.site clocks marks numbers entry exit push to L w values trace room s))
  offers-comes exploring x n push to L w values trace room s rules.equal back = absurd back

  pub offers-reaches : {n : ℕ} (exploring : Bool) {p : Result ℕ NotAdded} → m ≡ Ok n → exploring ≡ exploring_now numbers → length dst ≡ 7 → Pushes entry exit c.len 6 (λ B bs. load_added B bs exploring (take n seed)) p → AddedTo p h.site c r
      → Reaches c r clocks marks numbers entry exit (added_at question.Slot h)
  unfolding explorer.pushed
  offers-reaches {n} exploring {p} e x long push to =
      added-reaches c r h question.Slot clocks marks numbers entry exit met question.Slot refl
      (λ L w values trace room s.
      let offer : rules.Matched = matched_for (state clocks marks values numbers) h.site.thread (decoded_of h.row) in
      offers-comes exploring x n push to L w values trace room s offer
      (read_back n seed dst offer long (few-for (state clocks marks values numbers) h.site.thread (decoded_of h.row)) (sym (ap (λ (y : Result ℕ EqualOrders). scanned y seed) e) ∙ says values)))

  equal-out : (offer : rules.Matched) → equal_met ≡ offered offer dst → (B : ℕ) (bs : List Branch) (b : Bool) → explorer.load_pushed B bs b offer ≡ faults rules.equal_orders
  equal-out (rules.offers os) e B bs b = absurd (subst IsSlots (sym e) tt)
  equal-out rules.equal e B bs b = refl

module _ (c : Cursor) (r : Ticked) (h : Here) (clocks : Clocks) (marks : MarkTable) (numbers : Numbers) (entry : List ℕ) (dst seed : List ℕ) (m : Result ℕ EqualOrders)
    (says : (values : Values) → scanned m seed ≡ offered (matched_for (state clocks marks values numbers) h.site.thread (decoded_of h.row)) dst) (met : Met c r entry) where
  pub equal-reaches : {equal : EqualOrders} → m ≡ Err equal → FaultMet fault.EqualOrders h.site c r → Reaches c r clocks marks numbers entry entry (added_at question.Slot h)
  unfolding explorer.pushed
  equal-reaches e stop =
      added-reaches c r h question.Slot clocks marks numbers entry entry met question.Slot refl
      (λ L w values trace room s.
      let offer : rules.Matched = matched_for (state clocks marks values numbers) h.site.thread (decoded_of h.row) in
      comes-faulted r _ w fault.EqualOrders h.site _ stop.is
      (ap (branched (site_of h.site) w) (equal-out c r h clocks marks numbers entry entry dst seed m says met offer (sym (ap (λ (y : Result ℕ EqualOrders). scanned y seed) e) ∙ says values) L.branches w.ledger.path (exploring_now numbers)))
      (same-stands stop.stays s))
