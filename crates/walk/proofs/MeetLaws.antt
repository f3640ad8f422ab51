-- A question meets the path, and the machine goes on with the answer. Assumes nothing.
--     stays_then            where a part has stopped or ended, nothing comes next
--     went_on               where it goes on, with which walk
--     met-reached           the meeting in its two parts
--     answered-is           what the machine does with an answer
--     meet_stays, meet-unexpected, meet-answered      the meeting
use Prim.Native.Nat.{ℕ, ◌<◌}
use mathlib.Core.List.{List, [], ◌∷◌, ◌++◌}
use mathlib.Core.Bool.{Bool, true, false, cond, ◌&&◌}
use mathlib.Core.Path.{◌≡◌, refl, ap, sym, subst, ◌∙◌}
use native.Mathlib.Omega.{arith}
use types.Run.{OneOf, miss}
use denote.Enum.Declared.{tag_of}
use borrow.Author.Tests.{eqb-true}
use lib.Dec.{ltb, eqb}
use lib.ListN.{length, get_or}
use lib.Seq.{get_or-append_seam}
use Rattle.rules.specs.Event as rules
use Rattle.rules.specs.Vector.{nobody, thread}
use Rattle.rules.specs.State.{State, Clocks, Marks as MarkTable, Values, Numbers}
use Rattle.rules.specs.Table.{Op, Decoded}
use Rattle.rules.specs.Path as paths
use Rattle.rules.specs.Path.{Branch, no_branch, positions}
use Rattle.rules.specs.Machine.{Program, machine, role_in, scheduled, read_from, bit_taken, mask_of, current, active_row, row_of, answered, exploring_now}
use Rattle.rules.specs.Explorer as explorer
use Rattle.rules.specs.Explorer.{Walk, Tick, goes, over, faulted, pushes, faults, says, unexpected}
use Rattle.layout.specs.Tables.{state}
use Rattle.decode.specs.Ops.{decoded_of}
use Rattle.execution.specs.Answers.{Answers}
use Rattle.event.specs.declared.Picked.{Picked}
use Rattle.event.specs.declared.Picked.TheVariants as choice
use Rattle.event.specs.Moves.{Happening}
use Rattle.event.specs.declared.Fault.TheVariants as fault
use Rattle.event.specs.declared.Question.{Question}
use Rattle.event.specs.declared.Question.TheVariants as question
use Rattle.meeting.specs.Stands.{Lent, lent, Stands, ComesTo, FaultMet, site_of}
use Rattle.meeting.specs.Branches.{question_of, asked_at, branched, reached, reached_at, PickFits, AnswersBy, RepliesBy, Reaches, BranchesHeld}
use Rattle.meeting.specs.Entries.{move_at, concluded_at, Lands}
use Rattle.meeting.specs.declared.Cursor.{Cursor}
use Rattle.event.specs.declared.Here.{Here}
use Rattle.meeting.specs.declared.Outcome.{Outcome}
use Rattle.meeting.specs.declared.Outcome.TheVariants as code
use Rattle.std.specs.Prelude.{Option, Some, None}
use Rattle.meeting.specs.declared.Ticked.{Ticked}
use Rattle.meeting.specs.contracts.Outcome.{the_type as outcomes}
use Rattle.meeting.proofs.ComesLaws.{same-stands, comes-faulted}
use Rattle.meeting.proofs.MetLaws.{met-ahead}
use Rattle.walk.specs.Walks.{CursorPlaced, Passed}
use Rattle.walk.specs.Parts.{then_on, then_replied, AtRow, AsksAt, Rooms, Goes, MeetsNeeds, met_at}
use Rattle.walk.proofs.WalkLaws.{meet-faulted, meet-on}
use Rattle.meeting.proofs.ComesLaws.{wrote_none}

module _ (f : Walk State → Tick State) (c : Cursor) (x : Lent) where
  pub stays_then : (o : Outcome) → OneOf (1 ∷ 2 ∷ []) (tag_of outcomes o) → (t : Tick State) → ComesTo o c x t → ComesTo o c x (then_on f t)
  stays_then code.Goes k t h = absurd (miss (1 ∷ 2 ∷ []) 0 tt k)
  stays_then code.Over k (goes w) h = absurd h
  stays_then code.Over k (over w) h = h
  stays_then code.Over k (faulted g s w) h = absurd h
  stays_then (code.Faulted e s) k (goes w) h = absurd h
  stays_then (code.Faulted e s) k (over w) h = absurd h
  stays_then (code.Faulted e s) k (faulted g there w) h = h

pub record WentOn (x : Lent) (c : Cursor) (t : Tick State) : Type 0 where
  pub walk : Walk State
  pub is : t ≡ goes walk
  pub stands : Stands x c walk

went-by : (x : Lent) (c : Cursor) (t : Tick State) → ComesTo code.Goes c x t → WentOn x c t
went-by x c (goes w) h = record { walk = w; is = refl; stands = h }
went-by x c (over w) h = absurd h
went-by x c (faulted g s w) h = absurd h

pub went_on : {x : Lent} {c : Cursor} (o : Outcome) (t : Tick State) → o ≡ code.Goes → ComesTo o c x t → WentOn x c t
went_on {x} {c} o t e h = went-by x c t (subst (λ (y : Outcome). ComesTo y c x t) e h)

-- The meeting in its two parts

module _ (p : Program) (L : explorer.Limits) (site : rules.Site) (w : Walk State) (q : rules.Question) where
  branch-replied : (a : explorer.Pushed) → w.pos ≡ length w.ledger.path → explorer.new_branch (machine p) L site w q a ≡ then_replied p L site q (branched site w a)
  branch-replied (pushes b) e =
      ap (λ (x : Branch). explorer.replied (machine p) L site (explorer.with_ledger w (explorer.with_branch w.ledger b)) (explorer.reply w.pos x q))
      (sym (ap (λ (k : ℕ). get_or (w.ledger.path ++ (b ∷ [])) k no_branch) e ∙ get_or-append_seam w.ledger.path b [] no_branch))
  branch-replied (faults f) e = refl

  by_flag : (b : Bool) → eqb w.pos (length w.ledger.path) ≡ b → (a : explorer.Pushed)
      → cond b (explorer.new_branch (machine p) L site w q a) (explorer.replied (machine p) L site w (explorer.reply w.pos (get_or w.ledger.path w.pos no_branch) q))
      ≡ then_replied p L site q (cond b (branched site w a) (goes w))
  by_flag true e a = branch-replied a (eqb-true w.pos (length w.ledger.path) e)
  by_flag false e a = refl

  pub met-reached : (exploring : Bool) → explorer.met (machine p) L site w exploring q ≡ then_replied p L site q (reached L site w exploring q)
  met-reached exploring = by_flag (eqb w.pos (length w.ledger.path)) refl (explorer.pushed L.branches w.ledger.path exploring q)

-- The answer

abbrev AnswerRow : rules.Pick → State → Here → Type 0
AnswerRow (rules.run_thread whom at) st h = Unit
AnswerRow (rules.read_slot slot values) st h = AtRow st h
AnswerRow (rules.take_bit bit) st h = AtRow st h

abbrev ReplyRow : explorer.Reply → State → Here → Type 0
ReplyRow (says a) st h = AnswerRow a st h
ReplyRow unexpected st h = Unit

slot_row : (b : Bool) (slot : ℕ) (values : List ℕ) (st : State) (h : Here) → AtRow st h → ReplyRow (cond b (says (rules.read_slot slot values)) unexpected) st h
slot_row true slot values st h a = a
slot_row false slot values st h a = tt

reply-row : (q : Question) (st : State) (h : Here) → AsksAt q st h → (pos : ℕ) (b : Branch) (in-state : State) (t : ℕ) (row : Decoded Op) → ReplyRow (explorer.reply pos b (question_of q in-state t row)) st h
unfolding explorer.reply
reply-row question.Thread st h a pos (paths.schedule s) in-state t row = tt
reply-row question.Thread st h a pos (paths.load l) in-state t row = tt
reply-row question.Thread st h a pos (paths.spurious u) in-state t row = tt
reply-row question.Slot st h a pos (paths.schedule s) in-state t row = tt
reply-row question.Slot st h a pos (paths.load l) in-state t row = slot_row (ltb l.pos (length l.values) && explorer.all_below 7 l.values) (get_or l.values l.pos 0) l.values st h a
reply-row question.Slot st h a pos (paths.spurious u) in-state t row = tt
reply-row question.Bit st h a pos (paths.schedule s) in-state t row = tt
reply-row question.Bit st h a pos (paths.load l) in-state t row = tt
reply-row question.Bit st h a pos (paths.spurious u) in-state t row = a

module _ (p : Program) (h : Here) (st : State) (move : rules.Move State) (is_row : row_of p h.site.thread h.site.row ≡ decoded_of h.row) where
  abbrev Goes-with : Picked → Type 0
  Goes-with ch = Answers ch (decoded_of h.row) h.site.thread h.site.row st move

  row-there : AtRow st h → row_of p (current st) (active_row st) ≡ decoded_of h.row
  row-there a = ap (λ (t : ℕ). row_of p t (active_row st)) a.who ∙ ap (λ (k : ℕ). row_of p h.site.thread k) a.row ∙ is_row

  slot_is : (slot mask : ℕ) (values : List ℕ) → AtRow st h → mask ≡ mask_of 0 values → move ≡ read_from st h.site.thread h.site.row slot mask (role_in (decoded_of h.row)) → move ≡ answered p st (rules.read_slot slot values)
  unfolding answered
  slot_is slot mask values a m e =
      e
      ∙ ap (λ (k : ℕ). read_from st h.site.thread h.site.row slot k (role_in (decoded_of h.row))) m
      ∙ ap (λ (d : Decoded Op). read_from st h.site.thread h.site.row slot (mask_of 0 values) (role_in d)) (sym (row-there a))
      ∙ ap (λ (t : ℕ). read_from st t h.site.row slot (mask_of 0 values) (role_in (row_of p (current st) (active_row st)))) (sym a.who)
      ∙ ap (λ (k : ℕ). read_from st (current st) k slot (mask_of 0 values) (role_in (row_of p (current st) (active_row st)))) (sym a.row)

  bit_is : (bit : Bool) → AtRow st h → move ≡ bit_taken st h.site.thread h.site.row (cond bit 1 0) (role_in (decoded_of h.row)) → move ≡ answered p st (rules.take_bit bit)
  unfolding answered
  bit_is bit a e =
      e
      ∙ ap (λ (d : Decoded Op). bit_taken st h.site.thread h.site.row (cond bit 1 0) (role_in d)) (sym (row-there a))
      ∙ ap (λ (t : ℕ). bit_taken st t h.site.row (cond bit 1 0) (role_in (row_of p (current st) (active_row st)))) (sym a.who)
      ∙ ap (λ (k : ℕ). bit_taken st (current st) k (cond bit 1 0) (role_in (row_of p (current st) (active_row st)))) (sym a.row)

  thread-is : (chosen branch : ℕ) → move ≡ scheduled st (thread chosen) branch → move ≡ answered p st (rules.run_thread (thread chosen) branch)
  unfolding answered
  thread-is chosen branch e = e

  nobody-is : (at : ℕ) → move ≡ scheduled st nobody at → move ≡ answered p st (rules.run_thread nobody at)
  unfolding answered
  nobody-is at e = e

  pub answered-is : (ch : Picked) (a : rules.Pick) → PickFits ch a → AnswerRow a st h → Goes-with ch → move ≡ answered p st a
  answered-is (choice.Thread chosen branch) a f row g = thread-is chosen branch g ∙ ap (answered p st) (sym f)
  answered-is choice.Nobody a f row g = nobody-is f.at (g f.at) ∙ ap (answered p st) (sym f.is)
  answered-is (choice.Slot slot mask) a f row g =
      slot_is slot mask f.values (subst (λ (y : rules.Pick). AnswerRow y st h) f.is row) f.masked g ∙ ap (answered p st) (sym f.is)
  answered-is (choice.Bit bit) a f row g = bit_is bit (subst (λ (y : rules.Pick). AnswerRow y st h) f row) g ∙ ap (answered p st) (sym f)

pub followed-state : (p : Program) (L : explorer.Limits) (site : rules.Site) (w : Walk State) (s : State) (m : rules.Move State) → explorer.followed (machine p) L site (explorer.with_state w s) m ≡ explorer.followed (machine p) L site w m
followed-state p L site w s (rules.moves st es) = refl
followed-state p L site w s (rules.asks st es e q) = refl
followed-state p L site w s (rules.stops st f) = refl
followed-state p L site w s (rules.ends st) = refl

-- The meeting

module _ (c : Cursor) (m : Ticked) (h : Here) (q : Question) (clocks : Clocks) (marks : MarkTable) (values : Values) (numbers : Numbers) (path there trace : List ℕ)
    (placed : CursorPlaced c path trace) (reach : Reaches c m clocks marks numbers path there (reached_at q h)) where
  abbrev before : Lent
  before = lent clocks marks values numbers path trace

  abbrev reaching : Lent
  reaching = lent clocks marks values numbers there trace

  abbrev replies : Program → explorer.Limits → Walk State → Walk State → Tick State
  replies p L w v = explorer.replied (machine p) L (site_of h.site) v (explorer.reply v.pos (get_or v.ledger.path v.pos no_branch) (asked_at q h w.state))

  pub meet_stays : OneOf (1 ∷ 2 ∷ []) (tag_of outcomes m.outcome) → Goes before reaching c m 6 h (MeetsNeeds q h) (met_at q h)
  meet_stays k =
      record {
        gone = record {
          placed = record { passed = reach.met.passed; within = reach.met.within; noted = omega (arith, placed.noted, reach.met.same_entries) };
          few = reach.met.few;
        };
        wrote = wrote_none c m.cursor trace reach.met.same_entries;
        comes = λ p L w rooms needs s.
            subst (λ (y : Tick State). ComesTo m.outcome m.cursor reaching y) (sym (met-reached p L (site_of h.site) w (asked_at q h w.state) (exploring_now w.state.numbers)))
            (stays_then (replies p L w) m.cursor reaching m.outcome k (reached_at q h L w) (reach.comes L w values trace rooms.holding s));
      }

  module _ (goes-on : m.outcome ≡ code.Goes) (long : length there ≡ length path) (a : Option Picked) (ans : RepliesBy there m.cursor.pos q a) (r : Ticked) (exit : Lent) where
    small : (L : explorer.Limits) → BranchesHeld L path → m.cursor.pos < positions
    small L room = omega (arith, met-ahead reach.met goes-on, reach.met.within, long, room.branches, room.few)

    answers : (p : Program) (L : explorer.Limits) (w v : Walk State) → BranchesHeld L path → Stands reaching m.cursor v → AnswersBy a (explorer.reply v.pos (get_or v.ledger.path v.pos no_branch) (asked_at q h w.state))
    answers p L w v room s =
        subst (λ (k : ℕ). AnswersBy a (explorer.reply k (get_or v.ledger.path k no_branch) (asked_at q h w.state))) (sym s.is_pos)
        (ans.is v.ledger.path s.holds (small L room) w.state h.site.thread (decoded_of h.row))

    meets-by :
        ((p : Program) (L : explorer.Limits) (v : Walk State) → Rooms p L h path trace → Stands reaching m.cursor v → (x : explorer.Reply) → AnswersBy a x → ReplyRow x v.state h
        → ComesTo r.outcome r.cursor exit (explorer.replied (machine p) L (site_of h.site) v x))
        → (p : Program) (L : explorer.Limits) (w : Walk State) → Rooms p L h path trace → AsksAt q w.state h → Stands before c w → ComesTo r.outcome r.cursor exit (met_at q h p L w)
    meets-by f p L w rooms asks s =
        let on = went_on m.outcome (reached_at q h L w) goes-on (reach.comes L w values trace rooms.holding s) in
        let v = on.walk in
        let row : AsksAt q v.state h = subst (λ (st : State). AsksAt q st h) (s.is_state ∙ sym on.stands.is_state) asks in
        subst (λ (y : Tick State). ComesTo r.outcome r.cursor exit y)
        (sym (met-reached p L (site_of h.site) w (asked_at q h w.state) (exploring_now w.state.numbers) ∙ ap (then_on (replies p L w)) on.is))
        (f p L v rooms on.stands (explorer.reply v.pos (get_or v.ledger.path v.pos no_branch) (asked_at q h w.state)) (answers p L w v rooms.holding on.stands)
        (reply-row q v.state h row v.pos (get_or v.ledger.path v.pos no_branch) w.state h.site.thread (decoded_of h.row)))

  unexpected-comes : (r : Ticked) → FaultMet fault.Impossible h.site m.cursor r → (p : Program) (L : explorer.Limits) (v : Walk State) → Stands reaching m.cursor v
      → (x : explorer.Reply) → AnswersBy None x → ComesTo r.outcome r.cursor reaching (explorer.replied (machine p) L (site_of h.site) v x)
  unexpected-comes r s p L v stands (says a) f = absurd f
  unexpected-comes r s p L v stands unexpected f = comes-faulted r reaching v fault.Impossible h.site _ s.is refl (same-stands s.stays stands)

  pub meet-unexpected : m.outcome ≡ code.Goes → length there ≡ length path → (a : Option Picked) → RepliesBy there m.cursor.pos q a → a ≡ None → (r : Ticked) → FaultMet fault.Impossible h.site m.cursor r
      → Goes before reaching c r 6 h (MeetsNeeds q h) (met_at q h)
  meet-unexpected goes-on long a ans e r s =
      record {
        gone = meet-faulted placed reach.met s;
        wrote = wrote_none c r.cursor trace (s.stays.same_entries ∙ reach.met.same_entries);
        comes = meets-by goes-on long a ans r reaching
            (λ p L v rooms stands x f row. unexpected-comes r s p L v stands x (subst (λ (y : Option Picked). AnswersBy y x) e f));
      }

  module _ (ch : Picked) (ev : Happening) (clocks2 : Clocks) (marks2 : MarkTable) (values2 : Values) (numbers2 : Numbers) (d : Cursor) (passed : Passed m.cursor d)
      (goes-with : Answers ch (decoded_of h.row) h.site.thread h.site.row (state clocks marks values numbers) (move_at ev h (state clocks2 marks2 values2 numbers2)))
      (r : Ticked) (left : List ℕ) (lands : Lands d r trace left (concluded_at ev h)) where
    abbrev leaving : Lent
    leaving = lent clocks2 marks2 values2 numbers2 there left

    abbrev leaves : State
    leaves = state clocks2 marks2 values2 numbers2

    passed-stands : (v : Walk State) → Stands reaching m.cursor v → Stands (lent clocks2 marks2 values2 numbers2 there trace) d (explorer.with_state (explorer.onward v) leaves)
    passed-stands v s =
        record {
          is_state = refl;
          holds = s.holds;
          is-len = s.is-len ∙ sym passed.same_len;
          is-opened = s.is-opened ∙ sym passed.same-opened;
          is_pos = omega (arith, s.is_pos, passed.more-pos);
          front = s.front;
          is-entries = s.is-entries ∙ sym passed.same_entries;
        }

    says-comes : (p : Program) (L : explorer.Limits) (v : Walk State) → Rooms p L h path trace → Stands reaching m.cursor v
        → (x : explorer.Reply) → AnswersBy (Some ch) x → ReplyRow x v.state h → ComesTo r.outcome r.cursor leaving (explorer.replied (machine p) L (site_of h.site) v x)
    says-comes p L v rooms s (says a) f row =
        let there-row : AnswerRow a (state clocks marks values numbers) h = subst (λ (st : State). AnswerRow a st h) s.is_state row in
        let is : move_at ev h leaves ≡ answered p v.state a = answered-is p h (state clocks marks values numbers) (move_at ev h leaves) rooms.is_row ch a f there-row goes-with ∙ ap (λ (st : State). answered p st a) (sym s.is_state) in
        subst (λ (y : Tick State). ComesTo r.outcome r.cursor leaving y)
        (followed-state p L (site_of h.site) (explorer.onward v) leaves (move_at ev h leaves) ∙ ap (explorer.followed (machine p) L (site_of h.site) (explorer.onward v)) is)
        (lands.comes p L (lent clocks2 marks2 values2 numbers2 there trace) (explorer.with_state (explorer.onward v) leaves) rooms.room (passed-stands v s))
    says-comes p L v rooms s unexpected f row = absurd f

    pub meet-answered : m.outcome ≡ code.Goes → length there ≡ length path → (a : Option Picked) → RepliesBy there m.cursor.pos q a → a ≡ Some ch
        → Goes before leaving c r 6 h (MeetsNeeds q h) (met_at q h)
    meet-answered goes-on long a ans e =
        record {
          gone = meet-on placed reach.met goes-on passed lands.kept;
          wrote = record {
            more = omega (arith, lands.wrote.more, passed.same_entries, reach.met.same_entries);
            long = lands.wrote.long;
            beyond = lands.wrote.beyond;
          };
          comes = meets-by goes-on long a ans r leaving
              (λ p L v rooms stands x f row. says-comes p L v rooms stands x (subst (λ (y : Option Picked). AnswersBy y x) e f) row);
        }
