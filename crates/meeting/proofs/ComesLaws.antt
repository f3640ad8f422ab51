-- How a part of a tick comes out, from what its steps leave. Assumes nothing.
use Prim.Native.Nat.{ℕ, ◌+◌, ◌-◌, ◌*◌, ◌/◌, ◌≤◌, ◌<◌}
use mathlib.Core.List.{List, [], ◌∷◌, ◌++◌, append-nil}
use mathlib.Core.Bool.{Bool, true, false, cond}
use mathlib.Core.Path.{◌≡◌, refl, ap, sym, subst, ◌∙◌}
use native.Mathlib.Omega.{arith}
use borrow.Author.Tests.{ltb-true, ltb-false, lt-leb, le-leb}
use lib.Dec.{leb}
use lib.ListN.{length, get_or, length-append}
use lib.Seq.{paste, length-paste, drop-paste, get_or-drop}
use Rattle.rules.specs.Event as rules
use Rattle.rules.specs.Event.{entry_bytes}
use Rattle.rules.specs.State.{State}
use Rattle.rules.specs.Machine.{Program, schedules, no_slot}
use Rattle.rules.specs.Explorer as explorer
use Rattle.rules.specs.Explorer.{Walk, Tick, goes, over, faulted}
use Rattle.trace.specs.Entries.{Notes, Front, Appended}
use Rattle.trace.proofs.FrontLaws.{front-more}
use Rattle.trace.proofs.TraceLaws.{length-entry_bytes}
use Rattle.rules.specs.Table.{opcode_of, opcode_in}
use Rattle.decode.specs.Ops.{op_of, decoded_of}
use Rattle.decode.specs.declared.Op.{Op}
use Rattle.std.specs.Prelude.{Option, Some, None}
use Rattle.event.specs.Moves.{fault_of, Happening}
use Rattle.std.specs.Prelude.{Ok, Err}
use Rattle.event.specs.declared.Moved.TheVariants as event
use Rattle.event.specs.declared.Fault.{Fault}
use Rattle.event.specs.declared.Fault.TheVariants as fault
use Rattle.event.specs.declared.Site.{Site}
use Rattle.event.specs.declared.Question.{Question}
use Rattle.event.specs.declared.Question.TheVariants as question
use Rattle.meeting.specs.Stands.{Lent, Stands, ComesTo, SameCursor, GoesOn, FaultMet, site_of}
use Rattle.meeting.specs.declared.Cursor.{Cursor}
use Rattle.event.specs.declared.Here.{Here}
use Rattle.meeting.specs.declared.Outcome.{Outcome}
use Rattle.meeting.specs.declared.Outcome.TheVariants as code
use Rattle.meeting.specs.declared.Ticked.{Ticked}
use Rattle.meeting.specs.Entries.{Kept, landed, opcode_at, noted_at, completed_at, concluded_at, Wrote, Lands, with_trace}

pub opcode-of : (row : Option Op) (op : Op) → row ≡ Some op → opcode_of (op_of op) ≡ opcode_in (decoded_of row)
opcode-of row op e = sym (ap (λ (r : Option Op). opcode_in (decoded_of r)) e)

pub opcode-refused : (row : Option Op) → row ≡ None → 255 ≡ opcode_in (decoded_of row)
opcode-refused row e = sym (ap (λ (r : Option Op). opcode_in (decoded_of r)) e)

-- a cursor that is left as it is
pub same-stands : {x : Lent} {c d : Cursor} {w : Walk State} → SameCursor c d → Stands x c w → Stands x d w
same-stands s h =
    record {
      is_state = h.is_state;
      holds = h.holds;
      is-len = h.is-len ∙ sym s.same_len;
      is-opened = h.is-opened ∙ sym s.same-opened;
      is_pos = h.is_pos ∙ sym s.same-pos;
      front = h.front;
      is-entries = h.is-entries ∙ sym s.same_entries;
    }

module _ (r : Ticked) (x : Lent) (v : Walk State) where
  pub comes-goes : (o : Tick State) → r.outcome ≡ code.Goes → o ≡ goes v → Stands x r.cursor v → ComesTo r.outcome r.cursor x o
  comes-goes o e f h = subst (λ (y : Outcome). ComesTo y r.cursor x o) (sym e) (subst (λ (y : Tick State). ComesTo code.Goes r.cursor x y) (sym f) h)

  pub comes-over : (o : Tick State) → r.outcome ≡ code.Over → o ≡ over v → Stands x r.cursor v → ComesTo r.outcome r.cursor x o
  comes-over o e f h = subst (λ (y : Outcome). ComesTo y r.cursor x o) (sym e) (subst (λ (y : Tick State). ComesTo code.Over r.cursor x y) (sym f) h)

  pub comes-faulted : (f : Fault) (s : Site) (o : Tick State) → r.outcome ≡ code.Faulted f s → o ≡ faulted (fault_of f) (site_of s) v → Stands x r.cursor v → ComesTo r.outcome r.cursor x o
  comes-faulted f s o e g h =
      subst (λ (y : Outcome). ComesTo y r.cursor x o) (sym e)
      (subst (λ (y : Tick State). ComesTo (code.Faulted f s) r.cursor x y) (sym g) (record { is-fault = refl; is-site = refl; stands = h }))

-- Nothing is written

pub wrote_none : (c d : Cursor) (trace : List ℕ) → d.entries ≡ c.entries → Wrote c d trace trace
wrote_none c d trace e = record { more = omega (arith, e); long = refl; beyond = λ i h. refl }

same_kept : {c d : Cursor} {trace : List ℕ} → SameCursor c d → 16 * c.entries ≤ length trace → Kept c d trace
same_kept s h = record { same_len = s.same_len; same-pos = s.same-pos; same-opened = s.same-opened; noted = omega (arith, s.same_entries) }

-- no entry fits wherever the entries do
pub landed_none : (L : explorer.Limits) (site : rules.Site) (w : Walk State) → length w.trace ≤ L.operations → landed L site w [] ≡ goes w
landed_none L site w h =
    let e : leb (length w.trace + 0) L.operations ≡ true = le-leb (length w.trace + 0) L.operations (omega arith) in
    ap (λ (b : Bool). cond b (goes (explorer.noted w w.state [])) (faulted rules.impossible site w)) e
    ∙ ap (λ (es : List rules.Entry). goes (record { state = w.state; ledger = w.ledger; pos = w.pos; trace = es })) (append-nil w.trace)

module _ (c : Cursor) (r : Ticked) (trace : List ℕ) (room : 16 * c.entries ≤ length trace) (out : Program → explorer.Limits → Walk State → Tick State) where
  pub lands-goes : GoesOn c r → ((p : Program) (L : explorer.Limits) (w : Walk State) → length w.trace ≤ L.operations → out p L w ≡ goes w) → Lands c r trace trace out
  lands-goes g is =
      record {
        kept = same_kept g.stays room;
        wrote = wrote_none c r.cursor trace g.stays.same_entries;
        comes = λ p L x w fits h. comes-goes r (with_trace x trace) w (out p L w) g.is (is p L w (omega (arith, h.is-entries))) (same-stands g.stays h);
      }

  pub lands-faulted : {f : Fault} {s : Site} → FaultMet f s c r → ((p : Program) (L : explorer.Limits) (w : Walk State) → out p L w ≡ faulted (fault_of f) (site_of s) w) → Lands c r trace trace out
  lands-faulted {f} {s} g is =
      record {
        kept = same_kept g.stays room;
        wrote = wrote_none c r.cursor trace g.stays.same_entries;
        comes = λ p L x w fits h. comes-faulted r (with_trace x trace) w f s (out p L w) g.is (is p L w) (same-stands g.stays h);
      }

  pub lands-over : r.outcome ≡ code.Over → SameCursor c r.cursor → ((p : Program) (L : explorer.Limits) (w : Walk State) → out p L w ≡ over w) → Lands c r trace trace out
  lands-over e g is =
      record {
        kept = same_kept g room;
        wrote = wrote_none c r.cursor trace g.same_entries;
        comes = λ p L x w fits h. comes-over r (with_trace x trace) w (out p L w) e (is p L w) (same-stands g h);
      }

pub lands_as : {c : Cursor} {r : Ticked} {entry exit : List ℕ} {out : Program → explorer.Limits → Walk State → Tick State} (other : Program → explorer.Limits → Walk State → Tick State) → ((p : Program) (L : explorer.Limits) (w : Walk State) → out p L w ≡ other p L w) → Lands c r entry exit out → Lands c r entry exit other
lands_as {c} {r} {entry} {exit} {out} other e h =
    record {
      kept = h.kept;
      wrote = h.wrote;
      comes = λ p L x w fits s. subst (λ (y : Tick State). ComesTo r.outcome r.cursor (with_trace x exit) y) (e p L w) (h.comes p L x w fits s);
    }

-- An entry

paste-rest : (entry : List ℕ) (at : ℕ) (bytes : List ℕ) (i : ℕ) → length bytes ≡ 16 → at + 16 ≤ length entry → at + 16 ≤ i → get_or (paste entry at bytes 16) i 0 ≡ get_or entry i 0
paste-rest entry at bytes i sixteen room h =
    let m : at + 16 + (i - (at + 16)) ≡ i = omega arith in
    let j : ℕ = i - (at + 16) in
    ap (λ (k : ℕ). get_or (paste entry at bytes 16) k 0) (sym m)
    ∙ sym (get_or-drop (at + 16) (paste entry at bytes 16) j 0)
    ∙ ap (λ (b : List ℕ). get_or b j 0) (drop-paste entry at bytes 16 (omega arith) (omega (arith, sixteen)))
    ∙ get_or-drop (at + 16) entry j 0
    ∙ ap (λ (k : ℕ). get_or entry k 0) m

-- one entry more
pub record OneNoted (c d : Cursor) : Type 0 where
  pub same_len : d.len ≡ c.len
  pub same-pos : d.pos ≡ c.pos
  pub same-opened : d.opened ≡ c.opened
  pub more-entries : d.entries ≡ c.entries + 1

module _ (c : Cursor) (r : Ticked) (h : Here) (opcode slot mask v : ℕ) (is : opcode ≡ opcode_at h) where
  abbrev written : rules.Entry
  written = record { thread = h.site.thread; row = h.site.row; opcode = opcode; slot = slot; mask = mask; value = v }

  abbrev out : Program → explorer.Limits → Walk State → Tick State
  out = noted_at h slot mask v

  abbrev written_out : Program → explorer.Limits → Walk State → Tick State
  written_out p L w = landed L (site_of h.site) w (written ∷ [])

  as_written : (p : Program) (L : explorer.Limits) (w : Walk State) → written_out p L w ≡ out p L w
  as_written p L w = ap (λ (n : ℕ). landed L (site_of h.site) w (record { thread = h.site.thread; row = h.site.row; opcode = n; slot = slot; mask = mask; value = v } ∷ [])) is

  module _ {entry exit : List ℕ} (b : Bool) (n : Notes entry exit c.entries written b) (room : 16 * c.entries ≤ length entry) where
    full-out : b ≡ false → (p : Program) (L : explorer.Limits) (w : Walk State) → 16 * L.operations ≡ length entry → length w.trace ≡ c.entries → written_out p L w ≡ faulted rules.impossible (site_of h.site) w
    full-out f p L w fits many =
        let past : length entry / 16 ≤ c.entries = ltb-false c.entries (length entry / 16) (sym n.said ∙ f) in
        let e : leb (length w.trace + 1) L.operations ≡ false = lt-leb (length w.trace + 1) L.operations (omega (arith, fits, many, past)) in
        ap (λ (y : Bool). cond y (goes (explorer.noted w w.state (written ∷ []))) (faulted rules.impossible (site_of h.site) w)) e

    pub note-full : b ≡ false → FaultMet fault.Impossible h.site c r → Lands c r entry exit out
    note-full f s =
        let e : exit ≡ entry = n.left ∙ ap (λ (y : Bool). cond y (paste entry (16 * c.entries) (entry_bytes written) 16) entry) f in
        subst (λ (y : List ℕ). Lands c r entry y out) (sym e)
        (lands_as out as_written
        (record {
          kept = same_kept s.stays room;
          wrote = wrote_none c r.cursor entry s.stays.same_entries;
          comes = λ p L x w fits g. comes-faulted r (with_trace x entry) w fault.Impossible h.site (written_out p L w) s.is (full-out f p L w fits g.is-entries) (same-stands s.stays g);
        }))

    module _ (t : b ≡ true) (goes-on : r.outcome ≡ code.Goes) (d : OneNoted c r.cursor) where
      has_room : c.entries < length entry / 16
      has_room = ltb-true c.entries (length entry / 16) (sym n.said ∙ t)

      left_by : exit ≡ paste entry (16 * c.entries) (entry_bytes written) 16
      left_by = n.left ∙ ap (λ (y : Bool). cond y (paste entry (16 * c.entries) (entry_bytes written) 16) entry) t

      noted-out : (p : Program) (L : explorer.Limits) (w : Walk State) → 16 * L.operations ≡ length entry → length w.trace ≡ c.entries → written_out p L w ≡ goes (explorer.noted w w.state (written ∷ []))
      noted-out p L w fits many =
          let e : leb (length w.trace + 1) L.operations ≡ true = le-leb (length w.trace + 1) L.operations (omega (arith, fits, many, has_room)) in
          ap (λ (y : Bool). cond y (goes (explorer.noted w w.state (written ∷ []))) (faulted rules.impossible (site_of h.site) w)) e

      appended : (w : Walk State) → Front entry w.trace → length w.trace ≡ c.entries → Appended entry exit c.entries (w.trace ++ (written ∷ []))
      appended w front many = subst (λ (y : List ℕ). Appended entry y c.entries (w.trace ++ (written ∷ []))) (sym left_by) (front-more entry w.trace c.entries front many has_room written)

      noted-stands : (x : Lent) (w : Walk State) → Stands (with_trace x entry) c w → Stands (with_trace x exit) r.cursor (explorer.noted w w.state (written ∷ []))
      noted-stands x w g =
          record {
            is_state = g.is_state;
            holds = g.holds;
            is-len = g.is-len ∙ sym d.same_len;
            is-opened = g.is-opened ∙ sym d.same-opened;
            is_pos = g.is_pos ∙ sym d.same-pos;
            front = (appended w g.front g.is-entries).front;
            is-entries = length-append w.trace (written ∷ []) ∙ omega (arith, g.is-entries, d.more-entries);
          }

      long-exit : length exit ≡ length entry
      long-exit = ap length left_by ∙ length-paste entry (16 * c.entries) (entry_bytes written) 16 (omega (arith, has_room)) (omega (arith, length-entry_bytes written))

      beyond-exit : (i : ℕ) → 16 * r.cursor.entries ≤ i → get_or exit i 0 ≡ get_or entry i 0
      beyond-exit i k = ap (λ (y : List ℕ). get_or y i 0) left_by ∙ paste-rest entry (16 * c.entries) (entry_bytes written) i (length-entry_bytes written) (omega (arith, has_room)) (omega (arith, d.more-entries))

      pub note-written : Lands c r entry exit out
      note-written =
          lands_as out as_written
          (record {
            kept = record { same_len = d.same_len; same-pos = d.same-pos; same-opened = d.same-opened; noted = omega (arith, d.more-entries, has_room, long-exit) };
            wrote = record { more = omega (arith, d.more-entries); long = long-exit; beyond = beyond-exit };
            comes = λ p L x w fits g. comes-goes r (with_trace x exit) (explorer.noted w w.state (written ∷ [])) (written_out p L w) goes-on (noted-out p L w fits g.is-entries) (noted-stands x w g);
          })

-- What an event comes to that asks nothing more

module _ (h : Here) where
  abbrev concluded : Happening → Program → explorer.Limits → Walk State → Tick State
  concluded e = concluded_at e h

  asked-again : (q : Question) (yielded : Bool) (p : Program) (L : explorer.Limits) (w : Walk State) → concluded (Ok (event.Asks q yielded)) p L w ≡ faulted rules.impossible (site_of h.site) w
  unfolding schedules
  asked-again question.Thread yielded p L w = refl
  asked-again question.Slot yielded p L w = refl
  asked-again question.Bit yielded p L w = refl

  module _ (c : Cursor) (r : Ticked) (e : Happening) where
    done-lands : (f : Happening) {entry exit : List ℕ} → e ≡ f → Lands c r entry exit (concluded f) → Lands c r entry exit (concluded e)
    done-lands f {entry} {exit} is l = subst (λ (y : Happening). Lands c r entry exit (concluded y)) (sym is) l

    pub conclude-done : {entry exit : List ℕ} {slot mask v : ℕ} → e ≡ Ok (event.Done slot mask v) → Lands c r entry exit (noted_at h slot mask v) → Lands c r entry exit (concluded e)
    conclude-done {entry} {exit} {slot} {mask} {v} is l = done-lands (Ok (event.Done slot mask v)) is (lands_as (concluded (Ok (event.Done slot mask v))) (λ p L w. refl) l)

    module _ (trace : List ℕ) (room : 16 * c.entries ≤ length trace) where
      pub conclude-moves : e ≡ Ok event.Moves → GoesOn c r → Lands c r trace trace (concluded e)
      conclude-moves is g = done-lands (Ok event.Moves) is (lands-goes c r trace room (concluded (Ok event.Moves)) g (λ p L w fits. landed_none L (site_of h.site) w fits))

      pub conclude-asks : {q : Question} {yielded : Bool} → e ≡ Ok (event.Asks q yielded) → FaultMet fault.Impossible h.site c r → Lands c r trace trace (concluded e)
      conclude-asks {q} {yielded} is s = done-lands (Ok (event.Asks q yielded)) is (lands-faulted c r trace room (concluded (Ok (event.Asks q yielded))) s (asked-again q yielded))

      pub conclude-ends : e ≡ Ok event.Ends → r.outcome ≡ code.Over → SameCursor c r.cursor → Lands c r trace trace (concluded e)
      conclude-ends is o s = done-lands (Ok event.Ends) is (lands-over c r trace room (concluded (Ok event.Ends)) o s (λ p L w. refl))

      pub conclude-stops : {f : Fault} → e ≡ Err f → FaultMet f h.site c r → Lands c r trace trace (concluded e)
      conclude-stops {f} is s = done-lands (Err f) is (lands-faulted c r trace room (concluded (Err f)) s (λ p L w. refl))

-- The entry of a row that is complete before it asks

module _ (h : Here) (c : Cursor) (r : Ticked) (yielded : Bool) where
  pub complete-noted : {entry exit : List ℕ} → yielded ≡ true → Lands c r entry exit (noted_at h no_slot 0 0) → Lands c r entry exit (completed_at yielded h)
  complete-noted {entry} {exit} e l = subst (λ (y : Bool). Lands c r entry exit (completed_at y h)) (sym e) l

  pub complete-not : (trace : List ℕ) → 16 * c.entries ≤ length trace → GoesOn c r → yielded ≡ false → Lands c r trace trace (completed_at yielded h)
  complete-not trace room g e =
      subst (λ (y : Bool). Lands c r trace trace (completed_at y h)) (sym e)
      (lands-goes c r trace room (completed_at false h) g (λ p L w fits. landed_none L (site_of h.site) w fits))
