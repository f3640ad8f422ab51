-- The laws of a schedule that is added. Assumes nothing.
--     thread-refused, -preempted       it is not added
--     thread-added                     its fields, written one after the other, are its encoded bytes
use Prim.Native.Nat.{ℕ, ◌+◌, ◌*◌, ◌/◌, ◌%◌, ◌≤◌, ◌<◌}
use mathlib.Core.List.{List, [], ◌∷◌, ◌++◌}
use mathlib.Core.Bool.{Bool, true, false, cond}
use mathlib.Core.Path.{◌≡◌, refl, ap, sym, subst, ◌∙◌}
use mathlib.Core.Logic.{◌≢◌}
use native.Mathlib.Omega.{arith}
use borrow.Author.Tests.{lt-ltb, le-ltb, eq-eqb}
use lib.Dec.{leb, ltb, eqb}
use lib.ListN.{length, set, replicate, length-append, length-set}
use lib.Seq.{take_at, drop_at}
use Rattle.rules.specs.Path as rules
use Rattle.rules.specs.Path.{Branch, Schedule, schedule, none, at, encoded, flag, active_in, active_of, or_none, toggled, last_schedule, preemptions_after, initial_after, prev_of, new_schedule, thread_added, open_at, pendings, no_thread, positions}
use Rattle.rules.specs.Records.{record_at, with_record}
use Rattle.rules.proofs.RecordLaws.{record-now, record-again, record-other}
use Rattle.record.specs.Fields.{with_record_byte, record_begun, states_in, with_states_in, states_at, with_states_at}
use Rattle.path.specs.Holds.{Holds}
use Rattle.record.specs.Places.{FoundBelow}
use Rattle.record.specs.Answers.{CountIs}
use Rattle.record.specs.Schedules.{position_of, initial_at}
use Rattle.path.specs.Pushes.{PushesThread, pushed_of, grown}
use Rattle.path.specs.Places.{records_of}
use Rattle.path.specs.Walks.{schedule_at_as, StandsIn, LastOf, PreemptionsBefore}
use Rattle.std.specs.Prelude.{Option, Ok, Err}
use Rattle.path.specs.declared.NotAdded.TheVariants.{Full, Preempted}
use Rattle.record.proofs.FieldLaws.{put-again}
use Rattle.record.proofs.ThreadLaws.{length-toggled}
use Rattle.path.proofs.HoldsLaws.{holds-blank, holds-added, at-states}
use Rattle.path.proofs.PushLaws.{no_room, has_room}
use Rattle.path.proofs.WalkLaws.{last-stands}

-- It is not added

module _ (bytes : List ℕ) (len : ℕ) (exploring : Bool) (seed : List ℕ) where
  abbrev answer : List Branch → rules.Added
  answer bs = thread_added (records_of bytes) bs exploring seed

  as-full : (bs : List Branch) → leb (records_of bytes) (length bs) ≡ true → answer bs ≡ rules.full
  unfolding thread_added
  as-full bs e = rw e

  as-preempted : (bs : List Branch) → leb (records_of bytes) (length bs) ≡ false → ltb 255 (preemptions_after (last_schedule bs)) ≡ true → answer bs ≡ rules.preempted
  unfolding thread_added
  as-preempted bs e f = rw (e, f)

  as_added : (bs : List Branch) → leb (records_of bytes) (length bs) ≡ false → ltb 255 (preemptions_after (last_schedule bs)) ≡ false → answer bs ≡ rules.added (schedule (new_schedule exploring (last_schedule bs) (toggled seed)))
  unfolding thread_added
  as_added bs e f = rw (e, f)

  pub thread-refused : records_of bytes ≤ len → PushesThread bytes bytes len exploring seed (Err Full)
  thread-refused h =
      let is : (bs : List Branch) → length bs ≡ len → answer bs ≡ rules.full = λ bs e. as-full bs (rw e (no_room bytes len h)) in
      record {
        within = record { because = omega arith; same = refl };
        full = λ l. refl;
        keeps = refl;
        says = λ bs q e. ap pushed_of (sym (is bs e));
        holds = λ bs q e z. subst (λ (a : rules.Added). Holds bytes (grown bs a)) (sym (is bs e)) q;
      }

  module _ (room : 16 * len + 16 ≤ length bytes) (prev : Option ℕ) (found : LastOf bytes len prev) (p : ℕ) (many : PreemptionsBefore bytes prev p) where
    before-is : {bs : List Branch} → Holds bytes bs → length bs ≡ len → p ≡ preemptions_after (last_schedule bs)
    before-is {bs} q e = many.says bs q (last_schedule bs) (last-stands bs) (found.says bs q e)

    pub thread-preempted : 255 < p → PushesThread bytes bytes len exploring seed (Err Preempted)
    thread-preempted h =
        let is : (bs : List Branch) → Holds bytes bs → length bs ≡ len → answer bs ≡ rules.preempted =
        λ bs q e.
        let m : p ≡ preemptions_after (last_schedule bs) = before-is q e in
        as-preempted bs (rw e (has_room bytes len room)) (lt-ltb 255 (preemptions_after (last_schedule bs)) (omega arith)) in
        record {
          within = record { because = room; same = refl };
          full = λ l. absurd (omega arith);
          keeps = refl;
          says = λ bs q e. ap pushed_of (sym (is bs q e));
          holds = λ bs q e z. subst (λ (a : rules.Added). Holds bytes (grown bs a)) (sym (is bs q e)) q;
        }

-- Its fields

module _ (f : ℕ) where
  abbrev begins : List ℕ → List ℕ
  begins s = 1 ∷ f ∷ (s ++ replicate 9 0)

  length-begins : (s : List ℕ) → length s ≡ 5 → length (begins s) ≡ 16
  length-begins s l = simp length-append (omega arith)

  states-begin : (s : List ℕ) → length s ≡ 5 → states_in (begins s) ≡ s
  unfolding states_in
  states-begin s l = take_at s (replicate 9 0) 5 l

  begin-again : (s t : List ℕ) → length s ≡ 5 → with_states_in (begins s) t ≡ begins t
  unfolding with_states_in
  begin-again s t l = ap (λ (x : List ℕ). 1 ∷ f ∷ (t ++ x)) (drop_at s (replicate 9 0) 5 l)

  fields-of : (s : List ℕ) (p i lo hi : ℕ) → length s ≡ 5 → set (set (set (set (begins s) 8 i) 7 p) 9 lo) 10 hi ≡ 1 ∷ f ∷ (s ++ (p ∷ i ∷ lo ∷ hi ∷ replicate 5 0))
  fields-of [] p i lo hi l = absurd (omega arith)
  fields-of (a ∷ []) p i lo hi l = absurd (omega arith)
  fields-of (a ∷ b ∷ []) p i lo hi l = absurd (omega arith)
  fields-of (a ∷ b ∷ c ∷ []) p i lo hi l = absurd (omega arith)
  fields-of (a ∷ b ∷ c ∷ d ∷ []) p i lo hi l = absurd (omega arith)
  fields-of (a ∷ b ∷ c ∷ d ∷ e ∷ []) p i lo hi l = refl
  fields-of (a ∷ b ∷ c ∷ d ∷ e ∷ x ∷ s) p i lo hi l = absurd (omega arith)

position-is : (l : rules.ScheduleAt) → position_of (schedule_at_as l) ≡ prev_of l
position-is none = refl
position-is (at k s) = refl

module _ (bytes : List ℕ) (len : ℕ) (room : 16 * len + 16 ≤ length bytes) (exploring : Bool) where
  abbrev kept : List ℕ → List ℕ
  kept s = with_record bytes len (begins (flag exploring) s)

  kept-first : record_at bytes len ≡ replicate 16 0 → record_begun bytes len 1 exploring ≡ kept (replicate 5 0)
  unfolding record_begun
  kept-first blank = rw blank

  module _ (s : List ℕ) (l : length s ≡ 5) where
    kept-states : states_at (kept s) len ≡ s
    unfolding states_at
    kept-states = ap states_in (record-now bytes len room (begins (flag exploring) s) (length-begins (flag exploring) s l)) ∙ states-begin (flag exploring) s l

    kept-other : (k : ℕ) → k < len → states_at (kept s) k ≡ states_at bytes k
    unfolding states_at
    kept-other k b =
        let n : k ≢ len = λ e. omega arith in
        ap states_in (record-other bytes len room k n (begins (flag exploring) s) (length-begins (flag exploring) s l))

    kept_again : (t : List ℕ) → with_states_at (kept s) len t ≡ kept t
    unfolding with_states_at
    kept_again t =
        ap (λ (x : List ℕ). with_record (kept s) len (with_states_in x t)) (record-now bytes len room (begins (flag exploring) s) (length-begins (flag exploring) s l))
        ∙ record-again bytes len room (begins (flag exploring) s) (with_states_in (begins (flag exploring) s) t) (length-begins (flag exploring) s l)
        ∙ ap (with_record bytes len) (begin-again (flag exploring) s t l)

    kept-fields : (p i lo hi : ℕ) → with_record_byte (with_record_byte (with_record_byte (with_record_byte (kept s) len 8 i) len 7 p) len 9 lo) len 10 hi ≡ with_record bytes len (1 ∷ flag exploring ∷ (s ++ (p ∷ i ∷ lo ∷ hi ∷ replicate 5 0)))
    kept-fields p i lo hi =
        let r : List ℕ = begins (flag exploring) s in
        let l0 : length r ≡ 16 = length-begins (flag exploring) s l in
        let l1 : length (set r 8 i) ≡ 16 = length-set r 8 i ∙ l0 in
        let l2 : length (set (set r 8 i) 7 p) ≡ 16 = length-set (set r 8 i) 7 p ∙ l1 in
        let l3 : length (set (set (set r 8 i) 7 p) 9 lo) ≡ 16 = length-set (set (set r 8 i) 7 p) 9 lo ∙ l2 in
        ap (λ (x : List ℕ). with_record_byte (with_record_byte (with_record_byte x len 7 p) len 9 lo) len 10 hi) (put-again bytes len room r l0 8 i (omega arith))
        ∙ ap (λ (x : List ℕ). with_record_byte (with_record_byte x len 9 lo) len 10 hi) (put-again bytes len room (set r 8 i) l1 7 p (omega arith))
        ∙ ap (λ (x : List ℕ). with_record_byte x len 10 hi) (put-again bytes len room (set (set r 8 i) 7 p) l2 9 lo (omega arith))
        ∙ put-again bytes len room (set (set (set r 8 i) 7 p) 9 lo) l3 10 hi (omega arith)
        ∙ ap (with_record bytes len) (fields-of (flag exploring) s p i lo hi l)

    initial-is : {bs : List Branch} → Holds bytes bs → (last : rules.ScheduleAt) → StandsIn bs last → FoundBelow len (schedule_at_as last) → initial_at (kept s) len (schedule_at_as last) ≡ initial_after last (or_none (active_in s))
    unfolding active_of
    initial-is h none g b = ap (λ (x : List ℕ). or_none (active_in x)) kept-states
    initial-is h (at k q) g b =
        let o : states_at (kept s) k ≡ q.states = kept-other k b ∙ at-states (record { path = h; there = g }) in
        ap (λ (x : List ℕ). cond (eqb (or_none (active_in x)) (or_none (active_in (states_at (kept s) k)))) (or_none (active_in x)) no_thread) kept-states
        ∙ ap (λ (x : List ℕ). cond (eqb (or_none (active_in s)) (or_none (active_in x))) (or_none (active_in s)) no_thread) o

-- It is added

module _ (bytes : List ℕ) (len : ℕ) (exploring : Bool) (seed : List ℕ) (room : 16 * len + 16 ≤ length bytes) (prev : Option ℕ) (found : LastOf bytes len prev) (p : ℕ) (many : PreemptionsBefore bytes prev p) (few : p ≤ 255) (five : length seed ≡ 5) where
  abbrev toggled_seed : List ℕ
  toggled_seed = toggled seed

  five-toggled : length toggled_seed ≡ 5
  five-toggled = length-toggled seed ∙ five

  module _ (b₁ b₂ b₃ b₄ b₅ b₆ : List ℕ)
      (e₁ : b₁ ≡ record_begun bytes len 1 exploring)
      (e₂ : b₂ ≡ with_states_at b₁ len seed)
      (e₃ : b₃ ≡ with_states_at b₂ len (toggled (states_at b₂ len)))
      (e₄ : b₄ ≡ with_record_byte b₃ len 8 (initial_at b₃ len prev))
      (e₅ : b₅ ≡ with_record_byte b₄ len 7 p)
      (e₆ : b₆ ≡ with_record_byte (with_record_byte b₅ len 9 (position_of prev % 256)) len 10 (position_of prev / 256 % 256))
    where
      module _ {bs : List Branch} (h : Holds bytes bs) (same : length bs ≡ len) where
        blank : record_at bytes len ≡ replicate 16 0
        blank = rw same at (holds-blank h (omega arith))

        with-seed : b₂ ≡ kept bytes len room exploring seed
        with-seed =
            e₂
            ∙ ap (λ (x : List ℕ). with_states_at x len seed) (e₁ ∙ kept-first bytes len room exploring blank)
            ∙ kept_again bytes len room exploring (replicate 5 0) refl seed

        with-toggled : b₃ ≡ kept bytes len room exploring toggled_seed
        with-toggled =
            e₃
            ∙ ap (λ (x : List ℕ). with_states_at x len (toggled (states_at x len))) with-seed
            ∙ ap (λ (x : List ℕ). with_states_at (kept bytes len room exploring seed) len (toggled x)) (kept-states bytes len room exploring seed five)
            ∙ kept_again bytes len room exploring seed five toggled_seed

        abbrev last : rules.ScheduleAt
        last = last_schedule bs

        prev-is : prev ≡ schedule_at_as last
        prev-is = found.says bs h same

        last-below : FoundBelow len (schedule_at_as last)
        last-below = rw prev-is at found.below

        initial-now : initial_at b₃ len prev ≡ initial_after last (or_none (active_in toggled_seed))
        initial-now =
            ap (λ (x : List ℕ). initial_at x len prev) with-toggled
            ∙ ap (initial_at (kept bytes len room exploring toggled_seed) len) prev-is
            ∙ initial-is bytes len room exploring toggled_seed five-toggled h last (last-stands bs) last-below

        preemptions-now : p ≡ preemptions_after last
        preemptions-now = before-is bytes len exploring seed room prev found p many h same

        abbrev new : Schedule
        new = new_schedule exploring last toggled_seed

        position-now : position_of prev ≡ prev_of last
        position-now = ap position_of prev-is ∙ position-is last

        prev-small : (l : rules.ScheduleAt) → FoundBelow len (schedule_at_as l) → len ≤ positions → prev_of l / 256 % 256 ≡ prev_of l / 256
        prev-small none b z = refl
        prev-small (at k s) b z = omega arith

        abbrev low_byte : ℕ
        low_byte = prev_of last % 256

        -- the bytes of the record, with prev cut to two
        cut-written : b₆ ≡ with_record bytes len (1 ∷ flag exploring ∷ (toggled_seed ++ (preemptions_after last ∷ initial_after last (or_none (active_in toggled_seed)) ∷ low_byte ∷ prev_of last / 256 % 256 ∷ replicate 5 0)))
        cut-written =
            e₆
            ∙ ap (λ (x : ℕ). with_record_byte (with_record_byte b₅ len 9 (x % 256)) len 10 (x / 256 % 256)) position-now
            ∙ ap (λ (x : List ℕ). with_record_byte (with_record_byte x len 9 low_byte) len 10 (prev_of last / 256 % 256))
            (e₅
            ∙ ap (with_record_byte b₄ len 7) preemptions-now
            ∙ ap (λ (x : List ℕ). with_record_byte x len 7 (preemptions_after last))
            (e₄ ∙ ap (with_record_byte b₃ len 8) initial-now ∙ ap (λ (x : List ℕ). with_record_byte x len 8 (initial_after last (or_none (active_in toggled_seed)))) with-toggled))
            ∙ kept-fields bytes len room exploring toggled_seed five-toggled (preemptions_after last) (initial_after last (or_none (active_in toggled_seed))) low_byte (prev_of last / 256 % 256)

        states-now : states_at b₆ len ≡ toggled_seed
        unfolding states_at states_in
        states-now =
            let r : List ℕ = preemptions_after last ∷ initial_after last (or_none (active_in toggled_seed)) ∷ low_byte ∷ prev_of last / 256 % 256 ∷ replicate 5 0 in
            let w : length (1 ∷ flag exploring ∷ (toggled_seed ++ r)) ≡ 16 = simp length-append (omega (arith, five-toggled)) in
            ap (λ (x : List ℕ). states_in (record_at x len)) cut-written
            ∙ ap states_in (record-now bytes len room (1 ∷ flag exploring ∷ (toggled_seed ++ r)) w)
            ∙ take_at toggled_seed r 5 five-toggled

        all-written : len ≤ positions → b₆ ≡ with_record bytes len (encoded (schedule new))
        unfolding encoded
        all-written z =
            cut-written
            ∙ ap (λ (x : ℕ). with_record bytes len (1 ∷ flag exploring ∷ (toggled_seed ++ (preemptions_after last ∷ initial_after last (or_none (active_in toggled_seed)) ∷ low_byte ∷ x ∷ replicate 5 0)))) (prev-small last last-below z)

        added_is : answer bytes len exploring seed bs ≡ rules.added (schedule new)
        added_is =
            let m : p ≡ preemptions_after last = before-is bytes len exploring seed room prev found p many h same in
            as_added bytes len exploring seed bs (rw same (has_room bytes len room)) (le-ltb 255 (preemptions_after last) (omega arith))

        holds-new : len ≤ positions → Holds b₆ (bs ++ (schedule new ∷ []))
        holds-new z =
            let fits : 16 * length bs + 16 ≤ length bytes = omega arith in
            rw (all-written z, ← same) (holds-added h fits (schedule new) (eq-eqb (length toggled_seed) 5 five-toggled) its-prev)
          where
            its-prev : (q : Schedule) → schedule new ≡ schedule q → q.prev ≡ prev_of (last_schedule bs)
            its-prev q e = let f : new ≡ q = cc in ap (λ (x : Schedule). x.prev) (sym f)

        opens-is : (n : ℕ) → n ≡ cond exploring (pendings (states_at b₆ len)) 0 → Ok n ≡ pushed_of (answer bytes len exploring seed bs)
        unfolding open_at
        opens-is n e = ap Ok (e ∙ ap (λ (x : List ℕ). cond exploring (pendings x) 0) states-now) ∙ ap pushed_of (sym added_is)

      pub thread-added : length b₆ ≡ length bytes → (n : ℕ) → n ≤ 5 → n ≡ cond exploring (pendings (states_at b₆ len)) 0 → PushesThread bytes b₆ len exploring seed (Ok n)
      thread-added keeps n most e = record {
        within = record { room = room; few = most };
        full = λ l. absurd (omega arith);
        keeps = keeps;
        says = λ bs h q. opens-is h q n e;
        holds = λ bs h q z. subst (λ (a : rules.Added). Holds b₆ (grown bs a)) (sym (added_is h q)) (holds-new h q z);
      }

-- What it opens

pub opens-some : {exploring : Bool} {n m : ℕ} → exploring ≡ true → CountIs 5 m n → n ≡ cond exploring m 0
opens-some {exploring} {n} {m} e c = c.is ∙ sym (ap (λ (x : Bool). cond x m 0) e)

pub opens-nothing : {exploring : Bool} (m : ℕ) → exploring ≡ false → 0 ≡ cond exploring m 0
opens-nothing {exploring} m e = sym (ap (λ (x : Bool). cond x m 0) e)
