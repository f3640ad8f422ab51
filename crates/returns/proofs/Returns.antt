-- What was written is read back: the whole text. Assumes nothing.
--     condition-back             the condition
--     table-back                 the table that was made
--     past-plains, plains-on     past the line of the plain cells, where there is one
--     returned                   the statement
use Prim.Native.Nat.{ℕ, zero, suc, ◌+◌, ◌-◌, ◌*◌, ◌≤◌, ◌<◌}
use mathlib.Core.List.{List, [], ◌∷◌, ◌++◌, append-nil}
use mathlib.Core.Bool.{true, false, ◌&&◌, true≢false, or-true}
use mathlib.Core.Path.{◌≡◌, refl, ap, sym, subst, ◌∙◌}
use mathlib.Core.Logic.{inl, inr}
use native.Mathlib.Omega.{arith}
use native.Mathlib.Numerals.{add-one}
use lib.Dec.{leb}
use lib.ListN.{length, get_or, take, drop, replicate, length-append, length-drop}
use lib.Seq.{take_all}
use borrow.Author.Tests.{leb-true}
use Rattle.rules.specs.Vector.{equal}
use Rattle.rules.specs.Table.{max_plains, threads_of, cells_of, plains_of, values_of, counts_of, total}
use Rattle.rules.specs.Condition.{Read, bad, read, condition_at, claim_at, ends, is_condition, groups_deep, condition_bytes}
use Rattle.rules.specs.ConditionTree.{AllBytes}
use Rattle.rules.specs.Token.{bytes_of, line_feed, run_length, token_length, ends_line, is_empty, is_letter}
use Rattle.rules.specs.Text.{Draft, with_plain, table_of, says, nothing_made, threads_ahead, claimed, claimed_to, Claimed, concluded, TextRead, refused_at, accepted, line_of, goes_on, values_line, lines_from, read_text}
use Rattle.rules.specs.Writer.{units_shown, condition_shown, threads_shown, values_shown, plains_shown, written_text}
use Rattle.rules.proofs.MeasureRows.{both_left, both_right}
use Rattle.rules.proofs.ConditionLaws.{grammar}
use Rattle.returns.specs.Returns.{Returned}
use Rattle.returns.proofs.TokenLaws.{run-all}
use Rattle.returns.proofs.TableLaws.{Fine, fine-table, table-whole}
use Rattle.returns.proofs.CountLaws.{so_far, so-start}
use Rattle.returns.proofs.LineLaws.{on-goes, on-ends, on-concludes, cells-step, plains-step, finally-step, end_step}
use Rattle.returns.proofs.AheadLaws.{Ending, past-line, threads-ahead}
use Rattle.returns.proofs.ProgramLaws.{made, counts-five, plain_rows, threads-read}
use Rattle.returns.proofs.CellsLaws.{values_text, values-text, values-parted, plains_text, plains-shown, cells-line, plains-line, cells_made, plains_made, none_yet, cells-read, plains-read}
use Rattle.returns.proofs.UnitLaws.{Units, none, parted-units, tree-units, claimed-back}

-- The condition

accepted-units : (threads : ℕ) (bs : List ℕ) → threads ≤ 5 → AllBytes bs → is_condition threads bs ≡ true → Units bs
accepted-units threads bs few k e =
    elim (grammar.accepted threads bs k e) [
      | inl z ↦ subst Units (sym z) none
      | inr a ↦ subst Units (append-nil _ ∙ sym a.is) (tree-units threads few groups_deep a.tree [] a.fine none)
    ]

-- what is judged of what was read of a condition
unfoldable pub judged_as : (lines : ℕ) (m : Draft) (bs : List ℕ) → Claimed lines → TextRead
judged_as lines m bs c =
    elim (condition_at m.threads (λ t r. 0) groups_deep c.made) [
      | bad rest ↦ refused_at (claimed lines lines (length c.made - length rest) [] bs).rest
      | read v rest ↦
          elim (is_empty rest && c.whole) [
            | true ↦ accepted (table_of m) c.made
            | false ↦ refused_at (claimed lines lines (length c.made - length rest) [] bs).rest
          ]
    ]

pub conclude-so : (lines : ℕ) (m : Draft) (bs : List ℕ) → concluded lines m bs ≡ judged_as lines m bs (claimed lines lines (condition_bytes + 1) [] bs)
unfolding judged_as
conclude-so lines m bs = refl

judged-whole : (lines : ℕ) (m : Draft) (bs c : List ℕ) → 1 ≤ length c → ends (claim_at m.threads (λ t r. 0) c) ≡ true →
    judged_as lines m bs (claimed_to lines c [] true) ≡ accepted (table_of m) c
unfolding judged_as
judged-whole lines m bs [] l e = absurd (omega arith)
judged-whole lines m bs (b ∷ c) l e = by (condition_at m.threads (λ t r. 0) groups_deep (b ∷ c)) refl e
  where
    by : (r : Read) → condition_at m.threads (λ t r. 0) groups_deep (b ∷ c) ≡ r → ends r ≡ true →
        judged_as lines m bs (claimed_to lines (b ∷ c) [] true) ≡ accepted (table_of m) (b ∷ c)
    by (bad rest) f g = absurd (true≢false (sym g))
    by (read v rest) f g = rw (judged_as, f, g) refl

condition-back : (l : ℕ) (m : Draft) (b : ℕ) (bs : List ℕ) → m.threads ≤ 5 → AllBytes (b ∷ bs) → is_condition m.threads (b ∷ bs) ≡ true →
    length (units_shown (length (b ∷ bs)) false (b ∷ bs) ++ (line_feed ∷ [])) ≤ suc l →
    concluded (suc l) m (units_shown (length (b ∷ bs)) false (b ∷ bs) ++ (line_feed ∷ [])) ≡ accepted (table_of m) (b ∷ bs)
unfolding is_condition
condition-back l m b bs few k e h =
    let text = units_shown (length (b ∷ bs)) false (b ∷ bs) ++ (line_feed ∷ []) in
    let small = leb-true (length (b ∷ bs)) condition_bytes (both_left (leb (length (b ∷ bs)) condition_bytes) _ e) in
    conclude-so (suc l) m text
    ∙ ap (judged_as (suc l) m text) (claimed-back l (b ∷ bs) (accepted-units m.threads (b ∷ bs) few k e) false (length (b ∷ bs)) (suc l) [] (omega arith) h (omega arith))
    ∙ judged-whole (suc l) m text (b ∷ bs) (omega arith) (both_right (leb (length (b ∷ bs)) condition_bytes) _ e)

-- where the threads end
finally-said : (rest : List ℕ) → is_letter (get_or rest 0 0) ≡ false → says "finally" (bytes_of "finally" ++ rest) ≡ true
unfolding run_length ends_line bytes_of token_length equal
finally-said rest p = rw (run-all is_letter [] rest refl p) refl

ending-so : (c : List ℕ) → Units c → Ending (condition_shown c)
unfolding condition_shown run_length
ending-so [] u = refl
ending-so (b ∷ bs) u = rw (finally-said (units_shown (length (b ∷ bs)) false (b ∷ bs) ++ (line_feed ∷ [])) (parted-units (b ∷ bs) u (length (b ∷ bs)) []), or-true) refl

-- The table

module _ (t : List ℕ) (bytes : AllBytes t) (fine : Fine t) where
  -- what has been read when all threads have
  abbrev whole : Draft
  whole = made t bytes fine (threads_of t) (counts_of t) (total (counts_of t))

  table-back : table_of whole ≡ t
  table-back =
      let size = fine.header.size in
      let rest : take (8 * values_of t + 24 * total (counts_of t)) (drop 8 t) ≡ drop 8 t = take_all (8 * values_of t + 24 * total (counts_of t)) (drop 8 t) (omega (arith, length-drop 8 t)) in
      (λ i. threads_of t ∷ cells_of t ∷ (counts_of t ++ (plains_of t ∷ rest i))) ∙ table-whole t fine.header.long

  finish : (l : ℕ) (c : List ℕ) → Units c → AllBytes c → is_condition (threads_of t) c ≡ true → (n rows : ℕ) → n ≤ suc l → length (condition_shown c) < n →
      lines_from n (suc l) (threads_of t) rows whole (condition_shown c) ≡ accepted t c
  unfolding condition_shown
  finish l c u k e zero rows h i = absurd (omega arith)
  finish l [] u k e (suc n) rows h i =
      on-ends n (suc l) (threads_of t) rows whole [] whole (end_step (suc l) (threads_of t) rows whole fine.header.threads-some) ∙ ap (λ (x : List ℕ). accepted x []) table-back
  finish l (b ∷ bs) u k e (suc n) rows h i =
      let text = units_shown (length (b ∷ bs)) false (b ∷ bs) ++ (line_feed ∷ []) in
      on-concludes n (suc l) (threads_of t) rows whole (bytes_of "finally" ++ text) whole text
      (finally-step (suc l) (threads_of t) rows whole text (parted-units (b ∷ bs) u (length (b ∷ bs)) []) fine.header.cells-some fine.header.threads-some)
      ∙ condition-back l whole b bs fine.header.threads-few k e (omega (arith, length-append (bytes_of "finally") text))
      ∙ ap (λ (x : List ℕ). accepted x (b ∷ bs)) table-back

  values-made : plains_made t bytes fine (values_of t) ≡ made t bytes fine 0 (so_far (counts_of t) 0 0) (total (take 0 (counts_of t)))
  unfolding total
  values-made =
      let p : values_of t - cells_of t ≡ plains_of t = omega arith in
      let e : replicate 5 0 ≡ so_far (counts_of t) 0 0 = sym (so-start (counts_of t) ∙ ap (λ (n : ℕ). replicate n 0) (counts-five t bytes fine)) in
      let f : 8 * values_of t ≡ 8 * values_of t + 24 * 0 = omega arith in
      λ i. record { cells = cells_of t; plains = p i; threads = 0; counts = e i; body = take (f i) (drop 8 t) }

  -- The line of the plain cells, where there is one

  past-plains : (n : ℕ) (rest : List ℕ) (k : ℕ) → ((m : ℕ) → length rest < m → threads_ahead m rest ≡ k) → length (plains_shown t ++ rest) < n →
      threads_ahead n (plains_shown t ++ rest) ≡ k
  past-plains zero rest k then l = absurd (omega arith)
  past-plains (suc n) rest k then l = elim (plains-shown t) [
    | inl a ↦
        let e = ap (λ (x : List ℕ). x ++ rest) a.1 in
        ap (threads_ahead (suc n)) e ∙ then (suc n) (omega (arith, ap length e))
    | inr a ↦
        let e = ap (λ (x : List ℕ). x ++ rest) a.1 in
        let line = plains-line t in
        let long = line.long in
        ap (threads_ahead (suc n)) e ∙ past-line n (plains_text t) rest line ∙ then n (omega (arith, ap length e, length-append (plains_text t) rest))
  ]

  plains-on : (lines n : ℕ) (answer : TextRead) (rest : List ℕ) →
      ((m : ℕ) → m ≤ n → length rest < m → lines_from m lines (threads_of t) 0 (plains_made t bytes fine (values_of t)) rest ≡ answer) →
      length (plains_shown t ++ rest) < n → lines_from n lines (threads_of t) 0 (cells_made t bytes fine (cells_of t)) (plains_shown t ++ rest) ≡ answer
  plains-on lines zero answer rest then l = absurd (omega arith)
  plains-on lines (suc n) answer rest then l = elim (plains-shown t) [
    | inl a ↦
        let e = ap (λ (x : List ℕ). x ++ rest) a.1 in
        let z = a.0 in
        let all : cells_of t ≡ values_of t = omega arith in
        ap (lines_from (suc n) lines (threads_of t) 0 cells) e
        ∙ ap (λ (m : Draft). lines_from (suc n) lines (threads_of t) 0 m rest) (none_yet t bytes fine ∙ ap (plains_made t bytes fine) all)
        ∙ then (suc n) (omega arith) (omega (arith, ap length e))
    | inr a ↦
        let e = ap (λ (x : List ℕ). x ++ rest) a.1 in
        let long = (plains-line t).long in
        let behind = values_shown t (plains_of t) (cells_of t) ++ (line_feed ∷ rest) in
        ap (lines_from (suc n) lines (threads_of t) 0 cells) (e ∙ values-text (bytes_of "plain") t (plains_of t) (cells_of t) rest)
        ∙ on-goes n lines (threads_of t) 0 cells (bytes_of "plain" ++ behind) 0 (plains_made t bytes fine (values_of t)) rest
        (plains-step lines (threads_of t) 0 cells behind (values-parted t (plains_of t) (cells_of t) rest).0 fine.header.cells-some refl refl
        ∙ ap (λ (m : Draft). values_line with_plain (λ (x : Draft). x.plains) max_plains m behind) (none_yet t bytes fine)
        ∙ plains-read t bytes fine a.0 rest)
        ∙ then n (omega arith) (omega (arith, ap length e, length-append (plains_text t) rest))
  ]
    where
      cells : Draft
      cells = cells_made t bytes fine (cells_of t)

  -- The whole text

  abbrev line_one : List ℕ
  line_one = values_text (bytes_of "cells") t (cells_of t) 0

  abbrev others : List ℕ → List ℕ
  others c = threads_shown t (threads_of t) 0 ++ condition_shown c

  lines-text : (c : List ℕ) → written_text t c ≡ line_one ++ (plains_shown t ++ others c)
  unfolding written_text
  lines-text c = sym (values-text (bytes_of "cells") t (cells_of t) 0 (plains_shown t ++ others c))

  ahead-all : (c : List ℕ) → Units c → (n : ℕ) → length (written_text t c) ≤ n → threads_ahead (suc n) (written_text t c) ≡ threads_of t
  ahead-all c u n h =
      let few = fine.header.threads-few in
      let line = cells-line t in
      let some = line.long in
      let e = lines-text c in
      ap (threads_ahead (suc n)) e
      ∙ past-line n line_one (plains_shown t ++ others c) line
      ∙ past-plains n (others c) (threads_of t)
      (λ m l. threads-ahead t (condition_shown c) (ending-so c u) (threads_of t) 0 m (λ j k. plain_rows t bytes fine j (omega arith)) l)
      (omega (arith, ap length e, length-append line_one (plains_shown t ++ others c)))

  first-line : (c : List ℕ) (lines all_threads : ℕ) →
      line_of lines all_threads 0 nothing_made (written_text t c) ≡ goes_on 0 (cells_made t bytes fine (cells_of t)) (plains_shown t ++ others c)
  unfolding written_text
  first-line c lines all_threads =
      let behind = plains_shown t ++ others c in
      cells-step lines all_threads 0 nothing_made (values_shown t (cells_of t) 0 ++ (line_feed ∷ behind)) (values-parted t (cells_of t) 0 behind).0 refl
      ∙ cells-read t bytes fine behind

  text-back : (c : List ℕ) → AllBytes c → is_condition (threads_of t) c ≡ true → read_text (written_text t c) ≡ accepted t c
  unfolding read_text
  text-back c k e =
      let text = written_text t c in
      let l = length text in
      let u = accepted-units (threads_of t) c fine.header.threads-few k e in
      let line = cells-line t in
      let some = line.long in
      let behind = plains_shown t ++ others c in
      let left : length behind < l = omega (arith, ap length (lines-text c), length-append line_one behind) in
      ap (λ (n : ℕ). lines_from n n (threads_ahead n text) 0 nothing_made text) (add-one l)
      ∙ ap (λ (n : ℕ). lines_from (suc l) (suc l) n 0 nothing_made text) (ahead-all c u l (omega arith))
      ∙ on-goes l (suc l) (threads_of t) 0 nothing_made text 0 (cells_made t bytes fine (cells_of t)) behind (first-line c (suc l) (threads_of t))
      ∙ plains-on (suc l) l (accepted t c) (others c)
      (λ m a b.
      ap (λ (x : Draft). lines_from m (suc l) (threads_of t) 0 x (others c)) values-made
      ∙ threads-read t bytes fine (suc l) (accepted t c) (condition_shown c) (ending-so c u)
      (λ n rows h i. finish l c u k e n rows h i) (threads_of t) 0 m 0 (omega arith) (omega arith) b)
      left

-- "Reading what was written gives the same table and condition."
pub returned : Returned
unfolding Returned
returned table condition bytes claims h e = text-back table bytes (fine-table table h) condition claims e
