-- What the entry with a list answers, by whether the list's length is what is wrong first. Assumes nothing.
--     miscounts-made, refusal-made        the tests in the code
--     refused-by-list, not-by-list        the definition's answer, in both cases
--     into-copied, other_length           in both the list is what the answer says; where it does not hold five that is a refusal
--     refuses-list, goes-on               the report and the buffers are the definition's
--     listed                              and so is the list
use Prim.Native.Nat.{ℕ, ◌*◌}
use mathlib.Core.List.{List}
use mathlib.Core.Bool.{Bool, true, false, cond, not, ◌&&◌, ◌||◌, true≢false}
use mathlib.Core.Path.{◌≡◌, refl, sym, ap, ◌∙◌}
use lib.Dec.{eqb, leb}
use lib.ListN.{length, length-map}
use borrow.Author.Tests.{not-true, not-false, eqb-false}
use Rattle.rules.specs.Explored as rules
use Rattle.rules.specs.Explored.{Summary, explored, explored_into, refused, copied, is_refusal, settings_fine}
use Rattle.rules.proofs.ExploredLaws.{explored-2, explored-3}
use Rattle.report.specs.Answers.{report_of, refusal, answer_number, summary_of, summaries_of}
use Rattle.report.specs.declared.Answer.{Answer}
use Rattle.report.specs.declared.Answer.TheVariants as answer
use Rattle.report.specs.declared.Report.{Report}
use Rattle.report.specs.declared.Summary as of_thread
use Rattle.report.proofs.AnswerLaws.{bad-trace}
use Rattle.settings.specs.declared.Settings.{Settings}
use Rattle.settings.specs.Given.{settings_of}
use Rattle.explorer.specs.Explores.{explored_of}
use Rattle.into.specs.Listed.{explored_into_of, miscounts}

pub miscounts-made : (s : rules.Settings) (bytes listed : ℕ) {fine held : Bool} → fine ≡ settings_fine s → held ≡ eqb bytes (16 * s.branches)
    → not (eqb listed 5 || not fine || not held) ≡ miscounts s bytes listed
miscounts-made s bytes listed p q = rw (p, q)

pub refusal-made : (a : Answer) {n : ℕ} {b : Bool} → n ≡ answer_number a → b ≡ is_refusal n → not b ≡ not (is_refusal (answer_number a))
refusal-made a e f = rw (f, e)

-- the definition
module _ (table condition : List ℕ) (s : rules.Settings) (path trace : List ℕ) (list : List Summary) where
  abbrev into : rules.ExploredInto
  into = explored_into table condition s path trace list

  abbrev counts : Bool
  counts = eqb (length list) 5 || not (settings_fine s) || not (eqb (length path) (16 * s.branches))

  abbrev wrong : Bool
  wrong = miscounts s (length path) (length list)

  into-miscounted : wrong ≡ true → into ≡ copied (refused 4 255 255 path trace) list
  unfolding explored_into refused
  into-miscounted e = let f : counts ≡ false = not-true counts e in rw (explored_into, f)

  into-counted : wrong ≡ false → into ≡ copied (explored table condition s path trace) list
  unfolding explored_into
  into-counted e = let f : counts ≡ true = not-false counts e in rw (explored_into, f)

  answers : {x : rules.Explored} → into ≡ copied x list → into.explored ≡ x
  answers e = ap (λ (y : rules.ExploredInto). y.explored) e

  pub refused-by-list : wrong ≡ true → into.explored ≡ refused 4 255 255 path trace
  refused-by-list e = answers (into-miscounted e)

  pub not-by-list : wrong ≡ false → into.explored ≡ explored table condition s path trace
  not-by-list e = answers (into-counted e)

  pub into-copied : into ≡ copied into.explored list
  into-copied = by-case wrong refl
    where
      copies : {x : rules.Explored} → into ≡ copied x list → into ≡ copied into.explored list
      copies e = e ∙ ap (λ (y : rules.Explored). copied y list) (sym (answers e))

      by-case : (m : Bool) → wrong ≡ m → into ≡ copied into.explored list
      by-case true m = copies (into-miscounted m)
      by-case false m = copies (into-counted m)

  answer-of : (a : ℕ) → (refused a 255 255 path trace).report.answer ≡ a
  unfolding refused
  answer-of a = refl

  pub other_length : eqb (length list) 5 ≡ false → is_refusal into.explored.report.answer ≡ true
  other_length e = by-case wrong refl (settings_fine s) refl (eqb (length path) (16 * s.branches)) refl
    where
      refuses : (a : ℕ) → into.explored ≡ refused a 255 255 path trace → is_refusal a ≡ true → is_refusal into.explored.report.answer ≡ true
      refuses a f h = ap (λ (y : rules.Explored). is_refusal y.report.answer) f ∙ ap is_refusal (answer-of a) ∙ h

      by-case : (m : Bool) → wrong ≡ m → (fine : Bool) → settings_fine s ≡ fine → (held : Bool) → eqb (length path) (16 * s.branches) ≡ held
          → is_refusal into.explored.report.answer ≡ true
      by-case true m fine a held b = refuses 4 (refused-by-list m) refl
      by-case false m false a held b = refuses 2 (not-by-list m ∙ explored-2 table condition s path trace a) refl
      by-case false m true a false b =
          refuses 3 (not-by-list m ∙ explored-3 table condition s path trace a (eqb-false (length path) (16 * s.branches) b)) refl
      by-case false m true a true b = absurd (true≢false (rw (e, a, b) at m))

-- the report and the buffers
module _ (table condition : List ℕ) (s : Settings) (path trace : List ℕ) (n : ℕ) (r : Report) where
  at-list : {b : Bool} → miscounts (settings_of s) (length path) n ≡ b → (list : List Summary) → length list ≡ n
      → miscounts (settings_of s) (length path) (length list) ≡ b
  at-list m list l = ap (miscounts (settings_of s) (length path)) l ∙ m

  pub refuses-list : miscounts (settings_of s) (length path) n ≡ true → report_of r ≡ refusal answer.BadTrace
      → (list : List Summary) → length list ≡ n → explored_of r path trace ≡ (explored_into table condition (settings_of s) path trace list).explored
  unfolding refused
  refuses-list m e list l =
      ap (λ (x : rules.Report). record { report = x; path = path; trace = trace }) (e ∙ bad-trace path trace)
      ∙ sym (refused-by-list table condition (settings_of s) path trace list (at-list m list l))

  pub goes-on : miscounts (settings_of s) (length path) n ≡ false
      → {exit_path exit_trace : List ℕ} → explored_of r exit_path exit_trace ≡ explored table condition (settings_of s) path trace
      → (list : List Summary) → length list ≡ n → explored_of r exit_path exit_trace ≡ (explored_into table condition (settings_of s) path trace list).explored
  goes-on m e list l = e ∙ sym (not-by-list table condition (settings_of s) path trace list (at-list m list l))

-- the list: it holds the summaries where there was a run and it holds five
module _ (table condition : List ℕ) (s : rules.Settings) (path trace exit_path exit_trace : List ℕ) (r : Report) (ys : List of_thread.Summary)
    (e : (list : List Summary) → length list ≡ length ys → explored_of r exit_path exit_trace ≡ (explored_into table condition s path trace list).explored) where
  abbrev were : List Summary
  were = summaries_of ys

  abbrev refusal_is : Bool
  refusal_is = is_refusal (answer_number r.answer)

  same : explored_of r exit_path exit_trace ≡ (explored_into table condition s path trace were).explored
  same = e were (length-map ys summary_of)

  refuses : eqb (length ys) 5 ≡ false → refusal_is ≡ true
  refuses five =
      ap (λ (x : rules.Explored). is_refusal x.report.answer) same
      ∙ other_length table condition s path trace were (ap (λ (n : ℕ). eqb n 5) (length-map ys summary_of) ∙ five)

  kept : summaries_of (cond (not refusal_is && eqb (length ys) 5) r.threads ys) ≡ cond refusal_is were (summaries_of r.threads)
  kept = by-case refusal_is refl (eqb (length ys) 5) refl
    where
      by-case : (no : Bool) → refusal_is ≡ no → (five : Bool) → eqb (length ys) 5 ≡ five
          → summaries_of (cond (not no && five) r.threads ys) ≡ cond no were (summaries_of r.threads)
      by-case true a five b = refl
      by-case false a true b = refl
      by-case false a false b = absurd (true≢false (sym (refuses b) ∙ a))

  pub listed : {ran : Bool} {zs : List of_thread.Summary} → ran ≡ not refusal_is → zs ≡ cond (ran && eqb (length ys) 5) r.threads ys
      → explored_into_of r exit_path exit_trace zs ≡ explored_into table condition s path trace were
  listed a f =
      ap (λ (l : List Summary). record { explored = explored_of r exit_path exit_trace; list = l })
      (ap summaries_of (f ∙ ap (λ (b : Bool). cond (b && eqb (length ys) 5) r.threads ys) a) ∙ kept)
      ∙ ap (λ (x : rules.Explored). copied x were) same ∙ sym (into-copied table condition s path trace were)
