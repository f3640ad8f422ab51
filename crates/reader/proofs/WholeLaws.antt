-- A whole text. Assumes nothing.
--     Going, going_start      on the way, and before the first line
--     step-..                 what comes of a line
--     closes-..               a text's condition, where it ends
use Prim.Native.Nat.{ℕ, zero, suc, ◌+◌, ◌-◌, ◌≤◌, ◌<◌}
use mathlib.Core.List.{List, []}
use mathlib.Core.Bool.{Bool, true, false, cond}
use mathlib.Core.Path.{◌≡◌, refl, ap, sym, ◌∙◌, subst}
use native.Mathlib.Omega.{arith}
use lib.ListN.{length, get_or, take, drop, replicate, length-take}
use lib.Seq.{paste, length-take-le}
use Rattle.rules.specs.Table.{max_rows, total}
use Rattle.rules.specs.Condition.{condition_bytes}
use Rattle.rules.specs.Text as rules
use Rattle.rules.specs.Text.{Draft, nothing_made, table_of, filled, TextRead, refused_at, accepted, lines_from, lines_in, line_of, read_text, threads_ahead, table_bytes}
use Rattle.token.specs.Places.{part}
use Rattle.claims.specs.Units.{most_claimed, Concludes, concluded_of}
use Rattle.claims.specs.declared.Conclusion.{Conclusion}
use Rattle.filling.specs.Tables.{HeldTable, Blank}
use Rattle.filling.specs.Steps.{Lined, LineSteps}
use Rattle.reader.specs.Lines.{Took, TextAnswered, TextAnswers, Closes}
use Rattle.reader.specs.declared.Taken.{Taken}
use Rattle.std.proofs.Common.{Result, Ok, Err}
use Rattle.filling.specs.declared.Line.{Line}
use Rattle.filling.specs.declared.Reached.{Reached}
use Rattle.filling.specs.declared.Line.TheVariants.{GoesOn, Ended, Concludes as Goes}
use Rattle.filling.proofs.HeldLaws.{so-held, filled_on, length-filled, length-table_of}

-- on the way, with so many lines that may still come
pub record Going (text table : List ℕ) (lines all n rows from left : ℕ) (whole : TextRead) : Type 0 where
  pub made : Draft
  pub held : HeldTable table n made
  pub same : lines_from left lines all rows made (drop from text) ≡ whole

none-most : (i : ℕ) → get_or (replicate 5 0) i 0 ≤ max_rows
none-most zero = omega arith
none-most (suc zero) = omega arith
none-most (suc (suc zero)) = omega arith
none-most (suc (suc (suc zero))) = omega arith
none-most (suc (suc (suc (suc zero)))) = omega arith
none-most (suc (suc (suc (suc (suc i))))) = omega arith

none-total : total (replicate 5 0) ≡ 0
unfolding total
none-total = refl

blank-table : (table : List ℕ) → Blank table_bytes table → HeldTable table 8 nothing_made
blank-table table b =
    let e : length table ≡ suc (suc (suc (suc (suc (suc (suc (suc (length table - 8)))))))) = omega (arith, b.room) in
    so-held table (length table) 8 nothing_made (b.is ∙ ap (λ (n : ℕ). replicate n 0) e) b.room (omega arith) (omega arith) (omega arith) refl none-most refl (omega (arith, none-total))

pub blank-filled : (least : ℕ) (b : List ℕ) → Blank least b → b ≡ filled (length b) []
blank-filled least b h = let e : length b ≡ length b - 0 = omega arith in h.is ∙ ap (λ (n : ℕ). replicate n 0) e

whole_is : (text : List ℕ) (all : ℕ) → all ≡ threads_ahead (lines_in text) text → lines_from (lines_in text) (lines_in text) all 0 nothing_made text ≡ read_text text
unfolding read_text
whole_is text all e = ap (λ (k : ℕ). lines_from (lines_in text) (lines_in text) k 0 nothing_made text) e

pub going_start : (text table : List ℕ) (all : ℕ) → Blank table_bytes table → all ≡ threads_ahead (length text + 1) (drop 0 text) → Going text table (length text + 1) all 8 0 0 (length text + 1) (read_text text)
going_start text table all b e = record { made = nothing_made; held = blank-table table b; same = whole_is text all e }

abbrev lines_by : ℕ → ℕ → ℕ → rules.Line → TextRead
lines_by n lines all l =
    elim l [
      | rules.goes_on more made rest ↦ lines_from n lines all more made rest
      | rules.refused_line rest ↦ refused_at rest
      | rules.ended made ↦ accepted (table_of made) []
      | rules.concludes made rest ↦ rules.concluded lines made rest
    ]

lines_next : (n lines all rows : ℕ) (m : Draft) (bs : List ℕ) → lines_from (suc n) lines all rows m bs ≡ lines_by n lines all (line_of lines all rows m bs)
unfolding lines_from
lines_next n lines all rows m bs = refl

lines-zero : (lines all rows : ℕ) (m : Draft) (bs : List ℕ) → lines_from 0 lines all rows m bs ≡ refused_at bs
unfolding lines_from
lines-zero lines all rows m bs = refl

module _ (text entry : List ℕ) (lines all n rows from left : ℕ) (whole : TextRead) (g : Going text entry lines all n rows from left whole) where
  pub going-out : left ≤ 0 → whole ≡ refused_at (drop from text)
  going-out h =
      let e : left ≡ 0 = omega arith in
      sym g.same ∙ ap (λ (k : ℕ). lines_from k lines all rows g.made (drop from text)) e ∙ lines-zero lines all rows g.made (drop from text)

  module _ (exit : List ℕ) (r : Result Line ℕ) (steps : LineSteps text entry exit n r (λ m. line_of lines all rows m (drop from text))) (some : 0 < left) where
    whole_by : (l : rules.Line) → line_of lines all rows g.made (drop from text) ≡ l → whole ≡ lines_by (left - 1) lines all l
    whole_by l e =
        let s : left ≡ suc (left - 1) = omega arith in
        sym g.same
        ∙ ap (λ (k : ℕ). lines_from k lines all rows g.made (drop from text)) s
        ∙ lines_next (left - 1) lines all rows g.made (drop from text)
        ∙ ap (lines_by (left - 1) lines all) e

    lined : (q : Result Line ℕ) → r ≡ q → Lined text exit n (line_of lines all rows g.made (drop from text)) q
    lined q e = subst (λ (x : Result Line ℕ). Lined text exit n (line_of lines all rows g.made (drop from text)) x) e (steps.is g.made g.held)

    pub step-goes : (more : Reached) → r ≡ Ok (GoesOn more) → Going text exit lines all more.length more.rows more.at (left - 1) whole
    step-goes more e =
        let x = lined (Ok (GoesOn more)) e in
        record { made = x.0; held = x.1.1; same = sym (whole_by _ x.1.0) }

    pub step-refused : (at : ℕ) → r ≡ Err at → whole ≡ refused_at (drop at text)
    step-refused at e = whole_by _ (lined (Err at) e)

    pub step-ended : (condition : List ℕ) (least : ℕ) → Blank least condition → r ≡ Ok Ended → Took exit condition n 0 whole
    step-ended condition least b e =
        let x = lined (Ok Ended) e in
        record {
          table_is = table_of x.0;
          condition_is = [];
          says = whole_by _ x.1.0;
          table_left = x.1.1.is;
          condition_left = blank-filled least condition b;
          table_long = omega (arith, x.1.1.long, length-table_of x.0 x.1.1.five);
          condition_long = refl;
        }

    pub step-made : (at : ℕ) → r ≡ Ok (Goes at) → (m : Draft) × ((whole ≡ rules.concluded lines m (drop at text)) × HeldTable exit n m)
    step-made at e = let x = lined (Ok (Goes at)) e in (x.0, (whole_by _ x.1.0, x.1.1))

-- The condition

pub piece-most : (bytes : List ℕ) (n : ℕ) (piece : List ℕ) → piece ≡ part 0 n bytes → length piece ≤ n
piece-most bytes n piece p = omega (arith, ap length p, length-take (n - 0) (drop 0 bytes))

module _ (text table : List ℕ) (at lines threads n : ℕ) (r : Result Conclusion ℕ) (closes : Concludes text at lines threads r) (m : Draft) (held : HeldTable table n m) (t : m.threads ≡ threads) where
  pub closes-refused : (stuck : ℕ) → r ≡ Err stuck → rules.concluded lines m (drop at text) ≡ refused_at (drop stuck text)
  closes-refused stuck e = sym (closes.is m t) ∙ ap (concluded_of (table_of m) text) e

  module _ (c : Conclusion) (e : r ≡ Ok c) where
    fits : (c.length ≤ condition_bytes) × (length c.bytes ≡ most_claimed)
    fits = closes.within c e

    closes-accepted : rules.concluded lines m (drop at text) ≡ accepted (table_of m) (take c.length c.bytes)
    closes-accepted = sym (closes.is m t) ∙ ap (concluded_of (table_of m) text) e

    long-taken : length (take c.length c.bytes) ≡ c.length
    long-taken = length-take-le c.length c.bytes (omega (arith, fits.0, fits.1))

    pub closes-taken : (entry exit piece : List ℕ) → Blank condition_bytes entry → piece ≡ part 0 c.length c.bytes
        → exit ≡ paste entry 0 piece (length piece) → Took table exit n c.length (rules.concluded lines m (drop at text))
    closes-taken entry exit piece b p x =
        let z : c.length - 0 ≡ c.length = omega arith in
        let q : piece ≡ take c.length c.bytes = p ∙ ap (λ (k : ℕ). take k c.bytes) z in
        let l : length piece ≡ c.length = ap length q ∙ long-taken in
        let put : exit ≡ filled (length entry) piece =
        x ∙ ap (λ (y : List ℕ). paste y 0 piece (length piece)) (blank-filled condition_bytes entry b) ∙ filled_on (length entry) [] piece (omega (arith, b.room, fits.0)) in
        let same : length exit ≡ length entry = ap length put ∙ length-filled (length entry) piece (omega (arith, b.room, fits.0)) in
        record {
          table_is = table_of m;
          condition_is = take c.length c.bytes;
          says = closes-accepted;
          table_left = held.is;
          condition_left = put ∙ ap (λ (k : ℕ). filled k piece) (sym same) ∙ ap (filled (length exit)) q;
          table_long = omega (arith, held.long, length-table_of m held.five);
          condition_long = sym long-taken;
        }

pub answered-by : (text table condition : List ℕ) (n : ℕ) (r : Result Taken ℕ) (read : Draft → TextRead) → Closes text table condition n r read
    → (m : Draft) → HeldTable table n m → (whole : TextRead) → read m ≡ whole → TextAnswers text table condition r whole
answered-by text table condition n r read closes m held whole e = record { is = subst (TextAnswered text table condition r) e (closes.is m held) }
