-- What is read is a table that document 01 accepts, and a condition. Assumes nothing.
--     claimed-few         no more bytes of a condition are read than one may have
--     condition-sound     a condition that is read is one
--     sound, bytes, again     the statements
use Prim.Native.Nat.{ℕ, zero, suc, ◌+◌, ◌-◌, ◌≤◌}
use mathlib.Core.List.{List, [], ◌∷◌, ◌++◌}
use mathlib.Core.Bool.{Bool, true, false, ◌&&◌, ◌||◌, true≢false}
use mathlib.Core.Path.{◌≡◌, refl, ap, sym, subst, ◌∙◌}
use native.Mathlib.Omega.{arith}
use native.Mathlib.Numerals.{add-one}
use lib.Dec.{leb}
use lib.ListN.{length, length-append}
use borrow.Author.Tests.{leb-true, le-leb}
use Rattle.rules.specs.Table.{judged, good, threads_of}
use Rattle.rules.specs.Condition.{Read, bad, read, condition_at, claim_at, ends, is_condition, groups_deep, condition_bytes}
use Rattle.rules.specs.ConditionTree.{AllBytes}
use Rattle.rules.specs.Token.{is_empty, content}
use Rattle.rules.specs.Text as Text
use Rattle.rules.specs.Text.{Draft, table_of, nothing_made, threads_ahead, Claimed, claimed, claimed_to, unit_at, concluded, Line, goes_on, refused_line, ended, concludes, refused_at, accepted, line_of, lines_from, read_text}
use Rattle.rules.proofs.MeasureRows.{both_left, both_right}
use Rattle.returns.specs.Returns.{Returned, Sound, Bytes, Again}
use Rattle.returns.proofs.TokenLaws.{also}
use Rattle.returns.proofs.ByteLaws.{bytes-append}
use Rattle.returns.proofs.Returns.{judged_as, conclude-so, returned}
use Rattle.returns.proofs.MadeLaws.{Kept}
use Rattle.returns.proofs.KeptLaws.{kept-start}
use Rattle.returns.proofs.SoundLines.{Table, Ahead, After, line_after}
use Rattle.returns.proofs.UnitBytes.{OfBytes, unit-bytes}

refused-accepted : {A : Type 0} (rest table condition : List ℕ) → refused_at rest ≡ accepted table condition → A
refused-accepted rest table condition e = let z : ◌≡◌ {A = ℕ} 0 1 = cc in absurd (omega arith)

-- The condition

module _ (lines : ℕ) where
  -- where all was read, it is not too long, and bytes
  abbrev Few : Claimed lines → Type 0
  Few c = c.whole ≡ true → (length c.made ≤ condition_bytes) × AllBytes c.made

  few-not : (made rest : List ℕ) → Few (claimed_to lines made rest false)
  few-not made rest e = absurd (true≢false (sym e))

  -- with a unit that stands here
  abbrev taken : (n stop : ℕ) (made at : List ℕ) → Text.Unit → Claimed lines
  taken n stop made at u =
      elim u [
        | Text.none ↦ claimed_to lines made at false
        | Text.broken bytes rest ↦ claimed_to lines (made ++ bytes) rest false
        | Text.unit bytes rest ↦
            elim (leb (length made + length bytes) condition_bytes) [ true ↦ claimed lines n stop (made ++ bytes) rest | false ↦ claimed_to lines made at false ]
      ]

  -- what further units keep
  abbrev Later : ℕ → ℕ → Type 0
  Later n stop = (more rest : List ℕ) → length more ≤ condition_bytes → AllBytes more → Few (claimed lines n stop more rest)

  taken-few : (n stop : ℕ) (made at : List ℕ) → AllBytes made → Later n stop → (u : Text.Unit) → OfBytes u → Few (taken n stop made at u)
  taken-few n stop made at k later Text.none b = few-not made at
  taken-few n stop made at k later (Text.broken bytes rest) b = few-not (made ++ bytes) rest
  taken-few n stop made at k later (Text.unit bytes rest) b = by (leb (length made + length bytes) condition_bytes) refl
    where
      by : (x : Bool) → leb (length made + length bytes) condition_bytes ≡ x →
          Few (elim x [ true ↦ claimed lines n stop (made ++ bytes) rest | false ↦ claimed_to lines made at false ])
      by true f = later (made ++ bytes) rest (omega (arith, length-append made bytes, leb-true (length made + length bytes) condition_bytes f)) (bytes-append made bytes k b)
      by false f = few-not made at

  claimed-few : (n stop : ℕ) (made bs : List ℕ) → length made ≤ condition_bytes → AllBytes made → Few (claimed lines n stop made bs)
  unfolding claimed
  claimed-few zero stop made bs h k = few-not made (content lines bs)
  claimed-few (suc n) stop made bs h k = by (leb stop (length made) || is_empty (content lines bs)) (λ more rest l b. claimed-few n stop more rest l b)
    where
      by : (x : Bool) → Later n stop →
          Few (elim x [ true ↦ claimed_to lines made (content lines bs) (is_empty (content lines bs)) | false ↦ taken n stop made (content lines bs) (unit_at lines (content lines bs)) ])
      by true later = λ e. (h, k)
      by false later = taken-few n stop made (content lines bs) k later (unit_at lines (content lines bs)) (unit-bytes lines (content lines bs))

ends_so : (threads : ℕ) (c : List ℕ) (v : Bool) (rest : List ℕ) → condition_at threads (λ t r. 0) groups_deep c ≡ read v rest → is_empty rest ≡ true →
    ends (claim_at threads (λ t r. 0) c) ≡ true
ends_so threads [] v rest e f = refl
ends_so threads (b ∷ c) v rest e f = ap ends e ∙ f

-- a table that was made, with a condition that is none or was read
record Accepts (table condition : List ℕ) : Type 0 where
  fine : judged table ≡ good
  is : is_condition (threads_of table) condition ≡ true
  bytes : AllBytes table
  claims : AllBytes condition

accepts-same : (t c table condition : List ℕ) → accepted t c ≡ accepted table condition → Accepts t c → Accepts table condition
accepts-same t c table condition e h =
    let a : t ≡ table = cc in
    let b : c ≡ condition = cc in
    subst (λ (x : List ℕ). Accepts x condition) a (subst (Accepts t) b h)

condition-sound : (lines : ℕ) (m : Draft) (bs : List ℕ) (c : Claimed lines) (table condition : List ℕ) → Table m → Few lines c →
    judged_as lines m bs c ≡ accepted table condition → Accepts table condition
unfolding judged_as is_condition
condition-sound lines m bs c table condition g few e = at_read (condition_at m.threads (λ t r. 0) groups_deep c.made) refl e
  where
    at_end : (v : Bool) (rest : List ℕ) → condition_at m.threads (λ t r. 0) groups_deep c.made ≡ read v rest → (x : Bool) → (is_empty rest && c.whole) ≡ x →
        elim x [ true ↦ accepted (table_of m) c.made | false ↦ refused_at (claimed lines lines (length c.made - length rest) [] bs).rest ] ≡ accepted table condition → Accepts table condition
    at_end v rest f false h k = refused-accepted (claimed lines lines (length c.made - length rest) [] bs).rest table condition k
    at_end v rest f true h k =
        let all = few (both_right (is_empty rest) c.whole h) in
        accepts-same (table_of m) c.made table condition k (record {
          fine = g.0;
          is = also (le-leb (length c.made) condition_bytes all.0) (ends_so m.threads c.made v rest f (both_left (is_empty rest) c.whole h));
          bytes = g.1;
          claims = all.1;
        })

    at_read : (r : Read) → condition_at m.threads (λ t r. 0) groups_deep c.made ≡ r →
        elim r [
          | bad rest ↦ refused_at (claimed lines lines (length c.made - length rest) [] bs).rest
          | read v rest ↦
              elim (is_empty rest && c.whole) [
                | true ↦ accepted (table_of m) c.made
                | false ↦ refused_at (claimed lines lines (length c.made - length rest) [] bs).rest
              ]
        ] ≡ accepted table condition → Accepts table condition
    at_read (bad rest) f h = refused-accepted (claimed lines lines (length c.made - length rest) [] bs).rest table condition h
    at_read (read v rest) f h = at_end v rest f (is_empty rest && c.whole) refl h

-- All lines

-- no condition is one
none-fine : (threads : ℕ) → is_condition threads [] ≡ true
unfolding is_condition
none-fine threads = refl

lines-sound : (l all_threads : ℕ) (table condition : List ℕ) (n rows : ℕ) (m : Draft) (bs : List ℕ) → Kept all_threads rows m → Ahead l all_threads rows m bs →
    lines_from n (suc l) all_threads rows m bs ≡ accepted table condition → Accepts table condition
unfolding lines_from
lines-sound l all_threads table condition zero rows m bs h a e = refused-accepted bs table condition e
lines-sound l all_threads table condition (suc n) rows m bs h a e =
    by (line_of (suc l) all_threads rows m bs) (line_after l all_threads rows m bs h a) e (λ more made rest k b f. lines-sound l all_threads table condition n more made rest k b f)
  where
    by : (line : Line) → After l all_threads line →
        elim line [
          | goes_on more made rest ↦ lines_from n (suc l) all_threads more made rest
          | refused_line rest ↦ refused_at rest
          | ended made ↦ accepted (table_of made) []
          | concludes made rest ↦ concluded (suc l) made rest
        ] ≡ accepted table condition →
        ((more : ℕ) (made : Draft) (rest : List ℕ) → Kept all_threads more made → Ahead l all_threads more made rest →
        lines_from n (suc l) all_threads more made rest ≡ accepted table condition → Accepts table condition) →
        Accepts table condition
    by (goes_on more made rest) k f later = later more made rest k.0 k.1 f
    by (refused_line rest) k f later = refused-accepted rest table condition f
    by (ended made) k f later = accepts-same (table_of made) [] table condition f (record { fine = k.0; is = none-fine made.threads; bytes = k.1; claims = tt })
    by (concludes made rest) k f later =
        condition-sound (suc l) made rest (claimed (suc l) (suc l) (condition_bytes + 1) [] rest) table condition k
        (claimed-few (suc l) (suc l) (condition_bytes + 1) [] rest (omega arith) tt) (sym (conclude-so (suc l) made rest) ∙ f)

text-sound : (text table condition : List ℕ) → read_text text ≡ accepted table condition → Accepts table condition
unfolding read_text
text-sound text table condition e =
    let l = length text in
    let f = ap (λ (n : ℕ). lines_from n n (threads_ahead n text) 0 nothing_made text) (add-one l) in
    lines-sound l (threads_ahead (suc l) text) table condition (suc l) 0 nothing_made text (kept-start (threads_ahead (suc l) text) 0)
    (record { short = omega arith; threads = omega arith; rows_are = λ s. absurd (omega arith) })
    (sym f ∙ e)

-- The statements

pub sound : Sound
unfolding Sound
sound text table condition e = let a = text-sound text table condition e in (a.fine, a.is)

pub bytes : Bytes
unfolding Bytes
bytes text table condition e = let a = text-sound text table condition e in (a.bytes, a.claims)

pub again : Again
unfolding Again Returned
again text table condition e = let a = text-sound text table condition e in returned table condition a.bytes a.claims a.fine a.is
