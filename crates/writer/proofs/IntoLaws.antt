-- What the writer answers, and what it leaves in the buffer. Assumes nothing.
--     fit-good                                 what the definition accepts can be written
--     into_bad, into-condition                 refusals
--     into-short, into-written                 too small a buffer, and one that is not
use Prim.Native.Nat.{ℕ, ◌+◌, ◌≤◌, ◌<◌}
use mathlib.Core.List.{List, ◌++◌}
use mathlib.Core.Bool.{Bool, true, false, and-eq-true_iff}
use mathlib.Core.Path.{◌≡◌, refl, ap, sym, ◌∙◌}
use native.Mathlib.Omega.{arith}
use borrow.Author.Tests.{leb-true, le-leb, lt-leb}
use lib.Dec.{leb}
use lib.ListN.{length, get_or, take, drop}
use lib.Seq.{sets-eq, length-sets, take-append_seam}
use Rattle.rules.specs.Table as rules
use Rattle.rules.specs.Table.{good, bad_header, bad_row, judged, header_fine, threads_of}
use Rattle.rules.specs.Condition.{is_condition}
use Rattle.rules.specs.Text.{filled}
use Rattle.rules.specs.Writer.{WrittenInto, unfit, short, written, written_text, written_into}
use Rattle.rules.proofs.MeasureAccepted.{good-header}
use Rattle.std.specs.Prelude.{Result, Ok, Err}
use Rattle.table.specs.declared.BadTable.{BadTable}
use Rattle.table.specs.declared.BadTable.TheVariants.{Header, Row}
use Rattle.table.specs.Answers.{judged_of}
use Rattle.put.specs.Puts.{last, up_to_last, Puts}
use Rattle.condition_line.proofs.FineLaws.{fine-claim}
use Rattle.writer.specs.Answers.{with_text, Fit}
use Rattle.writer.specs.declared.Unwritten.TheVariants.{Unfit, Short}
use Rattle.writer.proofs.LengthLaws.{text-short}

fit-header : (t : List ℕ) → header_fine t ≡ true → Fit t
unfolding header_fine
fit-header t e =
    let f = simp and-eq-true_iff at e in
    record { header = omega (arith, leb-true); threads = omega (arith, leb-true) }

pub fit-good : (t : List ℕ) → judged t ≡ good → Fit t
fit-good t e = fit-header t (good-header t e)

module _ (t c text : List ℕ) where
  abbrev into-fit : Bool → WrittenInto
  into-fit s =
      elim s [
        | false ↦ record { answer = short (length (written_text t c)); text = text }
        | true ↦ record {
          answer = written (length (written_text t c));
          text = filled (length text) (written_text t c);
        }
      ]

  abbrev into-claim : Bool → WrittenInto
  into-claim s =
      elim s [
        | false ↦ record { answer = unfit; text = text }
        | true ↦ into-fit (leb (length (written_text t c)) (length text))
      ]

  abbrev into : rules.Judged → WrittenInto
  into v =
      elim v [
        | good ↦ into-claim (is_condition (threads_of t) c)
        | bad_header ↦ record { answer = unfit; text = text }
        | bad_row k n ↦ record { answer = unfit; text = text }
      ]

  into-all : written_into t c text ≡ into (judged t)
  unfolding written_into
  into-all = refl

  pub into_bad : (r : Result (Unit {0}) BadTable) (why : BadTable) → judged_of r ≡ judged t → r ≡ Err why → with_text (Err Unfit) text ≡ written_into t c text
  into_bad r Header e h = sym (into-all ∙ ap into (sym e ∙ ap judged_of h))
  into_bad r (Row k n) e h = sym (into-all ∙ ap into (sym e ∙ ap judged_of h))

  module _ (accepted : judged t ≡ good) where
    to-claim : (s : Bool) → is_condition (threads_of t) c ≡ s → into-claim s ≡ written_into t c text
    to-claim s e = ap into-claim (sym e) ∙ sym (into-all ∙ ap into accepted)

    pub into-condition : is_condition (threads_of t) c ≡ false → with_text (Err Unfit) text ≡ written_into t c text
    into-condition e = to-claim false e

    module _ (claims : is_condition (threads_of t) c ≡ true) where
      to-fit : (s : Bool) → leb (length (written_text t c)) (length text) ≡ s → into-fit s ≡ written_into t c text
      to-fit s e = ap into-fit (sym e) ∙ to-claim true claims

      -- the count of a first run
      module _ (bytes : (i : ℕ) → get_or t i 0 ≤ 255) (few : threads_of t ≤ 10) (entry exit : List ℕ) (n : ℕ) (counted : Puts entry exit 0 (written_text t c) n) where
        count-is : n ≡ length (written_text t c)
        count-is =
            let h = text-short t c bytes (fine-claim (threads_of t) few c claims).1 in
            let e : 0 + length (written_text t c) ≡ length (written_text t c) = omega arith in
            let low : up_to_last (length (written_text t c)) ≡ length (written_text t c) = rw (le-leb (length (written_text t c)) last h) in
            counted.behind ∙ ap up_to_last e ∙ low

        pub into-short : length text < n → with_text (Err (Short n)) text ≡ written_into t c text
        into-short h =
            ap (λ (k : ℕ). with_text (Err (Short k)) text) count-is
            ∙ to-fit false (lt-leb (length (written_text t c)) (length text) (omega (arith, count-is)))

        pub into-written : n ≤ length text → (put left : List ℕ) (r : ℕ) → Puts text put 0 (written_text t c) r → left ≡ filled (length put) (take n put) → with_text (Ok n) left ≡ written_into t c text
        into-written h put left r p e =
            let z : 0 + length (written_text t c) ≡ length (written_text t c) = omega arith in
            let all : put ≡ written_text t c ++ drop (0 + length (written_text t c)) text = p.left ∙ sets-eq (written_text t c) text 0 (omega (arith, count-is)) in
            let front : take n put ≡ written_text t c = ap (λ (k : ℕ). take k put) count-is ∙ ap (take (length (written_text t c))) all ∙ take-append_seam (written_text t c) (drop (0 + length (written_text t c)) text) in
            let long : length put ≡ length text = ap length p.left ∙ length-sets text 0 (written_text t c) in
            ap (λ (k : ℕ). with_text (Ok k) left) count-is
            ∙ ap (with_text (Ok (length (written_text t c)))) (e ∙ ap (λ (k : ℕ). filled k (take n put)) long ∙ ap (filled (length text)) front)
            ∙ to-fit true (le-leb (length (written_text t c)) (length text) (omega (arith, count-is)))
