-- One line, by its first word. Assumes nothing.
--     plains-..   whether it is the line of the plain cells
--     line-..     what comes of it in each case
use Prim.Native.Nat.{ℕ, ◌+◌, ◌≤◌, ◌<◌}
use mathlib.Core.List.{List, [], ◌∷◌}
use mathlib.Core.Bool.{Bool, true, false, cond, ◌&&◌, and-eq-true_iff}
use mathlib.Core.Path.{◌≡◌, refl, ap, sym, ◌∙◌}
use native.Mathlib.Omega.{arith}
use Prim.Native.String.{String}
use borrow.Author.Tests.{eq-eqb, ne_eqb, eqb-true, le-leb, lt-leb}
use lib.Dec.{leb, eqb}
use lib.ListN.{length, get_or, drop, length-drop}
use Rattle.rules.specs.Vector.{equal}
use Rattle.rules.specs.Token.{bytes_of, is_empty, ends_line, past_blanks, token, past_token, token_length, next_line}
use Rattle.rules.specs.Text as rules
use Rattle.rules.specs.Text.{Draft, line_of, values_line}
use Rattle.token.specs.Places.{part}
use Rattle.token.proofs.PlaceLaws.{left_by, part-token}
use Rattle.ahead.proofs.AheadLaws.{is}
use Rattle.filling.specs.Tables.{HeldTable, how_many, with_cell_or_plain}
use Rattle.filling.specs.Steps.{is_plains, a_thread_at, a_row_at}
use Rattle.filling.proofs.HeldLaws.{held-threads, held-plains}

pub cells-bytes : bytes_of "cells" ≡ 99 ∷ 101 ∷ 108 ∷ 108 ∷ 115 ∷ []
unfolding bytes_of
cells-bytes = refl

pub says-cells : (text : List ℕ) (at to : ℕ) (r : Bool) → r ≡ equal (part at to text) (99 ∷ 101 ∷ 108 ∷ 108 ∷ 115 ∷ []) → (t : Bool) → r ≡ t → is "cells" at to text ≡ t
says-cells text at to r e t h = ap (equal (part at to text)) cells-bytes ∙ sym e ∙ h

-- start values that the header counts at this place
abbrev pub values : ℕ → Draft → List ℕ → rules.Line
values place m bs = values_line (with_cell_or_plain place) (how_many place) 4 m bs

-- the line of the plain cells, by its first word
abbrev pub plains : Draft → List ℕ → Bool
plains m word = eqb m.threads 0 && eqb m.plains 0 && equal word (bytes_of "plain")

-- the same by the buffer
module _ (b word : List ℕ) where
  pub plains-begun : 0 < get_or b 0 0 → false ≡ is_plains b word
  plains-begun h = simp (ne_eqb (get_or b 0 0) 0 (λ (z : get_or b 0 0 ≡ 0). omega arith))

  pub plains-twice : get_or b 0 0 ≤ 0 → 0 < get_or b 7 0 → false ≡ is_plains b word
  plains-twice h k = simp (eq-eqb (get_or b 0 0) 0 (omega arith), ne_eqb (get_or b 7 0) 0 (λ (z : get_or b 7 0 ≡ 0). omega arith))

  pub plains-word : get_or b 0 0 ≤ 0 → get_or b 7 0 ≤ 0 → equal word (bytes_of "plain") ≡ is_plains b word
  plains-word h k = simp (eq-eqb (get_or b 0 0) 0 (omega arith), eq-eqb (get_or b 7 0) 0 (omega arith))

  pub plains-none : (r : Bool) → r ≡ is_plains b word → r ≡ true → get_or b 7 0 ≡ 0
  plains-none r e h =
      let none = ((and-eq-true_iff (eqb (get_or b 0 0) 0 && eqb (get_or b 7 0) 0) (equal word (bytes_of "plain"))).0 (sym e ∙ h)).0 in
      eqb-true (get_or b 7 0) 0 ((and-eq-true_iff (eqb (get_or b 0 0) 0) (eqb (get_or b 7 0) 0)).0 none).1

  pub plains-held : (n : ℕ) (m : Draft) → HeldTable b n m → (r : Bool) → r ≡ is_plains b word → (t : Bool) → r ≡ t → plains m word ≡ t
  plains-held n m held r e t h = rw (← held-threads b n m held, ← held-plains b n m held) (sym e ∙ h)

module _ (lines all rows : ℕ) (m : Draft) (bs : List ℕ) where
  abbrev end_by : List ℕ → Bool → rules.Line
  end_by here b = cond b (rules.ended m) (rules.refused_line here)

  abbrev cells_by : List ℕ → List ℕ → Bool → rules.Line
  cells_by here past b = cond b (values 1 m past) (rules.refused_line here)

  abbrev finally_by : List ℕ → List ℕ → Bool → rules.Line
  finally_by here past b = cond b (rules.concludes m past) (rules.refused_line here)

  abbrev line_by : List ℕ → List ℕ → (begun e b z w x t f : Bool) → rules.Line
  line_by here past begun e b z w x t f =
      cond e (end_by here begun)
      (cond b (rules.goes_on rows m (next_line here))
      (cond z (cells_by here past w)
      (cond x (values 7 m past)
      (cond t (a_thread_at lines m here past)
      (cond f (finally_by here past begun) (a_row_at all rows m bs here))))))

  line-next : line_of lines all rows m bs
      ≡ line_by (past_blanks bs) (past_token (past_blanks bs)) (leb 1 m.threads) (is_empty (past_blanks bs)) (ends_line (past_blanks bs)) (eqb m.cells 0) (equal (token (past_blanks bs)) (bytes_of "cells")) (plains m (token (past_blanks bs))) (equal (token (past_blanks bs)) (bytes_of "thread")) (equal (token (past_blanks bs)) (bytes_of "finally"))
  unfolding line_of
  line-next = refl

module _ (text : List ℕ) (lines all rows : ℕ) (m : Draft) (from here : ℕ) (skipped : drop here text ≡ past_blanks (drop from text)) where
  abbrev by : List ℕ → (begun e b z w x t f : Bool) → rules.Line
  by past begun e b z w x t f = line_by lines all rows m (drop from text) (drop here text) past begun e b z w x t f

  line-here : line_of lines all rows m (drop from text)
      ≡ by (past_token (drop here text)) (leb 1 m.threads) (is_empty (drop here text)) (ends_line (drop here text)) (eqb m.cells 0) (equal (token (drop here text)) (bytes_of "cells")) (plains m (token (drop here text))) (equal (token (drop here text)) (bytes_of "thread")) (equal (token (drop here text)) (bytes_of "finally"))
  line-here =
      line-next lines all rows m (drop from text)
      ∙ ap (λ (s : List ℕ). line_by lines all rows m (drop from text) s (past_token s) (leb 1 m.threads) (is_empty s) (ends_line s) (eqb m.cells 0) (equal (token s) (bytes_of "cells")) (plains m (token s)) (equal (token s) (bytes_of "thread")) (equal (token s) (bytes_of "finally"))) (sym skipped)

  module _ (past : List ℕ) (p : past_token (drop here text) ≡ past) (begun e b z w x t f : Bool) where
    line-is : leb 1 m.threads ≡ begun → is_empty (drop here text) ≡ e → ends_line (drop here text) ≡ b → eqb m.cells 0 ≡ z
        → equal (token (drop here text)) (bytes_of "cells") ≡ w → plains m (token (drop here text)) ≡ x → equal (token (drop here text)) (bytes_of "thread") ≡ t → equal (token (drop here text)) (bytes_of "finally") ≡ f
        → line_of lines all rows m (drop from text) ≡ by past begun e b z w x t f
    line-is hg he hb hz hw hx ht hf =
        line-here
        ∙ ap (λ (k : List ℕ). by k (leb 1 m.threads) (is_empty (drop here text)) (ends_line (drop here text)) (eqb m.cells 0) (equal (token (drop here text)) (bytes_of "cells")) (plains m (token (drop here text))) (equal (token (drop here text)) (bytes_of "thread")) (equal (token (drop here text)) (bytes_of "finally"))) p
        ∙ ap (λ (k : Bool). by past k (is_empty (drop here text)) (ends_line (drop here text)) (eqb m.cells 0) (equal (token (drop here text)) (bytes_of "cells")) (plains m (token (drop here text))) (equal (token (drop here text)) (bytes_of "thread")) (equal (token (drop here text)) (bytes_of "finally"))) hg
        ∙ ap (λ (k : Bool). by past begun k (ends_line (drop here text)) (eqb m.cells 0) (equal (token (drop here text)) (bytes_of "cells")) (plains m (token (drop here text))) (equal (token (drop here text)) (bytes_of "thread")) (equal (token (drop here text)) (bytes_of "finally"))) he
        ∙ ap (λ (k : Bool). by past begun e k (eqb m.cells 0) (equal (token (drop here text)) (bytes_of "cells")) (plains m (token (drop here text))) (equal (token (drop here text)) (bytes_of "thread")) (equal (token (drop here text)) (bytes_of "finally"))) hb
        ∙ ap (λ (k : Bool). by past begun e b k (equal (token (drop here text)) (bytes_of "cells")) (plains m (token (drop here text))) (equal (token (drop here text)) (bytes_of "thread")) (equal (token (drop here text)) (bytes_of "finally"))) hz
        ∙ ap (λ (k : Bool). by past begun e b z k (plains m (token (drop here text))) (equal (token (drop here text)) (bytes_of "thread")) (equal (token (drop here text)) (bytes_of "finally"))) hw
        ∙ ap (λ (k : Bool). by past begun e b z w k (equal (token (drop here text)) (bytes_of "thread")) (equal (token (drop here text)) (bytes_of "finally"))) hx
        ∙ ap (λ (k : Bool). by past begun e b z w x k (equal (token (drop here text)) (bytes_of "finally"))) ht
        ∙ ap (λ (k : Bool). by past begun e b z w x t k) hf

  module _ (h : length text ≤ here) where
    none : is_empty (drop here text) ≡ true
    none = eq-eqb (length (drop here text)) 0 (omega (arith, length-drop here text))

    pub line-early-end : m.threads < 1 → line_of lines all rows m (drop from text) ≡ rules.refused_line (drop here text)
    line-early-end l = line-is _ refl false true _ _ _ _ _ _ (lt-leb 1 m.threads l) none refl refl refl refl refl refl

    pub line-end : 1 ≤ m.threads → line_of lines all rows m (drop from text) ≡ rules.ended m
    line-end l = line-is _ refl true true _ _ _ _ _ _ (le-leb 1 m.threads l) none refl refl refl refl refl refl

  module _ (h : here < length text) where
    some : is_empty (drop here text) ≡ false
    some = ne_eqb _ _ (λ (z : length (drop here text) ≡ 0). omega (arith, length-drop here text))

    pub line-bare : ends_line (drop here text) ≡ true → line_of lines all rows m (drop from text) ≡ rules.goes_on rows m (next_line (drop here text))
    line-bare e = line-is _ refl _ false true _ _ _ _ _ refl some e refl refl refl refl refl

    module _ (says : ends_line (drop here text) ≡ false) (to : ℕ) (long : to ≡ here + token_length (drop here text)) where
      past_to : past_token (drop here text) ≡ drop to text
      past_to = sym (left_by text here to _ long)

      word : (s : String) (t : Bool) → is s here to text ≡ t → equal (token (drop here text)) (bytes_of s) ≡ t
      word s t e = ap (λ (x : List ℕ). equal x (bytes_of s)) (sym (part-token text here to long)) ∙ e

      first_word : (t : Bool) → plains m (part here to text) ≡ t → plains m (token (drop here text)) ≡ t
      first_word t e = ap (plains m) (sym (part-token text here to long)) ∙ e

      module _ (z : m.cells ≡ 0) where
        pub line-cells : is "cells" here to text ≡ true → values 1 m (drop to text) ≡ line_of lines all rows m (drop from text)
        line-cells e = sym (line-is (drop to text) past_to _ false false true true _ _ _ refl some says (eq-eqb m.cells 0 z) (word "cells" true e) refl refl refl)

        pub line-no-cells : is "cells" here to text ≡ false → line_of lines all rows m (drop from text) ≡ rules.refused_line (drop here text)
        line-no-cells e = line-is (drop to text) past_to _ false false true false _ _ _ refl some says (eq-eqb m.cells 0 z) (word "cells" false e) refl refl refl

      module _ (z : m.cells ≡ 0 → ⊥) where
        pub line-plains : plains m (part here to text) ≡ true → values 7 m (drop to text) ≡ line_of lines all rows m (drop from text)
        line-plains e = sym (line-is (drop to text) past_to _ false false false _ true _ _ refl some says (ne_eqb m.cells 0 z) refl (first_word true e) refl refl)

        module _ (past-plains : plains m (part here to text) ≡ false) where
          pub line-thread : is "thread" here to text ≡ true → a_thread_at lines m (drop here text) (drop to text) ≡ line_of lines all rows m (drop from text)
          line-thread e = sym (line-is (drop to text) past_to _ false false false _ false true _ refl some says (ne_eqb m.cells 0 z) refl (first_word false past-plains) (word "thread" true e) refl)

          module _ (other : is "thread" here to text ≡ false) where
            pub line-early-finally : is "finally" here to text ≡ true → m.threads < 1 → line_of lines all rows m (drop from text) ≡ rules.refused_line (drop here text)
            line-early-finally e l = line-is (drop to text) past_to false false false false _ false false true (lt-leb 1 m.threads l) some says (ne_eqb m.cells 0 z) refl (first_word false past-plains) (word "thread" false other) (word "finally" true e)

            pub line-finally : is "finally" here to text ≡ true → 1 ≤ m.threads → line_of lines all rows m (drop from text) ≡ rules.concludes m (drop to text)
            line-finally e l = line-is (drop to text) past_to true false false false _ false false true (le-leb 1 m.threads l) some says (ne_eqb m.cells 0 z) refl (first_word false past-plains) (word "thread" false other) (word "finally" true e)

            pub line_row : is "finally" here to text ≡ false → a_row_at all rows m (drop from text) (drop here text) ≡ line_of lines all rows m (drop from text)
            line_row e = sym (line-is (drop to text) past_to _ false false false _ false false false refl some says (ne_eqb m.cells 0 z) refl (first_word false past-plains) (word "thread" false other) (word "finally" false e))
