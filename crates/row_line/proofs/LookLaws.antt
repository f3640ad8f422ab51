-- The form of a row, looked for in the text of all forms. Assumes nothing.
--     Looking                        the forms before a place are not the row's
--     look-first, look-on            at the start, and past a form that is not it
--     look-found, look_none          a form that is, and none
use Prim.Native.Nat.{ℕ, ◌+◌, ◌-◌, ◌≤◌, ◌<◌}
use mathlib.Core.List.{List, [], ◌∷◌}
use mathlib.Core.Bool.{Bool, true, false, ◌&&◌, and-eq-true_iff}
use mathlib.Core.Path.{◌≡◌, refl, ap, sym, ◌∙◌}
use native.Mathlib.Omega.{arith}
use lib.Dec.{eqb}
use lib.ListN.{length, get_or, drop, length-drop, drop_of_length-le}
use Rattle.rules.specs.Token.{line_length, bytes_of}
use Rattle.rules.specs.Form.{Form, forms}
use Rattle.rules.specs.Writer.{form_in, form_shown}
use Rattle.token.specs.Places.{part}
use Rattle.form.specs.Lines.{coded}
use Rattle.put.specs.Puts.{last, Puts}
use Rattle.put.proofs.PutLaws.{puts_none}
use Rattle.form.proofs.TriedLaws.{has_none, plain, opcode-there, kind-there, words-there, next-there}

pub record Looking (codes : List ℕ) (opcode kind from : ℕ) : Type 0 where
  pub rest : List Form
  pub left : drop from codes ≡ coded rest
  pub none : plain rest ≡ true
  pub so-far : form_in opcode kind rest ≡ form_in opcode kind forms

-- the next of them
pub record Next (codes : List ℕ) (opcode kind from : ℕ) : Type 0 where
  pub form : Form
  pub rest : List Form
  pub left : drop from codes ≡ coded (form ∷ rest)
  pub none : has_none form.words ≡ true
  pub nones : plain rest ≡ true
  pub so-far : form_in opcode kind (form ∷ rest) ≡ form_in opcode kind forms

module _ (codes : List ℕ) (opcode kind : ℕ) where
  plain-forms : plain forms ≡ true
  unfolding plain has_none forms bytes_of
  plain-forms = refl

  pub look-first : codes ≡ coded forms → Looking codes opcode kind 0
  look-first e = record { rest = forms; left = e; none = plain-forms; so-far = refl }

  -- what comes of a form, where it is the row's or not
  abbrev or-on : Form → List Form → Bool → Form
  or-on f fs t = elim t [ true ↦ f | false ↦ form_in opcode kind fs ]

  or-on-next : (f : Form) (fs : List Form) → form_in opcode kind (f ∷ fs) ≡ or-on f fs (eqb f.opcode opcode && eqb f.kind kind)
  unfolding form_in
  or-on-next f fs = refl

  module _ (from : ℕ) where
    pub look_none : length codes ≤ from → Looking codes opcode kind from → [] ≡ (form_in opcode kind forms).words
    unfolding coded form_in
    look_none h l = over l.rest (sym (drop_of_length-le codes {i = from} h) ∙ l.left) l.so-far
      where
        over : (fs : List Form) → [] ≡ coded fs → form_in opcode kind fs ≡ form_in opcode kind forms → [] ≡ (form_in opcode kind forms).words
        over [] e p = ap (λ (f : Form). f.words) p
        over (f ∷ fs) e p = cc

    pub look-next : from < length codes → Looking codes opcode kind from → Next codes opcode kind from
    unfolding coded plain
    look-next h l = more l.rest l.left l.none l.so-far
      where
        more : (fs : List Form) → drop from codes ≡ coded fs → plain fs ≡ true → form_in opcode kind fs ≡ form_in opcode kind forms → Next codes opcode kind from
        more [] e n p = absurd (omega (arith, length-drop from codes, ap length e))
        more (f ∷ fs) e n p =
            let both = (and-eq-true_iff (has_none f.words) (plain fs)).0 n in
            record { form = f; rest = fs; left = e; none = both.0; nones = both.1; so-far = p }

    module _ (n : Next codes opcode kind from) (to : ℕ) (long : to ≡ (from + 2) + line_length (drop (from + 2) codes)) where
      chosen : (t : Bool) → (eqb (get_or codes from 0) opcode && eqb (get_or codes (from + 1) 0) kind) ≡ t → or-on n.form n.rest t ≡ form_in opcode kind forms
      chosen t e =
          let o = opcode-there n.form n.rest codes from n.left in
          let k = kind-there n.form n.rest codes from n.left in
          let same : t ≡ (eqb n.form.opcode opcode && eqb n.form.kind kind) = rw (← o, ← k) (sym e) in
          ap (or-on n.form n.rest) same
          ∙ sym (or-on-next n.form n.rest)
          ∙ n.so-far

      pub look-found : (eqb (get_or codes from 0) opcode && eqb (get_or codes (from + 1) 0) kind) ≡ true → part (from + 2) (to - 1) codes ≡ (form_in opcode kind forms).words
      look-found e =
          words-there n.form n.rest codes from n.left n.none to long ∙ ap (λ (f : Form). f.words) (chosen true e)

      pub look-on : (eqb (get_or codes from 0) opcode && eqb (get_or codes (from + 1) 0) kind) ≡ false → Looking codes opcode kind to
      look-on e = record {
        rest = n.rest;
        left = next-there n.form n.rest codes from n.left n.none to long;
        none = n.nones;
        so-far = chosen false e;
      }

pub test-there : (x y a b opcode kind : ℕ) (t : Bool) → x ≡ a → y ≡ b → (eqb x opcode && eqb y kind) ≡ t → (eqb a opcode && eqb b kind) ≡ t
test-there x y a b opcode kind t e f h = rw (← e, ← f) h

-- the words that were found, put where nothing was put before
pub put-found : (entry now exit : List ℕ) (at r : ℕ) (fields words all : List ℕ) → now ≡ entry → words ≡ all → Puts now exit at (form_shown words fields) r → Puts entry exit at (form_shown all fields) r
put-found entry now exit at r fields words all e f p = rw (← e, ← f) p

pub put-nothing : (entry now : List ℕ) (at : ℕ) (fields all : List ℕ) → now ≡ entry → [] ≡ all → at ≤ last → Puts entry now at (form_shown all fields) at
unfolding form_shown
put-nothing entry now at fields all e f h = rw (e, ← f) (puts_none entry at h)
