-- What stands at a place of a condition. Assumes nothing.
--     place-bounds       a word's place in a list
--     owned-..           a thread's register
--     symbol-..          a bracket, `and` or `or`
--     number-.., sign-..     behind a thread's register
--     unit-..          the whole unit
use Prim.Native.Nat.{ℕ, suc, ◌+◌, ◌*◌, ◌/◌, ◌%◌, ◌≤◌, ◌<◌}
use mathlib.Core.List.{List, [], ◌∷◌}
use mathlib.Core.Bool.{Bool, true, false, not}
use mathlib.Core.Path.{◌≡◌, refl, ap, sym, ◌∙◌}
use native.Mathlib.Omega.{arith}
use borrow.Author.Tests.{le-leb, lt-leb}
use lib.ListN.{length, take, drop, replicate}
use Rattle.std.proofs.Common.{Option, Some, None}
use Rattle.rules.specs.Vector.{equal}
use Rattle.rules.specs.Event.{little}
use Rattle.rules.specs.Condition.{is_sign}
use Rattle.rules.specs.Token.{Found, nothing, found, only, found_if, content, token, past_token, token_length, number_in, place_in}
use Rattle.rules.specs.Text.{symbols, symbol_in, thread_register_in, comparison_of, number_behind, sign_behind, unit_at}
use Rattle.rules.specs.Text as rules
use Rattle.token.specs.Places.{part}
use Rattle.token.proofs.PlaceLaws.{left_by, part-token}
use Rattle.claims.specs.Units.{UnitStands, unit_of, symbol_at, broken_of}
use Rattle.claims.specs.declared.Unit.{Unit}

-- Bounds

place-bounds : (i : ℕ) (word : List ℕ) (ws : List (List ℕ)) (v : ℕ) → place_in i word ws ≡ found v → (i ≤ v) × (v < i + length ws)
unfolding place_in
place-bounds i word [] v e = let z : ◌≡◌ {A = ℕ} 0 1 = cc in absurd (omega arith)
place-bounds i word (w ∷ ws) v e =
    (elim (equal word w)
    as (λ t. elim t [ true ↦ found i | false ↦ place_in (i + 1) word ws ] ≡ found v → (i ≤ v) × (v < i + suc (length ws))) [
      | true ↦ λ h. let z : i ≡ v = cc in (omega arith, omega arith)
      | false ↦ λ h. let r = place-bounds (i + 1) word ws v h in (omega (arith, r.0), omega (arith, r.1))
    ]) e

pub symbol-least : (word : List ℕ) (v : ℕ) → symbol_in word ≡ found v → 1 ≤ v
symbol-least word v e = (place-bounds 1 word symbols v e).0

pub symbol-most : (word : List ℕ) (v : ℕ) → symbol_in word ≡ found v → v ≤ 10
symbol-most word v e = omega (arith, (place-bounds 1 word symbols v e).1)

-- a thread's register, which the definition takes out of one number
owned-thread : (t r : ℕ) → r < 4 → (4 * t + r) / 4 ≡ t
owned-thread t r h = omega arith

owned-register : (t r : ℕ) → r < 4 → (4 * t + r) % 4 ≡ r
owned-register t r h = omega arith

pub owned-compared : (sign t r n : ℕ) (bs : List ℕ) → r < 4 → bs ≡ little 8 n → sign ∷ t ∷ r ∷ bs ≡ comparison_of sign (4 * t + r) n
owned-compared sign t r n bs h e = rw (owned-thread t r h, owned-register t r h) (ap (λ (x : List ℕ). sign ∷ t ∷ r ∷ x) e)

-- A bracket, `and` or `or`

abbrev not_sign : ℕ → Bool
not_sign b = not (is_sign b)

-- what comes of a word, by what it stands for
abbrev symbol_then : List ℕ → Found → rules.Unit
symbol_then rest f = elim f [ nothing ↦ rules.none | found b ↦ rules.unit (b ∷ []) rest ]

-- nothing, and a unit of so many bytes
stands-none : (text : List ℕ) {unit : rules.Unit} → rules.none ≡ unit → UnitStands text unit None
stands-none text e = record { is = e; within = λ u h. absurd (let z : ◌≡◌ {A = ℕ} 0 1 = cc in omega arith) }

stands-one : (text : List ℕ) (u : Unit) {unit : rules.Unit} → unit_of text (Some u) ≡ unit → u.size ≤ 11 → length u.bytes ≡ 11 → UnitStands text unit (Some u)
stands-one text u e s l = record { is = e; within = λ w h. let z : u ≡ w = cc in rw (← z) (s, l) }

sign-yes : (v : ℕ) → 1 ≤ v → v ≤ 6 → is_sign v ≡ true
sign-yes v l h = rw (le-leb 1 v l, le-leb v 6 h)

sign-not : (v : ℕ) → 1 ≤ v → 6 < v → is_sign v ≡ false
sign-not v l h = rw (le-leb 1 v l, lt-leb v 6 h)

only-by : (p : ℕ → Bool) (f : Found) (v : ℕ) (t : Bool) → f ≡ found v → p v ≡ t → only p f ≡ found_if t v
only-by p f v t e h = ap (only p) e ∙ ap (λ (s : Bool). found_if s v) h

module _ (text : List ℕ) (at to : ℕ) where
  pub symbol-none : symbol_in (part at to text) ≡ nothing → UnitStands text (symbol_at at to text) None
  symbol-none m = stands-none text (sym (ap (λ (f : Found). symbol_then (drop to text) (only not_sign f)) m))

  module _ (v : ℕ) (m : symbol_in (part at to text) ≡ found v) where
    pub symbol-sign : v ≤ 6 → UnitStands text (symbol_at at to text) None
    symbol-sign h =
        let e : only not_sign (symbol_in (part at to text)) ≡ nothing = only-by not_sign _ v false m (ap not (sign-yes v (symbol-least _ v m) h)) in
        stands-none text (sym (ap (symbol_then (drop to text)) e))

    pub symbol-here : 6 < v → UnitStands text (symbol_at at to text) (Some (record { whole = true; size = 1; bytes = v ∷ 0 ∷ 0 ∷ 0 ∷ 0 ∷ 0 ∷ 0 ∷ 0 ∷ 0 ∷ 0 ∷ 0 ∷ []; at = to }))
    symbol-here h =
        let e : only not_sign (symbol_in (part at to text)) ≡ found v = only-by not_sign _ v true m (ap not (sign-not v (symbol-least _ v m) h)) in
        stands-one text _ (sym (ap (symbol_then (drop to text)) e)) (omega arith) refl

-- Behind a thread's register

abbrev number_then : ℕ → ℕ → List ℕ → Found → rules.Unit
number_then register sign bs f =
    elim f [
      | nothing ↦ rules.broken (comparison_of 1 register 0) bs
      | found n ↦ rules.unit (comparison_of sign register n) (past_token bs)
    ]

abbrev sign_then : ℕ → ℕ → List ℕ → Found → rules.Unit
sign_then lines register bs f =
    elim f [
      | nothing ↦ rules.broken (comparison_of 1 register 0) bs
      | found sign ↦ number_behind lines register sign (past_token bs)
    ]

-- the token that stands where there is content
module _ (text : List ℕ) (lines at to register : ℕ) (bs : List ℕ) (left : drop at text ≡ content lines bs) (long : to ≡ at + token_length (drop at text)) where
  word-there : part at to text ≡ token (content lines bs)
  word-there = part-token text at to long ∙ ap token left

  past-there : drop to text ≡ past_token (content lines bs)
  past-there = left_by text at to _ long ∙ ap past_token left

  is-broken : unit_of text (Some (broken_of register at)) ≡ rules.broken (comparison_of 1 register 0) (content lines bs)
  unfolding little
  is-broken = ap (rules.broken (comparison_of 1 register 0)) left

  broken-long : length (comparison_of 1 register 0) ≡ 11
  unfolding little
  broken-long = refl

  module _ (sign : ℕ) where
    number-there : (f : Found) → number_in (part at to text) ≡ f → number_then register sign (content lines bs) f ≡ number_behind lines register sign bs
    number-there f e = ap (number_then register sign (content lines bs)) (sym e ∙ ap number_in word-there)

    pub number-broken : (u : Unit) → u ≡ broken_of register at → number_in (part at to text) ≡ nothing → UnitStands text (number_behind lines register sign bs) (Some u)
    number-broken u b e = rw b (stands-one text _ (is-broken ∙ number-there nothing e) (omega arith) broken-long)

    compared-of : (v : ℕ) → take 11 (comparison_of sign register v) ≡ comparison_of sign register v
    unfolding little
    compared-of v = refl

    compared-long : (v : ℕ) → length (take 11 (comparison_of sign register v)) ≡ 11
    unfolding little
    compared-long v = refl

    pub number-here : (bytes : List ℕ) (v : ℕ) → bytes ≡ comparison_of sign register v → number_in (part at to text) ≡ found v
        → UnitStands text (number_behind lines register sign bs) (Some (record { whole = true; size = 11; bytes = bytes; at = to }))
    number-here bytes v b e =
        stands-one text _
        (ap (λ (x : List ℕ). rules.unit x (drop to text)) (ap (take 11) b ∙ compared-of v)
        ∙ ap (rules.unit (comparison_of sign register v)) past-there
        ∙ number-there (found v) e)
        (omega arith)
        (ap length (b ∙ sym (compared-of v)) ∙ compared-long v)

  sign-there : (f : Found) → only is_sign (symbol_in (part at to text)) ≡ f → sign_then lines register (content lines bs) f ≡ sign_behind lines register bs
  sign-there f e = ap (sign_then lines register (content lines bs)) (sym e ∙ ap (λ (w : List ℕ). only is_sign (symbol_in w)) word-there)

  pub sign-none : (u : Unit) → u ≡ broken_of register at → symbol_in (part at to text) ≡ nothing → UnitStands text (sign_behind lines register bs) (Some u)
  sign-none u b e = rw b (stands-one text _ (is-broken ∙ sign-there nothing (ap (only is_sign) e)) (omega arith) broken-long)

  module _ (v : ℕ) (m : symbol_in (part at to text) ≡ found v) where
    pub sign-other : (u : Unit) → u ≡ broken_of register at → 6 < v → UnitStands text (sign_behind lines register bs) (Some u)
    sign-other u b h =
        rw b (stands-one text _ (is-broken ∙ sign-there nothing (only-by is_sign _ v false m (sign-not v (symbol-least _ v m) h))) (omega arith) broken-long)

    pub sign-here : (u : Option Unit) → v ≤ 6 → UnitStands text (number_behind lines register v (drop to text)) u → UnitStands text (sign_behind lines register bs) u
    sign-here u h s = record {
      is =
          s.is
          ∙ ap (number_behind lines register v) past-there
          ∙ sign-there (found v) (only-by is_sign _ v true m (sign-yes v (symbol-least _ v m) h));
      within = s.within;
    }

-- The whole unit

abbrev unit_then : ℕ → List ℕ → Found → rules.Unit
unit_then lines bs f =
    elim f [
      | found at ↦ sign_behind lines at (past_token bs)
      | nothing ↦ symbol_then (past_token bs) (only not_sign (symbol_in (token bs)))
    ]

unit-next : (lines : ℕ) (bs : List ℕ) → unit_at lines bs ≡ unit_then lines bs (thread_register_in (token bs))
unfolding unit_at
unit-next lines bs = refl

module _ (text : List ℕ) (lines at to : ℕ) (long : to ≡ at + token_length (drop at text)) where
  named : (f : Found) → thread_register_in (part at to text) ≡ f → unit_then lines (drop at text) f ≡ unit_at lines (drop at text)
  named f e =
      ap (unit_then lines (drop at text)) (sym e ∙ ap thread_register_in (part-token text at to long)) ∙ sym (unit-next lines (drop at text))

  pub unit-symbol : (u : Option Unit) → thread_register_in (part at to text) ≡ nothing → UnitStands text (symbol_at at to text) u → UnitStands text (unit_at lines (drop at text)) u
  unit-symbol u e s = record {
    is =
        s.is
        ∙ ap (λ (w : List ℕ). symbol_then (drop to text) (only not_sign (symbol_in w))) (part-token text at to long)
        ∙ ap (λ (r : List ℕ). symbol_then r (only not_sign (symbol_in (token (drop at text))))) (left_by text at to _ long)
        ∙ named nothing e;
    within = s.within;
  }

  pub unit-compared : (u : Option Unit) (v : ℕ) → thread_register_in (part at to text) ≡ found v → UnitStands text (sign_behind lines v (drop to text)) u → UnitStands text (unit_at lines (drop at text)) u
  unit-compared u v e s = record {
    is = s.is ∙ ap (sign_behind lines v) (left_by text at to _ long) ∙ named (found v) e;
    within = s.within;
  }
