-- The laws of a number's digits. Assumes nothing.
--     shown-small, shown-large   one digit, and one more behind a tenth's
--     tenfold                    what holds below ten, and of a number if it holds of its tenth, holds of all
--     some, at-most              there is a digit; at most twenty where the number has 64 bits
--     each                       every byte is a digit's
--     no-zero-first              the first is '0' for 0 alone
--     count-*                    the loop that counts
--     write-*                    the loop that writes
--     front, within              the bytes of the digits, in a buffer of twenty
--     zero-shown ..              worked numbers
use Prim.Native.Nat.{ℕ, zero, suc, ◌+◌, ◌-◌, ◌*◌, ◌/◌, ◌%◌, ◌^◌, ◌≤◌, ◌<◌}
use mathlib.Core.List.{List, [], ◌∷◌, ◌++◌}
use mathlib.Core.Bool.{cond}
use mathlib.Core.Logic.{◌≢◌}
use mathlib.Core.Path.{◌≡◌, refl, ap, sym, ◌∙◌}
use native.Mathlib.Omega.{arith}
use native.Mathlib.Nat.{pow-suc, add-zero}
use native.Mathlib.Decide.{dec_lt}
use borrow.Author.Tests.{lt-ltb, le-ltb, ne_eqb}
use lib.Dec.{ltb, eqb}
use lib.ListN.{length, get_or, set, take, drop, length-append, get_or-append}
use lib.Seq.{sets, sets-eq, length-sets, set_comm, get_or-append_seam, take-append_seam}
use Rattle.digits.specs.Shown.{digit, shown_in, shown, Spelled}

-- Steps

-- n steps are enough, and more change nothing
enough : (k j n : ℕ) → n ≤ k → n ≤ j → shown_in k (ltb n 10) n ≡ shown_in j (ltb n 10) n
unfolding shown_in
enough zero zero n h l = refl
enough zero (suc j) n h l = let s : n < 10 = omega arith in rw (lt-ltb n 10 s)
enough (suc k) zero n h l = let s : n < 10 = omega arith in rw (lt-ltb n 10 s)
enough (suc k) (suc j) n h l =
    elim (dec_lt n 10) [
      | yes s ↦ rw (lt-ltb n 10 s)
      | no s ↦ let t : 10 ≤ n = omega arith in rw (le-ltb n 10 t, enough k j (n / 10) (omega arith) (omega arith))
    ]

pub shown-small : (n : ℕ) → n < 10 → shown n ≡ digit n ∷ []
unfolding shown shown_in
shown-small zero h = refl
shown-small (suc n) h = rw (lt-ltb (suc n) 10 h)

pub shown-large : (n : ℕ) → 10 ≤ n → shown n ≡ shown (n / 10) ++ (digit (n % 10) ∷ [])
unfolding shown shown_in
shown-large zero h = absurd (omega arith)
shown-large (suc n) h = rw (le-ltb (suc n) 10 h, enough n (suc n / 10) (suc n / 10) (omega arith) (omega arith))

module _ (P : ℕ → Type 0) (small : (n : ℕ) → n < 10 → P n) (large : (n : ℕ) → 10 ≤ n → P (n / 10) → P n) where
  up_to : (k n : ℕ) → n ≤ k → P n
  up_to zero n h = small n (omega arith)
  up_to (suc k) n h =
      elim (dec_lt n 10) [
        | yes s ↦ small n s
        | no s ↦ large n (omega arith) (up_to k (n / 10) (omega arith))
      ]

  pub tenfold : (n : ℕ) → P n
  tenfold n = up_to n n (omega arith)

-- How many

pub some : (n : ℕ) → 0 < length (shown n)
some =
    tenfold (λ (n : ℕ). 0 < length (shown n))
    (λ n h. rw (shown-small n h) (omega arith))
    (λ n h p. rw (shown-large n h, length-append) (omega arith))

at_most_in : (k n : ℕ) → n < 10 ^ suc k → length (shown n) ≤ suc k
at_most_in zero n h = let s : n < 10 = h in rw (shown-small n s) (omega arith)
at_most_in (suc k) n h =
    elim (dec_lt n 10) [
      | yes s ↦ rw (shown-small n s) (omega arith)
      | no s ↦
          let l : n < 10 ^ suc k * 10 = rw pow-suc at h in
          let e : length (shown (n / 10)) ≤ suc k = at_most_in k (n / 10) (omega arith) in
          let t : 10 ≤ n = omega arith in
          rw (shown-large n t, length-append) (omega arith)
    ]

pub at-most : (n : ℕ) → n < 2 ^ 64 → length (shown n) ≤ 20
at-most n h = at_most_in 19 n (omega arith)

-- What they are

abbrev IsDigit : ℕ → Type 0
IsDigit b = (48 ≤ b) × (b ≤ 57)

abbrev AllDigits : ℕ → Type 0
AllDigits n = (i : ℕ) → i < length (shown n) → IsDigit (get_or (shown n) i 0)

each-small : (n : ℕ) → n < 10 → AllDigits n
each-small n h i l =
    let k : i < 1 = rw (shown-small n h) at l in
    let e : i ≡ 0 = omega arith in
    rw (shown-small n h, e) (omega arith)

each_large : (n : ℕ) → 10 ≤ n → AllDigits (n / 10) → AllDigits n
each_large n h p i l =
    elim (dec_lt i (length (shown (n / 10)))) [
      | yes u ↦ rw (shown-large n h, get_or-append (shown (n / 10)) (digit (n % 10) ∷ []) 0 i u) (p i u)
      | no u ↦
          let k : i < length (shown (n / 10)) + 1 = rw (shown-large n h, length-append) at l in
          let e : i ≡ length (shown (n / 10)) = omega arith in
          rw (shown-large n h, e, get_or-append_seam (shown (n / 10)) (digit (n % 10)) [] 0) (omega arith)
    ]

pub each : (n i : ℕ) → i < length (shown n) → (48 ≤ get_or (shown n) i 0) × (get_or (shown n) i 0 ≤ 57)
each = tenfold AllDigits each-small each_large

pub no-zero-first : (n : ℕ) → get_or (shown n) 0 0 ≡ 48 → n ≡ 0
no-zero-first =
    tenfold (λ (n : ℕ). get_or (shown n) 0 0 ≡ 48 → n ≡ 0)
    (λ n h e. let d : 48 + n ≡ 48 = rw (shown-small n h) at e in omega arith)
    (λ n h p e.
    let d : get_or (shown (n / 10)) 0 0 ≡ 48 = rw (shown-large n h, get_or-append (shown (n / 10)) (digit (n % 10) ∷ []) 0 0 (some (n / 10))) at e in
    absurd (omega (arith, p d)))

-- The loop that counts

-- the digits of what is left of a number, none where nothing is
unfoldable pub ahead : ℕ → ℕ
ahead n = cond (eqb n 0) 0 (length (shown n))

ahead_none : ahead 0 ≡ 0
unfolding ahead
ahead_none = refl

ahead-some : (n : ℕ) → 0 < n → ahead n ≡ length (shown n)
unfolding ahead
ahead-some n h = simp (ne_eqb n 0 (λ (e : n ≡ 0). omega arith))

pub count-one : (n : ℕ) → length (shown n) ≡ 1 + ahead (n / 10)
count-one n =
    elim (dec_lt n 10) [
      | yes s ↦ let e : n / 10 ≡ 0 = omega arith in rw (shown-small n s, e, ahead_none)
      | no s ↦
          let t : 10 ≤ n = omega arith in
          let u : 0 < n / 10 = omega arith in
          rw (shown-large n t, length-append, ahead-some (n / 10) u) (omega arith)
    ]

pub count-on : (n : ℕ) → 0 < n → ahead n ≡ 1 + ahead (n / 10)
count-on n h = ahead-some n h ∙ count-one n

pub count-end : (n : ℕ) → n ≤ 0 → ahead n ≡ 0
count-end n h = let e : n ≡ 0 = omega arith in rw e ahead_none

-- The loop that writes

-- the k lowest digits, with zeros in front
unfoldable pub lowest : ℕ → ℕ → List ℕ
lowest zero n = []
lowest (suc k) n = lowest k (n / 10) ++ (digit (n % 10) ∷ [])

lowest-small : (n : ℕ) → n < 10 → lowest (length (shown n)) n ≡ shown n
unfolding lowest
lowest-small n h = let e : n % 10 ≡ n = omega arith in rw (shown-small n h, e)

lowest-large : (n : ℕ) → 10 ≤ n → lowest (length (shown (n / 10))) (n / 10) ≡ shown (n / 10) → lowest (length (shown n)) n ≡ shown n
unfolding lowest
lowest-large n h p =
    let e : length (shown n) ≡ suc (length (shown (n / 10))) = rw (shown-large n h, length-append) (omega arith) in
    rw (e, p) (sym (shown-large n h))

pub lowest-all : (n : ℕ) → lowest (length (shown n)) n ≡ shown n
lowest-all = tenfold (λ (n : ℕ). lowest (length (shown n)) n ≡ shown n) lowest-small lowest-large

length-lowest : (k n : ℕ) → length (lowest k n) ≡ k
unfolding lowest
length-lowest zero n = refl
length-lowest (suc k) n = length-append (lowest k (n / 10)) (digit (n % 10) ∷ []) ∙ (omega (arith, length-lowest k (n / 10)))

-- a byte put past those that are set, before or after them
sets_behind : (vs l : List ℕ) (i j d : ℕ) → i + length vs ≤ j → sets (set l j d) i vs ≡ set (sets l i vs) j d
sets_behind [] l i j d h = refl
sets_behind (v ∷ vs) l i j d h =
    let apart : j ≢ i = λ (e : j ≡ i). omega arith in
    ap (λ (s : List ℕ). sets s (suc i) vs) (set_comm l j i d v apart) ∙ sets_behind vs (set l i v) (suc i) j d (omega arith)

sets-append : (vs ws l : List ℕ) (i : ℕ) → sets l i (vs ++ ws) ≡ sets (sets l i vs) (i + length vs) ws
sets-append [] ws l i = rw add-zero
sets-append (v ∷ vs) ws l i = sets-append vs ws (set l i v) (suc i) ∙ ap (λ (k : ℕ). sets (sets (set l i v) (suc i) vs) k ws) (omega arith)

write-one : (out : List ℕ) (rest j : ℕ) → sets (set out j (digit (rest % 10))) 0 (lowest j (rest / 10)) ≡ sets out 0 (lowest (suc j) rest)
unfolding lowest
write-one out rest j =
    let long : length (lowest j (rest / 10)) ≡ j = length-lowest j (rest / 10) in
    let e : 0 + length (lowest j (rest / 10)) ≡ j = omega arith in
    sets_behind (lowest j (rest / 10)) out 0 j (digit (rest % 10)) (omega arith)
    ∙ ap (λ (k : ℕ). set (sets out 0 (lowest j (rest / 10))) k (digit (rest % 10))) (sym e)
    ∙ sym (sets-append (lowest j (rest / 10)) (digit (rest % 10) ∷ []) out 0)

module _ (out whole : List ℕ) (rest i : ℕ) (left : sets out 0 (lowest i rest) ≡ whole) where
  pub write-on : 0 < i → sets (set out (i - 1) (digit (rest % 10))) 0 (lowest (i - 1) (rest / 10)) ≡ whole
  write-on h =
      let e : suc (i - 1) ≡ i = omega arith in
      write-one out rest (i - 1) ∙ ap (λ (k : ℕ). sets out 0 (lowest k rest)) e ∙ left

  pub write-end : i ≤ 0 → out ≡ whole
  unfolding lowest
  write-end h = let e : i ≡ 0 = omega arith in rw e at left

-- Where they are put: the bytes begin with them

module _ (n : ℕ) (entry exit : List ℕ) (r : ℕ) (spelled : Spelled n entry exit r) (h : n < 2 ^ 64) (long : length entry ≡ 20) where
  pub front : take r exit ≡ shown n
  front =
      let few : length (shown n) ≤ 20 = at-most n h in
      let fits : 0 + length (shown n) ≤ length entry = omega arith in
      cc (spelled.said, spelled.left, sets-eq (shown n) entry 0 fits, take-append_seam (shown n) (drop (0 + length (shown n)) entry))

  pub within : r ≤ length exit
  within = omega (arith, at-most n h, spelled.said, ap length spelled.left, length-sets entry 0 (shown n))

-- Worked

pub zero-shown : shown 0 ≡ 48 ∷ []
unfolding shown shown_in
zero-shown = refl

pub seven-hundred-and-four : shown 704 ≡ 55 ∷ 48 ∷ 52 ∷ []
unfolding shown shown_in
seven-hundred-and-four = refl

pub largest : length (shown 18446744073709551615) ≡ 20
unfolding shown shown_in
largest = refl
