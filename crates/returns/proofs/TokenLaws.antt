-- Tokens of what is written: a word, and what ends it. Assumes nothing.
--     all, run-all            a run of such bytes
--     Stands                  a word that ends where it ends
--     stands-skip ..          it is the next token
--     is_word, Parted          a word of letters or of a sign's bytes, and what may follow it
--     line_on, line-past      the next line, past what has no line feed
use Prim.Native.Nat.{ℕ, suc, ◌≤◌}
use mathlib.Core.List.{List, [], ◌∷◌, ◌++◌}
use mathlib.Core.Bool.{Bool, true, false, cond, not, ◌&&◌, ◌||◌, true≢false}
use mathlib.Core.Path.{◌≡◌, refl, ap, sym}
use native.Mathlib.Omega.{arith}
use lib.Dec.{leb, eqb, eqb-suc-zero}
use lib.ListN.{length, get_or, drop}
use lib.Seq.{take_at, drop_at}
use borrow.Author.Tests.{leb-true, eqb-true, ne_eqb, not-true}
use Rattle.rules.specs.Token.{line_feed, is_blank, is_between, is_letter, is_symbol, run_length, past_blanks, token, token_length, past_token, ends_line, is_empty, line_length, next_line}
use Rattle.rules.proofs.MeasureRows.{both_left, both_right}

-- Tests

pub either : (x y : Bool) {A : Type 0} → (x || y) ≡ true → (x ≡ true → A) → (y ≡ true → A) → A
either true y e f g = f refl
either false y e f g = g e

pub also : {x y : Bool} → x ≡ true → y ≡ true → (x && y) ≡ true
also p q = rw (p, q) refl

pub neither : {x y : Bool} → x ≡ false → y ≡ false → (x || y) ≡ false
neither p q = rw (p, q) refl

-- all bytes of a word are such bytes
abbrev pub all : (ℕ → Bool) → List ℕ → Bool
all p [] = true
all p (b ∷ bs) = p b && all p bs

pub all_append : (p : ℕ → Bool) (a b : List ℕ) → all p a ≡ true → all p b ≡ true → all p (a ++ b) ≡ true
all_append p [] b h k = k
all_append p (x ∷ a) b h k = also (both_left (p x) (all p a) h) (all_append p a b (both_right (p x) (all p a) h) k)

pub all_so : (p q : ℕ → Bool) → ((b : ℕ) → p b ≡ true → q b ≡ true) → (w : List ℕ) → all p w ≡ true → all q w ≡ true
all_so p q f [] h = refl
all_so p q f (b ∷ w) h = also (f b (both_left (p b) (all p w) h)) (all_so p q f w (both_right (p b) (all p w) h))

-- how far they reach
pub run-all : (p : ℕ → Bool) (w rest : List ℕ) → all p w ≡ true → p (get_or rest 0 0) ≡ false → run_length p (w ++ rest) ≡ length w
unfolding run_length
run-all p [] [] h e = refl
run-all p [] (b ∷ rest) h e = rw e refl
run-all p (b ∷ w) rest h e =
    rw (both_left (p b) (all p w) h) (ap suc (run-all p w rest (both_right (p b) (all p w) h) e))

-- Bytes

between : (least most b : ℕ) → is_between least most b ≡ true → (least ≤ b) × (b ≤ most)
between least most b e = (leb-true least b (both_left (leb least b) (leb b most) e), leb-true b most (both_right (leb least b) (leb b most) e))

pub letter-from : (b : ℕ) → is_letter b ≡ true → 46 ≤ b
letter-from b e =
    either (is_between 48 57 b || is_between 65 90 b || is_between 97 122 b || eqb b 95) (eqb b 46) e
    (λ f. either (is_between 48 57 b || is_between 65 90 b || is_between 97 122 b) (eqb b 95) f
    (λ g. either (is_between 48 57 b || is_between 65 90 b) (is_between 97 122 b) g
    (λ h. either (is_between 48 57 b) (is_between 65 90 b) h (λ k. omega (arith, between 48 57 b k)) (λ k. omega (arith, between 65 90 b k)))
    (λ h. omega (arith, between 97 122 b h)))
    (λ g. omega (arith, eqb-true b 95 g)))
    (λ f. omega (arith, eqb-true b 46 f))

pub symbol-is : (P : ℕ → Type 0) (b : ℕ) → is_symbol b ≡ true → P 61 → P 33 → P 60 → P 62 → P b
symbol-is P b e x y z w =
    either (eqb b 61 || eqb b 33 || eqb b 60) (eqb b 62) e
    (λ f. either (eqb b 61 || eqb b 33) (eqb b 60) f
    (λ g. either (eqb b 61) (eqb b 33) g (λ h. rw (eqb-true b 61 h) x) (λ h. rw (eqb-true b 33 h) y))
    (λ g. rw (eqb-true b 60 g) z))
    (λ f. rw (eqb-true b 62 f) w)

-- a byte that neither is blank nor ends a line, whatever follows it
unfoldable pub in_word : ℕ → Bool
in_word b = not (is_blank b || eqb b line_feed || eqb b 35 || eqb b 13)

pub letter-in : (b : ℕ) → is_letter b ≡ true → in_word b ≡ true
unfolding in_word
letter-in b e =
    let h = letter-from b e in
    rw (ne_eqb b 32 (λ f. omega arith), ne_eqb b 9 (λ f. omega arith), ne_eqb b 10 (λ f. omega arith), ne_eqb b 35 (λ f. omega arith), ne_eqb b 13 (λ f. omega arith))
    refl

pub symbol-in : (b : ℕ) → is_symbol b ≡ true → in_word b ≡ true
unfolding in_word
symbol-in b e = symbol-is (λ (c : ℕ). in_word c ≡ true) b e refl refl refl refl

-- A word that ends where what follows it begins
pub data Stands : List ℕ → List ℕ → Type 0 where
  letters : (b : ℕ) (bs rest : List ℕ) → all is_letter (b ∷ bs) ≡ true → is_letter (get_or rest 0 0) ≡ false → Stands (b ∷ bs) rest
  symbols : (b : ℕ) (bs rest : List ℕ) → all is_symbol (b ∷ bs) ≡ true → is_symbol (get_or rest 0 0) ≡ false → Stands (b ∷ bs) rest
  other : (b : ℕ) (rest : List ℕ) → in_word b ≡ true → is_letter b ≡ false → is_symbol b ≡ false → Stands (b ∷ []) rest

not-blank : (b : ℕ) (bs : List ℕ) → in_word b ≡ true → past_blanks (b ∷ bs) ≡ b ∷ bs
unfolding run_length in_word
not-blank b bs h = by (is_blank b) h
  where
    by : (x : Bool) → not (x || eqb b line_feed || eqb b 35 || eqb b 13) ≡ true → drop (cond x (suc (run_length is_blank bs)) 0) (b ∷ bs) ≡ b ∷ bs
    by true e = absurd (true≢false (sym e))
    by false e = refl

not_end : (b : ℕ) (bs : List ℕ) → in_word b ≡ true → ends_line (b ∷ bs) ≡ false
unfolding ends_line in_word
not_end b bs h = by (is_blank b) (eqb b line_feed) (eqb b 35) (eqb b 13) h
  where
    by : (w x y z : Bool) → not (w || x || y || z) ≡ true → (x || y || (z && eqb (get_or bs 0 0) line_feed)) ≡ false
    by false false false false e = refl
    by true x y z e = absurd (true≢false (sym e))
    by false true y z e = absurd (true≢false (sym e))
    by false false true z e = absurd (true≢false (sym e))
    by false false false true e = absurd (true≢false (sym e))

symbol-no-letter : (b : ℕ) → is_symbol b ≡ true → is_letter b ≡ false
symbol-no-letter b e = symbol-is (λ (c : ℕ). is_letter c ≡ false) b e refl refl refl refl

-- its first byte
pub stands-begins : {w rest : List ℕ} → Stands w rest → (b : ℕ) × (bs : List ℕ) × (w ≡ b ∷ bs) × (in_word b ≡ true)
stands-begins (letters b bs rest h e) = (b, bs, refl, letter-in b (both_left (is_letter b) (all is_letter bs) h))
stands-begins (symbols b bs rest h e) = (b, bs, refl, symbol-in b (both_left (is_symbol b) (all is_symbol bs) h))
stands-begins (other b rest h e f) = (b, [], refl, h)

pub stands-skip : {w rest : List ℕ} → Stands w rest → past_blanks (w ++ rest) ≡ w ++ rest
stands-skip {rest = rest} s =
    let k = stands-begins s in rw k.2 (not-blank k.0 (k.1 ++ rest) k.3)

pub stands_on : {w rest : List ℕ} → Stands w rest → ends_line (w ++ rest) ≡ false
stands_on {rest = rest} s = let k = stands-begins s in rw k.2 (not_end k.0 (k.1 ++ rest) k.3)

pub stands-some : {w rest : List ℕ} → Stands w rest → is_empty (w ++ rest) ≡ false
stands-some {rest = rest} s = let k = stands-begins s in rw k.2 (eqb-suc-zero (length (k.1 ++ rest)))

pub stands-long : {w rest : List ℕ} → Stands w rest → 1 ≤ length w
stands-long (letters b bs rest h e) = omega arith
stands-long (symbols b bs rest h e) = omega arith
stands-long (other b rest h e f) = omega arith

pub stands-length : {w rest : List ℕ} → Stands w rest → token_length (w ++ rest) ≡ length w
unfolding token_length
stands-length (letters b bs rest h e) =
    rw (stands_on (letters b bs rest h e), both_left (is_letter b) (all is_letter bs) h) (run-all is_letter (b ∷ bs) rest h e)
stands-length (symbols b bs rest h e) =
    rw (stands_on (symbols b bs rest h e), symbol-no-letter b (both_left (is_symbol b) (all is_symbol bs) h), both_left (is_symbol b) (all is_symbol bs) h) (run-all is_symbol (b ∷ bs) rest h e)
stands-length (other b rest h e f) = rw (not_end b rest h, e, f) refl

pub stands-token : {w rest : List ℕ} → Stands w rest → token (w ++ rest) ≡ w
stands-token {w} {rest} s = take_at w rest (token_length (w ++ rest)) (sym (stands-length s))

pub stands-past : {w rest : List ℕ} → Stands w rest → past_token (w ++ rest) ≡ rest
stands-past {w} {rest} s = drop_at w rest (token_length (w ++ rest)) (sym (stands-length s))

-- A word of letters, or of a sign's bytes
unfoldable pub is_word : List ℕ → Bool
is_word [] = false
is_word (b ∷ bs) = all is_letter (b ∷ bs) || all is_symbol (b ∷ bs)

-- no byte of either kind
abbrev pub Parted : List ℕ → Type 0
Parted rest = (is_letter (get_or rest 0 0) ≡ false) × (is_symbol (get_or rest 0 0) ≡ false)

pub word_stands : (w rest : List ℕ) → is_word w ≡ true → Parted rest → Stands w rest
unfolding is_word
word_stands [] rest h p = absurd (true≢false (sym h))
word_stands (b ∷ bs) rest h p =
    either (all is_letter (b ∷ bs)) (all is_symbol (b ∷ bs)) h (λ e. letters b bs rest e p.0) (λ e. symbols b bs rest e p.1)

-- Lines

abbrev pub no_feed : List ℕ → Bool
no_feed w = all (λ (b : ℕ). not (eqb b line_feed)) w

in-no-feed : (b : ℕ) → in_word b ≡ true → not (eqb b line_feed) ≡ true
unfolding in_word
in-no-feed b h = by (is_blank b) (eqb b line_feed) h
  where
    by : (w x : Bool) → not (w || x || eqb b 35 || eqb b 13) ≡ true → not x ≡ true
    by true x e = absurd (true≢false (sym e))
    by false true e = absurd (true≢false (sym e))
    by false false e = refl

pub letters-no-feed : (w : List ℕ) → all is_letter w ≡ true → no_feed w ≡ true
letters-no-feed w h = all_so is_letter (λ (b : ℕ). not (eqb b line_feed)) (λ b e. in-no-feed b (letter-in b e)) w h

pub word-no-feed : (w : List ℕ) → is_word w ≡ true → no_feed w ≡ true
unfolding is_word
word-no-feed [] h = refl
word-no-feed (b ∷ bs) h =
    either (all is_letter (b ∷ bs)) (all is_symbol (b ∷ bs)) h (letters-no-feed (b ∷ bs))
    (all_so is_symbol (λ (c : ℕ). not (eqb c line_feed)) (λ c e. in-no-feed c (symbol-in c e)) (b ∷ bs))

-- what has no line feed belongs to the line
pub line_on : (w rest : List ℕ) → no_feed w ≡ true → next_line (w ++ rest) ≡ next_line rest
unfolding line_length
line_on [] rest h = refl
line_on (b ∷ w) rest h =
    rw (not-true (eqb b line_feed) (both_left (not (eqb b line_feed)) (no_feed w) h)) (line_on w rest (both_right (not (eqb b line_feed)) (no_feed w) h))

-- and behind a line feed is the next
pub line-past : (w rest : List ℕ) → no_feed w ≡ true → next_line (w ++ (line_feed ∷ rest)) ≡ rest
unfolding line_length
line-past w rest h = line_on w (line_feed ∷ rest) h
