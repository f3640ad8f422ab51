-- A number's bytes, its least first. Assumes nothing.
--     halves, low-eight      the eight of a number, from its two halves
--     eight-bytes            the eight of a number, one by one
--     little-long            how many they are
use Prim.Native.Nat.{ℕ, zero, suc, ◌/◌, ◌%◌}
use mathlib.Core.List.{List, [], ◌∷◌}
use mathlib.Core.Path.{◌≡◌, refl, ap}
use native.Mathlib.Omega.{arith}
use lib.ListN.{length, get_or}
use Rattle.rules.specs.Event.{little}

byte-zero : (v : ℕ) → v % 4294967296 % 256 ≡ v % 256
byte-zero v = omega arith

byte_one : (v : ℕ) → v % 4294967296 / 256 % 256 ≡ v / 256 % 256
byte_one v = omega arith

byte-two : (v : ℕ) → v % 4294967296 / 65536 % 256 ≡ v / 256 / 256 % 256
byte-two v = omega arith

byte-three : (v : ℕ) → v % 4294967296 / 16777216 % 256 ≡ v / 256 / 256 / 256 % 256
byte-three v = omega arith

byte-four : (v : ℕ) → v / 4294967296 % 256 ≡ v / 256 / 256 / 256 / 256 % 256
byte-four v = omega arith

byte-five : (v : ℕ) → v / 4294967296 / 256 % 256 ≡ v / 256 / 256 / 256 / 256 / 256 % 256
byte-five v = omega arith

byte-six : (v : ℕ) → v / 4294967296 / 65536 % 256 ≡ v / 256 / 256 / 256 / 256 / 256 / 256 % 256
byte-six v = omega arith

byte-seven : (v : ℕ) → v / 4294967296 / 16777216 % 256 ≡ v / 256 / 256 / 256 / 256 / 256 / 256 / 256 % 256
byte-seven v = omega arith

abbrev pub halves : ℕ → List ℕ
halves v =
    v % 4294967296 % 256
    ∷ v % 4294967296 / 256 % 256
    ∷ v % 4294967296 / 65536 % 256
    ∷ v % 4294967296 / 16777216 % 256
    ∷ v / 4294967296 % 256
    ∷ v / 4294967296 / 256 % 256
    ∷ v / 4294967296 / 65536 % 256
    ∷ v / 4294967296 / 16777216 % 256
    ∷ []

pub low-eight : (v : ℕ) → halves v ≡ little 8 v
unfolding little
low-eight v = rw (byte-zero v, byte_one v, byte-two v, byte-three v, byte-four v, byte-five v, byte-six v, byte-seven v)

pub eight-bytes : (bs : List ℕ) (n : ℕ) → bs ≡ little 8 n
    → get_or bs 0 0 ∷ get_or bs 1 0 ∷ get_or bs 2 0 ∷ get_or bs 3 0 ∷ get_or bs 4 0 ∷ get_or bs 5 0 ∷ get_or bs 6 0 ∷ get_or bs 7 0 ∷ [] ≡ little 8 n
unfolding little
eight-bytes bs n e = rw e

pub little-long : (n v : ℕ) → length (little n v) ≡ n
unfolding little
little-long zero v = refl
little-long (suc n) v = ap suc (little-long n (v / 256))
