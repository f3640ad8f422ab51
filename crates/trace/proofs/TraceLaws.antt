-- The laws of the code that writes entries: an entry's bytes, zeros. Assumes nothing.
--     entry-bytes               an entry's bytes, its value's one by one
--     note-none, note-one       no room, and an entry written
--     cleared-part              zeros put in a part, up to its end or to that of the bytes
use Prim.Native.Nat.{ℕ, ◌-◌, ◌*◌, ◌/◌, ◌%◌, ◌≤◌, ◌<◌}
use mathlib.Core.List.{List, [], ◌∷◌}
use mathlib.Core.Bool.{true, false}
use mathlib.Core.Path.{◌≡◌, refl, ap, sym, ◌∙◌}
use borrow.Author.Tests.{lt-ltb, le-ltb}
use native.Mathlib.Omega.{arith}
use lib.ListN.{length, get_or, take, drop, replicate, length-replicate, length-drop}
use lib.Seq.{paste, length-take-le}
use borrow.Rule.Slice.PartMut.{put_mid}
use borrow.Author.Rules.{rules}
use Rattle.std.specs.Prelude.{min}
use Rattle.std.proofs.Math.Nat.{min-le_right}
use Rattle.std.proofs.lemmas.List.{places}
use Rattle.rules.specs.Event.{Entry, little, entry_bytes}
use Rattle.rules.proofs.LittleLaws.{eight-bytes}
use Rattle.trace.specs.Entries.{Notes, Cleared}

-- An entry's bytes

pub entry-bytes : (e : Entry) (value : List ℕ) → value ≡ little 8 e.value
    → e.thread % 256 ∷ e.row % 256 ∷ e.opcode ∷ e.slot ∷ e.mask ∷ 0 ∷ 0 ∷ 0
    ∷ get_or value 0 0 ∷ get_or value 1 0 ∷ get_or value 2 0 ∷ get_or value 3 0 ∷ get_or value 4 0 ∷ get_or value 5 0 ∷ get_or value 6 0 ∷ get_or value 7 0 ∷ []
    ≡ entry_bytes e
unfolding entry_bytes
entry-bytes e value h = rw (eight-bytes value e.value h)

pub length-entry_bytes : (e : Entry) → length (entry_bytes e) ≡ 16
unfolding entry_bytes little
length-entry_bytes e = refl

-- Zeros in a part

module _ (bytes filled : List ℕ) (from to end : ℕ) (least : end ≡ min to (length bytes)) (some : from < end) (filling : filled ≡ replicate (length (take (end - from) (drop from bytes))) 0) where
  within : end ≤ length bytes
  within = omega (arith, least, min-le_right to (length bytes))

  zeros : filled ≡ replicate (end - from) 0
  zeros = filling ∙ ap (λ (n : ℕ). replicate n 0) (length-take-le (end - from) (drop from bytes) (omega (arith, length-drop from bytes, within)))

  long : length filled ≡ end - from
  long = ap length zeros ∙ length-replicate {A = ℕ} (end - from) 0

  pub cleared-part : Cleared bytes (put_mid from (end - from) bytes filled) from to
  cleared-part = record {
    long = search (rules, places, long, within, some);
    zero = λ i l u. search (rules, places, zeros, long, within, least);
    below = λ i u. search (rules, places);
    above = λ i l. search (rules, places, long, within, least);
  }

-- Whether there is room

pub note-none : (bytes : List ℕ) (n : ℕ) (e : Entry) → length bytes / 16 ≤ n → Notes bytes bytes n e false
note-none bytes n e h = record { said = sym (le-ltb n (length bytes / 16) h); left = refl }

pub note-one : (bytes exit s : List ℕ) (n : ℕ) (e : Entry) → n < length bytes / 16 → s ≡ entry_bytes e → exit ≡ paste bytes (16 * n) s 16 → Notes bytes exit n e true
note-one bytes exit s n e h b w = record { said = sym (lt-ltb n (length bytes / 16) h); left = w ∙ ap (λ (x : List ℕ). paste bytes (16 * n) x 16) b }
