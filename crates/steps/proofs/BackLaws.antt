-- What the definitions say of the trace that a run leaves, `trace_left`: its entries, and zeros past them. Assumes nothing.
--     entry-back       each is read back as it was
--     entries-back     they are counted, where none is a load that was offered nothing
use Prim.Native.Nat.{ℕ, zero, suc, ◌+◌, ◌-◌, ◌*◌, ◌/◌, ◌%◌, ◌≤◌, ◌<◌, ◌^◌}
use mathlib.Core.List.{List, [], ◌∷◌, ◌++◌, append_assoc}
use mathlib.Core.Bool.{Bool, true, false, cond}
use mathlib.Core.Path.{◌≡◌, refl, sym, ◌∙◌}
use native.Mathlib.Omega.{arith}
use native.Mathlib.Decide.{dec_lt}
use native.Mathlib.Nat.{zero-add}
use lib.Dec.{ltb}
use lib.ListN.{length, get_or, replicate, length-append, length-replicate, get_or-replicate, get_or-append, get_or-eq_default}
use lib.Seq.{get_or-append-add}
use borrow.Author.Tests.{lt-ltb}
use Rattle.rules.specs.Event.{Entry, little, entry_bytes}
use Rattle.rules.specs.Explored.{entries_bytes, trace_left}
use Rattle.rules.specs.Table.{u16_at, u32_at, u64_at}
use Rattle.steps.specs.Entries.{room, byte_at, entry_read, is_entry, entries}
use Rattle.steps.proofs.EntryLaws.{entries_left, entries-all, entries-on, entries-found, entries_none}

-- an entry as its bytes can say it
abbrev pub in_bytes : Entry → Entry
in_bytes e = record {
  thread = e.thread % 256;
  row = e.row % 256;
  opcode = e.opcode;
  slot = e.slot;
  mask = e.mask;
  value = e.value % 2 ^ 64;
}

-- a number from its lowest bytes
two : (v : ℕ) → v % 256 + 256 * (v / 256 % 256) ≡ v % 65536
two v = omega arith

four : (v : ℕ) → v % 256 + 256 * (v / 256 % 256) + 65536 * (v / 256 / 256 % 256 + 256 * (v / 256 / 256 / 256 % 256)) ≡ v % 4294967296
four v = rw (two v, two (v / 256 / 256)) (omega arith)

eight : (v : ℕ) →
    v % 256 + 256 * (v / 256 % 256) + 65536 * (v / 256 / 256 % 256 + 256 * (v / 256 / 256 / 256 % 256))
    + 4294967296 * (v / 256 / 256 / 256 / 256 % 256 + 256 * (v / 256 / 256 / 256 / 256 / 256 % 256) + 65536 * (v / 256 / 256 / 256 / 256 / 256 / 256 % 256 + 256 * (v / 256 / 256 / 256 / 256 / 256 / 256 / 256 % 256)))
    ≡ v % 2 ^ 64
eight v = rw (four v, four (v / 256 / 256 / 256 / 256)) (omega arith)

-- an entry's 16 bytes
sixteen : (e : Entry) → length (entry_bytes e) ≡ 16
unfolding entry_bytes little
sixteen e = refl

length-entries : (es : List Entry) → length (entries_bytes es) ≡ 16 * length es
unfolding entries_bytes
length-entries [] = refl
length-entries (e ∷ es) = length-append (entry_bytes e) (entries_bytes es) ∙ (omega (arith, sixteen e, length-entries es))

-- byte by byte: within the entries, and past them
within : (es : List Entry) (rest : List ℕ) (none : Entry) (i place : ℕ) → i < length es → place < 16 →
    get_or (entries_bytes es ++ rest) (16 * i + place) 0 ≡ get_or (entry_bytes (get_or es i none)) place 0
unfolding entries_bytes
within [] rest none i place h k = absurd (omega arith)
within (e ∷ es) rest none zero place h k =
    rw (append_assoc, zero-add) (get_or-append (entry_bytes e) (entries_bytes es ++ rest) 0 place (omega (arith, sixteen e)))
within (e ∷ es) rest none (suc i) place h k =
    let at : 16 * suc i + place ≡ length (entry_bytes e) + (16 * i + place) = omega (arith, sixteen e) in
    rw (append_assoc, at) (get_or-append-add (entry_bytes e) (entries_bytes es ++ rest) (16 * i + place) 0 ∙ within es rest none i place (omega arith) k)

zeros : (k i : ℕ) → ◌≡◌ {A = ℕ} (get_or (replicate k 0) i 0) 0
zeros k i = elim (dec_lt i k) [
  | yes l ↦ get_or-replicate k i 0 0 l
  | no l ↦ get_or-eq_default (replicate k 0) 0 (omega (arith, length-replicate {A = ℕ} k 0))
]

cond-zero : (b : Bool) {x : ℕ} → x ≡ 0 → cond b x 0 ≡ 0
cond-zero true e = e
cond-zero false e = refl

past : (es : List Entry) (k i : ℕ) → 16 * length es ≤ i → get_or (entries_bytes es ++ replicate k 0) i 0 ≡ 0
past es k i h =
    let at : i ≡ length (entries_bytes es) + (i - 16 * length es) = omega (arith, length-entries es) in
    rw at (get_or-append-add (entries_bytes es) (replicate k 0) (i - 16 * length es) 0 ∙ zeros k (i - 16 * length es))

module _ (n : ℕ) (es : List Entry) (fits : 16 * length es ≤ n) where
  long : length (trace_left n es) ≡ n
  unfolding trace_left
  long = simp (length-append, length-replicate, length-entries) (omega arith)

  module _ (i : ℕ) (h : length es ≤ i) where
    past-byte : (place : ℕ) → byte_at (trace_left n es) i place ≡ 0
    unfolding byte_at trace_left
    past-byte place = cond-zero (ltb i (room (trace_left n es))) (past es (n - 16 * length es) (16 * i + place) (omega arith))

    past_is : is_entry (entry_read (trace_left n es) i) ≡ false
    past_is = rw (past-byte 2, past-byte 4)

  module _ (none : Entry) (i : ℕ) (h : i < length es) where
    there : ltb i (room (trace_left n es)) ≡ true
    there = lt-ltb i (room (trace_left n es)) (omega (arith, long))

    at_place : (j place : ℕ) → j ≡ 16 * i + place → place < 16 → get_or (trace_left n es) j 0 ≡ get_or (entry_bytes (get_or es i none)) place 0
    unfolding trace_left
    at_place j place e k = rw e (within es (replicate (n - 16 * length es) 0) none i place h k)

    byte-back : (place : ℕ) → place < 16 → byte_at (trace_left n es) i place ≡ get_or (entry_bytes (get_or es i none)) place 0
    unfolding byte_at
    byte-back place k = rw there (at_place (16 * i + place) place refl k)

    entry-is : is_entry (entry_read (trace_left n es) i) ≡ is_entry (get_or es i none)
    unfolding entry_bytes
    entry-is = rw (byte-back 2 (omega arith), byte-back 4 (omega arith))

    value-back : u64_at (trace_left n es) (16 * i + 8) ≡ (get_or es i none).value % 2 ^ 64
    unfolding u64_at u32_at u16_at entry_bytes little
    value-back =
        let at = 16 * i + 8 in
        rw (
          at_place at 8 refl (omega arith),
          at_place (at + 1) 9 (omega arith) (omega arith),
          at_place (at + 2) 10 (omega arith) (omega arith),
          at_place (at + 2 + 1) 11 (omega arith) (omega arith),
          at_place (at + 4) 12 (omega arith) (omega arith),
          at_place (at + 4 + 1) 13 (omega arith) (omega arith),
          at_place (at + 4 + 2) 14 (omega arith) (omega arith),
          at_place (at + 4 + 2 + 1) 15 (omega arith) (omega arith),
        )
        (eight (get_or es i none).value)

    pub entry-back : entry_read (trace_left n es) i ≡ in_bytes (get_or es i none)
    unfolding entry_bytes
    entry-back =
        rw
        (byte-back 0 (omega arith), byte-back 1 (omega arith), byte-back 2 (omega arith), byte-back 3 (omega arith), byte-back 4 (omega arith), there, value-back)

  module _ (none : Entry) (real : (i : ℕ) → i < length es → is_entry (get_or es i none) ≡ true) where
    walk : (k i : ℕ) → i + k ≡ length es → entries_left (trace_left n es) i ≡ length es
    walk zero i e = elim (dec_lt i (room (trace_left n es))) [
      | yes l ↦ entries-found (trace_left n es) i l (past_is i (omega arith)) ∙ (omega arith)
      | no l ↦ entries_none (trace_left n es) i (omega arith) (omega (arith, long)) ∙ (omega (arith, long))
    ]
    walk (suc k) i e =
        sym (entries-on (trace_left n es) i (omega (arith, long)) (entry-is none i (omega arith) ∙ real i (omega arith)))
        ∙ walk k (i + 1) (omega arith)

    pub entries-back : entries (trace_left n es) ≡ length es
    entries-back = sym (entries-all (trace_left n es)) ∙ walk (length es) 0 (omega arith)
