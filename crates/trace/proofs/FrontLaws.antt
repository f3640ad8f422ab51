-- The laws of a buffer that begins with entries. Assumes nothing.
--     front-none      every buffer begins with none
--     front-more      an entry written past them
--     front-noted     nothing but zeros past them
use Prim.Native.Nat.{ℕ, ◌+◌, ◌-◌, ◌*◌, ◌/◌, ◌≤◌, ◌<◌}
use mathlib.Core.List.{List, [], ◌∷◌, ◌++◌, append_assoc, append-nil}
use mathlib.Core.Path.{◌≡◌, refl, ap, sym, ◌∙◌}
use native.Mathlib.Omega.{arith}
use lib.ListN.{length, get_or, take, drop, replicate, length-append, length-drop, length-replicate, get_or-replicate, take-append-drop}
use lib.Seq.{paste, take_all, take-paste, drop-paste, length-paste, get_or-drop, ext_get_or}
use Rattle.rules.specs.Event.{Entry, entry_bytes}
use Rattle.rules.specs.Explored.{entries_bytes, trace_left}
use Rattle.trace.proofs.TraceLaws.{length-entry_bytes}
use Rattle.trace.specs.Entries.{Front, Appended}

entries-append : (es : List Entry) (e : Entry) → entries_bytes (es ++ (e ∷ [])) ≡ entries_bytes es ++ entry_bytes e
unfolding entries_bytes
entries-append [] e = append-nil (entry_bytes e)
entries-append (x ∷ es) e = ap (λ (b : List ℕ). entry_bytes x ++ b) (entries-append es e) ∙ sym (append_assoc (entry_bytes x) (entries_bytes es) (entry_bytes e))

length-entries : (es : List Entry) → length (entries_bytes es) ≡ 16 * length es
unfolding entries_bytes
length-entries [] = refl
length-entries (e ∷ es) = length-append (entry_bytes e) (entries_bytes es) ∙ (omega (arith, length-entry_bytes e, length-entries es))

pub front-none : (bytes : List ℕ) → Front bytes []
unfolding entries_bytes
front-none bytes = refl

module _ (entry : List ℕ) (es : List Entry) (n : ℕ) (front : Front entry es) (many : length es ≡ n) (room : n < length entry / 16) (e : Entry) where
  sixteen : length (entry_bytes e) ≡ 16
  sixteen = length-entry_bytes e

  written-front : take (16 * length (es ++ (e ∷ []))) (paste entry (16 * n) (entry_bytes e) 16) ≡ entries_bytes (es ++ (e ∷ []))
  written-front =
      let m : 16 * length (es ++ (e ∷ [])) ≡ 16 * n + 16 = simp length-append (omega arith) in
      ap (λ (k : ℕ). take k (paste entry (16 * n) (entry_bytes e) 16)) m
      ∙ take-paste entry (16 * n) (entry_bytes e) 16 (omega arith) (omega (arith, sixteen))
      ∙ ap (λ (b : List ℕ). take (16 * n) entry ++ b) (take_all 16 (entry_bytes e) (omega (arith, sixteen)))
      ∙ ap (λ (k : ℕ). take (16 * k) entry ++ entry_bytes e) (sym many)
      ∙ ap (λ (b : List ℕ). b ++ entry_bytes e) front
      ∙ sym (entries-append es e)

  written-rest : (i : ℕ) → 16 * (n + 1) ≤ i → get_or (paste entry (16 * n) (entry_bytes e) 16) i 0 ≡ get_or entry i 0
  written-rest i h =
      let m : 16 * n + 16 + (i - (16 * n + 16)) ≡ i = omega arith in
      let j : ℕ = i - (16 * n + 16) in
      let d : drop (16 * n + 16) (paste entry (16 * n) (entry_bytes e) 16) ≡ drop (16 * n + 16) entry = drop-paste entry (16 * n) (entry_bytes e) 16 (omega arith) (omega (arith, sixteen)) in
      ap (λ (k : ℕ). get_or (paste entry (16 * n) (entry_bytes e) 16) k 0) (sym m)
      ∙ sym (get_or-drop (16 * n + 16) (paste entry (16 * n) (entry_bytes e) 16) j 0)
      ∙ ap (λ (b : List ℕ). get_or b j 0) d
      ∙ get_or-drop (16 * n + 16) entry j 0
      ∙ ap (λ (k : ℕ). get_or entry k 0) m

  pub front-more : Appended entry (paste entry (16 * n) (entry_bytes e) 16) n (es ++ (e ∷ []))
  front-more =
      record {
        front = written-front;
        long = length-paste entry (16 * n) (entry_bytes e) 16 (omega arith) (omega (arith, sixteen));
        rest = written-rest;
      }

module _ (bytes : List ℕ) (es : List Entry) (front : Front bytes es) (zeros : (i : ℕ) → 16 * length es ≤ i → get_or bytes i 0 ≡ 0) where
  rest-zeros : drop (16 * length es) bytes ≡ replicate (length bytes - 16 * length es) 0
  rest-zeros =
      ext_get_or 0 (drop (16 * length es) bytes) (replicate (length bytes - 16 * length es) 0)
      (length-drop (16 * length es) bytes ∙ sym (length-replicate (length bytes - 16 * length es) 0))
      (λ i h. get_or-drop (16 * length es) bytes i 0
      ∙ zeros (16 * length es + i) (omega arith)
      ∙ sym (get_or-replicate (length bytes - 16 * length es) i 0 0 (omega (arith, length-drop (16 * length es) bytes))))

  pub front-noted : bytes ≡ trace_left (length bytes) es
  unfolding trace_left
  front-noted = sym (take-append-drop (16 * length es) bytes) ∙ (cc (front, rest-zeros))
