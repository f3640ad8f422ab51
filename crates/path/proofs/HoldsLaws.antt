-- The laws of a buffer that holds a path. Assumes nothing.
--     holds-none                       bytes that are all zero
--     holds-room, holds-stands         the path fits; the record of a branch
--     holds-blank, blank-field         the records past the last
--     holds-put, holds-states-put      a branch written over another; other states in a schedule
--     holds-added, holds-dropped       one written past the last; the last one's record set to zeros
--     inside, at-..                    what stands in a schedule's record
use Prim.Native.Nat.{ℕ, zero, suc, ◌+◌, ◌*◌, ◌-◌, ◌≤◌, ◌<◌}
use mathlib.Core.List.{List, [], ◌∷◌, ◌++◌, map}
use mathlib.Core.Bool.{Bool, true, ◌&&◌, and-eq-true_iff}
use mathlib.Core.Path.{◌≡◌, refl, ap, sym, ◌∙◌}
use native.Mathlib.Omega.{arith}
use borrow.Author.Tests.{eq-eqb}
use lib.ListN.{length, get_or, set, replicate, length-append, length-replicate, length-map, replicate-append-replicate}
use lib.Seq.{set_at, get_or_at, get_or-append-add}
use Rattle.rules.specs.Path.{Branch, Schedule, schedule, encoded, encoded_all, written, no_branch, with_states, last_schedule, prev_of}
use Rattle.rules.specs.Records.{record_at, with_record}
use Rattle.rules.proofs.RecordLaws.{flat, Sized, none, more, length-flat, flat-record, flat-put, flat-more, sized-append}
use Rattle.record.specs.Fields.{record_byte, states_at, with_states_at}
use Rattle.record.specs.Stands.{BranchStands, shaped}
use Rattle.record.proofs.StandsLaws.{length-encoded, stands-states, stands-states-put, five-states}
use Rattle.path.specs.Holds.{Holds, Prevs, all_shaped}
use Rattle.path.specs.Walks.{HoldsAt}
use Rattle.path.proofs.PrevLaws.{skeleton, prevs-set, prevs-added, prevs-front, prevs-none, stands-inside}

both : (a b : Bool) → a && b ≡ true → (a ≡ true) × (b ≡ true)
both a b = (and-eq-true_iff a b).0

made : {a b : Bool} → a ≡ true → b ≡ true → a && b ≡ true
made {a} {b} p q = (and-eq-true_iff a b).1 (p, q)

sized : (bs : List Branch) → all_shaped bs ≡ true → Sized (map encoded bs)
unfolding all_shaped
sized [] h = none
sized (b ∷ bs) h = more (length-encoded b (both (shaped b) (all_shaped bs) h).0) (sized bs (both (shaped b) (all_shaped bs) h).1)

all-flat : (bs : List Branch) → encoded_all bs ≡ flat (map encoded bs)
unfolding encoded_all flat
all-flat [] = refl
all-flat (b ∷ bs) = ap (λ (x : List ℕ). encoded b ++ x) (all-flat bs)

map-set : (bs : List Branch) (k : ℕ) (b : Branch) → map encoded (set bs k b) ≡ set (map encoded bs) k (encoded b)
map-set [] k b = refl
map-set (c ∷ bs) zero b = refl
map-set (c ∷ bs) (suc k) b = ap (λ (x : List (List ℕ)). encoded c ∷ x) (map-set bs k b)

map-append : (bs cs : List Branch) → map encoded (bs ++ cs) ≡ map encoded bs ++ map encoded cs
map-append [] cs = refl
map-append (b ∷ bs) cs = ap (λ (x : List (List ℕ)). encoded b ∷ x) (map-append bs cs)

map_at : (bs : List Branch) (k : ℕ) → k < length bs → get_or (map encoded bs) k [] ≡ encoded (get_or bs k no_branch)
map_at [] k h = absurd (omega arith)
map_at (b ∷ bs) zero h = refl
map_at (b ∷ bs) (suc k) h = map_at bs k (omega arith)

shape_at : (bs : List Branch) → all_shaped bs ≡ true → (k : ℕ) → k < length bs → shaped (get_or bs k no_branch) ≡ true
unfolding all_shaped
shape_at [] h k l = absurd (omega arith)
shape_at (b ∷ bs) h zero l = (both (shaped b) (all_shaped bs) h).0
shape_at (b ∷ bs) h (suc k) l = shape_at bs (both (shaped b) (all_shaped bs) h).1 k (omega arith)

shapes-set : (bs : List Branch) → all_shaped bs ≡ true → (k : ℕ) (b : Branch) → shaped b ≡ true → all_shaped (set bs k b) ≡ true
unfolding all_shaped
shapes-set [] h k b t = refl
shapes-set (c ∷ bs) h zero b t = made t (both (shaped c) (all_shaped bs) h).1
shapes-set (c ∷ bs) h (suc k) b t = made (both (shaped c) (all_shaped bs) h).0 (shapes-set bs (both (shaped c) (all_shaped bs) h).1 k b t)

shapes-append : (bs : List Branch) (b : Branch) → all_shaped bs ≡ true → shaped b ≡ true → all_shaped (bs ++ (b ∷ [])) ≡ true
unfolding all_shaped
shapes-append [] b h t = made t refl
shapes-append (c ∷ bs) b h t = made (both (shaped c) (all_shaped bs) h).0 (shapes-append bs b (both (shaped c) (all_shaped bs) h).1 t)

shapes-front : (bs : List Branch) (b : Branch) → all_shaped (bs ++ (b ∷ [])) ≡ true → all_shaped bs ≡ true
unfolding all_shaped
shapes-front [] b h = refl
shapes-front (c ∷ bs) b h = made (both (shaped c) (all_shaped (bs ++ (b ∷ []))) h).0 (shapes-front bs b (both (shaped c) (all_shaped (bs ++ (b ∷ []))) h).1)

-- the same promise in terms of records: any number of zeros after them
made_of : (bytes : List ℕ) (bs : List Branch) (n : ℕ) → all_shaped bs ≡ true → Prevs bs → bytes ≡ flat (map encoded bs) ++ replicate n 0 → Holds bytes bs
unfolding written
made_of bytes bs n h p e =
    let l : length bytes ≡ 16 * length bs + n =
    ap length e ∙ length-append (flat (map encoded bs)) (replicate n 0) ∙ (omega (arith, length-flat (sized bs h), length-map bs encoded, length-replicate n (zero))) in
    let z : length bytes - 16 * length bs ≡ n = omega arith in
    record { shapes = h; prevs = p; same = e ∙ ap (λ (x : List ℕ). x ++ replicate n 0) (sym (all-flat bs)) ∙ ap (λ (m : ℕ). encoded_all bs ++ replicate m 0) (sym z) }

pub holds-none : (n : ℕ) → Holds (replicate n 0) []
unfolding flat all_shaped
holds-none n = made_of (replicate n 0) [] n refl prevs-none refl

zeros-at : (n m : ℕ) → ◌≡◌ {A = ℕ} (get_or (replicate n 0) m 0) 0
zeros-at zero m = refl
zeros-at (suc n) zero = refl
zeros-at (suc n) (suc m) = zeros-at n m

module _ {bytes : List ℕ} {bs : List Branch} (h : Holds bytes bs) where
  parts : bytes ≡ flat (map encoded bs) ++ replicate (length bytes - 16 * length bs) 0
  unfolding written
  parts = h.same ∙ ap (λ (x : List ℕ). x ++ replicate (length bytes - 16 * length bs) 0) (all-flat bs)

  long : length (flat (map encoded bs)) ≡ 16 * length bs
  long = omega (arith, length-flat (sized bs h.shapes), length-map bs encoded)

  pub holds-room : 16 * length bs ≤ length bytes
  holds-room =
      omega (arith, ap length parts ∙ length-append (flat (map encoded bs)) (replicate (length bytes - 16 * length bs) 0), long, length-replicate (length bytes - 16 * length bs) (zero))

  holds-record : (k : ℕ) → k < length bs → record_at bytes k ≡ encoded (get_or bs k no_branch)
  holds-record k b =
      ap (λ (x : List ℕ). record_at x k) parts
      ∙ flat-record (sized bs h.shapes) k (omega (arith, length-map bs encoded)) (replicate (length bytes - 16 * length bs) 0)
      ∙ map_at bs k b

  pub holds-stands : (k : ℕ) (b : Branch) → k < length bs → get_or bs k no_branch ≡ b → BranchStands bytes k b
  holds-stands k b l e = record {
    fits = omega (arith, holds-room);
    shape = ap shaped (sym e) ∙ shape_at bs h.shapes k l;
    same = holds-record k l ∙ ap encoded e;
  }

  pub blank-field : (k j : ℕ) → length bs ≤ k → record_byte bytes k j ≡ 0
  blank-field k j l =
      let m : ℕ = 16 * k + j - 16 * length bs in
      let e : 16 * k + j ≡ length (flat (map encoded bs)) + m = omega (arith, long) in
      ap (λ (x : List ℕ). get_or x (16 * k + j) 0) parts
      ∙ ap (λ (x : ℕ). get_or (flat (map encoded bs) ++ replicate (length bytes - 16 * length bs) 0) x 0) e
      ∙ get_or-append-add (flat (map encoded bs)) (replicate (length bytes - 16 * length bs) 0) m 0
      ∙ zeros-at (length bytes - 16 * length bs) m

  pub holds-put : (k : ℕ) (b : Branch) → k < length bs → shaped b ≡ true → skeleton (get_or bs k no_branch) ≡ skeleton b → Holds (with_record bytes k (encoded b)) (set bs k b)
  holds-put k b l t a =
      made_of (with_record bytes k (encoded b)) (set bs k b) (length bytes - 16 * length bs) (shapes-set bs h.shapes k b t) (prevs-set bs k b l a h.prevs)
      (ap (λ (x : List ℕ). with_record x k (encoded b)) parts
      ∙ flat-put (sized bs h.shapes) k (omega (arith, length-map bs encoded)) (replicate (length bytes - 16 * length bs) 0) (encoded b)
      ∙ ap (λ (x : List (List ℕ)). flat x ++ replicate (length bytes - 16 * length bs) 0) (sym (map-set bs k b)))

  module _ (room : 16 * length bs + 16 ≤ length bytes) where
    -- a record of zeros past the last
    one-more : bytes ≡ flat (map encoded bs ++ (replicate 16 0 ∷ [])) ++ replicate (length bytes - 16 * length bs - 16) 0
    one-more =
        let n : length bytes - 16 * length bs ≡ 16 + (length bytes - 16 * length bs - 16) = omega arith in
        parts
        ∙ ap (λ (m : ℕ). flat (map encoded bs) ++ replicate m 0) n
        ∙ ap (λ (x : List ℕ). flat (map encoded bs) ++ x) (sym (replicate-append-replicate 16 (length bytes - 16 * length bs - 16) (zero)))
        ∙ flat-more (map encoded bs) (replicate 16 0) (replicate (length bytes - 16 * length bs - 16) 0)

    last : length bs < length (map encoded bs ++ (replicate 16 0 ∷ []))
    last = omega (arith, length-map bs encoded, length-append (map encoded bs) (replicate 16 0 ∷ []))

    pub holds-blank : record_at bytes (length bs) ≡ replicate 16 0
    holds-blank =
        ap (λ (x : List ℕ). record_at x (length bs)) one-more
        ∙ flat-record (sized-append (sized bs h.shapes) (more refl none)) (length bs) last (replicate (length bytes - 16 * length bs - 16) 0)
        ∙ get_or_at (map encoded bs) (replicate 16 0) [] [] (length bs) (length-map bs encoded)

    pub holds-added : (b : Branch) → shaped b ≡ true → ((s : Schedule) → b ≡ schedule s → s.prev ≡ prev_of (last_schedule bs)) → Holds (with_record bytes (length bs) (encoded b)) (bs ++ (b ∷ []))
    holds-added b t p =
        made_of (with_record bytes (length bs) (encoded b)) (bs ++ (b ∷ [])) (length bytes - 16 * length bs - 16) (shapes-append bs b h.shapes t) (prevs-added bs b h.prevs p)
        (ap (λ (x : List ℕ). with_record x (length bs) (encoded b)) one-more
        ∙ flat-put (sized-append (sized bs h.shapes) (more refl none)) (length bs) last (replicate (length bytes - 16 * length bs - 16) 0) (encoded b)
        ∙ ap (λ (x : List (List ℕ)). flat x ++ replicate (length bytes - 16 * length bs - 16) 0)
        (set_at (map encoded bs) (replicate 16 0) [] (encoded b) (length bs) (length-map bs encoded) ∙ sym (map-append bs (b ∷ []))))

pub holds-dropped : {bytes : List ℕ} (bs : List Branch) (b : Branch) → Holds bytes (bs ++ (b ∷ [])) → Holds (with_record bytes (length bs) (replicate 16 0)) bs
holds-dropped {bytes} bs b h =
    let z : List ℕ = replicate (length bytes - 16 * length (bs ++ (b ∷ []))) 0 in
    let l : length bs < length (map encoded (bs ++ (b ∷ []))) = omega (arith, length-map (bs ++ (b ∷ [])) encoded, length-append bs (b ∷ [])) in
    made_of (with_record bytes (length bs) (replicate 16 0)) bs (16 + (length bytes - 16 * length (bs ++ (b ∷ [])))) (shapes-front bs b h.shapes) (prevs-front bs (b ∷ []) h.prevs)
    (ap (λ (x : List ℕ). with_record x (length bs) (replicate 16 0)) (parts h)
    ∙ flat-put (sized (bs ++ (b ∷ [])) h.shapes) (length bs) l z (replicate 16 0)
    ∙ ap (λ (x : List (List ℕ)). flat (set x (length bs) (replicate 16 0)) ++ z) (map-append bs (b ∷ []))
    ∙ ap (λ (x : List (List ℕ)). flat x ++ z) (set_at (map encoded bs) (encoded b) [] (replicate 16 0) (length bs) (length-map bs encoded))
    ∙ sym (flat-more (map encoded bs) (replicate 16 0) z)
    ∙ ap (λ (x : List ℕ). flat (map encoded bs) ++ x) (replicate-append-replicate 16 (length bytes - 16 * length (bs ++ (b ∷ []))) (zero)))

-- A schedule that stands in it

module _ {bytes : List ℕ} {bs : List Branch} {k : ℕ} {s : Schedule} (h : HoldsAt bytes bs k s) where
  pub inside : k < length bs
  inside = stands-inside bs k s h.there

  pub at-stands : BranchStands bytes k (schedule s)
  at-stands = holds-stands h.path k (schedule s) inside h.there

  pub at_five : length s.states ≡ 5
  at_five = five-states at-stands

  pub at-states : states_at bytes k ≡ s.states
  at-states = stands-states at-stands

  pub holds-states-put : (t : List ℕ) → length t ≡ 5 → Holds (with_states_at bytes k t) (set bs k (schedule (with_states s t)))
  holds-states-put t l =
      rw (stands-states-put at-stands t) (holds-put h.path k (schedule (with_states s t)) inside (eq-eqb (length t) 5 l) (ap skeleton h.there))
