-- The laws of a new branch. Assumes nothing.
--     no_room, has_room        the test of room
--     refused                  no room for it
--     added-as                 it was written past the last
--     spurious-.., load-..     the two that open what they add
--     seven-..                 as many values as a record can have
use Prim.Native.Nat.{ℕ, min, ◌+◌, ◌*◌, ◌-◌, ◌≤◌}
use mathlib.Core.List.{List, [], ◌∷◌, ◌++◌}
use mathlib.Core.Bool.{Bool, true, false, cond}
use mathlib.Core.Path.{◌≡◌, refl, ap, sym, subst, ◌∙◌}
use native.Mathlib.Omega.{arith}
use mir.Val.{bool_byte}
use borrow.Author.Tests.{le-leb, lt-leb}
use lib.Dec.{leb}
use lib.ListN.{length, set, take, replicate}
use lib.Seq.{paste, length-take-le}
use Rattle.rules.specs.Path as rules
use Rattle.rules.specs.Path.{Branch, Schedule, encoded, spurious_added, load_added, open_at, prev_of, last_schedule}
use Rattle.rules.specs.Records.{record_at, with_record}
use Rattle.rules.proofs.RecordLaws.{record-now, record-again}
use Rattle.record.specs.Answers.{Left}
use Rattle.record.specs.Fields.{record_begun, with_offers}
use Rattle.record.specs.Stands.{shaped}
use Rattle.record.proofs.LoadLaws.{load-new, left-whole}
use Rattle.path.specs.Holds.{Holds}
use Rattle.path.specs.Places.{records_of, HasRoom}
use Rattle.path.specs.Pushes.{Pushes, pushed_of, grown}
use Rattle.std.specs.Prelude.{Ok, Err}
use Rattle.path.specs.declared.NotAdded.{NotAdded}
use Rattle.path.specs.declared.NotAdded.TheVariants.{Full}
use Rattle.std.proofs.lemmas.List.{take_min}
use Rattle.path.proofs.HoldsLaws.{holds-blank, holds-added}

pub no_room : (bytes : List ℕ) (len : ℕ) → records_of bytes ≤ len → leb (records_of bytes) len ≡ true
no_room bytes len h = le-leb (records_of bytes) len h

pub has_room : (bytes : List ℕ) (len : ℕ) → 16 * len + 16 ≤ length bytes → leb (records_of bytes) len ≡ false
has_room bytes len h = lt-leb (records_of bytes) len (omega arith)

module _ (bytes : List ℕ) (len most : ℕ) (answer : ℕ → List Branch → rules.Added) where
  pub refused : records_of bytes ≤ len → ((B : ℕ) (bs : List Branch) → leb B (length bs) ≡ true → answer B bs ≡ rules.full) → Pushes bytes bytes len most answer (Err Full)
  refused h f =
      let says : (bs : List Branch) → length bs ≡ len → answer (records_of bytes) bs ≡ rules.full =
      λ bs e. f (records_of bytes) bs (rw e (no_room bytes len h)) in
      record {
        within = record { because = omega arith; same = refl };
        full = λ l. refl;
        keeps = refl;
        says = λ bs q e. ap pushed_of (sym (says bs e));
        holds = λ bs q e. subst (λ (a : rules.Added). Holds bytes (grown bs a)) (sym (says bs e)) q;
      }

  added-as :
      16 * len + 16 ≤ length bytes → (exit : List ℕ) → length exit ≡ length bytes → (b : Branch) (n : ℕ) → n ≤ most → n ≡ open_at b → shaped b ≡ true
      → ((bs : List Branch) (s : Schedule) → b ≡ rules.schedule s → s.prev ≡ prev_of (last_schedule bs))
      → (record_at bytes len ≡ replicate 16 0 → exit ≡ with_record bytes len (encoded b))
      → ((B : ℕ) (bs : List Branch) → leb B (length bs) ≡ false → answer B bs ≡ rules.added b)
      → Pushes bytes exit len most answer (Ok n)
  added-as room exit keeps b n few opens shape prev put f =
      let says : (bs : List Branch) → length bs ≡ len → answer (records_of bytes) bs ≡ rules.added b =
      λ bs e. f (records_of bytes) bs (rw e (has_room bytes len room)) in
      let holds : (bs : List Branch) → Holds bytes bs → length bs ≡ len → Holds exit (bs ++ (b ∷ [])) =
      λ bs q e.
      let fits : 16 * length bs + 16 ≤ length bytes = omega arith in
      let blank : record_at bytes len ≡ replicate 16 0 = rw e at (holds-blank q fits) in
      rw (put blank, ← e) (holds-added q fits b shape (prev bs)) in
      record {
        within = record { room = room; few = few };
        full = λ l. absurd (omega arith);
        keeps = keeps;
        says = λ bs q e. ap Ok opens ∙ ap pushed_of (sym (says bs e));
        holds = λ bs q e. subst (λ (a : rules.Added). Holds exit (grown bs a)) (sym (says bs e)) (holds bs q e);
      }

-- A spurious branch

pub one-opens : (b : Bool) → bool_byte b ≡ cond b 1 0
one-opens true = refl
one-opens false = refl

abbrev new_spurious : Bool → Branch
new_spurious exploring = rules.spurious (record { exploring = exploring; bit = false })

module _ (bytes : List ℕ) (len : ℕ) (exploring : Bool) where
  pub spurious-refused : records_of bytes ≤ len → Pushes bytes bytes len 1 (λ B bs. spurious_added B bs exploring) (Err Full)
  unfolding spurious_added
  spurious-refused h = refused bytes len 1 (λ B bs. spurious_added B bs exploring) h (λ B bs e. rw e)

  spurious-put : record_at bytes len ≡ replicate 16 0 → record_begun bytes len 3 exploring ≡ with_record bytes len (encoded (new_spurious exploring))
  unfolding record_begun encoded
  spurious-put e = rw e

  pub spurious-added : 16 * len + 16 ≤ length bytes → (exit : List ℕ) → length exit ≡ length bytes → (n : ℕ) → n ≡ cond exploring 1 0 → n ≤ 1 → exit ≡ record_begun bytes len 3 exploring → Pushes bytes exit len 1 (λ B bs. spurious_added B bs exploring) (Ok n)
  unfolding spurious_added open_at
  spurious-added room exit keeps n opens few e =
      added-as bytes len 1 (λ B bs. spurious_added B bs exploring) room exit keeps (new_spurious exploring) n few opens refl no-prev (λ z. e ∙ spurious-put z) (λ B bs q. rw q)
    where
      no-prev : (bs : List Branch) (s : Schedule) → new_spurious exploring ≡ rules.schedule s → s.prev ≡ prev_of (last_schedule bs)
      no-prev bs s q = let z : ◌≡◌ {A = ℕ} 0 1 = cc in absurd (omega arith)

-- A load branch

-- what is left of it opens, where it is explored
pub opens-left : {exploring : Bool} {n m : ℕ} → exploring ≡ true → n ≤ 7 → Left 0 n m → m ≡ cond exploring (n - 1) 0
opens-left {exploring} {n} {m} e h l = left-whole n m h l ∙ sym (ap (λ (x : Bool). cond x (n - 1) 0) e)

pub opens-none : {exploring : Bool} (n : ℕ) → exploring ≡ false → 0 ≡ cond exploring (n - 1) 0
opens-none {exploring} n e = sym (ap (λ (x : Bool). cond x (n - 1) 0) e)

abbrev new_load : Bool → List ℕ → Branch
new_load exploring offers = rules.load (record { exploring = exploring; values = offers; pos = 0 })

module _ (bytes : List ℕ) (len : ℕ) (exploring : Bool) (seed : List ℕ) (n : ℕ) where
  pub load-refused : records_of bytes ≤ len → Pushes bytes bytes len 6 (λ B bs. load_added B bs exploring (take n seed)) (Err Full)
  unfolding load_added
  load-refused h = refused bytes len 6 (λ B bs. load_added B bs exploring (take n seed)) h (λ B bs e. rw e)

  module _ (room : 16 * len + 16 ≤ length bytes) (l : length seed ≡ 7) (h : n ≤ 7) where
    begun-blank : record_at bytes len ≡ replicate 16 0 → record_begun bytes len 2 exploring ≡ with_record bytes len (2 ∷ rules.flag exploring ∷ replicate 14 0)
    unfolding record_begun
    begun-blank e = rw e

    load-put : (mid : List ℕ) → mid ≡ with_record bytes len (2 ∷ rules.flag exploring ∷ replicate 14 0) → with_offers mid len seed n ≡ with_record bytes len (encoded (new_load exploring (take n seed)))
    unfolding with_offers
    load-put mid e =
        let r : List ℕ = 2 ∷ rules.flag exploring ∷ replicate 14 0 in
        let now : record_at mid len ≡ r = ap (λ (x : List ℕ). record_at x len) e ∙ record-now bytes len room r refl in
        ap (λ (x : List ℕ). with_record mid len (set (paste x 2 seed n) 10 n)) now
        ∙ ap (with_record mid len) (load-new seed n (rules.flag exploring) l h exploring refl)
        ∙ ap (λ (x : List ℕ). with_record x len (encoded (new_load exploring (take n seed)))) e
        ∙ record-again bytes len room r (encoded (new_load exploring (take n seed))) refl

    -- the same slots are offered where more are asked for than there are
    pub load-added :
        (all : ℕ) → take n seed ≡ take all seed → (mid exit : List ℕ) → length exit ≡ length bytes → (m : ℕ) → m ≡ cond exploring (n - 1) 0 → m ≤ 6 → mid ≡ record_begun bytes len 2 exploring → exit ≡ with_offers mid len seed n
        → Pushes bytes exit len 6 (λ B bs. load_added B bs exploring (take all seed)) (Ok m)
    unfolding load_added open_at
    load-added all same mid exit keeps m opens few e f =
        let k : length (take n seed) ≡ n = length-take-le n seed (omega arith) in
        let some : cond exploring (n - 1) 0 ≡ cond exploring (length (take n seed) - 1 - 0) 0 =
        let z : n - 1 ≡ length (take n seed) - 1 - 0 = omega arith in
        ap (λ (x : ℕ). cond exploring x 0) z in
        added-as bytes len 6 (λ B bs. load_added B bs exploring (take all seed)) room exit keeps (new_load exploring (take n seed)) m few
        (opens ∙ some)
        (le-leb (length (take n seed)) 7 (omega arith))
        no-prev
        (λ z. f ∙ load-put mid (e ∙ begun-blank z))
        (λ B bs q. rw (q, same))
      where
        no-prev : (bs : List Branch) (s : Schedule) → new_load exploring (take n seed) ≡ rules.schedule s → s.prev ≡ prev_of (last_schedule bs)
        no-prev bs s q = let z : ◌≡◌ {A = ℕ} 0 1 = cc in absurd (omega arith)

-- as many of the seven values
pub seven-of : (n m : ℕ) (seed : List ℕ) → length seed ≡ 7 → m ≡ min n 7 → take m seed ≡ take n seed
seven-of n m seed l e = ap (λ (x : ℕ). take x seed) (e ∙ ap (min n) (sym l)) ∙ take_min n seed

-- there is no room for it
pub full-err : {path : List ℕ} {len : ℕ} {why : NotAdded} → HasRoom path len (Err why) → (why ≡ Full) × (records_of path ≤ len)
full-err h = h.full
