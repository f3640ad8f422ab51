-- A known path leads: from a state of the machine, with the trace so far, each question asked on the way meets the next of
-- these records, which agrees with it and answers, and nothing else happens before the last of them has answered.
--     Leads                     the relation, within a number of ticks
--     leads-marking             marks keep it
--     leads-stepped             so does the step to the next path
--     leads-sound               every record of such a path is sound
use Prim.Native.Nat.{ℕ, zero, suc, ◌+◌, ◌<◌}
use mathlib.Core.List.{List, [], ◌∷◌, ◌++◌}
use mathlib.Core.Bool.{Bool, true, false, cond}
use mathlib.Core.Path.{◌≡◌, refl}
use lib.Dec.{ltb, leb}
use lib.ListN.{length}
use borrow.Author.Tests.{ltb-true}
use Rattle.rules.specs.Path.{Branch, stepped, or_turned, turned_branch, open_at}
use Rattle.rules.specs.Event.{Machine, Move, moves, asks, stops, ends, Entry, Question}
use Rattle.rules.specs.Explorer.{Limits, Reply, says, unexpected, reply}
use Rattle.ledger.specs.History.{Every}
use Rattle.ledger.specs.Replay.{Agrees}
use Rattle.ledger.proofs.Marking.{AllMarking, marking-reply}
use Rattle.ledger.proofs.Records.{Sound, agrees-sound, agrees-marking, agrees-turned, Answers, reply-turned}

module _ (M : Machine) (limits : Limits) where
  abbrev pub room : List Entry → List Entry → Bool
  room tr es = leb (length tr + length es) limits.operations

  -- what must come after, with one tick less
  abbrev pub Ahead : Type 1
  Ahead = M.State → List Entry → ℕ → List Branch → Type 0

  -- after an answer
  abbrev pub Onward : Ahead → List Entry → ℕ → List Branch → Move M.State → Type 0
  Onward F tr k [] e = Unit {0}
  Onward F tr k (b ∷ bs) (moves s es) = (room tr es ≡ true) × F s (tr ++ es) k (b ∷ bs)
  Onward F tr k (b ∷ bs) (asks s es x q) = ⊥
  Onward F tr k (b ∷ bs) (stops s f) = ⊥
  Onward F tr k (b ∷ bs) (ends s) = ⊥

  -- at a reply
  abbrev pub Replies : Ahead → M.State → List Entry → ℕ → List Branch → Reply → Type 0
  Replies F s tr k bs (says a) = Onward F tr (k + 1) bs (M.answered s a)
  Replies F s tr k bs unexpected = ⊥

  -- at a tick
  abbrev pub Asks : Ahead → List Entry → ℕ → List Branch → Move M.State → Type 0
  Asks F tr k [] e = Unit {0}
  Asks F tr k (b ∷ bs) (moves s es) = (room tr es ≡ true) × F s (tr ++ es) k (b ∷ bs)
  Asks F tr k (b ∷ bs) (asks s es x q) = (room tr es ≡ true) × Agrees x b q × Replies F s (tr ++ es) k bs (reply k b q)
  Asks F tr k (b ∷ bs) (stops s f) = ⊥
  Asks F tr k (b ∷ bs) (ends s) = ⊥

  unfoldable pub Leads : ℕ → Ahead
  Leads zero s tr k [] = Unit {0}
  Leads zero s tr k (b ∷ bs) = ⊥
  Leads (suc n) s tr k bs = Asks (Leads n) tr k bs (M.next s).move

  pub leads-nil : (n : ℕ) (s : M.State) (tr : List Entry) (k : ℕ) → Leads n s tr k []
  unfolding Leads
  leads-nil zero s tr k = tt
  leads-nil (suc n) s tr k = tt

  -- Marks

  abbrev pub Keeps : Ahead → Type 0
  Keeps F = (s : M.State) (tr : List Entry) (k : ℕ) (bs cs : List Branch) → AllMarking bs cs → F s tr k bs → F s tr k cs

  onward-marking : (F : Ahead) → Keeps F → (tr : List Entry) (k : ℕ) (bs cs : List Branch) (e : Move M.State) →
      AllMarking bs cs → Onward F tr k bs e → Onward F tr k cs e
  onward-marking F keeps tr k [] [] e p o = tt
  onward-marking F keeps tr k [] (c ∷ cs) e p o = absurd p
  onward-marking F keeps tr k (b ∷ bs) [] e p o = absurd p
  onward-marking F keeps tr k (b ∷ bs) (c ∷ cs) (moves s es) p o = (o.0, keeps s (tr ++ es) k (b ∷ bs) (c ∷ cs) p o.1)
  onward-marking F keeps tr k (b ∷ bs) (c ∷ cs) (asks s es x q) p o = o
  onward-marking F keeps tr k (b ∷ bs) (c ∷ cs) (stops s f) p o = o
  onward-marking F keeps tr k (b ∷ bs) (c ∷ cs) (ends s) p o = o

  replies-marking : (F : Ahead) → Keeps F → (s : M.State) (tr : List Entry) (k : ℕ) (bs cs : List Branch) (r : Reply) →
      AllMarking bs cs → Replies F s tr k bs r → Replies F s tr k cs r
  replies-marking F keeps s tr k bs cs (says a) p o = onward-marking F keeps tr (k + 1) bs cs (M.answered s a) p o
  replies-marking F keeps s tr k bs cs unexpected p o = o

  pub asks-marking : (F : Ahead) → Keeps F → (tr : List Entry) (k : ℕ) (bs cs : List Branch) (e : Move M.State) →
      AllMarking bs cs → Asks F tr k bs e → Asks F tr k cs e
  asks-marking F keeps tr k [] [] e p o = tt
  asks-marking F keeps tr k [] (c ∷ cs) e p o = absurd p
  asks-marking F keeps tr k (b ∷ bs) [] e p o = absurd p
  asks-marking F keeps tr k (b ∷ bs) (c ∷ cs) (moves s es) p o = (o.0, keeps s (tr ++ es) k (b ∷ bs) (c ∷ cs) p o.1)
  asks-marking F keeps tr k (b ∷ bs) (c ∷ cs) (asks s es x q) p o =
      (o.0, agrees-marking x q p.0 o.1, rw (marking-reply k q p.0) (replies-marking F keeps s (tr ++ es) k bs cs (reply k b q) p.1 o.2))
  asks-marking F keeps tr k (b ∷ bs) (c ∷ cs) (stops s f) p o = o
  asks-marking F keeps tr k (b ∷ bs) (c ∷ cs) (ends s) p o = o

  pub leads-marking : (n : ℕ) → Keeps (Leads n)
  unfolding Leads
  leads-marking zero s tr k [] [] p o = tt
  leads-marking zero s tr k [] (c ∷ cs) p o = absurd p
  leads-marking zero s tr k (b ∷ bs) cs p o = absurd o
  leads-marking (suc n) s tr k bs cs p o = asks-marking (Leads n) (leads-marking n) tr k bs cs (M.next s).move p o

  -- Every record

  onward-sound : (F : Ahead) → ((s : M.State) (tr : List Entry) (k : ℕ) (bs : List Branch) → F s tr k bs → Every Sound bs) →
      (tr : List Entry) (k : ℕ) (bs : List Branch) (e : Move M.State) → Onward F tr k bs e → Every Sound bs
  onward-sound F f tr k [] e o = tt
  onward-sound F f tr k (b ∷ bs) (moves s es) o = f s (tr ++ es) k (b ∷ bs) o.1
  onward-sound F f tr k (b ∷ bs) (asks s es x q) o = absurd o
  onward-sound F f tr k (b ∷ bs) (stops s g) o = absurd o
  onward-sound F f tr k (b ∷ bs) (ends s) o = absurd o

  replies-sound : (F : Ahead) → ((s : M.State) (tr : List Entry) (k : ℕ) (bs : List Branch) → F s tr k bs → Every Sound bs) →
      (s : M.State) (tr : List Entry) (k : ℕ) (bs : List Branch) (r : Reply) → Replies F s tr k bs r → Every Sound bs
  replies-sound F f s tr k bs (says a) o = onward-sound F f tr (k + 1) bs (M.answered s a) o
  replies-sound F f s tr k bs unexpected o = absurd o

  asks-sound : (F : Ahead) → ((s : M.State) (tr : List Entry) (k : ℕ) (bs : List Branch) → F s tr k bs → Every Sound bs) →
      (tr : List Entry) (k : ℕ) (bs : List Branch) (e : Move M.State) → Asks F tr k bs e → Every Sound bs
  asks-sound F f tr k [] e o = tt
  asks-sound F f tr k (b ∷ bs) (moves s es) o = f s (tr ++ es) k (b ∷ bs) o.1
  asks-sound F f tr k (b ∷ bs) (asks s es x q) o =
      (agrees-sound x b q o.1, replies-sound F f s (tr ++ es) k bs (reply k b q) o.2)
  asks-sound F f tr k (b ∷ bs) (stops s g) o = absurd o
  asks-sound F f tr k (b ∷ bs) (ends s) o = absurd o

  pub leads-sound : (n : ℕ) (s : M.State) (tr : List Entry) (k : ℕ) (bs : List Branch) → Leads n s tr k bs → Every Sound bs
  unfolding Leads
  leads-sound zero s tr k [] o = tt
  leads-sound zero s tr k (b ∷ bs) o = absurd o
  leads-sound (suc n) s tr k bs o = asks-sound (Leads n) (leads-sound n) tr k bs (M.next s).move o

  -- The next path

  abbrev pub Steps : Ahead → Type 0
  Steps F = (s : M.State) (tr : List Entry) (k : ℕ) (bs : List Branch) → F s tr k bs → F s tr k (stepped bs)

  pub onward-moves : (F : Ahead) (tr : List Entry) (k : ℕ) (bs : List Branch) (s : M.State) (es : List Entry) →
      room tr es ≡ true → F s (tr ++ es) k bs → Onward F tr k bs (moves s es)
  onward-moves F tr k [] s es r f = tt
  onward-moves F tr k (b ∷ bs) s es r f = (r, f)

  pub asks-moves : (F : Ahead) (tr : List Entry) (k : ℕ) (bs : List Branch) (s : M.State) (es : List Entry) →
      room tr es ≡ true → F s (tr ++ es) k bs → Asks F tr k bs (moves s es)
  asks-moves F tr k [] s es r f = tt
  asks-moves F tr k (b ∷ bs) s es r f = (r, f)

  onward-stepped : (F : Ahead) → Steps F → (tr : List Entry) (k : ℕ) (bs : List Branch) (e : Move M.State) →
      Onward F tr k bs e → Onward F tr k (stepped bs) e
  unfolding stepped
  onward-stepped F steps tr k [] e o = tt
  onward-stepped F steps tr k (b ∷ bs) (moves s es) o =
      onward-moves F tr k (stepped (b ∷ bs)) s es o.0 (steps s (tr ++ es) k (b ∷ bs) o.1)
  onward-stepped F steps tr k (b ∷ bs) (asks s es x q) o = absurd o
  onward-stepped F steps tr k (b ∷ bs) (stops s f) o = absurd o
  onward-stepped F steps tr k (b ∷ bs) (ends s) o = absurd o

  replies-stepped : (F : Ahead) → Steps F → (s : M.State) (tr : List Entry) (k : ℕ) (bs : List Branch) (r : Reply) →
      Replies F s tr k bs r → Replies F s tr k (stepped bs) r
  replies-stepped F steps s tr k bs (says a) o = onward-stepped F steps tr (k + 1) bs (M.answered s a) o
  replies-stepped F steps s tr k bs unexpected o = o

  replies-answers : (F : Ahead) (s : M.State) (tr : List Entry) (k : ℕ) (bs : List Branch) (r : Reply) → Replies F s tr k bs r → Answers r
  replies-answers F s tr k bs (says a) o = tt
  replies-answers F s tr k bs unexpected o = o

  answers-last : (F : Ahead) (s : M.State) (tr : List Entry) (k : ℕ) (r : Reply) → Answers r → Replies F s tr k [] r
  answers-last F s tr k (says a) o = tt
  answers-last F s tr k unexpected o = o

  -- a record that is asked, with what the next path has after it
  asked-turned : (F : Ahead) (tr : List Entry) (k : ℕ) (b : Branch) (cs : List Branch) (s : M.State) (es : List Entry) (x : Bool) (q : Question) →
      room tr es ≡ true → Agrees x b q → Answers (reply k b q) → Replies F s (tr ++ es) k cs (reply k b q) →
      Asks F tr k (or_turned cs b) (asks s es x q)
  asked-turned F tr k b [] s es x q r a h o = go (ltb 0 (open_at b)) refl
    where
      go : (y : Bool) → ltb 0 (open_at b) ≡ y → Asks F tr k (cond y (turned_branch b ∷ []) []) (asks s es x q)
      go true e =
          let i : 0 < open_at b = ltb-true 0 (open_at b) e in
          (r, agrees-turned x b q i a, answers-last F s (tr ++ es) k (reply k (turned_branch b) q) (reply-turned k b q i h))
      go false e = tt
  asked-turned F tr k b (c ∷ cs) s es x q r a h o = (r, a, o)

  asks-stepped : (F : Ahead) → Steps F → (tr : List Entry) (k : ℕ) (bs : List Branch) (e : Move M.State) →
      Asks F tr k bs e → Asks F tr k (stepped bs) e
  unfolding stepped
  asks-stepped F steps tr k [] e o = tt
  asks-stepped F steps tr k (b ∷ bs) (moves s es) o =
      asks-moves F tr k (stepped (b ∷ bs)) s es o.0 (steps s (tr ++ es) k (b ∷ bs) o.1)
  asks-stepped F steps tr k (b ∷ bs) (asks s es x q) o =
      asked-turned F tr k b (stepped bs) s es x q o.0 o.1
      (replies-answers F s (tr ++ es) k bs (reply k b q) o.2)
      (replies-stepped F steps s (tr ++ es) k bs (reply k b q) o.2)
  asks-stepped F steps tr k (b ∷ bs) (stops s f) o = absurd o
  asks-stepped F steps tr k (b ∷ bs) (ends s) o = absurd o

  pub leads-stepped : (n : ℕ) → Steps (Leads n)
  unfolding Leads stepped
  leads-stepped zero s tr k [] o = tt
  leads-stepped zero s tr k (b ∷ bs) o = absurd o
  leads-stepped (suc n) s tr k bs o = asks-stepped (Leads n) (leads-stepped n) tr k bs (M.next s).move o
