-- The verdict's words. Assumes nothing.
--     wants-refused, wants-check, wants-else     no row, a check, and any other row
--     refused-else, failed-else                  an answer that is none of the three
--     verdict-limit, verdict-refused, verdict-passed, verdict-race, verdict-check, verdict-finally, verdict-failed     by the answer's number
use Prim.Native.Nat.{ℕ}
use mathlib.Core.List.{List, [], ◌∷◌}
use mathlib.Core.Bool.{true, false}
use mathlib.Core.Path.{◌≡◌, refl}
use types.Run.{OneOf, miss}
use denote.Enum.Declared.{tag_of}
use borrow.Author.Tests.{ne_eqb}
use Rattle.rules.specs.Token.{bytes_of}
use Rattle.rules.specs.Table as rules
use Rattle.rules.specs.Explored.{Settings, Report, is_refusal}
use Rattle.page.specs.Pages.{Page, put_filled}
use Rattle.decode.proofs.NumberLaws.{all_but}
use Rattle.decode.specs.contracts.Op as Op
use Rattle.decode.specs.declared.Op.{Op}
use Rattle.decode.specs.declared.Op.TheVariants as code
use Rattle.std.specs.Prelude.{Option, Some, None}
use Rattle.decode.specs.Ops.{op_of, decoded_of}
use Rattle.refusal.specs.Refusals.{put_refusal}
use Rattle.race.specs.Races.{put_race}
use Rattle.limit.specs.Limits.{is_limit, put_limit}
use Rattle.finally.specs.Finals.{put_finally}
use Rattle.verdict.specs.Verdicts.{put_wants, put_check, put_failed, put_passed, put_refused, put_verdict}

-- the places among the variants of what is no check
abbrev others : List ℕ
others = all_but (12 ∷ [])

wants-none : (p : Page) (holds : ℕ → ℕ) (op : Op) → OneOf others (tag_of Op.the_type op) → p ≡ put_wants p holds (rules.decoded (op_of op))
unfolding put_wants
wants-none p holds (code.Load order c register) k = refl
wants-none p holds (code.Store order c value) k = refl
wants-none p holds (code.StoreRegister order c register) k = refl
wants-none p holds (code.Rmw order c register change failure) k = refl
wants-none p holds (code.Fence order) k = refl
wants-none p holds (code.UnsyncLoad c register) k = refl
wants-none p holds (code.WithMut c register change) k = refl
wants-none p holds code.Yield k = refl
wants-none p holds (code.Join thread) k = refl
wants-none p holds (code.Jump target) k = refl
wants-none p holds (code.JumpIf target register a) k = refl
wants-none p holds (code.JumpUnless target register a) k = refl
wants-none p holds (code.Check register a) k = absurd (miss others 12 tt k)
wants-none p holds code.Critical k = refl
wants-none p holds code.ExploreState k = refl
wants-none p holds code.SkipBranch k = refl
wants-none p holds (code.Spurious register) k = refl
wants-none p holds (code.PlainRead plain register) k = refl
wants-none p holds (code.PlainWrite plain value) k = refl

module _ (p : Page) (holds : ℕ → ℕ) (row : Option Op) {said : rules.Decoded rules.Op} (s : decoded_of row ≡ said) where
  pub wants-refused : row ≡ None → p ≡ put_wants p holds said
  unfolding put_wants
  wants-refused e = rw (← s, e)

  module _ (op : Op) (e : row ≡ Some op) where
    pub wants-else : OneOf others (tag_of Op.the_type op) → p ≡ put_wants p holds said
    wants-else k = rw (← s, e) (wants-none p holds op k)

    pub wants-check : (r a v : ℕ) → op ≡ code.Check r a → v ≡ holds r → {m : Page} → m ≡ put_filled p (bytes_of ": r# should be # and is #") r a v → m ≡ put_wants p holds said
    unfolding put_wants
    wants-check r a v q h f = rw (← s, e, q, ← h) f

pub failed-else : (p : Page) (number thread row : ℕ) → (number ≡ 10 → ⊥) → (number ≡ 13 → ⊥) → (number ≡ 16 → ⊥) →
    {m : Page} → m ≡ put_filled p (bytes_of "answer #: stopped by a mistake of the explorer itself, at thread #, row #: please report it\n") number thread row →
    m ≡ put_failed p number thread row
unfolding put_failed
failed-else p number thread row a b c h = rw (ne_eqb number 10 a, ne_eqb number 13 b, ne_eqb number 16 c) h

pub refused-else : (p : Page) (table condition : List ℕ) (number thread row : ℕ) → (number ≡ 2 → ⊥) → (number ≡ 3 → ⊥) → (number ≡ 4 → ⊥) →
    {m : Page} → m ≡ put_refusal p table condition thread row → m ≡ put_refused p table condition number thread row
unfolding put_refused
refused-else p table condition number thread row a b c h = rw (ne_eqb number 2 a, ne_eqb number 3 b, ne_eqb number 4 c) h

-- The verdict, by the answer's number n

module _ (p : Page) (table condition trace : List ℕ) (s : Settings) (r : Report) {n thread row : ℕ} (e : n ≡ r.answer) (threads : thread ≡ r.thread) (rows : row ≡ r.row) where
  pub verdict-limit : true ≡ is_limit n → {m : Page} → m ≡ put_limit p trace s n thread row → m ≡ put_verdict p table condition trace s r
  unfolding put_verdict
  verdict-limit l h = rw (← e, ← threads, ← rows, ← l) h

  module _ (l : false ≡ is_limit n) where
    pub verdict-refused : true ≡ is_refusal n → {m : Page} → m ≡ put_refused p table condition n thread row → m ≡ put_verdict p table condition trace s r
    unfolding put_verdict
    verdict-refused k h = rw (← e, ← threads, ← rows, ← l, ← k) h

    module _ (k : false ≡ is_refusal n) where
      pub verdict-passed : n ≡ 0 → {m : Page} → m ≡ put_passed p table condition s r.begun → m ≡ put_verdict p table condition trace s r
      unfolding put_verdict
      verdict-passed z h = rw (← e, z) h

      pub verdict-race : n ≡ 14 → {m : Page} → m ≡ put_race p table trace thread row r.kind r.other → m ≡ put_verdict p table condition trace s r
      unfolding put_verdict
      verdict-race z h = rw (← e, ← threads, ← rows, z) h

      pub verdict-check : n ≡ 15 → {m : Page} → m ≡ put_check p table trace thread row → m ≡ put_verdict p table condition trace s r
      unfolding put_verdict
      verdict-check z h = rw (← e, ← threads, ← rows, z) h

      pub verdict-finally : n ≡ 18 → {m : Page} → m ≡ put_finally p table condition trace → m ≡ put_verdict p table condition trace s r
      unfolding put_verdict
      verdict-finally z h = rw (← e, z) h

      pub verdict-failed : (n ≡ 0 → ⊥) → (n ≡ 14 → ⊥) → (n ≡ 15 → ⊥) → (n ≡ 18 → ⊥) →
          {m : Page} → m ≡ put_failed p n thread row → m ≡ put_verdict p table condition trace s r
      unfolding put_verdict
      verdict-failed a b c d h = rw (← e, ← threads, ← rows, ← l, ← k, ne_eqb n 0 a, ne_eqb n 14 b, ne_eqb n 15 c, ne_eqb n 18 d) h
