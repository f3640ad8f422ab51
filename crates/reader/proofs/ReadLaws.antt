-- A text read into two buffers. Assumes nothing.
--     no_table, no-condition      a buffer is too short
--     read-refused, read_taken    a text that is read
use Prim.Native.Nat.{ℕ, ◌≤◌, ◌<◌}
use mathlib.Core.List.{List, []}
use mathlib.Core.Bool.{Bool, true, false, ◌&&◌}
use mathlib.Core.Path.{◌≡◌, refl, ap, sym, ◌∙◌, subst}
use native.Mathlib.Omega.{arith}
use borrow.Author.Tests.{le-leb, lt-leb}
use lib.Dec.{leb}
use lib.ListN.{length, drop}
use Rattle.rules.specs.Condition.{condition_bytes}
use Rattle.rules.specs.Text as rules
use Rattle.rules.specs.Text.{TextRead, refused_at, accepted, read_text, read_into, filled, table_bytes, ReadInto}
use Rattle.ahead.specs.Counts.{PlacedAt}
use Rattle.ahead.specs.declared.Place.{Place}
use Rattle.filling.specs.Tables.{Blank}
use Rattle.trace.specs.Entries.{Zeros}
use Rattle.reader.specs.Lines.{TextAnswers, TextAnswered, Took, with_buffers}
use Rattle.std.proofs.Common.{Result, Ok, Err}
use Rattle.reader.specs.declared.Taken.{Taken}
use Rattle.reader.specs.declared.Untaken.TheVariants.{NoRoom, Refused}
use Rattle.reader.proofs.WholeLaws.{blank-filled}

pub cleared-blank : (least : ℕ) (entry exit : List ℕ) → Zeros entry exit → least ≤ length entry → Blank least exit
cleared-blank least entry exit c h = record { is = c.is; room = omega (arith, c.long) }

cleared-filled : (n : ℕ) (entry exit : List ℕ) → Zeros entry exit → length entry ≡ n → exit ≡ filled n []
cleared-filled n entry exit c e = blank-filled 0 exit (cleared-blank 0 entry exit c (omega arith)) ∙ ap (λ (k : ℕ). filled k []) (c.long ∙ e)

module _ (text table condition : List ℕ) where
  abbrev text_by : TextRead → ReadInto
  text_by r =
      elim r [
        | refused_at rest ↦ record {
          answer = rules.refused (rules.place_of text rest).line (rules.place_of text rest).column;
          table = filled (length table) [];
          condition = filled (length condition) [];
        }
        | accepted t c ↦ record { answer = rules.taken (length t) (length c); table = filled (length table) t; condition = filled (length condition) c }
      ]

  abbrev room_by : Bool → ReadInto
  room_by t = elim t [ false ↦ record { answer = rules.no_room; table = table; condition = condition } | true ↦ text_by (read_text text) ]

  read_next : read_into text table condition ≡ room_by (leb table_bytes (length table) && leb condition_bytes (length condition))
  unfolding read_into
  read_next = refl

  read_by : (s t : Bool) → leb table_bytes (length table) ≡ s → leb condition_bytes (length condition) ≡ t → room_by (s && t) ≡ read_into text table condition
  read_by s t e f = sym (read_next ∙ ap (λ (b : Bool). room_by (b && leb condition_bytes (length condition))) e ∙ ap (λ (b : Bool). room_by (s && b)) f)

  pub no_table : length table < table_bytes → with_buffers (Err NoRoom) table condition ≡ read_into text table condition
  no_table h = read_by false _ (lt-leb table_bytes (length table) h) refl

  module _ (h : table_bytes ≤ length table) where
    pub no-condition : length condition < condition_bytes → with_buffers (Err NoRoom) table condition ≡ read_into text table condition
    no-condition l = read_by true false (le-leb table_bytes (length table) h) (lt-leb condition_bytes (length condition) l)

    module _ (l : condition_bytes ≤ length condition) where
      room : text_by (read_text text) ≡ read_into text table condition
      room = read_by true true (le-leb table_bytes (length table) h) (le-leb condition_bytes (length condition) l)

      -- what was said of the text, by its answer
      pub said-refused : (t c : List ℕ) (r : Result Taken ℕ) (at : ℕ) → TextAnswers text t c r (read_text text) → r ≡ Err at → read_text text ≡ refused_at (drop at text)
      said-refused t c r at a e = subst (λ (x : Result Taken ℕ). TextAnswered text t c x (read_text text)) e a.is

      pub read-refused : (at : ℕ) (p : Place) → PlacedAt text (drop at text) p → read_text text ≡ refused_at (drop at text)
          → (before after was is : List ℕ) → Zeros before after → Zeros was is → length before ≡ length table → length was ≡ length condition
          → with_buffers (Err (Refused p.line p.column)) after is ≡ read_into text table condition
      read-refused at p placed e before after was is t c n k =
          ap (λ (x : rules.Place). with_buffers (Err (Refused x.line x.column)) after is) placed
          ∙ ap (λ (x : List ℕ). with_buffers (Err (Refused (rules.place_of text (drop at text)).line (rules.place_of text (drop at text)).column)) x is) (cleared-filled (length table) before after t n)
          ∙ ap (λ (x : List ℕ). with_buffers (Err (Refused (rules.place_of text (drop at text)).line (rules.place_of text (drop at text)).column)) (filled (length table) []) x) (cleared-filled (length condition) was is c k)
          ∙ ap text_by (sym e)
          ∙ room

      pub read_taken : (t c : List ℕ) (r : Result Taken ℕ) (k : Taken) → TextAnswers text t c r (read_text text) → r ≡ Ok k
          → length t ≡ length table → length c ≡ length condition → with_buffers (Ok k) t c ≡ read_into text table condition
      read_taken t c r k a e n m =
          let took : Took t c k.table k.condition (read_text text) = subst (λ (x : Result Taken ℕ). TextAnswered text t c x (read_text text)) e a.is in
          let taken : ℕ → ℕ → List ℕ → List ℕ → ReadInto = λ x y. with_buffers (Ok (record { table = x; condition = y })) in
          ap (λ (x : ℕ). taken x k.condition t c) took.table_long
          ∙ ap (λ (x : ℕ). taken (length took.table_is) x t c) took.condition_long
          ∙ ap (λ (x : List ℕ). taken (length took.table_is) (length took.condition_is) x c) (took.table_left ∙ ap (λ (j : ℕ). filled j took.table_is) n)
          ∙ ap (λ (x : List ℕ). taken (length took.table_is) (length took.condition_is) (filled (length table) took.table_is) x) (took.condition_left ∙ ap (λ (j : ℕ). filled j took.condition_is) m)
          ∙ ap text_by (sym took.says)
          ∙ room
