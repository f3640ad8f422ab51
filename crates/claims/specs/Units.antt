-- What the answers of this crate stand for in the definition. Assumes nothing.
--     most_claimed    the longest condition, and a comparison that broke off behind it
--     IsOwned        a register of a thread that there is
--     UnitStands     what stands at a place
--     symbol_at       a bracket, `and` or `or`
--     Claims         what was read of a condition
--     ended_at, with_unit     the same ended at a place, and with a unit more
--     Concludes      a text's condition, taken or refused
use Rattle.std.specs.Prelude.{ℕ, ◌+◌, ◌≤◌, ◌<◌, List, [], ◌∷◌, Bool, true, false, cond, not, ◌≡◌, length, take, drop, Option, Some, None, Result, Ok, Err}
use Rattle.std.proofs.Math.Seq.{paste}
use Rattle.rules.specs.Condition.{is_sign, condition_bytes, comparison_bytes}
use Rattle.rules.specs.Token.{nothing, found, only}
use Rattle.rules.specs.Text as rules
use Rattle.rules.specs.Text.{symbol_in, comparison_of}
use Rattle.token.specs.Places.{part}
use Rattle.token.specs.declared.Owned.{Owned}
use Rattle.claims.specs.declared.Unit.{Unit}
use Rattle.claims.specs.declared.Claim.{Claim}
use Rattle.claims.specs.declared.Conclusion.{Conclusion}

abbrev pub most_claimed : ℕ
most_claimed = condition_bytes + comparison_bytes

abbrev pub IsOwned : Owned → Type 0
IsOwned o = (o.thread < 5) × (o.register < 4)

-- where it is none it is nothing that a condition has
abbrev pub unit_of : List ℕ → Option Unit → rules.Unit
unit_of text None = rules.none
unit_of text (Some u) = cond u.whole (rules.unit (take u.size u.bytes) (drop u.at text)) (rules.broken (take u.size u.bytes) (drop u.at text))

pub record UnitStands (text : List ℕ) (unit : rules.Unit) (r : Option Unit) : Type 0 where
  pub is : unit_of text r ≡ unit
  pub within : (u : Unit) → r ≡ Some u → (u.size ≤ 11) × (length u.bytes ≡ 11)

-- of the token between two places
abbrev pub symbol_at : ℕ → ℕ → List ℕ → rules.Unit
symbol_at at to text =
    elim (only (λ (b : ℕ). not (is_sign b)) (symbol_in (part at to text))) [
      | nothing ↦ rules.none
      | found b ↦ rules.unit (b ∷ []) (drop to text)
    ]

abbrev pub broken_of : ℕ → ℕ → Unit
broken_of register at = record { whole = false; size = 11; bytes = comparison_of 1 register 0; at = at }

abbrev pub ended_at : Claim → Bool → ℕ → Claim
ended_at c whole at = record { whole = whole; length = c.length; bytes = c.bytes; at = at }

abbrev pub with_unit : Claim → Unit → Claim
with_unit c u = record { whole = false; length = c.length + u.size; bytes = paste c.bytes c.length u.bytes u.size; at = u.at }

abbrev pub claimed_of : (lines : ℕ) → List ℕ → Claim → rules.Claimed lines
claimed_of lines text c = rules.claimed_to lines (take c.length c.bytes) (drop c.at text) c.whole

pub record Claims (text : List ℕ) (lines : ℕ) (claimed : rules.Claimed lines) (c : Claim) : Type 0 where
  pub is : claimed_of lines text c ≡ claimed
  pub most : c.length ≤ most_claimed
  pub whole : c.whole ≡ true → c.length ≤ condition_bytes
  pub long : length c.bytes ≡ most_claimed

-- beside any table of so many threads
abbrev pub concluded_of : List ℕ → List ℕ → Result Conclusion ℕ → rules.TextRead
concluded_of table text (Ok c) = rules.accepted table (take c.length c.bytes)
concluded_of table text (Err at) = rules.refused_at (drop at text)

pub record Concludes (text : List ℕ) (at lines threads : ℕ) (r : Result Conclusion ℕ) : Type 0 where
  pub is : (m : rules.Draft) → m.threads ≡ threads → concluded_of (rules.table_of m) text r ≡ rules.concluded lines m (drop at text)
  pub within : (c : Conclusion) → r ≡ Ok c → (c.length ≤ condition_bytes) × (length c.bytes ≡ most_claimed)
