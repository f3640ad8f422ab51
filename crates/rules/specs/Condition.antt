-- The final condition: what is claimed of the threads' registers when all threads have ended. Document 02, §3; the bytes are those
-- of docs/GRAMMAR.md. A condition is the list of its bytes. Assumes nothing.
--     compared            a comparison's sign
--     condition_at         a condition at the beginning of these bytes: whether it holds, and what follows it
--     is_condition, holds  whether all bytes are one condition, or none; and whether it holds
use Rattle.std.specs.Prelude.{ℕ, zero, suc, List, [], ◌∷◌, Bool, true, false, cond, not, ◌&&◌, ◌||◌, ltb, leb, eqb, length, get_or, drop}
use Rattle.rules.specs.Table.{u64_at, is_register}

-- Bytes

-- the signs of comparisons: =, !=, <, <=, >, >= on unsigned numbers
abbrev pub equals : ℕ
equals = 1

abbrev pub differs : ℕ
differs = 2

abbrev pub below : ℕ
below = 3

abbrev pub at_most : ℕ
at_most = 4

abbrev pub above : ℕ
above = 5

abbrev pub at_least : ℕ
at_least = 6

-- "a bracketed group of conditions joined by "and" or "or""
abbrev pub opens : ℕ
opens = 7

abbrev pub closes : ℕ
closes = 8

abbrev pub both : ℕ
both = 9

abbrev pub either : ℕ
either = 10

-- a comparison's bytes: its sign, the thread, the register, the number's eight, the lowest first
abbrev pub comparison_bytes : ℕ
comparison_bytes = 11

-- the longest condition
abbrev pub condition_bytes : ℕ
condition_bytes = 1024

-- "at most eight deep"
abbrev pub groups_deep : ℕ
groups_deep = 8

abbrev pub is_sign : ℕ → Bool
is_sign b = leb equals b && leb b at_least

abbrev pub is_joint : ℕ → Bool
is_joint b = eqb b both || eqb b either

-- Meaning

unfoldable pub compared : ℕ → ℕ → ℕ → Bool
compared sign x n =
    cond (eqb sign equals) (eqb x n)
    (cond (eqb sign differs) (not (eqb x n))
    (cond (eqb sign below) (ltb x n)
    (cond (eqb sign at_most) (leb x n)
    (cond (eqb sign above) (ltb n x)
    (leb n x)))))

-- two conditions that stand side by side
abbrev pub joined_by : ℕ → Bool → Bool → Bool
joined_by joint v w = cond (eqb joint both) (v && w) (v || w)

-- Reading

-- a condition that was read, with what follows it; or the bytes from the first on that cannot stand where they do
pub data Read : Type 0 where
  bad : List ℕ → Read
  read : Bool → List ℕ → Read

-- the byte that comes next, 0 at the end: that is none of a condition's
abbrev pub next_byte : List ℕ → ℕ
next_byte bs = get_or bs 0 0

-- a group has one kind of joint: 0 as long as it has none
abbrev pub may_join : ℕ → ℕ → Bool
may_join joint b = is_joint b && (eqb joint 0 || eqb joint b)

-- behind a group's member: the group ends, or is joined with one member more. At most n more
unfoldable pub behind : (List ℕ → Read) → ℕ → ℕ → Bool → List ℕ → Read
behind member zero joint v bs = bad bs
behind member (suc n) joint v bs =
    elim (eqb (next_byte bs) closes) [
      | true ↦ read v (drop 1 bs)
      | false ↦
          elim (may_join joint (next_byte bs)) [
            | false ↦ bad bs
            | true ↦
                elim (member (drop 1 bs)) [
                  | bad rest ↦ bad rest
                  | read w rest ↦ behind member n (next_byte bs) (joined_by (next_byte bs) v w) rest
                ]
          ]
    ]

-- behind the opening bracket: each member takes a byte at least
abbrev pub group_at : (List ℕ → Read) → List ℕ → Read
group_at member bs = elim (member bs) [ bad rest ↦ bad rest | read v rest ↦ behind member (length bs) 0 v rest ]

-- in a program of so many threads, whose registers hold this
module _ (threads : ℕ) (register : ℕ → ℕ → ℕ) where
  -- "a comparison of a thread's register with a number"
  unfoldable pub comparison_at : List ℕ → Read
  comparison_at bs =
      cond (leb comparison_bytes (length bs) && is_sign (next_byte bs) && ltb (get_or bs 1 0) threads && is_register (get_or bs 2 0))
      (read (compared (next_byte bs) (register (get_or bs 1 0) (get_or bs 2 0)) (u64_at bs 3)) (drop comparison_bytes bs))
      (bad bs)

  -- "and a group may hold groups": groups in each other, at most as many as this
  unfoldable pub condition_at : ℕ → List ℕ → Read
  condition_at zero bs = comparison_at bs
  condition_at (suc deep) bs = cond (eqb (next_byte bs) opens) (group_at (condition_at deep) (drop 1 bs)) (comparison_at bs)

  -- no byte is none
  abbrev pub claim_at : List ℕ → Read
  claim_at [] = read true []
  claim_at (b ∷ bs) = condition_at groups_deep (b ∷ bs)

-- a condition, and nothing behind it
abbrev pub ends : Read → Bool
ends (bad rest) = false
ends (read v rest) = eqb (length rest) 0

abbrev pub holds_in : Read → Bool
holds_in (bad rest) = false
holds_in (read v rest) = v

-- neither are bytes that are no condition, or that name a thread or register that is none
unfoldable pub is_condition : ℕ → List ℕ → Bool
is_condition threads bs = leb (length bs) condition_bytes && ends (claim_at threads (λ t r. 0) bs)

unfoldable pub holds : ℕ → (ℕ → ℕ → ℕ) → List ℕ → Bool
holds threads register bs = holds_in (claim_at threads register bs)
