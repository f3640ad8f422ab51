-- The grammar of final conditions as trees: document 02, §3. That the bytes of a tree are read as the tree, and that nothing else
-- is read, is proved (proofs/ConditionLaws). Assumes nothing.
--     Comparison, Joint, Group, Deep     a condition, in groups at most so deep
--     tree_bytes                            its bytes
--     claims                             what it says
--     Fine                               it names threads and registers that there are
--     Grammar                            what is proved
use Rattle.std.specs.Prelude.{ℕ, zero, suc, ◌≤◌, ◌<◌, List, [], ◌∷◌, ◌++◌, Bool, true, false, ◌&&◌, ◌||◌, ◌≡◌, ◌⊎◌, length}
use Rattle.rules.specs.Event.{little}
use Rattle.rules.specs.Change.{word}
use Rattle.rules.specs.Table.{registers}
use Rattle.rules.specs.Condition.{opens, closes, both, either, is_sign, compared, condition_bytes, groups_deep, read, condition_at, is_condition, holds}

-- Trees

-- "a comparison of a thread's register with a number"
pub record Comparison : Type 0 where
  pub sign : ℕ
  pub thread : ℕ
  pub register : ℕ
  pub number : ℕ

-- "joined by "and" or "or""
pub data Joint : Type 0 where
  all : Joint
  some : Joint

-- "a bracketed group of conditions": one, and others that are joined to it
pub record Group (M : Type 0) : Type 0 where
  pub joint : Joint
  pub first : M
  pub others : List M

-- "a comparison .., or a bracketed group"
pub data Member (M : Type 0) : Type 0 where
  comparison : Comparison → Member M
  group : Group M → Member M

-- "and a group may hold groups": at most so deep
abbrev pub Deep : ℕ → Type 0
Deep zero = Comparison
Deep (suc d) = Member (Deep d)

-- Bytes

abbrev pub leaf_bytes : Comparison → List ℕ
leaf_bytes c = c.sign ∷ c.thread ∷ c.register ∷ little 8 c.number

abbrev pub joint_of : Joint → ℕ
joint_of all = both
joint_of some = either

abbrev pub others_of : {M : Type 0} → (M → List ℕ) → Joint → List M → List ℕ
others_of f joint [] = closes ∷ []
others_of f joint (m ∷ more) = joint_of joint ∷ (f m ++ others_of f joint more)

abbrev pub group_of : {M : Type 0} → (M → List ℕ) → Group M → List ℕ
group_of f g = opens ∷ (f g.first ++ others_of f g.joint g.others)

unfoldable pub tree_bytes : (d : ℕ) → Deep d → List ℕ
tree_bytes zero c = leaf_bytes c
tree_bytes (suc d) (comparison c) = leaf_bytes c
tree_bytes (suc d) (group g) = group_of (tree_bytes d) g

-- What a condition says

-- all hold; one does
abbrev pub hold : {M : Type 0} → (M → Bool) → Joint → List M → Bool
hold f all [] = true
hold f all (m ∷ more) = f m && hold f all more
hold f some [] = false
hold f some (m ∷ more) = f m || hold f some more

abbrev pub comparison_holds : (ℕ → ℕ → ℕ) → Comparison → Bool
comparison_holds register c = compared c.sign (register c.thread c.register) c.number

unfoldable pub claims : (ℕ → ℕ → ℕ) → (d : ℕ) → Deep d → Bool
claims register zero c = comparison_holds register c
claims register (suc d) (comparison c) = comparison_holds register c
claims register (suc d) (group g) = hold (claims register d) g.joint (g.first ∷ g.others)

-- What it names

abbrev pub FineComparison : ℕ → Comparison → Type 0
FineComparison threads c =
    (is_sign c.sign ≡ true) × (c.thread < threads) × (c.register < registers) × (c.number < word)

abbrev pub FineAll : {M : Type 0} → (M → Type 0) → List M → Type 0
FineAll P [] = Unit {0}
FineAll P (m ∷ more) = P m × FineAll P more

abbrev pub Fine : ℕ → (d : ℕ) → Deep d → Type 0
Fine threads zero c = FineComparison threads c
Fine threads (suc d) (comparison c) = FineComparison threads c
Fine threads (suc d) (group g) = FineAll (Fine threads d) (g.first ∷ g.others)

-- What is proved

abbrev pub AllBytes : List ℕ → Type 0
AllBytes bs = FineAll (λ (b : ℕ). b < 256) bs

-- the bytes begin with a tree's, which says this
pub record BeginsTree (threads : ℕ) (register : ℕ → ℕ → ℕ) (d : ℕ) (bs : List ℕ) (v : Bool) (rest : List ℕ) : Type 0 where
  pub tree : Deep d
  pub fine : Fine threads d tree
  pub is : bs ≡ tree_bytes d tree ++ rest
  pub meant : v ≡ claims register d tree

-- a condition that is accepted: none, which always holds, or a tree
pub record Accepted (threads : ℕ) (bs : List ℕ) : Type 0 where
  pub tree : Deep groups_deep
  pub fine : Fine threads groups_deep tree
  pub is : bs ≡ tree_bytes groups_deep tree
  pub meant : (register : ℕ → ℕ → ℕ) → holds threads register bs ≡ claims register groups_deep tree

pub record Grammar : Type 0 where
  -- a tree's bytes are read as the tree, whatever follows
  pub reads : (threads : ℕ) (register : ℕ → ℕ → ℕ) (d : ℕ) (c : Deep d) → Fine threads d c → (rest : List ℕ) →
      condition_at threads register d (tree_bytes d c ++ rest) ≡ read (claims register d c) rest
  -- and what is read is a tree
  pub only : (threads : ℕ) (register : ℕ → ℕ → ℕ) (d : ℕ) (bs : List ℕ) → AllBytes bs → (v : Bool) (rest : List ℕ) →
      condition_at threads register d bs ≡ read v rest → BeginsTree threads register d bs v rest
  -- so a tree of at most so many bytes is a condition
  pub accepts : (threads : ℕ) (c : Deep groups_deep) → Fine threads groups_deep c → length (tree_bytes groups_deep c) ≤ condition_bytes →
      is_condition threads (tree_bytes groups_deep c) ≡ true
  -- and every condition is one, or none
  pub accepted : (threads : ℕ) (bs : List ℕ) → AllBytes bs → is_condition threads bs ≡ true → (bs ≡ []) ⊎ Accepted threads bs
