-- What always holds of the list operations. Assumes of the test `same` only that it tells elements apart.
use Rattle.std.specs.Prelude.{◌≡◌, ℕ, ◌<◌, ◌≤◌, Bool, not, ◌&&◌, ◌||◌, ◌⊎◌, List, [], ◌∷◌, ◌++◌, length, Decides, nat_eq}
use Rattle.std.specs.List.{All}
use Rattle.lists.specs.Beginnings.{Begins}
use Rattle.lists.specs.Membership.{member, Distinct, distinct, Apart}
use Rattle.lists.specs.Difference.{without}
use Rattle.lists.specs.Merging.{firsts, merge, merged_into}
use Rattle.lists.specs.Splits.{IsSplit, ProcedureSplits}

-- Membership: what is left of one list without another are the members of the one that are none of the other. A list that
-- holds nothing twice still does so then, and so does such a list with what another has beyond it.
pub record MembershipLaws {A : Type 0} (same : A → A → Bool) : Type 0 where
  pub left : (x : A) (a b : List A) → member same x (without same a b) ≡ (member same x a && not (member same x b))
  pub left_distinct : (a b : List A) → Distinct same a → Distinct same (without same a b)
  pub left_apart : (a b : List A) → Apart same b (without same a b)
  pub extended_distinct : (a b : List A) → Distinct same a → Distinct same b → Distinct same (a ++ without same b a)
  pub tested : (a : List A) → Decides (distinct same a) (Distinct same a)

-- Merging: the members are those of both lists, each once, also where one list is merged into another that holds nothing
-- twice. Lists merged in one after another give what the joined lists give.
pub record MergeLaws {A : Type 0} (same : A → A → Bool) : Type 0 where
  pub merged : (x : A) (a b : List A) → member same x (merge same a b) ≡ (member same x a || member same x b)
  pub merged_distinct : (a b : List A) → Distinct same (merge same a b)
  pub into : (x : A) (a b : List A) → member same x (merged_into same a b) ≡ (member same x a || member same x b)
  pub into_distinct : (a b : List A) → Distinct same a → Distinct same (merged_into same a b)
  pub into_nothing : (a : List A) → merged_into same [] a ≡ firsts same a
  pub in_turn : (a b c : List A) → merged_into same (merged_into same a b) c ≡ merged_into same a (b ++ c)
  pub in_two : (a b : List A) → merged_into same (firsts same a) b ≡ merge same a b

-- Beginnings: a partial order, in which two beginnings of one list are comparable.
pub record BeginsLaws (A : Type 0) : Type 0 where
  pub itself : (a : List A) → Begins a a
  pub transitive : (a b c : List A) → Begins a b → Begins b c → Begins a c
  pub one_way : (a b : List A) → Begins a b → Begins b a → a ≡ b
  pub comparable : (a b c : List A) → Begins a c → Begins b c → Begins a b ⊎ Begins b a

-- The split: two orders have at most one. The procedure finds it where the open order and the longest one begin one another
-- and neither order holds an element twice.
pub record SplitLaws {A : Type 0} (same : A → A → Bool) : Type 0 where
  pub unique : (o f g b n g' b' n' : List A) → IsSplit o f g b n → IsSplit o f g' b' n' → (g ≡ g') × (b ≡ b') × (n ≡ n')
  pub procedure : (o m u : List A) → Distinct same o → Distinct same (m ++ u) → Begins o m ⊎ Begins m o → ProcedureSplits same o m u

-- Names: distinct names below u are at most u.
abbrev pub FewNames : Type 0
FewNames = (u : ℕ) (a : List ℕ) → Distinct nat_eq a → All (λ m. m < u) a → length a ≤ u

-- The procedure does not find the split of (0, 1) against (0, 2, 1) where the longest order is (0, 2).
abbrev pub ProcedureDiffers : Type 0
ProcedureDiffers = ProcedureSplits nat_eq (0 ∷ 1 ∷ []) (0 ∷ 2 ∷ []) (1 ∷ []) → ⊥
