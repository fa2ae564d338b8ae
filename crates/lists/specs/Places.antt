-- Where an element stands in a list, and lists with one element taken out of a place. Assumes nothing.
use Rattle.std.specs.Prelude.{◌≡◌, ℕ, ◌<◌, ◌≤◌, Bool, true, false, List, length, Some, None, Option}
use Rattle.std.specs.List.{insert, remove, position_or_len}
use Rattle.lists.specs.Membership.{member, Distinct}

-- the place where x first stands in a list, counted from 0; the list's length where it does not
abbrev pub place : {A : Type 0} → (A → A → Bool) → A → List A → ℕ
place same x xs = position_or_len (same x) xs

-- a place, if there is one, is in a list of n elements
abbrev pub PlaceIn : Option ℕ → ℕ → Type 0
PlaceIn (Some at) n = at < n
PlaceIn None n = Unit {0}

-- taking the element at a place out: it stood there before the rest moved up, and only past the end there is none
abbrev pub Taken : {T : Type 0} → Option T → ℕ → List T → List T → Type 0
Taken (Some x) at was left = (at < length was) × (insert left at x ≡ was) × (left ≡ remove was at)
Taken None at was left = (length was ≤ at) × (left ≡ was)

-- An element that is in a list stands at its place: taken out there, it is not in the list any more if none stood twice, none
-- stands twice then, and put back at that place it gives the list as it was.
pub record PlaceLaws {A : Type 0} (same : A → A → Bool) : Type 0 where
  pub within : (x : A) (a : List A) → member same x a ≡ true → place same x a < length a
  pub back : (x : A) (a : List A) → member same x a ≡ true → insert (remove a (place same x a)) (place same x a) x ≡ a
  pub gone : (x : A) (a : List A) → Distinct same a → member same x a ≡ true → member same x (remove a (place same x a)) ≡ false
  pub removed_distinct : (k : ℕ) (a : List A) → Distinct same a → Distinct same (remove a k)
  pub inserted_distinct : (x : A) (k : ℕ) (a : List A) → Distinct same a → member same x a ≡ false → Distinct same (insert a k x)
