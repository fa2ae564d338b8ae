-- Which elements a list has, whether any stands twice, and whether two lists share one. Assumes nothing.
use Rattle.std.specs.Prelude.{◌≡◌, Bool, true, false, not, ◌&&◌, List, [], ◌∷◌}
use Rattle.std.specs.List.{list_any}

module _ {A : Type 0} (same : A → A → Bool) where
  -- whether x stands in a list
  abbrev pub member : A → List A → Bool
  member x xs = list_any (same x) xs

  -- no element stands twice
  abbrev pub Distinct : List A → Type 0
  Distinct [] = Unit {0}
  Distinct (x ∷ xs) = (member x xs ≡ false) × Distinct xs

  -- the same as a test, for the invariants of records
  abbrev pub distinct : List A → Bool
  distinct [] = true
  distinct (x ∷ xs) = not (member x xs) && distinct xs

  -- no element of the first list is in the second
  abbrev pub Apart : List A → List A → Type 0
  Apart [] ys = Unit {0}
  Apart (x ∷ xs) ys = (member x ys ≡ false) × Apart xs ys
