-- Lists put together so that each element stands where it first appears. Assumes nothing.
use Rattle.std.specs.Prelude.{Bool, List, [], ◌∷◌, ◌++◌}
use Rattle.lists.specs.Difference.{without}

module _ {A : Type 0} (same : A → A → Bool) where
  -- each element's first appearance
  abbrev pub firsts : List A → List A
  firsts [] = []
  firsts (x ∷ xs) = x ∷ without same (firsts xs) (x ∷ [])

  -- two lists joined, of which each element's first appearance is kept
  abbrev pub merge : List A → List A → List A
  merge a b = firsts (a ++ b)

  -- a list as it is, and behind it what another has that is new, each once
  abbrev pub merged_into : List A → List A → List A
  merged_into a b = a ++ without same (firsts b) a
