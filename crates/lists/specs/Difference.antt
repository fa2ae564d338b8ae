-- What is left of one list without another. Assumes nothing.
use Rattle.std.specs.Prelude.{Bool, cond, List, [], ◌∷◌}
use Rattle.lists.specs.Membership.{member}

-- the elements of the first list that are not in the second, in order
abbrev pub without : {A : Type 0} → (A → A → Bool) → List A → List A → List A
without same [] b = []
without same (x ∷ xs) b = cond (member same x b) (without same xs b) (x ∷ without same xs b)
