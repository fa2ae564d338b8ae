-- Which list begins another, and the longest list that begins two. Assumes nothing.
use Rattle.std.specs.Prelude.{◌≡◌, ◌≤◌, Bool, cond, List, [], ◌∷◌, ◌++◌, length}

-- the first list begins the second
abbrev pub Begins : {A : Type 0} → List A → List A → Type 0
Begins {A} xs ys = (zs : List A) × (xs ++ zs ≡ ys)

-- the longest list that begins both
abbrev pub common : {A : Type 0} → (A → A → Bool) → List A → List A → List A
common same [] ys = []
common same (x ∷ xs) [] = []
common same (x ∷ xs) (y ∷ ys) = cond (same x y) (x ∷ common same xs ys) []

-- `c` begins both lists, whatever begins both begins `c`, and so nothing longer begins both
pub record Longest {A : Type 0} (a b c : List A) : Type 0 where
  pub left : Begins c a
  pub right : Begins c b
  pub most : (d : List A) → Begins d a → Begins d b → Begins d c
  pub no_longer : (d : List A) → Begins d a → Begins d b → length d ≤ length c
