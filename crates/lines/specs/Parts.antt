-- A text cut at marks: a line at its semicolons, an input at its line feeds.
use Rattle.std.specs.Prelude.{◌≡◌, ℕ, zero, suc, ◌+◌, ◌<◌, List, [], ◌∷◌, ◌++◌, length, Some, None, Option, ◌==◌, ◌≢◌, slice_index, slice_index_or}
use Rattle.std.specs.Borrow.{Bor}
use Rattle.std.specs.List.{slice_split}
use Rattle.std.specs.Str.Iter.{LacksByte}

-- the parts of a text between its marks: at least one, and any of them may be empty
abbrev pub parts : ℕ → List ℕ → List (List ℕ)
parts mark text = slice_split (λ b. b == mark) text

-- the place in the text at which a part begins: behind each earlier part and its mark
abbrev pub start : List (List ℕ) → ℕ → ℕ
start ps zero = 0
start [] (suc n) = 0
start (p ∷ ps) (suc n) = length p + 1 + start ps n

-- the mark stands at this place and nowhere before it
pub record First (mark : ℕ) (text : List ℕ) (at : ℕ) : Type 0 where
  pub within : at < length text
  pub here : slice_index_or text at 0 ≡ mark
  pub before : (k : ℕ) → k < at → slice_index text k ≢ mark

-- the mark stands nowhere in the text
abbrev pub Absent : ℕ → List ℕ → Type 0
Absent mark text = LacksByte mark text

-- the first part, and the parts of what follows its mark, if there is one
abbrev pub beside : ℕ → List ℕ → Option (Bor (List ℕ)) → List (List ℕ)
beside mark p None = p ∷ []
beside mark p (Some rest) = p ∷ parts mark rest.now

-- the text that a first part and what follows its mark make up
abbrev pub rejoined : ℕ → List ℕ → Option (Bor (List ℕ)) → List ℕ
rejoined mark p None = p
rejoined mark p (Some rest) = p ++ (mark ∷ rest.now)
