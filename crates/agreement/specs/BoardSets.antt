-- The boards that a set in memory holds.
use Rattle.std.specs.Prelude.{ℕ, Bool, false, slice_index_or}
use Rattle.agreement.specs.declared.board_set.BoardSet.{BoardSet}

-- board c is in the set where place c holds true (no `Model` of the set: a function is none)
abbrev pub boards_of : BoardSet → ℕ → Bool
boards_of s = λ c. slice_index_or s.on c false
