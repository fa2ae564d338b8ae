-- The lines of an input. Assumes nothing.
use Rattle.std.specs.Prelude.{◌≡◌, ℕ, ◌<◌, List, [], ◌∷◌, length, Some, None, Ok, Err, Option, Result}
use Rattle.std.specs.Global.{Vec}
use Rattle.std.specs.Borrow.{Bor}
use Rattle.intake.specs.declared.input.InputError.{InputError}
use Rattle.intake.specs.declared.input.InputError.TheVariants.{TooLong, Io}
use Rattle.lines.specs.Parts.{parts}

-- the parts of a text without an empty one at the very end
abbrev pub ended : List (List ℕ) → List (List ℕ)
ended [] = []
ended ([] ∷ []) = []
ended ((b ∷ bs) ∷ []) = (b ∷ bs) ∷ []
ended ([] ∷ q ∷ ps) = [] ∷ ended (q ∷ ps)
ended ((b ∷ bs) ∷ q ∷ ps) = (b ∷ bs) ∷ ended (q ∷ ps)

-- the lines of an input: its parts between line feeds; a line feed at the very end begins no further line
abbrev pub lines_in : List ℕ → List (List ℕ)
lines_in text = ended (parts 10 text)

-- the next line of a text, and the text behind it, which is shorter; none where the text is empty
abbrev pub Next : List ℕ → Option (Bor (List ℕ)) → List ℕ → Type 0
Next text None after = (text ≡ []) × (after ≡ text)
Next text (Some line) after = (lines_in text ≡ line.now ∷ lines_in after) × (length after < length text)

-- an input of which the bytes are known is taken whole, and refused as too long only where it is over the most
abbrev pub TakenWhole : ℕ → Result (Vec ℕ) InputError → List ℕ → Type 0
TakenWhole most (Ok text) bytes = text.items ≡ bytes
TakenWhole most (Err TooLong) bytes = most < length bytes
TakenWhole most (Err (Io e)) bytes = Unit {0}
