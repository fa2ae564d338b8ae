-- The readings table that the lines of an input leave. Assumes nothing.
use Rattle.std.specs.Prelude.{ℕ, List, []}
use Rattle.intake.specs.Inputs.{lines_in}
use Rattle.intake.specs.Tallies.{in_turn}
use Rattle.tables.specs.Readings.{readings}
use Rattle.tables.specs.declared.row.Row.{Row}

-- the rows that an input leaves, from an empty table: what each line that is read asks for is done, in order
abbrev pub rows_of : List ℕ → List Row
rows_of text = in_turn (λ rows request. (readings.doing rows request).after) [] (lines_in text)
