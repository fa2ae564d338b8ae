-- How many lines of an input are read, and what their requests leave, one after another.
use Rattle.std.specs.Prelude.{ℕ, Bool, not, List, [], ◌∷◌, Ok, Err, Result, is_ok, count_by}
use Rattle.lines.specs.Reading.{read_of}
use Rattle.lines.specs.declared.fault.LineFault.{LineFault}
use Rattle.service.specs.declared.request.Request.{Request}
use Rattle.intake.specs.Inputs.{lines_in}
use Rattle.intake.specs.declared.tally.Tally.{Tally}

-- whether a line is read
abbrev pub is_read : List ℕ → Bool
is_read line = is_ok (read_of line)

-- how many lines of an input are read, and how many are not
abbrev pub tally_of : List ℕ → Tally
tally_of text = record { read = count_by is_read (lines_in text); faulty = count_by (λ line. not (is_read line)) (lines_in text) }

module _ {State : Type 0} (after : State → Request → State) where
  -- what a line leaves, as it was read: its request does what it does, and a line that is not read does nothing
  abbrev pub asked : State → Result Request LineFault → State
  asked s (Ok request) = after s request
  asked s (Err fault) = s

  -- what lines leave, one after another
  abbrev pub in_turn : State → List (List ℕ) → State
  in_turn s [] = s
  in_turn s (line ∷ more) = in_turn (asked s (read_of line)) more
