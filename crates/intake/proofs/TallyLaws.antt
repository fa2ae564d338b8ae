-- What is counted of the lines of an input, with those that are still to come.
use Rattle.std.proofs.Common.{◌≡◌, ℕ, ◌+◌, ◌≤◌, Bool, not, List, length, count_by}
use Rattle.intake.specs.Inputs.{lines_in}
use Rattle.intake.specs.Tallies.{is_read}

abbrev is_faulty : List ℕ → Bool
is_faulty line = not (is_read line)

-- the lines of a text up to its rest have been taken, so many of them read and so many not
pub record Taken (text rest : List ℕ) (read faulty : ℕ) : Type 0 where
  pub reads : read + count_by is_read (lines_in rest) ≡ count_by is_read (lines_in text)
  pub faults : faulty + count_by is_faulty (lines_in rest) ≡ count_by is_faulty (lines_in text)
  pub bytes : read + faulty + length rest ≤ length text
