-- Decimal digits at the beginning of a text, and the number that they write.
use Rattle.std.specs.Prelude.{ℕ, ◌-◌, cond, ◌&&◌, List, map, length, take, Ok, Err, Result, ◌==◌, nat_lt}
use Rattle.std.specs.Char.{is_ascii_digit}
use Rattle.std.specs.Int.Digits.{number_from_digits}
use Rattle.std.specs.List.{prefix_len}

-- how many digits a text begins with, counted no further than a limit
abbrev pub leading : ℕ → List ℕ → ℕ
leading most text = prefix_len is_ascii_digit (take most text)

-- the number that digits write, the first counting most
abbrev pub worth : List ℕ → ℕ
worth text = number_from_digits 10 (map (λ b. b - 48) text)

-- the number that a text of 1 to `most` digits writes, or how far the text follows that form
abbrev pub numeral : ℕ → List ℕ → Result ℕ ℕ
numeral most text = cond (nat_lt 0 (leading most text) && leading most text == length text) (Ok (worth text)) (Err (leading most text))
