-- The fields of a line, each with its place.
use Rattle.std.specs.Prelude.{◌≡◌, ℕ, List, Option}
use Rattle.std.specs.Option.{option_map}
use Rattle.std.specs.List.{AllByRecursion, join_with_byte, slice_get}
use Rattle.lines.specs.declared.part.Field.{Field}
use Rattle.lines.specs.Parts.{parts, start, Absent}

-- a semicolon
abbrev pub semicolon : ℕ
semicolon = 59

-- the texts of a line's fields
abbrev pub fields : List ℕ → List (List ℕ)
fields line = parts semicolon line

-- texts with a semicolon between each two
abbrev pub joined : List (List ℕ) → List ℕ
joined texts = join_with_byte semicolon texts

-- the fields of a line hold no semicolon, and joined they are the line
pub record Parted (line : List ℕ) (texts : List (List ℕ)) : Type 0 where
  pub whole : joined texts ≡ line
  pub apart : AllByRecursion (Absent semicolon) texts

-- what a field tells: its number, where it begins in the line, and its text
pub record Place : Type 0 where
  pub number : ℕ
  pub begins : ℕ
  pub text : List ℕ

-- what a field of the code tells
abbrev pub shown : Field → Place
shown f = record { number = f.number; begins = f.start; text = f.bytes.now }

-- the field of a line with a number, or none where the line has fewer fields
abbrev pub field_of : List ℕ → ℕ → Option Place
field_of line n = option_map (λ t. record { number = n; begins = start (fields line) n; text = t }) (slice_get (fields line) n)
