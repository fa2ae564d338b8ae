-- What the reader answers at every line: the word first, then the number of fields, then the fields from the left.
use Rattle.std.specs.Prelude.{ℕ, ◌+◌, cond, List, [], ◌∷◌, length, ℤ, pos, Ok, Err, Option, Result, nat_lt, slice_index_or}
use Rattle.service.specs.declared.request.Operation.{Operation}
use Rattle.service.specs.declared.request.Request.{Request}
use Rattle.lines.specs.declared.fault.LineFault.{LineFault}
use Rattle.lines.specs.declared.fault.LineFault.TheVariants.{Word, Missing, Surplus, Number}
use Rattle.lines.specs.Fields.{Place, fields, field_of}
use Rattle.lines.specs.Numbers.{channel_of, value_of}
use Rattle.std.specs.List.{slice_get}
use Rattle.std.specs.Option.{ok_or, option_and_then}
use Rattle.std.specs.Result.{result_map_both}
use Rattle.lines.specs.declared.kind.Kind.{Kind}
use Rattle.lines.specs.declared.kind.Kind.TheVariants.{Channel as channel, Value as value}
use Rattle.lines.specs.Words.{kinds, operation_of_word}

-- go on with what was read, or keep the fault
abbrev pub then : {A B E : Type 0} → Result A E → (A → Result B E) → Result B E
then (Ok x) go = go x
then (Err e) go = Err e

-- the number that a field of a kind writes, its fault as a fault of the line
abbrev pub number_of : Kind → Place → Result ℤ LineFault
number_of channel p = result_map_both pos Number (channel_of p)
number_of value p = result_map_both (λ z. z) Number (value_of p)

-- the number in a line's field: one that is there is read, and one that is not is missing
abbrev pub number_at : Kind → List ℕ → ℕ → Result ℤ LineFault
number_at k line n = then (ok_or (field_of line n) (Missing n)) (number_of k)

-- the operation that the text of field 0 asks for; a word that no operation has is a fault
abbrev pub word_of : Option (List ℕ) → Result Operation LineFault
word_of o = ok_or (option_and_then operation_of_word o) Word

-- the operation, once the line has as many fields as it takes
abbrev pub counted : List ℕ → Operation → Result Operation LineFault
counted line op =
    cond (nat_lt (length (fields line)) (length (kinds op) + 1)) (Err (Missing (length (fields line))))
    (cond (nat_lt (length (kinds op) + 1) (length (fields line))) (Err (Surplus (length (kinds op) + 1))) (Ok op))

-- the numbers in a line's fields from field n on, each of its kind
abbrev pub numbers_of : List Kind → ℕ → List ℕ → Result (List ℤ) LineFault
numbers_of [] n line = Ok []
numbers_of (k ∷ ks) n line = then (number_at k line n) (λ z. then (numbers_of ks (n + 1) line) (λ zs. Ok (z ∷ zs)))

-- an operation with its numbers in the order of its fields, 0 for one that it does not use
abbrev pub request : Operation → List ℤ → Request
request op zs = record { operation = op; first = slice_index_or zs 0 (pos 0); second = slice_index_or zs 1 (pos 0) }

-- the request of a line whose operation is known
abbrev pub asked : List ℕ → Operation → Result Request LineFault
asked line op = then (numbers_of (kinds op) 1 line) (λ zs. Ok (request op zs))

-- the operation of a line that has as many fields as it takes
abbrev pub operation_in : List ℕ → Result Operation LineFault
operation_in line = then (word_of (slice_get (fields line) 0)) (counted line)

-- a line's request, or its first fault
abbrev pub read_of : List ℕ → Result Request LineFault
read_of line = then (operation_in line) (asked line)
