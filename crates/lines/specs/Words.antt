-- The operations' words, and what stands in the fields behind each word.
use Rattle.std.specs.Prelude.{ℕ, cond, List, [], ◌∷◌, Some, None, codes, Option}
use Rattle.std.specs.Str.{bytes_eq}
use Rattle.service.specs.declared.request.Operation.{Operation}
use Rattle.service.specs.declared.request.Operation.TheVariants.{Put, Drop, Count, Push, Pop}
use Rattle.lines.specs.declared.kind.Kind.{Kind}
use Rattle.lines.specs.declared.kind.Kind.TheVariants.{Channel, Value}

-- the word that asks for an operation
abbrev pub word : Operation → List ℕ
word Put = codes "put"
word Drop = codes "drop"
word Count = codes "count"
word Push = codes "push"
word Pop = codes "pop"

-- the fields behind an operation's word
abbrev pub kinds : Operation → List Kind
kinds Put = Channel ∷ Value ∷ []
kinds Drop = Channel ∷ Value ∷ []
kinds Count = Value ∷ Value ∷ []
kinds Push = Value ∷ []
kinds Pop = []

-- the operation that a word asks for, or none
abbrev pub operation_of_word : List ℕ → Option Operation
operation_of_word text =
    cond (bytes_eq text (word Put)) (Some Put)
    (cond (bytes_eq text (word Drop)) (Some Drop)
    (cond (bytes_eq text (word Count)) (Some Count)
    (cond (bytes_eq text (word Push)) (Some Push)
    (cond (bytes_eq text (word Pop)) (Some Pop) None))))
