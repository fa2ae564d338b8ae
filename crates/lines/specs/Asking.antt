-- What a line asks for: an operation's word and the texts of its numbers, parted by semicolons. This is what a line
-- means; nothing here says how it is read.
use Rattle.std.specs.Prelude.{◌≡◌, ℕ, ◌+◌, List, [], ◌∷◌, ℤ, pos, Some, Ok, Err, Result}
use Rattle.service.specs.declared.request.Operation.{Operation}
use Rattle.service.specs.declared.request.Request.{Request}
use Rattle.lines.specs.declared.fault.LineFault.{LineFault}
use Rattle.lines.specs.declared.fault.LineFault.TheVariants.{Number}
use Rattle.lines.specs.declared.fault.NumberFault.TheVariants.{Form}
use Rattle.lines.specs.Fields.{fields, joined}
use Rattle.lines.specs.Forms.{Channel, Value, ChannelForm, ValueForm, Breaks}
use Rattle.std.specs.List.{slice_get}
use Rattle.lines.specs.Reading.{request}
use Rattle.lines.specs.declared.kind.Kind.{Kind}
use Rattle.lines.specs.declared.kind.Kind.TheVariants.{Channel as channel, Value as value}
use Rattle.lines.specs.Words.{kinds, word}

-- a text of a kind means a number
abbrev pub Means : Kind → List ℕ → ℤ → Type 0
Means channel bytes z = (n : ℕ) × Channel bytes n × (z ≡ pos n)
Means value bytes z = Value bytes z

-- a text of a kind has good form, whatever its number and its limit
abbrev pub Good : Kind → List ℕ → Type 0
Good channel bytes = ChannelForm bytes
Good value bytes = ValueForm bytes

-- as many texts as kinds, and each means its number
abbrev pub Numbers : List Kind → List (List ℕ) → List ℤ → Type 0
Numbers [] [] [] = Unit {0}
Numbers [] [] (z ∷ zs) = ⊥
Numbers [] (t ∷ ts) zs = ⊥
Numbers (k ∷ ks) [] zs = ⊥
Numbers (k ∷ ks) (t ∷ ts) [] = ⊥
Numbers (k ∷ ks) (t ∷ ts) (z ∷ zs) = Means k t z × Numbers ks ts zs

-- a line has the form of a request: its word, then a text for each of its numbers
pub record Asks (line : List ℕ) (q : Request) : Type 0 where
  pub texts : List (List ℕ)
  pub numbers : List ℤ
  pub written : line ≡ joined (word q.operation ∷ texts)
  pub meant : Numbers (kinds q.operation) texts numbers
  pub taken : q ≡ request q.operation numbers

-- a field of a line, of the kind that the line's operation has there, breaks its form at an offset
pub record Broken (line : List ℕ) (field at : ℕ) : Type 0 where
  pub operation : Operation
  pub number : ℕ
  pub kind : Kind
  pub bytes : List ℕ
  pub asked : slice_get (fields line) 0 ≡ Some (word operation)
  pub behind : field ≡ number + 1
  pub takes : slice_get (kinds operation) number ≡ Some kind
  pub there : slice_get (fields line) field ≡ Some bytes
  pub breaks : Breaks (Good kind) bytes at

-- a line is read as a request exactly when it has that request's form, and where the form of a field breaks, the
-- fault gives the length of the longest beginning of that field that begins some field of good form
pub record ReadExactly (line : List ℕ) (r : Result Request LineFault) : Type 0 where
  pub read : (q : Request) → r ≡ Ok q → Asks line q
  pub readable : (q : Request) → Asks line q → r ≡ Ok q
  pub offset : (field at : ℕ) → r ≡ Err (Number (Form field at)) → Broken line field at
