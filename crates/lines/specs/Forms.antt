-- The form of a number in a line and what it means, in positional notation. Nothing here says how it is read.
use Rattle.std.specs.Prelude.{◌≡◌, ℕ, ◌+◌, ◌-◌, ◌*◌, ◌^◌, ◌≤◌, ◌⊎◌, List, ◌∷◌, ◌++◌, map, length, take, ℤ, pos, neg_ℤ, Ok, Err, Result}
use Rattle.std.specs.Int.Digits.{number_from_digits, AllBelowBase}
use Rattle.lines.specs.declared.fault.NumberFault.{NumberFault}
use Rattle.lines.specs.declared.fault.NumberFault.TheVariants.{Form, Limit}
use Rattle.lines.specs.Fields.{Place}

-- the bytes that write digits
abbrev pub text : List ℕ → List ℕ
text digits = map (λ d. 48 + d) digits

-- bytes that write the number n in 1 to `most` digits
pub record Numeral (most : ℕ) (bytes : List ℕ) (n : ℕ) : Type 0 where
  pub digits : List ℕ
  pub each : AllBelowBase 10 digits
  pub some : 1 ≤ length digits
  pub few : length digits ≤ most
  pub written : bytes ≡ text digits
  pub worth : n ≡ number_from_digits 10 digits

-- a channel: 1 to 3 digits, at most 255
pub record Channel (bytes : List ℕ) (n : ℕ) : Type 0 where
  pub form : Numeral 3 bytes n
  pub limit : n ≤ 255

-- a whole number of 1 to 6 digits, in thousandths
pub record Whole (bytes : List ℕ) (n : ℕ) : Type 0 where
  pub units : ℕ
  pub whole : Numeral 6 bytes units
  pub worth : n ≡ units * 1000

-- a whole part of 1 to 6 digits, a point, and a fraction of 1 to 3 digits that counts by its place
pub record Pointed (bytes : List ℕ) (n : ℕ) : Type 0 where
  pub front : List ℕ
  pub back : List ℕ
  pub units : ℕ
  pub parts : ℕ
  pub whole : Numeral 6 front units
  pub fraction : Numeral 3 back parts
  pub written : bytes ≡ front ++ (46 ∷ back)
  pub worth : n ≡ units * 1000 + parts * 10 ^ (3 - length back)

-- a value without its sign
abbrev pub Size : List ℕ → ℕ → Type 0
Size bytes n = Whole bytes n ⊎ Pointed bytes n

-- a size with no sign in front
pub record Plain (bytes : List ℕ) (z : ℤ) : Type 0 where
  pub thousandths : ℕ
  pub form : Size bytes thousandths
  pub worth : z ≡ pos thousandths

-- a minus in front of a size covers the whole of it
pub record Negative (bytes : List ℕ) (z : ℤ) : Type 0 where
  pub rest : List ℕ
  pub thousandths : ℕ
  pub form : Size rest thousandths
  pub written : bytes ≡ 45 ∷ rest
  pub worth : z ≡ neg_ℤ (pos thousandths)

-- a value: signed thousandths
abbrev pub Value : List ℕ → ℤ → Type 0
Value bytes z = Plain bytes z ⊎ Negative bytes z

-- the first k bytes of a field begin some field of good form
abbrev pub Begun : (List ℕ → Type 0) → List ℕ → ℕ → Type 0
Begun Good bytes k = (more : List ℕ) × Good (take k bytes ++ more)

-- the form breaks at an offset: the length of the longest beginning that begins some field of good form
pub record Breaks (Good : List ℕ → Type 0) (bytes : List ℕ) (offset : ℕ) : Type 0 where
  pub within : offset ≤ length bytes
  pub begun : Begun Good bytes offset
  pub longest : (k : ℕ) → k ≤ length bytes → Begun Good bytes k → k ≤ offset

-- a field is read as a number exactly when it has that number's form; else the fault names this field, and its form
-- breaks at the offset that the fault gives, or it is of good form and over its limit
pub record Reads {A : Type 0} (Means : List ℕ → A → Type 0) (Good : List ℕ → Type 0) (p : Place) (r : Result A NumberFault) : Type 0 where
  pub read : (x : A) → r ≡ Ok x → Means p.text x
  pub readable : (x : A) → Means p.text x → r ≡ Ok x
  pub offset : (field at : ℕ) → r ≡ Err (Form field at) → (field ≡ p.number) × Breaks Good p.text at
  pub over : (field : ℕ) → r ≡ Err (Limit field) → (field ≡ p.number) × Good p.text

-- the good forms, whatever the number
abbrev pub ChannelForm : List ℕ → Type 0
ChannelForm bytes = (n : ℕ) × Numeral 3 bytes n

abbrev pub ValueForm : List ℕ → Type 0
ValueForm bytes = (z : ℤ) × Value bytes z
