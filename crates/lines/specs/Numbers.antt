-- What the reader answers at a channel and at a value: the number, or the place at which the form breaks.
use Rattle.std.specs.Prelude.{ℕ, ◌+◌, ◌-◌, ◌*◌, ◌^◌, cond, List, [], ◌∷◌, length, take, drop, ℤ, pos, neg_ℤ, Ok, Err, Result, ◌==◌, nat_le}
use Rattle.std.specs.Result.{result_map_both}
use Rattle.lines.specs.declared.fault.NumberFault.{NumberFault}
use Rattle.lines.specs.declared.fault.NumberFault.TheVariants.{Form, Limit}
use Rattle.lines.specs.Digits.{leading, worth, numeral}
use Rattle.lines.specs.Fields.{Place}

-- a channel's number against its limit
abbrev pub limited : ℕ → Result ℕ ℕ → Result ℕ NumberFault
limited field (Ok n) = cond (nat_le n 255) (Ok n) (Err (Limit field))
limited field (Err at) = Err (Form field at)

-- a channel: 1 to 3 digits, at most 255
abbrev pub channel_of : Place → Result ℕ NumberFault
channel_of p = limited p.number (numeral 3 p.text)

-- thousandths of a whole part w with a fraction of so many digits behind a point at the place `at`
abbrev pub pointed : ℕ → ℕ → ℕ → Result ℕ ℕ → Result ℕ ℕ
pointed w at digits r = result_map_both (λ n. w * 1000 + n * 10 ^ (3 - digits)) (λ more. at + 1 + more) r

-- thousandths of a whole part w that ends at the place `at`, with what follows it
abbrev pub behind : ℕ → ℕ → List ℕ → Result ℕ ℕ
behind w at [] = Ok (w * 1000)
behind w at (b ∷ bs) = cond (b == 46) (pointed w at (length bs) (numeral 3 bs)) (Err at)

-- a value without its sign, in thousandths: 1 to 6 digits, then optionally a point and 1 to 3 digits
abbrev pub size_of : List ℕ → Result ℕ ℕ
size_of text = cond (leading 6 text == 0) (Err 0) (behind (worth (take (leading 6 text) text)) (leading 6 text) (drop (leading 6 text) text))

-- a size without a sign is the number itself
abbrev pub plus : ℕ → Result ℕ ℕ → Result ℤ NumberFault
plus field r = result_map_both pos (Form field) r

-- a size behind a minus is its negative, and its offsets count the minus
abbrev pub minus : ℕ → Result ℕ ℕ → Result ℤ NumberFault
minus field r = result_map_both (λ n. neg_ℤ (pos n)) (λ at. Form field (at + 1)) r

-- the sign, if there is one, covers the whole number
abbrev pub signed_of : ℕ → List ℕ → Result ℤ NumberFault
signed_of field [] = plus field (size_of [])
signed_of field (b ∷ bs) = cond (b == 45) (minus field (size_of bs)) (plus field (size_of (b ∷ bs)))

-- a value: an optional minus, then its size; in signed thousandths
abbrev pub value_of : Place → Result ℤ NumberFault
value_of p = signed_of p.number p.text
