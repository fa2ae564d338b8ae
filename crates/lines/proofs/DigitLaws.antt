-- Laws of the digits at the beginning of a text.
use Rattle.std.proofs.Common.{◌≡◌, ℕ, ◌+◌, ◌-◌, ◌*◌, ◌^◌, ◌<◌, ◌≤◌, ◌&&◌, eqb, ltb, List, map, length, get_or, take, Ok, ap, ◌∙◌, pow-suc, add-one, arith, sym}
use Rattle.std.specs.Char.{is_ascii_digit}
use Rattle.std.specs.Int.Digits.{number_from_digits}
use Rattle.std.specs.List.{prefix_len}
use Rattle.std.proofs.lemmas.Int.Digits.{number_push}
use Rattle.std.proofs.lemmas.List.{map_more, length-take, take_all}
use Rattle.std.proofs.lemmas.List.Sums.{prefix_len-le-length, prefix_len_passes}
use Rattle.std.proofs.lemmas.Bool.{cond-true, and_from, and_parts, leb-true, lt-ltb, eq-eqb}
use Rattle.lines.specs.Digits.{leading, worth, numeral}

pub leading_length : (most : ℕ) (text : List ℕ) → leading most text ≤ length text
leading_length most text = omega (arith, prefix_len-le-length is_ascii_digit (take most text), length-take most text)

pub leading-most : (most : ℕ) (text : List ℕ) → leading most text ≤ most
leading-most most text = omega (arith, prefix_len-le-length is_ascii_digit (take most text), length-take most text)

-- the leading digits are digits to the last
pub leading_each : (most : ℕ) (text : List ℕ) → leading most text ≡ length text → prefix_len is_ascii_digit text ≡ length text
leading_each most text all = ap (prefix_len is_ascii_digit) (sym (take_all most text (omega (arith, all, leading-most most text)))) ∙ all

-- the first i of some digits write v
pub record Written (digits : List ℕ) (i v : ℕ) : Type 0 where
  pub value : v ≡ worth (take i digits)
  pub small : v < 10 ^ i

module _ (digits : List ℕ) (each : prefix_len is_ascii_digit digits ≡ length digits) (i : ℕ) (lt : i < length digits) where
  -- each of the bytes is a digit
  pub digit_low : 48 ≤ get_or digits i 0
  digit_low = leb-true 48 (get_or digits i 0) (and_parts _ _ (prefix_len_passes is_ascii_digit digits i 0 (omega (arith, each)))).0

  digit_high : get_or digits i 0 ≤ 57
  digit_high = leb-true (get_or digits i 0) 57 (and_parts _ _ (prefix_len_passes is_ascii_digit digits i 0 (omega (arith, each)))).1

  -- one digit more
  worth-more : worth (take (i + 1) digits) ≡ worth (take i digits) * 10 + (get_or digits i 0 - 48)
  worth-more =
      ap (number_from_digits 10) (map_more (λ b. b - 48) digits i 0 lt) ∙ number_push 10 (map (λ b. b - 48) (take i digits)) (get_or digits i 0 - 48)

  power : 10 ^ (i + 1) ≡ 10 ^ i * 10
  power = ap (λ k. 10 ^ k) (add-one i) ∙ pow-suc 10 i

  pub written_more : (v : ℕ) → Written digits i v → Written digits (i + 1) (v * 10 + (get_or digits i 0 - 48))
  written_more v w =
      record {
        value = ap (λ k. k * 10 + (get_or digits i 0 - 48)) w.value ∙ sym worth-more;
        small = omega (arith, power, w.small, digit_high);
      }

-- a text that is all digits, and not too many, is a numeral
pub numeral_all : (most : ℕ) (text : List ℕ) → 0 < length text → leading most text ≡ length text → numeral most text ≡ Ok (worth text)
numeral_all most text some all =
    cond-true (ltb 0 (leading most text) && eqb (leading most text) (length text)) _ _
    (and_from _ _ (lt-ltb 0 (leading most text) (omega (arith, all))) (eq-eqb (leading most text) (length text) all))
