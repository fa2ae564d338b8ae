-- Laws of the definition of a size, as its reader needs them.
use Rattle.std.proofs.Common.{◌≡◌, ℕ, zero, suc, ◌-◌, ◌*◌, ◌^◌, ◌<◌, ◌≤◌, eqb, List, length, take, drop, Ok, sym, ap, ◌∙◌, arith, lit<}
use native.Mathlib.Nat.{pow-le-pow_right}
use Rattle.std.proofs.lemmas.List.{nil_from_length}
use Rattle.std.proofs.lemmas.Bool.{cond-false, ne_eqb}
use Rattle.lines.specs.Digits.{leading, worth}
use Rattle.lines.specs.Numbers.{behind, size_of}

-- six digits are below a million
pub whole_small : (v k : ℕ) → k ≤ 6 → v < 10 ^ k → v < 1000000
whole_small v k few lt = let most : 10 ^ k ≤ 10 ^ 6 = pow-le-pow_right (lit< tt) few in omega (arith, most, lt)

-- a fraction is below one
pub fraction_small : (n d : ℕ) → 1 ≤ d → d ≤ 3 → n < 10 ^ d → n * 10 ^ (3 - d) < 1000
fraction_small n zero some few lt = absurd (omega arith)
fraction_small n (suc zero) some few lt = omega arith
fraction_small n (suc (suc zero)) some few lt = omega arith
fraction_small n (suc (suc (suc zero))) some few lt = omega arith
fraction_small n (suc (suc (suc (suc d)))) some few lt = absurd (omega arith)

-- a size is its whole part and what stands behind it
pub size-behind : (text : List ℕ) (k v : ℕ) → k ≡ leading 6 text → v ≡ worth (take k text) → (k ≡ 0 → ⊥) → size_of text ≡ behind v k (drop k text)
size-behind text k v ek ev some =
    let whole : worth (take (leading 6 text) text) ≡ v = ap (λ n. worth (take n text)) (sym ek) ∙ sym ev in
    cond-false (eqb (leading 6 text) 0) _ _ (ne_eqb (leading 6 text) 0 (λ e. some (ek ∙ e)))
    ∙ ap (λ w. behind w (leading 6 text) (drop (leading 6 text) text)) whole
    ∙ ap (λ n. behind v n (drop n text)) (sym ek)

pub behind-empty : (v k : ℕ) (rest : List ℕ) → length rest ≡ 0 → behind v k rest ≡ Ok (v * 1000)
behind-empty v k rest e = ap (behind v k) (nil_from_length rest e)
