-- An input that is taken up to one byte more than the most.
use Rattle.std.proofs.Common.{◌≡◌, ℕ, ◌+◌, ◌≤◌, List, [], ◌++◌, length, take, Some, None, Ok, Err, Option, Result, sym, ap, ◌∙◌, ⊎_elim, arith}
use Rattle.std.specs.Option.{option_map, IfSome}
use Rattle.std.specs.Result.{IsOk, OnOk}
use Rattle.std.proofs.lemmas.List.{take_all, length-take-le}
use Rattle.std.proofs.lemmas.Bool.{cases_lt, true≢false}

-- where less than that was there, it is the whole
pub whole : (o : Option (List ℕ)) (most limit : ℕ) (before text : List ℕ) → IfSome (option_map (take limit) o) (λ xs. text ≡ before ++ xs) → limit ≡ most + 1 → before ≡ [] → length text ≤ most
    → IfSome o (λ xs. text ≡ xs)
whole None most limit before text h up none few = tt
whole (Some xs) most limit before text h up none few =
    let is : text ≡ take limit xs = h ∙ ap (λ l. l ++ take limit xs) none in
    ⊎_elim (λ less. is ∙ take_all limit xs (omega (arith, less))) (λ more. absurd (omega (arith, ap length is, length-take-le limit xs more, few, up))) (cases_lt (length xs) limit)

-- what holds of an answer that is no error
pub on_ok : {T E P : Type 0} (r : Result T E) → IsOk r → OnOk r P → P
on_ok (Ok x) is p = p
on_ok (Err e) is p = absurd (true≢false (sym is))
