-- Arrays that are filled by calls of a closure.
use Rattle.std.proofs.Common.{◌≡◌, ℕ, zero, suc, ◌+◌, ◌<◌, List, get_or, ◌∙◌, subst, arith}
use denote.Param.Members.{Mut, Called}
use Rattle.std.specs.Array.{IsFromFnResultFrom}

-- where each call leaves the closure as it was and gives h, each place holds h
pub filled-at : {F B : Type 0} (g : Mut F (ℕ × Unit {0}) B) (f : F) (h : ℕ → B) (d : B) → ((i : ℕ) (y : B) (q : F) → Called g f (i, tt) y q → (q ≡ f) × (y ≡ h i))
    → (ys : List B) (i n k : ℕ) → IsFromFnResultFrom g f ys i n → k < n → get_or ys (i + k) d ≡ h (i + k)
filled-at g f h d same ys i zero k made under = absurd (omega arith)
filled-at g f h d same ys i (suc n) zero made under =
    let here : i + 0 ≡ i = omega arith in rw here (made.2.1 d ∙ (same i made.1 made.0 made.3).1)
filled-at g f h d same ys i (suc n) (suc k) made under =
    let there : i + suc k ≡ (i + 1) + k = omega arith in
    rw there (filled-at g f h d same ys (i + 1) n k (subst (λ p. IsFromFnResultFrom g p ys (i + 1) n) (same i made.1 made.0 made.3).0 made.4) (omega arith))
