-- Laws of lists of names, which are numbers.
use Rattle.std.proofs.Common.{◌≡◌, ℕ, zero, suc, ◌<◌, ◌≤◌, eqb, ◌⊎◌, List, [], ◌∷◌, length, sym, ap, ◌∙◌, inl, inr, le_refl, arith}
use Rattle.std.proofs.lemmas.Bool.{cases_eq, eq-eqb, ne_eqb}
use Rattle.std.specs.List.{AllByRecursion}
use Rattle.std.proofs.lemmas.List.Elements.{recursion_from_All}
use Rattle.lists.specs.Laws.{FewNames}
use Rattle.lists.specs.Membership.{member, Distinct, Apart}
use Rattle.lists.specs.Difference.{without}
use Rattle.lists.proofs.Membership.{tells_eqb, apart_sym}
use Rattle.lists.proofs.Difference.{without_none, without-distinct}

-- names below u + 1 without u are below u
without_below : (u : ℕ) (a : List ℕ) → AllByRecursion (λ m. m < suc u) a → AllByRecursion (λ m. m < u) (without eqb a (u ∷ []))
without_below u [] below = tt
without_below u (m ∷ a) below = go (without_below u a below.1) (cases_eq m u)
  where
    go : AllByRecursion (λ m. m < u) (without eqb a (u ∷ [])) → (m ≡ u) ⊎ (m ≡ u → ⊥) → AllByRecursion (λ m. m < u) (without eqb (m ∷ a) (u ∷ []))
    go rest (inl e) = rw (eq-eqb m u e) rest
    go rest (inr e) = rw (ne_eqb m u e) (omega (arith, below.0), rest)

-- taking one name out of distinct names leaves at most one fewer
without_one : (u : ℕ) (a : List ℕ) → Distinct eqb a → length a ≤ suc (length (without eqb a (u ∷ [])))
without_one u [] once = omega arith
without_one u (m ∷ a) once = go (without_one u a once.1) (cases_eq m u)
  where
    go : length a ≤ suc (length (without eqb a (u ∷ []))) → (m ≡ u) ⊎ (m ≡ u → ⊥) → length (m ∷ a) ≤ suc (length (without eqb (m ∷ a) (u ∷ [])))
    go fewer (inl e) =
        let p : Apart eqb a (u ∷ []) = apart_sym eqb tells_eqb (u ∷ []) a (ap (λ j. member eqb j a) (sym e) ∙ once.0, tt) in
        let q : without eqb a (u ∷ []) ≡ a = without_none eqb tells_eqb a (u ∷ []) p in
        rw (eq-eqb m u e) (omega (arith, ap length q))
    go fewer (inr e) = rw (ne_eqb m u e) (omega arith)

few_below : (u : ℕ) (a : List ℕ) → Distinct eqb a → AllByRecursion (λ m. m < u) a → length a ≤ u
few_below zero [] once below = le_refl _
few_below zero (m ∷ a) once below = absurd (omega (arith, below.0))
few_below (suc u) a once below =
    omega (arith, without_one u a once, few_below u (without eqb a (u ∷ [])) (without-distinct eqb tells_eqb a (u ∷ []) once) (without_below u a below))

pub names_few : FewNames
names_few u a once below = few_below u a once (recursion_from_All (λ m. m < u) a below)
