-- Laws of counting from a low element to a high one.
use Rattle.std.proofs.Common.{◌≡◌, ◌+◌, Bool, true, false, cond, ◌⊎◌, List, [], ◌∷◌, count_by, refl, ap, ◌∙◌, ap₂, inl, inr}
use Rattle.std.proofs.lemmas.List.Sums.{sum_by-cons}
use Rattle.std.proofs.lemmas.Bool.{cases_Bool, and_left, and_right, not_from_true}
use Rattle.lists.specs.Orders.{Tells, Ordered}
use Rattle.lists.specs.Ranges.{in_range, between}

count_none : {A : Type 0} (p : A → Bool) → ((x : A) → p x ≡ false) → (xs : List A) → count_by p xs ≡ 0
count_none p none [] = refl
count_none p none (x ∷ xs) = sum_by-cons (λ y. cond (p y) 1 0) x xs ∙ ap₂ (λ t n. cond t 1 0 + n) (none x) (count_none p none xs)

module _ {A : Type 0} (same before : A → A → Bool) (tells : Tells same) (order : Ordered same before) (low high : A) (crossed : before high low ≡ true) where
  -- nothing lies from a low element to a high one before it
  pub in_range_none : (x : A) → in_range before low high x ≡ false
  in_range_none x = go (cases_Bool (before x low)) (cases_Bool (before low x))
    where
      behind : before high x ≡ true → in_range before low high x ≡ false
      behind e = and_right _ _ (not_from_true _ e)

      go : (before x low ≡ true) ⊎ (before x low ≡ false) → (before low x ≡ true) ⊎ (before low x ≡ false) → in_range before low high x ≡ false
      go (inl e) _ = and_left _ _ (not_from_true _ e)
      go (inr e) (inl k) = behind (order.transitive high low x crossed k)
      go (inr e) (inr k) = behind (ap (before high) (tells.told x low (order.total x low e k)) ∙ crossed)

  pub between_none : (xs : List A) → between before low high xs ≡ 0
  between_none = count_none (in_range before low high) in_range_none
