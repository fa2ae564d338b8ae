-- Laws of membership, of lists that hold no element twice, and of lists that share none.
use Rattle.std.proofs.Common.{◌≡◌, Bool, true, false, ◌||◌, eqb, ◌⊎◌, List, [], ◌∷◌, ◌++◌, Decides, sym, refl, ap, ap₂, ◌∙◌, inl, inr, arith}
use Rattle.std.proofs.lemmas.Bool.{both_ways, cases_Bool, or_parts, or_from, or_left, or_right, true≢false, eqb-true, eq-eqb, and_parts, and_from, not-true, not_from_false}
use Rattle.std.proofs.lemmas.Bool.Decides.{nat_tests as ways}
use Rattle.std.specs.List.{list_any}
use Rattle.std.proofs.lemmas.List.Folds.{list_any-append}
use Rattle.lists.specs.Orders.{Tells}
use Rattle.lists.specs.Membership.{member, Distinct, distinct, Apart}

-- numbers are told apart
pub tells_eqb : Tells eqb
tells_eqb = record { told = eqb-true; itself = λ x. eq-eqb x x refl }

module _ {A : Type 0} (same : A → A → Bool) where
  -- an element stands in a list exactly where the library finds one that equals it
  pub member_any : ((x y : A) → same x y ≡ same y x) → (x : A) (xs : List A) → list_any (λ y. same y x) xs ≡ member same x xs
  member_any symm x [] = refl
  member_any symm x (y ∷ xs) = ap₂ ◌||◌ (symm y x) (member_any symm x xs)

  -- the test and the predicate say the same
  pub distinct_decides : (a : List A) → Decides (distinct same a) (Distinct same a)
  distinct_decides [] = (λ _. tt, λ _. refl)
  distinct_decides (x ∷ a) =
      let ih = distinct_decides a in (
        λ h. let p = and_parts _ _ h in (not-true _ p.0, ih.0 p.1),
        λ d. and_from _ _ (not_from_false _ d.0) (ih.1 d.1),
      )

  pub distinct_append : (a b : List A) → Distinct same a → Distinct same b → Apart same a b → Distinct same (a ++ b)
  distinct_append [] b d e p = e
  distinct_append (x ∷ a) b d e p =
      (list_any-append (same x) a b ∙ or_from _ _ d.0 p.0, distinct_append a b d.1 e p.1)

  pub distinct-left : (a b : List A) → Distinct same (a ++ b) → Distinct same a
  distinct-left [] b d = tt
  distinct-left (x ∷ a) b d = ((or_parts _ _ (sym (list_any-append (same x) a b) ∙ d.0)).0, distinct-left a b d.1)

  pub distinct-right : (a b : List A) → Distinct same (a ++ b) → Distinct same b
  distinct-right [] b d = d
  distinct-right (x ∷ a) b d = distinct-right a b d.1

  pub distinct_apart : (a b : List A) → Distinct same (a ++ b) → Apart same a b
  distinct_apart [] b d = tt
  distinct_apart (x ∷ a) b d = ((or_parts _ _ (sym (list_any-append (same x) a b) ∙ d.0)).1, distinct_apart a b d.1)

module _ {A : Type 0} (same : A → A → Bool) (tells : Tells same) where
  pub member-same : (x y : A) (b : List A) → same x y ≡ true → member same x b ≡ member same y b
  member-same x y b e = ap (λ z. member same z b) (tells.told x y e)

  pub apart-member : (a b : List A) → Apart same a b → (x : A) → member same x a ≡ true → member same x b ≡ false
  apart-member [] b p x h = absurd (true≢false (sym h))
  apart-member (y ∷ a) b p x h =
      let s = member-same x y b in
      let r = apart-member a b p.1 x in
      let q = p.0 in
      grind (arith, ways)

  pub apart_from_member : (a b : List A) → ((x : A) → member same x a ≡ true → member same x b ≡ false) → Apart same a b
  apart_from_member [] b f = tt
  apart_from_member (y ∷ a) b f =
      (f y (or_left _ _ (tells.itself y)), apart_from_member a b (λ x h. f x (or_right _ _ h)))

  pub apart_sym : (a b : List A) → Apart same a b → Apart same b a
  apart_sym a b p = apart_from_member b a (λ x h. go x h (cases_Bool (member same x a)))
    where
      go : (x : A) → member same x b ≡ true → (member same x a ≡ true) ⊎ (member same x a ≡ false) → member same x a ≡ false
      go x h (inl k) = absurd (both_ways _ (apart-member a b p x k) h)
      go x h (inr k) = k
