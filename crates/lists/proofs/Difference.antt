-- Laws of taking one list out of another.
use Rattle.std.proofs.Common.{◌≡◌, Bool, true, false, cond, not, ◌&&◌, ◌||◌, ◌⊎◌, List, [], ◌∷◌, ◌++◌, refl, ap, ◌∙◌, inl, inr, arith}
use Rattle.std.proofs.lemmas.Bool.{cases_Bool, or_left, or_right}
use Rattle.std.proofs.lemmas.Bool.Decides.{nat_tests as ways}
use Rattle.std.proofs.lemmas.List.Folds.{list_any-append}
use Rattle.lists.specs.Orders.{Tells}
use Rattle.lists.specs.Membership.{member, Distinct, Apart}
use Rattle.lists.specs.Difference.{without}
use Rattle.lists.proofs.Membership.{member-same, apart_from_member, apart_sym, distinct_append, distinct_apart}

module _ {A : Type 0} (same : A → A → Bool) where
  pub without-append : (a b c : List A) → without same (a ++ b) c ≡ without same a c ++ without same b c
  without-append [] b c = refl
  without-append (x ∷ a) b c =
      elim (member same x c) as (λ v. cond v (without same (a ++ b) c) (x ∷ without same (a ++ b) c) ≡ cond v (without same a c) (x ∷ without same a c) ++ without same b c)
      [ true ↦ without-append a b c | false ↦ ap (λ l. x ∷ l) (without-append a b c) ]

  -- only membership in the second list counts
  pub without_alike : (a b c : List A) → ((x : A) → member same x b ≡ member same x c) → without same a b ≡ without same a c
  without_alike [] b c f = refl
  without_alike (x ∷ a) b c f = let ih = without_alike a b c f in let e = f x in cc

  pub without_twice : (a b c : List A) → without same (without same a b) c ≡ without same a (b ++ c)
  without_twice [] b c = refl
  without_twice (x ∷ a) b c = rw (list_any-append (same x) b c) (go (cases_Bool (member same x b)) (without_twice a b c))
    where
      go : (member same x b ≡ true) ⊎ (member same x b ≡ false) → without same (without same a b) c ≡ without same a (b ++ c)
          → without same (cond (member same x b) (without same a b) (x ∷ without same a b)) c ≡ cond (member same x b || member same x c) (without same a (b ++ c)) (x ∷ without same a (b ++ c))
      go (inl e) ih = rw e ih
      go (inr e) ih = rw e (ap (λ z. cond (member same x c) z (x ∷ z)) ih)

  pub without-nothing : (a : List A) → without same a [] ≡ a
  without-nothing [] = refl
  without-nothing (x ∷ a) = ap (λ l. x ∷ l) (without-nothing a)

module _ {A : Type 0} (same : A → A → Bool) (tells : Tells same) where
  pub without-member : (x : A) (a b : List A) → member same x (without same a b) ≡ member same x a && not (member same x b)
  without-member x [] b = refl
  without-member x (y ∷ a) b =
      let ih = without-member x a b in
      let s = member-same same tells x y b in
      grind (arith, ways)

  pub without-distinct : (a b : List A) → Distinct same a → Distinct same (without same a b)
  without-distinct [] b d = tt
  without-distinct (x ∷ a) b d =
      let w = without-member x a b in
      let rest = without-distinct a b d.1 in
      elim (member same x b) as (λ v. Distinct same (cond v (without same a b) (x ∷ without same a b)))
      [ true ↦ rest | false ↦ (grind (arith, ways), rest) ]

  pub without-apart : (a b : List A) → Apart same b (without same a b)
  without-apart a b = apart_from_member same tells b (without same a b) (λ x h. let w = without-member x a b in grind (arith, ways))

  -- a list and what another has that it lacks
  pub without_extend_distinct : (a b : List A) → Distinct same a → Distinct same b → Distinct same (a ++ without same b a)
  without_extend_distinct a b d e =
      distinct_append same a (without same b a) d (without-distinct b a e) (without-apart b a)

  pub without_all : (a c : List A) → ((x : A) → member same x a ≡ true → member same x c ≡ true) → without same a c ≡ []
  without_all [] c f = refl
  without_all (x ∷ a) c f =
      rw (f x (or_left _ _ (tells.itself x))) (without_all a c (λ y h. f y (or_right _ _ h)))

  pub without_none : (a c : List A) → Apart same a c → without same a c ≡ a
  without_none [] c p = refl
  without_none (x ∷ a) c p = rw p.0 (ap (λ l. x ∷ l) (without_none a c p.1))

  pub without-front : (g n : List A) → Distinct same (g ++ n) → without same (g ++ n) g ≡ n
  without-front g n d =
      without-append same g n g ∙ ap (λ l. l ++ without same n g) (without_all g g (λ x h. h)) ∙ without_none n g (apart_sym same tells g n (distinct_apart same g n d))
