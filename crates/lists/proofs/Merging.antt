-- Laws of merging: each element where it first appears.
use Rattle.std.proofs.Common.{◌≡◌, ◌≤◌, Bool, true, false, cond, ◌||◌, ◌⊎◌, List, [], ◌∷◌, ◌++◌, length, sym, refl, ap, ◌∙◌, inl, inr, append_assoc, append-nil, le_trans, arith, length-append}
use Rattle.std.proofs.lemmas.Bool.{cases_Bool}
use Rattle.std.proofs.lemmas.Bool.Decides.{nat_tests as ways}
use Rattle.std.proofs.lemmas.List.Folds.{list_any-append}
use Rattle.lists.specs.Orders.{Tells}
use Rattle.lists.specs.Membership.{member, Distinct}
use Rattle.lists.specs.Difference.{without}
use Rattle.lists.specs.Merging.{firsts, merge, merged_into}
use Rattle.lists.proofs.Membership.{member-same, apart_from_member}
use Rattle.lists.proofs.Difference.{without-member, without-distinct, without_alike, without_twice, without_none, without-nothing, without_extend_distinct}

module _ {A : Type 0} (same : A → A → Bool) where
  -- a list with an element behind it unless it has it
  abbrev pub added : List A → A → List A
  added a x = cond (member same x a) a (a ++ x ∷ [])

  -- a list with the elements of another added one by one
  abbrev pub adding : List A → List A → List A
  adding a [] = a
  adding a (x ∷ xs) = adding (added a x) xs

  pub adding-append : (a xs ys : List A) → adding (adding a xs) ys ≡ adding a (xs ++ ys)
  adding-append a [] ys = refl
  adding-append a (x ∷ xs) ys = adding-append (added a x) xs ys

  pub adding-length : (a xs : List A) → length a ≤ length (adding a xs)
  adding-length a [] = omega arith
  adding-length a (x ∷ xs) = le_trans (go (cases_Bool (member same x a))) (adding-length (added a x) xs)
    where
      go : (member same x a ≡ true) ⊎ (member same x a ≡ false) → length a ≤ length (added a x)
      go (inl e) = rw e (omega arith)
      go (inr e) = rw e (omega (arith, length-append a (x ∷ [])))

module _ {A : Type 0} (same : A → A → Bool) (tells : Tells same) where
  pub firsts-member : (x : A) (a : List A) → member same x (firsts same a) ≡ member same x a
  firsts-member x [] = refl
  firsts-member x (y ∷ a) =
      let ih = firsts-member x a in
      let w = without-member same tells x (firsts same a) (y ∷ []) in
      grind (arith, ways)

  pub firsts-distinct : (a : List A) → Distinct same (firsts same a)
  firsts-distinct [] = tt
  firsts-distinct (x ∷ a) =
      let w = without-member same tells x (firsts same a) (x ∷ []) in
      let i = tells.itself x in
      (grind (arith, ways), without-distinct same tells (firsts same a) (x ∷ []) (firsts-distinct a))

  -- adding one by one is putting what is new behind
  pub adding_is : (a xs : List A) → adding same a xs ≡ merged_into same a xs
  adding_is a [] = sym (append-nil a)
  adding_is a (x ∷ xs) = adding_is (added same a x) xs ∙ go (cases_Bool (member same x a))
    where
      go : (member same x a ≡ true) ⊎ (member same x a ≡ false) → merged_into same (added same a x) xs ≡ merged_into same a (x ∷ xs)
      go (inl e) =
          rw e (ap (λ l. a ++ l) (without_alike same (firsts same xs) a (x ∷ a) (λ y. let s = member-same same tells y x a in grind (arith, ways)) ∙ sym (without_twice same (firsts same xs) (x ∷ []) a)))
      go (inr e) =
          rw e (append_assoc a (x ∷ []) _ ∙ ap (λ l. a ++ x ∷ l) (without_alike same (firsts same xs) (a ++ x ∷ []) (x ∷ a) (λ y. list_any-append (same y) a (x ∷ []) ∙ grind (arith, ways)) ∙ sym (without_twice same (firsts same xs) (x ∷ []) a)))

  pub merged-nothing : (b : List A) → merged_into same [] b ≡ firsts same b
  merged-nothing b = without-nothing same (firsts same b)

  -- merging in one list after another is merging in the joined lists
  pub merged-append : (a b c : List A) → merged_into same (merged_into same a b) c ≡ merged_into same a (b ++ c)
  merged-append a b c =
      sym (adding_is (merged_into same a b) c) ∙ ap (λ z. adding same z c) (sym (adding_is a b)) ∙ adding-append same a b c ∙ adding_is a (b ++ c)

  -- the merge of two lists is the first's elements once, and the second's merged in
  pub merge_is : (a b : List A) → merged_into same (firsts same a) b ≡ merge same a b
  merge_is a b = ap (λ z. merged_into same z b) (sym (merged-nothing a)) ∙ merged-append [] a b ∙ merged-nothing (a ++ b)

  pub merge-member : (x : A) (a b : List A) → member same x (merge same a b) ≡ member same x a || member same x b
  merge-member x a b = firsts-member x (a ++ b) ∙ list_any-append (same x) a b

  pub merge-distinct : (a b : List A) → Distinct same (merge same a b)
  merge-distinct a b = firsts-distinct (a ++ b)

  pub merged-member : (x : A) (a b : List A) → member same x (merged_into same a b) ≡ member same x a || member same x b
  merged-member x a b =
      let w = without-member same tells x (firsts same b) a in
      let f = firsts-member x b in
      list_any-append (same x) a (without same (firsts same b) a) ∙ grind (arith, ways)

  pub merged_distinct : (a b : List A) → Distinct same a → Distinct same (merged_into same a b)
  merged_distinct a b d = without_extend_distinct same tells a (firsts same b) d (firsts-distinct b)

  -- a list that holds no element twice is its own first appearances
  pub firsts-distinct_is : (a : List A) → Distinct same a → firsts same a ≡ a
  firsts-distinct_is [] d = refl
  firsts-distinct_is (x ∷ a) d =
      ap (λ l. x ∷ without same l (x ∷ [])) (firsts-distinct_is a d.1)
      ∙ ap (λ l. x ∷ l) (without_none same tells a (x ∷ []) (apart_from_member same tells a (x ∷ []) (λ y h. let s = member-same same tells y x a in let k = d.0 in grind (arith, ways))))
