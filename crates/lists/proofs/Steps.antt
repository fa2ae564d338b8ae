-- One turn of a loop over a list, which reads the element x at the place i.
use Rattle.std.proofs.Common.{◌≡◌, ℕ, ◌+◌, ◌<◌, Bool, true, false, List, [], ◌∷◌, ◌++◌, length, get_or, drop, sym, ap, ◌∙◌, arith}
use Rattle.std.proofs.lemmas.List.{at_drop_more, length_push}
use Rattle.std.proofs.lemmas.Bool.{cond-true, cond-false}
use Rattle.lists.specs.Membership.{member}
use Rattle.lists.proofs.Merging.{adding, adding-length}

-- a function of what is left of the list
pub left-more : {X Y : Type 0} (F : List X → Y) (xs : List X) (i : ℕ) (x : X) → i < length xs → x ≡ get_or xs i x → F (drop i xs) ≡ F (x ∷ drop (i + 1) xs)
left-more F xs i x h e = at_drop_more F xs i x h ∙ ap (λ y. F (y ∷ drop (i + 1) xs)) (sym e)

module _ {A : Type 0} (same : A → A → Bool) (so xs : List A) (i : ℕ) (x : A) (h : i < length xs) (e : x ≡ get_or xs i x) where
  -- merging: a new element goes behind the others
  pub adding_new : member same x so ≡ false → adding same (so ++ x ∷ []) (drop (i + 1) xs) ≡ adding same so (drop i xs)
  adding_new t =
      ap (λ l. adding same l (drop (i + 1) xs)) (sym (cond-false (member same x so) so (so ++ x ∷ []) t)) ∙ sym (left-more (adding same so) xs i x h e)

  -- one that is there already goes nowhere
  pub adding_old : member same x so ≡ true → adding same so (drop (i + 1) xs) ≡ adding same so (drop i xs)
  adding_old t =
      ap (λ l. adding same l (drop (i + 1) xs)) (sym (cond-true (member same x so) so (so ++ x ∷ []) t)) ∙ sym (left-more (adding same so) xs i x h e)

  pub adding-over : member same x so ≡ false → length so < length (adding same so (drop i xs))
  adding-over t =
      let k = adding_new t in
      omega (arith, ap length k, adding-length same (so ++ x ∷ []) (drop (i + 1) xs), length_push so x)
