-- Laws of places: an element taken out and put back, and what stays distinct.
use Rattle.std.proofs.Common.{◌≡◌, ℕ, zero, suc, ◌+◌, ◌<◌, Bool, true, false, not, cond, ◌||◌, if◌then◌else◌, nat_lt, List, [], ◌∷◌, length, Some, None, sym, refl, ap, ◌∙◌, arith}
use Rattle.std.specs.List.{insert, remove, position}
use Rattle.std.proofs.lemmas.Bool.Decides.{nat_tests as ways}
use Rattle.std.proofs.lemmas.Bool.{or_parts, or_from, true≢false}
use Rattle.lists.specs.Orders.{Tells}
use Rattle.lists.specs.Membership.{member, Distinct}
use Rattle.lists.specs.Places.{place}

next : (n : ℕ) → 1 + n ≡ suc n
next n = omega arith

module _ {A : Type 0} (same : A → A → Bool) where
  -- the place at which the library finds an element, if it finds one
  found : (x : A) (a : List A) → nat_lt (place same x a) (length a) ≡ member same x a
  found x [] = refl
  found x (y ∷ a) = go (same x y) (found x a)
    where
      go : (b : Bool) → nat_lt (place same x a) (length a) ≡ member same x a → nat_lt (cond (not b) (1 + place same x a) 0) (suc (length a)) ≡ b || member same x a
      go true ih = grind (arith, ways)
      go false ih = grind (arith, ways)

  pub position_place : (x : A) (a : List A) → position (same x) a ≡ if member same x a then Some (place same x a) else None
  position_place x a = ap (λ b. cond b (Some (place same x a)) None) (found x a)

  pub place-within : (x : A) (a : List A) → member same x a ≡ true → place same x a < length a
  place-within x [] h = absurd (true≢false (sym h))
  place-within x (y ∷ a) h = go (same x y) (place-within x a) h
    where
      go : (b : Bool) → (member same x a ≡ true → place same x a < length a) → b || member same x a ≡ true → cond (not b) (1 + place same x a) 0 < suc (length a)
      go true r h = omega arith
      go false r h = omega (arith, r h)

  -- a member of a list with one place less is a member of the list
  member_removed : (x : A) (k : ℕ) (a : List A) → member same x a ≡ false → member same x (remove a k) ≡ false
  member_removed x zero [] h = h
  member_removed x zero (y ∷ a) h = (or_parts _ _ h).1
  member_removed x (suc k) [] h = h
  member_removed x (suc k) (y ∷ a) h = or_from _ _ (or_parts _ _ h).0 (member_removed x k a (or_parts _ _ h).1)

  pub removed_distinct : (k : ℕ) (a : List A) → Distinct same a → Distinct same (remove a k)
  removed_distinct zero [] d = tt
  removed_distinct zero (y ∷ a) d = d.1
  removed_distinct (suc k) [] d = tt
  removed_distinct (suc k) (y ∷ a) d = (member_removed y k a d.0, removed_distinct k a d.1)

module _ {A : Type 0} (same : A → A → Bool) (tells : Tells same) where
  pub place-back : (x : A) (a : List A) → member same x a ≡ true → insert (remove a (place same x a)) (place same x a) x ≡ a
  place-back x [] h = absurd (true≢false (sym h))
  place-back x (y ∷ a) h = go (same x y) (tells.told x y) (place-back x a) h
    where
      go : (b : Bool) → (b ≡ true → x ≡ y) → (member same x a ≡ true → insert (remove a (place same x a)) (place same x a) x ≡ a) → b || member same x a ≡ true
          → insert (remove (y ∷ a) (cond (not b) (1 + place same x a) 0)) (cond (not b) (1 + place same x a) 0) x ≡ y ∷ a
      go true t r h = ap (λ z. z ∷ a) (t refl)
      go false t r h = rw (next (place same x a)) (ap (λ l. y ∷ l) (r h))

  pub place-gone : (x : A) (a : List A) → Distinct same a → member same x a ≡ true → member same x (remove a (place same x a)) ≡ false
  place-gone x [] d h = absurd (true≢false (sym h))
  place-gone x (y ∷ a) d h = go (same x y) refl (place-gone x a d.1) h
    where
      go : (b : Bool) → same x y ≡ b → (member same x a ≡ true → member same x (remove a (place same x a)) ≡ false) → b || member same x a ≡ true
          → member same x (remove (y ∷ a) (cond (not b) (1 + place same x a) 0)) ≡ false
      go true e r h = ap (λ z. member same z a) (tells.told x y e) ∙ d.0
      go false e r h = rw (next (place same x a)) (or_from _ _ e (r h))

  -- an element that is new may stand anywhere
  member_inserted : (x y : A) (k : ℕ) (a : List A) → same x y ≡ false → member same x a ≡ false → member same x (insert a k y) ≡ false
  member_inserted x y zero a e h = or_from _ _ e h
  member_inserted x y (suc k) [] e h = or_from _ _ e h
  member_inserted x y (suc k) (z ∷ a) e h = or_from _ _ (or_parts _ _ h).0 (member_inserted x y k a e (or_parts _ _ h).1)

  -- two elements that differ differ the other way round
  other_way : (x y : A) → same x y ≡ false → same y x ≡ false
  other_way x y e = go (same y x) (tells.told y x)
    where
      go : (b : Bool) → (b ≡ true → y ≡ x) → b ≡ false
      go true t = absurd (true≢false (sym (tells.itself x) ∙ ap (same x) (sym (t refl)) ∙ e))
      go false t = refl

  pub inserted_distinct : (x : A) (k : ℕ) (a : List A) → Distinct same a → member same x a ≡ false → Distinct same (insert a k x)
  inserted_distinct x zero a d h = (h, d)
  inserted_distinct x (suc k) [] d h = (h, d)
  inserted_distinct x (suc k) (z ∷ a) d h =
      (member_inserted z x k a (other_way x z (or_parts _ _ h).0) d.0, inserted_distinct x k a d.1 (or_parts _ _ h).1)
