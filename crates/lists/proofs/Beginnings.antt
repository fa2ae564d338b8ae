-- Laws of beginnings: which list begins which, and the common beginning of two.
use Rattle.std.proofs.Common.{◌≡◌, ◌+◌, ◌<◌, ◌≤◌, Bool, true, false, cond, ◌⊎◌, List, [], ◌∷◌, ◌++◌, length, take, drop, sym, refl, ap, ◌∙◌, ap₂, inl, inr, append_assoc, append-nil, arith, length-append}
use Rattle.std.proofs.lemmas.List.{take_at, take-take, take-append-drop}
use Rattle.std.proofs.lemmas.Bool.{cases_lt, cases_Bool}
use Rattle.std.specs.List.{prefix_len, take_while, zip}
use Rattle.std.proofs.lemmas.List.Folds.{length-prefix_len}
use Rattle.lists.specs.Orders.{Tells}
use Rattle.lists.specs.Beginnings.{Begins, common, Longest}

module _ {A : Type 0} where
  pub begins_refl : (a : List A) → Begins a a
  begins_refl a = ([], append-nil a)

  pub begins_trans : (a b c : List A) → Begins a b → Begins b c → Begins a c
  begins_trans a b c p q =
      (p.0 ++ q.0, sym (append_assoc a p.0 q.0) ∙ ap (λ l. l ++ q.0) p.1 ∙ q.1)

  pub begins-length : (a b : List A) → Begins a b → length a ≤ length b
  begins-length a b p = omega (arith, length-append a p.0, ap length p.1)

  pub begins-take : (a b : List A) → Begins a b → a ≡ take (length a) b
  begins-take a b p = sym (take_at a p.0 (length a) refl) ∙ ap (λ l. take (length a) l) p.1

  -- two beginnings of one list that are as long are equal
  pub begins-same : (a b c : List A) → Begins a c → Begins b c → length a ≡ length b → a ≡ b
  begins-same a b c p q e = begins-take a c p ∙ ap (λ n. take n c) e ∙ sym (begins-take b c q)

  pub begins_antisym : (a b : List A) → Begins a b → Begins b a → a ≡ b
  begins_antisym a b p q = begins-same a b b p (begins_refl b) (omega (arith, begins-length a b p, begins-length b a q))

  -- of two beginnings of one list the shorter begins the longer
  pub begins_shorter : (a b c : List A) → Begins a c → Begins b c → length a ≤ length b → Begins a b
  begins_shorter a b c p q h =
      let e : take (length a) b ≡ a =
      ap (λ l. take (length a) l) (begins-take b c q) ∙ take-take (length a) (length b) c h ∙ sym (begins-take a c p) in
      (drop (length a) b, ap (λ l. l ++ drop (length a) b) (sym e) ∙ take-append-drop (length a) b)

  pub begins-comparable : (a b c : List A) → Begins a c → Begins b c → Begins a b ⊎ Begins b a
  begins-comparable a b c p q = go (cases_lt (length a) (length b))
    where
      go : (length a < length b) ⊎ (length b ≤ length a) → Begins a b ⊎ Begins b a
      go (inl h) = inl (begins_shorter a b c p q (omega arith))
      go (inr h) = inr (begins_shorter b a c q p h)

module _ {A : Type 0} (same : A → A → Bool) where
  pub common-nothing : (a : List A) → common same a [] ≡ []
  common-nothing [] = refl
  common-nothing (x ∷ a) = refl

  -- how many pairs of the two lists are alike from the front on
  pairs : (a b : List A) → prefix_len (λ p. same p.0 p.1) (zip a b) ≡ length (common same a b)
  pairs [] b = refl
  pairs (x ∷ a) [] = refl
  pairs (x ∷ a) (y ∷ b) =
      let ih = pairs a b in
      elim (same x y) as (λ v. cond v (1 + prefix_len (λ p. same p.0 p.1) (zip a b)) 0 ≡ length (cond v (x ∷ common same a b) []))
      [ true ↦ omega arith | false ↦ refl ]

  pub common_pairs : (a b : List A) → length (take_while (λ p. same p.0 p.1) (zip a b)) ≡ length (common same a b)
  common_pairs a b = length-prefix_len (λ p. same p.0 p.1) (zip a b) ∙ pairs a b

  pub common-begins-left : (a b : List A) → Begins (common same a b) a
  common-begins-left [] b = ([], refl)
  common-begins-left (x ∷ a) [] = (x ∷ a, refl)
  common-begins-left (x ∷ a) (y ∷ b) =
      let r = common-begins-left a b in
      elim (same x y) as (λ v. Begins (cond v (x ∷ common same a b) []) (x ∷ a))
      [ true ↦ (r.0, ap (λ l. x ∷ l) r.1) | false ↦ (x ∷ a, refl) ]

  -- the common beginning as a part of the first list
  pub common-take : (a b : List A) → take (length (common same a b)) a ≡ common same a b
  common-take a b = sym (begins-take (common same a b) a (common-begins-left a b))

module _ {A : Type 0} (same : A → A → Bool) (tells : Tells same) where
  pub common-append : (g b n : List A) → common same (g ++ b) (g ++ n) ≡ g ++ common same b n
  common-append [] b n = refl
  common-append (x ∷ g) b n =
      rw (tells.itself x) (ap (λ l. x ∷ l) (common-append g b n))

  pub common-begins-right : (a b : List A) → Begins (common same a b) b
  common-begins-right [] b = (b, refl)
  common-begins-right (x ∷ a) [] = ([], refl)
  common-begins-right (x ∷ a) (y ∷ b) = go (common-begins-right a b) (cases_Bool (same x y))
    where
      go : Begins (common same a b) b → (same x y ≡ true) ⊎ (same x y ≡ false) → Begins (cond (same x y) (x ∷ common same a b) []) (y ∷ b)
      go r (inl e) = rw e (r.0, let p = tells.told x y e in let q = r.1 in cc)
      go r (inr e) = rw e (y ∷ b, refl)

  -- whatever begins both begins the common beginning
  pub common-most : (a b c : List A) → Begins c a → Begins c b → Begins c (common same a b)
  common-most a b c p q =
      (common same p.0 q.0, sym (common-append c p.0 q.0) ∙ (let u = p.1 in let v = q.1 in cc))

  pub common-longest : (a b : List A) → Longest a b (common same a b)
  common-longest a b =
      record {
        left = common-begins-left same a b;
        right = common-begins-right a b;
        most = common-most a b;
        no_longer = λ d p q. begins-length d (common same a b) (common-most a b d p q);
      }

  -- where one list begins the other, it is their common beginning
  pub common_of_begins : (a b : List A) → Begins a b → common same a b ≡ a
  common_of_begins a b h =
      ap₂ (common same) (sym (append-nil a)) (sym h.1) ∙ common-append a [] h.0 ∙ append-nil a

  pub common_of_begun : (a b : List A) → Begins b a → common same a b ≡ b
  common_of_begun a b h =
      ap₂ (common same) (sym h.1) (sym (append-nil b)) ∙ common-append b h.0 [] ∙ ap (λ l. b ++ l) (common-nothing same h.0) ∙ append-nil b
