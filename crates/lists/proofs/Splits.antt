-- Laws of the split: there is one, it is the only one, and where the procedure finds it.
use Rattle.std.proofs.Common.{◌≡◌, ℕ, Bool, true, eqb, ◌⊎◌, List, [], ◌∷◌, ◌++◌, length, drop, sym, refl, ap, ◌∙◌, subst, ap₂, subst₂, inl, inr, append_assoc, append-nil, arith}
use Rattle.std.proofs.lemmas.List.{drop_at, append_cancel_left, nil_from_length}
use Rattle.std.proofs.lemmas.Bool.{eq-eqb, eqb-true, cond_both}
use Rattle.lists.specs.Orders.{Tells}
use Rattle.lists.specs.Membership.{Distinct}
use Rattle.lists.specs.Difference.{without}
use Rattle.lists.specs.Beginnings.{Begins, common}
use Rattle.lists.specs.Splits.{IsSplit, started, ProcedureSplits}
use Rattle.lists.proofs.Membership.{distinct-right, distinct-left}
use Rattle.lists.proofs.Difference.{without-front}
use Rattle.lists.proofs.Beginnings.{begins_refl, begins-same, begins-length, common-begins-left, common-begins-right, common-append, common-most, common_of_begins, common_of_begun}

module _ {A : Type 0} (same : A → A → Bool) (tells : Tells same) where
  -- nothing begins both lists exactly where their common beginning is empty
  parted_from_common : (b n : List A) → common same b n ≡ [] → (c : List A) → Begins c b → Begins c n → c ≡ []
  parted_from_common b n e c p q =
      nil_from_length c (omega (arith, begins-length c (common same b n) (common-most same tells b n c p q), ap length e))

  -- what is behind a front of a list
  behind : (g b o : List A) {c : List A} → c ≡ g → g ++ b ≡ o → b ≡ drop (length c) o
  behind g b o {c} e h = sym (drop_at g b (length c) (ap length (sym e))) ∙ ap (drop (length c)) h

  -- the parts of a split, by the common beginning of the two orders
  pub split_is : (o f g b n : List A) → IsSplit o f g b n → (g ≡ common same o f) × (b ≡ drop (length (common same o f)) o) × (n ≡ drop (length (common same o f)) f)
  split_is o f g b n s =
      let none : common same b n ≡ [] = s.parted (common same b n) (common-begins-left same b n) (common-begins-right same tells b n) in
      let e : common same o f ≡ g = ap₂ (common same) (sym s.of_open) (sym s.of_decided) ∙ common-append same tells g b n ∙ ap (λ l. g ++ l) none ∙ append-nil g in
      (sym e, behind g b o e s.of_open, behind g n f e s.of_decided)

  -- a front of both orders whose rests have no common beginning gives the split
  split_from : (o f g b n : List A) → g ++ b ≡ o → g ++ n ≡ f → common same o f ≡ g → IsSplit o f g b n
  split_from o f g b n p q e =
      record {
        of_open = p;
        of_decided = q;
        parted = parted_from_common b n (append_cancel_left g _ _ (sym (common-append same tells g b n) ∙ ap₂ (common same) p q ∙ e ∙ sym (append-nil g)));
      }

  pub split_exists : (o f : List A) → IsSplit o f (common same o f) (drop (length (common same o f)) o) (drop (length (common same o f)) f)
  split_exists o f =
      let l = common-begins-left same o f in
      let r = common-begins-right same tells o f in
      let c = common same o f in
      split_from o f c (drop (length c) o) (drop (length c) f)
      (ap (λ z. c ++ z) (sym (behind c l.0 o refl l.1)) ∙ l.1) (ap (λ z. c ++ z) (sym (behind c r.0 f refl r.1)) ∙ r.1) refl

  -- parts that are those of the common beginning are the split
  pub split_found : (o f g b n : List A) → g ≡ common same o f → b ≡ drop (length (common same o f)) o → n ≡ drop (length (common same o f)) f → IsSplit o f g b n
  split_found o f g b n p q r =
      subst (λ z. IsSplit o f z b n) (sym p) (subst₂ (λ y z. IsSplit o f (common same o f) y z) (sym q) (sym r) (split_exists o f))

  pub split_unique : (o f g b n g' b' n' : List A) → IsSplit o f g b n → IsSplit o f g' b' n' → (g ≡ g') × (b ≡ b') × (n ≡ n')
  split_unique o f g b n g' b' n' s t =
      let p = split_is o f g b n s in
      let q = split_is o f g' b' n' t in
      (p.0 ∙ sym q.0, p.1 ∙ sym q.1, p.2 ∙ sym q.2)

  -- what begins both rests moves over
  split_moved : (o f g b n : List A) → Distinct same o → Distinct same f → g ++ b ≡ o → g ++ n ≡ f
      → IsSplit o f (g ++ common same b n) (without same b (common same b n)) (without same n (common same b n))
  split_moved o f g b n once-o once-f eb en =
      let c = common same b n in
      let l = common-begins-left same b n in
      let r = common-begins-right same tells b n in
      let db : Distinct same b = distinct-right same g b (subst (Distinct same) (sym eb) once-o) in
      let dn : Distinct same n = distinct-right same g n (subst (Distinct same) (sym en) once-f) in
      let wb : without same b c ≡ l.0 = ap (λ z. without same z c) (sym l.1) ∙ without-front same tells c l.0 (subst (Distinct same) (sym l.1) db) in
      let wn : without same n c ≡ r.0 = ap (λ z. without same z c) (sym r.1) ∙ without-front same tells c r.0 (subst (Distinct same) (sym r.1) dn) in
      split_from o f (g ++ c) (without same b c) (without same n c)
      (ap (λ z. g ++ c ++ z) wb ∙ append_assoc g c l.0 ∙ ap (λ z. g ++ z) l.1 ∙ eb)
      (ap (λ z. g ++ c ++ z) wn ∙ append_assoc g c r.0 ∙ ap (λ z. g ++ z) r.1 ∙ en)
      (ap₂ (common same) (sym eb) (sym en) ∙ common-append same tells g b n)

  -- Good and Bad are the open order, Good and New the decided one
  abbrev Started : List A → List A → List A → List A × List A × List A → Type 0
  Started o m u p = (p.0 ++ p.1 ≡ o) × (p.0 ++ p.2 ≡ m ++ u)

  started_short : (o m u : List A) → Distinct same (m ++ u) → Begins o m → Started o m u (o, [], without same m o ++ u)
  started_short o m u d h =
      let dm = distinct-left same m u d in
      let w : without same m o ≡ h.0 = ap (λ z. without same z o) (sym h.1) ∙ without-front same tells o h.0 (subst (Distinct same) (sym h.1) dm) in
      (append-nil o, sym (append_assoc o _ u) ∙ ap (λ z. o ++ z ++ u) w ∙ ap (λ z. z ++ u) h.1)

  started_long : (o m u : List A) → Distinct same o → Begins m o → Started o m u (common same o m, without same o (common same o m), u)
  started_long o m u d h =
      let e = common_of_begun same tells o m h in
      let w : without same o m ≡ h.0 = ap (λ z. without same z m) (sym h.1) ∙ without-front same tells m h.0 (subst (Distinct same) (sym h.1) d) in
      rw e (ap (λ z. m ++ z) w ∙ h.1, refl)

  started-parts : (o m u : List A) → Distinct same o → Distinct same (m ++ u) → Begins o m ⊎ Begins m o → Started o m u (started same o m u)
  started-parts o m u once-o once-f (inl h) =
      let e : eqb (length o) (length (common same o m)) ≡ true = eq-eqb _ _ (ap length (sym (common_of_begins same tells o m h))) in
      rw e (started_short o m u once-f h)
  started-parts o m u once-o once-f (inr h) =
      cond_both (eqb (length o) (length (common same o m))) _ _ (Started o m u)
      (λ e. started_short o m u once-f (subst (λ z. Begins o z) (begins-same o m o (begins_refl o) h (eqb-true _ _ e ∙ ap length (common_of_begun same tells o m h))) (begins_refl o)))
      (λ e. started_long o m u once-o h)

  -- where the open order and the longest begin one another, the procedure finds the split
  pub split_procedure : (o m u : List A) → Distinct same o → Distinct same (m ++ u) → Begins o m ⊎ Begins m o → ProcedureSplits same o m u
  split_procedure o m u once-o once-f h =
      let p = started same o m u in
      let s = started-parts o m u once-o once-f h in
      split_moved o (m ++ u) p.0 p.1 p.2 once-o once-f s.0 s.1

-- elsewhere it may not: here Good and New are not the decided order
pub split_procedure_differs : ProcedureSplits eqb (0 ∷ 1 ∷ []) (0 ∷ 2 ∷ []) (1 ∷ []) → ⊥
split_procedure_differs s = let e : ◌≡◌ {A = ℕ} 2 3 = ap length s.of_decided in omega arith
