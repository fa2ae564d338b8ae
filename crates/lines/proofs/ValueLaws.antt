-- A value is read exactly when it has a value's form, its sign included.
use Rattle.std.proofs.Common.{◌≡◌, ℕ, zero, suc, ◌+◌, ◌≤◌, eqb, List, [], ◌∷◌, ◌++◌, length, take, ℤ, pos, neg_ℤ, Ok, Err, Result, sym, refl, ap, ◌∙◌, subst, inl, inr, ⊎_elim, add-one, arith}
use Rattle.std.proofs.lemmas.Bool.{cond-true, cond-false, cases_Bool, eqb-true, eqb-false}
use Rattle.lines.specs.declared.fault.NumberFault.{NumberFault}
use Rattle.lines.specs.declared.fault.NumberFault.TheVariants.{Form, Limit}
use Rattle.lines.specs.Fields.{Place}
use Rattle.lines.specs.Forms.{Size, Value, ValueForm, Begun, Breaks, Reads}
use Rattle.lines.specs.Numbers.{size_of, plus, minus, signed_of, value_of}
use Rattle.lines.proofs.BreakLaws.{size-breaks}
use Rattle.lines.proofs.SizeLaws.{SizeForm, form-size, size-form}

-- a size begins with no minus
pub size-first : (rest : List ℕ) (n : ℕ) → Size (45 ∷ rest) n → ⊥
size-first rest n s =
    let read = form-size (45 ∷ rest) n s in
    let broken : size_of (45 ∷ rest) ≡ Err 0 = refl in
    grind arith

-- no minus stands in front
abbrev Unsigned : List ℕ → Type 0
Unsigned bytes = (rest : List ℕ) → bytes ≡ 45 ∷ rest → ⊥

module _ (field : ℕ) (bytes : List ℕ) (unsigned : Unsigned bytes) where
  plus-read : (o : Result ℕ ℕ) → size_of bytes ≡ o → (z : ℤ) → plus field o ≡ Ok z → Value bytes z
  plus-read (Ok n) e z h = inl (record { thousandths = n; form = size-form bytes n e; worth = cc })
  plus-read (Err at) e z h = absurd (grind arith)

  plus-longest : (at : ℕ) → Breaks SizeForm bytes at → (k : ℕ) → k ≤ length bytes → Begun ValueForm bytes k → k ≤ at
  plus-longest at b k le (more, (z, inl v)) = b.longest k le (more, (v.thousandths, v.form))
  plus-longest at b k le (more, (z, inr v)) = go bytes k le unsigned v.written
    where
      go : (bytes : List ℕ) (k : ℕ) → k ≤ length bytes → Unsigned bytes → take k bytes ++ more ≡ 45 ∷ v.rest → k ≤ at
      go bytes zero le u e = omega arith
      go [] (suc k) le u e = absurd (omega arith)
      go (b ∷ bs) (suc k) le u e = let first : b ≡ 45 = cc in absurd (u bs (ap (λ x. x ∷ bs) first))

  plus-breaks : (at : ℕ) → Breaks SizeForm bytes at → Breaks ValueForm bytes at
  plus-breaks at b =
      let s = b.begun in
      record {
        within = b.within;
        begun = (s.0, (pos s.1.0, inl (record { thousandths = s.1.0; form = s.1.1; worth = refl })));
        longest = plus-longest at b;
      }

  plus-offset : (o : Result ℕ ℕ) → size_of bytes ≡ o → (f at : ℕ) → plus field o ≡ Err (Form f at) → (f ≡ field) × Breaks ValueForm bytes at
  plus-offset (Ok n) e f at h = absurd (grind arith)
  plus-offset (Err k) e f at h = let same : k ≡ at = cc in (cc, subst (Breaks ValueForm bytes) same (plus-breaks k (size-breaks bytes k e)))

  plus-over : (o : Result ℕ ℕ) (f : ℕ) → plus field o ≡ Err (Limit f) → (f ≡ field) × ValueForm bytes
  plus-over (Ok n) f h = absurd (grind arith)
  plus-over (Err k) f h = absurd (grind arith)

  plus-readable : (z : ℤ) → Value bytes z → plus field (size_of bytes) ≡ Ok z
  plus-readable z (inl v) = ap (plus field) (form-size bytes v.thousandths v.form) ∙ ap Ok (sym v.worth)
  plus-readable z (inr v) = absurd (unsigned v.rest v.written)

  plus-reads : (begins : ℕ) → Reads Value ValueForm (record { number = field; begins = begins; text = bytes }) (plus field (size_of bytes))
  plus-reads begins = record { read = plus-read (size_of bytes) refl; readable = plus-readable; offset = plus-offset (size_of bytes) refl; over = plus-over (size_of bytes) }

module _ (field : ℕ) (rest : List ℕ) where
  minus-read : (o : Result ℕ ℕ) → size_of rest ≡ o → (z : ℤ) → minus field o ≡ Ok z → Value (45 ∷ rest) z
  minus-read (Ok n) e z h = inr (record { rest = rest; thousandths = n; form = size-form rest n e; written = refl; worth = cc })
  minus-read (Err at) e z h = absurd (grind arith)

  minus-longest : (at : ℕ) → Breaks SizeForm rest at → (k : ℕ) → k ≤ length (45 ∷ rest) → Begun ValueForm (45 ∷ rest) k → k ≤ suc at
  minus-longest at b zero le v = omega arith
  minus-longest at b (suc k) le (more, (z, inl v)) = absurd (size-first (take k rest ++ more) v.thousandths v.form)
  minus-longest at b (suc k) le (more, (z, inr v)) =
      let same : v.rest ≡ take k rest ++ more = let e = v.written in cc in
      let inner = b.longest k (omega arith) (more, (v.thousandths, subst (λ l. Size l v.thousandths) same v.form)) in
      omega (arith, inner)

  minus-breaks : (at : ℕ) → Breaks SizeForm rest at → Breaks ValueForm (45 ∷ rest) (suc at)
  minus-breaks at b =
      let s = b.begun in
      record {
        within = omega (arith, b.within);
        begun = (s.0, (neg_ℤ (pos s.1.0), inr (record { rest = take at rest ++ s.0; thousandths = s.1.0; form = s.1.1; written = refl; worth = refl })));
        longest = minus-longest at b;
      }

  minus-offset : (o : Result ℕ ℕ) → size_of rest ≡ o → (f at : ℕ) → minus field o ≡ Err (Form f at) → (f ≡ field) × Breaks ValueForm (45 ∷ rest) at
  minus-offset (Ok n) e f at h = absurd (grind arith)
  minus-offset (Err k) e f at h =
      let same : k + 1 ≡ at = cc in
      (cc, subst (Breaks ValueForm (45 ∷ rest)) (sym (add-one k) ∙ same) (minus-breaks k (size-breaks rest k e)))

  minus-over : (o : Result ℕ ℕ) (f : ℕ) → minus field o ≡ Err (Limit f) → (f ≡ field) × ValueForm (45 ∷ rest)
  minus-over (Ok n) f h = absurd (grind arith)
  minus-over (Err k) f h = absurd (grind arith)

  minus-readable : (z : ℤ) → Value (45 ∷ rest) z → minus field (size_of rest) ≡ Ok z
  minus-readable z (inl v) = absurd (size-first rest v.thousandths v.form)
  minus-readable z (inr v) =
      let same : v.rest ≡ rest = let e = v.written in cc in
      ap (λ l. minus field (size_of l)) (sym same) ∙ ap (minus field) (form-size v.rest v.thousandths v.form) ∙ ap Ok (sym v.worth)

  minus-reads : (begins : ℕ) → Reads Value ValueForm (record { number = field; begins = begins; text = 45 ∷ rest }) (minus field (size_of rest))
  minus-reads begins = record { read = minus-read (size_of rest) refl; readable = minus-readable; offset = minus-offset (size_of rest) refl; over = minus-over (size_of rest) }

value-reads : (field begins : ℕ) (bytes : List ℕ) → Reads Value ValueForm (record { number = field; begins = begins; text = bytes }) (signed_of field bytes)
value-reads field begins [] = plus-reads field [] (λ rest e. grind arith) begins
value-reads field begins (b ∷ bs) =
    ⊎_elim
    (λ t.
    let minus-first : 45 ≡ b = sym (eqb-true b 45 t) in
    let r = subst (λ x. Reads Value ValueForm (record { number = field; begins = begins; text = x ∷ bs }) (minus field (size_of bs))) minus-first (minus-reads field bs begins) in
    subst (Reads Value ValueForm (record { number = field; begins = begins; text = b ∷ bs })) (sym (cond-true (eqb b 45) _ _ t)) r)
    (λ t.
    let u : Unsigned (b ∷ bs) = λ rest e. eqb-false b 45 t (cc) in
    subst (Reads Value ValueForm (record { number = field; begins = begins; text = b ∷ bs })) (sym (cond-false (eqb b 45) _ _ t)) (plus-reads field (b ∷ bs) u begins))
    (cases_Bool (eqb b 45))

pub value_reads_as : (p : Place) (r : Result ℤ NumberFault) → r ≡ value_of p → Reads Value ValueForm p r
value_reads_as p r e = subst (Reads Value ValueForm p) (sym e) (value-reads p.number p.begins p.text)
