-- The fields of a line and the line that texts make, one from the other.
use Rattle.std.proofs.Common.{◌≡◌, ℕ, zero, suc, ◌+◌, Bool, true, not, ◌&&◌, eqb, List, [], ◌∷◌, ◌++◌, length, drop, ℤ, sym, refl, ap, ◌∙◌, subst, inl, inr, arith}
use Rattle.std.specs.Int.Digits.{AllBelowBase}
use Rattle.std.specs.List.{AllByRecursion, onto_first}
use Rattle.std.proofs.lemmas.List.{append_assoc, length-append, length_push, take_at, drop_at, get_or_at, get_or_append_left}
use Rattle.std.proofs.lemmas.List.Splits.{join_with_byte-slice_split}
use Rattle.std.proofs.lemmas.Bool.{cond_both, eqb-false, and_parts, not-true}
use Rattle.service.specs.declared.request.Operation.{Operation}
use Rattle.service.specs.declared.request.Operation.TheVariants.{Put, Drop, Count, Push, Pop}
use Rattle.lines.specs.Asking.{Means, Numbers}
use Rattle.lines.specs.Fields.{semicolon, fields, joined, Parted}
use Rattle.lines.specs.Forms.{text, Numeral, Size}
use Rattle.lines.specs.Parts.{First, Absent}
use Rattle.lines.specs.declared.kind.Kind.{Kind}
use Rattle.lines.specs.declared.kind.Kind.TheVariants.{Channel as channel, Value as value}
use Rattle.lines.specs.Words.{word}
use Rattle.lines.proofs.PartLaws.{parts_first, parts-absent}

-- a line is its fields, joined
pub joined-fields : (line : List ℕ) → joined (fields line) ≡ line
joined-fields line = join_with_byte-slice_split semicolon line

-- texts without a semicolon
absent-nil : Absent semicolon []
absent-nil k lt e = omega arith

absent-cons : (b : ℕ) (bs : List ℕ) → (b ≡ semicolon → ⊥) → Absent semicolon bs → Absent semicolon (b ∷ bs)
absent-cons b bs ne none zero lt e = ne e
absent-cons b bs ne none (suc k) lt e = none k (omega arith) e

absent-onto : (b : ℕ) (ps : List (List ℕ)) → (b ≡ semicolon → ⊥) → AllByRecursion (Absent semicolon) ps → AllByRecursion (Absent semicolon) (onto_first b ps)
absent-onto b [] ne all = (absent-cons b [] ne absent-nil, tt)
absent-onto b (p ∷ ps) ne all = (absent-cons b p ne all.0, all.1)

absent-fields : (line : List ℕ) → AllByRecursion (Absent semicolon) (fields line)
absent-fields [] = (absent-nil, tt)
absent-fields (b ∷ bs) =
    cond_both (eqb b semicolon) _ _ (AllByRecursion (Absent semicolon))
    (λ e. (absent-nil, absent-fields bs))
    (λ e. absent-onto b (fields bs) (eqb-false b semicolon e) (absent-fields bs))

pub fields-parted : (line : List ℕ) → Parted line (fields line)
fields-parted line = record { whole = joined-fields line; apart = absent-fields line }

-- texts without a semicolon are the fields of the line that they make
first-behind : (t rest : List ℕ) → Absent semicolon t → First semicolon (t ++ (semicolon ∷ rest)) (length t)
first-behind t rest none =
    record {
      within = omega (arith, length-append t (semicolon ∷ rest));
      here = get_or_at t semicolon rest 0 (length t) refl;
      before = λ k lt e. none k lt (sym (get_or_append_left t (semicolon ∷ rest) 0 k lt) ∙ e);
    }

pub fields-joined : (t : List ℕ) (ts : List (List ℕ)) → Absent semicolon t → AllByRecursion (Absent semicolon) ts → fields (joined (t ∷ ts)) ≡ t ∷ ts
fields-joined t [] none all = parts-absent semicolon t none
fields-joined t (u ∷ us) none all =
    let rest = joined (u ∷ us) in
    let whole = t ++ (semicolon ∷ rest) in
    let behind : drop (length t + 1) whole ≡ rest =
    ap (drop (length t + 1)) (sym (append_assoc t (semicolon ∷ []) rest)) ∙ drop_at (t ++ (semicolon ∷ [])) rest (length t + 1) (length_push t semicolon) in
    parts_first semicolon whole (length t) (first-behind t rest none)
    ∙ ap (λ l. l ∷ fields (drop (length t + 1) whole)) (take_at t (semicolon ∷ rest) (length t) refl)
    ∙ ap (λ l. t ∷ fields l) behind
    ∙ ap (λ l. t ∷ l) (fields-joined u us all.0 all.1)

absent-append : (a b : List ℕ) → Absent semicolon a → Absent semicolon b → Absent semicolon (a ++ b)
absent-append [] b na nb = nb
absent-append (x ∷ a) b na nb = absent-cons x (a ++ b) (na 0 (omega arith)) (absent-append a b (λ k lt. na (suc k) (omega arith)) nb)

absent-text : (ds : List ℕ) → AllBelowBase 10 ds → Absent semicolon (text ds)
absent-text [] under = absent-nil
absent-text (d ∷ ds) under = absent-cons (48 + d) (text ds) (λ e. omega (arith, e, under.0)) (absent-text ds under.1)

pub absent-numeral : (most : ℕ) (bytes : List ℕ) (n : ℕ) → Numeral most bytes n → Absent semicolon bytes
absent-numeral most bytes n f = subst (Absent semicolon) (sym f.written) (absent-text f.digits f.each)

pub absent-size : (bytes : List ℕ) (n : ℕ) → Size bytes n → Absent semicolon bytes
absent-size bytes n (inl w) = absent-numeral 6 bytes w.units w.whole
absent-size bytes n (inr p) =
    subst (Absent semicolon) (sym p.written)
    (absent-append p.front (46 ∷ p.back) (absent-numeral 6 p.front p.units p.whole)
    (absent-cons 46 p.back (λ e. omega (arith, e)) (absent-numeral 3 p.back p.parts p.fraction)))

pub absent-means : (k : Kind) (t : List ℕ) (z : ℤ) → Means k t z → Absent semicolon t
absent-means channel t z m = absent-numeral 3 t m.0 m.1.form
absent-means value t z (inl v) = absent-size t v.thousandths v.form
absent-means value t z (inr v) =
    subst (Absent semicolon) (sym v.written) (absent-cons 45 v.rest (λ e. omega (arith, e)) (absent-size v.rest v.thousandths v.form))

pub absent-numbers : (ks : List Kind) (ts : List (List ℕ)) (zs : List ℤ) → Numbers ks ts zs → AllByRecursion (Absent semicolon) ts
absent-numbers [] [] [] m = tt
absent-numbers [] [] (z ∷ zs) m = absurd m
absent-numbers [] (t ∷ ts) zs m = absurd m
absent-numbers (k ∷ ks) [] zs m = absurd m
absent-numbers (k ∷ ks) (t ∷ ts) [] m = absurd m
absent-numbers (k ∷ ks) (t ∷ ts) (z ∷ zs) m = (absent-means k t z m.0, absent-numbers ks ts zs m.1)

-- whether no semicolon stands in a text
abbrev lacks : List ℕ → Bool
lacks [] = true
lacks (b ∷ bs) = not (eqb b semicolon) && lacks bs

absent_lacks : (bs : List ℕ) → lacks bs ≡ true → Absent semicolon bs
absent_lacks [] e = absent-nil
absent_lacks (b ∷ bs) e =
    let h = and_parts (not (eqb b semicolon)) (lacks bs) e in
    absent-cons b bs (eqb-false b semicolon (not-true (eqb b semicolon) h.0)) (absent_lacks bs h.1)

pub absent-word : (op : Operation) → Absent semicolon (word op)
absent-word Put = absent_lacks (word Put) refl
absent-word Drop = absent_lacks (word Drop) refl
absent-word Count = absent_lacks (word Count) refl
absent-word Push = absent_lacks (word Push) refl
absent-word Pop = absent_lacks (word Pop) refl
