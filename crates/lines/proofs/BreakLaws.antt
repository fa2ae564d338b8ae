-- The place at which the form of a value without its sign breaks is the length of its longest good beginning.
use Rattle.std.proofs.Common.{◌≡◌, ℕ, ◌+◌, ◌<◌, ◌≤◌, eqb, List, [], ◌∷◌, ◌++◌, length, take, drop, Err, sym, refl, ap, ◌∙◌, subst, inl, inr, ⊎_elim, arith}
use Rattle.std.proofs.lemmas.List.{append_assoc, length-append, length-take-le, length-drop, take_at, drop_at, take-append-drop}
use Rattle.std.proofs.lemmas.Bool.{cond-false, cond_both, cases_lt, ne_eqb, eqb-true, eqb-false}
use Rattle.lines.specs.Digits.{leading, worth}
use Rattle.lines.specs.Forms.{Numeral, Whole, Pointed, Begun, Breaks}
use Rattle.lines.specs.Numbers.{size_of}
use Rattle.lines.proofs.DigitLaws.{leading_length}
use Rattle.lines.proofs.FormLaws.{front-form, digits_begin, leading-begun, leading_swap, numeral-whole, numeral-length}
use Rattle.lines.proofs.SizeLaws.{SizeForm, whole-leading, far, far_behind, size_err}

-- a numeral is a whole size
whole-begun : (bytes : List ℕ) (k : ℕ) → k ≤ leading 6 bytes → Begun SizeForm bytes k
whole-begun bytes k le =
    let b = digits_begin 6 k bytes (omega arith) le in
    (b.0, (_, inl (record { units = b.1.0; whole = b.1.1; worth = refl })))

-- leading digits, a point and leading digits begin a size
point_begun : (bytes : List ℕ) (k : ℕ) (bs : List ℕ) → Numeral 6 (take k bytes) (worth (take k bytes)) → k ≤ length bytes → drop k bytes ≡ 46 ∷ bs
    → Begun SizeForm bytes (k + 1 + leading 3 bs)
point_begun bytes k bs f le e =
    let j = leading 3 bs in
    let b = digits_begin 3 j bs (omega arith) (omega arith) in
    let front = take k bytes in
    let whole : bytes ≡ (front ++ (46 ∷ take j bs)) ++ drop j bs =
    sym (take-append-drop k bytes) ∙ ap (λ l. front ++ l) (e ∙ ap (λ l. 46 ∷ l) (sym (take-append-drop j bs))) ∙ sym (append_assoc front (46 ∷ take j bs) (drop j bs)) in
    let long : length (front ++ (46 ∷ take j bs)) ≡ k + 1 + j =
    length-append front (46 ∷ take j bs) ∙ omega (arith, length-take-le k bytes le, length-take-le j bs (leading_length 3 bs)) in
    let cut : take (k + 1 + j) bytes ≡ front ++ (46 ∷ take j bs) = ap (take (k + 1 + j)) whole ∙ take_at (front ++ (46 ∷ take j bs)) (drop j bs) (k + 1 + j) long in (
      b.0,
      (
        _,
        inr (record {
          front = front;
          back = take j bs ++ b.0;
          units = worth front;
          parts = b.1.0;
          whole = f;
          fraction = b.1.1;
          written = ap (λ l. l ++ b.0) cut ∙ append_assoc front (46 ∷ take j bs) b.0;
          worth = refl;
        }),
      ),
    )

behind-begun : (bytes : List ℕ) (k : ℕ) → Numeral 6 (take k bytes) (worth (take k bytes)) → k ≤ leading 6 bytes → (rest : List ℕ) → drop k bytes ≡ rest → Begun SizeForm bytes (far_behind k rest)
behind-begun bytes k f le [] e = whole-begun bytes k le
behind-begun bytes k f le (b ∷ bs) e =
    cond_both (eqb b 46) _ _ (Begun SizeForm bytes)
    (λ t. point_begun bytes k bs f (omega (arith, leading_length 6 bytes)) (e ∙ ap (λ x. x ∷ bs) (eqb-true b 46 t)))
    (λ t. whole-begun bytes k le)

far_begun : (bytes : List ℕ) → Begun SizeForm bytes (far bytes)
far_begun bytes =
    let k = leading 6 bytes in
    cond_both (eqb k 0) _ _ (Begun SizeForm bytes)
    (λ t. whole-begun bytes 0 (omega arith))
    (λ t.
    let some : 1 ≤ leading 6 bytes = let ne = eqb-false (leading 6 bytes) 0 t in omega (arith, ne) in
    behind-begun bytes k (front-form 6 k bytes some (omega arith)) (omega arith) (drop k bytes) refl)

-- no farther than the text, and at least over its leading digits
behind-within : (k m : ℕ) (rest : List ℕ) → length rest + k ≡ m → (k ≤ far_behind k rest) × (far_behind k rest ≤ m)
behind-within k m [] e = (omega arith, omega arith)
behind-within k m (b ∷ bs) e =
    cond_both (eqb b 46) _ _ (λ n. (k ≤ n) × (n ≤ m)) (λ t. (omega arith, omega (arith, e, leading_length 3 bs))) (λ t. (omega arith, omega (arith, e)))

far_within : (bytes : List ℕ) → (leading 6 bytes ≤ far bytes) × (far bytes ≤ length bytes)
far_within bytes =
    let k = leading 6 bytes in
    cond_both (eqb k 0) _ _ (λ n. (leading 6 bytes ≤ n) × (n ≤ length bytes))
    (λ t. (omega (arith, eqb-true (leading 6 bytes) 0 t), omega arith))
    (λ t. behind-within k (length bytes) (drop k bytes) (omega (arith, length-drop k bytes, leading_length 6 bytes)))

-- a text with a point behind its whole part
far_pointed : (front : List ℕ) (units : ℕ) (bs : List ℕ) → Numeral 6 front units → far (front ++ (46 ∷ bs)) ≡ length front + 1 + leading 3 bs
far_pointed front units bs f =
    let text = front ++ (46 ∷ bs) in
    let lead = whole-leading front units bs f in
    let some : leading 6 text ≡ 0 → ⊥ = λ e. omega (arith, e, lead, numeral-length 6 front units f, f.some) in
    cond-false (eqb (leading 6 text) 0) _ _ (ne_eqb (leading 6 text) 0 some)
    ∙ ap (λ k. far_behind k (drop k text)) lead
    ∙ ap (far_behind (length front)) (drop_at front (46 ∷ bs) (length front) refl)

-- a beginning that is longer than a front and its mark has them in it
split_behind : (p more a : List ℕ) (x : ℕ) (c : List ℕ) → p ++ more ≡ a ++ (x ∷ c) → length a < length p → (q : List ℕ) × (p ≡ a ++ (x ∷ q)) × (q ++ more ≡ c)
split_behind [] more a x c e lt = absurd (omega arith)
split_behind (y ∷ p) more [] x c e lt = let head : y ≡ x = cc in (p, ap (λ z. z ∷ p) head, cc)
split_behind (y ∷ p) more (z ∷ a) x c e lt =
    let head : y ≡ z = cc in
    let ih = split_behind p more a x c (cc) (omega arith) in
    let rest = ih.1 in
    (ih.0, (cc), ih.2)

pointed-longest : (bytes : List ℕ) (k : ℕ) (more : List ℕ) (n : ℕ) → k ≤ length bytes → Pointed (take k bytes ++ more) n → k ≤ far bytes
pointed-longest bytes k more n le p =
    ⊎_elim
    (λ lt.
    let s = split_behind (take k bytes) more p.front 46 p.back p.written (omega (arith, long, lt)) in
    let q = s.0 in
    let whole : bytes ≡ p.front ++ (46 ∷ (q ++ drop k bytes)) =
    sym (take-append-drop k bytes) ∙ ap (λ l. l ++ drop k bytes) s.1 ∙ append_assoc p.front (46 ∷ q) (drop k bytes) in
    let back : leading 3 (q ++ more) ≡ length (q ++ more) = subst (λ b. leading 3 b ≡ length b) (sym s.2) (numeral-whole 3 p.back p.parts p.fraction) in
    let swapped = leading_swap 3 q more (drop k bytes) (omega (arith, back, length-append q more)) in
    let reach : far bytes ≡ length p.front + 1 + leading 3 (q ++ drop k bytes) = ap far whole ∙ far_pointed p.front p.units (q ++ drop k bytes) p.whole in
    omega (arith, reach, swapped, long, ap length s.1 ∙ length-append p.front (46 ∷ q)))
    (λ ge.
    let lead = whole-leading p.front p.units p.back p.whole in
    let same : leading 6 (take k bytes ++ more) ≡ length p.front = ap (leading 6) p.written ∙ lead in
    omega (arith, leading-begun 6 k bytes more le (omega (arith, same, ge)), (far_within bytes).0))
    (cases_lt (length p.front) k)
  where
    long : length (take k bytes) ≡ k
    long = length-take-le k bytes le

size-longest : (bytes : List ℕ) (k : ℕ) → k ≤ length bytes → Begun SizeForm bytes k → k ≤ far bytes
size-longest bytes k le (more, (n, s)) =
    ⊎_elim
    (λ (w : Whole (take k bytes ++ more) n).
    let all = numeral-whole 6 (take k bytes ++ more) w.units w.whole in
    omega (arith, leading-begun 6 k bytes more le (omega (arith, all, length-append (take k bytes) more, length-take-le k bytes le)), (far_within bytes).0))
    (λ (p : Pointed (take k bytes ++ more) n). pointed-longest bytes k more n le p)
    s

pub size-breaks : (bytes : List ℕ) (at : ℕ) → size_of bytes ≡ Err at → Breaks SizeForm bytes at
size-breaks bytes at e =
    subst (Breaks SizeForm bytes) (size_err bytes at e) (record { within = (far_within bytes).1; begun = far_begun bytes; longest = size-longest bytes })
