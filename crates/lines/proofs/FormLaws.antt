-- A text is a numeral of some digits exactly when its definition says so, and how far a text follows that form.
use Rattle.std.proofs.Common.{◌≡◌, ℕ, zero, suc, ◌+◌, ◌-◌, ◌<◌, ◌≤◌, Bool, true, false, cond, ◌&&◌, eqb, ltb, leb, List, [], ◌∷◌, ◌++◌, map, length, take, drop, Ok, Err, sym, refl, ap, ◌∙◌, subst, ⊎_elim, add-zero, zero-add, arith}
use native.Mathlib.Nat.{sub-zero}
use Rattle.std.specs.Int.Digits.{number_from_digits, AllBelowBase}
use Rattle.std.proofs.lemmas.List.{append-nil, length-append, length-map, length-take-le, take_all, take-append-drop}
use Rattle.std.proofs.lemmas.Bool.{cond-true, cond-false, cases_Bool, and_from, and_parts, le-leb, leb-true, ltb-true, eqb-true}
use Rattle.std.specs.Char.{is_ascii_digit}
use Rattle.lines.specs.Digits.{leading, worth, numeral}
use Rattle.lines.specs.Forms.{text, Numeral, Begun, Breaks}
use Rattle.lines.proofs.DigitLaws.{leading_length, leading-most, numeral_all}

-- digits are digits
pub digit_is : (d : ℕ) → d < 10 → is_ascii_digit (48 + d) ≡ true
digit_is d lt = and_from _ _ (le-leb 48 (48 + d) (omega arith)) (le-leb (48 + d) 57 (omega arith))

-- written digits are all leading ones
pub leading-text : (most : ℕ) (ds rest : List ℕ) → AllBelowBase 10 ds → length ds ≤ most → leading most (text ds ++ rest) ≡ length ds + leading (most - length ds) rest
leading-text most [] rest under few = ap (λ k. leading k rest) (sym (sub-zero most)) ∙ sym (zero-add _)
leading-text zero (d ∷ ds) rest under few = absurd (omega arith)
leading-text (suc most) (d ∷ ds) rest under few =
    let less : most - length ds ≡ suc most - suc (length ds) = omega arith in
    cond-true (is_ascii_digit (48 + d)) _ _ (digit_is d under.0) ∙ ap (λ k. 1 + k) (leading-text most ds rest under.1 (omega arith))
    ∙ ap (λ k. 1 + (length ds + leading k rest)) less ∙ omega arith

pub worth-text : (ds : List ℕ) → worth (text ds) ≡ number_from_digits 10 ds
worth-text ds = ap (number_from_digits 10) (back ds)
  where
    back : (ds : List ℕ) → map (λ b. b - 48) (text ds) ≡ ds
    back [] = refl
    back (d ∷ ds) = let here : 48 + d - 48 ≡ d = omega arith in let rest = back ds in cc

-- the leading digits of a text are written digits
pub front-digits : (most k : ℕ) (bytes : List ℕ) → k ≤ leading most bytes → (take k bytes ≡ text (map (λ b. b - 48) (take k bytes))) × AllBelowBase 10 (map (λ b. b - 48) (take k bytes))
front-digits most zero bytes le = (refl, tt)
front-digits zero (suc k) bytes le = absurd (omega arith)
front-digits (suc most) (suc k) [] le = (refl, tt)
front-digits (suc most) (suc k) (b ∷ bs) le =
    ⊎_elim
    (λ e.
    let more : leading (suc most) (b ∷ bs) ≡ 1 + leading most bs = cond-true (is_ascii_digit b) _ _ e in
    let ih = front-digits most k bs (omega (arith, more)) in
    let low = leb-true 48 b (and_parts (leb 48 b) (leb b 57) e).0 in
    let high = leb-true b 57 (and_parts (leb 48 b) (leb b 57) e).1 in
    let here : b ≡ 48 + (b - 48) = omega arith in
    let rest = ih.0 in
    (cc, (omega arith, ih.1)))
    (λ e. let none : leading (suc most) (b ∷ bs) ≡ 0 = cond-false (is_ascii_digit b) _ _ e in absurd (omega (arith, none)))
    (cases_Bool (is_ascii_digit b))

-- what begins with digits does so whatever follows
pub leading_swap : (most : ℕ) (p q r : List ℕ) → length p ≤ leading most (p ++ q) → length p ≤ leading most (p ++ r)
leading_swap most [] q r le = omega arith
leading_swap zero (b ∷ p) q r le = le
leading_swap (suc most) (b ∷ p) q r le =
    ⊎_elim
    (λ e.
    let q-more : leading (suc most) (b ∷ (p ++ q)) ≡ 1 + leading most (p ++ q) = cond-true (is_ascii_digit b) _ _ e in
    let r-more : leading (suc most) (b ∷ (p ++ r)) ≡ 1 + leading most (p ++ r) = cond-true (is_ascii_digit b) _ _ e in
    let ih = leading_swap most p q r (omega (arith, q-more)) in
    omega (arith, r-more, ih))
    (λ e. let none : leading (suc most) (b ∷ (p ++ q)) ≡ 0 = cond-false (is_ascii_digit b) _ _ e in absurd (omega (arith, none)))
    (cases_Bool (is_ascii_digit b))

leading-nil : (most : ℕ) → leading most [] ≡ 0
leading-nil zero = refl
leading-nil (suc most) = refl

-- which way a test went
pub cond_ok : {A E : Type 0} (b : Bool) (x : A) (y : E) (n : A) → cond b (Ok x) (Err y) ≡ Ok n → (b ≡ true) × (x ≡ n)
cond_ok true x y n e = (refl, cc)
cond_ok false x y n e = absurd (grind arith)

pub cond_err : {A E : Type 0} (b : Bool) (x : A) (y e : E) → cond b (Ok x) (Err y) ≡ Err e → (b ≡ false) × (y ≡ e)
cond_err true x y e h = absurd (grind arith)
cond_err false x y e h = (refl, cc)

module _ (most : ℕ) (bytes : List ℕ) (n : ℕ) (f : Numeral most bytes n) where
  pub numeral-length : length bytes ≡ length f.digits
  numeral-length = ap length f.written ∙ length-map f.digits (λ d. 48 + d)

  -- a numeral's bytes are all leading digits, whatever follows
  pub numeral-leading : (rest : List ℕ) → leading most (bytes ++ rest) ≡ length bytes + leading (most - length bytes) rest
  numeral-leading rest =
      ap (λ b. leading most (b ++ rest)) f.written ∙ leading-text most f.digits rest f.each f.few
      ∙ ap (λ k. k + leading (most - k) rest) (sym numeral-length)

  pub numeral-whole : leading most bytes ≡ length bytes
  numeral-whole =
      ap (leading most) (sym (append-nil bytes)) ∙ numeral-leading [] ∙ ap (λ k. length bytes + k) (leading-nil (most - length bytes)) ∙ add-zero (length bytes)

  pub numeral-worth : worth bytes ≡ n
  numeral-worth = ap worth f.written ∙ worth-text f.digits ∙ sym f.worth

  -- the form, and its definition
  pub form-numeral : numeral most bytes ≡ Ok n
  form-numeral = numeral_all most bytes (omega (arith, numeral-length, f.some)) numeral-whole ∙ ap Ok numeral-worth

-- the first digits of a text are a numeral
pub front-form : (most k : ℕ) (bytes : List ℕ) → 1 ≤ k → k ≤ leading most bytes → Numeral most (take k bytes) (worth (take k bytes))
front-form most k bytes some le =
    let h = front-digits most k bytes le in
    let long : length (map (λ b. b - 48) (take k bytes)) ≡ k =
    length-map (take k bytes) (λ b. b - 48) ∙ length-take-le k bytes (omega (arith, leading_length most bytes)) in
    record {
      digits = map (λ b. b - 48) (take k bytes);
      each = h.1;
      some = omega (arith, long);
      few = omega (arith, long, leading-most most bytes);
      written = h.0;
      worth = refl;
    }

-- the definition of a numeral, and its form
pub numeral-form : (most : ℕ) (bytes : List ℕ) (n : ℕ) → numeral most bytes ≡ Ok n → Numeral most bytes n
numeral-form most bytes n e =
    let h = cond_ok (ltb 0 (leading most bytes) && eqb (leading most bytes) (length bytes)) (worth bytes) (leading most bytes) n e in
    let full = and_parts (ltb 0 (leading most bytes)) (eqb (leading most bytes) (length bytes)) h.0 in
    let some = ltb-true 0 (leading most bytes) full.0 in
    let all = eqb-true (leading most bytes) (length bytes) full.1 in
    let whole : take (length bytes) bytes ≡ bytes = take_all (length bytes) bytes (omega arith) in
    let f = front-form most (length bytes) bytes (omega (arith, all, some)) (omega (arith, all)) in
    let g : Numeral most bytes (worth bytes) = subst (λ b. Numeral most b (worth b)) whole f in
    subst (Numeral most bytes) h.1 g

-- any leading digits begin a numeral
pub digits_begin : (most k : ℕ) (bytes : List ℕ) → 1 ≤ most → k ≤ leading most bytes → Begun (λ b. (n : ℕ) × Numeral most b n) bytes k
digits_begin most zero bytes room le =
    (48 ∷ [], (0, record { digits = 0 ∷ []; each = (omega arith, tt); some = omega arith; few = room; written = refl; worth = refl }))
digits_begin most (suc k) bytes room le =
    ([], (worth (take (suc k) bytes), subst (λ b. Numeral most b (worth (take (suc k) bytes))) (sym (append-nil (take (suc k) bytes))) (front-form most (suc k) bytes (omega arith) le)))

-- a beginning whose bytes are leading digits of some text is so in its own
pub leading-begun : (most k : ℕ) (bytes more : List ℕ) → k ≤ length bytes → k ≤ leading most (take k bytes ++ more) → k ≤ leading most bytes
leading-begun most k bytes more le h =
    let long : length (take k bytes) ≡ k = length-take-le k bytes le in
    let swapped = leading_swap most (take k bytes) more (drop k bytes) (omega (arith, long)) in
    let whole : leading most (take k bytes ++ drop k bytes) ≡ leading most bytes = ap (leading most) (take-append-drop k bytes) in
    omega (arith, swapped, whole, long)

-- the leading digits are the longest beginning that begins a numeral
pub numeral-breaks : (most : ℕ) (bytes : List ℕ) → 1 ≤ most → Breaks (λ b. (n : ℕ) × Numeral most b n) bytes (leading most bytes)
numeral-breaks most bytes room =
    record {
      within = leading_length most bytes;
      begun = digits_begin most (leading most bytes) bytes room (omega arith);
      longest = λ k le v.
          let all = numeral-whole most (take k bytes ++ v.0) v.1.0 v.1.1 in
          leading-begun most k bytes v.0 le (omega (arith, all, length-append (take k bytes) v.0, length-take-le k bytes le));
    }
