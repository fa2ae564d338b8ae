-- A value without its sign is read exactly when it has that form, and how far a text follows it.
use Rattle.std.proofs.Common.{◌≡◌, ℕ, zero, suc, ◌+◌, ◌-◌, ◌*◌, ◌^◌, ◌≤◌, true, false, cond, eqb, List, [], ◌∷◌, ◌++◌, length, take, drop, Ok, Err, Result, sym, refl, ap, ◌∙◌, subst, inl, inr, ⊎_elim, add-zero, arith}
use Rattle.std.proofs.lemmas.List.{append-nil, length-drop, take_all, take_at, drop_at, take-append-drop}
use Rattle.std.proofs.lemmas.Bool.{cond-true, cond-false, cases_Bool, eqb-true, eqb-false}
use Rattle.lines.specs.Digits.{leading, worth, numeral}
use Rattle.lines.specs.Forms.{Numeral, Size}
use Rattle.lines.specs.Numbers.{behind, pointed, size_of}
use Rattle.lines.proofs.FormLaws.{front-form, numeral-form, form-numeral, numeral-leading, numeral-whole, numeral-worth, numeral-length}
use Rattle.lines.proofs.ChannelLaws.{numeral_err}
use Rattle.lines.proofs.NumberLaws.{size-behind, behind-empty}

abbrev pub SizeForm : List ℕ → Type 0
SizeForm bytes = (n : ℕ) × Size bytes n

-- no digit stands at a point
leading_point : (most : ℕ) (bs : List ℕ) → leading most (46 ∷ bs) ≡ 0
leading_point zero bs = refl
leading_point (suc most) bs = refl

pub whole-leading : (front : List ℕ) (units : ℕ) (bs : List ℕ) → Numeral 6 front units → leading 6 (front ++ (46 ∷ bs)) ≡ length front
whole-leading front units bs f =
    numeral-leading 6 front units f (46 ∷ bs) ∙ ap (λ k. length front + k) (leading_point (6 - length front) bs) ∙ add-zero (length front)

-- the form of a size, and its definition
pub form-size : (bytes : List ℕ) (n : ℕ) → Size bytes n → size_of bytes ≡ Ok n
form-size bytes n (inl w) =
    let f = w.whole in
    let all = take_all (length bytes) bytes (omega arith) in
    size-behind bytes (length bytes) w.units (sym (numeral-whole 6 bytes w.units f)) (sym (ap worth all ∙ numeral-worth 6 bytes w.units f))
    (λ e. absurd (omega (arith, e, numeral-length 6 bytes w.units f, f.some)))
    ∙ behind-empty w.units (length bytes) (drop (length bytes) bytes) (length-drop (length bytes) bytes ∙ omega arith)
    ∙ ap Ok (sym w.worth)
form-size bytes n (inr p) =
    let k = length p.front in
    let f = p.whole in
    let lead : k ≡ leading 6 bytes = sym (ap (leading 6) p.written ∙ whole-leading p.front p.units p.back f) in
    let front : take k bytes ≡ p.front = ap (take k) p.written ∙ take_at p.front (46 ∷ p.back) k refl in
    let rest : drop k bytes ≡ 46 ∷ p.back = ap (drop k) p.written ∙ drop_at p.front (46 ∷ p.back) k refl in
    size-behind bytes k p.units lead (sym (ap worth front ∙ numeral-worth 6 p.front p.units f))
    (λ e. absurd (omega (arith, e, numeral-length 6 p.front p.units f, f.some)))
    ∙ ap (behind p.units k) rest
    ∙ ap (pointed p.units k (length p.back)) (form-numeral 3 p.back p.parts p.fraction)
    ∙ ap Ok (sym p.worth)

-- what stands behind a whole part
behind-form : (bytes : List ℕ) (k n : ℕ) → Numeral 6 (take k bytes) (worth (take k bytes)) → (rest : List ℕ) → take k bytes ++ rest ≡ bytes
    → behind (worth (take k bytes)) k rest ≡ Ok n → Size bytes n
behind-form bytes k n f [] e h =
    let all : take k bytes ≡ bytes = sym (append-nil (take k bytes)) ∙ e in
    let worth-is : n ≡ worth (take k bytes) * 1000 = cc in
    inl (record { units = worth (take k bytes); whole = subst (λ b. Numeral 6 b (worth (take k bytes))) all f; worth = worth-is })
behind-form bytes k n f (b ∷ bs) e h = ⊎_elim (λ t. at_point t (numeral 3 bs) refl) (λ t. absurd (elsewhere t)) (cases_Bool (eqb b 46))
  where
    elsewhere : eqb b 46 ≡ false → ⊥
    elsewhere t =
        let broken : behind (worth (take k bytes)) k (b ∷ bs) ≡ Err k = cond-false (eqb b 46) _ _ t in
        grind arith

    at_point : eqb b 46 ≡ true → (o : Result ℕ ℕ) → numeral 3 bs ≡ o → Size bytes n
    at_point t (Ok m) o =
        let same : behind (worth (take k bytes)) k (b ∷ bs) ≡ Ok (worth (take k bytes) * 1000 + m * 10 ^ (3 - length bs)) =
        cond-true (eqb b 46) _ _ t ∙ ap (pointed (worth (take k bytes)) k (length bs)) o in
        let point : b ≡ 46 = eqb-true b 46 t in
        let worth-is : n ≡ worth (take k bytes) * 1000 + m * 10 ^ (3 - length bs) = cc in
        inr (record {
          front = take k bytes;
          back = bs;
          units = worth (take k bytes);
          parts = m;
          whole = f;
          fraction = numeral-form 3 bs m o;
          written = sym e ∙ ap (λ x. take k bytes ++ (x ∷ bs)) point;
          worth = worth-is;
        })
    at_point t (Err m) o =
        let same : behind (worth (take k bytes)) k (b ∷ bs) ≡ Err (k + 1 + m) = cond-true (eqb b 46) _ _ t ∙ ap (pointed (worth (take k bytes)) k (length bs)) o in
        absurd (grind arith)

pub size-form : (bytes : List ℕ) (n : ℕ) → size_of bytes ≡ Ok n → Size bytes n
size-form bytes n e =
    ⊎_elim
    (λ t. let none : size_of bytes ≡ Err 0 = cond-true (eqb (leading 6 bytes) 0) _ _ t in absurd (grind arith))
    (λ t.
    let k = leading 6 bytes in
    let some : 1 ≤ leading 6 bytes = let ne = eqb-false (leading 6 bytes) 0 t in omega (arith, ne) in
    behind-form bytes k n (front-form 6 k bytes some (omega arith)) (drop k bytes) (take-append-drop k bytes)
    (sym (cond-false (eqb (leading 6 bytes) 0) _ _ t) ∙ e))
    (cases_Bool (eqb (leading 6 bytes) 0))

-- how far a text follows the form of a size
abbrev pub far_behind : ℕ → List ℕ → ℕ
far_behind k [] = k
far_behind k (b ∷ bs) = cond (eqb b 46) (k + 1 + leading 3 bs) k

abbrev pub far : List ℕ → ℕ
far text = cond (eqb (leading 6 text) 0) 0 (far_behind (leading 6 text) (drop (leading 6 text) text))

behind_err : (w k : ℕ) (rest : List ℕ) (at : ℕ) → behind w k rest ≡ Err at → far_behind k rest ≡ at
behind_err w k [] at e = absurd (grind arith)
behind_err w k (b ∷ bs) at e = ⊎_elim (λ t. at_point t (numeral 3 bs) refl) elsewhere (cases_Bool (eqb b 46))
  where
    elsewhere : eqb b 46 ≡ false → far_behind k (b ∷ bs) ≡ at
    elsewhere t =
        let broken : behind w k (b ∷ bs) ≡ Err k = cond-false (eqb b 46) _ _ t in
        let same : k ≡ at = cc in
        cond-false (eqb b 46) _ _ t ∙ same

    at_point : eqb b 46 ≡ true → (o : Result ℕ ℕ) → numeral 3 bs ≡ o → far_behind k (b ∷ bs) ≡ at
    at_point t (Ok m) o =
        let same : behind w k (b ∷ bs) ≡ Ok (w * 1000 + m * 10 ^ (3 - length bs)) = cond-true (eqb b 46) _ _ t ∙ ap (pointed w k (length bs)) o in
        absurd (grind arith)
    at_point t (Err m) o =
        let broken : behind w k (b ∷ bs) ≡ Err (k + 1 + m) = cond-true (eqb b 46) _ _ t ∙ ap (pointed w k (length bs)) o in
        let same : k + 1 + m ≡ at = cc in
        cond-true (eqb b 46) _ _ t ∙ ap (λ j. k + 1 + j) (numeral_err 3 bs m o) ∙ same

pub size_err : (bytes : List ℕ) (at : ℕ) → size_of bytes ≡ Err at → far bytes ≡ at
size_err bytes at e =
    ⊎_elim
    (λ t.
    let none : size_of bytes ≡ Err 0 = cond-true (eqb (leading 6 bytes) 0) _ _ t in
    let same : 0 ≡ at = cc in
    cond-true (eqb (leading 6 bytes) 0) _ _ t ∙ same)
    (λ t.
    cond-false (eqb (leading 6 bytes) 0) _ _ t
    ∙ behind_err (worth (take (leading 6 bytes) bytes)) (leading 6 bytes) (drop (leading 6 bytes) bytes) at (sym (cond-false (eqb (leading 6 bytes) 0) _ _ t) ∙ e))
    (cases_Bool (eqb (leading 6 bytes) 0))
