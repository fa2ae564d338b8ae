-- Laws of a text cut at marks.
use Rattle.std.proofs.Common.{◌≡◌, ℕ, zero, suc, ◌+◌, ◌-◌, ◌<◌, ◌≤◌, eqb, List, [], ◌∷◌, ◌++◌, length, take, drop, Some, None, Option, sym, refl, ap, ◌∙◌, add-zero, add_assoc, arith, Bor}
use Rattle.std.proofs.lemmas.List.{take_all, take_at, drop_at, drop-drop, append_assoc, length-append, length-drop, length_push}
use Rattle.std.proofs.lemmas.List.Splits.{slice_split-cons_yes, slice_split-cons_no, length-slice_split}
use Rattle.std.proofs.lemmas.Bool.{eq-eqb, ne_eqb}
use Rattle.std.specs.List.{slice_get, onto_first}
use Rattle.lines.specs.Parts.{parts, start, beside, rejoined, First, Absent}

-- with a first mark, the text before it is the first part, and the others are those of the text behind it
pub parts_first : (mark : ℕ) (text : List ℕ) (at : ℕ) → First mark text at → parts mark text ≡ take at text ∷ parts mark (drop (at + 1) text)
parts_first mark [] at f = absurd (omega (arith, f.within))
parts_first mark (b ∷ bs) zero f = slice_split-cons_yes (λ x. eqb x mark) b bs (eq-eqb b mark f.here)
parts_first mark (b ∷ bs) (suc n) f =
    let rest : First mark bs n = record { within = omega (arith, f.within); here = f.here; before = λ k lt. f.before (suc k) (omega arith) } in
    let next : suc (n + 1) ≡ suc n + 1 = omega arith in
    slice_split-cons_no (λ x. eqb x mark) b bs (ne_eqb b mark (f.before 0 (omega arith)))
    ∙ ap (onto_first b) (parts_first mark bs n rest)
    ∙ ap (λ k. (b ∷ take n bs) ∷ parts mark (drop k (b ∷ bs))) next

-- with no mark, the whole text is the one part
pub parts-absent : (mark : ℕ) (text : List ℕ) → Absent mark text → parts mark text ≡ text ∷ []
parts-absent mark [] none = refl
parts-absent mark (b ∷ bs) none =
    slice_split-cons_no (λ x. eqb x mark) b bs (ne_eqb b mark (none 0 (omega arith)))
    ∙ ap (onto_first b) (parts-absent mark bs (λ k lt. none (suc k) (omega arith)))

-- after some parts and their marks, the rest of a text has the other parts
pub record Passed (mark : ℕ) (text rest : List ℕ) (at count : ℕ) : Type 0 where
  pub here : rest ≡ drop at text
  pub within : at ≤ length text
  pub others : (n : ℕ) → slice_get (parts mark text) (count + n) ≡ slice_get (parts mark rest) n
  pub begins : (n : ℕ) → start (parts mark text) (count + n) ≡ at + start (parts mark rest) n

pub passed_more : (mark : ℕ) (text rest p more : List ℕ) (at count : ℕ) → Passed mark text rest at count
    → parts mark rest ≡ p ∷ parts mark more → rest ≡ p ++ (mark ∷ more) → Passed mark text more (at + (length p + 1)) (count + 1)
passed_more mark text rest p more at count h e whole =
    let long : length rest ≡ length p + suc (length more) = ap length whole ∙ length-append p (mark ∷ more) in
    let short : length rest ≡ length text - at = ap length h.here ∙ length-drop at text in
    let next : (n : ℕ) → count + 1 + n ≡ count + suc n = λ n. omega arith in
    record {
      here =
          sym (drop_at (p ++ (mark ∷ [])) more (length p + 1) (length_push p mark))
          ∙ ap (drop (length p + 1)) (append_assoc p (mark ∷ []) more ∙ sym whole ∙ h.here)
          ∙ drop-drop (length p + 1) at text;
      within = omega (arith, h.within);
      others = λ n. ap (slice_get (parts mark text)) (next n) ∙ h.others (suc n) ∙ ap (λ l. slice_get l (suc n)) e;
      begins = λ n. ap (start (parts mark text)) (next n) ∙ h.begins (suc n) ∙ ap (λ l. at + start l (suc n)) e ∙ sym (add_assoc at (length p + 1) _);
    }

-- where no mark is left, there is no further part
pub passed_last : (mark : ℕ) (text rest p : List ℕ) (at count n : ℕ) → Passed mark text rest at count
    → parts mark rest ≡ p ∷ [] → count < n → slice_get (parts mark text) n ≡ None
passed_last mark text rest p at count n h e lt =
    let further : n ≡ count + suc (n - count - 1) = omega arith in
    ap (slice_get (parts mark text)) further ∙ h.others (suc (n - count - 1)) ∙ ap (λ l. slice_get l (suc (n - count - 1))) e

-- a first part begins the text
pub rejoined_part : (mark : ℕ) (p : List ℕ) (rest : Option (Bor (List ℕ))) → p ≡ take (length p) (rejoined mark p rest)
rejoined_part mark p None = sym (take_all (length p) p (omega arith))
rejoined_part mark p (Some rest) = sym (take_at p (mark ∷ rest.now) (length p) refl)

-- the first part is what stands before the mark, whatever follows
pub beside_first : (mark : ℕ) (p : List ℕ) (rest : Option (Bor (List ℕ))) → slice_get (beside mark p rest) 0 ≡ Some p
beside_first mark p None = refl
beside_first mark p (Some rest) = refl

-- the part behind those that were passed
pub passed_part : (mark : ℕ) (text rest : List ℕ) (at count : ℕ) → Passed mark text rest at count → slice_get (parts mark text) count ≡ slice_get (parts mark rest) 0
passed_part mark text rest at count h = ap (slice_get (parts mark text)) (sym (add-zero count)) ∙ h.others 0

pub passed_start : (mark : ℕ) (text rest : List ℕ) (at count : ℕ) → Passed mark text rest at count → start (parts mark text) count ≡ at
passed_start mark text rest at count h = ap (start (parts mark text)) (sym (add-zero count)) ∙ h.begins 0 ∙ add-zero at

-- a text has at least one part
pub parts-some : (mark : ℕ) (text : List ℕ) → 0 < length (parts mark text)
parts-some mark text = omega (arith, length-slice_split (λ b. eqb b mark) text)
