-- How many boards are in a set.
use Rattle.std.proofs.Common.{◌≡◌, ℕ, zero, suc, ◌+◌, ◌<◌, ◌≤◌, Bool, true, false, cond, ◌⊎◌, List, length, get_or, take, count_by, refl, sym, ap, ◌∙◌, inl, inr, ⊎_elim, add-one, arith}
use Rattle.std.proofs.lemmas.Bool.{cases_Bool, cases_lt}
use Rattle.std.proofs.lemmas.List.Sums.{count_by_more_yes, count_by_more_no}
use Rattle.std.proofs.lemmas.List.{get_or_past, take_all}
use Rattle.agreement.specs.Sets.{count}
use Rattle.agreement.specs.Majorities.{Shared}

-- the boards of a table that hold true, counted up to board n
pub count-take : (on : List Bool) (n : ℕ) → count_by (λ b. b) (take n on) ≡ count n (λ c. get_or on c false)
count-take on zero = refl
count-take on (suc n) = ⊎_elim
    (λ under. ⊎_elim
    (λ is. rw is (ap (λ i. count_by (λ b. b) (take i on)) (sym (add-one n)) ∙ count_by_more_yes (λ b. b) on n false under is ∙ omega (arith, count-take on n)))
    (λ is. rw is (ap (λ i. count_by (λ b. b) (take i on)) (sym (add-one n)) ∙ count_by_more_no (λ b. b) on n false under is ∙ omega (arith, count-take on n)))
    (cases_Bool (get_or on n false)))
    (λ over. rw (get_or_past on n false over, take_all (suc n) on (omega arith)) (ap (count_by (λ b. b)) (sym (take_all n on over)) ∙ omega (arith, count-take on n)))
    (cases_lt n (length on))

-- a larger set counts no less
pub count-more : (n : ℕ) (u w : ℕ → Bool) → ((c : ℕ) → c < n → u c ≡ true → w c ≡ true) → count n u ≤ count n w
count-more zero u w f = omega arith
count-more (suc n) u w f = go (count-more n u w (λ c l. f c (omega arith))) (cases_Bool (u n)) (cases_Bool (w n))
  where
    go : count n u ≤ count n w → (u n ≡ true) ⊎ (u n ≡ false) → (w n ≡ true) ⊎ (w n ≡ false) → cond (u n) 1 0 + count n u ≤ cond (w n) 1 0 + count n w
    go h (inl p) q = rw (p, f n (omega arith) p) (omega arith)
    go h (inr p) (inl q) = rw (p, q) (omega arith)
    go h (inr p) (inr q) = rw (p, q) (omega arith)

-- all boards count
pub count-whole : (n : ℕ) (w : ℕ → Bool) → ((c : ℕ) → c < n → w c ≡ true) → count n w ≡ n
count-whole zero w f = refl
count-whole (suc n) w f = rw (f n (omega arith)) (omega (arith, count-whole n w (λ c l. f c (omega arith))))

-- sets that share no board count together no more than there are
pub count-apart : (n : ℕ) (u w : ℕ → Bool) → Shared n u w ⊎ (count n u + count n w ≤ n)
count-apart zero u w = inr (omega arith)
count-apart (suc n) u w = go (count-apart n u w) (cases_Bool (u n)) (cases_Bool (w n))
  where
    go : Shared n u w ⊎ (count n u + count n w ≤ n) → (u n ≡ true) ⊎ (u n ≡ false) → (w n ≡ true) ⊎ (w n ≡ false)
        → Shared (suc n) u w ⊎ ((cond (u n) 1 0 + count n u) + (cond (w n) 1 0 + count n w) ≤ suc n)
    go (inl s) p q = inl (s.0, omega (arith, s.1), s.2, s.3)
    go (inr h) (inl p) (inl q) = inl (n, omega arith, p, q)
    go (inr h) (inl p) (inr q) = inr (rw (p, q) (omega arith))
    go (inr h) (inr p) (inl q) = inr (rw (p, q) (omega arith))
    go (inr h) (inr p) (inr q) = inr (rw (p, q) (omega arith))
