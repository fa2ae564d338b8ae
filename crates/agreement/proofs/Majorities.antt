-- The laws of majorities.
use Rattle.std.proofs.Common.{◌≡◌, ℕ, ◌+◌, ◌<◌, ◌≤◌, Bool, true, ◌⊎◌, inl, inr, arith}
use Rattle.std.proofs.lemmas.Bool.{leb-true, le-leb}
use Rattle.agreement.specs.Sets.{count}
use Rattle.agreement.specs.Majorities.{quorum, speaks, Shared}
use Rattle.agreement.proofs.Counting.{count-more, count-whole, count-apart}

pub speaks-share : (n : ℕ) (u w : ℕ → Bool) → speaks n u ≡ true → speaks n w ≡ true → Shared n u w
speaks-share n u w p q = go (count-apart n u w)
  where
    go : Shared n u w ⊎ (count n u + count n w ≤ n) → Shared n u w
    go (inl s) = s
    go (inr h) = absurd (omega (arith, leb-true (quorum n) (count n u) p, leb-true (quorum n) (count n w) q))

pub speaks_more : (n : ℕ) (u w : ℕ → Bool) → ((c : ℕ) → c < n → u c ≡ true → w c ≡ true) → speaks n u ≡ true → speaks n w ≡ true
speaks_more n u w f p = le-leb _ _ (omega (arith, count-more n u w f, leb-true (quorum n) (count n u) p))

pub speaks-whole : (n : ℕ) (w : ℕ → Bool) → 0 < n → ((c : ℕ) → c < n → w c ≡ true) → speaks n w ≡ true
speaks-whole n w some f = le-leb _ _ (omega (arith, count-whole n w f))
