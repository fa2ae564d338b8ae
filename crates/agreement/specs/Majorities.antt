-- Which sets of boards may speak for all, and the laws that make them fit for it. Assumes nothing.
use Rattle.std.specs.Prelude.{◌≡◌, ℕ, ◌+◌, ◌/◌, ◌<◌, Bool, true, nat_le}
use Rattle.agreement.specs.Sets.{count}

-- how many of n boards make a majority
abbrev pub quorum : ℕ → ℕ
quorum n = n / 2 + 1

-- whether a set holds a majority of the boards below n, and so may speak for them
abbrev pub speaks : ℕ → (ℕ → Bool) → Bool
speaks n w = nat_le (quorum n) (count n w)

-- some board below n is in both sets
abbrev pub Shared : ℕ → (ℕ → Bool) → (ℕ → Bool) → Type 0
Shared n u w = (c : ℕ) × (c < n) × (u c ≡ true) × (w c ≡ true)

-- Two sets that may speak share a board; a set that holds one which may speak may, too; and all boards together may.
pub record MajorityLaws : Type 0 where
  pub share : (n : ℕ) (u w : ℕ → Bool) → speaks n u ≡ true → speaks n w ≡ true → Shared n u w
  pub more : (n : ℕ) (u w : ℕ → Bool) → ((c : ℕ) → c < n → u c ≡ true → w c ≡ true) → speaks n u ≡ true → speaks n w ≡ true
  pub whole : (n : ℕ) (w : ℕ → Bool) → 0 < n → ((c : ℕ) → c < n → w c ≡ true) → speaks n w ≡ true
