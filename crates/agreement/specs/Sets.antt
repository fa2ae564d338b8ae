-- Sets of boards, as tests of a board's number. Assumes nothing.
use Rattle.std.specs.Prelude.{◌≡◌, ℕ, zero, suc, ◌+◌, Bool, true, false, cond, ◌&&◌, ◌||◌, ◌==◌, nat_lt}

-- no board
abbrev pub nobody : ℕ → Bool
nobody = λ c. false

-- a set with one board more
abbrev pub joined : ℕ → (ℕ → Bool) → ℕ → Bool
joined board w = λ c. w c || c == board

-- the boards of one set and of another
abbrev pub either : (ℕ → Bool) → (ℕ → Bool) → ℕ → Bool
either u w = λ c. u c || w c

-- all boards below n, of the 7 that there are at most
abbrev pub boards_below : ℕ → ℕ → Bool
boards_below n = λ c. nat_lt c n && nat_lt c 7

-- how many boards below n are in a set
abbrev pub count : ℕ → (ℕ → Bool) → ℕ
count zero w = 0
count (suc n) w = cond (w n) 1 0 + count n w

-- each board of the first set is in the second
abbrev pub Within : (ℕ → Bool) → (ℕ → Bool) → Type 0
Within u w = (c : ℕ) → u c ≡ true → w c ≡ true
