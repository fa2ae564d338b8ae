-- Values for each epoch. Assumes nothing.
use Rattle.std.specs.Prelude.{ℕ, cond, ◌==◌}

-- one epoch's value is another, and the others are as they were
abbrev pub at : {A : Type 0} → (ℕ → A) → ℕ → A → ℕ → A
at f epoch x = λ e. cond (e == epoch) x (f e)
