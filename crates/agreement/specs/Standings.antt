-- Where an agreement stands.
use Rattle.std.specs.Prelude.{ℕ, Bool, Option}
use Rattle.agreement.specs.Epochs.{at}
use Rattle.agreement.specs.Sets.{joined}

pub record Standing : Type 0 where
  -- how many boards there are
  pub size : ℕ
  -- whether, in an epoch, a board has proposed
  pub proposed : ℕ → ℕ → Bool
  -- the decided set of an epoch, or none
  pub decided : ℕ → Option (ℕ → Bool)

-- those that have proposed, with one board more in one epoch
abbrev pub adding : (ℕ → ℕ → Bool) → ℕ → ℕ → ℕ → ℕ → Bool
adding proposed epoch board = at proposed epoch (joined board (proposed epoch))

-- the same, but for a board that has proposed in an epoch
abbrev pub proposing : Standing → ℕ → ℕ → Standing
proposing s epoch board = record s { proposed = adding s.proposed epoch board }
