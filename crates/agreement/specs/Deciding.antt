-- The rule by which a set becomes decided: all that have proposed by then, if they are a majority. Assumes nothing.
use Rattle.std.specs.Prelude.{◌≡◌, ℕ, Bool, cond, is_some, Some, None, Option}
use Rattle.agreement.specs.Epochs.{at}
use Rattle.agreement.specs.Majorities.{speaks}
use Rattle.agreement.specs.Standings.{Standing}

-- what is decided stays; else all that have proposed are, if they are a majority
abbrev pub settled : ℕ → (ℕ → Bool) → Option (ℕ → Bool) → Option (ℕ → Bool)
settled n proposers (Some w) = Some w
settled n proposers None = cond (speaks n proposers) (Some proposers) None

-- the same in one epoch, and nothing new elsewhere
abbrev pub settling : Standing → ℕ → Standing
settling s epoch = record s { decided = at s.decided epoch (settled s.size (s.proposed epoch) (s.decided epoch)) }

-- in each epoch in which a majority have proposed a set is decided, and in no other
pub record Prompt (s : Standing) : Type 0 where
  pub decides : (e : ℕ) → is_some (s.decided e) ≡ speaks s.size (s.proposed e)
