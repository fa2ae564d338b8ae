-- A doing that is undone. Assumes nothing.
use Rattle.std.specs.Prelude.{◌≡◌, Some, None, Option}

-- there is a service, and it is in the state s again
abbrev pub Back : {S State : Type 0} → (S → State) → State → Option S → Type 0
Back state s (Some x) = state x ≡ s
Back state s None = ⊥
