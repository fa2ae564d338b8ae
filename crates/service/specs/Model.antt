-- What a service means: its states, what a request does to one, and how a note takes a doing back. Assumes nothing.
use Rattle.std.specs.Prelude.{◌≡◌, Bool, true, false, Some, None, Option}
use Rattle.service.specs.declared.doing.Doing.{Doing}
use Rattle.service.specs.declared.request.Request.{Request}
use Rattle.service.specs.declared.reply.Note.{Note}

-- Everything that a caller may know of a service, over the states that it can have.
pub record Model (State : Type 0) : Type 0 where
  -- the state of a cleared service
  pub empty : State
  -- what a request does: the reply and the note that it gives, and the state that it leaves
  pub doing : State → Request → Doing State
  -- whether a note fits a state, and the state that the undo of a note that fits leaves
  pub fits : State → Note → Bool
  pub undoing : State → Note → State
  -- which states a service can have
  pub sound : State → Bool

-- The law that every service shows: a doing's note fits the state that the doing left, and its undo gives back the state
-- before. So it is in every state that a service can have: the empty one and whatever a doing leaves.
pub record Lawful {State : Type 0} (m : Model State) : Type 0 where
  pub sound_empty : m.sound m.empty ≡ true
  pub sound_after : (s : State) (q : Request) → m.sound s ≡ true → m.sound (m.doing s q).after ≡ true
  pub fitting : (s : State) (q : Request) → m.sound s ≡ true → m.fits (m.doing s q).after (m.doing s q).note ≡ true
  pub undone : (s : State) (q : Request) → m.sound s ≡ true → m.undoing (m.doing s q).after (m.doing s q).note ≡ s

-- what undoing a note on a state gives: a service in the state that the undo leaves, or none exactly where the note does not fit
abbrev pub Undone : {S State : Type 0} → Model State → (S → State) → State → Note → Option S → Type 0
Undone m state s note (Some x) = (m.fits s note ≡ true) × (state x ≡ m.undoing s note)
Undone m state s note None = m.fits s note ≡ false
