-- What a doing gives and leaves, whether a service or its state is spoken of. Assumes nothing.
use Rattle.std.specs.Prelude.{◌≡◌, ℤ, pos, Ok, Err, Result}
use Rattle.service.specs.declared.doing.Doing.{Doing}
use Rattle.service.specs.declared.doing.Done.{Done}
use Rattle.service.specs.declared.reply.Code.{Code}
use Rattle.service.specs.declared.reply.Code.TheVariants as codes
use Rattle.service.specs.Codes.{code_of}
use Rattle.service.specs.declared.reply.NotDone.{NotDone}
use Rattle.service.specs.declared.reply.Note.{Note}

-- the note of kind 0, which undoes nothing
abbrev pub nothing : Note
nothing = record { kind = 0; place = 0; value = pos 0; channel = 0 }

-- an operation that is not done: the code carries number 0, nothing is to be undone, and nothing has changed
abbrev pub refused : {S : Type 0} → Code → S → Doing S
refused code s = record { after = s; reply = record { code = code; number = pos 0 }; note = nothing }

-- an operation that is done, with the number that it gives
abbrev pub done : {S : Type 0} → S → ℤ → Note → Doing S
done s number note = record { after = s; reply = record { code = codes.Done; number = number }; note = note }

-- what comes of an operation: it is done, or not for a reason, which gives the code
abbrev pub doing_of : {S : Type 0} → S → Result (Done S) NotDone → Doing S
doing_of s (Ok d) = done d.after d.number d.note
doing_of s (Err why) = refused (code_of why) s

-- a service's doing is one of its state: the same reply and note, and the state that is left
abbrev pub Shows : {S T : Type 0} → (S → T) → Doing S → Doing T → Type 0
Shows state r d = (state r.after ≡ d.after) × (r.reply ≡ d.reply) × (r.note ≡ d.note)
