-- The rules of the stack, on the list of its values, the newest first. Assumes nothing.
use Rattle.std.specs.Prelude.{ℕ, suc, Bool, true, false, cond, List, [], ◌∷◌, length, drop, ℤ, pos, nat_le, nat_lt}
use Rattle.service.specs.Doings.{done, refused}
use Rattle.service.specs.Model.{Model}
use Rattle.service.specs.declared.doing.Doing.{Doing}
use Rattle.service.specs.declared.reply.Code.TheVariants.{Full, Absent, Foreign}
use Rattle.service.specs.declared.reply.Note.{Note}
use Rattle.service.specs.declared.request.Operation.{Operation}
use Rattle.service.specs.declared.request.Operation.TheVariants.{Put, Drop, Count, Push, Pop}
use Rattle.tables.specs.Notes.{put_in, taken_out, by_kind}

-- how many values a stack can have
abbrev pub most : ℕ
most = 16

-- push: full at the most values, else the value is the newest, and the new depth is given
abbrev pub push : List ℤ → ℤ → Doing (List ℤ)
push values value = cond (nat_lt (length values) most) (done (value ∷ values) (pos (suc (length values))) put_in) (refused Full values)

-- pop: absent when empty, else the newest value is taken out and given
abbrev pub pop : List ℤ → Doing (List ℤ)
pop [] = refused Absent []
pop (value ∷ values) = done values value (taken_out 0 value 0)

-- what each operation does; those of other services are not done
abbrev pub operate : List ℤ → Operation → ℤ → Doing (List ℤ)
operate values Push value = push values value
operate values Pop value = pop values
operate values Put value = refused Foreign values
operate values Drop value = refused Foreign values
operate values Count value = refused Foreign values

-- a note of a push fits unless the stack is empty, and one of a pop where there is a place left
abbrev pub fits : List ℤ → Note → Bool
fits values note = by_kind note true (nat_lt 0 (length values)) (nat_lt (length values) most) false

-- the undo of a push takes the newest value off, and that of a pop puts the note's value back
abbrev pub undoing : List ℤ → Note → List ℤ
undoing values note = by_kind note values (drop 1 values) (note.value ∷ values) values

-- the stack as a service
abbrev pub stack : Model (List ℤ)
stack = record {
  empty = [];
  doing = λ values q. operate values q.operation q.first;
  fits = fits;
  undoing = undoing;
  sound = λ values. nat_le (length values) most;
}
