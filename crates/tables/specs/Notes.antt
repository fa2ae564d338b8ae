-- The kinds of note that both services give. Assumes nothing.
use Rattle.std.specs.Prelude.{ℕ, cond, ℤ, pos, Ok, Err, Result, ◌==◌}
use Rattle.service.specs.Doings.{nothing}
use Rattle.service.specs.declared.reply.Note.{Note}
use Rattle.tables.specs.declared.notes.Undo.{Undo}
use Rattle.tables.specs.declared.notes.Undo.TheVariants.{Nothing, PutIn, TakenOut}
use Rattle.tables.specs.declared.notes.UnknownKind.{UnknownKind}

-- kind 1: the newest element was put in
abbrev pub put_in : Note
put_in = record { kind = 1; place = 0; value = pos 0; channel = 0 }

-- kind 2: an element was taken out of a place
abbrev pub taken_out : ℕ → ℤ → ℕ → Note
taken_out place value channel = record { kind = 2; place = place; value = value; channel = channel }

-- one of four by the kind of a note: nothing to undo, put in, taken out, or a kind that is not known
abbrev pub by_kind : {A : Type 0} → Note → A → A → A → A → A
by_kind note nothing put_in taken_out unknown = cond (note.kind == 0) nothing (cond (note.kind == 1) put_in (cond (note.kind == 2) taken_out unknown))

-- the note that says how a doing is taken back
abbrev pub note_of : Undo → Note
note_of Nothing = nothing
note_of PutIn = put_in
note_of (TakenOut place value channel) = taken_out place value channel

-- what a note says, if its kind is one of the three
abbrev pub undo_of : Note → Result Undo UnknownKind
undo_of note = by_kind note (Ok Nothing) (Ok PutIn) (Ok (TakenOut note.place note.value note.channel)) (Err (record { kind = note.kind }))
