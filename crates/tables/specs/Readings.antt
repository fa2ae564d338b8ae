-- The rules of the readings table, on the list of its rows, the newest last. Assumes nothing.
use Rattle.std.specs.Prelude.{ℕ, ◌-◌, Bool, true, false, cond, not, ◌&&◌, List, [], ◌∷◌, ◌++◌, length, take, ℤ, pos, Some, None, Option, nat_le, nat_lt}
use Rattle.std.specs.List.{insert, remove}
use Rattle.lists.specs.Membership.{member, distinct}
use Rattle.lists.specs.Places.{place}
use Rattle.lists.specs.Ranges.{between}
use Rattle.service.specs.Doings.{done, refused, nothing}
use Rattle.service.specs.Model.{Model}
use Rattle.service.specs.declared.doing.Doing.{Doing}
use Rattle.service.specs.declared.reply.Code.TheVariants.{Already, Full, Absent, Foreign}
use Rattle.service.specs.declared.reply.Note.{Note}
use Rattle.service.specs.declared.request.Operation.{Operation}
use Rattle.service.specs.declared.request.Operation.TheVariants.{Put, Drop, Count, Push, Pop}
use Rattle.tables.specs.Notes.{put_in, taken_out, by_kind}
use Rattle.tables.specs.Rows.{row, same_row, before_row, row_of}
use Rattle.tables.specs.declared.row.Row.{Row}

-- how many rows a table can have
abbrev pub most : ℕ
most = 32

-- an operation that is done gives the number of rows that there are then
abbrev pub counted : List Row → Note → Doing (List Row)
counted rows note = done rows (pos (length rows)) note

-- put: already if the row is there, full at the most rows, else the row goes last
abbrev pub put_row : List Row → Row → Doing (List Row)
put_row rows new =
    cond (member same_row new rows) (refused Already rows)
    (cond (nat_lt (length rows) most) (counted (rows ++ new ∷ []) put_in) (refused Full rows))

-- drop: absent if the row is not there, else it is taken out of its place
abbrev pub drop_row : List Row → Row → Doing (List Row)
drop_row rows old =
    cond (member same_row old rows)
    (counted (remove rows (place same_row old rows)) (taken_out (place same_row old rows) old.value old.channel))
    (refused Absent rows)

-- count: how many rows are from the low value on channel 0 to the high value on channel 255
abbrev pub count_rows : List Row → ℤ → ℤ → Doing (List Row)
count_rows rows low high = done rows (pos (between before_row (row low 0) (row high 255) rows)) nothing

-- what is done with the row that a request names, if its channel is one
abbrev pub with_row : List Row → Option Row → (Row → Doing (List Row)) → Doing (List Row)
with_row rows (Some named) f = f named
with_row rows None f = refused Foreign rows

-- what each operation does; those of other services are not done
abbrev pub operate : List Row → Operation → ℤ → ℤ → Doing (List Row)
operate rows Put first second = with_row rows (row_of first second) (put_row rows)
operate rows Drop first second = with_row rows (row_of first second) (drop_row rows)
operate rows Count first second = count_rows rows first second
operate rows Push first second = refused Foreign rows
operate rows Pop first second = refused Foreign rows

-- whether a row can be put back at a place: it is not there, there is such a place, and room for one row more
abbrev pub goes_back : List Row → ℕ → Row → Bool
goes_back rows at old = not (member same_row old rows) && (nat_le at (length rows) && nat_lt (length rows) most)

-- a note of a put fits unless the table is empty, and one of a drop where its row can be put back
abbrev pub fits : List Row → Note → Bool
fits rows note = by_kind note true (nat_lt 0 (length rows)) (goes_back rows note.place (row note.value note.channel)) false

-- the undo of a put removes the last row, and that of a drop puts the row back at its place
abbrev pub undoing : List Row → Note → List Row
undoing rows note = by_kind note rows (take (length rows - 1) rows) (insert rows note.place (row note.value note.channel)) rows

-- the readings table as a service
abbrev pub readings : Model (List Row)
readings = record {
  empty = [];
  doing = λ rows q. operate rows q.operation q.first q.second;
  fits = fits;
  undoing = undoing;
  sound = λ rows. nat_le (length rows) most && distinct same_row rows;
}
