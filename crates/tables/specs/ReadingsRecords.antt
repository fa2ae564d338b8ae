-- The state of a readings table, and the state that a plain record of one means. Assumes nothing.
use Rattle.std.specs.Prelude.{Bool, cond, ◌&&◌, List, [], take, nat_le}
use Rattle.lists.specs.Held.{held}
use Rattle.lists.specs.Membership.{distinct}
use Rattle.lists.specs.declared.plain.Plain.{Plain}
use Rattle.tables.specs.Readings.{most}
use Rattle.tables.specs.Rows.{same_row}
use Rattle.tables.specs.declared.readings.Readings.{Readings}
use Rattle.tables.specs.declared.row.Row.{Row}

-- the rows of a table, the newest last
abbrev pub tabled : Readings → List Row
tabled t = held t.rows

-- whether a record tells of a table: it has as many places as it counts rows, and holds none of these twice
abbrev pub told : Plain Row 32 → Bool
told r = nat_le r.len most && distinct same_row (take r.len r.items)

-- the rows in the first places of a record, as many as it counts; empty where it tells of no table
abbrev pub recorded : Plain Row 32 → List Row
recorded r = cond (told r) (take r.len r.items) []
