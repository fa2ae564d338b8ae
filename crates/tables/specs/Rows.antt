-- The rows of the readings table and their order. Assumes nothing.
use Rattle.std.specs.Prelude.{ℕ, Bool, cond, ◌&&◌, ℤ, pos, negsuc, Some, None, Option, ◌==◌, nat_le}
use Rattle.std.specs.Ordering.{int_cmp, int_eq, nat_cmp, ordering_then}
use Rattle.std.specs.declared.cmp.Ordering.{Ordering}
use Rattle.lists.specs.Orders.{before}
use Rattle.tables.specs.declared.row.Row.{Row}

-- the row of a value and a channel
abbrev pub row : ℤ → ℕ → Row
row value channel = record { value = value; channel = channel }

-- two rows are one when value and channel are
abbrev pub same_row : Row → Row → Bool
same_row a b = int_eq a.value b.value && a.channel == b.channel

-- rows are compared by value, and by channel where the values are equal
abbrev pub compare_rows : Row → Row → Ordering
compare_rows a b = ordering_then (int_cmp a.value b.value) (nat_cmp a.channel b.channel)

-- whether a row comes before another
abbrev pub before_row : Row → Row → Bool
before_row = before compare_rows

-- the row that a channel number and a value name: there are channels 0 to 255
abbrev pub row_of : ℤ → ℤ → Option Row
row_of (pos channel) value = cond (nat_le channel 255) (Some (row value channel)) None
row_of (negsuc channel) value = None
