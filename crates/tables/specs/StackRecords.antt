-- The state of a stack, and the state that a plain record of one means. Assumes nothing.
use Rattle.std.specs.Prelude.{cond, List, [], reverse, take, ℤ, nat_le}
use Rattle.lists.specs.Held.{held}
use Rattle.lists.specs.declared.plain.Plain.{Plain}
use Rattle.tables.specs.Stacks.{most}
use Rattle.tables.specs.declared.stack.Stack.{Stack}

-- the values of a stack, the newest first
abbrev pub stacked : Stack → List ℤ
stacked s = reverse (held s.values)

-- the values in the first places of a record, as many as it counts; empty where it has not so many places
abbrev pub recorded : Plain ℤ 16 → List ℤ
recorded r = cond (nat_le r.len most) (reverse (take r.len r.items)) []
