use Rattle.std.proofs.Common.{◌≡◌, length}
use Rattle.lists.specs.Membership.{distinct}
use Rattle.lists.proofs.slices.is_distinct.Given as goal

-- what is left has its elements once exactly where the whole list has
abbrev pub invariant-loop-left : goal.invariant-loop-left
invariant-loop-left g l = distinct g.T.Order.same l.left ≡ distinct g.T.Order.same l.list

abbrev pub decreases-loop-left : goal.decreases-loop-left
decreases-loop-left g l = length l.left
