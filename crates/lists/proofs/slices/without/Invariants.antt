use Rattle.std.proofs.Common.{◌≡◌, ◌≤◌, ◌++◌, length, drop}
use Rattle.lists.specs.Difference.{without}
use Rattle.lists.specs.Held.{held}
use Rattle.lists.proofs.slices.without.Given as goal

abbrev pub invariant-loop-x : goal.invariant-loop-x
invariant-loop-x g l =
    record {
      kept : held l.left ++ without g.T.Order.same (drop l.x-index l.a) l.b ≡ without g.T.Order.same l.a l.b;
      within : length (held l.left) ≤ g.row.N;
      blank : l.left.blank ≡ l.fn.blank;
    }
