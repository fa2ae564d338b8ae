use Rattle.std.proofs.Common.{◌≡◌, ◌≤◌, length, take, drop}
use Rattle.lists.specs.Held.{held}
use Rattle.lists.proofs.Merging.{adding}
use Rattle.lists.proofs.seq.Seq.try_merge.Given as goal

abbrev pub invariant-loop-x : goal.invariant-loop-x
invariant-loop-x g l =
    record {
      merging : adding g.T.Order.same (held l.self) (drop l.x-index l.more) ≡ adding g.T.Order.same (held l.initial.self) l.more;
      front : take l.before (held l.self) ≡ held l.initial.self;
      more : l.before ≤ length (held l.self);
      blank : l.self.blank ≡ l.initial.self.blank;
    }
