use Rattle.lists.proofs.Membership.{distinct_decides}
use Rattle.lists.proofs.Difference.{without-member, without-distinct, without-apart, without_extend_distinct}
use Rattle.lists.proofs.laws.membership_laws.Goals as goal

pub returns : goal.returns
returns g c =
    let same = g.T.Order.same in
    let tells = g.met.T.Order.tells in
    record {
      left = without-member same tells;
      left_distinct = without-distinct same tells;
      left_apart = without-apart same tells;
      extended_distinct = without_extend_distinct same tells;
      tested = distinct_decides same;
    }
