use Rattle.lists.proofs.Merging.{merge-member, merge-distinct, merge_is, merged-member, merged_distinct, merged-nothing, merged-append}
use Rattle.lists.proofs.laws.merge_laws.Goals as goal

pub returns : goal.returns
returns g c =
    let same = g.T.Order.same in
    let tells = g.met.T.Order.tells in
    record {
      merged = merge-member same tells;
      merged_distinct = merge-distinct same tells;
      into = merged-member same tells;
      into_distinct = merged_distinct same tells;
      into_nothing = merged-nothing same tells;
      in_turn = merged-append same tells;
      in_two = merge_is same tells;
    }
