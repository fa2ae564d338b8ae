use Rattle.lists.proofs.Places.{place-within, place-back, place-gone, removed_distinct, inserted_distinct}
use Rattle.lists.proofs.laws.place_laws.Goals as goal

pub returns : goal.returns
returns g c =
    let same = g.T.Order.same in
    let tells = g.met.T.Order.tells in
    record {
      within = place-within same;
      back = place-back same tells;
      gone = place-gone same tells;
      removed_distinct = removed_distinct same;
      inserted_distinct = inserted_distinct same tells;
    }
