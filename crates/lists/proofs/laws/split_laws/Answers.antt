use Rattle.lists.proofs.Splits.{split_unique, split_procedure}
use Rattle.lists.proofs.laws.split_laws.Goals as goal

pub returns : goal.returns
returns g c =
    let same = g.T.Order.same in
    let tells = g.met.T.Order.tells in
    record { unique = split_unique same tells; procedure = split_procedure same tells }
