use Rattle.std.proofs.Common.{rules, ◌∙◌}
use borrow.Author.Tests.{tests}
use Rattle.std.proofs.lemmas.Iterator.{YieldsList-from_slice}
use Rattle.std.proofs.lemmas.Iterator.Search.{position_from_yields_List}
use Rattle.lists.proofs.Places.{position_place}
use Rattle.lists.proofs.slices.position.Goals as goal

pub returns-clause-is : goal.returns-clause-is
returns-clause-is g c =
    let same = g.T.Order.same in
    let x = c.args.x.now in
    let list = c.args.list.now in
    position_from_yields_List (same x) _ _ c.position.result c.position.ensures.ran (YieldsList-from_slice list (cc)) (λ y b q k. search (rules, tests)) ∙ position_place same x list
