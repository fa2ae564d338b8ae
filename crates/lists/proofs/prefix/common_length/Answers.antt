use Rattle.std.proofs.Common.{rules, ◌∙◌}
use borrow.Author.Tests.{tests}
use Rattle.std.proofs.lemmas.Iterator.{YieldsList-from_slice, YieldsList-from_zip}
use Rattle.std.proofs.lemmas.Iterator.Consumers.{YieldsList-at, count_from_yields_List}
use Rattle.std.proofs.lemmas.Iterator.Search.{YieldsList-from_take_while}
use Rattle.lists.proofs.Beginnings.{common_pairs}
use Rattle.lists.proofs.prefix.common_length.Goals as goal

pub returns-clause-is : goal.returns-clause-is
returns-clause-is g c =
    let same = g.T.Order.same in
    let a = c.args.a.now in
    let b = c.args.b.now in
    count_from_yields_List c.take_while.result _ c.count.ensures.ran (YieldsList-from_take_while _ (λ p. same p.0 p.1) (YieldsList-at c.take_while.ensures.source (YieldsList-from_zip (YieldsList-at c.zip.ensures.first (YieldsList-from_slice a (cc))) (YieldsList-from_slice b (cc)))) c.take_while.ensures.closure c.take_while.ensures.done (λ p t q k. search (rules, tests))) ∙ common_pairs same a b
