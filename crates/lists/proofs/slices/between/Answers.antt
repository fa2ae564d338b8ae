use Rattle.std.proofs.Common.{◌≡◌, ◌^◌, ◌<◌, Bool, true, false, cond, length, count_by, refl, ◌∙◌, arith, rules}
use borrow.Author.Tests.{tests}
use Rattle.std.specs.Int.{from_bool}
use Rattle.std.proofs.lemmas.Iterator.{YieldsList-from_slice, YieldsList-from_map}
use Rattle.std.proofs.lemmas.Iterator.Consumers.{YieldsList-at, sum_by_from_yields_List, fits_by_from_yields_list}
use Rattle.std.proofs.lemmas.List.Sums.{count_by-le-length}
use Rattle.lists.specs.Ranges.{in_range}
use Rattle.lists.proofs.Ranges.{between_none}
use Rattle.lists.proofs.slices.between.Goals as goal

-- an element in the range counts 1, and another 0
worth : (on : Bool) → from_bool on ≡ cond on 1 0
worth true = refl
worth false = refl

pub sum-requires-clause-fits : goal.sum-requires-clause-fits
sum-requires-clause-fits g c =
    let list = c.args.list.now in
    let p = in_range g.T.Order.before c.args.low.now c.args.high.now in
    let few : count_by p list < 2 ^ 64 = omega (arith, count_by-le-length p list) in
    fits_by_from_yields_list _ _ c.map.result _
    (YieldsList-from_map _ (λ x. cond (p x) 1 0) (YieldsList-at c.map.ensures.source (YieldsList-from_slice list cc)) c.map.ensures.closure (λ x r q called. search (rules, worth, tests))) few

pub returns-clause-is : goal.returns-clause-is
returns-clause-is g c =
    let list = c.args.list.now in
    let p = in_range g.T.Order.before c.args.low.now c.args.high.now in
    sum_by_from_yields_List _ _ c.map.result _ c.sum.ensures.ran
    (YieldsList-from_map _ (λ x. cond (p x) 1 0) (YieldsList-at c.map.ensures.source (YieldsList-from_slice list cc)) c.map.ensures.closure (λ x r q called. search (rules, worth, tests)))

pub returns-clause-none : goal.returns-clause-none
returns-clause-none g c crossed =
    let list = c.args.list.now in
    let p = in_range g.T.Order.before c.args.low.now c.args.high.now in
    sum_by_from_yields_List _ _ c.map.result _ c.sum.ensures.ran
    (YieldsList-from_map _ (λ x. cond (p x) 1 0) (YieldsList-at c.map.ensures.source (YieldsList-from_slice list cc)) c.map.ensures.closure (λ x r q called. search (rules, worth, tests)))
    ∙ between_none g.T.Order.same g.T.Order.before g.met.T.Order.tells g.met.T.Order.ordered c.args.low.now c.args.high.now crossed list
