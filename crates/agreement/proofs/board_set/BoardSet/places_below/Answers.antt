use Rattle.std.proofs.Common.{◌≡◌, ◌^◌, ◌<◌, Bool, true, false, cond, length, take, count_by, refl, arith, rules}
use Rattle.std.specs.Int.{from_bool}
use Rattle.std.proofs.lemmas.Iterator.{YieldsList-from_slice, YieldsList-from_take, YieldsList-from_map}
use Rattle.std.proofs.lemmas.Iterator.Consumers.{YieldsList-at, sum_by_from_yields_List, fits_by_from_yields_list}
use Rattle.std.proofs.lemmas.List.Sums.{count_by-le-length, sum_by-take-le}
use Rattle.agreement.proofs.board_set.BoardSet.places_below.Goals as goal

-- a place that holds true counts 1, and another 0
worth : (on : Bool) → from_bool on ≡ cond on 1 0
worth true = refl
worth false = refl

pub sum-requires-clause-fits : goal.sum-requires-clause-fits
sum-requires-clause-fits c =
    let on = c.args.self.on in
    let long : length on ≡ 7 = search rules in
    let few : count_by (λ b. b) (take c.args.n on) < 2 ^ 64 = omega (arith, sum_by-take-le (λ b. cond b 1 0) on c.args.n, count_by-le-length (λ b. b) on) in
    let first = YieldsList-from_take c.args.n (YieldsList-at c.take.ensures.source (YieldsList-from_slice on cc)) c.take.ensures.count in
    fits_by_from_yields_list _ _ c.map.result _
    (YieldsList-from_map _ (λ b. cond b 1 0) (YieldsList-at c.map.ensures.source first) c.map.ensures.closure (λ x r q called. search (rules, worth))) few

pub returns : goal.returns
returns c =
    let first = YieldsList-from_take c.args.n (YieldsList-at c.take.ensures.source (YieldsList-from_slice c.args.self.on cc)) c.take.ensures.count in
    sum_by_from_yields_List _ _ c.map.result _ c.sum.ensures.ran
    (YieldsList-from_map _ (λ b. cond b 1 0) (YieldsList-at c.map.ensures.source first) c.map.ensures.closure (λ x r q called. search (rules, worth)))
