use Rattle.std.proofs.Common.{take, drop, ap, ◌∙◌}
use Rattle.std.proofs.lemmas.List.{take_rest}
use Rattle.lists.proofs.Beginnings.{common-take}
use Rattle.lists.proofs.Splits.{split_found, split_unique}
use Rattle.lists.proofs.prefix.split.Goals as goal

pub returns : goal.returns
returns g c =
    let same = g.T.Order.same in
    let tells = g.met.T.Order.tells in
    let o = c.args.opened.now in
    let f = c.args.decided.now in
    let n = c.common_length-n.result in
    let at = c.common_length-n.ensures.is in
    let good = c.split_at.ensures.front ∙ ap (λ k. take k o) at ∙ common-take same o f in
    let bad = c.split_at.ensures.back ∙ ap (λ k. drop k o) at in
    let new = take_rest f n ∙ ap (λ k. drop k f) at in
    let is = split_found same tells o f _ _ _ good bad new in
    record { is = is; only = λ g b n s. split_unique same tells o f g b n _ _ _ s is; good = good }
