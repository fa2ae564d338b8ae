use Rattle.std.proofs.Common.{take, sym, ap, ◌∙◌, subst}
use Rattle.lists.specs.Beginnings.{Longest}
use Rattle.lists.proofs.Beginnings.{common-take, common-longest}
use Rattle.lists.proofs.prefix.common_beginning.Goals as goal

pub returns : goal.returns
returns g c =
    let same = g.T.Order.same in
    let a = c.args.a.now in
    let b = c.args.b.now in
    let is = ap (λ k. take k a) c.common_length.ensures.is ∙ common-take same a b in
    record { is = is; longest = subst (Longest a b) (sym is) (common-longest same g.met.T.Order.tells a b) }
