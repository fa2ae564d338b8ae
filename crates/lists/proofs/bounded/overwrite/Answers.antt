use Rattle.std.proofs.Common.{◌≡◌, [], ◌∷◌, ◌++◌, length, sym, ap, ◌∙◌, replicate, arith}
use Rattle.std.proofs.lemmas.List.{take_more_set, take_all, replicate_more}
use Rattle.lists.proofs.bounded.overwrite.Goals as goal

pub loop-place-preserved : goal.loop-place-preserved
loop-place-preserved g c =
    let l = c.loop-place in
    take_more_set l.places l.place-index c.args.x (omega arith) ∙ ap (λ h. h ++ c.args.x ∷ []) l.invariant ∙ replicate_more l.place-index c.args.x

pub returns : goal.returns
returns g c =
    let l = c.loop-place in
    let long : l.place-index ≡ length c.args.places.now = omega arith in
    sym (take_all l.place-index l.places (omega arith)) ∙ l.invariant ∙ ap (λ k. replicate k c.args.x) long
