use Rattle.std.proofs.Common.{◌≡◌, length, ap, ◌∙◌, refl, arith, length-append}
use Rattle.lists.specs.Difference.{without}
use Rattle.lists.specs.Held.{held}
use Rattle.lists.specs.Merging.{firsts, merged_into}
use Rattle.lists.proofs.Held.{full-extend, refused-made}
use Rattle.lists.proofs.Merging.{merged-nothing, merge_is}
use Rattle.lists.proofs.slices.merge.Goals as goal

-- either part is too long for what is left, so the merge is too long
pub returns-in_err-try_merge : goal.returns-in_err-try_merge
returns-in_err-try_merge g c =
    let same = g.T.Order.same in
    let tells = g.met.T.Order.tells in
    let a = c.args.a.now in
    let b = c.args.b.now in
    let once : merged_into same (held c.new-all.result) a ≡ firsts same a = ap (λ h. merged_into same h a) c.new-all.ensures.held ∙ merged-nothing same tells a in
    let over = full-extend c.in_err-try_merge.ensures.fits.1 in
    let all = ap length (merge_is same tells a b) in
    refused-made c.from_residual.result _ c.args.blank c.from_residual.ensures.0 (omega (arith, over, ap length once, length-append (firsts same a) (without same (firsts same b) (firsts same a)), all))

pub returns-in_err-try_merge-2 : goal.returns-in_err-try_merge-2
returns-in_err-try_merge-2 g c =
    let same = g.T.Order.same in
    let tells = g.met.T.Order.tells in
    let a = c.args.a.now in
    let b = c.args.b.now in
    let first : held c.try_merge.new.self ≡ firsts same a =
    ap (λ s. s.held) c.in_ok-try_merge.ensures.held ∙ ap (λ h. merged_into same h a) c.new-all.ensures.held ∙ merged-nothing same tells a in
    let over = full-extend c.in_err-try_merge-2.ensures.fits.1 in
    let all = ap length (ap (λ h. merged_into same h b) first ∙ merge_is same tells a b) in
    refused-made c.from_residual-in_err-try_merge-2.result _ c.args.blank c.from_residual-in_err-try_merge-2.ensures.0 (omega (arith, over, all))

pub returns : goal.returns
returns g c =
    let same = g.T.Order.same in
    let tells = g.met.T.Order.tells in
    let a = c.args.a.now in
    let b = c.args.b.now in
    let first : held c.try_merge.new.self ≡ firsts same a =
    ap (λ s. s.held) c.in_ok-try_merge.ensures.held ∙ ap (λ h. merged_into same h a) c.new-all.ensures.held ∙ merged-nothing same tells a in
    let is = ap (λ h. merged_into same h b) first ∙ merge_is same tells a b in (
      c.in_ok-try_merge-2.ensures.held ∙ (λ i. record { held = is i; blank = (ap (λ s. s.blank) c.in_ok-try_merge.ensures.held ∙ c.new-all.ensures.blank) i }),
      omega (arith, ap length is, c.in_ok-try_merge-2.ensures.fits.0 refl),
    )
