use Rattle.std.proofs.Common.{◌≡◌, ◌+◌, [], ◌∷◌, ◌++◌, length, take, drop, sym, refl, ap, ◌∙◌, arith}
use Rattle.std.proofs.lemmas.List.{at_drop_all, length_push, take-append-le}
use Rattle.std.proofs.lemmas.Bool.{cond-true, true≢false}
use Rattle.lists.specs.Held.{held, seen, holding}
use Rattle.lists.specs.Merging.{merged_into}
use Rattle.lists.proofs.Held.{held-within, full-push}
use Rattle.lists.proofs.Merging.{adding, adding_is}
use Rattle.lists.proofs.Steps.{adding_new, adding_old, adding-over}
use Rattle.lists.proofs.seq.Seq.try_merge.Goals as goal

pub returns-then-is_err-clause-fits : goal.returns-then-is_err-clause-fits
returns-then-is_err-clause-fits g c =
    let l = c.loop-x in
    let same = g.T.Order.same in
    let more = c.args.more.now in
    let full = full-push (λ lt. sym c.if-is_err.ensures.negation ∙ c.try_push.ensures.fits.1 lt) in
    let over = adding-over same (held l.self) more l.x-index c.x-item.result c.loop-x-test.true c.x-item.is (sym c.if-not-contains.ensures) in
    let all = ap length (l.invariant.merging ∙ adding_is same g.met.T.Order.tells (held c.args.self.now) more) in
    (λ h. absurd (true≢false (sym h)), λ room. absurd (omega (arith, full, over, all, room)))

pub loop-x-preserved : goal.loop-x-preserved
loop-x-preserved g c =
    let l = c.loop-x in
    let same = g.T.Order.same in
    let so = held l.self in
    let n = c.args.self.now.len in
    let more = c.args.more.now in
    let rest = drop (l.x-index + 1) more in
    let x = c.x-item.result in
    elim c.else-not-contains.branch [
      | goal.else-not-contains-via-then-not-contains+else-is_err w ↦
          let now : seen c.else-not-contains.self ≡ holding (so ++ x ∷ []) l.self =
          ap seen w.self-is ∙ w.try_push.ensures.held ∙ cond-true _ _ _ w.if-is_err.ensures.negation in
          let p : held c.else-not-contains.self ≡ so ++ x ∷ [] = ap (λ s. s.held) now in
          record {
            merging = ap (λ h. adding same h rest) p ∙ adding_new same so more l.x-index x c.loop-x-test.true c.x-item.is (sym w.if-not-contains.ensures) ∙ l.invariant.merging;
            front = ap (take n) p ∙ take-append-le n so (x ∷ []) l.invariant.more ∙ l.invariant.front;
            more = omega (arith, ap length p, length_push so x, l.invariant.more);
            blank = ap (λ s. s.blank) now ∙ l.invariant.blank;
          }
      | goal.else-not-contains-via-else-not-contains w ↦
          let p : held c.else-not-contains.self ≡ so = ap held w.self-is in
          record {
            merging = ap (λ h. adding same h rest) p ∙ adding_old same so more l.x-index x c.loop-x-test.true c.x-item.is (sym w.if-not-contains.ensures) ∙ l.invariant.merging;
            front = ap (take n) p ∙ l.invariant.front;
            more = omega (arith, ap length p, l.invariant.more);
            blank = ap (λ s. s.blank) w.self-is ∙ l.invariant.blank;
          }
    ]

pub returns-clause-fits : goal.returns-clause-fits
returns-clause-fits g c =
    let l = c.loop-x in
    let same = g.T.Order.same in
    let is : held l.self ≡ merged_into same (held c.args.self.now) c.args.more.now =
    sym (at_drop_all (adding same (held l.self)) c.args.more.now l.x-index c.loop-x-test.false) ∙ l.invariant.merging ∙ adding_is same g.met.T.Order.tells (held c.args.self.now) c.args.more.now in
    (λ _. omega (arith, ap length is, held-within l.self), λ _. refl)

pub returns-clause-held : goal.returns-clause-held
returns-clause-held g c =
    let l = c.loop-x in
    let same = g.T.Order.same in
    let is : held l.self ≡ merged_into same (held c.args.self.now) c.args.more.now =
    sym (at_drop_all (adding same (held l.self)) c.args.more.now l.x-index c.loop-x-test.false) ∙ l.invariant.merging ∙ adding_is same g.met.T.Order.tells (held c.args.self.now) c.args.more.now in
    λ i. record { held = is i; blank = l.invariant.blank i }
