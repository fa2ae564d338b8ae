use Rattle.std.proofs.Common.{◌≡◌, ltb, ap, ◌∙◌, arith}
use Rattle.trials.proofs.Asking.{asked}
use Rattle.trials.proofs.callers.ask_all.Goals as goal

pub returns : goal.returns
returns g c =
    let l = c.loop-board in
    let all : l.board ≡ c.args.n = omega (arith, c.loop-board-test.false, l.auto.board-end) in
    asked g.A.Agreement.standing l.asked c.learn.new.self c.args.n c.args.epoch g.met.A.Agreement.sound
    l.invariant.0 (λ k. l.invariant.1 k ∙ ap (ltb k) all) c.learn.result c.learn.ensures.does
