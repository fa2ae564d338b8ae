use Rattle.std.proofs.lemmas.Result.{err_from_is_err_and}
use Rattle.agreement.specs.BoardSets.{boards_of}
use Rattle.trials.proofs.Asking.{refused-before}
use Rattle.trials.proofs.callers.ask_twice.Goals as goal

pub returns-in_err-after : goal.returns-in_err-after
returns-in_err-after g c =
    let p = err_from_is_err_and c.from_residual-in_err-after.result c.from_residual-in_err-after.ensures.1 in
    let first = c.in_ok-before.ensures.does in
    rw (p.1, p.2) (refused-before g.A.Agreement.standing c.args.asked.now c.learn.new.self c.propose.new.self
    c.args.epoch c.args.later c.args.board (boards_of c.in_ok-before.before) c.propose.result c.in_err-after.field-0.0
    first.0 first.1 c.propose.ensures.does c.in_err-after.ensures.does.0)
