use Rattle.std.proofs.Common.{sym, ◌∙◌}
use Rattle.agreement.specs.BoardSets.{boards_of}
use Rattle.agreement.specs.PollStandings.{standing_of}
use Rattle.agreement.proofs.Settling.{learned_settled}
use Rattle.agreement.proofs.polling.PollingAgreement.learn.Goals as goal

pub returns-clause-does : goal.returns-clause-does
returns-clause-does g c =
    let settled = c.settle-poll.ensures in
    let answered = c.in_ok-answer.ensures in
    (sym settled.answers ∙ answered.0, learned_settled (standing_of c.args.self.now.poll) c.args.epoch (boards_of c.in_ok-answer.answer) _ settled.settles answered.1)
