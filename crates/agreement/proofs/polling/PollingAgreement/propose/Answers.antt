use Rattle.std.proofs.Common.{sym, subst, ap, ◌∙◌, rules}
use Rattle.agreement.specs.Agreements.{Sound}
use Rattle.agreement.specs.Deciding.{settling, Prompt}
use Rattle.agreement.specs.PollStandings.{standing_of}
use Rattle.agreement.proofs.Settling.{prompt_proposed, proposed_either}
use Rattle.agreement.proofs.polling.PollingAgreement.propose.Goals as goal
use Rattle.agreement.proofs.polling.PollingAgreement.propose.Goals.{then-AT_ONCE, else-AT_ONCE}

pub invariant_of-self : goal.invariant_of-self
invariant_of-self g c =
    let old = c.args.self.now in
    let proposed = c.in_ok-poll.ensures.1 in
    record {
      prompt = λ once. elim c.if-AT_ONCE.branch [
        | then-AT_ONCE w ↦ subst Prompt (sym (ap standing_of w.self-is ∙ w.settle-self.ensures.settles ∙ ap (λ s. settling s c.args.epoch) proposed))
            (prompt_proposed (standing_of old.poll) c.args.epoch c.args.board (subst Sound proposed c.in_ok-poll.poll.sound) (old.prompt once))
        | else-AT_ONCE w ↦ absurd (search rules)
      ];
    }

pub returns-clause-rule : goal.returns-clause-rule
returns-clause-rule g c =
    let proposed = c.in_ok-poll.ensures.1 in
    elim c.if-AT_ONCE.branch [
      | then-AT_ONCE w ↦ rw (sym w.if-AT_ONCE.ensures) (ap standing_of w.self-is ∙ w.settle-self.ensures.settles ∙ ap (λ s. settling s c.args.epoch) proposed)
      | else-AT_ONCE w ↦ rw (sym w.if-AT_ONCE.ensures) (ap standing_of w.self-is ∙ proposed)
    ]

-- the rule says more
pub returns-clause-does : goal.returns-clause-does
returns-clause-does g c =
    (c.in_ok-poll.ensures.0, proposed_either _ (standing_of c.args.self.now.poll) c.args.epoch c.args.board _ (returns-clause-rule g c))
