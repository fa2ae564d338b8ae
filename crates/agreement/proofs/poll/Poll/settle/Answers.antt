use Rattle.std.proofs.Common.{◌≡◌, length, set, sym, subst, arith, rules}
use Rattle.std.proofs.lemmas.Option.{slice_get-get_or}
use Rattle.agreement.specs.Agreements.{Sound}
use Rattle.agreement.specs.Deciding.{settling}
use Rattle.agreement.specs.Polls.{standing_at}
use Rattle.agreement.proofs.Settling.{settling-sound, settling-past, answer-settled}
use Rattle.agreement.proofs.Polls.{standing-settled}
use Rattle.agreement.proofs.poll.Poll.settle.Goals as goal
use Rattle.agreement.proofs.poll.Poll.settle.Goals.{After-settle}

-- where the poll stands with the new ballot
stands : (c : After-settle)
    → standing_at c.args.self.count.n (set c.args.self.ballots c.args.epoch c.settle.result)
    ≡ settling (standing_at c.args.self.count.n c.args.self.ballots) c.args.epoch
stands c =
    let s = c.args.self in
    let long : length s.ballots ≡ 16 = search rules in
    standing-settled s.count.n s.ballots c.args.epoch c.settle.result _ (slice_get-get_or s.ballots c.args.epoch _ (omega arith)) (omega arith)
    c.settle.ensures.proposers c.settle.ensures.decided

pub returns-then-epoch-ge-EPOCHS : goal.returns-then-epoch-ge-EPOCHS
returns-then-epoch-ge-EPOCHS c =
    let before = standing_at c.args.self.count.n c.args.self.ballots in
    let is = settling-past before c.args.epoch c.args.self.sound (omega arith) in
    record { settles = is; answers = answer-settled before c.args.epoch c.args.self.sound before is }

pub invariant_of-poll : goal.invariant_of-poll
invariant_of-poll c =
    let s = c.args.self in
    record { sound = subst Sound (sym (stands c)) (settling-sound (standing_at s.count.n s.ballots) c.args.epoch s.sound) }

pub returns : goal.returns
returns c =
    let before = standing_at c.args.self.count.n c.args.self.ballots in
    let is = stands (goal.at.returns c).After-settle in
    record { settles = is; answers = answer-settled before c.args.epoch c.args.self.sound _ is }
