use Rattle.std.proofs.Common.{◌≡◌, ℕ, ◌<◌, [], None, if◌then◌else◌, length, get_or, ltb, set, sym, subst, ◌∙◌, arith, rules}
use Rattle.std.proofs.lemmas.Option.{slice_get-get_or}
use Rattle.std.proofs.lemmas.Bool.{cond-true, lt-ltb}
use Rattle.agreement.specs.declared.ballot.Ballot.{Ballot}
use Rattle.agreement.specs.declared.poll.Poll.{Poll}
use Rattle.agreement.specs.Agreements.{Sound}
use Rattle.agreement.specs.BoardSets.{boards_of}
use Rattle.agreement.specs.Polls.{standing_at}
use Rattle.agreement.specs.Sets.{joined}
use Rattle.agreement.specs.Standings.{proposing}
use Rattle.agreement.proofs.Agreements.{proposing-sound}
use Rattle.agreement.proofs.Polls.{standing-proposed}
use Rattle.agreement.proofs.poll.Poll.propose.Goals as goal

-- the ballot of an epoch
abbrev ballot-of : Poll → ℕ → Ballot
ballot-of s epoch = get_or s.ballots epoch (record { proposers = record { on = [] }; decided = None })

-- where the poll stands with any ballot in which the board has proposed, too
stands : (s : Poll) (epoch board : ℕ) (b : Ballot) → length s.ballots ≡ 16 → epoch < 16 → board < s.count.n
    → boards_of b.proposers ≡ (if ltb board 7 then joined board (boards_of (ballot-of s epoch).proposers) else boards_of (ballot-of s epoch).proposers)
    → b.decided ≡ (ballot-of s epoch).decided
    → standing_at s.count.n (set s.ballots epoch b) ≡ proposing (standing_at s.count.n s.ballots) epoch board
stands s epoch board b long early there more same =
    standing-proposed s.count.n s.ballots epoch b (ballot-of s epoch) (slice_get-get_or s.ballots epoch _ (omega arith)) (omega arith) board
    (more ∙ cond-true _ _ _ (lt-ltb board 7 (omega (arith, s.sound.few)))) same

pub invariant_of-poll : goal.invariant_of-poll
invariant_of-poll c =
    let s = c.args.self in
    let is = stands s c.args.epoch c.args.board c.with.result (search rules) (omega arith) (omega arith) c.with.ensures.proposers c.with.ensures.decided in
    record { sound = subst Sound (sym is) (proposing-sound (standing_at s.count.n s.ballots) c.args.epoch c.args.board s.sound (omega arith) (omega arith)) }

pub returns : goal.returns
returns c =
    let s = c.args.self in
    let long : length s.ballots ≡ 16 = search rules in
    let is = slice_get-get_or s.ballots c.args.epoch (record { proposers = record { on = [] }; decided = None }) (omega arith) in
    (search rules, stands s c.args.epoch c.args.board c.with.result long (omega arith) (omega arith) c.with.ensures.proposers c.with.ensures.decided)
