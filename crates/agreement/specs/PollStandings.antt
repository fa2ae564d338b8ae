-- Where a poll stands.
use Rattle.agreement.specs.declared.poll.Poll.{Poll}
use Rattle.agreement.specs.Polls.{standing_at}
use Rattle.agreement.specs.Standings.{Standing}

-- what its ballots say
abbrev pub standing_of : Poll → Standing
standing_of poll = standing_at poll.count.n poll.ballots
