use Rattle.std.proofs.Common.{rules}
use Rattle.agreement.proofs.Settling.{prompt_cleared}
use Rattle.agreement.proofs.poll.Poll.empty.Goals as goal

pub returns-clause-prompt : goal.returns-clause-prompt
returns-clause-prompt c = prompt_cleared _ c.args.count.n (search rules)
