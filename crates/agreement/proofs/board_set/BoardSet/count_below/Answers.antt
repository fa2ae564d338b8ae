use Rattle.std.proofs.Common.{◌∙◌}
use Rattle.agreement.proofs.Counting.{count-take}
use Rattle.agreement.proofs.board_set.BoardSet.count_below.Goals as goal

pub returns : goal.returns
returns c = c.places_below.ensures ∙ count-take c.args.self.on c.args.n
