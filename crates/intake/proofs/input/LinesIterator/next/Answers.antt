use Rattle.std.proofs.Common.{rules}
use Rattle.intake.proofs.LineLaws.{next_line}
use Rattle.intake.proofs.input.LinesIterator.next.Goals as goal

pub returns-clause-steps : goal.returns-clause-steps
returns-clause-steps c = next_line c.args.self.now.rest.now c.cut.result.0.now c.cut.result.1 c.unwrap_or-self.result _ (search rules) c.cut.ensures.parts c.cut.ensures.whole c.unwrap_or-self.ensures (search rules)
