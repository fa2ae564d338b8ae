use Rattle.std.proofs.Common.{ap, ◌∙◌}
use Rattle.lists.specs.Held.{held}
use Rattle.lists.specs.Membership.{distinct}
use Rattle.tables.specs.Rows.{same_row}
use Rattle.tables.specs.RowLaws.{apart_pushed}
use Rattle.tables.proofs.readings.Readings.with.Goals as goal

pub invariant_of-result-clause-apart : goal.invariant_of-result-clause-apart
invariant_of-result-clause-apart c =
    let t = c.args.self.now in ap (λ s. distinct same_row s.held) c.in_ok-try_push.ensures.held ∙ apart_pushed c.args.row (held t.rows) t.apart c.requires
