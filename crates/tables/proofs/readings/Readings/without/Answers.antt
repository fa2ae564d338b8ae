use Rattle.std.proofs.Common.{ap, ◌∙◌}
use Rattle.lists.specs.Held.{held}
use Rattle.lists.specs.Membership.{distinct}
use Rattle.lists.proofs.Edits.{taken-left}
use Rattle.tables.specs.Rows.{same_row}
use Rattle.tables.specs.RowLaws.{apart_removed}
use Rattle.tables.proofs.readings.Readings.without.Goals as goal

pub invariant_of-result-clause-apart : goal.invariant_of-result-clause-apart
invariant_of-result-clause-apart c =
    let t = c.args.self.now in
    ap (distinct same_row) (taken-left c.remove.result c.args.at (held t.rows) _ c.remove.ensures.held c.requires) ∙ apart_removed c.args.at (held t.rows) t.apart
