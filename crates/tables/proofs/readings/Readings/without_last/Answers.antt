use Rattle.std.proofs.Common.{[], ◌∷◌, sym, ap, ◌∙◌}
use Rattle.lists.specs.Held.{held}
use Rattle.lists.specs.Membership.{distinct}
use Rattle.tables.specs.Rows.{same_row}
use Rattle.tables.specs.RowLaws.{apart_front}
use Rattle.tables.proofs.readings.Readings.without_last.Goals as goal

pub invariant_of-result-clause-apart : goal.invariant_of-result-clause-apart
invariant_of-result-clause-apart c =
    apart_front (held c.pop.new.self) (c.in_ok-pop.field-0 ∷ []) (sym (ap (distinct same_row) c.in_ok-pop.ensures.held) ∙ c.args.self.now.apart)
