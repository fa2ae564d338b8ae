use Rattle.std.proofs.Common.{rules, ◌≡◌, true, is_ok, sym, ap, ◌∙◌}
use Rattle.std.proofs.lemmas.Bool.{cond-true}
use Rattle.lists.specs.Held.{held}
use Rattle.lists.specs.Membership.{distinct}
use Rattle.tables.specs.Rows.{same_row}
use Rattle.tables.specs.RowLaws.{apart_inserted}
use Rattle.tables.proofs.readings.Readings.with_at.Goals as goal

pub invariant_of-result-clause-apart : goal.invariant_of-result-clause-apart
invariant_of-result-clause-apart c =
    let t = c.args.self.now in
    let placed : is_ok c.try_insert.result ≡ true = search rules in
    ap (λ s. distinct same_row s.held) (c.try_insert.ensures.held ∙ cond-true _ _ _ placed) ∙ apart_inserted c.args.row c.args.at (held t.rows) t.apart (sym c.if-contains.ensures)
