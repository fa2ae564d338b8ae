use Rattle.std.proofs.Common.{rules, arith}
use Rattle.std.proofs.lemmas.Grind.{common_steps}
use Rattle.lines.specs.Fields.{shown}
use Rattle.lines.proofs.ValueLaws.{value_reads_as}
use Rattle.lines.proofs.part.Field.value.Goals as goal

pub returns-in_err-size-in-45-clause-reads : goal.returns-in_err-size-in-45-clause-reads
returns-in_err-size-in-45-clause-reads c = value_reads_as (shown c.args.self) _ (grind (arith, common_steps))

pub returns-in_err-size-in_default-clause-reads : goal.returns-in_err-size-in_default-clause-reads
returns-in_err-size-in_default-clause-reads c = value_reads_as (shown c.args.self) _ (search rules)

pub returns-in_ok-size-in-45-clause-reads : goal.returns-in_ok-size-in-45-clause-reads
returns-in_ok-size-in-45-clause-reads c = value_reads_as (shown c.args.self) _ (grind (arith, common_steps))

pub returns-in_ok-size-in_default-clause-reads : goal.returns-in_ok-size-in_default-clause-reads
returns-in_ok-size-in_default-clause-reads c = value_reads_as (shown c.args.self) _ (search rules)
