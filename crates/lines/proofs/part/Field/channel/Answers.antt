use Rattle.std.proofs.Common.{rules}
use Rattle.lines.specs.Fields.{shown}
use Rattle.lines.proofs.ChannelLaws.{channel_reads_as}
use Rattle.lines.proofs.part.Field.channel.Goals as goal

pub returns-in_err-number-clause-reads : goal.returns-in_err-number-clause-reads
returns-in_err-number-clause-reads c = channel_reads_as (shown c.args.self) _ (search rules)

pub returns-clause-reads : goal.returns-clause-reads
returns-clause-reads c = channel_reads_as (shown c.args.self) _ (search rules)
