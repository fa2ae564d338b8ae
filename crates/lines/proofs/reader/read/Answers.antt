use Rattle.std.proofs.Common.{rules}
use Rattle.lines.proofs.ReadLaws.{read_exactly}
use Rattle.lines.proofs.reader.read.Goals as goal

pub returns-in_err-operation-clause-exactly : goal.returns-in_err-operation-clause-exactly
returns-in_err-operation-clause-exactly c = read_exactly c.args.line.now _ (search rules)

pub returns-clause-exactly : goal.returns-clause-exactly
returns-clause-exactly c = read_exactly c.args.line.now _ (search rules)
