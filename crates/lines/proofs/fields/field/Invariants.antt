use Rattle.lines.specs.Fields.{semicolon}
use Rattle.lines.proofs.PartLaws.{Passed}
use Rattle.lines.proofs.fields.field.Given as goal

abbrev pub invariant-loop : goal.invariant-loop
invariant-loop l = Passed semicolon l.line l.rest l.start l.counter
