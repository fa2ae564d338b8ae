use Rattle.lines.proofs.DigitLaws.{Written}
use Rattle.lines.proofs.numbers.written.Given as goal

abbrev pub invariant-loop-byte : goal.invariant-loop-byte
invariant-loop-byte l = Written l.digits l.byte-index l.value
