use Rattle.lines.proofs.DigitLaws.{digit_low, written_more}
use Rattle.lines.proofs.numbers.written.Goals as goal

pub overflow_sub-byte : goal.overflow_sub-byte
overflow_sub-byte c = digit_low c.args.digits.now c.requires.each c.loop-byte.byte-index c.loop-byte-test.true

pub loop-byte-preserved : goal.loop-byte-preserved
loop-byte-preserved c =
    rw c.from.ensures (written_more c.args.digits.now c.requires.each c.loop-byte.byte-index c.loop-byte-test.true c.loop-byte.value c.loop-byte.invariant)
