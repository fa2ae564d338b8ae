use Rattle.std.proofs.Common.{sym, ◌∙◌, arith}
use Rattle.lines.proofs.DigitLaws.{leading_length, leading-most, leading_each}
use Rattle.lines.proofs.numbers.numeral_of.Goals as goal

pub written-requires-clause-few : goal.written-requires-clause-few
written-requires-clause-few c = omega (arith, c.leading_digits-count.ensures, leading-most c.args.most c.args.text.now)

pub written-requires-clause-each : goal.written-requires-clause-each
written-requires-clause-each c = leading_each c.args.most c.args.text.now (sym c.leading_digits-count.ensures ∙ c.if-count-text.true)

pub returns-then-count-text-clause-ok : goal.returns-then-count-text-clause-ok
returns-then-count-text-clause-ok c =
    (c.written.ensures.small, omega arith, omega (arith, c.leading_digits-count.ensures, leading-most c.args.most c.args.text.now))

pub returns-else-count-gt0-clause-ok : goal.returns-else-count-gt0-clause-ok
returns-else-count-gt0-clause-ok c = omega (arith, c.leading_digits-count.ensures, leading_length c.args.most c.args.text.now)
