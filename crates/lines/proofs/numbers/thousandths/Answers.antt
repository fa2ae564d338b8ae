use Rattle.std.proofs.Common.{◌-◌, ◌+◌, ◌*◌, ◌^◌, ◌<◌, ◌≤◌, length, take, drop, arith, rules}
use Rattle.lines.proofs.DigitLaws.{leading-most}
use Rattle.lines.proofs.NumberLaws.{whole_small, fraction_small}
use Rattle.lines.proofs.numbers.thousandths.Goals as goal

-- whole part and fraction together
bound : (c : goal.After-last_place) → c.written-whole.result * 1000 + c.in_ok-parts-in-46.parts * c.last_place.result < 1000000000
bound c =
    let text = c.args.text.now in
    let count = c.leading_digits-count.result in
    let rest = c.split_at.result.1.now in
    let fraction = take (length rest - 1) (drop 1 rest) in
    let parts = c.in_ok-parts-in-46.parts in
    let few : count ≤ 6 = omega (arith, c.leading_digits-count.ensures, leading-most 6 text) in
    let whole = whole_small c.written-whole.result count few (rw c.split_at.ensures.front_len at c.written-whole.ensures.small) in
    let ok : (parts < 10 ^ length fraction) × (1 ≤ length fraction) × (length fraction ≤ 3) = search rules in
    let part : parts * c.last_place.result < 1000 = rw c.last_place.ensures (fraction_small parts (length fraction) ok.1 ok.2 ok.0) in
    omega (arith, whole, part)

pub overflow_add-result : goal.overflow_add-result
overflow_add-result c = omega (arith, bound c)

pub returns-in_ok-parts-in-46-clause-small : goal.returns-in_ok-parts-in-46-clause-small
returns-in_ok-parts-in-46-clause-small c = bound c
