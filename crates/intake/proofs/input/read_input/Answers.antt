use Rattle.std.proofs.Common.{rules, arith, ◌≤◌, length}
use Rattle.std.specs.Result.{IsOk}
use Rattle.intake.proofs.InputLaws.{whole, on_ok}
use Rattle.intake.proofs.input.read_input.Goals as goal

pub returns-clause-whole : goal.returns-clause-whole
returns-clause-whole g c =
    let text = c.read_to_end.new.buf.items in
    let ok : IsOk c.read_to_end.result = search rules in
    let few : length text ≤ 1048576 = omega (arith, c.if-len-gt-MOST.false, c.len.ensures) in
    rw (← c.take.ensures.inner) (whole (g.R.Read.remaining c.take.result.inner) 1048576 c.take.result.limit c.new-text.result.items text (on_ok c.read_to_end.result ok c.read_to_end.ensures.bytes) c.take.ensures.limit c.new-text.ensures.items few)
