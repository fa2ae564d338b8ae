use Rattle.std.proofs.lemmas.List.{take_rest}
use Rattle.lines.proofs.PartLaws.{parts_first, parts-absent}
use Rattle.lines.proofs.marks.cut.Goals as goal

pub returns-in-Some-clause-parts : goal.returns-in-Some-clause-parts
returns-in-Some-clause-parts c = simp take_rest (parts_first c.args.mark c.args.text.now c.in-Some.at c.in-Some.ensures)

pub returns-in-None-clause-parts : goal.returns-in-None-clause-parts
returns-in-None-clause-parts c = parts-absent c.args.mark c.args.text.now c.in-None.ensures
