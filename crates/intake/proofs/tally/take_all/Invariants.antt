use Rattle.std.proofs.Common.{◌≡◌}
use Rattle.intake.specs.Inputs.{lines_in}
use Rattle.intake.specs.Tallies.{in_turn}
use Rattle.intake.proofs.TallyLaws.{Taken}
use Rattle.intake.proofs.tally.take_all.Given as goal

-- the lines behind the iterator's place are still to come
abbrev pub invariant-loop-at : goal.invariant-loop-at
invariant-loop-at g l =
    Taken l.text l.at-iterator.iter.rest.now l.tally.read l.tally.faulty
    × (in_turn g.D.Desk.after (g.D.Desk.state l.desk) (lines_in l.at-iterator.iter.rest.now) ≡ in_turn g.D.Desk.after (g.D.Desk.state l.fn.desk) (lines_in l.text))
