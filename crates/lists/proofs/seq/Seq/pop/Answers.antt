use Rattle.std.proofs.Common.{◌<◌, arith}
use Rattle.std.proofs.lemmas.Grind.{common_steps}
use Rattle.lists.proofs.Held.{filled_of, filled-pop}
use Rattle.lists.proofs.seq.Seq.pop.Goals as goal

pub invariant_of-self : goal.invariant_of-self
invariant_of-self g c =
    let s = c.args.self.now in
    let some : 0 < s.len = grind (arith, common_steps) in
    let f = filled-pop (filled_of s) some in
    record { within = f.within; full = f.full; rest = f.rest }
