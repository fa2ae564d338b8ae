use Rattle.std.proofs.Common.{◌-◌, arith}
use Rattle.lists.proofs.Held.{filled_of, filled-put}
use Rattle.lists.proofs.Edits.{rotated-out}
use Rattle.lists.proofs.seq.Seq.remove.Goals as goal

pub invariant_of-self : goal.invariant_of-self
invariant_of-self g c =
    let s = c.args.self.now in
    let f = filled-put c.args.at (s.len - c.args.at) c.rotate_left.new.self s.len (filled_of s) (omega arith) (omega arith) (omega arith) (omega arith) c.rotate_left.ensures.len in
    record { within = f.within; full = f.full; rest = f.rest }

pub returns-clause-held : goal.returns-clause-held
returns-clause-held g c =
    let s = c.args.self.now in
    rotated-out s.items c.rotate_left.new.self s.len c.args.at c.pop.result _ (omega arith) (omega arith) c.rotate_left.ensures.len c.rotate_left.ensures.after c.pop.ensures.held
