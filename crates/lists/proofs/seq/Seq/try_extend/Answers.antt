use Rattle.std.proofs.Common.{◌+◌, ◌-◌, length, arith}
use Rattle.lists.proofs.Held.{filled_of, filled-put}
use Rattle.lists.proofs.seq.Seq.try_extend.Goals as goal

pub invariant_of-self : goal.invariant_of-self
invariant_of-self g c =
    let s = c.args.self.now in
    let more = length c.args.more.now in
    let f = filled-put s.len (s.len + more - s.len) c.copy_from_slice.new.self (s.len + more) (filled_of s) (omega arith) (omega arith) (omega arith) (omega arith) c.copy_from_slice.ensures.len in
    record { within = f.within; full = f.full; rest = f.rest }
