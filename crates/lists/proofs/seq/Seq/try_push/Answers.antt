use Rattle.lists.proofs.Held.{filled_of, filled-push}
use Rattle.lists.proofs.seq.Seq.try_push.Goals as goal

pub invariant_of-self : goal.invariant_of-self
invariant_of-self g c = let f = filled-push c.args.x (filled_of c.args.self.now) c.if-self.false in record { within = f.within; full = f.full; rest = f.rest }
