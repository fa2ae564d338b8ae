use Rattle.std.proofs.Common.{◌≡◌, ◌≤◌, ◌-◌, length, ap, arith}
use Rattle.std.proofs.lemmas.List.{length_push}
use Rattle.lists.specs.Held.{held}
use Rattle.lists.proofs.Held.{filled_of, filled-put, held-length}
use Rattle.lists.proofs.Edits.{rotated-in}
use Rattle.lists.proofs.seq.Seq.try_insert.Goals as goal

pub invariant_of-self : goal.invariant_of-self
invariant_of-self g c =
    let s = c.try_push.new.self in
    let h = held c.args.self.now in
    let now = ap (λ v. length v.held) c.in_ok-try_push.ensures.held in
    let le : c.args.at ≤ s.len = omega (arith, now, length_push h c.args.x, held-length s, held-length c.args.self.now) in
    let f = filled-put c.args.at (s.len - c.args.at) c.rotate_right.new.self s.len (filled_of s) le (omega arith) (omega arith) (omega arith) c.rotate_right.ensures.len in
    record { within = f.within; full = f.full; rest = f.rest }

pub returns-clause-held : goal.returns-clause-held
returns-clause-held g c =
    let s = c.try_push.new.self in
    let h = held c.args.self.now in
    let now = c.in_ok-try_push.ensures.held in
    let is = rotated-in s.items c.rotate_right.new.self h s.len c.args.at c.args.x (ap (λ v. v.held) now) (omega (arith, held-length c.args.self.now)) (omega arith) c.rotate_right.ensures.len c.rotate_right.ensures.after in
    λ i. record { held = is i; blank = (now i).blank }
