use Rattle.std.proofs.Common.{◌-◌, drop, ap, ◌∙◌, replicate, arith, length-drop}
use Rattle.std.proofs.lemmas.List.{length-take-le}
use Rattle.lists.proofs.Held.{filled_of, filled-cut}
use Rattle.lists.proofs.seq.Seq.truncate.Goals as goal

pub invariant_of-self : goal.invariant_of-self
invariant_of-self g c =
    let s = c.args.self.now in
    let f = filled-cut c.args.len c.overwrite.new.places (filled_of s) (omega arith) (c.overwrite.ensures ∙ ap (λ k. replicate k s.blank) (length-take-le (s.len - c.args.len) (drop c.args.len s.items) (omega (arith, length-drop c.args.len s.items, s.full, s.within)))) in
    record { within = f.within; full = f.full; rest = f.rest }
