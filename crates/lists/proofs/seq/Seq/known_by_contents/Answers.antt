use Rattle.std.proofs.Common.{sym, ap, ◌∙◌, length}
use base.Stored.{Coded-set}
use Rattle.lists.specs.Filling.{front_length, filled}
use Rattle.lists.specs.Held.{places}
use Rattle.lists.proofs.Held.{held-known}
use Rattle.lists.proofs.seq.Seq.known_by_contents.Goals as goal

pub returns-clause-bytes : goal.returns-clause-bytes
returns-clause-bytes g c = λ items items' len len' blank f f' e. (
  sym (filled items len g.row.N blank f) ∙ ap (λ h. places g.row.N (record { held = h; blank = blank })) e ∙ filled items' len' g.row.N blank f',
  sym (front_length items len g.row.N blank f) ∙ ap length e ∙ front_length items' len' g.row.N blank f',
)

pub returns-clause-seen : goal.returns-clause-seen
returns-clause-seen g c = held-known (Coded-set g.row.T.coded) c.args.self.now c.args.other.now
