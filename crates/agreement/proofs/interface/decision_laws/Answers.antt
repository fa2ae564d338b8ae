use Rattle.agreement.proofs.Agreements.{sound-past}
use Rattle.agreement.proofs.Majorities.{speaks-share}
use Rattle.agreement.proofs.interface.decision_laws.Goals as goal

pub returns : goal.returns
returns g c =
    let standing = g.A.Agreement.standing in
    let sound = g.met.A.Agreement.sound in
    record {
      past = λ x. sound-past (standing x) (sound x);
      share = λ x e f u w p q. speaks-share (standing x).size u w ((sound x).majority e u p) ((sound x).majority f w q);
    }
