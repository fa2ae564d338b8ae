use Rattle.agreement.proofs.Majorities.{speaks-share, speaks_more, speaks-whole}
use Rattle.agreement.proofs.majority.majority_laws.Goals as goal

pub returns : goal.returns
returns c = record { share = speaks-share; more = speaks_more; whole = speaks-whole }
