use Rattle.lists.proofs.Names.{names_few}
use Rattle.lists.proofs.Splits.{split_procedure_differs}
use Rattle.lists.proofs.laws.name_laws.Goals as goal

pub returns : goal.returns
returns c = record { few = names_few; differs = split_procedure_differs }
