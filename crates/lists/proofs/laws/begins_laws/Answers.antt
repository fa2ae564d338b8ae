use Rattle.lists.proofs.Beginnings.{begins_refl, begins_trans, begins_antisym, begins-comparable}
use Rattle.lists.proofs.laws.begins_laws.Goals as goal

pub returns : goal.returns
returns g c = record { itself = begins_refl; transitive = begins_trans; one_way = begins_antisym; comparable = begins-comparable }
