-- The number of each code of a reply. Assumes nothing.
use Rattle.std.specs.Prelude.{ℕ}
use Rattle.service.specs.declared.reply.Code.{Code}
use Rattle.service.specs.declared.reply.NotDone.{NotDone}
use Rattle.service.specs.declared.reply.NotDone.TheVariants as reasons
use Rattle.service.specs.declared.reply.Code.TheVariants.{Done, Already, Full, Absent, Foreign}

-- ok; it is there already; there is no place for it; it is not there; not an operation of this service, or a channel out of range
abbrev pub code_number : Code → ℕ
code_number Done = 0
code_number Already = 1
code_number Full = 2
code_number Absent = 3
code_number Foreign = 4

-- the code of an operation that is not done
abbrev pub code_of : NotDone → Code
code_of reasons.Already = Already
code_of reasons.Full = Full
code_of reasons.Absent = Absent
code_of reasons.Foreign = Foreign
