-- The number of each refusal, and when each call is refused.
use Rattle.std.specs.Prelude.{ℕ, cond, ◌||◌, Some, None, Option, ◌==◌, nat_le, nat_lt}
use Rattle.agreement.specs.declared.refusal.AgreementRefusal.{AgreementRefusal}
use Rattle.agreement.specs.declared.refusal.AgreementRefusal.TheVariants.{Size, Unknown, Already, TooFew}
use Rattle.agreement.specs.Majorities.{speaks}
use Rattle.agreement.specs.Standings.{Standing}

-- 1: not 1 to 7 boards; 4: no such epoch or board; 8: proposed already; 11: too few have proposed
abbrev pub number_of : AgreementRefusal → ℕ
number_of Size = 1
number_of Unknown = 4
number_of Already = 8
number_of TooFew = 11

-- there are 1 to 7 boards
abbrev pub clear_refusal : ℕ → Option AgreementRefusal
clear_refusal n = cond (n == 0 || nat_lt 7 n) (Some Size) None

-- epochs are 0 to 15, boards are below the number of them, and each proposes once in an epoch
abbrev pub propose_refusal : Standing → ℕ → ℕ → Option AgreementRefusal
propose_refusal s epoch board =
    cond (nat_le 16 epoch || nat_le s.size board) (Some Unknown) (cond (s.proposed epoch board) (Some Already) None)

-- epochs are 0 to 15, and a set is decided only of an epoch in which a majority have proposed
abbrev pub learn_refusal : Standing → ℕ → Option AgreementRefusal
learn_refusal s epoch = cond (nat_le 16 epoch) (Some Unknown) (cond (speaks s.size (s.proposed epoch)) None (Some TooFew))
