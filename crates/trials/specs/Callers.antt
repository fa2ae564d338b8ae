-- What a caller that asks all boards of an agreement is told.
use Rattle.std.specs.Prelude.{◌≡◌, ℕ, Bool, true, cond, ◌||◌, Some, None, Ok, Err, Option, Result, ◌==◌, nat_le, nat_lt}
use Rattle.agreement.specs.declared.board_set.BoardSet.{BoardSet}
use Rattle.agreement.specs.declared.refusal.AgreementRefusal.{AgreementRefusal}
use Rattle.agreement.specs.declared.refusal.AgreementRefusal.TheVariants.{Size, Unknown}
use Rattle.agreement.specs.BoardSets.{boards_of}
use Rattle.agreement.specs.Majorities.{speaks}
use Rattle.agreement.specs.Sets.{Within, boards_below}

-- refused exactly where there are not 1 to 7 boards, or there is no such epoch
abbrev pub ask_refusal : ℕ → ℕ → Option AgreementRefusal
ask_refusal n epoch = cond (n == 0 || nat_lt 7 n) (Some Size) (cond (nat_le 16 epoch) (Some Unknown) None)

-- else the answer is the decided set, a majority of the boards below n
abbrev pub Asked : ℕ → ℕ → Option (ℕ → Bool) → Result BoardSet AgreementRefusal → Type 0
Asked n epoch decided (Ok s) =
    (ask_refusal n epoch ≡ None) × (decided ≡ Some (boards_of s)) × (speaks n (boards_of s) ≡ true) × Within (boards_of s) (boards_below n)
Asked n epoch decided (Err e) = ask_refusal n epoch ≡ Some e
