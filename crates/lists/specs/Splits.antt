-- The split of an open order against a decided one, and a procedure that is to find it. Assumes nothing.
use Rattle.std.specs.Prelude.{◌≡◌, Bool, cond, List, [], ◌++◌, length, ◌==◌}
use Rattle.lists.specs.Beginnings.{Begins, common}
use Rattle.lists.specs.Difference.{without}

-- Good begins both orders, Bad is the rest of the open one and New the rest of the decided one, and nothing begins both rests.
pub record IsSplit {A : Type 0} (opened decided good bad new : List A) : Type 0 where
  pub of_open : good ++ bad ≡ opened
  pub of_decided : good ++ new ≡ decided
  pub parted : (c : List A) → Begins c bad → Begins c new → c ≡ []

-- The procedure knows the longest open order that was decided on, and what is decided behind it. Its results are (Good, Bad, New).
module _ {A : Type 0} (same : A → A → Bool) where
  -- Where the open order begins the longest, all of it is good, and what of the longest is not in it is new, with what comes
  -- behind. Else what begins both is good, what of the open order is not in that is bad, and what comes behind is new.
  abbrev pub started : List A → List A → List A → List A × List A × List A
  started opened longest behind =
      cond (length opened == length (common same opened longest))
      (opened, [], without same longest opened ++ behind)
      (common same opened longest, without same opened (common same opened longest), behind)

  -- what begins both Bad and New moves over to Good
  abbrev pub moved : List A × List A × List A → List A × List A × List A
  moved p =
      (p.0 ++ common same p.1 p.2, without same p.1 (common same p.1 p.2), without same p.2 (common same p.1 p.2))

  -- both steps, one after the other
  abbrev pub procedure : List A → List A → List A → List A × List A × List A
  procedure opened longest behind = moved (started opened longest behind)

-- the procedure's result is the split of the open order against the longest one with what comes behind it
abbrev pub ProcedureSplits : {A : Type 0} → (A → A → Bool) → List A → List A → List A → Type 0
ProcedureSplits same opened longest behind =
    IsSplit opened (longest ++ behind) (procedure same opened longest behind).0 (procedure same opened longest behind).1 (procedure same opened longest behind).2
