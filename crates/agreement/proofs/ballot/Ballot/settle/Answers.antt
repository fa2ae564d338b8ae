use Rattle.std.proofs.Common.{◌≡◌, ℕ, Bool, Some, None, Option, MatchOption, option_map, ap, rules}
use Rattle.agreement.specs.declared.board_set.BoardSet.{BoardSet}
use Rattle.agreement.specs.BoardSets.{boards_of}
use Rattle.agreement.specs.Deciding.{settled}
use Rattle.agreement.proofs.ballot.Ballot.settle.Goals as goal

-- what is decided stays, and else P says what is
else_decided : {P : Type 0} (n : ℕ) (w : ℕ → Bool) (o r : Option BoardSet) → (P → option_map boards_of r ≡ settled n w None) → MatchOption o P (λ x. r ≡ Some x) → option_map boards_of r ≡ settled n w (option_map boards_of o)
else_decided n w (Some x) r new h = ap (option_map boards_of) h
else_decided n w None r new h = new h

pub returns-clause-decided : goal.returns-clause-decided
returns-clause-decided c =
    else_decided c.args.n (boards_of c.args.self.proposers) c.args.self.decided c.or_else-decided.result (λ called. search rules) c.or_else-decided.ensures
