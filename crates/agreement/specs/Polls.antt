-- What the ballots of a poll say: who has proposed, and what is decided.
use Rattle.std.specs.Prelude.{ℕ, Bool, cond, List, is_some, Some, None, Option, nat_le, option_map, slice_get}
use Rattle.agreement.specs.declared.ballot.Ballot.{Ballot}
use Rattle.agreement.specs.declared.refusal.AgreementRefusal.{AgreementRefusal}
use Rattle.agreement.specs.declared.refusal.AgreementRefusal.TheVariants.{Unknown, TooFew}
use Rattle.agreement.specs.BoardSets.{boards_of}
use Rattle.agreement.specs.Sets.{nobody}
use Rattle.agreement.specs.Standings.{Standing}

-- the boards that have proposed by a ballot; where there is none, nobody
abbrev pub proposers_of : Option Ballot → ℕ → Bool
proposers_of (Some ballot) = boards_of ballot.proposers
proposers_of None = nobody

-- the boards of its decided set, if there is one; where there is no ballot, none
abbrev pub decided_of : Option Ballot → Option (ℕ → Bool)
decided_of (Some ballot) = option_map boards_of ballot.decided
decided_of None = None

-- what n boards and the ballots of the epochs say
abbrev pub standing_at : ℕ → List Ballot → Standing
standing_at n ballots = record { size = n; proposed = λ e. proposers_of (slice_get ballots e); decided = λ e. decided_of (slice_get ballots e) }

-- a decided set is answered, in epochs 0 to 15
abbrev pub answer_refusal : Standing → ℕ → Option AgreementRefusal
answer_refusal s epoch = cond (nat_le 16 epoch) (Some Unknown) (cond (is_some (s.decided epoch)) None (Some TooFew))
