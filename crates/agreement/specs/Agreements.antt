-- What an agreement holds, and what each call may do to it.
use Rattle.std.specs.Prelude.{◌≡◌, ℕ, ◌<◌, ◌≤◌, Bool, true, Some, None, Ok, Err, Result, ◌≢◌}
use Rattle.agreement.specs.declared.board_set.BoardSet.{BoardSet}
use Rattle.agreement.specs.declared.refusal.AgreementRefusal.{AgreementRefusal}
use Rattle.agreement.specs.BoardSets.{boards_of}
use Rattle.agreement.specs.Majorities.{speaks, Shared}
use Rattle.agreement.specs.Refusals.{clear_refusal, propose_refusal, learn_refusal}
use Rattle.agreement.specs.Sets.{nobody, Within}
use Rattle.agreement.specs.Standings.{Standing, adding}

-- At any time:
pub record Sound (s : Standing) : Type 0 where
  -- there are 1 to 7 boards
  pub some : 1 ≤ s.size
  pub few : s.size ≤ 7
  -- only boards that there are have proposed, and only in epochs 0 to 15
  pub boards : (e c : ℕ) → s.proposed e c ≡ true → c < s.size
  pub epochs : (e c : ℕ) → s.proposed e c ≡ true → e < 16
  -- a decided set lies within those that have proposed, and is a majority
  pub within : (e : ℕ) (w : ℕ → Bool) → s.decided e ≡ Some w → Within w (s.proposed e)
  pub majority : (e : ℕ) (w : ℕ → Bool) → s.decided e ≡ Some w → speaks s.size w ≡ true

-- No decided set is lost or changed, and only that of one epoch may be new.
pub record DecidesOnly (before after : Standing) (epoch : ℕ) : Type 0 where
  pub elsewhere : (e : ℕ) → (e ≢ epoch) → after.decided e ≡ before.decided e
  pub stays : (w : ℕ → Bool) → before.decided epoch ≡ Some w → after.decided epoch ≡ Some w

-- Cleared for n boards: nobody has proposed, and nothing is decided.
pub record Cleared (after : Standing) (n : ℕ) : Type 0 where
  pub boards : after.size ≡ n
  pub silent : after.proposed ≡ (λ e. nobody)
  pub undecided : after.decided ≡ (λ e. None)

-- A board has proposed in an epoch, whose set may have become decided.
pub record Proposed (before after : Standing) (epoch board : ℕ) : Type 0 where
  pub boards : after.size ≡ before.size
  pub added : after.proposed ≡ adding before.proposed epoch board
  pub decisions : DecidesOnly before after epoch

-- The decided set of an epoch is answered. It may have become decided just now.
pub record Learned (before after : Standing) (epoch : ℕ) (answer : ℕ → Bool) : Type 0 where
  pub boards : after.size ≡ before.size
  pub same : after.proposed ≡ before.proposed
  pub decisions : DecidesOnly before after epoch
  pub answers : after.decided epoch ≡ Some answer

module _ {X : Type 0} (standing : X → Standing) where
  -- What clear may do: it is accepted, or refused for the one reason that there is, and then nothing changes.
  abbrev pub Clears : (before after : X) → ℕ → Result (Unit {0}) AgreementRefusal → Type 0
  Clears before after n (Ok _) = (clear_refusal n ≡ None) × Cleared (standing after) n
  Clears before after n (Err e) = (clear_refusal n ≡ Some e) × (after ≡ before)

  -- what propose may do
  abbrev pub Proposes : (before after : X) → ℕ → ℕ → Result (Unit {0}) AgreementRefusal → Type 0
  Proposes before after epoch board (Ok _) = (propose_refusal (standing before) epoch board ≡ None) × Proposed (standing before) (standing after) epoch board
  Proposes before after epoch board (Err e) = (propose_refusal (standing before) epoch board ≡ Some e) × (after ≡ before)

  -- what learn may do
  abbrev pub Learns : (before after : X) → ℕ → Result BoardSet AgreementRefusal → Type 0
  Learns before after epoch (Ok s) = (learn_refusal (standing before) epoch ≡ None) × Learned (standing before) (standing after) epoch (boards_of s)
  Learns before after epoch (Err e) = (learn_refusal (standing before) epoch ≡ Some e) × (after ≡ before)

  -- What follows for every agreement: nothing is decided past epoch 15, and any two decided sets share a board.
  pub record DecisionLaws : Type 0 where
    pub past : (x : X) (e : ℕ) → 16 ≤ e → (standing x).decided e ≡ None
    pub share : (x : X) (e f : ℕ) (u w : ℕ → Bool) → (standing x).decided e ≡ Some u → (standing x).decided f ≡ Some w → Shared (standing x).size u w
