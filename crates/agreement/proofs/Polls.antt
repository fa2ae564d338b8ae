-- Where a poll stands after one of its ballots has changed.
use Rattle.std.proofs.Common.{◌≡◌, ℕ, zero, suc, ◌<◌, eqb, List, [], ◌∷◌, length, set, Some, Option, option_map, refl, sym, ap, ◌∙◌, arith}
use mathlib.Core.Path.{fun_ext}
use Rattle.std.proofs.lemmas.Bool.{cond_both, eqb-true, eqb-false}
use Rattle.std.specs.List.{slice_get}
use Rattle.agreement.specs.declared.ballot.Ballot.{Ballot}
use Rattle.agreement.specs.BoardSets.{boards_of}
use Rattle.agreement.specs.Deciding.{settled, settling}
use Rattle.agreement.specs.Epochs.{at}
use Rattle.agreement.specs.Polls.{proposers_of, decided_of, standing_at}
use Rattle.agreement.specs.Sets.{joined}
use Rattle.agreement.specs.Standings.{proposing}

-- the place that was written
slice_get-set_same : (l : List Ballot) (i : ℕ) (b : Ballot) → i < length l → slice_get (set l i b) i ≡ Some b
slice_get-set_same [] i b h = absurd (omega arith)
slice_get-set_same (x ∷ l) zero b h = refl
slice_get-set_same (x ∷ l) (suc i) b h = slice_get-set_same l i b (omega arith)

-- another place
slice_get-set_other : (l : List Ballot) (i j : ℕ) (b : Ballot) → (j ≡ i → ⊥) → slice_get (set l i b) j ≡ slice_get l j
slice_get-set_other [] i j b h = refl
slice_get-set_other (x ∷ l) zero zero b h = absurd (h refl)
slice_get-set_other (x ∷ l) zero (suc j) b h = refl
slice_get-set_other (x ∷ l) (suc i) zero b h = refl
slice_get-set_other (x ∷ l) (suc i) (suc j) b h = slice_get-set_other l i j b (λ e. h (ap suc e))

-- what the ballots say of each epoch, with another ballot in one
ballot-set : {A : Type 0} (v : Option Ballot → A) (ballots : List Ballot) (epoch : ℕ) (b : Ballot) → epoch < length ballots
    → (λ e. v (slice_get (set ballots epoch b) e)) ≡ at (λ e. v (slice_get ballots e)) epoch (v (Some b))
ballot-set v ballots epoch b inside =
    fun_ext (λ e. cond_both (eqb e epoch) (v (Some b)) (v (slice_get ballots e)) (λ x. v (slice_get (set ballots epoch b) e) ≡ x)
    (λ q. let here = eqb-true e epoch q in rw here (ap v (slice_get-set_same ballots epoch b inside)))
    (λ q. ap v (slice_get-set_other ballots epoch e b (eqb-false e epoch q))))

-- an epoch's own value put in again
at-same : {A : Type 0} (f : ℕ → A) (epoch : ℕ) → at f epoch (f epoch) ≡ f
at-same f epoch = fun_ext (λ e. cond_both (eqb e epoch) (f epoch) (f e) (λ x. x ≡ f e) (λ q. let here = eqb-true e epoch q in ap f (sym here)) (λ q. refl))

module _ (n : ℕ) (ballots : List Ballot) (epoch : ℕ) (b was : Ballot) (is : slice_get ballots epoch ≡ Some was) (inside : epoch < length ballots) where
  -- a board has proposed
  pub standing-proposed : (board : ℕ) → boards_of b.proposers ≡ joined board (boards_of was.proposers) → b.decided ≡ was.decided
      → standing_at n (set ballots epoch b) ≡ proposing (standing_at n ballots) epoch board
  standing-proposed board more same =
      let s = standing_at n ballots in
      let p = ballot-set proposers_of ballots epoch b inside ∙ ap (at s.proposed epoch) (more ∙ ap (λ o. joined board (proposers_of o)) (sym is)) in
      let d = ballot-set decided_of ballots epoch b inside ∙ ap (at s.decided epoch) (ap (option_map boards_of) same ∙ ap decided_of (sym is)) ∙ at-same s.decided epoch in
      rw (p, d) refl

  -- what may be decided is
  pub standing-settled : b.proposers ≡ was.proposers → option_map boards_of b.decided ≡ settled n (boards_of was.proposers) (option_map boards_of was.decided)
      → standing_at n (set ballots epoch b) ≡ settling (standing_at n ballots) epoch
  standing-settled same decides =
      let s = standing_at n ballots in
      let p = ballot-set proposers_of ballots epoch b inside ∙ ap (at s.proposed epoch) (ap boards_of same ∙ ap proposers_of (sym is)) ∙ at-same s.proposed epoch in
      let d = ballot-set decided_of ballots epoch b inside ∙ ap (at s.decided epoch) (decides ∙ ap (λ o. settled n (proposers_of o) (decided_of o)) (sym is)) in
      rw (p, d) refl
