use Rattle.std.proofs.Common.{◌≡◌, ℕ, ltb}
use Rattle.trials.proofs.callers.ask_all.Given as goal

abbrev pub invariant-loop-board : goal.invariant-loop-board
invariant-loop-board g l =
    let standing = g.A.Agreement.standing l.asked in (standing.size ≡ l.n) × ((c : ℕ) → standing.proposed l.epoch c ≡ ltb c l.board)
