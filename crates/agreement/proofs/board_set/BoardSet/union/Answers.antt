use Rattle.std.proofs.Common.{◌≡◌, zero-add, false, refl, length, sym, ⊎_elim, arith, rules}
use mathlib.Core.Path.{fun_ext}
use Rattle.std.proofs.lemmas.List.{get_or_past}
use Rattle.std.proofs.lemmas.Bool.{cases_lt}
use Rattle.agreement.specs.BoardSets.{boards_of}
use Rattle.agreement.specs.Sets.{either}
use Rattle.agreement.proofs.Filling.{filled-at}
use Rattle.agreement.proofs.board_set.BoardSet.union.Goals as goal

pub returns : goal.returns
returns c =
    let made = c.from_fn.ensures.items in
    let self_long : length c.args.self.on ≡ 7 = search rules in
    let other_long : length c.args.other.on ≡ 7 = search rules in
    fun_ext (λ k. ⊎_elim
    (λ under. let at = filled-at _ _ (either (boards_of c.args.self) (boards_of c.args.other)) false (λ i y q called. (search rules, search rules)) c.from_fn.result 0 7 k made.each under in rw (sym (zero-add k)) at)
    (λ over. rw (get_or_past c.from_fn.result k false (omega (arith, made.long)), get_or_past c.args.self.on k false (omega arith), get_or_past c.args.other.on k false (omega arith)) refl)
    (cases_lt k 7))
