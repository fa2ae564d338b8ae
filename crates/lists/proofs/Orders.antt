-- The laws of an order, from those of the library's comparison.
use Rattle.std.proofs.Common.{◌≡◌, Bool, true, false, sym, refl, ap, ◌∙◌}
use Rattle.std.proofs.lemmas.Bool.{true≢false}
use Rattle.std.specs.declared.cmp.Ordering.{Ordering}
use Rattle.std.specs.declared.cmp.Ordering.TheVariants.{Less, Equal, Greater}
use Rattle.std.specs.Ordering.{is_lt, is_eq, ordering_reverse}
use Rattle.std.specs.Cmp.{IsTotalOrder}
use Rattle.lists.specs.Orders.{Ordered, before}

less : (o : Ordering) → is_lt o ≡ true → o ≡ Less
less Less h = refl
less Equal h = absurd (true≢false (sym h))
less Greater h = absurd (true≢false (sym h))

-- a comparison that is less neither way is level, and it is less one way at most
level : (o : Ordering) → is_lt o ≡ false → is_lt (ordering_reverse o) ≡ false → is_eq o ≡ true
level Less h k = absurd (true≢false h)
level Equal h k = refl
level Greater h k = absurd (true≢false k)

turned : (o : Ordering) → is_lt o ≡ true → is_lt (ordering_reverse o) ≡ false
turned Less h = refl
turned Equal h = refl
turned Greater h = absurd (true≢false (sym h))

-- whatever compares as the library asks is in order
pub ordered_by_cmp : {A : Type 0} (eq : A → A → Bool) (cmp : A → A → Ordering) → IsTotalOrder cmp → ((x y : A) → eq x y ≡ is_eq (cmp x y)) → Ordered eq (before cmp)
ordered_by_cmp eq cmp o ties =
    record {
      total = λ x y h k. ties x y ∙ level (cmp x y) h (ap is_lt (sym (o.antisymm y x)) ∙ k);
      one_way = λ x y h. ap is_lt (o.antisymm y x) ∙ turned (cmp x y) h;
      transitive = λ x y z h k. ap is_lt (o.trans x y z (less (cmp x y) h) (less (cmp y z) k));
    }
