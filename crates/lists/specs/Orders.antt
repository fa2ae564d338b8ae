-- What a test for the same element and a test for the lesser one have to show. Assumes nothing.
use Rattle.std.specs.Prelude.{◌≡◌, Bool, true, false}
use Rattle.std.specs.declared.cmp.Ordering.{Ordering}
use Rattle.std.specs.Ordering.{is_lt}

-- The test `same` tells the elements apart: it passes exactly where the two are one element.
pub record Tells {A : Type 0} (same : A → A → Bool) : Type 0 where
  pub told : (x y : A) → same x y ≡ true → x ≡ y
  pub itself : (x : A) → same x x ≡ true

-- The test `before` orders what `same` tells apart: of two elements one comes before the other unless they are the
-- same, it never holds both ways, and it is transitive.
pub record Ordered {A : Type 0} (same before : A → A → Bool) : Type 0 where
  pub total : (x y : A) → before x y ≡ false → before y x ≡ false → same x y ≡ true
  pub one_way : (x y : A) → before x y ≡ true → before y x ≡ false
  pub transitive : (x y z : A) → before x y ≡ true → before y z ≡ true → before x z ≡ true

-- x comes before y: the comparison answers that x is less.
abbrev pub before : {A : Type 0} → (A → A → Ordering) → A → A → Bool
before cmp x y = is_lt (cmp x y)
