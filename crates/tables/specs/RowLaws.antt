-- Laws of rows: the test for the same row, and lists of rows that hold none twice.
use Rattle.std.specs.Prelude.{◌≡◌, ℕ, ◌-◌, true, false, List, [], ◌∷◌, ◌++◌, length, take, drop, ◌==◌, refl}
use Rattle.std.proofs.Common.{sym, ap, ap₂, ◌∙◌, arith}
use Rattle.std.specs.List.{insert, remove}
use Rattle.std.proofs.lemmas.List.{take_all, drop_all, take-append-le, length_push}
use Rattle.std.proofs.lemmas.Bool.{and_parts, and_from, eqb-true, eq-eqb}
use Rattle.std.specs.Ordering.{int_eq}
use Rattle.std.proofs.lemmas.Bool.Decides.{Decides-int_eq}
use Rattle.lists.specs.Membership.{member, distinct}
use Rattle.lists.specs.Orders.{Tells}
use Rattle.lists.proofs.Membership.{distinct_decides, distinct-left}
use Rattle.lists.proofs.Places as places
use Rattle.tables.specs.Rows.{same_row}
use Rattle.tables.specs.declared.row.Row.{Row}

pub row_tells : Tells same_row
row_tells = record {
  told = λ x y h.
      let parts = and_parts (int_eq x.value y.value) (x.channel == y.channel) h in
      let value = (Decides-int_eq x.value y.value).0 parts.0 in
      let channel = eqb-true x.channel y.channel parts.1 in
      λ i. record { value = value i; channel = channel i };
  itself = λ x. and_from _ _ ((Decides-int_eq x.value x.value).1 refl) (eq-eqb x.channel x.channel refl);
}

-- distinct rows stay distinct: without the one at a place, with a new one at a place or at the end, and without the last
pub apart_removed : (k : ℕ) (a : List Row) → distinct same_row a ≡ true → distinct same_row (remove a k) ≡ true
apart_removed k a d = (distinct_decides same_row _).1 (places.removed_distinct same_row k a ((distinct_decides same_row a).0 d))

pub apart_inserted : (x : Row) (k : ℕ) (a : List Row) → distinct same_row a ≡ true → member same_row x a ≡ false → distinct same_row (insert a k x) ≡ true
apart_inserted x k a d new = (distinct_decides same_row _).1 (places.inserted_distinct same_row row_tells x k a ((distinct_decides same_row a).0 d) new)

pub apart_pushed : (x : Row) (a : List Row) → distinct same_row a ≡ true → member same_row x a ≡ false → distinct same_row (a ++ x ∷ []) ≡ true
apart_pushed x a d new =
    let last : insert a (length a) x ≡ a ++ x ∷ [] = ap (λ l. l ++ x ∷ drop (length a) a) (take_all (length a) a (omega arith)) ∙ ap (λ l. a ++ x ∷ l) (drop_all (length a) a (omega arith)) in
    sym (ap (distinct same_row) last) ∙ apart_inserted x (length a) a d new

pub apart_front : (a b : List Row) → distinct same_row (a ++ b) ≡ true → distinct same_row a ≡ true
apart_front a b d = (distinct_decides same_row _).1 (distinct-left same_row a b ((distinct_decides same_row _).0 d))

-- what stands before the last row
pub front_taken : (was left : List Row) (x : Row) → was ≡ left ++ x ∷ [] → left ≡ take (length was - 1) was
front_taken was left x e =
    let long : length was - 1 ≡ length left = omega (arith, ap length e, length_push left x) in
    sym (ap₂ take long e ∙ take-append-le (length left) left (x ∷ []) (omega arith) ∙ take_all (length left) left (omega arith))
