-- The law of the readings table: a doing's note fits what the doing left, and its undo gives back the rows before.
use Rattle.std.specs.Prelude.{◌≡◌, ◌<◌, ◌≤◌, true, false, ◌&&◌, leb, List, [], ◌∷◌, ◌++◌, length, ℤ, Some, None, Option, nat_le, nat_lt, refl}
use Rattle.std.proofs.Common.{sym, arith}
use Rattle.std.specs.List.{remove}
use Rattle.std.proofs.lemmas.List.Edits.{length-remove}
use Rattle.std.proofs.lemmas.List.{length_push}
use Rattle.std.proofs.lemmas.Bool.{and_from, and_parts, cond_both, leb-true, le-leb, lt-ltb, ltb-true, not_from_false}
use Rattle.lists.specs.Membership.{member, distinct}
use Rattle.lists.specs.Places.{place}
use Rattle.lists.proofs.Membership.{distinct_decides}
use Rattle.lists.proofs.Places.{place-within, place-back, place-gone}
use Rattle.service.specs.Model.{Lawful}
use Rattle.service.specs.Doings.{refused}
use Rattle.service.specs.declared.doing.Doing.{Doing}
use Rattle.service.specs.declared.reply.Code.{Code}
use Rattle.service.specs.declared.reply.Code.TheVariants.{Foreign}
use Rattle.service.specs.declared.request.Operation.{Operation}
use Rattle.service.specs.declared.request.Operation.TheVariants.{Put, Drop, Count, Push, Pop}
use Rattle.service.specs.declared.request.Request.{Request}
use Rattle.tables.specs.Notes.{put_in, taken_out}
use Rattle.tables.specs.Readings.{most, counted, put_row, drop_row, with_row, operate, fits, undoing, readings}
use Rattle.tables.specs.Rows.{same_row, row_of}
use Rattle.tables.specs.declared.row.Row.{Row}
use Rattle.tables.specs.RowLaws.{row_tells, apart_pushed, apart_removed, front_taken}

-- a doing that left a sound table, and can be undone to the rows s
record Undoable (s : List Row) (d : Doing (List Row)) : Type 0 where
  sound : leb (length d.after) most && distinct same_row d.after ≡ true
  fitting : fits d.after d.note ≡ true
  undone : undoing d.after d.note ≡ s

module _ (s : List Row) (few : length s ≤ most) (apart : distinct same_row s ≡ true) where
  -- nothing changed, and there is nothing to undo
  unchanged : (code : Code) → Undoable s (refused code s)
  unchanged code = record { sound = and_from _ _ (le-leb _ most few) apart; fitting = refl; undone = refl }

  put : (x : Row) → Undoable s (put_row s x)
  put x = cond_both (member same_row x s) _ _ (Undoable s) (λ e. unchanged _) (λ new. cond_both (nat_lt (length s) most) _ _ (Undoable s) (λ e. placed new (ltb-true _ _ e)) (λ e. unchanged _))
    where
      placed : member same_row x s ≡ false → length s < most → Undoable s (counted (s ++ x ∷ []) put_in)
      placed new lt = record {
        sound = and_from _ _ (le-leb _ most (omega (arith, length_push s x))) (apart_pushed x s apart new);
        fitting = lt-ltb 0 _ (omega (arith, length_push s x));
        undone = sym (front_taken (s ++ x ∷ []) s x refl);
      }

  dropped : (x : Row) → Undoable s (drop_row s x)
  dropped x = cond_both (member same_row x s) _ _ (Undoable s) there (λ e. unchanged _)
    where
      there : member same_row x s ≡ true → Undoable s (counted (remove s (place same_row x s)) (taken_out (place same_row x s) x.value x.channel))
      there e =
          let k = place same_row x s in
          let lt = place-within same_row x s e in
          let less = length-remove s k lt in
          record {
            sound = and_from _ _ (le-leb (length (remove s k)) most (omega arith)) (apart_removed k s apart);
            fitting = and_from _ _ (not_from_false _ (place-gone same_row row_tells x s ((distinct_decides same_row s).0 apart) e)) (and_from _ _ (le-leb k (length (remove s k)) (omega arith)) (lt-ltb (length (remove s k)) most (omega arith)));
            undone = place-back same_row row_tells x s e;
          }

  named : (r : Option Row) (f : Row → Doing (List Row)) → ((x : Row) → Undoable s (f x)) → Undoable s (with_row s r f)
  named (Some x) f h = h x
  named None f h = unchanged _

  operated : (o : Operation) (first second : ℤ) → Undoable s (operate s o first second)
  operated Put a b = named (row_of a b) (put_row s) put
  operated Drop a b = named (row_of a b) (drop_row s) dropped
  operated Count a b = record { sound = (unchanged Foreign).sound; fitting = refl; undone = refl }
  operated Push a b = unchanged _
  operated Pop a b = unchanged _

pub lawful : Lawful readings
lawful = record { sound_empty = refl; sound_after = λ s q h. (each s q h).sound; fitting = λ s q h. (each s q h).fitting; undone = λ s q h. (each s q h).undone }
  where
    each : (s : List Row) (q : Request) → nat_le (length s) most && distinct same_row s ≡ true → Undoable s (operate s q.operation q.first q.second)
    each s q h = let p = and_parts _ _ h in operated s (leb-true _ most p.0) p.1 q.operation q.first q.second
