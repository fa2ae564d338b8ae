-- Laws of the stack.
use Rattle.std.specs.Prelude.{◌≡◌, suc, ◌<◌, true, List, [], ◌∷◌, length, ℤ, pos, nat_le, nat_lt, refl}
use Rattle.std.proofs.Common.{arith}
use Rattle.std.proofs.lemmas.Bool.{cond_both, leb-true, le-leb, lt-ltb, ltb-true}
use Rattle.service.specs.Doings.{done, refused}
use Rattle.service.specs.Model.{Lawful}
use Rattle.service.specs.declared.doing.Doing.{Doing}
use Rattle.service.specs.declared.reply.Code.TheVariants.{Full}
use Rattle.service.specs.declared.request.Operation.{Operation}
use Rattle.service.specs.declared.request.Operation.TheVariants.{Put, Drop, Count, Push, Pop}
use Rattle.tables.specs.Stacks.{most, push, stack, operate, fits, undoing}
use Rattle.tables.specs.Notes.{put_in}

-- the law of the stack: a push has left a value to take off, and a pop a place to put one back
pub lawful : Lawful stack
lawful = record { sound_empty = refl; sound_after = λ s q. after s q.operation q.first; fitting = λ s q. fitting s q.operation q.first; undone = λ s q h. undone s q.operation q.first }
  where
    -- what holds of a value pushed and of a full stack holds of a push
    pushing : (P : Doing (List ℤ) → Type 0) (s : List ℤ) (v : ℤ) → (length s < most → P (done (v ∷ s) (pos (suc (length s))) put_in)) → P (refused Full s) → P (push s v)
    pushing P s v placed full = cond_both (nat_lt (length s) most) _ _ P (λ e. placed (ltb-true _ _ e)) (λ e. full)

    after : (s : List ℤ) (o : Operation) (v : ℤ) → nat_le (length s) most ≡ true → nat_le (length (operate s o v).after) most ≡ true
    after s Push v h = pushing (λ d. nat_le (length d.after) most ≡ true) s v (λ lt. le-leb _ most (omega arith)) h
    after [] Pop v h = h
    after (x ∷ s) Pop v h = le-leb _ most (omega (arith, leb-true _ most h))
    after s Put v h = h
    after s Drop v h = h
    after s Count v h = h

    fitting : (s : List ℤ) (o : Operation) (v : ℤ) → nat_le (length s) most ≡ true → fits (operate s o v).after (operate s o v).note ≡ true
    fitting s Push v h = pushing (λ d. fits d.after d.note ≡ true) s v (λ lt. lt-ltb 0 _ (omega arith)) refl
    fitting [] Pop v h = refl
    fitting (x ∷ s) Pop v h = lt-ltb _ most (omega (arith, leb-true _ most h))
    fitting s Put v h = refl
    fitting s Drop v h = refl
    fitting s Count v h = refl

    undone : (s : List ℤ) (o : Operation) (v : ℤ) → undoing (operate s o v).after (operate s o v).note ≡ s
    undone s Push v = pushing (λ d. undoing d.after d.note ≡ s) s v (λ lt. refl) refl
    undone [] Pop v = refl
    undone (x ∷ s) Pop v = refl
    undone s Put v = refl
    undone s Drop v = refl
    undone s Count v = refl
