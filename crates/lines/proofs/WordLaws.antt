-- The operation that a word asks for is the one that has this word.
use Rattle.std.proofs.Common.{◌≡◌, ℕ, cond, List, Some, Option, sym, refl, ap, ◌∙◌, ⊎_elim, arith}
use Rattle.std.specs.Str.{bytes_eq}
use Rattle.std.proofs.lemmas.Slice.Eq.{bytes_eq-Decides}
use Rattle.std.proofs.lemmas.Bool.{cond-true, cond-false, cases_Bool}
use Rattle.service.specs.declared.request.Operation.{Operation}
use Rattle.service.specs.declared.request.Operation.TheVariants.{Put, Drop, Count, Push, Pop}
use Rattle.lines.specs.Words.{word, operation_of_word}

pub word-operation : (op : Operation) → operation_of_word (word op) ≡ Some op
word-operation Put = refl
word-operation Drop = refl
word-operation Count = refl
word-operation Push = refl
word-operation Pop = refl

-- one word after another
tried : (text : List ℕ) (op found : Operation) (others : Option Operation) → (others ≡ Some found → text ≡ word found)
    → cond (bytes_eq text (word op)) (Some op) others ≡ Some found → text ≡ word found
tried text op found others go e =
    ⊎_elim
    (λ t.
    let here : Some op ≡ Some found = sym (cond-true (bytes_eq text (word op)) _ _ t) ∙ e in
    let same : op ≡ found = cc in
    (bytes_eq-Decides text (word op)).0 t ∙ ap word same)
    (λ t. go (sym (cond-false (bytes_eq text (word op)) _ _ t) ∙ e))
    (cases_Bool (bytes_eq text (word op)))

pub operation-word : (text : List ℕ) (op : Operation) → operation_of_word text ≡ Some op → text ≡ word op
operation-word text op =
    tried text Put op _ (tried text Drop op _ (tried text Count op _ (tried text Push op _ (tried text Pop op _
    (λ e. absurd (grind arith))))))
