-- The lines of an input, one after another.
use Rattle.std.proofs.Common.{◌≡◌, ℕ, ◌<◌, List, [], ◌∷◌, length, Some, None, Option, unwrap_or, sym, refl, ap, ◌∙◌, arith, length-append}
use Rattle.std.specs.Borrow.{Bor}
use Rattle.lines.specs.Parts.{parts, beside, rejoined}
use Rattle.lines.proofs.PartLaws.{parts-some}
use Rattle.intake.specs.Inputs.{ended, lines_in}

ended-more : (p : List ℕ) (ps : List (List ℕ)) → 0 < length ps → ended (p ∷ ps) ≡ p ∷ ended ps
ended-more p [] some = absurd (omega arith)
ended-more [] (q ∷ ps) some = refl
ended-more (b ∷ bs) (q ∷ ps) some = refl

-- a line that is the whole text
ended-last : (p : List ℕ) → 0 < length p → ended (p ∷ []) ≡ p ∷ []
ended-last [] some = absurd (omega arith)
ended-last (b ∷ bs) some = refl

-- a text begins with a line, and behind its line feed, if there is one, follow the others
pub next_line : (text line : List ℕ) (after : Option (Bor (List ℕ))) (rest nothing : Bor (List ℕ)) → 0 < length text → parts 10 text ≡ beside 10 line after → text ≡ rejoined 10 line after
    → rest ≡ unwrap_or after nothing → nothing.now ≡ [] → (lines_in text ≡ line ∷ lines_in rest.now) × (length rest.now < length text)
next_line text line None rest nothing some e whole is none =
    let empty : rest.now ≡ [] = ap (λ r. r.now) is ∙ none in
    (ap ended e ∙ ended-last line (omega (arith, ap length whole)) ∙ ap (λ r. line ∷ lines_in r) (sym empty), omega (arith, ap length empty))
next_line text line (Some more) rest nothing some e whole is none =
    let left : rest.now ≡ more.now = ap (λ r. r.now) is in (
      ap ended e ∙ ended-more line (parts 10 more.now) (parts-some 10 more.now) ∙ ap (λ r. line ∷ lines_in r) (sym left),
      omega (arith, ap length left, ap length whole, length-append line (10 ∷ more.now)),
    )
