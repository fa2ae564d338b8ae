-- Laws of a line's fields.
use Rattle.std.proofs.Common.{◌≡◌, ℕ, List, Some, sym, ap, ◌∙◌}
use Rattle.std.specs.Option.{option_map}
use Rattle.std.specs.List.{slice_get}
use Rattle.lines.specs.Parts.{start}
use Rattle.lines.specs.Fields.{fields, field_of}

pub field_found : (line : List ℕ) (n at : ℕ) (t : List ℕ) → slice_get (fields line) n ≡ Some t → start (fields line) n ≡ at
    → Some (record { number = n; begins = at; text = t }) ≡ field_of line n
field_found line n at t here from =
    ap (λ k. Some (record { number = n; begins = k; text = t })) (sym from)
    ∙ sym (ap (option_map (λ t. record { number = n; begins = start (fields line) n; text = t })) here)
