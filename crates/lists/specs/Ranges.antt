-- How many elements lie from a low to a high one. Assumes nothing.
use Rattle.std.specs.Prelude.{ℕ, Bool, not, ◌&&◌, List, count_by}

module _ {A : Type 0} (before : A → A → Bool) where
  -- x is neither before the low one nor behind the high one
  abbrev pub in_range : A → A → A → Bool
  in_range low high x = not (before x low) && not (before high x)

  -- how many elements of a list are in the range
  abbrev pub between : A → A → List A → ℕ
  between low high xs = count_by (in_range low high) xs
