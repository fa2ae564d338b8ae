-- Places that are filled up with a blank behind what is in use.
use Rattle.std.proofs.Common.{◌≡◌, ℕ, ◌-◌, ◌≤◌, List, ◌++◌, length, take, drop, replicate, sym, ap, ◌∙◌, arith}
use Rattle.std.proofs.lemmas.List.{length-take-le, take-append-drop}
use Rattle.lists.specs.Held.{places}

-- of n places the first `len` are in use, and the blank stands in each of the others
pub record Filled {T : Type 0} (items : List T) (len n : ℕ) (blank : T) : Type 0 where
  pub within : len ≤ n
  pub full : length items ≡ n
  pub rest : drop len items ≡ replicate (n - len) blank

module _ {T : Type 0} (items : List T) (len n : ℕ) (blank : T) (f : Filled items len n blank) where
  -- as many are in use as the length says
  pub front_length : length (take len items) ≡ len
  front_length = length-take-le len items (omega (arith, f.full, f.within))

  -- what is in use and the blank give all the places
  pub filled : places n (record { held = take len items; blank = blank }) ≡ items
  filled =
      ap (λ k. take len items ++ replicate (n - k) blank) front_length ∙ ap (λ l. take len items ++ l) (sym f.rest) ∙ take-append-drop len items

-- Two sequences that hold the same over the same blank are the same in every place, and as long: no byte is left open.
abbrev pub KnownByContents : Type 0 → ℕ → Type 0
KnownByContents T n =
    (items items' : List T) (len len' : ℕ) (blank : T) → Filled items len n blank → Filled items' len' n blank → take len items ≡ take len' items' → (items ≡ items') × (len ≡ len')
