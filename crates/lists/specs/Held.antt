-- What a sequence of bounded length holds, and over which blank. Assumes nothing.
use Rattle.std.specs.Prelude.{◌≡◌, ℕ, ◌-◌, ◌<◌, ◌≤◌, List, [], ◌∷◌, ◌++◌, length, take, replicate, Some, None, Option, Ok, Err, Result}
use Rattle.lists.specs.declared.seq.Seq.{Seq}

-- a sequence as clauses compare it: its elements, in order, and what its unused places hold
pub record Contents (T : Type 0) : Type 0 where
  pub held : List T
  pub blank : T

-- the elements of a sequence, in order
abbrev pub held : {T : Type 0} {n : ℕ} → Seq T n → List T
held s = take s.len s.items

-- both of a sequence
abbrev pub seen : {T : Type 0} {n : ℕ} → Seq T n → Contents T
seen s = record { held = held s; blank = s.blank }

-- other elements over the same blank
abbrev pub holding : {T : Type 0} {n : ℕ} → List T → Seq T n → Contents T
holding xs s = record { held = xs; blank = s.blank }

-- all n places of a sequence: its elements, and the blank in each place past them
abbrev pub places : {T : Type 0} → ℕ → Contents T → List T
places n s = s.held ++ replicate (n - length s.held) s.blank

-- a new sequence of at most n elements holds exactly the list, over the blank; it is refused only where the list is too long for it
abbrev pub Made : {T E : Type 0} (n : ℕ) → Result (Seq T n) E → List T → T → Type 0
Made n (Ok s) xs blank = (seen s ≡ record { held = xs; blank = blank }) × (length xs ≤ n)
Made n (Err _) xs blank = n < length xs

-- taking the last element off: it stood behind what is left, and only an empty list has none
abbrev pub Popped : {T : Type 0} → Option T → List T → List T → Type 0
Popped (Some x) was left = was ≡ left ++ (x ∷ [])
Popped None was left = (was ≡ []) × (left ≡ [])
