-- A line is read as a request exactly when it has that request's form.
use Rattle.std.proofs.Common.{◌≡◌, ℕ, zero, suc, ◌+◌, ◌⊎◌, List, [], ◌∷◌, length, drop, ℤ, pos, Some, None, Ok, Err, Option, Result, sym, refl, ap, ◌∙◌, subst, inl, inr, ⊎_elim, arith}
use Rattle.std.specs.Option.{ok_or, option_map}
use Rattle.std.specs.Result.{result_map_both}
use Rattle.lines.specs.declared.fault.LineFault.TheVariants.{Missing, Number}
use Rattle.lines.specs.declared.fault.NumberFault.{NumberFault}
use Rattle.lines.specs.declared.fault.NumberFault.TheVariants.{Form}
use Rattle.lines.specs.Asking.{Means, Good, Numbers}
use Rattle.lines.specs.Fields.{Place, fields}
use Rattle.lines.specs.Forms.{Value, Breaks}
use Rattle.lines.specs.Numbers.{channel_of, value_of}
use Rattle.std.specs.List.{slice_get}
use Rattle.lines.specs.Parts.{start}
use Rattle.lines.specs.Reading.{then, number_of, number_at, numbers_of}
use Rattle.lines.specs.declared.kind.Kind.{Kind}
use Rattle.lines.specs.declared.kind.Kind.TheVariants.{Channel as channel, Value as value}
use Rattle.lines.proofs.ChannelLaws.{channel_reads_as}
use Rattle.lines.proofs.ValueLaws.{value_reads_as}

-- what was read before what
pub then_ok : {A B E : Type 0} (r : Result A E) (go : A → Result B E) (y : B) → then r go ≡ Ok y → (x : A) × (r ≡ Ok x) × (go x ≡ Ok y)
then_ok (Ok x) go y e = (x, refl, e)
then_ok (Err d) go y e = absurd (grind arith)

pub then_err : {A B E : Type 0} (r : Result A E) (go : A → Result B E) (d : E) → then r go ≡ Err d → (r ≡ Err d) ⊎ ((x : A) × (r ≡ Ok x) × (go x ≡ Err d))
then_err (Ok x) go d e = inr (x, refl, e)
then_err (Err c) go d e = let same : c ≡ d = cc in inl (ap Err same)

-- a number and its fault, as the line has them
raised_ok : {A : Type 0} (f : A → ℤ) (r : Result A NumberFault) (z : ℤ) → result_map_both f Number r ≡ Ok z → (x : A) × (r ≡ Ok x) × (z ≡ f x)
raised_ok f (Ok x) z e = (x, refl, cc)
raised_ok f (Err d) z e = absurd (grind arith)

raised_err : {A : Type 0} (f : A → ℤ) (r : Result A NumberFault) (d : NumberFault) → result_map_both f Number r ≡ Err (Number d) → r ≡ Err d
raised_err f (Ok x) d e = absurd (grind arith)
raised_err f (Err c) d e = let same : c ≡ d = cc in ap Err same

-- one number of a kind
number_read : (k : Kind) (p : Place) (z : ℤ) → number_of k p ≡ Ok z → Means k p.text z
number_read channel p z e =
    let r = raised_ok pos (channel_of p) z e in
    (r.0, (channel_reads_as p (channel_of p) refl).read r.0 r.1, r.2)
number_read value p z e =
    let r = raised_ok (λ z. z) (value_of p) z e in
    subst (Value p.text) (sym r.2) ((value_reads_as p (value_of p) refl).read r.0 r.1)

number-readable : (k : Kind) (p : Place) (z : ℤ) → Means k p.text z → number_of k p ≡ Ok z
number-readable channel p z m = ap (result_map_both pos Number) ((channel_reads_as p (channel_of p) refl).readable m.0 m.1) ∙ ap Ok (sym m.2)
number-readable value p z m = ap (result_map_both (λ z. z) Number) ((value_reads_as p (value_of p) refl).readable z m)

number-offset : (k : Kind) (p : Place) (field at : ℕ) → number_of k p ≡ Err (Number (Form field at)) → (field ≡ p.number) × Breaks (Good k) p.text at
number-offset channel p field at e = (channel_reads_as p (channel_of p) refl).offset field at (raised_err pos (channel_of p) (Form field at) e)
number-offset value p field at e = (value_reads_as p (value_of p) refl).offset field at (raised_err (λ z. z) (value_of p) (Form field at) e)

-- a field's number, where the field is there
module _ (k : Kind) (line : List ℕ) (n : ℕ) where
  abbrev placed : List ℕ → Place
  placed t = record { number = n; begins = start (fields line) n; text = t }

  field_ok : (o : Option (List ℕ)) → slice_get (fields line) n ≡ o → (z : ℤ) → then (ok_or (option_map placed o) (Missing n)) (number_of k) ≡ Ok z → (t : List ℕ) × (slice_get (fields line) n ≡ Some t) × Means k t z
  field_ok (Some t) here z e = (t, here, number_read k (placed t) z e)
  field_ok None here z e = absurd (grind arith)

  pub field_read : (z : ℤ) → number_at k line n ≡ Ok z → (t : List ℕ) × (slice_get (fields line) n ≡ Some t) × Means k t z
  field_read = field_ok (slice_get (fields line) n) refl

  pub field_readable : (t : List ℕ) (z : ℤ) → slice_get (fields line) n ≡ Some t → Means k t z → number_at k line n ≡ Ok z
  field_readable t z here m = ap (λ o. then (ok_or (option_map placed o) (Missing n)) (number_of k)) here ∙ number-readable k (placed t) z m

  field_err : (o : Option (List ℕ)) → slice_get (fields line) n ≡ o → (field at : ℕ) → then (ok_or (option_map placed o) (Missing n)) (number_of k) ≡ Err (Number (Form field at))
      → (t : List ℕ) × (field ≡ n) × (slice_get (fields line) n ≡ Some t) × Breaks (Good k) t at
  field_err (Some t) here field at e = let h = number-offset k (placed t) field at e in (t, h.0, here, h.1)
  field_err None here field at e = absurd (grind arith)

  pub field_offset : (field at : ℕ) → number_at k line n ≡ Err (Number (Form field at)) → (t : List ℕ) × (field ≡ n) × (slice_get (fields line) n ≡ Some t) × Breaks (Good k) t at
  field_offset = field_err (slice_get (fields line) n) refl

-- the element at a place, and what follows it
pub drop_nth : {A : Type 0} (xs : List A) (n : ℕ) (x : A) (rest : List A) → drop n xs ≡ x ∷ rest → (slice_get xs n ≡ Some x) × (drop (n + 1) xs ≡ rest)
drop_nth [] zero x rest e = absurd (grind arith)
drop_nth [] (suc n) x rest e = absurd (grind arith)
drop_nth (y ∷ ys) zero x rest e = let head : y ≡ x = cc in (ap Some head, cc)
drop_nth (y ∷ ys) (suc n) x rest e =
    let ih = drop_nth ys n x rest e in
    let next : suc n + 1 ≡ suc (n + 1) = omega arith in
    (ih.0, ap (λ k. drop k (y ∷ ys)) next ∙ ih.1)

-- all the numbers of a line
pub numbers-read : (ks : List Kind) (n : ℕ) (line : List ℕ) (ts : List (List ℕ)) (zs : List ℤ) → numbers_of ks n line ≡ Ok zs → drop n (fields line) ≡ ts → length ts ≡ length ks → Numbers ks ts zs
numbers-read [] n line [] [] e d l = tt
numbers-read [] n line [] (z ∷ zs) e d l = absurd (grind arith)
numbers-read [] n line (t ∷ ts) zs e d l = absurd (omega arith)
numbers-read (k ∷ ks) n line [] zs e d l = absurd (omega arith)
numbers-read (k ∷ ks) n line (t ∷ ts) zs e d l =
    let first = then_ok (number_at k line n) _ zs e in
    let others = then_ok (numbers_of ks (n + 1) line) _ zs first.2 in
    let found = field_read k line n first.0 first.1 in
    let here = drop_nth (fields line) n t ts d in
    let same : found.0 ≡ t = let a = found.1 in let b = here.0 in cc in
    let whole : first.0 ∷ others.0 ≡ zs = let a = others.2 in cc in
    subst (Numbers (k ∷ ks) (t ∷ ts)) whole (subst (λ b. Means k b first.0) same found.2, numbers-read ks (n + 1) line ts others.0 others.1 here.1 (omega arith))

pub numbers-readable : (ks : List Kind) (n : ℕ) (line : List ℕ) (ts : List (List ℕ)) (zs : List ℤ) → Numbers ks ts zs → drop n (fields line) ≡ ts → (numbers_of ks n line ≡ Ok zs) × (length ts ≡ length ks)
numbers-readable [] n line [] [] m d = (refl, refl)
numbers-readable [] n line [] (z ∷ zs) m d = absurd m
numbers-readable [] n line (t ∷ ts) zs m d = absurd m
numbers-readable (k ∷ ks) n line [] zs m d = absurd m
numbers-readable (k ∷ ks) n line (t ∷ ts) [] m d = absurd m
numbers-readable (k ∷ ks) n line (t ∷ ts) (z ∷ zs) m d =
    let here = drop_nth (fields line) n t ts d in
    let ih = numbers-readable ks (n + 1) line ts zs m.1 here.1 in
    let first = field_readable k line n t z here.0 m.0 in
    (ap (λ r. then r (λ z. then (numbers_of ks (n + 1) line) (λ zs. Ok (z ∷ zs)))) first ∙ ap (λ r. then r (λ zs. Ok (z ∷ zs))) ih.0, ap suc ih.1)

-- the field of a fault, counted from field n on
pub record Stands (ks : List Kind) (n : ℕ) (line : List ℕ) (field at : ℕ) : Type 0 where
  pub number : ℕ
  pub kind : Kind
  pub bytes : List ℕ
  pub behind : field ≡ number + n
  pub takes : slice_get ks number ≡ Some kind
  pub there : slice_get (fields line) field ≡ Some bytes
  pub breaks : Breaks (Good kind) bytes at

pub numbers-offset : (ks : List Kind) (n : ℕ) (line : List ℕ) (field at : ℕ) → numbers_of ks n line ≡ Err (Number (Form field at)) → Stands ks n line field at
numbers-offset [] n line field at e = absurd (grind arith)
numbers-offset (k ∷ ks) n line field at e =
    ⊎_elim
    (λ broken.
    let h = field_offset k line n field at broken in
    record { number = 0; kind = k; bytes = h.0; behind = omega (arith, h.1); takes = refl; there = ap (slice_get (fields line)) h.1 ∙ h.2; breaks = h.3 })
    (λ first.
    ⊎_elim
    (λ later.
    let h = numbers-offset ks (n + 1) line field at later in
    record { number = suc h.number; kind = h.kind; bytes = h.bytes; behind = omega (arith, h.behind); takes = h.takes; there = h.there; breaks = h.breaks })
    (λ all. let f = all.2 in absurd (grind arith))
    (then_err (numbers_of ks (n + 1) line) _ (Number (Form field at)) first.2))
    (then_err (number_at k line n) _ (Number (Form field at)) e)
