-- The whole line: the word, the number of fields and the numbers together.
use Rattle.std.proofs.Common.{◌≡◌, ℕ, ◌+◌, Bool, true, false, cond, ltb, ◌⊎◌, List, [], ◌∷◌, length, drop, Some, None, Ok, Err, Option, Result, sym, refl, ap, ◌∙◌, subst, inl, inr, ⊎_elim, arith}
use Rattle.std.proofs.lemmas.Bool.{cond-false, ltb-false, le-ltb}
use Rattle.service.specs.declared.request.Operation.{Operation}
use Rattle.service.specs.declared.request.Request.{Request}
use Rattle.lines.specs.declared.fault.LineFault.{LineFault}
use Rattle.lines.specs.declared.fault.LineFault.TheVariants.{Word, Number}
use Rattle.lines.specs.declared.fault.NumberFault.{NumberFault}
use Rattle.lines.specs.declared.fault.NumberFault.TheVariants.{Form}
use Rattle.lines.specs.Asking.{Asks, Broken, ReadExactly}
use Rattle.lines.specs.Fields.{fields, joined}
use Rattle.std.specs.List.{slice_get}
use Rattle.std.specs.Option.{ok_or, option_and_then}
use Rattle.lines.specs.Reading.{then, numbers_of, word_of, counted, operation_in, request, asked, read_of}
use Rattle.lines.specs.Words.{kinds, word, operation_of_word}
use Rattle.lines.proofs.JoinLaws.{joined-fields, fields-joined, absent-word, absent-numbers}
use Rattle.lines.proofs.LineLaws.{then_ok, then_err, numbers-read, numbers-readable, numbers-offset}
use Rattle.lines.proofs.WordLaws.{word-operation, operation-word}

-- a known word
known_ok : (text : List ℕ) (o : Option Operation) → operation_of_word text ≡ o → (op : Operation) → ok_or o Word ≡ Ok op → text ≡ word op
known_ok text (Some found) e op h = let same : found ≡ op = cc in operation-word text op (e ∙ ap Some same)
known_ok text None e op h = absurd (grind arith)

word_ok : (o : Option (List ℕ)) (op : Operation) → word_of o ≡ Ok op → o ≡ Some (word op)
word_ok (Some text) op e = ap Some (known_ok text (operation_of_word text) refl op e)
word_ok None op e = absurd (grind arith)

-- neither the word nor the number of fields is a number's fault
word_err : (o : Option (List ℕ)) (d : NumberFault) → word_of o ≡ Err (Number d) → ⊥
word_err o d e = go (option_and_then operation_of_word o) e
  where
    go : (o : Option Operation) → ok_or o Word ≡ Err (Number d) → ⊥
    go (Some op) e = grind arith
    go None e = grind arith

-- which way two tests went
both_kept : {A E : Type 0} (s t : Bool) (a b : E) (x y : A) → cond s (Err a) (cond t (Err b) (Ok x)) ≡ Ok y → (s ≡ false) × (t ≡ false) × (x ≡ y)
both_kept true t a b x y e = absurd (grind arith)
both_kept false true a b x y e = absurd (grind arith)
both_kept false false a b x y e = (refl, refl, cc)

one_failed : {A E : Type 0} (s t : Bool) (a b : E) (x : A) (d : E) → cond s (Err a) (cond t (Err b) (Ok x)) ≡ Err d → (a ≡ d) ⊎ (b ≡ d)
one_failed true t a b x d e = inl (cc)
one_failed false true a b x d e = inr (cc)
one_failed false false a b x d e = absurd (grind arith)

module _ (line : List ℕ) (op : Operation) where
  -- exactly as many fields as the operation takes
  pub counted_ok : (found : Operation) → counted line op ≡ Ok found → (length (fields line) ≡ length (kinds op) + 1) × (op ≡ found)
  counted_ok found e =
      let h = both_kept (ltb (length (fields line)) (length (kinds op) + 1)) (ltb (length (kinds op) + 1) (length (fields line))) _ _ op found e in
      let enough = ltb-false (length (fields line)) (length (kinds op) + 1) h.0 in
      let surplus = ltb-false (length (kinds op) + 1) (length (fields line)) h.1 in
      (omega (arith, enough, surplus), h.2)

  pub counted_same : length (fields line) ≡ length (kinds op) + 1 → counted line op ≡ Ok op
  counted_same e =
      cond-false (ltb (length (fields line)) (length (kinds op) + 1)) _ _ (le-ltb (length (fields line)) (length (kinds op) + 1) (omega (arith, e)))
      ∙ cond-false (ltb (length (kinds op) + 1) (length (fields line))) _ _ (le-ltb (length (kinds op) + 1) (length (fields line)) (omega (arith, e)))

  pub counted_err : (d : NumberFault) → counted line op ≡ Err (Number d) → ⊥
  counted_err d e =
      ⊎_elim
      (λ h. grind arith)
      (λ h. grind arith)
      (one_failed (ltb (length (fields line)) (length (kinds op) + 1)) (ltb (length (kinds op) + 1) (length (fields line))) _ _ op (Number d) e)

-- the fields of a line are its word and the texts behind it
pub word_first : (line : List ℕ) (t : List ℕ) → slice_get (fields line) 0 ≡ Some t → fields line ≡ t ∷ drop 1 (fields line)
word_first line t e = go (fields line) e
  where
    go : (fs : List (List ℕ)) → slice_get fs 0 ≡ Some t → fs ≡ t ∷ drop 1 fs
    go [] e = absurd (grind arith)
    go (f ∷ fs) e = let same : f ≡ t = cc in ap (λ x. x ∷ fs) same

pub read-asks : (line : List ℕ) (q : Request) → read_of line ≡ Ok q → Asks line q
read-asks line q e =
    let found = then_ok (operation_in line) _ q e in
    let op = found.0 in
    let known = then_ok (word_of (slice_get (fields line) 0)) _ op found.1 in
    let read = then_ok (numbers_of (kinds op) 1 line) _ q found.2 in
    let enough = counted_ok line known.0 op known.2 in
    let first : slice_get (fields line) 0 ≡ Some (word op) = word_ok (slice_get (fields line) 0) known.0 known.1 ∙ ap (λ o. Some (word o)) enough.1 in
    let whole = word_first line (word op) first in
    let long : length (fields line) ≡ length (kinds op) + 1 = enough.0 ∙ ap (λ o. length (kinds o) + 1) enough.1 in
    let rest : length (drop 1 (fields line)) ≡ length (kinds op) = omega (arith, long, ap length whole) in
    let asks : Asks line (request op read.0) = record {
      texts = drop 1 (fields line);
      numbers = read.0;
      written = sym (joined-fields line) ∙ ap joined whole;
      meant = numbers-read (kinds op) 1 line (drop 1 (fields line)) read.0 read.1 refl rest;
      taken = refl;
    } in
    let same : request op read.0 ≡ q = let a = read.2 in cc in
    subst (Asks line) same asks

pub asks_read : (line : List ℕ) (q : Request) → Asks line q → read_of line ≡ Ok q
asks_read line q a =
    let op = q.operation in
    let whole : fields line ≡ word op ∷ a.texts =
    ap fields a.written ∙ fields-joined (word op) a.texts (absent-word op) (absent-numbers (kinds op) a.texts a.numbers a.meant) in
    let read = numbers-readable (kinds op) 1 line a.texts a.numbers a.meant (ap (drop 1) whole) in
    let long : length (fields line) ≡ length (kinds op) + 1 = ap length whole ∙ omega (arith, read.1) in
    ap (λ fs. then (then (word_of (slice_get fs 0)) (counted line)) (asked line)) whole
    ∙ ap (λ o. then (then (ok_or o Word) (counted line)) (asked line)) (word-operation op)
    ∙ ap (λ r. then r (asked line)) (counted_same line op long)
    ∙ ap (λ r. then r (λ zs. Ok (request op zs))) read.0
    ∙ ap Ok (sym a.taken)

pub read-broken : (line : List ℕ) (field at : ℕ) → read_of line ≡ Err (Number (Form field at)) → Broken line field at
read-broken line field at e =
    ⊎_elim
    (λ h.
    absurd (⊎_elim (word_err (slice_get (fields line) 0) (Form field at)) (λ k. counted_err line k.0 (Form field at) k.2)
    (then_err (word_of (slice_get (fields line) 0)) _ (Number (Form field at)) h)))
    (λ found.
    let op = found.0 in
    let known = then_ok (word_of (slice_get (fields line) 0)) _ op found.1 in
    let enough = counted_ok line known.0 op known.2 in
    ⊎_elim
    (λ h.
    let s = numbers-offset (kinds op) 1 line field at h in
    record {
      operation = op;
      number = s.number;
      kind = s.kind;
      bytes = s.bytes;
      asked = word_ok (slice_get (fields line) 0) known.0 known.1 ∙ ap (λ o. Some (word o)) enough.1;
      behind = s.behind;
      takes = s.takes;
      there = s.there;
      breaks = s.breaks;
    })
    (λ all. let f = all.2 in absurd (grind arith))
    (then_err (numbers_of (kinds op) 1 line) _ (Number (Form field at)) found.2))
    (then_err (operation_in line) _ (Number (Form field at)) e)

pub read_exactly : (line : List ℕ) (r : Result Request LineFault) → r ≡ read_of line → ReadExactly line r
read_exactly line r e = subst (ReadExactly line) (sym e) (record { read = read-asks line; readable = asks_read line; offset = read-broken line })
