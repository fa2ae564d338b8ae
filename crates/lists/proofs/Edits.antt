-- What putting an element in at a place, and taking one out, leave of a list, where both turn a part of the places in use.
use Rattle.std.proofs.Common.{◌≡◌, ℕ, zero, suc, ◌+◌, ◌-◌, ◌<◌, ◌≤◌, List, [], ◌∷◌, ◌++◌, length, get_or, take, drop, Some, None, Option, sym, refl, ap, ◌∙◌, ap₂, append_assoc, arith, length-drop, drop-cons}
use Rattle.std.specs.List.{insert, remove}
use Rattle.std.proofs.lemmas.List.{take-take, take_at, take-append-le, drop-take, drop_at, drop-append-le, length-take-le, length_push}
use Rattle.std.proofs.lemmas.Slice.{take-put_mid}
use borrow.Rule.Slice.PartMut.{put_mid, mid_of, same_len_mid}
use Rattle.lists.specs.Held.{Popped}
use Rattle.lists.specs.Places.{Taken}

module _ {T : Type 0} where
  -- the element that stood at a place, put back there
  pub inserted_removed : (h : List T) (at : ℕ) (x : T) → at < length h → x ≡ get_or h at x → insert (remove h at) at x ≡ h
  inserted_removed [] at x lt e = absurd (omega arith)
  inserted_removed (y ∷ h) zero x lt e = ap (λ z. z ∷ h) e
  inserted_removed (y ∷ h) (suc at) x lt e = ap (λ l. y ∷ l) (inserted_removed h at x (omega arith) e)

  -- two lists with an element behind each are equal only part by part
  pushed-same : (a b : List T) (x y : T) → a ++ x ∷ [] ≡ b ++ y ∷ [] → (a ≡ b) × (x ≡ y)
  pushed-same a b x y e =
      let long : length a ≡ length b = omega (arith, ap length e, length_push a x, length_push b y) in
      let last : x ∷ [] ≡ y ∷ [] = sym (drop_at a (x ∷ []) (length b) long) ∙ ap (drop (length b)) e ∙ drop_at b (y ∷ []) (length b) refl in
      (sym (take_at a (x ∷ []) (length b) long) ∙ ap (take (length b)) e ∙ take_at b (y ∷ []) (length b) refl, cc)

  -- the places in use from `at` on
  mid-held : (items : List T) (len at : ℕ) → at ≤ len → mid_of at (len - at) items ≡ drop at (take len items)
  mid-held items len at le = sym (drop-take at (len - at) items) ∙ ap (λ n. drop at (take n items)) (omega arith)

  -- what is in use once they are written over
  put-held : (items ys : List T) (len at : ℕ) → at ≤ len → len ≤ length items → length ys ≡ length (mid_of at (len - at) items) → take len (put_mid at (len - at) items ys) ≡ take at (take len items) ++ ys
  put-held items ys len at le some same =
      let long : length ys ≡ len - at = same ∙ length-take-le (len - at) (drop at items) (omega (arith, length-drop at items)) in
      take-put_mid at (len - at) items ys len (omega arith) (omega arith) ∙ ap (λ l. l ++ ys) (sym (take-take at len items le))

  -- the last element turned to the place `at`
  pub rotated-in : (items ys h : List T) (len at : ℕ) (x : T) → take len items ≡ h ++ x ∷ [] → at ≤ length h → len ≤ length items → length ys ≡ length (mid_of at (len - at) items)
      → ys ≡ drop (length (mid_of at (len - at) items) - 1) (mid_of at (len - at) items) ++ take (length (mid_of at (len - at) items) - 1) (mid_of at (len - at) items)
      → take len (put_mid at (len - at) items ys) ≡ insert h at x
  rotated-in items ys h len at x is le some same turned =
      let long : len ≡ length h + 1 = omega (arith, ap length is, length-take-le len items some, length_push h x) in
      let mid : mid_of at (len - at) items ≡ drop at h ++ x ∷ [] = mid-held items len at (omega arith) ∙ ap (drop at) is ∙ drop-append-le at h (x ∷ []) le in
      let before : length (drop at h) ≡ length (drop at h ++ x ∷ []) - 1 = omega (arith, length_push (drop at h) x) in
      let part : ys ≡ x ∷ drop at h =
      turned ∙ ap (λ m. drop (length m - 1) m ++ take (length m - 1) m) mid ∙ ap₂ ◌++◌ (drop_at (drop at h) (x ∷ []) _ before) (take_at (drop at h) (x ∷ []) _ before) in
      put-held items ys len at (omega arith) some same ∙ ap₂ ◌++◌ (ap (take at) is ∙ take-append-le at h (x ∷ []) le) part

  -- the element at the place `at` turned to the end, and taken off there
  pub rotated-out : (items ys : List T) (len at : ℕ) (r : Option T) (left : List T) → at < len → len ≤ length items → length ys ≡ length (mid_of at (len - at) items)
      → ys ≡ drop 1 (mid_of at (len - at) items) ++ take 1 (mid_of at (len - at) items) → Popped r (take len (put_mid at (len - at) items ys)) left → Taken r at (take len items) left
  rotated-out items ys len at (Some x) left lt some same turned p =
      let h = take len items in
      let within : at < length h = omega (arith, length-take-le len items some) in
      let mid : mid_of at (len - at) items ≡ get_or h at x ∷ drop (suc at) h = mid-held items len at (omega arith) ∙ drop-cons h at x within in
      let part : ys ≡ drop (suc at) h ++ get_or h at x ∷ [] = turned ∙ ap (λ m. drop 1 m ++ take 1 m) mid in
      let whole : left ++ x ∷ [] ≡ remove h at ++ get_or h at x ∷ [] =
      sym p ∙ put-held items ys len at (omega arith) some same ∙ ap (λ l. take at h ++ l) part ∙ sym (append_assoc (take at h) (drop (suc at) h) (get_or h at x ∷ [])) in
      let same = pushed-same left (remove h at) x (get_or h at x) whole in
      (within, ap (λ l. insert l at x) same.0 ∙ inserted_removed h at x within same.1, same.0)
  rotated-out items ys len at None left lt some same turned p =
      let long : length (take len (put_mid at (len - at) items ys)) ≡ len = length-take-le len _ (omega (arith, same_len_mid at (len - at) items ys same)) in
      absurd (omega (arith, ap length p.0))

  -- what is left where there was such a place
  pub taken-left : (r : Option T) (at : ℕ) (was left : List T) → Taken r at was left → at < length was → left ≡ remove was at
  taken-left (Some x) at was left t lt = t.2
  taken-left None at was left t lt = absurd (omega (arith, t.0))
