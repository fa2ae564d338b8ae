-- Laws of what a sequence of bounded length holds: its unused places, and what is left without its last element.
use Rattle.std.proofs.Common.{◌≡◌, ℕ, suc, ◌+◌, ◌-◌, ◌<◌, ◌≤◌, true, false, ◌⊎◌, inl, inr, List, ◌∷◌, ◌++◌, length, take, drop, set, replicate, Ok, Err, Result, IsOk, IsErr, ◌↔◌, sym, ap, ap₂, ◌∙◌, arith, length-drop}
use mathlib.Core.List.{is_set}
use mathlib.Core.HLevel.{is_prop→PathP}
use native.Mathlib.Nat.{ℕ_set}
use native.Mathlib.Bridge.{le_prop}
use Rattle.std.proofs.lemmas.List.{drop-set, drop-set-lt, drop-drop, drop-replicate, length-set, length-take-le, drop_at, length-replicate, replicate-append-replicate}
use Rattle.std.proofs.lemmas.Bool.{cases_lt, true≢false}
use Rattle.std.proofs.lemmas.Slice.{drop-put_mid}
use borrow.Rule.Slice.PartMut.{put_mid, mid_of, post_of, same_len_mid}
use Rattle.lists.specs.declared.seq.Seq.{Seq}
use Rattle.lists.specs.Filling.{Filled, filled}
use Rattle.lists.specs.Held.{held, places, Made}

-- a sequence's places are filled up behind its length
pub filled_of : {T : Type 0} {n : ℕ} (s : Seq T n) → Filled s.items s.len n s.blank
filled_of s = record { within = s.within; full = s.full; rest = s.rest }

pub held-length : {T : Type 0} {n : ℕ} (s : Seq T n) → length (held s) ≡ s.len
held-length s = length-take-le s.len s.items (omega (arith, s.full, s.within))

-- a sequence holds at most its capacity
pub held-within : {T : Type 0} {n : ℕ} (s : Seq T n) → length (held s) ≤ n
held-within s = omega (arith, held-length s, s.within)

-- sequences with equal contents over one blank are one record
pub held-known : {T : Type 0} {n : ℕ} → IsSet T → (a b : Seq T n) → held a ≡ held b → a.blank ≡ b.blank → a ≡ b
held-known {T} {n} s a b t e =
    let items : a.items ≡ b.items =
    sym (filled a.items a.len n a.blank (filled_of a)) ∙ (λ i. places n (record { held = t i; blank = e i })) ∙ filled b.items b.len n b.blank (filled_of b) in
    let len : a.len ≡ b.len = sym (held-length a) ∙ ap length t ∙ held-length b in
    λ i. record {
      items = items i;
      len = len i;
      blank = e i;
      within = is_prop→PathP (λ j. len j ≤ n) (λ j. le_prop) a.within b.within i;
      full = is_prop→PathP (λ j. length (items j) ≡ n) (λ j. ℕ_set _ _) a.full b.full i;
      rest = is_prop→PathP (λ j. drop (len j) (items j) ≡ replicate (n - len j) (e j)) (λ j. is_set s _ _) a.rest b.rest i;
    }

-- the unused places after one more element, and after one less
pub filled-push : {T : Type 0} {items : List T} {len n : ℕ} {blank : T} (x : T) → Filled items len n blank → len < n → Filled (set items len x) (len + 1) n blank
filled-push {T} {items} {len} {n} {blank} x f room =
    record {
      within = omega arith;
      full = simp length-set f.full;
      rest =
          drop-set-lt (len + 1) items len x (omega arith) ∙ sym (drop-drop 1 len items) ∙ ap (drop 1) f.rest ∙ drop-replicate 1 (n - len) blank ∙ ap (λ k. replicate k blank) (omega arith);
    }

pub filled-pop : {T : Type 0} {items : List T} {len n : ℕ} {blank : T} → Filled items len n blank → 0 < len → Filled (set items (len - 1) blank) (len - 1) n blank
filled-pop {T} {items} {len} {n} {blank} f some =
    let before : len - 1 + 1 ≡ len = omega arith in
    let more : suc (n - len) ≡ n - (len - 1) = omega arith in
    record {
      within = omega arith;
      full = simp length-set f.full;
      rest =
          drop-set items (len - 1) blank (omega arith) ∙ ap (λ k. blank ∷ drop k items) before ∙ ap (λ l. blank ∷ l) f.rest ∙ ap (λ k. replicate k blank) more;
    }

-- a part of the places from `a` on written over, up to the new length
pub filled-put : {T : Type 0} {items : List T} {len n : ℕ} {blank : T} (a k : ℕ) (ys : List T) (now : ℕ) → Filled items len n blank → a ≤ len → len ≤ now → now ≡ a + k → now ≤ n → length ys ≡ length (mid_of a k items)
    → Filled (put_mid a k items ys) now n blank
filled-put {T} {items} {len} {n} {blank} a k ys now f from more is room same =
    let long : length ys ≡ k = same ∙ length-take-le k (drop a items) (omega (arith, length-drop a items, f.full)) in
    record {
      within = room;
      full = same_len_mid a k items ys same ∙ f.full;
      rest =
          drop-put_mid a k items ys now (omega arith) (omega (arith, f.full)) long ∙ ap (λ m. drop m items) (omega arith) ∙ sym (drop-drop (now - len) len items) ∙ ap (drop (now - len)) f.rest ∙ drop-replicate (now - len) (n - len) blank ∙ ap (λ m. replicate m blank) (omega arith);
    }

-- the places from `a` on, as far as they were in use, written over with the blank
pub filled-cut : {T : Type 0} {items : List T} {len n : ℕ} {blank : T} (a : ℕ) (ys : List T) → Filled items len n blank → a ≤ len → ys ≡ replicate (len - a) blank → Filled (put_mid a (len - a) items ys) a n blank
filled-cut {T} {items} {len} {n} {blank} a ys f less is =
    let long : length ys ≡ length (mid_of a (len - a) items) = ap length is ∙ length-replicate (len - a) blank ∙ sym (length-take-le (len - a) (drop a items) (omega (arith, length-drop a items, f.full, f.within))) in
    record {
      within = omega (arith, f.within);
      full = same_len_mid a (len - a) items ys long ∙ f.full;
      rest =
          drop_at (take a items) (ys ++ post_of a (len - a) items) a (length-take-le a items (omega (arith, f.full, f.within)))
          ∙ ap₂ ◌++◌ is (drop-drop (len - a) a items ∙ ap (λ m. drop m items) (omega arith) ∙ f.rest) ∙ replicate-append-replicate (len - a) (n - len) blank ∙ ap (λ m. replicate m blank) (omega (arith, f.within));
    }

-- what a refusal says of the lengths: there was no place for one more, or not for all
pub full-push : {a n : ℕ} → (a < n → false ≡ true) → n ≤ a
full-push {a} {n} h = go (cases_lt a n)
  where
    go : (a < n) ⊎ (n ≤ a) → n ≤ a
    go (inl lt) = absurd (true≢false (sym (h lt)))
    go (inr le) = le

pub full-extend : {a n : ℕ} → (a ≤ n → false ≡ true) → n < a
full-extend {a} {n} h = let over : n + 1 ≤ a = full-push (λ lt. h (omega arith)) in omega arith

-- a refusal passed on: a list that is too long for a new sequence, and a change that does not fit
pub refused-made : {T E : Type 0} {n : ℕ} (r : Result (Seq T n) E) (xs : List T) (blank : T) → IsErr r → n < length xs → Made n r xs blank
refused-made (Ok s) xs blank e long = absurd (true≢false (sym e))
refused-made (Err x) xs blank e long = long

pub refused-fits : {T E P : Type 0} (r : Result T E) → IsErr r → ¬ P → IsOk r ↔ P
refused-fits (Ok x) e never = absurd (true≢false (sym e))
refused-fits (Err x) e never = (λ h. absurd (true≢false (sym h)), λ p. absurd (never p))
