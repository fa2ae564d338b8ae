-- Those that have proposed, with one board more in one epoch; and what follows of decided sets.
use Rattle.std.proofs.Common.{◌≡◌, ℕ, ◌<◌, ◌≤◌, Bool, true, eqb, ◌⊎◌, Some, None, Option, refl, ap, ◌∙◌, inl, inr, ⊎_elim, arith}
use Rattle.std.proofs.lemmas.Bool.{cond_both, cond-false, eqb-true, ne_eqb, or_cases, or_left}
use Rattle.agreement.specs.Agreements.{Sound}
use Rattle.agreement.specs.Sets.{joined}
use Rattle.agreement.specs.Standings.{Standing, adding, proposing}
use Rattle.agreement.proofs.Majorities.{speaks-share}

-- who has proposed then had proposed before, or is the board in its epoch
pub adding-either : (p : ℕ → ℕ → Bool) (epoch board e c : ℕ) → adding p epoch board e c ≡ true → (p e c ≡ true) ⊎ ((e ≡ epoch) × (c ≡ board))
adding-either p epoch board e c =
    cond_both (eqb e epoch) (joined board (p epoch)) (p e) (λ w. w c ≡ true → (p e c ≡ true) ⊎ ((e ≡ epoch) × (c ≡ board)))
    (λ q on. let here = eqb-true e epoch q in ⊎_elim (λ was. inl (ap (λ k. p k c) here ∙ was)) (λ new. inr (here, eqb-true c board new)) (or_cases (p epoch c) _ on))
    (λ q. inl)

-- who had proposed before has proposed then
pub adding-more : (p : ℕ → ℕ → Bool) (epoch board e c : ℕ) → p e c ≡ true → adding p epoch board e c ≡ true
adding-more p epoch board e c on =
    cond_both (eqb e epoch) (joined board (p epoch)) (p e) (λ w. w c ≡ true)
    (λ q. or_left (p epoch c) _ (let here = eqb-true e epoch q in rw here at on)) (λ q. on)

-- in another epoch nothing changes
pub adding-elsewhere : (p : ℕ → ℕ → Bool) (epoch board e : ℕ) → (e ≡ epoch → ⊥) → adding p epoch board e ≡ p e
adding-elsewhere p epoch board e other = cond-false (eqb e epoch) (joined board (p epoch)) (p e) (ne_eqb e epoch other)

-- a board that there is may propose in an epoch that there is
pub proposing-sound : (s : Standing) (epoch board : ℕ) → Sound s → epoch < 16 → board < s.size → Sound (proposing s epoch board)
proposing-sound s epoch board sound early there = record {
  some = sound.some;
  few = sound.few;
  boards = λ e c on. ⊎_elim (sound.boards e c) (λ h. omega arith) (adding-either s.proposed epoch board e c on);
  epochs = λ e c on. ⊎_elim (sound.epochs e c) (λ h. omega arith) (adding-either s.proposed epoch board e c on);
  within = λ e w is c on. adding-more s.proposed epoch board e c (sound.within e w is c on);
  majority = sound.majority;
}

-- nothing is decided past epoch 15: a majority has a board, and it would have proposed there
pub sound-past : (s : Standing) → Sound s → (e : ℕ) → 16 ≤ e → s.decided e ≡ None
sound-past s sound e past = go (s.decided e) refl
  where
    go : (o : Option (ℕ → Bool)) → s.decided e ≡ o → o ≡ None
    go None is = refl
    go (Some w) is =
        let most = sound.majority e w is in
        let one = speaks-share s.size w w most most in
        absurd (omega (arith, sound.epochs e one.0 (sound.within e w is one.0 one.2)))
