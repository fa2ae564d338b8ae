-- What the rule of deciding makes of decided sets.
use Rattle.std.proofs.Common.{◌≡◌, ℕ, ◌≤◌, Bool, true, false, eqb, leb, is_some, cond, if◌then◌else◌, Some, None, Option, sym, refl, ap, ◌∙◌, subst, ⊎_elim, arith}
use mathlib.Core.Path.{fun_ext}
use Rattle.std.proofs.lemmas.Bool.{cases_Bool, cond_both, cond-true, cond-false, eq-eqb, eqb-true, eqb-false, ne_eqb}
use Rattle.agreement.specs.Agreements.{Sound, DecidesOnly, Cleared, Proposed, Learned}
use Rattle.agreement.specs.Deciding.{settled, settling, Prompt}
use Rattle.agreement.specs.Majorities.{speaks}
use Rattle.agreement.specs.Polls.{answer_refusal}
use Rattle.agreement.specs.Refusals.{learn_refusal}
use Rattle.agreement.specs.declared.refusal.AgreementRefusal.TheVariants.{Unknown, TooFew}
use Rattle.agreement.specs.Sets.{Within}
use Rattle.agreement.specs.Standings.{Standing, proposing}
use Rattle.agreement.proofs.Majorities.{speaks-share, speaks_more}
use Rattle.agreement.proofs.Agreements.{adding-elsewhere}

-- nobody is no majority
pub silent : (n : ℕ) (w : ℕ → Bool) → ((c : ℕ) → w c ≡ true → ⊥) → speaks n w ≡ false
silent n w none = ⊎_elim (λ p. absurd (none (speaks-share n w w p p).0 (speaks-share n w w p p).2)) (λ q. q) (cases_Bool (speaks n w))

-- where too few have proposed, the rule decides nothing
settled-few : (n : ℕ) (w : ℕ → Bool) (o : Option (ℕ → Bool)) → speaks n w ≡ false → o ≡ settled n w o
settled-few n w (Some u) h = refl
settled-few n w None h = sym (cond-false (speaks n w) (Some w) None h)

-- a decided set lies within the proposers
settled-within : (n : ℕ) (w : ℕ → Bool) (o : Option (ℕ → Bool)) (u : ℕ → Bool) → (o ≡ Some u → Within u w) → settled n w o ≡ Some u → Within u w
settled-within n w (Some v) u h = h
settled-within n w None u h =
    cond_both (speaks n w) (Some w) None (λ o. o ≡ Some u → Within u w) (λ q e. let same : w ≡ u = cc in subst (λ v. Within v w) same (λ c on. on)) (λ q. h)

-- and is a majority
settled-majority : (n : ℕ) (w : ℕ → Bool) (o : Option (ℕ → Bool)) (u : ℕ → Bool) → (o ≡ Some u → speaks n u ≡ true) → settled n w o ≡ Some u → speaks n u ≡ true
settled-majority n w (Some v) u h = h
settled-majority n w None u h =
    cond_both (speaks n w) (Some w) None (λ o. o ≡ Some u → speaks n u ≡ true) (λ q e. let same : w ≡ u = cc in subst (λ v. speaks n v ≡ true) same q) (λ q. h)

-- after it a set is decided exactly where a majority have proposed
settled_prompt : (n : ℕ) (w : ℕ → Bool) (o : Option (ℕ → Bool)) → ((u : ℕ → Bool) → o ≡ Some u → speaks n u ≡ true)
    → ((u : ℕ → Bool) → o ≡ Some u → Within u w) → is_some (settled n w o) ≡ speaks n w
settled_prompt n w (Some u) most within = sym (speaks_more n u w (λ c l. within u refl c) (most u refl))
settled_prompt n w None most within = cond_both (speaks n w) (Some w) None (λ o. is_some o ≡ speaks n w) sym sym

module _ (s : Standing) (epoch : ℕ) where
  -- what holds of the set of the epoch, and held of the others, holds of each
  settling-each : (P : ℕ → Option (ℕ → Bool) → Type 0) → P epoch (settled s.size (s.proposed epoch) (s.decided epoch))
      → ((e : ℕ) → (e ≡ epoch → ⊥) → P e (s.decided e)) → (e : ℕ) → P e ((settling s epoch).decided e)
  settling-each P here others e =
      cond_both (eqb e epoch) (settled s.size (s.proposed epoch) (s.decided epoch)) (s.decided e) (P e)
      (λ q. let same = eqb-true e epoch q in rw same here) (λ q. others e (eqb-false e epoch q))

  -- in its own epoch
  settling-here : (settling s epoch).decided epoch ≡ settled s.size (s.proposed epoch) (s.decided epoch)
  settling-here = cond-true (eqb epoch epoch) (settled s.size (s.proposed epoch) (s.decided epoch)) (s.decided epoch) (eq-eqb epoch epoch refl)

  -- it may be done at any time
  pub settling-sound : Sound s → Sound (settling s epoch)
  settling-sound sound = record {
    some = sound.some;
    few = sound.few;
    boards = sound.boards;
    epochs = sound.epochs;
    within = λ e u. settling-each (λ e o. o ≡ Some u → Within u (s.proposed e))
        (settled-within s.size (s.proposed epoch) (s.decided epoch) u (sound.within epoch u)) (λ e other. sound.within e u) e;
    majority = λ e u. settling-each (λ e o. o ≡ Some u → speaks s.size u ≡ true)
        (settled-majority s.size (s.proposed epoch) (s.decided epoch) u (sound.majority epoch u)) (λ e other. sound.majority e u) e;
  }

  -- past epoch 15, where nobody has proposed, nothing changes
  pub settling-past : Sound s → 16 ≤ epoch → s ≡ settling s epoch
  settling-past sound past =
      let few = silent s.size (s.proposed epoch) (λ c on. omega (arith, sound.epochs epoch c on)) in
      ap (λ d. record s { decided = d }) (fun_ext (settling-each (λ e o. s.decided e ≡ o) (settled-few s.size (s.proposed epoch) (s.decided epoch) few) (λ e other. refl)))

  -- no decided set is lost, and only that of the epoch may be new
  pub settling-only : DecidesOnly s (settling s epoch) epoch
  settling-only = record {
    elsewhere = λ e other. cond-false (eqb e epoch) (settled s.size (s.proposed epoch) (s.decided epoch)) (s.decided e) (ne_eqb e epoch other);
    stays = λ u h. settling-here ∙ ap (settled s.size (s.proposed epoch)) h;
  }

  -- a set is decided exactly where a majority have proposed
  settling-prompt_here : Sound s → is_some ((settling s epoch).decided epoch) ≡ speaks s.size (s.proposed epoch)
  settling-prompt_here sound = ap is_some settling-here ∙ settled_prompt s.size (s.proposed epoch) (s.decided epoch) (sound.majority epoch) (sound.within epoch)

  -- then learn is refused exactly where it is to be
  pub answer-settled : Sound s → (after : Standing) → after ≡ settling s epoch → answer_refusal after epoch ≡ learn_refusal s epoch
  answer-settled sound after is =
      ap (λ a. answer_refusal a epoch) is ∙ ap (λ b. cond (leb 16 epoch) (Some Unknown) (cond b None (Some TooFew))) (settling-prompt_here sound)

-- a standing that was prompt is so after a proposal, if its epoch is settled
pub prompt_proposed : (s : Standing) (epoch board : ℕ) → Sound (proposing s epoch board) → Prompt s → Prompt (settling (proposing s epoch board) epoch)
prompt_proposed s epoch board sound prompt =
    let t = proposing s epoch board in
    record {
      decides = settling-each t epoch (λ e o. is_some o ≡ speaks t.size (t.proposed e))
          (settled_prompt t.size (t.proposed epoch) (t.decided epoch) (sound.majority epoch) (sound.within epoch))
          (λ e other. prompt.decides e ∙ ap (speaks s.size) (sym (adding-elsewhere s.proposed epoch board e other)));
    }

-- nothing has been proposed or decided
pub prompt_cleared : (s : Standing) (n : ℕ) → Cleared s n → Prompt s
prompt_cleared s n cleared = record {
  decides = λ e. let nothing : s.decided e ≡ None = ap (λ d. d e) cleared.undecided in
      ap is_some nothing ∙ sym (silent s.size (s.proposed e) (λ c on. let off : s.proposed e c ≡ false = ap (λ p. p e c) cleared.silent in cc));
}

-- what is settled after a proposal is as propose may leave it
pub proposed_settled : (s : Standing) (epoch board : ℕ) (after : Standing) → after ≡ settling (proposing s epoch board) epoch → Proposed s after epoch board
proposed_settled s epoch board after is =
    let only = settling-only (proposing s epoch board) epoch in
    subst (λ a. Proposed s a epoch board) (sym is) (record { boards = refl; added = refl; decisions = record { elsewhere = only.elsewhere; stays = only.stays } })

-- and so is what is not
pub proposed_only : (s : Standing) (epoch board : ℕ) (after : Standing) → after ≡ proposing s epoch board → Proposed s after epoch board
proposed_only s epoch board after is =
    subst (λ a. Proposed s a epoch board) (sym is) (record { boards = refl; added = refl; decisions = record { elsewhere = λ e other. refl; stays = λ u h. h } })

-- so it is by either rule
pub proposed_either : (now : Bool) (s : Standing) (epoch board : ℕ) (after : Standing)
    → after ≡ (if now then settling (proposing s epoch board) epoch else proposing s epoch board) → Proposed s after epoch board
proposed_either true = proposed_settled
proposed_either false = proposed_only

-- what is settled and answered is as learn may leave it
pub learned_settled : (s : Standing) (epoch : ℕ) (answer : ℕ → Bool) (after : Standing) → after ≡ settling s epoch → after.decided epoch ≡ Some answer → Learned s after epoch answer
learned_settled s epoch answer after is answers =
    record { boards = ap (λ a. a.size) is; same = ap (λ a. a.proposed) is; decisions = subst (λ a. DecidesOnly s a epoch) (sym is) (settling-only s epoch); answers = answers }
