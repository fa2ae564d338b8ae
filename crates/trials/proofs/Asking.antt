-- What the interface of an agreement says to one who has asked all boards.
use Rattle.std.proofs.Common.{◌≡◌, ℕ, ◌<◌, ◌≤◌, Bool, true, false, cond, ◌||◌, eqb, ltb, leb, Some, None, Ok, Err, Result, sym, refl, ap, ◌∙◌, arith}
use Rattle.std.proofs.lemmas.Bool.{lt-ltb, ltb-true}
use Rattle.std.proofs.lemmas.Bool.Decides.{nat_tests}
use Rattle.agreement.specs.declared.board_set.BoardSet.{BoardSet}
use Rattle.agreement.specs.declared.refusal.AgreementRefusal.{AgreementRefusal}
use Rattle.agreement.specs.declared.refusal.AgreementRefusal.TheVariants.{Unknown, TooFew}
use Rattle.agreement.specs.Agreements.{Sound, Learned, Proposes, Learns}
use Rattle.agreement.specs.BoardSets.{boards_of}
use Rattle.agreement.specs.Majorities.{speaks}
use Rattle.agreement.specs.Refusals.{learn_refusal}
use Rattle.agreement.specs.Sets.{boards_below}
use Rattle.agreement.specs.Standings.{Standing}
use Rattle.agreement.proofs.Agreements.{adding-more}
use Rattle.agreement.proofs.Majorities.{speaks_more, speaks-whole}
use Rattle.trials.specs.Callers.{ask_refusal, Asked}

-- where all boards have proposed, only an epoch past the last is refused
asked_refusal : (s : Standing) (epoch : ℕ) → 0 < s.size → s.size ≤ 7 → ((c : ℕ) → s.proposed epoch c ≡ ltb c s.size) → ask_refusal s.size epoch ≡ learn_refusal s epoch
asked_refusal s epoch some few all =
    let size : (eqb s.size 0 || ltb 7 s.size) ≡ false = grind (arith, nat_tests) in
    let most : speaks s.size (s.proposed epoch) ≡ true = speaks-whole s.size (s.proposed epoch) some (λ c l. all c ∙ lt-ltb c s.size l) in
    rw (size, most)

below_few : (n c : ℕ) → n ≤ 7 → ltb c n ≡ true → boards_below n c ≡ true
below_few n c few h = let l : c < n = ltb-true c n h in grind (arith, nat_tests)

-- what is accepted stays so when more boards propose
accepted_more : (n epoch : ℕ) (p q : ℕ → Bool) → ((c : ℕ) → p c ≡ true → q c ≡ true)
    → cond (leb 16 epoch) (Some Unknown) (cond (speaks n p) None (Some TooFew)) ≡ None → cond (leb 16 epoch) (Some Unknown) (cond (speaks n q) None (Some TooFew)) ≡ None
accepted_more n epoch p q more h = go (leb 16 epoch) (speaks n p) (speaks n q) (speaks_more n p q (λ c l. more c)) h
  where
    go : (past few enough : Bool) → (few ≡ true → enough ≡ true) → cond past (Some Unknown) (cond few None (Some TooFew)) ≡ None → cond past (Some Unknown) (cond enough None (Some TooFew)) ≡ None
    go true few enough f h = h
    go false true enough f h = rw (f refl)
    go false false enough f h = absurd (grind arith)

module _ {X : Type 0} (standing : X → Standing) where
  -- what learn then does
  pub asked : (before after : X) (n epoch : ℕ) → ((x : X) → Sound (standing x)) → (standing before).size ≡ n
      → ((c : ℕ) → (standing before).proposed epoch c ≡ ltb c n) → (r : Result BoardSet AgreementRefusal)
      → Learns standing before after epoch r → Asked n epoch ((standing after).decided epoch) r
  asked before after n epoch sound is all r l = go r l
    where
      s : Standing
      s = standing before

      below : (c : ℕ) → s.proposed epoch c ≡ ltb c s.size
      below c = all c ∙ ap (ltb c) (sym is)

      refusal : ask_refusal n epoch ≡ learn_refusal s epoch
      refusal = ap (λ k. ask_refusal k epoch) (sym is) ∙ asked_refusal s epoch (omega (arith, (sound before).some)) (omega (arith, (sound before).few)) below

      go : (r : Result BoardSet AgreementRefusal) → Learns standing before after epoch r → Asked n epoch ((standing after).decided epoch) r
      go (Err e) l = refusal ∙ l.0
      go (Ok w) l = (
        refusal ∙ l.0,
        l.1.answers,
        ap (λ k. speaks k (boards_of w)) (sym (l.1.boards ∙ is)) ∙ (sound after).majority epoch (boards_of w) l.1.answers,
        λ c on. below_few n c (omega (arith, (sound before).few, is)) (sym (all c) ∙ ap (λ p. p epoch c) (sym l.1.same) ∙ (sound after).within epoch (boards_of w) l.1.answers c on),
      )

  -- a learn that was accepted once is accepted after a proposal
  accepted_again : (before after later : X) (epoch e board : ℕ) (answer : ℕ → Bool) (r : Result (Unit {0}) AgreementRefusal)
      → learn_refusal (standing before) epoch ≡ None → Learned (standing before) (standing after) epoch answer
      → Proposes standing after later e board r → learn_refusal (standing later) epoch ≡ None
  accepted_again before after later epoch e board answer (Err x) h l p = rw (p.1, l.boards, l.same) h
  accepted_again before after later epoch e board answer (Ok x) h l p =
      rw (p.1.boards, l.boards) (accepted_more (standing before).size epoch ((standing before).proposed epoch) ((standing later).proposed epoch)
      (λ c on. rw (p.1.added, l.same) (adding-more (standing before).proposed e board epoch c on)) h)

  -- so a refusal then would have been one before
  pub refused-before : (before after later : X) (epoch e board : ℕ) (answer : ℕ → Bool) (r : Result (Unit {0}) AgreementRefusal) (x : AgreementRefusal)
      → learn_refusal (standing before) epoch ≡ None → Learned (standing before) (standing after) epoch answer
      → Proposes standing after later e board r → learn_refusal (standing later) epoch ≡ Some x
      → learn_refusal (standing before) epoch ≡ Some x
  refused-before before after later epoch e board answer r x h l p refused = h ∙ sym (accepted_again before after later epoch e board answer r h l p) ∙ refused
