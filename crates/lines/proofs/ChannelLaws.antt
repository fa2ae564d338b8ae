-- A channel is read exactly when it has a channel's form.
use Rattle.std.proofs.Common.{◌≡◌, ℕ, ◌≤◌, ◌&&◌, eqb, ltb, leb, List, length, Ok, Err, Result, sym, refl, ap, ◌∙◌, subst, arith}
use Rattle.std.proofs.lemmas.Bool.{cond-true, le-leb, leb-true}
use Rattle.lines.specs.declared.fault.NumberFault.{NumberFault}
use Rattle.lines.specs.declared.fault.NumberFault.TheVariants.{Form, Limit}
use Rattle.lines.specs.Digits.{leading, worth, numeral}
use Rattle.lines.specs.Fields.{Place}
use Rattle.lines.specs.Forms.{Numeral, Channel, ChannelForm, Breaks, Reads}
use Rattle.lines.specs.Numbers.{limited, channel_of}
use Rattle.lines.proofs.FormLaws.{numeral-form, form-numeral, numeral-breaks, cond_ok, cond_err}

-- where a numeral is not read, the leading digits are all there is of it
pub numeral_err : (most : ℕ) (bytes : List ℕ) (at : ℕ) → numeral most bytes ≡ Err at → leading most bytes ≡ at
numeral_err most bytes at e = (cond_err (ltb 0 (leading most bytes) && eqb (leading most bytes) (length bytes)) (worth bytes) (leading most bytes) at e).1

module _ (field : ℕ) (bytes : List ℕ) where
  channel-read : (o : Result ℕ ℕ) → numeral 3 bytes ≡ o → (x : ℕ) → limited field o ≡ Ok x → Channel bytes x
  channel-read (Ok n) e x h =
      let went = cond_ok (leb n 255) n (Limit field) x h in
      let low = leb-true n 255 went.0 in
      record { form = subst (Numeral 3 bytes) went.1 (numeral-form 3 bytes n e); limit = subst (λ k. k ≤ 255) went.1 low }
  channel-read (Err at) e x h = absurd (grind arith)

  channel-offset : (o : Result ℕ ℕ) → numeral 3 bytes ≡ o → (f at : ℕ) → limited field o ≡ Err (Form f at) → (f ≡ field) × Breaks ChannelForm bytes at
  channel-offset (Ok n) e f at h =
      let went = (cond_err (leb n 255) n (Limit field) (Form f at) h).1 in
      absurd (grind arith)
  channel-offset (Err k) e f at h = let same : k ≡ at = cc in (cc, subst (Breaks ChannelForm bytes) (numeral_err 3 bytes k e ∙ same) (numeral-breaks 3 bytes (omega arith)))

  channel-over : (o : Result ℕ ℕ) → numeral 3 bytes ≡ o → (f : ℕ) → limited field o ≡ Err (Limit f) → (f ≡ field) × ChannelForm bytes
  channel-over (Ok n) e f h = let same = (cond_err (leb n 255) n (Limit field) (Limit f) h).1 in (cc, (n, numeral-form 3 bytes n e))
  channel-over (Err k) e f h = absurd (grind arith)

  channel-reads : (begins : ℕ) → Reads Channel ChannelForm (record { number = field; begins = begins; text = bytes }) (limited field (numeral 3 bytes))
  channel-reads begins =
      record {
        read = channel-read (numeral 3 bytes) refl;
        readable = λ n c. ap (limited field) (form-numeral 3 bytes n c.form) ∙ cond-true (leb n 255) _ _ (le-leb n 255 c.limit);
        offset = channel-offset (numeral 3 bytes) refl;
        over = channel-over (numeral 3 bytes) refl;
      }

pub channel_reads_as : (p : Place) (r : Result ℕ NumberFault) → r ≡ channel_of p → Reads Channel ChannelForm p r
channel_reads_as p r e = subst (Reads Channel ChannelForm p) (sym e) (channel-reads p.number p.text p.begins)
