-- The answers of writing a certificate, and the main theorem: what is written is accepted, so that its mapping is heaviest. Assumes nothing.
use Rattle.std.specs.Prelude.{◌≡◌, refl, ◌≢◌, ◌↔◌, List, ℕ, take, ℤ, Ok, Err}
use Rattle.std.proofs.Common.{sym, ap, ◌∙◌, ⊎_elim}
use Rattle.foundations.specs.Tests.{same?}
use Rattle.model.specs.declared.refusal.Refusal.{Refusal}
use Rattle.model.specs.Certificate.{certificate_length, check_of, mapping_in, weight_in}
use Rattle.model.specs.Mapping.{Heaviest, weight}
use Rattle.model.specs.Refusals.{Answer, item_number, refusal_in, RefusedBy}
use Rattle.model.specs.Writing.{write_item, write_refusal, length_of, WriteCall, WritingRefusal}
use Rattle.model.proofs.Refusals.{refused_is, refused_by, number_some}
use Rattle.certificate.specs.Sound.{certificate_sound}

pub refused_number : {a : Answer ℕ} {e : Refusal} → a ≡ Err e → write_refusal a ≡ item_number e
refused_number is = ap write_refusal is

pub refused_length : {a : Answer ℕ} {e : Refusal} → a ≡ Err e → length_of a ≡ 0
refused_length is = ap length_of is

-- a refusal that left all as it was
pub refusal_made : (a : Answer ℕ) (work : List ℤ) (certificate : List ℕ) {k : ℕ} → refusal_in a ≡ k → k ≢ 0 → WritingRefusal k work certificate work certificate a
refusal_made a work certificate e n = let g = refused_is a e n in record { given = g; number = e; measures = refused_length g; work_kept = refl; certificate_kept = refl }

pub written_number : {a : Answer ℕ} {l : ℕ} → a ≡ Ok l → write_refusal a ≡ 0
written_number e = ap write_refusal e

pub written_length : {a : Answer ℕ} {l : ℕ} → a ≡ Ok l → length_of a ≡ l
written_length e = ap length_of e

module _ (table r f : List ℕ) (work : List ℤ) (certificate : List ℕ) (work' : List ℤ) (certificate' : List ℕ) (a : Answer ℕ) (call : WriteCall table r f work certificate work' certificate' a) where
  number_is : refusal_in a ≡ write_item table r f work certificate
  number_is = ⊎_elim (λ z. (call.written z).number ∙ sym z) (λ n. (call.refused n).number) (same? (write_item table r f work certificate) 0)

  -- the answer is a refusal exactly if an item applies, with the first
  pub write_refusal_first : (k : ℕ) → RefusedBy k a ↔ ((k ≡ write_item table r f work certificate) × (k ≢ 0))
  write_refusal_first k = rw (← number_is) (refused_by k a)

  -- and a refusal changes nothing
  pub write_refusal_keeps : (e : Refusal) → a ≡ Err e → (work' ≡ work) × (certificate' ≡ certificate)
  write_refusal_keeps e is =
      let n = call.refused (λ z. number_some e (ap refusal_in (sym is) ∙ number_is ∙ z)) in
      (n.work_kept, n.certificate_kept)

-- where no item applies, the check accepts what was written
pub certificate_accepted : (table r f : List ℕ) (work : List ℤ) (certificate : List ℕ) (work' : List ℤ) (certificate' : List ℕ) (a : Answer ℕ) → WriteCall table r f work certificate work' certificate' a → write_item table r f work certificate ≡ 0 → check_of table r f (take (certificate_length r f) certificate') ≡ 0
certificate_accepted table r f work certificate work' certificate' a call z = (call.written z).accepted

-- and so the mapping in it is heaviest, with the weight in it
pub written_heaviest : (table r f : List ℕ) (work : List ℤ) (certificate : List ℕ) (work' : List ℤ) (certificate' : List ℕ) (a : Answer ℕ) → WriteCall table r f work certificate work' certificate' a → write_item table r f work certificate ≡ 0 →
    let c = take (certificate_length r f) certificate' in
    Heaviest table r f (mapping_in r c) × (weight table r f (mapping_in r c) ≡ weight_in c)
written_heaviest table r f work certificate work' certificate' a call z = certificate_sound table r f (take (certificate_length r f) certificate') (certificate_accepted table r f work certificate work' certificate' a call z)
