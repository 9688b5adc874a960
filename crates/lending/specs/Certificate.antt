-- `lend_certificate`: the certificate's length is exactly what item 19 asks for, what writing gives back, and the only length that item 20 takes. Assumes
-- nothing.
use Rattle.std.specs.Prelude.{◌≡◌, ◌≢◌, false, List, ℕ, ◌≤◌, ◌<◌, length, ltb, ℤ}
use Rattle.std.proofs.Common.{sym, ap, ◌∙◌, ⊎_elim, arith, ne_eqb}
use Rattle.foundations.specs.Tests.{same?}
use Rattle.model.specs.Refusals.{Answer}
use Rattle.model.specs.Refusals.{item}
use Rattle.model.specs.Order.{subproblems}
use Rattle.model.specs.Jobs.{start_item}
use Rattle.model.specs.Certificate.{certificate_length, record_at, shape_ok, check_of}
use Rattle.model.specs.Writing.{room_item, write_item, write_refusal, length_of, WriteCall}
use Rattle.model.specs.Sizes.{SizesNumbers}
use Rattle.certificate.specs.Items.{check_20}
use Rattle.certificate.specs.Length.{length_closed}
use Rattle.job_items.specs.Items.{start_none}
use Rattle.write.specs.Items.{write_room, write_none}
use Rattle.call_numbers.specs.Exported.{Writes}
use Rattle.call_numbers.specs.Numbers.{written_long}
use Rattle.sizes.specs.Answers.{sizes_told}

shape_long : (r f z : List ℕ) → length z ≢ certificate_length r f → shape_ok r f z ≡ false
unfolding shape_ok
shape_long r f z n = rw (ne_eqb (length z) (certificate_length r f) n)

-- What the length c and the work numbers w are good for. The last record of a certificate ends at c. Item 19 of a writing applies exactly if its buffer has
-- fewer bytes than c, so that, lent w work numbers, it is refused by 19 with fewer and not refused with c; one that is not refused answers c, in C as
-- well; and a certificate of any other length is refused by 20.
pub record CertificateLent (table r f : List ℕ) (w c : ℕ) : Type 0 where
  pub ends : record_at r f (subproblems r f) ≡ c
  pub room : (z : List ℕ) → room_item r f z ≡ item 19 (ltb (length z) c)
  pub enough : (work : List ℤ) (z : List ℕ) → w ≤ length work → c ≤ length z → write_item table r f work z ≡ 0
  pub short : (work : List ℤ) (z : List ℕ) → w ≤ length work → length z < c → write_item table r f work z ≡ 19
  pub answered : {work : List ℤ} {z : List ℕ} {work' : List ℤ} {z' : List ℕ} {a : Answer ℕ} → WriteCall table r f work z work' z' a → write_refusal a ≡ 0 → length_of a ≡ c
  pub given : {work : List ℤ} {z : List ℕ} {work' : List ℤ} {z' : List ℕ} {k l : ℕ} → Writes table r f work z work' z' k l → k ≡ 0 → l ≡ c
  pub checked : (z : List ℕ) → length z ≢ c → check_of table r f z ≡ 20

pub lend_certificate : {table r f : List ℕ} {refusal s w c : ℕ} → SizesNumbers table r f refusal s w c → refusal ≡ 0 → CertificateLent table r f w c
lend_certificate {table} {r} {f} {refusal} {s} {w} {c} told none =
    let t = sizes_told told none in
    let C : c ≡ certificate_length r f = t.long in
    let W : w ≡ subproblems r f = t.work in
    let passes : (work : List ℤ) → w ≤ length work → start_item table r f work ≡ 0 = λ work l. start_none table r f work t.passes (omega arith) in
    record {
      ends = length_closed table r f t.passes ∙ sym C;
      room = λ z. ap (λ (k : ℕ). item 19 (ltb (length z) k)) (sym C);
      enough = λ work z l h. write_none table r f work z (passes work l) (omega arith);
      short = λ work z l h. write_room table r f work z (passes work l) (omega arith);
      answered = λ {work} {z} {work'} {z'} {a} call e. ⊎_elim
          (λ i. (call.written i).measures ∙ sym C)
          (λ n. absurd (n (sym (call.refused n).number ∙ e)))
          (same? (write_item table r f work z) 0);
      given = λ {work} {z} {work'} {z'} {k} {l} a e. written_long table r f work z work' z' k l a e ∙ sym C;
      checked = λ z n. check_20 table r f z t.passes (shape_long r f z (λ e. n (e ∙ sym C)));
    }
