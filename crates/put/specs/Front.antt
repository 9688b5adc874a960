-- What storing the front of a certificate leaves. Assumes nothing.
use Rattle.std.specs.Prelude.{◌≡◌, true, List, ℕ, ◌+◌, ◌<◌, length, get_or, set, ℤ}
use Rattle.std.proofs.Common.{◌∙◌, inl, ⊎_elim, arith, not-suc-le-zero, below_more, length-set, get_or-set_same, get_or-set_other}
use Rattle.model.specs.Bytes.{byte_at, is_mark, int32_at}
use Rattle.model.specs.Certificate.{head_mark, partner_mark, partner_at}
use Rattle.model.specs.Lengths.{certificate_head_length, partner_length}
use Rattle.put.specs.Kept.{Kept, kept_none, kept_wide, kept_both, kept_then, kept_byte, kept_number, kept_mark}
use Rattle.put.specs.Puts.{MarkPut, NumberPut}

-- one byte stored
pub record BytePut (k x : ℕ) (z z' : List ℕ) : Type 0 where
  pub byte : byte_at z' k ≡ x
  pub kept : Kept k (k + 1) z z'

pub byte_put : (k x : ℕ) (z : List ℕ) → k < length z → BytePut k x z (set z k x)
byte_put k x z h =
    record {
      byte = get_or-set_same z k x 0 h;
      kept = record {
        size = simp length-set;
        apart = λ i o. get_or-set_other z k i x 0 (λ q. ⊎_elim (λ l. omega (arith, q)) (λ l. omega (arith, q)) o);
      };
    }

pub record HeadPut (n m : ℕ) (w : ℤ) (z z' : List ℕ) : Type 0 where
  pub head : is_mark z' 0 head_mark ≡ true
  pub n_is : byte_at z' 2 ≡ n
  pub m_is : byte_at z' 3 ≡ m
  pub weighs : int32_at z' 4 ≡ w
  pub kept : Kept 0 certificate_head_length z z'

pub record PartnerPut (k p : ℕ) (z z' : List ℕ) : Type 0 where
  pub mark : is_mark z' k partner_mark ≡ true
  pub partner : byte_at z' (k + 2) ≡ p
  pub kept : Kept k (k + partner_length) z z'

pub record PartnersPut (n : ℕ) (p z z' : List ℕ) : Type 0 where
  pub marks : (u : ℕ) → u < n → is_mark z' (partner_at u) partner_mark ≡ true
  pub partners : (u : ℕ) → u < n → byte_at z' (partner_at u + 2) ≡ get_or p u 0
  pub kept : Kept certificate_head_length (partner_at n) z z'

pub record FrontPut (n m : ℕ) (w : ℤ) (p z z' : List ℕ) : Type 0 where
  pub head : is_mark z' 0 head_mark ≡ true
  pub n_is : byte_at z' 2 ≡ n
  pub m_is : byte_at z' 3 ≡ m
  pub weighs : int32_at z' 4 ≡ w
  pub marks : (u : ℕ) → u < n → is_mark z' (partner_at u) partner_mark ≡ true
  pub partners : (u : ℕ) → u < n → byte_at z' (partner_at u + 2) ≡ get_or p u 0
  pub kept : Kept 0 (partner_at n) z z'

pub head_put : {n m : ℕ} {w : ℤ} {z0 z1 z2 z3 z4 : List ℕ} → MarkPut 0 head_mark z0 z1 → BytePut 2 n z1 z2 → BytePut 3 m z2 z3 → NumberPut 4 w z3 z4 → HeadPut n m w z0 z4
head_put M N B W =
    record {
      head = kept_mark W.kept 0 head_mark (inl (omega arith)) ∙ kept_mark B.kept 0 head_mark (inl (omega arith)) ∙ kept_mark N.kept 0 head_mark (inl (omega arith)) ∙ M.mark;
      n_is = kept_byte W.kept 2 (inl (omega arith)) ∙ kept_byte B.kept 2 (inl (omega arith)) ∙ N.byte;
      m_is = kept_byte W.kept 3 (inl (omega arith)) ∙ B.byte;
      weighs = W.number;
      kept = kept_both (kept_both (kept_wide (omega arith) (omega arith) M.kept) (kept_wide (omega arith) (omega arith) N.kept)) (kept_both (kept_wide (omega arith) (omega arith) B.kept) (kept_wide (omega arith) (omega arith) W.kept));
    }

pub partner_put : {k p : ℕ} {z0 z1 z2 : List ℕ} → MarkPut k partner_mark z0 z1 → BytePut (k + 2) p z1 z2 → PartnerPut k p z0 z2
partner_put {k} M B =
    record {
      mark = kept_mark B.kept k partner_mark (inl (omega arith)) ∙ M.mark;
      partner = B.byte;
      kept = kept_both (kept_wide (omega arith) (omega arith) M.kept) (kept_wide (omega arith) (omega arith) B.kept);
    }

pub partners_none : (p z : List ℕ) → PartnersPut 0 p z z
partners_none p z = record { marks = λ u h. absurd (not-suc-le-zero h); partners = λ u h. absurd (not-suc-le-zero h); kept = kept_none certificate_head_length (partner_at 0) z }

pub partners_more : {at i : ℕ} {p z y x : List ℕ} → at ≡ partner_at i → PartnersPut i p z y → PartnerPut at (get_or p i 0) y x → PartnersPut (i + 1) p z x
partners_more {at} {i} {p} {z} {y} {x} e R M =
    let N : PartnerPut (partner_at i) (get_or p i 0) y x = rw e at M in
    record {
      marks = below_more (λ (u : ℕ). is_mark x (partner_at u) partner_mark ≡ true) i (λ u h. kept_mark N.kept (partner_at u) partner_mark (inl (omega arith)) ∙ R.marks u h) N.mark;
      partners = below_more
          (λ (u : ℕ). byte_at x (partner_at u + 2) ≡ get_or p u 0)
          i
          (λ u h. kept_byte N.kept (partner_at u + 2) (inl (omega arith)) ∙ R.partners u h)
          N.partner;
      kept = kept_both (kept_wide (omega arith) (omega arith) R.kept) (kept_wide (omega arith) (omega arith) N.kept);
    }

pub front_put : {n m : ℕ} {v w : ℤ} {p z0 z1 z2 : List ℕ} → v ≡ w → HeadPut n m v z0 z1 → PartnersPut n p z1 z2 → FrontPut n m w p z0 z2
front_put e H P =
    record {
      head = kept_mark P.kept 0 head_mark (inl (omega arith)) ∙ H.head;
      n_is = kept_byte P.kept 2 (inl (omega arith)) ∙ H.n_is;
      m_is = kept_byte P.kept 3 (inl (omega arith)) ∙ H.m_is;
      weighs = kept_number P.kept 4 (inl (omega arith)) ∙ H.weighs ∙ e;
      marks = P.marks;
      partners = P.partners;
      kept = kept_then (omega arith) (omega arith) H.kept P.kept;
    }
