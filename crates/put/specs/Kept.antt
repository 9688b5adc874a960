-- Bytes changed in one stretch only. Assumes nothing.
use Rattle.std.specs.Prelude.{◌≡◌, refl, ◌⊎◌, List, ◌++◌, ℕ, ◌+◌, ◌≤◌, ◌<◌, length, get_or, take, drop}
use Rattle.std.proofs.Common.{sym, ap, ◌∙◌, inl, inr, ⊎_elim, arith, take-append-drop, length-drop, get_or-take, get_or-drop, ext_get_or}
use Rattle.model.specs.Bytes.{byte_at, is_mark, int32_at}

-- z' is as long as z and the same outside [a, b)
pub record Kept (a b : ℕ) (z z' : List ℕ) : Type 0 where
  pub size : length z' ≡ length z
  pub apart : (i : ℕ) → (i < a) ⊎ (b ≤ i) → get_or z' i 0 ≡ get_or z i 0

pub kept_none : (a b : ℕ) (z : List ℕ) → Kept a b z z
kept_none a b z = record { size = refl; apart = λ i o. refl }

-- also outside a longer stretch
pub kept_wide : {a b c d : ℕ} {z z' : List ℕ} → c ≤ a → b ≤ d → Kept a b z z' → Kept c d z z'
kept_wide p q K = record { size = K.size; apart = λ i o. K.apart i (⊎_elim (λ l. inl (omega arith)) (λ l. inr (omega arith)) o) }

-- two changes in one stretch
pub kept_both : {a b : ℕ} {z y x : List ℕ} → Kept a b z y → Kept a b y x → Kept a b z x
kept_both K L = record { size = L.size ∙ K.size; apart = λ i o. L.apart i o ∙ K.apart i o }

-- two stretches, one after the other
pub kept_then : {a b c : ℕ} {z y x : List ℕ} → a ≤ b → b ≤ c → Kept a b z y → Kept b c y x → Kept a c z x
kept_then {a} {b} {c} p q K L = kept_both (kept_wide (let e : a ≤ a = omega arith in e) q K) (kept_wide p (let e : c ≤ c = omega arith in e) L)

-- what lies outside the stretch is read as before
module _ {a b : ℕ} {z z' : List ℕ} (K : Kept a b z z') (k : ℕ) where
  pub kept_byte : (k + 1 ≤ a) ⊎ (b ≤ k) → byte_at z' k ≡ byte_at z k
  kept_byte o = K.apart k (⊎_elim (λ l. inl (omega arith)) (λ l. inr (omega arith)) o)

  pub kept_mark : (m : List ℕ) → (k + 2 ≤ a) ⊎ (b ≤ k) → is_mark z' k m ≡ is_mark z k m
  kept_mark m o =
      let p : get_or z' k 0 ≡ get_or z k 0 = K.apart k (⊎_elim (λ l. inl (omega arith)) (λ l. inr (omega arith)) o) in
      let q : get_or z' (k + 1) 0 ≡ get_or z (k + 1) 0 = K.apart (k + 1) (⊎_elim (λ l. inl (omega arith)) (λ l. inr (omega arith)) o) in
      rw (p, q)

  pub kept_number : (k + 4 ≤ a) ⊎ (b ≤ k) → int32_at z' k ≡ int32_at z k
  kept_number o =
      let p : get_or z' k 0 ≡ get_or z k 0 = K.apart k (⊎_elim (λ l. inl (omega arith)) (λ l. inr (omega arith)) o) in
      let q : get_or z' (k + 1) 0 ≡ get_or z (k + 1) 0 = K.apart (k + 1) (⊎_elim (λ l. inl (omega arith)) (λ l. inr (omega arith)) o) in
      let r : get_or z' (k + 2) 0 ≡ get_or z (k + 2) 0 = K.apart (k + 2) (⊎_elim (λ l. inl (omega arith)) (λ l. inr (omega arith)) o) in
      let s : get_or z' (k + 3) 0 ≡ get_or z (k + 3) 0 = K.apart (k + 3) (⊎_elim (λ l. inl (omega arith)) (λ l. inr (omega arith)) o) in
      rw (p, q, r, s)

-- ---- one stretch that is the same in both

pub record Alike (a b : ℕ) (z z' : List ℕ) : Type 0 where
  pub same : (i : ℕ) → a ≤ i → i < b → get_or z' i 0 ≡ get_or z i 0

-- what lies before the stretch that was changed
pub kept_alike : {a b c d : ℕ} {z z' : List ℕ} → Kept a b z z' → d ≤ a → Alike c d z z'
kept_alike K h = record { same = λ i p q. K.apart i (inl (omega arith)) }

-- the front of a list
pub take_alike : (a b : ℕ) (z : List ℕ) → Alike a b z (take b z)
take_alike a b z = record { same = λ i p q. get_or-take b z i 0 q }

pub alike_part : {a b c d : ℕ} {z z' : List ℕ} → a ≤ c → d ≤ b → Alike a b z z' → Alike c d z z'
alike_part p q A = record { same = λ i l m. A.same i (omega arith) (omega arith) }

module _ {a b : ℕ} {z z' : List ℕ} (A : Alike a b z z') (k : ℕ) (h : a ≤ k) where
  pub alike_byte : k + 1 ≤ b → byte_at z' k ≡ byte_at z k
  alike_byte l = A.same k h (omega arith)

  pub alike_mark : (m : List ℕ) → k + 2 ≤ b → is_mark z' k m ≡ is_mark z k m
  alike_mark m l =
      let p : get_or z' k 0 ≡ get_or z k 0 = A.same k h (omega arith) in
      let q : get_or z' (k + 1) 0 ≡ get_or z (k + 1) 0 = A.same (k + 1) (omega arith) (omega arith) in
      rw (p, q)

  pub alike_number : k + 4 ≤ b → int32_at z' k ≡ int32_at z k
  alike_number l =
      let p : get_or z' k 0 ≡ get_or z k 0 = A.same k h (omega arith) in
      let q : get_or z' (k + 1) 0 ≡ get_or z (k + 1) 0 = A.same (k + 1) (omega arith) (omega arith) in
      let r : get_or z' (k + 2) 0 ≡ get_or z (k + 2) 0 = A.same (k + 2) (omega arith) (omega arith) in
      let s : get_or z' (k + 3) 0 ≡ get_or z (k + 3) 0 = A.same (k + 3) (omega arith) (omega arith) in
      rw (p, q, r, s)

-- past the stretch that was changed a list is the old one
pub kept_rest : {a b : ℕ} {z z' : List ℕ} → Kept a b z z' → z' ≡ take b z' ++ drop b z
kept_rest {a} {b} {z} {z'} K =
    sym (take-append-drop b z')
    ∙ ap (λ (y : List ℕ). take b z' ++ y) (ext_get_or 0 (drop b z') (drop b z) (simp (length-drop, K.size)) (λ i h. get_or-drop b z' i 0 ∙ K.apart (b + i) (inr (omega arith)) ∙ sym (get_or-drop b z i 0)))
