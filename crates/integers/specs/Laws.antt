-- Laws of the model's integers and weights: four bytes and an integer, the forbidden number, ranges, gains, stored values. Assumes nothing.
use Rattle.std.specs.Prelude.{◌≡◌, refl, Bool, true, false, cond, ◌⊎◌, ◌≢◌, List, [], ◌∷◌, ℕ, suc, ◌+◌, ◌-◌, ◌/◌, ◌%◌, ◌≤◌, ◌<◌, ltb, eqb, ℤ, pos, negsuc, ◌+ℤ◌, neg_ℤ, ◌≤ℤ◌, ◌<ℤ◌}
use Rattle.std.proofs.Common.{to_z, to_z-of_z, sym, ap, ◌∙◌, subst, true≢false, ⊎_elim, inl, inr, length-set, get_or-set_other, lt-ltb, le-ltb, eqb-true, eq-eqb, ne_eqb, SFits, of_z}
use native.Mathlib.Omega.{arith}
use Rattle.std.proofs.Math.ListN.{length, get_or, set}
use Rattle.std.proofs.Math.Seq.{get_or-set_same}
use Rattle.std.proofs.lemmas.List.{set-get_or, take-append-drop}
use mathlib.Core.List.{append-nil}
use Rattle.std.specs.Int.Signed.{le_z, lt_z}
use borrow.Author.Rules.{Below-set}
use Rattle.std.specs.Int.{w32, to_le_bytes}
use Rattle.std.proofs.Math.Facts.{to_z_pos}
use borrow.Rule.Slice.PartMut.{put_mid}
use Rattle.std.proofs.lemmas.List.Edits.{paste_more}
use Rattle.std.proofs.lemmas.Slice.{put_mid-paste}
use Rattle.std.proofs.Math.Seq.{paste}
use Rattle.foundations.specs.Tests.{less?, and_split, or_split, same_test}
use Rattle.foundations.specs.Int.{up, dn, int, ints}
use Rattle.model.specs.Limits.{weight_limit, ceiling, forbidden, forbidden_rank}
use Rattle.model.specs.Bytes.{word, word_at, signed32, bits32, int32_at, put_word, put_int32}
use Rattle.model.specs.Weights.{is_forbidden, in_range, weight_ok, stored}
use Rattle.integers.specs.Results.{StoredValue}

-- ---- 32 bits and the integer that they stand for

pub signed32_low : (n : ℕ) → n < 2147483648 → signed32 n ≡ pos n
unfolding signed32
signed32_low n h = simp (lt-ltb n 2147483648 h)

pub signed32_high : (n : ℕ) → 2147483648 ≤ n → signed32 n ≡ negsuc (4294967295 - n)
unfolding signed32
signed32_high n h = simp (le-ltb n 2147483648 h)

pub bits32_low : (z : ℤ) → pos 0 ≤ℤ z → bits32 z ≡ up z
unfolding bits32
bits32_low (pos n) h = refl
bits32_low (negsuc n) h = let x : ⊥ = omega int in absurd x

pub bits32_high : (z : ℤ) → z <ℤ pos 0 → bits32 z ≡ 4294967296 - dn z
unfolding bits32
bits32_high (pos n) h = let x : ⊥ = omega int in absurd x
bits32_high (negsuc n) h = omega arith

-- on 32 bits the two are inverse to each other
pub signed32_bits32 : (z : ℤ) → SFits w32 z → signed32 (bits32 z) ≡ z
unfolding bits32
signed32_bits32 (pos n) f = signed32_low n (omega ints)
signed32_bits32 (negsuc n) f = signed32_high (4294967295 - n) (omega ints) ∙ ap negsuc (omega ints)

pub bits32_signed32 : (n : ℕ) → n < 4294967296 → bits32 (signed32 n) ≡ n
unfolding bits32 signed32
bits32_signed32 n h = go (ltb n 2147483648)
  where
    go : (t : Bool) → bits32 (cond t (pos n) (negsuc (4294967295 - n))) ≡ n
    go true = refl
    go false = omega arith

-- they are what a cast gives
pub signed32_cast : (n : ℕ) → n < 4294967296 → to_z w32 n ≡ signed32 n
signed32_cast n h = ⊎_elim
    (λ l. to_z_pos w32 l ∙ sym (signed32_low n l))
    (λ l. let e : of_z w32 (negsuc (4294967295 - n)) ≡ n = omega arith in
    let f : SFits w32 (negsuc (4294967295 - n)) = omega ints in
    ap (to_z w32) (sym e) ∙ (to_z-of_z f ∙ sym (signed32_high n l)))
    (less? n 2147483648)

pub bits32_cast : (z : ℤ) → bits32 z ≡ of_z w32 z
unfolding bits32
bits32_cast (pos n) = refl
bits32_cast (negsuc n) = omega arith

-- ---- four bytes, low byte first

word_byte0 : (b0 b1 b2 b3 : ℕ) → b0 < 256 → word b0 b1 b2 b3 % 256 ≡ b0
word_byte0 b0 b1 b2 b3 h = omega arith

word_byte1 : (b0 b1 b2 b3 : ℕ) → b0 < 256 → b1 < 256 → word b0 b1 b2 b3 / 256 % 256 ≡ b1
word_byte1 b0 b1 b2 b3 h k = omega arith

word_byte2 : (b0 b1 b2 b3 : ℕ) → b0 < 256 → b1 < 256 → b2 < 256 → word b0 b1 b2 b3 / 65536 % 256 ≡ b2
word_byte2 b0 b1 b2 b3 h k l = omega arith

word_byte3 : (b0 b1 b2 b3 : ℕ) → b0 < 256 → b1 < 256 → b2 < 256 → word b0 b1 b2 b3 / 16777216 ≡ b3
word_byte3 b0 b1 b2 b3 h k l = omega arith

-- what stands after a number was put
module _ (l : List ℕ) (k n : ℕ) (h : k + 4 ≤ length l) where
  put_byte0 : get_or (put_word l k n) k 0 ≡ n % 256
  unfolding put_word
  put_byte0 =
      let i : k < length l = omega arith in
      let p : k ≢ k + 1 = omega arith in
      let q : k ≢ k + 2 = omega arith in
      let r : k ≢ k + 3 = omega arith in
      simp (get_or-set_other, get_or-set_same)

  put_byte1 : get_or (put_word l k n) (k + 1) 0 ≡ n / 256 % 256
  unfolding put_word
  put_byte1 =
      let i : k + 1 < length l = omega arith in
      let q : k + 1 ≢ k + 2 = omega arith in
      let r : k + 1 ≢ k + 3 = omega arith in
      simp (get_or-set_other, get_or-set_same, Below-set)

  put_byte2 : get_or (put_word l k n) (k + 2) 0 ≡ n / 65536 % 256
  unfolding put_word
  put_byte2 =
      let i : k + 2 < length l = omega arith in
      let r : k + 2 ≢ k + 3 = omega arith in
      simp (get_or-set_other, get_or-set_same, Below-set)

  put_byte3 : get_or (put_word l k n) (k + 3) 0 ≡ n / 16777216
  unfolding put_word
  put_byte3 = let i : k + 3 < length l = omega arith in simp (get_or-set_same, Below-set)

pub put_length : (l : List ℕ) (k : ℕ) (z : ℤ) → length (put_int32 l k z) ≡ length l
unfolding put_word
put_length l k z = simp length-set

-- four bytes copied into a list
four_bytes : (l : List ℕ) (k b0 b1 b2 b3 : ℕ) → k + 4 ≤ length l → paste l k (b0 ∷ b1 ∷ b2 ∷ b3 ∷ []) 4 ≡ set (set (set (set l k b0) (k + 1) b1) (k + 2) b2) (k + 3) b3
four_bytes l k b0 b1 b2 b3 h =
    let s : List ℕ = b0 ∷ b1 ∷ b2 ∷ b3 ∷ [] in
    let z : k + 0 ≡ k = omega arith in
    let e0 : paste l k s 0 ≡ l = rw (z, append-nil) (take-append-drop k l) in
    let e1 : set (paste l k s 0) (k + 0) b0 ≡ paste l k s 1 = paste_more l k s 0 0 (omega arith) (omega arith) in
    let e2 : set (paste l k s 1) (k + 1) b1 ≡ paste l k s 2 = paste_more l k s 1 0 (omega arith) (omega arith) in
    let e3 : set (paste l k s 2) (k + 2) b2 ≡ paste l k s 3 = paste_more l k s 2 0 (omega arith) (omega arith) in
    let e4 : set (paste l k s 3) (k + 3) b3 ≡ paste l k s 4 = paste_more l k s 3 0 (omega arith) (omega arith) in
    cc

pub put_word_is : (l : List ℕ) (k n j : ℕ) (ys : List ℕ) → k + 4 ≤ length l → n < 4294967296 → j ≡ 4 → ys ≡ to_le_bytes w32 n → put_mid k j l ys ≡ put_word l k n
unfolding put_word
put_word_is l k n j ys h f e g =
    let t : n / 16777216 % 256 ≡ n / 16777216 = omega arith in
    put_mid-paste k j l ys (to_le_bytes w32 n) 4 g (sym e) refl ∙ (four_bytes l k (n % 256) (n / 256 % 256) (n / 65536 % 256) (n / 16777216 % 256) h ∙ rw t)

-- the other places stay
pub word_other : (l : List ℕ) (k n j : ℕ) → (j < k) ⊎ (k + 4 ≤ j) → get_or (put_word l k n) j 0 ≡ get_or l j 0
unfolding put_word
word_other l k n j o =
    let p : j ≢ k = ⊎_elim (λ x. omega arith) (λ x. omega arith) o in
    let q : j ≢ k + 1 = ⊎_elim (λ x. omega arith) (λ x. omega arith) o in
    let r : j ≢ k + 2 = ⊎_elim (λ x. omega arith) (λ x. omega arith) o in
    let s : j ≢ k + 3 = ⊎_elim (λ x. omega arith) (λ x. omega arith) o in
    simp get_or-set_other

pub put_other : (l : List ℕ) (k : ℕ) (z : ℤ) (j : ℕ) → (j < k) ⊎ (k + 4 ≤ j) → get_or (put_int32 l k z) j 0 ≡ get_or l j 0
put_other l k z j o = word_other l k (bits32 z) j o

-- a number put and read back is itself
pub word_put : (l : List ℕ) (k n : ℕ) → k + 4 ≤ length l → word_at (put_word l k n) k ≡ n
word_put l k n h = omega (arith, put_byte0 l k n h, put_byte1 l k n h, put_byte2 l k n h, put_byte3 l k n h)

-- decode ∘ encode: an integer that fits 32 bits likewise
pub read_put : (l : List ℕ) (k : ℕ) (z : ℤ) → k + 4 ≤ length l → SFits w32 z → int32_at (put_int32 l k z) k ≡ z
read_put l k z h f = ap signed32 (word_put l k (bits32 z) h) ∙ signed32_bits32 z f

-- of bytes
module _ (l : List ℕ) (k : ℕ) (h : (i : ℕ) → get_or l i 0 < 256) where
  -- encode ∘ decode: a number read and put back changes nothing
  pub put_read : put_int32 l k (int32_at l k) ≡ l
  unfolding put_word
  put_read =
      let b0 = get_or l k 0 in
      let b1 = get_or l (k + 1) 0 in
      let b2 = get_or l (k + 2) 0 in
      let b3 = get_or l (k + 3) 0 in
      let h0 : b0 < 256 = h k in
      let h1 : b1 < 256 = h (k + 1) in
      let h2 : b2 < 256 = h (k + 2) in
      let h3 : b3 < 256 = h (k + 3) in
      let lt : word b0 b1 b2 b3 < 4294967296 = omega arith in
      simp (bits32_signed32, word_byte0 b0 b1 b2 b3 h0, word_byte1 b0 b1 b2 b3 h0 h1, word_byte2 b0 b1 b2 b3 h0 h1 h2, word_byte3 b0 b1 b2 b3 h0 h1 h2, set-get_or)

-- ---- the forbidden number

pub is_forbidden_true : (z : ℤ) → is_forbidden z ≡ true → z ≡ forbidden
unfolding is_forbidden
is_forbidden_true (pos n) e = absurd (true≢false (sym e))
is_forbidden_true (negsuc n) e = ap negsuc (eqb-true n forbidden_rank e)

-- the machine compares bits
pub forbidden_bits : (z : ℤ) → SFits w32 z → eqb (of_z w32 z) 2147483648 ≡ is_forbidden z
unfolding is_forbidden
forbidden_bits (pos n) f = ne_eqb n 2147483648 (λ e. omega ints)
forbidden_bits (negsuc n) f =
    same_test
    (eqb (4294967296 - suc n) 2147483648)
    (eqb n forbidden_rank)
    (λ e. let h : 4294967296 - suc n ≡ 2147483648 = eqb-true _ _ e in eq-eqb n forbidden_rank (omega ints))
    (λ e. let h : n ≡ forbidden_rank = eqb-true _ _ e in eq-eqb (4294967296 - suc n) 2147483648 (omega ints))

-- ---- ranges

pub in_range_true : (z : ℤ) → in_range z ≡ true → (neg_ℤ (pos weight_limit) ≤ℤ z) × (z ≤ℤ pos weight_limit)
unfolding in_range
in_range_true z e =
    let p = and_split (le_z (neg_ℤ (pos weight_limit)) z) (le_z z (pos weight_limit)) e in
    (omega (ints, p.0), omega (ints, p.1))

-- what may stand in a table: forbidden, or within the limit
pub weight_ok_true : (z : ℤ) → weight_ok z ≡ true → (z ≡ forbidden) ⊎ ((neg_ℤ (pos weight_limit) ≤ℤ z) × (z ≤ℤ pos weight_limit))
unfolding weight_ok
weight_ok_true z e = ⊎_elim (λ p. inl (is_forbidden_true z p)) (λ p. inr (in_range_true z p)) (or_split (is_forbidden z) (in_range z) e)

-- what `stored_value` requires, from an entry of a table that is not forbidden
pub weight_ok_number : (z : ℤ) → weight_ok z ≡ true → is_forbidden z ≡ false → in_range z ≡ true
unfolding weight_ok
weight_ok_number z e f = simp f at e

-- ---- gains and stored values

stored_cases : (w : ℤ) (t : ℕ) → ((pos ceiling <ℤ (w +ℤ pos t)) × (stored w t ≡ pos ceiling)) ⊎ (((w +ℤ pos t) ≤ℤ pos ceiling) × (stored w t ≡ w +ℤ pos t))
unfolding stored
stored_cases w t = go (lt_z (pos ceiling) (w +ℤ pos t)) refl
  where
    go : (b : Bool) → lt_z (pos ceiling) (w +ℤ pos t) ≡ b → ((pos ceiling <ℤ (w +ℤ pos t)) × (cond b (pos ceiling) (w +ℤ pos t) ≡ pos ceiling)) ⊎ (((w +ℤ pos t) ≤ℤ pos ceiling) × (cond b (pos ceiling) (w +ℤ pos t) ≡ w +ℤ pos t))
    go true e = inl (omega ints, refl)
    go false e = inr (omega ints, refl)

pub stored_least : (w : ℤ) (t : ℕ) → neg_ℤ (pos weight_limit) ≤ℤ w → neg_ℤ (pos weight_limit) ≤ℤ stored w t
stored_least w t h = ⊎_elim (λ p. omega (int, p.1)) (λ p. omega (int, p.1)) (stored_cases w t)

pub stored_most : (w : ℤ) (t : ℕ) → stored w t ≤ℤ pos ceiling
stored_most w t = ⊎_elim (λ p. omega (int, p.1)) (λ p. omega (int, p.0, p.1)) (stored_cases w t)

-- all that is promised of a stored value, from the equation
pub stored_within : {w : ℤ} {t : ℕ} {r : ℤ} → in_range w ≡ true → r ≡ stored w t → StoredValue w t r
stored_within {w} {t} {r} h e =
    record {
      is = e;
      least = subst (λ (z : ℤ). neg_ℤ (pos weight_limit) ≤ℤ z) (sym e) (stored_least w t (in_range_true w h).0);
      most = subst (λ (z : ℤ). z ≤ℤ pos ceiling) (sym e) (stored_most w t);
    }
