-- Linear reasoning on the integers by `omega`, through ℕ: `up z` and `dn z` are the positive and the negative part of z. Assumes nothing.
use Rattle.std.specs.Prelude.{◌≡◌, refl, Bool, true, false, not, cond, ℕ, zero, suc, ◌+◌, ◌-◌, ◌≤◌, ◌<◌, ◌^◌, min, max, T, leb, ltb, ℤ, pos, negsuc, ◌+ℤ◌, ◌-ℤ◌, neg_ℤ, ◌≤ℤ◌, ◌<ℤ◌}
use Rattle.std.proofs.Common.{sym, ap, subst, arith, leb→le, le→leb, ltb→lt, lt→ltb, nltb→le}
use Rattle.std.proofs.Math.Dec.{nleb→lt}
use Rattle.std.proofs.Math.IntN.{sub_ℕ, +ℤ_assoc, +ℤ_comm}
use Rattle.std.specs.Int.Signed.{mag, le_z, lt_z}
use Rattle.std.specs.Int.{Width}
use mir.Val.{SFits, hbits}
use Rattle.foundations.specs.Tests.{true→T, T→true, is_false}

abbrev pub up : ℤ → ℕ
up (pos n) = n
up (negsuc n) = 0

abbrev pub dn : ℤ → ℕ
dn (pos n) = 0
dn (negsuc n) = suc n

-- one of the parts is 0
pub canon : (z : ℤ) → min (up z) (dn z) ≡ 0
canon (pos n) = omega arith
canon (negsuc n) = omega arith

-- ---- order and equality, in and out
le_in' : (a b : ℤ) → T (le_z a b) → up a + dn b ≤ up b + dn a
le_in' (pos a) (pos b) t = omega (arith, leb→le a b t)
le_in' (pos a) (negsuc b) t = absurd t
le_in' (negsuc a) (pos b) t = omega arith
le_in' (negsuc a) (negsuc b) t = omega (arith, leb→le b a t)

lt_in' : (a b : ℤ) → T (lt_z a b) → up a + dn b < up b + dn a
lt_in' (pos a) (pos b) t = omega (arith, ltb→lt a b t)
lt_in' (pos a) (negsuc b) t = absurd t
lt_in' (negsuc a) (pos b) t = omega arith
lt_in' (negsuc a) (negsuc b) t = omega (arith, ltb→lt b a t)

le_out' : (a b : ℤ) → up a + dn b ≤ up b + dn a → T (le_z a b)
le_out' (pos a) (pos b) h = le→leb a b (omega arith)
le_out' (pos a) (negsuc b) h = let z : ⊥ = omega arith in absurd z
le_out' (negsuc a) (pos b) h = tt
le_out' (negsuc a) (negsuc b) h = le→leb b a (omega arith)

lt_out' : (a b : ℤ) → up a + dn b < up b + dn a → T (lt_z a b)
lt_out' (pos a) (pos b) h = lt→ltb a b (omega arith)
lt_out' (pos a) (negsuc b) h = let z : ⊥ = omega arith in absurd z
lt_out' (negsuc a) (pos b) h = tt
lt_out' (negsuc a) (negsuc b) h = lt→ltb b a (omega arith)

pub le_in : (a b : ℤ) → a ≤ℤ b → up a + dn b ≤ up b + dn a
le_in a b h = le_in' a b h.le

pub lt_in : (a b : ℤ) → a <ℤ b → up a + dn b < up b + dn a
lt_in a b h = lt_in' a b h.lt

pub le_out : (a b : ℤ) → up a + dn b ≤ up b + dn a → a ≤ℤ b
le_out a b h = record { le = le_out' a b h }

pub lt_out : (a b : ℤ) → up a + dn b < up b + dn a → a <ℤ b
lt_out a b h = record { lt = lt_out' a b h }

pub eq_in : (a b : ℤ) → a ≡ b → up a + dn b ≡ up b + dn a
eq_in a b e = subst (λ (z : ℤ). up a + dn z ≡ up z + dn a) e refl

pub eq_out : (a b : ℤ) → up a + dn b ≡ up b + dn a → a ≡ b
eq_out (pos a) (pos b) h = ap pos (omega arith)
eq_out (pos a) (negsuc b) h = let z : ⊥ = omega arith in absurd z
eq_out (negsuc a) (pos b) h = let z : ⊥ = omega arith in absurd z
eq_out (negsuc a) (negsuc b) h = ap negsuc (omega arith)

-- ---- sums, differences, opposites
sub_parts : (a b : ℕ) → up (sub_ℕ a b) + b ≡ a + dn (sub_ℕ a b)
sub_parts a b = go (ltb a b) (ltb→lt a b) (nltb→le a b)
  where
    go : (t : Bool) → (T t → a < b) → (T (not t) → b ≤ a) → up (cond t (negsuc (b - suc a)) (pos (a - b))) + b ≡ a + dn (cond t (negsuc (b - suc a)) (pos (a - b)))
    go true y n = omega (arith, y tt)
    go false y n = omega (arith, n tt)

pub plus : (a b : ℤ) → up (a +ℤ b) + (dn a + dn b) ≡ up a + up b + dn (a +ℤ b)
plus (pos a) (pos b) = omega arith
plus (pos a) (negsuc b) = omega (arith, sub_parts a (suc b))
plus (negsuc a) (pos b) = omega (arith, sub_parts b (suc a))
plus (negsuc a) (negsuc b) = omega arith

up_neg : (a : ℤ) → up (neg_ℤ a) ≡ dn a
up_neg (pos zero) = refl
up_neg (pos (suc n)) = refl
up_neg (negsuc n) = refl

dn_neg : (a : ℤ) → dn (neg_ℤ a) ≡ up a
dn_neg (pos zero) = refl
dn_neg (pos (suc n)) = refl
dn_neg (negsuc n) = refl

pub neg : (a : ℤ) → (up (neg_ℤ a) ≡ dn a) × (dn (neg_ℤ a) ≡ up a)
neg a = (up_neg a, dn_neg a)

pub minus : (a b : ℤ) → up (a -ℤ b) + (dn a + up b) ≡ up a + dn b + dn (a -ℤ b)
minus a b = omega (arith, plus a (neg_ℤ b), neg b)

-- ---- the same for an order or an equation with a sum on a side, so that `omega` reads a sum of two with no `plus` in its list
pub le_in_2_2 : (a b c d : ℤ) → (a +ℤ b) ≤ℤ (c +ℤ d) → (up a + up b) + (dn c + dn d) ≤ (up c + up d) + (dn a + dn b)
le_in_2_2 a b c d h = omega (arith, le_in (a +ℤ b) (c +ℤ d) h, plus a b, plus c d)

pub le_out_2_2 : (a b c d : ℤ) → (up a + up b) + (dn c + dn d) ≤ (up c + up d) + (dn a + dn b) → (a +ℤ b) ≤ℤ (c +ℤ d)
le_out_2_2 a b c d h = le_out (a +ℤ b) (c +ℤ d) (omega (arith, plus a b, plus c d))

pub le_in_2_1 : (a b c : ℤ) → (a +ℤ b) ≤ℤ c → (up a + up b) + dn c ≤ up c + (dn a + dn b)
le_in_2_1 a b c h = omega (arith, le_in (a +ℤ b) c h, plus a b)

pub le_out_2_1 : (a b c : ℤ) → (up a + up b) + dn c ≤ up c + (dn a + dn b) → (a +ℤ b) ≤ℤ c
le_out_2_1 a b c h = le_out (a +ℤ b) c (omega (arith, plus a b))

pub le_in_1_2 : (a c d : ℤ) → a ≤ℤ (c +ℤ d) → up a + (dn c + dn d) ≤ (up c + up d) + dn a
le_in_1_2 a c d h = omega (arith, le_in a (c +ℤ d) h, plus c d)

pub le_out_1_2 : (a c d : ℤ) → up a + (dn c + dn d) ≤ (up c + up d) + dn a → a ≤ℤ (c +ℤ d)
le_out_1_2 a c d h = le_out a (c +ℤ d) (omega (arith, plus c d))

pub lt_in_2_2 : (a b c d : ℤ) → (a +ℤ b) <ℤ (c +ℤ d) → (up a + up b) + (dn c + dn d) < (up c + up d) + (dn a + dn b)
lt_in_2_2 a b c d h = omega (arith, lt_in (a +ℤ b) (c +ℤ d) h, plus a b, plus c d)

pub lt_out_2_2 : (a b c d : ℤ) → (up a + up b) + (dn c + dn d) < (up c + up d) + (dn a + dn b) → (a +ℤ b) <ℤ (c +ℤ d)
lt_out_2_2 a b c d h = lt_out (a +ℤ b) (c +ℤ d) (omega (arith, plus a b, plus c d))

pub lt_in_2_1 : (a b c : ℤ) → (a +ℤ b) <ℤ c → (up a + up b) + dn c < up c + (dn a + dn b)
lt_in_2_1 a b c h = omega (arith, lt_in (a +ℤ b) c h, plus a b)

pub lt_out_2_1 : (a b c : ℤ) → (up a + up b) + dn c < up c + (dn a + dn b) → (a +ℤ b) <ℤ c
lt_out_2_1 a b c h = lt_out (a +ℤ b) c (omega (arith, plus a b))

pub lt_in_1_2 : (a c d : ℤ) → a <ℤ (c +ℤ d) → up a + (dn c + dn d) < (up c + up d) + dn a
lt_in_1_2 a c d h = omega (arith, lt_in a (c +ℤ d) h, plus c d)

pub lt_out_1_2 : (a c d : ℤ) → up a + (dn c + dn d) < (up c + up d) + dn a → a <ℤ (c +ℤ d)
lt_out_1_2 a c d h = lt_out a (c +ℤ d) (omega (arith, plus c d))

pub eq_in_2_2 : (a b c d : ℤ) → (a +ℤ b) ≡ (c +ℤ d) → (up a + up b) + (dn c + dn d) ≡ (up c + up d) + (dn a + dn b)
eq_in_2_2 a b c d h = omega (arith, eq_in (a +ℤ b) (c +ℤ d) h, plus a b, plus c d)

pub eq_out_2_2 : (a b c d : ℤ) → (up a + up b) + (dn c + dn d) ≡ (up c + up d) + (dn a + dn b) → (a +ℤ b) ≡ (c +ℤ d)
eq_out_2_2 a b c d h = eq_out (a +ℤ b) (c +ℤ d) (omega (arith, plus a b, plus c d))

pub eq_in_2_1 : (a b c : ℤ) → (a +ℤ b) ≡ c → (up a + up b) + dn c ≡ up c + (dn a + dn b)
eq_in_2_1 a b c h = omega (arith, eq_in (a +ℤ b) c h, plus a b)

pub eq_out_2_1 : (a b c : ℤ) → (up a + up b) + dn c ≡ up c + (dn a + dn b) → (a +ℤ b) ≡ c
eq_out_2_1 a b c h = eq_out (a +ℤ b) c (omega (arith, plus a b))

pub eq_in_1_2 : (a c d : ℤ) → a ≡ (c +ℤ d) → up a + (dn c + dn d) ≡ (up c + up d) + dn a
eq_in_1_2 a c d h = omega (arith, eq_in a (c +ℤ d) h, plus c d)

pub eq_out_1_2 : (a c d : ℤ) → up a + (dn c + dn d) ≡ (up c + up d) + dn a → a ≡ (c +ℤ d)
eq_out_1_2 a c d h = eq_out a (c +ℤ d) (omega (arith, plus c d))

pub ruleset int = (arith, le_in_2_2, le_out_2_2, le_in_2_1, le_out_2_1, le_in_1_2, le_out_1_2, lt_in_2_2, lt_out_2_2, lt_in_2_1, lt_out_2_1, lt_in_1_2, lt_out_1_2, eq_in_2_2, eq_out_2_2, eq_in_2_1, eq_out_2_1, eq_in_1_2, eq_out_1_2, le_in, lt_in, eq_in, le_out, lt_out, eq_out)

-- ---- what the machine's tests tell, as facts: `le_z a b ≡ true` and the like, read by `omega ints`
pub le_z_true : (a b : ℤ) → le_z a b ≡ true → up a + dn b ≤ up b + dn a
le_z_true a b e = le_in' a b (true→T e)

pub lt_z_true : (a b : ℤ) → lt_z a b ≡ true → up a + dn b < up b + dn a
lt_z_true a b e = lt_in' a b (true→T e)

le_z_not : (a b : ℤ) → T (not (le_z a b)) → up b + dn a < up a + dn b
le_z_not (pos a) (pos b) t = omega (arith, nleb→lt a b t)
le_z_not (pos a) (negsuc b) t = omega arith
le_z_not (negsuc a) (pos b) t = absurd t
le_z_not (negsuc a) (negsuc b) t = omega (arith, nleb→lt b a t)

lt_z_not : (a b : ℤ) → T (not (lt_z a b)) → up b + dn a ≤ up a + dn b
lt_z_not (pos a) (pos b) t = omega (arith, nltb→le a b t)
lt_z_not (pos a) (negsuc b) t = omega arith
lt_z_not (negsuc a) (pos b) t = absurd t
lt_z_not (negsuc a) (negsuc b) t = omega (arith, nltb→le b a t)

pub le_z_false : (a b : ℤ) → le_z a b ≡ false → up b + dn a < up a + dn b
le_z_false a b e = le_z_not a b (subst (λ (t : Bool). T (not t)) (sym e) tt)

pub lt_z_false : (a b : ℤ) → lt_z a b ≡ false → up b + dn a ≤ up a + dn b
lt_z_false a b e = lt_z_not a b (subst (λ (t : Bool). T (not t)) (sym e) tt)

-- the other way: the test's value from the fact
pub le_le_z : (a b : ℤ) → up a + dn b ≤ up b + dn a → le_z a b ≡ true
le_le_z a b h = T→true (le_z a b) (le_out' a b h)

pub lt_lt_z : (a b : ℤ) → up a + dn b < up b + dn a → lt_z a b ≡ true
lt_lt_z a b h = T→true (lt_z a b) (lt_out' a b h)

pub lt_le_z : (a b : ℤ) → up b + dn a < up a + dn b → le_z a b ≡ false
lt_le_z a b h = is_false (le_z a b) (λ e. let k = le_z_true a b e in omega arith)

pub le_lt_z : (a b : ℤ) → up b + dn a ≤ up a + dn b → lt_z a b ≡ false
le_lt_z a b h = is_false (lt_z a b) (λ e. let k = lt_z_true a b e in omega arith)

-- the same for a test of a sum
pub le_z_true_2_1 : (a b c : ℤ) → le_z (a +ℤ b) c ≡ true → (up a + up b) + dn c ≤ up c + (dn a + dn b)
le_z_true_2_1 a b c e = omega (arith, le_z_true (a +ℤ b) c e, plus a b)

pub le_z_true_1_2 : (a c d : ℤ) → le_z a (c +ℤ d) ≡ true → up a + (dn c + dn d) ≤ (up c + up d) + dn a
le_z_true_1_2 a c d e = omega (arith, le_z_true a (c +ℤ d) e, plus c d)

pub lt_z_true_2_1 : (a b c : ℤ) → lt_z (a +ℤ b) c ≡ true → (up a + up b) + dn c < up c + (dn a + dn b)
lt_z_true_2_1 a b c e = omega (arith, lt_z_true (a +ℤ b) c e, plus a b)

pub lt_z_true_1_2 : (a c d : ℤ) → lt_z a (c +ℤ d) ≡ true → up a + (dn c + dn d) < (up c + up d) + dn a
lt_z_true_1_2 a c d e = omega (arith, lt_z_true a (c +ℤ d) e, plus c d)

pub le_z_false_2_1 : (a b c : ℤ) → le_z (a +ℤ b) c ≡ false → up c + (dn a + dn b) < (up a + up b) + dn c
le_z_false_2_1 a b c e = omega (arith, le_z_false (a +ℤ b) c e, plus a b)

pub le_z_false_1_2 : (a c d : ℤ) → le_z a (c +ℤ d) ≡ false → (up c + up d) + dn a < up a + (dn c + dn d)
le_z_false_1_2 a c d e = omega (arith, le_z_false a (c +ℤ d) e, plus c d)

pub lt_z_false_2_1 : (a b c : ℤ) → lt_z (a +ℤ b) c ≡ false → up c + (dn a + dn b) ≤ (up a + up b) + dn c
lt_z_false_2_1 a b c e = omega (arith, lt_z_false (a +ℤ b) c e, plus a b)

pub lt_z_false_1_2 : (a c d : ℤ) → lt_z a (c +ℤ d) ≡ false → (up c + up d) + dn a ≤ up a + (dn c + dn d)
lt_z_false_1_2 a c d e = omega (arith, lt_z_false a (c +ℤ d) e, plus c d)

-- ---- ranges
-- −N ≤ z < N as one statement, since `omega` applies one rule to a hypothesis
abbrev pub Within : ℕ → ℕ → ℕ → Type 0
Within N u d = max (suc u + u) (d + d) ≤ N + (u + d)

pub mag_in : (z : ℤ) {n : ℕ} → mag z < n → Within n (up z) (dn z)
mag_in (pos k) h = omega arith
mag_in (negsuc k) h = omega arith

pub mag_out : (z : ℤ) {n : ℕ} → Within n (up z) (dn z) → mag z < n
mag_out (pos k) h = omega arith
mag_out (negsuc k) h = omega arith

pub sfits_in : {w : Width} {z : ℤ} → SFits w z → Within (2 ^ hbits w) (up z) (dn z)
sfits_in {w} {z} f = mag_in z f.sfits

pub sfits_out : {w : Width} {z : ℤ} → Within (2 ^ hbits w) (up z) (dn z) → SFits w z
sfits_out {w} {z} h = record { sfits = mag_out z h }

pub sfits_out_2 : {w : Width} (a b : ℤ) → Within (2 ^ hbits w) (up a + up b) (dn a + dn b) → SFits w (a +ℤ b)
sfits_out_2 a b h = sfits_out (omega (arith, plus a b))

-- every rule: for the needs of a function with signed locals
pub ruleset ints = (int, le_z_true_2_1, le_z_true_1_2, lt_z_true_2_1, lt_z_true_1_2, le_z_false_2_1, le_z_false_1_2, lt_z_false_2_1, lt_z_false_1_2, le_z_true, lt_z_true, le_z_false, lt_z_false, le_le_z, lt_lt_z, lt_le_z, le_lt_z, sfits_in, sfits_out_2, sfits_out)

-- ---- the order
pub ≤ℤ_antisym : {a b : ℤ} → a ≤ℤ b → b ≤ℤ a → a ≡ b
≤ℤ_antisym h k = omega int

pub ≤ℤ_trans : {a b c : ℤ} → a ≤ℤ b → b ≤ℤ c → a ≤ℤ c
≤ℤ_trans h k = omega int

pub +ℤ_mono : {a b c d : ℤ} → a ≤ℤ b → c ≤ℤ d → (a +ℤ c) ≤ℤ (b +ℤ d)
+ℤ_mono h k = omega int

-- a test of the natural number `up z` is a test of z
pub leb_up : (z : ℤ) (n : ℕ) → leb (up z) n ≡ le_z z (pos n)
leb_up (pos k) n = refl
leb_up (negsuc k) n = T→true (leb 0 n) (le→leb 0 n (omega arith))

-- a rearrangement of sums: `simp sums`
pub +ℤ_left_comm : (a b c : ℤ) → a +ℤ (b +ℤ c) ≡ b +ℤ (a +ℤ c)
+ℤ_left_comm a b c = omega (int, plus b c, plus a c)

pub ruleset sums = (+ℤ_assoc, +ℤ_comm, +ℤ_left_comm)
