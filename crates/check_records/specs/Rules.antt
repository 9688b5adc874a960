-- From the tests that the code makes over arrays to the model's rules of a record. Assumes nothing.
use Rattle.std.specs.Prelude.{◌≡◌, refl, Bool, true, false, ◌&&◌, List, ℕ, zero, suc, ◌+◌, ◌*◌, ◌<◌, length, get_or, leb, ℤ, pos, ◌+ℤ◌}
use Rattle.std.proofs.Math.Path.{sym}
use Rattle.std.proofs.Common.{ap, ◌∙◌, arith, le→leb}
use Rattle.std.specs.Int.Signed.{le_z}
use Rattle.foundations.specs.Int.{up, int, ints, canon, leb_up}
use Rattle.foundations.specs.Lists.{every, every_at, every_ext}
use Rattle.foundations.specs.Sums.{sum, sumℤ}
use Rattle.foundations.specs.Tests.{T→true}
use Rattle.model.specs.Certificate.{others, record_at, value_in, child_dual, other_dual, value_of, eq_z, at_most, forbidden_ok, cover_ok, duals_ok, pair_ok, subproblem_ok}
use Rattle.model.specs.Order.{children, u_at}
use Rattle.model.specs.Pairs.{vertex_pair}
use Rattle.model.specs.Values.{branch}
use Rattle.model.specs.Weights.{Weight, none, some}
use Rattle.plan.specs.Pairs.{cell, up_w}
use Rattle.records.specs.Others.{column_in}
use Rattle.records.specs.Places.{NumberAt}
use Rattle.record_rules.specs.Numbers.{not_negative, is_zero}
use Rattle.record_rules.specs.Cover.{zeros_in, dual_in, cover_in, duals_in}

-- ---- natural numbers for duals that are not negative

up_pos : (a : ℤ) → le_z (pos 0) a ≡ true → a ≡ pos (up a)
up_pos a h = omega (ints, canon a)

sum_up : (n : ℕ) (a : ℕ → ℤ) → ((i : ℕ) → i < n → le_z (pos 0) (a i) ≡ true) → sumℤ n a ≡ pos (sum n (λ i. up (a i)))
unfolding sum sumℤ
sum_up zero a h = refl
sum_up (suc n) a h = let e = sum_up n a (λ i l. h i (omega arith)) in let g : a n ≡ pos (up (a n)) = up_pos (a n) (h n (omega arith)) in omega int

cover_up : (x : Weight) (a b : ℤ) → le_z (pos 0) a ≡ true → le_z (pos 0) b ≡ true → leb (up_w x) (up a + up b) ≡ at_most x (a +ℤ b)
unfolding up_w at_most
cover_up none a b ha hb = T→true (leb 0 (up a + up b)) (le→leb 0 (up a + up b) (omega arith))
cover_up (some z) a b ha hb =
    let e : a +ℤ b ≡ pos (up a + up b) = (let ea = up_pos a ha in let eb = up_pos b hb in omega int) in
    rw e (leb_up z (up a + up b))

chain : (a b c d c' d' : Bool) → (a ≡ true → b ≡ true → c ≡ c') → (a ≡ true → b ≡ true → d ≡ d') → (a && (b && (c && d))) ≡ (a && (b && (c' && d')))
chain true true c d c' d' f g = rw (f refl refl, g refl refl)
chain true false c d c' d' f g = refl
chain false b c d c' d' f g = refl

duals_same : (n l : ℕ) (a b : ℕ → ℤ) (G : ℕ → ℕ → ℕ) (x : ℕ → ℕ → Weight) (value w : ℤ) → ((i j : ℕ) → i < n → j < l → G i j ≡ up_w (x i j)) →
    (every (λ i. le_z (pos 0) (a i)) n && (every (λ j. le_z (pos 0) (b j)) l && (every (λ i. every (λ j. leb (G i j) (up (a i) + up (b j))) l) n && eq_z value (w +ℤ pos (sum n (λ i. up (a i)) + sum l (λ j. up (b j)))))))
    ≡ (every (λ i. le_z (pos 0) (a i)) n && (every (λ j. le_z (pos 0) (b j)) l && (every (λ i. every (λ j. at_most (x i j) (a i +ℤ b j)) l) n && eq_z value (w +ℤ (sumℤ n a +ℤ sumℤ l b)))))
duals_same n l a b G x value w h = chain _ _ _ _ _ _
    (λ p q. every_ext (λ i. every (λ j. leb (G i j) (up (a i) + up (b j))) l) (λ i. every (λ j. at_most (x i j) (a i +ℤ b j)) l) n (λ i hi. every_ext (λ j. leb (G i j) (up (a i) + up (b j))) (λ j. at_most (x i j) (a i +ℤ b j)) l (λ j hj. rw (h i j hi hj) (cover_up (x i j) (a i) (b j) (every_at (λ i. le_z (pos 0) (a i)) i n p hi) (every_at (λ j. le_z (pos 0) (b j)) j l q hj)))))
    (λ p q. ap (λ (y : ℤ). eq_z value (w +ℤ y)) (sym (both p q)))
  where
    both : every (λ i. le_z (pos 0) (a i)) n ≡ true → every (λ j. le_z (pos 0) (b j)) l ≡ true → sumℤ n a +ℤ sumℤ l b ≡ pos (sum n (λ i. up (a i)) + sum l (λ j. up (b j)))
    both p q = rw (sum_up n a (λ i hi. every_at (λ i. le_z (pos 0) (a i)) i n p hi), sum_up l b (λ j hj. every_at (λ j. le_z (pos 0) (b j)) j l q hj))

-- ---- one record

-- record k, of (u, v, s), begins at `here`; n children, l neighbours other than s
pub record RecordIs (r f : List ℕ) (k u v s here n l : ℕ) : Type 0 where
  pub number : NumberAt r f u v s k
  pub begins : here ≡ record_at r f k
  pub rows : n ≡ length (children r u)
  pub columns : l ≡ length (others f v s)

module _ (table r f z : List ℕ) (k u v s here n l : ℕ) (R : RecordIs r f k u v s here n l) where
  next_is : here + 6 + 4 * n ≡ record_at r f k + 6 + 4 * length (children r (u_at r f k))
  next_is = rw (R.begins, R.rows, R.number.u_is)

  zeros_are : zeros_in z here n l ≡ forbidden_ok r f z k u v s
  unfolding zeros_in forbidden_ok is_zero value_in child_dual other_dual
  zeros_are = rw (next_is, R.begins, R.rows, R.columns)

  duals_are : (q : ℕ) (g : List ℕ) (w : ℤ) → ((i j : ℕ) → i < n → j < l → cell g i (column_in q j) ≡ up_w (branch table r f (value_of r f z) u v (get_or (children r u) i 0) (get_or (others f v s) j 0))) → duals_in z here n l q g w ≡ duals_ok table r f z k u v s w
  unfolding duals_in cover_in dual_in not_negative duals_ok cover_ok value_in child_dual other_dual
  duals_are q g w h =
      rw (next_is, R.begins, ← R.rows, ← R.columns) (duals_same n l (child_dual r f z k) (other_dual r f z k) (λ i j. cell g i (column_in q j)) (λ i j. branch table r f (value_of r f z) u v (get_or (children r u) i 0) (get_or (others f v s) j 0)) (value_in r f z k) w h)

  moved : pair_ok table r f z k u v s (vertex_pair table r f u v) ≡ subproblem_ok table r f z k
  unfolding subproblem_ok
  moved = rw (R.number.u_is, R.number.v_is, R.number.s_is)

  -- of a forbidden pair
  pub record_none : vertex_pair table r f u v ≡ none → zeros_in z here n l ≡ subproblem_ok table r f z k
  unfolding pair_ok
  record_none e = zeros_are ∙ sym (ap (pair_ok table r f z k u v s) e) ∙ moved

  -- of any other
  pub record_some : (q : ℕ) (g : List ℕ) (w : ℤ) → vertex_pair table r f u v ≡ some w → ((i j : ℕ) → i < n → j < l → cell g i (column_in q j) ≡ up_w (branch table r f (value_of r f z) u v (get_or (children r u) i 0) (get_or (others f v s) j 0))) → duals_in z here n l q g w ≡ subproblem_ok table r f z k
  unfolding pair_ok
  record_some q g w e h = duals_are q g w h ∙ sym (ap (pair_ok table r f z k u v s) e) ∙ moved
