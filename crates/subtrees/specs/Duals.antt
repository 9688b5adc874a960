-- Duals that cover: two for each branch, none negative. The values that they make bound every mapping, as a certificate's do. Assumes nothing.
use Rattle.std.specs.Prelude.{◌≡◌, Bool, ℕ, ◌<◌, ℤ, pos, ◌+ℤ◌, ◌≤ℤ◌}
use Rattle.std.proofs.Math.Path.{refl}
use Rattle.std.proofs.Math.Bool.{true, false}
use mathlib.Core.List.{List, [], ◌∷◌}
use Rattle.std.proofs.Math.IntN.{+ℤ_idl}
use Rattle.std.proofs.Math.Dec.{T}
use Rattle.std.specs.Int.Signed.{≤ℤ_refl}
use Rattle.foundations.specs.Int.{plus, int, +ℤ_mono}
use Rattle.foundations.specs.Members.{mem, mem_here, mem_there, Distinct, del, del_mem}
use Rattle.foundations.specs.Members.{lsum_nonneg, lsum_del}
use Rattle.foundations.specs.Sums.{lsum}
use Rattle.foundations.specs.Tests.{true→T}
use Rattle.model.specs.Weights.{Weight, some}
use Rattle.subtrees.specs.Matching.{Assign, gain, assign_skip, assign_take}
use Rattle.subtrees.specs.Problem.{Instance, Choice, branch_w, available, Bounding}

-- weak duality
module _ (w : ℕ → ℕ → Weight) (on : ℕ → Bool) (to : ℕ → ℕ) (g a b : ℕ → ℤ) where
  cover_step : (c : ℕ) (cs A : List ℕ) (t : Bool) → on c ≡ t → Assign w (c ∷ cs) A on to g →
      (pos 0 ≤ℤ a c) → ((x : ℕ) → T (mem x A) → pos 0 ≤ℤ b x) → (T (on c) → g c ≤ℤ (a c +ℤ b (to c))) →
      gain cs on g ≤ℤ (lsum cs a +ℤ lsum A b) → (T (on c) → gain cs on g ≤ℤ (lsum cs a +ℤ lsum (del (to c) A) b)) →
      gain (c ∷ cs) on g ≤ℤ (lsum (c ∷ cs) a +ℤ lsum A b)
  unfolding lsum
  cover_step c cs A true e s p q r h k = rw e (
      let o : T (on c) = true→T e in
      let i = k o in let j = r o in let d = lsum_del (to c) A b q (s.free c (mem_here c cs) o) in
      omega (int, plus (a c) (lsum cs a)))
  cover_step c cs A false e s p q r h k = rw e (omega (int, plus (a c) (lsum cs a)))

  pub cover_bounds : (cs A : List ℕ) → Distinct cs → Assign w cs A on to g →
      ((c : ℕ) → T (mem c cs) → pos 0 ≤ℤ a c) → ((x : ℕ) → T (mem x A) → pos 0 ≤ℤ b x) → ((c : ℕ) → T (mem c cs) → T (on c) → g c ≤ℤ (a c +ℤ b (to c))) →
      gain cs on g ≤ℤ (lsum cs a +ℤ lsum A b)
  unfolding lsum
  cover_bounds [] A d s p q r = rw (+ℤ_idl (lsum A b)) (lsum_nonneg A b q)
  cover_bounds (c ∷ cs) A d s p q r = cover_step c cs A (on c) refl s (p c (mem_here c cs)) q (r c (mem_here c cs))
      (cover_bounds cs A d.1 (assign_skip w on to g c cs A s) (λ x t. p x (mem_there x c cs t)) q (λ x t. r x (mem_there x c cs t)))
      (λ o. cover_bounds cs (del (to c) A) d.1 (assign_take w on to g c cs A d.0 o s) (λ x t. p x (mem_there x c cs t)) (λ x t. q x (del_mem x (to c) A t).0) (λ x t. r x (mem_there x c cs t)))

-- duals for (u, v, s), an allowed pair of weight z
pub record CoversAt (P : Instance) (val : ℕ → ℕ → ℕ → Weight) (u v s : ℕ) (z : ℤ) : Type 0 where
  pub child_dual : ℕ → ℤ
  pub neighbour_dual : ℕ → ℤ
  pub child_nonneg : (c : ℕ) → T (mem c (P.children u)) → pos 0 ≤ℤ child_dual c
  pub neighbour_nonneg : (x : ℕ) → T (mem x (available P v s)) → pos 0 ≤ℤ neighbour_dual x
  pub cover : (c x : ℕ) → T (mem c (P.children u)) → T (mem x (available P v s)) → (y : ℤ) → branch_w P val u v c x ≡ some y → y ≤ℤ (child_dual c +ℤ neighbour_dual x)
  pub sum : val u v s ≡ some (z +ℤ (lsum (P.children u) child_dual +ℤ lsum (available P v s) neighbour_dual))

pub duals_bounding : (P : Instance) (val : ℕ → ℕ → ℕ → Weight) → ((u v s : ℕ) → u < P.n → v < P.m → Choice P v s → (z : ℤ) → P.W u v ≡ some z → CoversAt P val u v s z) → Bounding P val
duals_bounding P val C = record {
  over = λ u v s l k h z e on to g f. let r = C u v s l k h z e in
      rw r.sum (+ℤ_mono (≤ℤ_refl z) (cover_bounds (branch_w P val u v) on to g r.child_dual r.neighbour_dual (P.children u) (available P v s) (P.rooted.once u) f r.child_nonneg r.neighbour_nonneg
      (λ c t o. r.cover c (to c) t (f.free c t o) (g c) (f.weighs c t o))));
}
