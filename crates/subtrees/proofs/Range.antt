-- How large a value can be: by the mapping that attains it. Assumes nothing.
use Rattle.std.specs.Prelude.{◌≡◌, refl, ◌≢◌, Bool, ℕ, suc, ◌+◌, ◌*◌, ◌≤◌, ◌<◌, ℤ, pos, T, ◌≤ℤ◌}
use Rattle.std.proofs.Common.{ap, subst, inl, ⊎_elim, arith}
use Rattle.foundations.specs.Int.{int}
use Rattle.foundations.specs.Members.{mem, mem_del, del_mem}
use Rattle.foundations.specs.Sums.{size, size_plus, size_pick, sumℤ_size, sumℤ_size_0}
use Rattle.foundations.specs.Sums.{pick, sumℤ}
use Rattle.model.specs.Weights.{Weight, some, ◌⊑◌}
use Rattle.subtrees.specs.Connected.{of_inner, root_not_inner, Joined}
use Rattle.subtrees.proofs.HandDown.{attained}
use Rattle.subtrees.specs.Matching.{best_mono}
use Rattle.subtrees.specs.Problem.{Instance, Mapping, vertex_w, edge_w, weight_of, Choice, choice_self, branch_w, available, Solved}
use Rattle.subtrees.specs.Quick.{FoundRooting}
use Rattle.subtrees.specs.Rooted.{inner, total}
use Rattle.subtrees.specs.WeightLaws.{above_some, plus_right, some_num}

found_no_self : (P : Instance) (fpar fdep : ℕ → ℕ) → FoundRooting P fpar fdep → (v : ℕ) → v < P.m → T (mem v (P.neighbours v)) → ⊥
unfolding Joined
found_no_self P fpar fdep F v l t = ⊎_elim (λ j. off (F.falls v l j.0).1 (ap fdep j.1)) (λ j. off (F.falls v l j.0).1 (ap fdep j.1)) ((F.edge v v l l).0 t)
  where
    off : fdep (fpar v) < fdep v → fdep (fpar v) ≡ fdep v → ⊥
    off a b = omega arith

-- the value at s is at most that at v itself
pub val_mono : (P : Instance) (val : ℕ → ℕ → ℕ → Weight) → Solved P val → (fpar fdep : ℕ → ℕ) → FoundRooting P fpar fdep → (u v s : ℕ) → u < P.n → v < P.m → Choice P v s → val u v s ⊑ val u v v
val_mono P val S fpar fdep F u v s l k h = rw (S.is u v s l k h, S.is u v v l k (choice_self P v v refl))
    (plus_right (P.W u v) _ _ (best_mono (branch_w P val u v) (P.children u) (available P v s) (available P v v) (P.rooted.once u)
    (λ x t. let q = del_mem x s (P.neighbours v) t in mem_del x v (P.neighbours v) q.0 (λ e. found_no_self P fpar fdep F v k (rw e at q.0)))))

-- no weight is larger than k
pub record Small (P : Instance) (k : ℕ) : Type 0 where
  pub vertex : (u v : ℕ) → u < P.n → v < P.m → (z : ℤ) → P.W u v ≡ some z → size z ≤ k
  pub edge : (c v x : ℕ) → c < P.n → c ≢ 0 → v < P.m → T (mem x (P.neighbours v)) → (z : ℤ) → P.E (P.parent c) c v x ≡ some z → size z ≤ k

-- n vertices and n - 1 edges at most
pub weight_size : (P : Instance) (k n' : ℕ) → P.n ≡ suc n' → Small P k → (on : ℕ → Bool) (to : ℕ → ℕ) → Mapping P on to → size (weight_of P on to) ≤ suc n' * k + n' * k
unfolding weight_of total vertex_w edge_w Joined
weight_size P k n' e S on to M =
    let a : size (sumℤ P.n (λ u. pick (on u) (vertex_w P to u))) ≤ suc n' * k
    = subst (λ (x : ℕ). size (sumℤ P.n (λ u. pick (on u) (vertex_w P to u))) ≤ x * k) e
    (sumℤ_size P.n k (λ u. pick (on u) (vertex_w P to u)) (λ u l. size_pick (on u) _ k (λ o. S.vertex u (to u) l (M.inside u l o) _ (some_num _ (M.vertices u l o))))) in
    let b : size (sumℤ P.n (λ c. pick (inner P.parent on c) (edge_w P to c))) ≤ n' * k
    = rw e (sumℤ_size_0 n' k (λ c. pick (inner P.parent on c) (edge_w P to c)) at_root (λ c l. size_pick (inner P.parent on c) _ k (λ i. edge c (rw e l) i))) in
    omega (arith, size_plus (sumℤ P.n (λ u. pick (on u) (vertex_w P to u))) (sumℤ P.n (λ c. pick (inner P.parent on c) (edge_w P to c))))
  where
    edge : (c : ℕ) → c < P.n → T (inner P.parent on c) → size (edge_w P to c) ≤ k
    edge c lc i =
        let q = of_inner P.parent on c i in
        let up = (P.rooted.up c lc q.1).0 in
        S.edge c (to (P.parent c)) (to c) lc q.1 (M.inside (P.parent c) up q.2) ((M.joins (P.parent c) c up lc q.2 q.0).0 (inl (q.1, refl))) _ (some_num _ (M.edges c lc i))

    at_root : pick (inner P.parent on 0) (edge_w P to 0) ≡ pos 0
    at_root = ap (λ (b : Bool). pick b (edge_w P to 0)) (root_not_inner P.parent on)

-- a value is at most the weight of the mapping that attains the one at s = v
pub value_high : (P : Instance) (val : ℕ → ℕ → ℕ → Weight) → Solved P val → (fpar fdep : ℕ → ℕ) → FoundRooting P fpar fdep → (k n' : ℕ) → P.n ≡ suc n' → Small P k → (u v s : ℕ) → u < P.n → v < P.m → Choice P v s → (z : ℤ) → val u v s ≡ some z → z ≤ℤ pos (suc n' * k + n' * k)
value_high P val S fpar fdep F k n' e B u v s l m h z q =
    let a : some z ⊑ val u v v = rw q at (val_mono P val S fpar fdep F u v s l m h) in
    let y = above_some z (val u v v) a in
    let r = attained P val S u v l m y.0 y.1 fpar fdep F in
    let b : z ≤ℤ y.0 = rw y.1 at a in
    let c : size y.0 ≤ suc n' * k + n' * k = rw r.3 at (weight_size P k n' e B r.0 r.1 r.2) in
    omega int
