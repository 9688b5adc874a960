-- A read-out: from the top down, each vertex of the set takes free partners for its children. It is a mapping; where each choice attains
-- its value, it weighs the value of its top. Assumes nothing.
use Rattle.std.specs.Prelude.{◌≡◌, ◌⊎◌, ◌≢◌, Bool, ℕ, ◌<◌, ℤ, ◌+ℤ◌}
use Rattle.std.proofs.Math.Path.{sym, ap}
use Rattle.std.proofs.Common.{◌∙◌, subst}
use Rattle.std.proofs.Math.Logic.{⊎_elim}
use Rattle.std.proofs.Math.Dec.{T}
use Rattle.foundations.specs.Members.{mem, del_mem, lsum_ext}
use Rattle.foundations.specs.Sums.{sumℤ_unique}
use Rattle.foundations.specs.Sums.{pick, pick_eq, lsum}
use Rattle.model.specs.Mapping.{num}
use Rattle.model.specs.Weights.{Weight, none, some}
use Rattle.subtrees.proofs.Bound.{own_s, own_cases, own_inner, own_v}
use Rattle.subtrees.specs.Connected.{inner_of, of_inner, of_top, top_of, Joined, OneTop, set_ind}
use Rattle.subtrees.specs.Matching.{Assign, gain}
use Rattle.subtrees.specs.Onward.{Came, came_start, came_on, came_last, came_away}
use Rattle.subtrees.specs.Problem.{Instance, Mapping, vertex_w, edge_w, weight_of, branch_w, available}
use Rattle.subtrees.specs.Quick.{FoundRooting, Quick}
use Rattle.subtrees.proofs.QuickMapping.{quick_is_mapping}
use Rattle.subtrees.specs.Rooted.{inner, top, total, total_eq}
use Rattle.subtrees.specs.WeightLaws.{none≢some, plus_some}

-- what a read-out knows of each vertex and its parent
pub record Readout (P : Instance) (t : ℕ) (on : ℕ → Bool) (to : ℕ → ℕ) : Type 0 where
  pub root : (t < P.n) × T (on t) × (to t < P.m) × ¬ (T (inner P.parent on t))
  pub only : (x : ℕ) → x < P.n → T (on x) → (x ≡ t) ⊎ T (inner P.parent on x)
  pub free : (c : ℕ) → c < P.n → T (inner P.parent on c) → T (mem (to c) (available P (to (P.parent c)) (own_s P.parent on to (P.parent c))))
  pub apart : (c d : ℕ) → c < P.n → d < P.n → T (inner P.parent on c) → T (inner P.parent on d) → P.parent c ≡ P.parent d → to c ≡ to d → c ≡ d
  pub vertices : (u : ℕ) → u < P.n → T (on u) → P.W u (to u) ≢ none
  pub edges : (c : ℕ) → c < P.n → T (inner P.parent on c) → P.E (P.parent c) c (to (P.parent c)) (to c) ≢ none

-- each value is the weight of its pair with what its children's pairs add
pub record Tight (P : Instance) (val : ℕ → ℕ → ℕ → Weight) (on : ℕ → Bool) (to : ℕ → ℕ) : Type 0 where
  pub some_own : (u : ℕ) → u < P.n → T (on u) → val u (to u) (own_s P.parent on to u) ≡ some (own_v P val on to u)
  pub tight : (u : ℕ) → u < P.n → T (on u) → vertex_w P to u +ℤ lsum (P.children u) (λ c. pick (on c) (edge_w P to c +ℤ own_v P val on to c)) ≡ own_v P val on to u

module _ (P : Instance) (fpar fdep : ℕ → ℕ) (F : FoundRooting P fpar fdep) (t : ℕ) (on : ℕ → Bool) (to : ℕ → ℕ) (R : Readout P t on to) where
  abbrev In : ℕ → Type 0
  In c = T (inner P.parent on c)

  -- the parent of a vertex that is not the top
  up : (c : ℕ) → c < P.n → In c → (P.parent c < P.n) × T (on (P.parent c)) × (P.depth (P.parent c) < P.depth c)
  up c l i = let q = of_inner P.parent on c i in let r = P.rooted.up c l q.1 in (r.0, q.2, r.1)

  -- induction along the set from its top
  pub down_ind : (Q : ℕ → Type 0) → Q t → ((c : ℕ) → c < P.n → In c → Q (P.parent c) → Q c) → (x : ℕ) → x < P.n → T (on x) → Q x
  down_ind = set_ind P.n P.parent P.depth P.rooted.up on t R.only

  inside : (x : ℕ) → x < P.n → T (on x) → to x < P.m
  inside = down_ind (λ x. to x < P.m) R.root.2 (λ c l i h. (P.symmetric (to (P.parent c)) (to c) h (del_mem (to c) _ (P.neighbours (to (P.parent c))) (R.free c l i)).0).0)

  -- a child's partner is joined to its parent's
  child_near : (c : ℕ) → c < P.n → In c → Joined fpar (to (P.parent c)) (to c)
  child_near c l i = let r = up c l i in
      (F.edge (to (P.parent c)) (to c) (inside (P.parent c) r.0 r.1) (inside c l (of_inner P.parent on c i).0)).0
      (del_mem (to c) _ (P.neighbours (to (P.parent c))) (R.free c l i)).0

  -- partners are reached from the top's without turning back, so no two vertices have the same
  abbrev Cameₜ : ℕ → ℕ → Type 0
  Cameₜ p q = Came P.m fpar fdep F.falls (to t) p q

  came : (x : ℕ) → x < P.n → T (on x) → In x → Cameₜ (to (P.parent x)) (to x)
  came = down_ind (λ x. In x → Cameₜ (to (P.parent x)) (to x))
      (λ i. absurd (R.root.3 i))
      (λ c l i h i'. let r = up c l i in ⊎_elim
      (λ e. subst (λ (z : ℕ). Cameₜ (to z) (to c)) (sym e) (came_start P.m fpar fdep F.falls (to t) (to c) R.root.2 (inside c l (of_inner P.parent on c i).0)
      (subst (λ (z : ℕ). Joined fpar (to z) (to c)) e (child_near c l i))))
      (λ j. came_on P.m fpar fdep F.falls (to t) (to (P.parent (P.parent c))) (to (P.parent c)) (to c) (h j)
      (inside (P.parent c) r.0 r.1) (inside c l (of_inner P.parent on c i).0) (child_near c l i) (turn c l i j))
      (R.only (P.parent c) r.0 r.1))
    where
      turn : (c : ℕ) → c < P.n → In c → In (P.parent c) → to c ≢ to (P.parent (P.parent c))
      turn c l i j e = (del_mem (to c) _ (P.neighbours (to (P.parent c))) (R.free c l i)).1 (e ∙ sym (own_inner P.parent on to (P.parent c) j))

  apart : (x : ℕ) → x < P.n → T (on x) → (y : ℕ) → y < P.n → T (on y) → to x ≡ to y → x ≡ y
  apart = down_ind (λ x. (y : ℕ) → y < P.n → T (on y) → to x ≡ to y → x ≡ y)
      (λ y l o e. ⊎_elim (λ q. sym q) (λ i. absurd (came_away P.m fpar fdep F.falls (to t) _ (to y) (came y l o i) (sym e))) (R.only y l o))
      (λ c l i h y k o e. ⊎_elim
      (λ q. absurd (came_away P.m fpar fdep F.falls (to t) _ (to c) (came c l (of_inner P.parent on c i).0 i) (e ∙ ap to q)))
      (λ j. let r = up y k j in R.apart c y l k i j
      (h (P.parent y) r.0 r.1 (came_last P.m fpar fdep F.falls (to t) (to (P.parent c)) (to (P.parent y)) (to y)
      (subst (Cameₜ (to (P.parent c))) e (came c l (of_inner P.parent on c i).0 i)) (came y k o j))) e)
      (R.only y k o))

  one_top : OneTop P.n P.parent on
  unfolding OneTop
  one_top x y l k s s' = is_t x l s ∙ sym (is_t y k s')
    where
      is_t : (x : ℕ) → x < P.n → T (top P.parent on x) → x ≡ t
      is_t x l s = let h = of_top P.parent on x s in ⊎_elim (λ e. e) (λ i. absurd (h.1 i)) (R.only x l h.0)

  pub readout_quick : Quick P on to
  readout_quick = record {
    inside = inside;
    apart = λ x y l k o p. apart x l o y k p;
    near = λ c l i. (del_mem (to c) _ (P.neighbours (to (P.parent c))) (R.free c l i)).0;
    vertices = R.vertices;
    edges = R.edges;
    one = one_top;
  }

  pub readout_is_mapping : Mapping P on to
  readout_is_mapping = quick_is_mapping P fpar fdep F on to readout_quick

  pub readout_value : (val : ℕ → ℕ → ℕ → Weight) → Tight P val on to → val t (to t) (to t) ≡ some (weight_of P on to)
  unfolding weight_of OneTop
  readout_value val H = ⊎_elim
      (λ q. absurd (R.root.3 q.0))
      (λ q. ap (val t (to t)) (sym q.1) ∙ H.some_own t R.root.0 R.root.1 ∙ ap some (sym all))
      (own_cases P.parent on to t)
    where
      is_top_lem : T (top P.parent on t)
      is_top_lem = top_of P.parent on t R.root.1 R.root.3

      all : total P.n P.parent on (vertex_w P to) (edge_w P to) ≡ own_v P val on to t
      all = total_eq P.n P.children P.parent P.depth P.rooted on (vertex_w P to) (edge_w P to) (own_v P val on to) H.tight
          ∙ ⊎_elim
          (λ q. absurd (subst T (q.0 t R.root.0) is_top_lem))
          (λ q. q.3 ∙ ap (own_v P val on to) (one_top q.0 t q.1 R.root.0 q.2 is_top_lem))
          (sumℤ_unique P.n (top P.parent on) (own_v P val on to) one_top)

-- at u, the set's partners of u's children are a matching, and it attains u's value
pub record Chosen (P : Instance) (val : ℕ → ℕ → ℕ → Weight) (on : ℕ → Bool) (to : ℕ → ℕ) (u : ℕ) : Type 0 where
  pub z : ℤ
  pub g : ℕ → ℤ
  pub vertex : P.W u (to u) ≡ some z
  pub assign : Assign (branch_w P val u (to u)) (P.children u) (available P (to u) (own_s P.parent on to u)) on to g
  pub value : val u (to u) (own_s P.parent on to u) ≡ some (z +ℤ gain (P.children u) on g)

-- a set with one top whose every vertex chose so
pub record Reads (P : Instance) (val : ℕ → ℕ → ℕ → Weight) (t : ℕ) (on : ℕ → Bool) (to : ℕ → ℕ) : Type 0 where
  pub root : (t < P.n) × T (on t) × (to t < P.m) × ¬ (T (inner P.parent on t))
  pub only : (x : ℕ) → x < P.n → T (on x) → (x ≡ t) ⊎ T (inner P.parent on x)
  pub chosen : (u : ℕ) → u < P.n → T (on u) → Chosen P val on to u

module _ (P : Instance) (val : ℕ → ℕ → ℕ → Weight) (t : ℕ) (on : ℕ → Bool) (to : ℕ → ℕ) (R : Reads P val t on to) where
  at_parent : (c : ℕ) → c < P.n → T (inner P.parent on c) → Chosen P val on to (P.parent c) × T (mem c (P.children (P.parent c))) × T (on c)
  at_parent c l i = let q = of_inner P.parent on c i in
      (R.chosen (P.parent c) (P.rooted.up c l q.1).0 q.2, P.rooted.child_of_lem c l q.1, q.0)

  not_none : (x : Weight) (z : ℤ) → x ≡ some z → x ≢ none
  not_none x z e k = none≢some z (sym k ∙ e)

  pub reads_readout : Readout P t on to
  reads_readout = record {
    root = R.root;
    only = R.only;
    free = λ c l i. let q = at_parent c l i in q.0.assign.free c q.1 q.2;
    apart = λ c d l k i j e. let q = at_parent c l i in let r = at_parent d k j in
        q.0.assign.apart c d q.1 (subst (λ (x : ℕ). T (mem d (P.children x))) (sym e) r.1) q.2 r.2;
    vertices = λ u l o. not_none _ _ (R.chosen u l o).vertex;
    edges = λ c l i. let q = at_parent c l i in let p = plus_some _ _ _ (q.0.assign.weighs c q.1 q.2) in not_none _ _ p.2;
  }

  -- what a child's pair adds
  adds : (u : ℕ) (l : u < P.n) (o : T (on u)) (c : ℕ) → T (mem c (P.children u)) → T (on c) → (R.chosen u l o).g c ≡ edge_w P to c +ℤ own_v P val on to c
  unfolding edge_w own_v num
  adds u l o c m p =
      let h = R.chosen u l o in
      let k = P.rooted.child u c l m in
      let i = inner_of P.parent on c p k.1 (subst (λ (x : ℕ). T (on x)) (sym k.2) o) in
      let q = plus_some (P.E u c (to u) (to c)) (val c (to c) (to u)) (h.g c) (h.assign.weighs c m p) in
      let a = sym (ap num q.2) ∙ sym (ap (λ (x : ℕ). num (P.E x c (to x) (to c))) k.2) in
      let b = sym (ap num q.3) ∙ ap (λ (x : ℕ). num (val c (to c) x)) (sym (own_inner P.parent on to c i ∙ ap to k.2)) in
      q.4 ∙ ap (λ (x : ℤ). x +ℤ q.1) a ∙ ap (λ (x : ℤ). edge_w P to c +ℤ x) b

  pub reads_tight : Tight P val on to
  unfolding vertex_w own_v num
  reads_tight = record {
    some_own = λ u l o. let h = R.chosen u l o in h.value ∙ ap some (sym (ap num h.value));
    tight = λ u l o. let h = R.chosen u l o in
        ap (λ (x : ℤ). x +ℤ lsum (P.children u) (λ c. pick (on c) (edge_w P to c +ℤ own_v P val on to c))) (ap num h.vertex)
        ∙ ap (λ (x : ℤ). h.z +ℤ x) (lsum_ext (P.children u) (λ c. pick (on c) (edge_w P to c +ℤ own_v P val on to c)) (λ c. pick (on c) (h.g c)) (λ c m. pick_eq (on c) _ _ (λ p. sym (adds u l o c m p))))
        ∙ sym (ap num h.value);
  }
