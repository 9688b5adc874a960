-- An accepted tree, rooted: parent and depth, joined exactly if one is the other's parent, every vertex reached; the children. Assumes nothing.
use Rattle.std.specs.Prelude.{◌≡◌, refl, ◌⊎◌, ◌≢◌, ◌↔◌, false, ◌&&◌, ℕ, suc, ◌<◌}
use Rattle.std.proofs.Common.{sym, ap, ◌∙◌, inl, inr, ⊎_elim, arith}
use Rattle.std.proofs.Math.Path.{subst}
use Rattle.std.proofs.Math.Bool.{true, not}
use mathlib.Core.List.{List}
use Rattle.std.proofs.Math.Decide.{ℕ_discrete}
use Rattle.std.proofs.Math.Dec.{T, eqb}
use borrow.Author.Tests.{eqb-true, eqb-false, eq-eqb, ne_eqb}
use Rattle.foundations.specs.Tests.{same_test, and_split, and_both, not_says, not_T→false}
use Rattle.foundations.specs.Lists.{below, below_ext}
use Rattle.foundations.specs.Members.{mem, Distinct, mem_below, below_mem, distinct_below}
use Rattle.model.specs.Edges.{parent_in, depth_in}
use Rattle.model.specs.Tree.{count, end_a, end_b, acyclic}
use Rattle.model.specs.Graph.{edges, joined, neighbours}
use Rattle.model.specs.Order.{parent, depth, children}
use Rattle.trees.specs.Rooting.{Rooted, rooted, climb}
use Rattle.trees.specs.Accepted.{Ends, acyclic_fresh}
use Rattle.trees.specs.Neighbours.{Adjacent, adjacent_low, adjacent_back, joined_says, says_joined, mem_adjacent}
use Rattle.trees.specs.Postorder.{child, child_says, depth_low}

-- rooted at any vertex
pub tree_rooted : (s : List ℕ) (r : ℕ) → Ends s (count s) → acyclic s (count s) ≡ true → r < count s → Rooted (end_a s (count s)) (end_b s (count s)) (count s) r (parent_in (end_a s (count s)) (end_b s (count s)) (edges s) r) (depth_in (end_a s (count s)) (end_b s (count s)) (edges s) r)
tree_rooted s r e t l = rooted (end_a s (count s)) (end_b s (count s)) (count s) r l e.low (acyclic_fresh s (count s) t)

-- rooted at vertex 0
module _ (s : List ℕ) (e : Ends s (count s)) (t : acyclic s (count s) ≡ true) where
  pub root : Rooted (end_a s (count s)) (end_b s (count s)) (count s) 0 (parent s) (depth s)
  unfolding parent depth
  root = tree_rooted s 0 e t e.some

  pub up_edge : (x : ℕ) → x < count s → x ≢ 0 → Adjacent s x (parent s x)
  up_edge x l z = root.up_edge x l z

  pub parent_low : (x : ℕ) → x < count s → x ≢ 0 → parent s x < count s
  parent_low x l z = root.low x l z

  pub depth_deeper : (x : ℕ) → x < count s → x ≢ 0 → depth s x ≡ suc (depth s (parent s x))
  depth_deeper x l z = root.deeper x l z

  pub depth_root : depth s 0 ≡ 0
  depth_root = root.root

  pub depth_count : (x : ℕ) → x < count s → depth s x < count s
  depth_count x l = depth_low (count s) (parent s) (depth s) parent_low depth_deeper depth_root x l

  pub root_parent : parent s 0 ≡ 0
  root_parent = root.top

  -- every vertex is reached: as many steps up as its depth lead to the root
  pub root_reached : (x : ℕ) → x < count s → climb (parent s) (depth s x) x ≡ 0
  root_reached x l = root.reached x l

  -- of two joined vertices one is the other's parent
  pub one_above : (x y : ℕ) → Adjacent s x y → ((parent s x ≡ y) × (x ≢ 0)) ⊎ ((parent s y ≡ x) × (y ≢ 0))
  one_above x y a = root.only x y (adjacent_low s e x y a).0 a

  pub joined_exactly : (x y : ℕ) → x < count s → y < count s → (joined s x y ≡ true) ↔ (((parent s x ≡ y) × (x ≢ 0)) ⊎ ((parent s y ≡ x) × (y ≢ 0)))
  joined_exactly x y lx ly = (
    λ h. one_above x y (joined_says s (count s) x y (edges s) h),
    λ h. says_joined s (count s) x y (edges s)
        (⊎_elim (λ m. subst (λ (z : ℕ). Adjacent s x z) m.0 (up_edge x lx m.1))
        (λ m. adjacent_back s y x (subst (λ (z : ℕ). Adjacent s y z) m.0 (up_edge y ly m.1))) h),
  )

  pub no_self : (v : ℕ) → v < count s → mem v (neighbours s v) ≡ false
  no_self v l = not_T→false _ (λ m. ⊎_elim (λ q. off q.0 q.1) (λ q. off q.0 q.1) (one_above v v (mem_adjacent s v v m).1))
    where
      off : parent s v ≡ v → v ≢ 0 → ⊥
      off q z = let d = depth_deeper v l z in let r : depth s (parent s v) ≡ depth s v = ap (depth s) q in omega arith

  -- the neighbours but the parent are those of which v is the parent
  child_test : (v w : ℕ) → v < count s → w < count s → (joined s v w && not (eqb w (parent s v))) ≡ child (parent s) v w
  unfolding child
  child_test v w lv lw = same_test _ _ down up
    where
      down : (joined s v w && not (eqb w (parent s v))) ≡ true → (not (eqb w 0) && eqb (parent s w) v) ≡ true
      down h = pick (one_above v w (joined_says s (count s) v w (edges s) (and_split (joined s v w) _ h).0))
        where
          off : w ≢ parent s v
          off = eqb-false w (parent s v) (not_says _ (and_split (joined s v w) (not (eqb w (parent s v))) h).1)

          pick : ((parent s v ≡ w) × (v ≢ 0)) ⊎ ((parent s w ≡ v) × (w ≢ 0)) → (not (eqb w 0) && eqb (parent s w) v) ≡ true
          pick (inl m) = absurd (off (sym m.0))
          pick (inr m) = rw (ne_eqb w 0 m.1, eq-eqb (parent s w) v m.0)

      up : (not (eqb w 0) && eqb (parent s w) v) ≡ true → (joined s v w && not (eqb w (parent s v))) ≡ true
      up h = and_both _ _ ((joined_exactly v w lv lw).1 (inr (q, z))) (rw (ne_eqb w (parent s v) off))
        where
          z : w ≢ 0
          z = eqb-false w 0 (not_says _ (and_split (not (eqb w 0)) (eqb (parent s w) v) h).0)

          q : parent s w ≡ v
          q = eqb-true (parent s w) v (and_split (not (eqb w 0)) (eqb (parent s w) v) h).1

          d : depth s w ≡ suc (depth s v)
          d = depth_deeper w lw z ∙ ap (λ (y : ℕ). suc (depth s y)) q

          off : w ≢ parent s v
          off r = pick (ℕ_discrete v 0)
            where
              pick : Dec (v ≡ 0) → ⊥
              pick (yes v0) = z (r ∙ ap (parent s) v0 ∙ root_parent)
              pick (no v0) = let a = depth_deeper v lv v0 in let b : depth s w ≡ depth s (parent s v) = ap (depth s) r in omega (arith, d)

  pub children_is : (v : ℕ) → v < count s → children s v ≡ below (child (parent s) v) (count s)
  unfolding children
  children_is v l = below_ext _ _ (count s) (λ w lw. child_test v w l lw)

  -- a child is a vertex below its parent; each vertex but the root is a child of its parent, and a list of children has none twice
  pub child_of_lem : (v c : ℕ) → v < count s → T (mem c (children s v)) → (c < count s) × (c ≢ 0) × (parent s c ≡ v)
  child_of_lem v c l m =
      let q = mem_below (child (parent s) v) (count s) c (subst (λ (z : List ℕ). T (mem c z)) (children_is v l) m) in
      let r = child_says (parent s) v c q.1 in
      (q.0, r.0, r.1)

  pub of_child_lem : (c : ℕ) → c < count s → c ≢ 0 → T (mem c (children s (parent s c)))
  unfolding child
  of_child_lem c l z = subst (λ (y : List ℕ). T (mem c y)) (sym (children_is (parent s c) (parent_low c l z))) (below_mem (child (parent s) (parent s c)) (count s) c l (rw (ne_eqb c 0 z, eq-eqb (parent s c) (parent s c) refl)))

pub once_children : (s : List ℕ) (v : ℕ) → Distinct (children s v)
unfolding children
once_children s v = distinct_below _ (count s)
