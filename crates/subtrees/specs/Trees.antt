-- The trees that items 3 to 12, 25 and 26 let pass: their rooting, their edges one by one, and the instance of the theory that two of them make with
-- any weights. Assumes nothing.
use Rattle.std.specs.Prelude.{◌≡◌, ◌≢◌, Bool, not, ◌&&◌, cond, List, ℕ, ◌<◌, T}
use Rattle.std.proofs.Math.Path.{refl, sym}
use Rattle.std.proofs.Common.{ap, ◌∙◌, subst, true≢false, arith}
use Rattle.std.proofs.Math.Logic.{inl, inr, ⊎_elim}
use Rattle.std.proofs.Math.Bool.{true, false}
use Rattle.std.proofs.Math.Dec.{eqb}
use borrow.Author.Tests.{eqb-true, eqb-false, eq-eqb, ne_eqb}
use Rattle.foundations.specs.Members.{mem}
use Rattle.foundations.specs.Tests.{not_says, and_split}
use Rattle.model.specs.Edges.{Joins}
use Rattle.model.specs.Graph.{edges, joined, neighbours}
use Rattle.model.specs.Order.{parent, depth, children}
use Rattle.model.specs.Tree.{count, end_a, end_b, acyclic}
use Rattle.model.specs.Weights.{Weight}
use Rattle.trees.specs.Accepted.{Ends}
use Rattle.trees.specs.Neighbours.{joined_says, says_joined, adjacent_back, mem_adjacent, adjacent_mem, edge_once}
use Rattle.trees.specs.Rooted.{up_edge, parent_low, depth_deeper, one_above, joined_exactly, child_of_lem, of_child_lem, once_children}
use Rattle.subtrees.specs.Connected.{Joined}
use Rattle.subtrees.specs.Problem.{Instance}
use Rattle.subtrees.specs.Quick.{FoundRooting}
use Rattle.subtrees.specs.Rooted.{RootedTree}

-- what is used of a tree's bytes
pub record IsTree (s : List ℕ) : Type 0 where
  pub ends : Ends s (count s)
  pub loopless : acyclic s (count s) ≡ true

module _ (s : List ℕ) (t : IsTree s) where
  -- ---- joined vertices: the test, the neighbours, the parents

  pub joined_swap : (x y : ℕ) → joined s x y ≡ true → joined s y x ≡ true
  joined_swap x y h = says_joined s (count s) y x (edges s) (adjacent_back s x y (joined_says s (count s) x y (edges s) h))

  pub joined_mem : (v x : ℕ) → joined s v x ≡ true → T (mem x (neighbours s v))
  joined_mem v x h = adjacent_mem s t.ends v x (joined_says s (count s) v x (edges s) h)

  pub mem_joined : (v x : ℕ) → T (mem x (neighbours s v)) → (x < count s) × (joined s v x ≡ true)
  mem_joined v x m = let q = mem_adjacent s v x m in (q.0, says_joined s (count s) v x (edges s) q.1)

  pub up_joined : (x : ℕ) → x < count s → x ≢ 0 → joined s x (parent s x) ≡ true
  up_joined x l z = says_joined s (count s) x (parent s x) (edges s) (up_edge s t.ends t.loopless x l z)

  pub above_of : (x y : ℕ) → joined s x y ≡ true → Joined (parent s) x y
  unfolding Joined
  above_of x y h = ⊎_elim (λ m. inr (m.1, m.0)) (λ m. inl (m.1, m.0)) (one_above s t.ends t.loopless x y (joined_says s (count s) x y (edges s) h))

  pub of_above : (x y : ℕ) → x < count s → y < count s → Joined (parent s) x y → joined s x y ≡ true
  unfolding Joined
  of_above x y lx ly j = (joined_exactly s t.ends t.loopless x y lx ly).1 (⊎_elim (λ m. inr (m.1, m.0)) (λ m. inl (m.1, m.0)) j)

  -- ---- rooted at vertex 0

  pub falls : (c : ℕ) → c < count s → c ≢ 0 → (parent s c < count s) × (depth s (parent s c) < depth s c)
  falls c l z = let d = depth_deeper s t.ends t.loopless c l z in (parent_low s t.ends t.loopless c l z, omega arith)

  pub tree_is_rooted : RootedTree (count s) (children s) (parent s) (depth s)
  tree_is_rooted = record {
    up = falls;
    child = child_of_lem s t.ends t.loopless;
    child_of_lem = of_child_lem s t.ends t.loopless;
    once = once_children s;
  }

-- ---- each edge is the edge from one vertex but the root to its parent

-- c is the lower end of edge j
pub record Hangs (s : List ℕ) (j c : ℕ) : Type 0 where
  pub low : c < count s
  pub not_root : c ≢ 0
  pub joins : Joins (end_a s (count s)) (end_b s (count s)) j c (parent s c)

unfoldable pub lower_end : List ℕ → ℕ → ℕ
lower_end s j = cond (not (eqb (end_a s (count s) j) 0) && eqb (parent s (end_a s (count s) j)) (end_b s (count s) j)) (end_a s (count s) j) (end_b s (count s) j)

module _ (s : List ℕ) (t : IsTree s) where
  pub lower_hangs : (j : ℕ) → j < edges s → Hangs s j (lower_end s j)
  unfolding lower_end
  lower_hangs j l = go (not (eqb (end_a s (count s) j) 0) && eqb (parent s (end_a s (count s) j)) (end_b s (count s) j)) refl
    where
      go : (b : Bool) → (not (eqb (end_a s (count s) j) 0) && eqb (parent s (end_a s (count s) j)) (end_b s (count s) j)) ≡ b → Hangs s j (cond b (end_a s (count s) j) (end_b s (count s) j))
      go true e =
          let q = and_split (not (eqb (end_a s (count s) j) 0)) _ e in
          record {
            low = (t.ends.low j l).0;
            not_root = eqb-false (end_a s (count s) j) 0 (not_says _ q.0);
            joins = inl (refl, sym (eqb-true (parent s (end_a s (count s) j)) (end_b s (count s) j) q.1));
          }
      go false e = ⊎_elim
          (λ m. absurd (true≢false (rw (ne_eqb (end_a s (count s) j) 0 m.1, eq-eqb (parent s (end_a s (count s) j)) (end_b s (count s) j) m.0) at e)))
          (λ m. record { low = (t.ends.low j l).1; not_root = m.1; joins = inr (sym m.0, refl) })
          (one_above s t.ends t.loopless (end_a s (count s) j) (end_b s (count s) j) (j, l, inl (refl, refl)))

  pub lower_once : (i j : ℕ) → i < edges s → j < edges s → lower_end s i ≡ lower_end s j → i ≡ j
  lower_once i j li lj e = edge_once s t.loopless i j (lower_end s j) (parent s (lower_end s j)) li lj (subst (λ (c : ℕ). Joins (end_a s (count s)) (end_b s (count s)) i c (parent s c)) e (lower_hangs i li).joins) (lower_hangs j lj).joins

  hangs_once : (j c d : ℕ) → Hangs s j c → Hangs s j d → c ≡ d
  hangs_once j c d h k = go h.joins k.joins
    where
      off : d ≡ parent s c → parent s d ≡ c → c ≡ d
      off p q =
          let a = (falls s t c h.low h.not_root).1 in
          let b = (falls s t d k.low k.not_root).1 in
          let e : depth s d ≡ depth s (parent s c) = ap (depth s) p in
          let f : depth s (parent s d) ≡ depth s c = ap (depth s) q in
          absurd (omega arith)

      go : Joins (end_a s (count s)) (end_b s (count s)) j c (parent s c) → Joins (end_a s (count s)) (end_b s (count s)) j d (parent s d) → c ≡ d
      go (inl x) (inl y) = sym x.0 ∙ y.0
      go (inl x) (inr y) = off (sym y.1 ∙ x.1) (sym y.0 ∙ x.0)
      go (inr x) (inl y) = off (sym y.0 ∙ x.0) (sym y.1 ∙ x.1)
      go (inr x) (inr y) = sym x.1 ∙ y.1

  pub lower_all : (c : ℕ) → c < count s → c ≢ 0 → (j : ℕ) × (j < edges s) × (lower_end s j ≡ c)
  lower_all c l z =
      let q = up_edge s t.ends t.loopless c l z in
      (q.0, q.1, hangs_once q.0 (lower_end s q.0) c (lower_hangs q.0 q.1) (record { low = l; not_root = z; joins = q.2 }))

-- ---- two trees and any weights

module _ (r f : List ℕ) (tr : IsTree r) (tf : IsTree f) (W : ℕ → ℕ → Weight) (E : ℕ → ℕ → ℕ → ℕ → Weight) where
  abbrev pub instance_of : Instance
  instance_of = record {
    n = count r;
    m = count f;
    children = children r;
    parent = parent r;
    depth = depth r;
    rooted = tree_is_rooted r tr;
    neighbours = neighbours f;
    symmetric = λ v x l m. let q = mem_joined f tf v x m in (q.0, joined_mem f tf x v (joined_swap f tf v x q.1));
    W = W;
    E = E;
  }

  pub found_rooting : FoundRooting instance_of (parent f) (depth f)
  found_rooting = record {
    falls = falls f tf;
    edge = λ v x lv lx. (λ m. above_of f tf v x (mem_joined f tf v x m).1, λ j. joined_mem f tf v x (of_above f tf v x lv lx j));
  }
