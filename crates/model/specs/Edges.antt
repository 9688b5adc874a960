-- A graph by its edges in order: a i and b i are the ends of edge i. Which vertices the first i edges connect, and the trees they make.
-- Paper 01, item 6 ("already connected by a path of earlier lines") and "root the recorded layout at device 0".
use Rattle.std.specs.Prelude.{◌≡◌, ◌⊎◌, cond, ℕ, zero, suc, ◌+◌, ◌<◌, eqb}

module _ (a b : ℕ → ℕ) where
  -- edge j joins x and y. For joining "which end of a line is written first carries no meaning", also of a directed edge (paper 02, [6])
  abbrev pub Joins : ℕ → ℕ → ℕ → Type 0
  Joins j x y = ((a j ≡ x) × (b j ≡ y)) ⊎ ((a j ≡ y) × (b j ≡ x))

  -- a path by the first i edges
  pub data Walk (i : ℕ) : ℕ → ℕ → Type 0 where
    here : {x : ℕ} → Walk i x x
    go : {x y z : ℕ} (j : ℕ) → j < i → Joins j x y → Walk i y z → Walk i x z

  -- item 6 of edge j: its ends are the same vertex or already connected by a path of earlier edges
  abbrev pub Closes : ℕ → Type 0
  Closes j = (a j ≡ b j) ⊎ Walk j (a j) (b j)

  -- The component of x after i edges, named by one of its vertices: edge i gives the name of its first end's component to its second end's.
  -- Two vertices have the same component exactly if a path by the first i edges joins them (theorems `component_walk`
  -- and `walk_component`).
  unfoldable pub component : ℕ → ℕ → ℕ
  component zero x = x
  component (suc i) x = cond (eqb (component i x) (component i (b i))) (component i (a i)) (component i x)

  -- The parent of x, and its depth, in the tree of r after i edges, rooted at r. Edge i joins two trees: on r's side nothing changes;
  -- the other side hangs by its end of the edge, and below that end it is rooted at that end. The root is its own parent.
  unfoldable pub parent_in : ℕ → ℕ → ℕ → ℕ
  parent_in zero r x = x
  parent_in (suc i) r x =
      cond (eqb (component i x) (component i r))
      (parent_in i r x)
      (cond (eqb (component i x) (component i (b i)))
      (cond (eqb x (b i)) (a i) (parent_in i (b i) x))
      (cond (eqb x (a i)) (b i) (parent_in i (a i) x)))

  unfoldable pub depth_in : ℕ → ℕ → ℕ → ℕ
  depth_in zero r x = 0
  depth_in (suc i) r x =
      cond (eqb (component i x) (component i r))
      (depth_in i r x)
      (cond (eqb (component i x) (component i (b i)))
      (suc (depth_in i r (a i) + depth_in i (b i) x))
      (suc (depth_in i r (b i) + depth_in i (a i) x)))
