-- The problem over any weights and rooted trees: mappings, their weight, the subproblems, and what is asked of their values.
-- Definitions only; `instance_of` in Trees.antt makes an instance of two trees' bytes. Assumes nothing.
use Rattle.std.specs.Prelude.{◌≡◌, ◌≢◌, ◌↔◌, Bool, List, ◌∷◌, ℕ, ◌<◌, ℤ, ◌+ℤ◌, T}
use Rattle.foundations.specs.Members.{mem, mem_here, mem_there, del}
use Rattle.model.specs.Mapping.{num}
use Rattle.model.specs.Values.{best}
use Rattle.model.specs.Weights.{Weight, none, some, ◌⊑◌, plus_w}
use Rattle.subtrees.specs.Connected.{Joined, ConnectedSet}
use Rattle.subtrees.specs.Matching.{Assign, gain}
use Rattle.subtrees.specs.Rooted.{RootedTree, inner, total}

-- ---- an instance: the recorded tree rooted at 0, the found one by its lists of neighbours, the weights of vertex pairs and edge pairs

pub record Instance : Type 0 where
  pub n : ℕ
  pub m : ℕ
  pub children : ℕ → List ℕ
  pub parent : ℕ → ℕ
  pub depth : ℕ → ℕ
  pub rooted : RootedTree n children parent depth
  pub neighbours : ℕ → List ℕ
  pub symmetric : (v v' : ℕ) → v < m → T (mem v' (neighbours v)) → (v' < m) × T (mem v (neighbours v'))
  pub W : ℕ → ℕ → Weight
  pub E : ℕ → ℕ → ℕ → ℕ → Weight

-- ---- a mapping: `on u` says that u has a partner, `to u` is it

pub record Mapping (P : Instance) (on : ℕ → Bool) (to : ℕ → ℕ) : Type 0 where
  pub inside : (u : ℕ) → u < P.n → T (on u) → to u < P.m
  pub apart : (u x : ℕ) → u < P.n → x < P.n → T (on u) → T (on x) → to u ≡ to x → u ≡ x
  pub joins : (u x : ℕ) → u < P.n → x < P.n → T (on u) → T (on x) → Joined P.parent u x ↔ T (mem (to x) (P.neighbours (to u)))
  pub vertices : (u : ℕ) → u < P.n → T (on u) → P.W u (to u) ≢ none
  pub edges : (c : ℕ) → c < P.n → T (inner P.parent on c) → P.E (P.parent c) c (to (P.parent c)) (to c) ≢ none
  pub connected : ConnectedSet P.n P.parent on

unfoldable pub vertex_w : (P : Instance) → (ℕ → ℕ) → ℕ → ℤ
vertex_w P to u = num (P.W u (to u))

unfoldable pub edge_w : (P : Instance) → (ℕ → ℕ) → ℕ → ℤ
edge_w P to c = num (P.E (P.parent c) c (to (P.parent c)) (to c))

-- its weight: the sum over vertex pairs and edge pairs
unfoldable pub weight_of : (P : Instance) → (ℕ → Bool) → (ℕ → ℕ) → ℤ
weight_of P on to = total P.n P.parent on (vertex_w P to) (edge_w P to)

-- ---- the subproblems (u, v, s): s is v or a neighbour of v

unfoldable pub Choice : Instance → ℕ → ℕ → Type 0
Choice P v s = T (mem s (v ∷ P.neighbours v))

pub choice_self : (P : Instance) (v s : ℕ) → s ≡ v → Choice P v s
unfolding Choice
choice_self P v s e = rw e (mem_here v (P.neighbours v))

pub choice_near : (P : Instance) (v s : ℕ) → T (mem s (P.neighbours v)) → Choice P v s
unfolding Choice
choice_near P v s t = mem_there s v (P.neighbours v) t

-- the weight of the branch pair (c, v') under (u, v)
abbrev pub branch_w : (P : Instance) → (ℕ → ℕ → ℕ → Weight) → ℕ → ℕ → ℕ → ℕ → Weight
branch_w P val u v c v' = plus_w (P.E u c v v') (val c v' v)

abbrev pub available : (P : Instance) → ℕ → ℕ → List ℕ
available P v s = del s (P.neighbours v)

-- values that solve the subproblems, each from those of the children
pub record Solved (P : Instance) (val : ℕ → ℕ → ℕ → Weight) : Type 0 where
  pub is : (u v s : ℕ) → u < P.n → v < P.m → Choice P v s → val u v s ≡ plus_w (P.W u v) (best (branch_w P val u v) (P.children u) (available P v s))

-- all that the bound asks of values: no assignment of the children weighs more. Solved values are such, and a certificate's are.
pub record Bounding (P : Instance) (val : ℕ → ℕ → ℕ → Weight) : Type 0 where
  pub over : (u v s : ℕ) → u < P.n → v < P.m → Choice P v s → (z : ℤ) → P.W u v ≡ some z → (on : ℕ → Bool) (to : ℕ → ℕ) (g : ℕ → ℤ) → Assign (branch_w P val u v) (P.children u) (available P v s) on to g → some (z +ℤ gain (P.children u) on g) ⊑ val u v s
