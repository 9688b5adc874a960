-- The rooted tree and the order of the subproblems. Paper 01, "Subproblems and their order".
use Rattle.std.specs.Prelude.{List, [], ◌∷◌, ◌++◌, ℕ, zero, suc, ◌+◌, ◌*◌, ◌-◌, ◌/◌, ◌%◌, ◌&&◌, not, cond, length, get_or, eqb, leb}
use Rattle.foundations.specs.Lists.{below, cat}
use Rattle.foundations.specs.Members.{place}
use Rattle.model.specs.Limits.{vertex_limit}
use Rattle.model.specs.Edges.{parent_in, depth_in}
use Rattle.model.specs.Tree.{count, end_a, end_b}
use Rattle.model.specs.Graph.{edges, joined, neighbours}

-- ---- rooted at vertex 0

-- the parent of v; vertex 0 is its own
unfoldable pub parent : List ℕ → ℕ → ℕ
parent s v = parent_in (end_a s (count s)) (end_b s (count s)) (edges s) 0 v

unfoldable pub depth : List ℕ → ℕ → ℕ
depth s v = depth_in (end_a s (count s)) (end_b s (count s)) (edges s) 0 v

-- the children of v, ascending: its neighbours but its parent
unfoldable pub children : List ℕ → ℕ → List ℕ
children s v = below (λ w. joined s v w && not (eqb w (parent s v))) (count s)

-- the tree below v in postorder, children ascending, to a depth of k
unfoldable pub postorder_from : List ℕ → ℕ → ℕ → List ℕ
postorder_from s zero v = []
postorder_from s (suc k) v = cat (λ w. postorder_from s k w) (children s v) ++ (v ∷ [])

-- no tree is deeper than it has vertices
unfoldable pub postorder : List ℕ → List ℕ
postorder s = postorder_from s vertex_limit 0

-- where u stands in it (not a job's position, which counts subproblems)
unfoldable pub position : List ℕ → ℕ → ℕ
position s u = place u (postorder s)

-- ---- the subproblems (u, v, s) of a recorded tree r and a found tree f

-- the choices of s for v: v itself, then its neighbours ascending
abbrev pub choices : List ℕ → ℕ → List ℕ
choices f v = v ∷ neighbours f v

-- for each u there are 3m - 2, and n(3m - 2) in all
unfoldable pub width : List ℕ → ℕ
width f = 3 * count f - 2

unfoldable pub subproblems : List ℕ → List ℕ → ℕ
subproblems r f = count r * width f

-- where v's begin among those of one u: after those of the vertices before v
unfoldable pub offset : List ℕ → ℕ → ℕ
offset f zero = 0
offset f (suc v) = offset f v + suc (length (neighbours f v))

unfoldable pub slot : List ℕ → ℕ → ℕ → ℕ
slot f v s = place s (choices f v)

-- the number of subproblem (u, v, s): by u in postorder, then v ascending, then s
unfoldable pub index : List ℕ → List ℕ → ℕ → ℕ → ℕ → ℕ
index r f u v s = position r u * width f + (offset f v + slot f v s)

-- ---- back: the u, v and s of subproblem k

-- the last v below n whose subproblems begin at i or before
unfoldable pub vertex_at : List ℕ → ℕ → ℕ → ℕ
vertex_at f i zero = 0
vertex_at f i (suc v) = cond (leb (offset f v) i) v (vertex_at f i v)

unfoldable pub u_at : List ℕ → List ℕ → ℕ → ℕ
u_at r f k = get_or (postorder r) (k / width f) 0

unfoldable pub v_at : List ℕ → ℕ → ℕ
v_at f k = vertex_at f (k % width f) (count f)

unfoldable pub s_at : List ℕ → ℕ → ℕ
s_at f k = get_or (choices f (v_at f k)) ((k % width f) - offset f (v_at f k)) 0
