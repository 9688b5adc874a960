-- Mappings, their weight, and the heaviest. Paper 01, "The mapping"; which pairs are forbidden also by paper 02, [3] and [6].
use Rattle.std.specs.Prelude.{◌≡◌, ◌≢◌, Bool, true, false, not, ◌&&◌, ◌||◌, List, ℕ, ◌<◌, length, T, eqb, ltb, leb, ℤ, pos, ◌+ℤ◌, ◌≤ℤ◌}
use Rattle.foundations.specs.Lists.{every}
use Rattle.foundations.specs.Counting.{cnt}
use Rattle.foundations.specs.Sums.{sumℤ, pick}
use Rattle.model.specs.Limits.{no_vertex}
use Rattle.model.specs.Bytes.{byte_at}
use Rattle.model.specs.Weights.{Weight, none, some}
use Rattle.model.specs.Tree.{count, end_a, end_b}
use Rattle.model.specs.Graph.{edges, joined}
use Rattle.model.specs.Order.{parent}
use Rattle.model.specs.Pairs.{vertex_pair, edge_pair}

-- ---- a mapping is given as n bytes: the partner of each recorded vertex, or 255 for none

abbrev pub partner : List ℕ → ℕ → ℕ
partner p u = byte_at p u

unfoldable pub mapped : List ℕ → ℕ → Bool
mapped p u = not (eqb (partner p u) no_vertex)

-- u is a recorded vertex that has a partner; v is the partner of one
abbrev pub Mapped : List ℕ → List ℕ → ℕ → Type 0
Mapped recorded p u = (u < count recorded) × T (mapped p u)

abbrev pub Taken : List ℕ → List ℕ → ℕ → Type 0
Taken recorded p v = (u : ℕ) × Mapped recorded p u × (partner p u ≡ v)

-- a walk from x along edges of the tree s that never leaves the set S
pub data WalkIn (s : List ℕ) (S : ℕ → Type 0) (x : ℕ) : ℕ → Type 0 where
  stay : S x → WalkIn s S x x
  move : {y z : ℕ} → WalkIn s S x y → joined s y z ≡ true → S z → WalkIn s S x z

abbrev pub Connected : List ℕ → (ℕ → Type 0) → Type 0
Connected s S = (x y : ℕ) → S x → S y → WalkIn s S x y

-- "pairs some recorded devices, or none, with as many different found ones. Both sets are connected; two mapped devices are joined
-- exactly if their partners are; no device pair or line pair is forbidden." (By the table, by serials or by directions: `Pairs`.)
pub record IsMapping (table recorded found p : List ℕ) : Type 0 where
  pub long : length p ≡ count recorded
  pub inside : (u : ℕ) → Mapped recorded p u → partner p u < count found
  pub different : (u x : ℕ) → Mapped recorded p u → Mapped recorded p x → partner p u ≡ partner p x → u ≡ x
  pub recorded_connected : Connected recorded (Mapped recorded p)
  pub found_connected : Connected found (Taken recorded p)
  pub joined_alike : (u x : ℕ) → Mapped recorded p u → Mapped recorded p x → joined recorded u x ≡ joined found (partner p u) (partner p x)
  pub vertex_allowed : (u : ℕ) → Mapped recorded p u → vertex_pair table recorded found u (partner p u) ≢ none
  pub edge_allowed : (u x : ℕ) → Mapped recorded p u → Mapped recorded p x → joined recorded u x ≡ true → edge_pair table recorded found u x (partner p u) (partner p x) ≢ none

-- ---- "its weight is the sum over device pairs and line pairs"

-- a weight as a number; 0 stands for the forbidden one, which no mapping has
unfoldable pub num : Weight → ℤ
num none = pos 0
num (some z) = z

unfoldable pub vertex_pairs : List ℕ → List ℕ → List ℕ → List ℕ → ℤ
vertex_pairs table recorded found p = sumℤ (count recorded) (λ u. pick (mapped p u) (num (vertex_pair table recorded found u (partner p u))))

-- the pair of the recorded edge with ends a and b
abbrev pub edge_term : List ℕ → List ℕ → List ℕ → List ℕ → ℕ → ℕ → ℤ
edge_term table recorded found p a b = pick (mapped p a && mapped p b) (num (edge_pair table recorded found a b (partner p a) (partner p b)))

unfoldable pub edge_pairs : List ℕ → List ℕ → List ℕ → List ℕ → ℤ
edge_pairs table recorded found p = sumℤ (edges recorded) (λ j. edge_term table recorded found p (end_a recorded (count recorded) j) (end_b recorded (count recorded) j))

unfoldable pub weight : List ℕ → List ℕ → List ℕ → List ℕ → ℤ
weight table recorded found p = vertex_pairs table recorded found p +ℤ edge_pairs table recorded found p

-- it is heaviest if every other mapping of the two trees weighs at most as much; the empty one is a mapping (theorem `empty_mapping`)
pub record Heaviest (table recorded found p : List ℕ) : Type 0 where
  pub mapping : IsMapping table recorded found p
  pub most : (q : List ℕ) → IsMapping table recorded found q → weight table recorded found q ≤ℤ weight table recorded found p

-- ---- a test without paths, which decides `IsMapping` for accepted trees (theorem `quick_mapping`)

unfoldable pub allowed : Weight → Bool
allowed none = false
allowed (some z) = true

-- u has a parent, and the parent is mapped
unfoldable pub parent_mapped : List ℕ → List ℕ → ℕ → Bool
parent_mapped recorded p u = not (eqb u 0) && mapped p (parent recorded u)

-- u is not mapped; or its partner is a found vertex, that of no vertex before u, and the pair is allowed
unfoldable pub vertex_ok : List ℕ → List ℕ → List ℕ → List ℕ → ℕ → Bool
vertex_ok table recorded found p u =
    not (mapped p u)
    || (ltb (partner p u) (count found)
    && (every (λ x. not (eqb (partner p x) (partner p u))) u
    && allowed (vertex_pair table recorded found u (partner p u))))

-- where u and its parent w are mapped, their partners are joined, and the pair of edges is allowed
unfoldable pub edge_ok : List ℕ → List ℕ → List ℕ → List ℕ → ℕ → ℕ → Bool
edge_ok table recorded found p u w =
    not (mapped p u && parent_mapped recorded p u)
    || (joined found (partner p w) (partner p u)
    && allowed (edge_pair table recorded found w u (partner p w) (partner p u)))

-- u is mapped and no parent of it is
unfoldable pub is_top : List ℕ → List ℕ → ℕ → Bool
is_top recorded p u = mapped p u && not (parent_mapped recorded p u)

unfoldable pub mapping_ok : List ℕ → List ℕ → List ℕ → List ℕ → Bool
mapping_ok table recorded found p =
    eqb (length p) (count recorded)
    && (every (vertex_ok table recorded found p) (count recorded)
    && (every (λ u. edge_ok table recorded found p u (parent recorded u)) (count recorded)
    && leb (cnt (is_top recorded p) (count recorded)) 1))
