-- What a writer leaves: duals of each subproblem, and the bytes of front and records. Assumes nothing.
use Rattle.std.specs.Prelude.{◌≡◌, ◌≢◌, true, List, ℕ, ◌+◌, ◌<◌, length, get_or, ℤ, pos, ◌+ℤ◌}
use Rattle.foundations.specs.Members.{place}
use Rattle.foundations.specs.Sums.{sum}
use Rattle.model.specs.Limits.{degree_limit}
use Rattle.model.specs.Bytes.{byte_at, is_mark}
use Rattle.model.specs.Weights.{none, some}
use Rattle.model.specs.Tree.{count}
use Rattle.model.specs.Graph.{neighbours}
use Rattle.model.specs.Order.{children, u_at, v_at, s_at}
use Rattle.model.specs.Pairs.{vertex_pair}
use Rattle.model.specs.Values.{branch, value_from, recalled}
use Rattle.model.specs.Certificate.{head_mark, partner_mark, record_mark, partner_at, others, record_at, weight_in, value_in, child_dual, other_dual, at_most}

-- Duals of subproblem (u, v, s) over the work numbers: y of u's children and z of v's neighbours, each in its place. The dual of s is 0, so that
-- the sum over all neighbours is that over the others.
pub record DualsAt (table r f : List ℕ) (work : List ℤ) (u v s : ℕ) (y z : List ℕ) : Type 0 where
  pub long : (length y ≡ degree_limit) × (length z ≡ degree_limit)
  pub zeros : vertex_pair table r f u v ≡ none → ((i : ℕ) → i < length (children r u) → get_or y i 0 ≡ 0) × ((j : ℕ) → j < length (neighbours f v) → get_or z j 0 ≡ 0)
  pub own : (j : ℕ) → j < length (neighbours f v) → get_or (neighbours f v) j 0 ≡ s → get_or z j 0 ≡ 0
  pub cover : (w : ℤ) → vertex_pair table r f u v ≡ some w → (i j : ℕ) → i < length (children r u) → j < length (neighbours f v) → get_or (neighbours f v) j 0 ≢ s → at_most (branch table r f (recalled r f work) u v (get_or (children r u) i 0) (get_or (neighbours f v) j 0)) (pos (get_or y i 0 + get_or z j 0)) ≡ true
  pub total : (w : ℤ) → vertex_pair table r f u v ≡ some w → value_from table r f (recalled r f work) u v s ≡ some (w +ℤ pos (sum (length (children r u)) (λ i. get_or y i 0) + sum (length (neighbours f v)) (λ j. get_or z j 0)))

-- Record k of certificate z: the mark, work number k, and duals of the subproblem.
pub record RecordLeft (table r f : List ℕ) (work : List ℤ) (z : List ℕ) (k : ℕ) : Type 0 where
  pub y : List ℕ
  pub x : List ℕ
  pub duals : DualsAt table r f work (u_at r f k) (v_at f k) (s_at f k) y x
  pub mark : is_mark z (record_at r f k) record_mark ≡ true
  pub value : value_in r f z k ≡ get_or work k (pos 0)
  pub of_child : (i : ℕ) → i < length (children r (u_at r f k)) → child_dual r f z k i ≡ pos (get_or y i 0)
  pub of_other : (j : ℕ) → j < length (others f (v_at f k) (s_at f k)) → other_dual r f z k j ≡ pos (get_or x (place (get_or (others f (v_at f k) (s_at f k)) j 0) (neighbours f (v_at f k))) 0)

-- Head and partners of certificate z: the weight w and the n bytes p.
pub record FrontLeft (r f z p : List ℕ) (w : ℤ) : Type 0 where
  pub head : is_mark z 0 head_mark ≡ true
  pub n_is : byte_at z 2 ≡ count r
  pub m_is : byte_at z 3 ≡ count f
  pub weighs : weight_in z ≡ w
  pub marks : (u : ℕ) → u < count r → is_mark z (partner_at u) partner_mark ≡ true
  pub partners : (u : ℕ) → u < count r → byte_at z (partner_at u + 2) ≡ get_or p u 0
