-- The certificate of optimality (the paper's sheet): where its bytes stand, its rules, and the items of its check. Its bounds are duals here.
-- Paper 01, "The sheet" and items 20 to 24.
use Rattle.std.specs.Prelude.{Bool, true, ◌&&◌, not, List, [], ◌∷◌, ◌++◌, ℕ, zero, suc, ◌+◌, ◌*◌, ◌-◌, length, get_or, eqb, ℤ, pos, ◌+ℤ◌}
use Rattle.std.specs.Int.Signed.{le_z}
use Rattle.foundations.specs.Lists.{every, tab}
use Rattle.foundations.specs.Members.{del}
use Rattle.foundations.specs.Sums.{sumℤ}
use Rattle.model.specs.Bytes.{byte_at, is_mark, int32_at}
use Rattle.model.specs.Lengths.{certificate_head_length, partner_length, subproblem_length}
use Rattle.model.specs.Refusals.{Item, item, first_of}
use Rattle.model.specs.Weights.{Weight, none, some, weighed, is_forbidden}
use Rattle.model.specs.Tree.{count}
use Rattle.model.specs.Graph.{neighbours}
use Rattle.model.specs.Order.{children, width, subproblems, index, u_at, v_at, s_at}
use Rattle.model.specs.Pairs.{vertex_pair}
use Rattle.model.specs.Mapping.{weight, mapping_ok}
use Rattle.model.specs.Values.{branch, largest}
use Rattle.model.specs.Calls.{input_items}

-- ---- marks

abbrev pub head_mark : List ℕ
head_mark = 0xC1 ∷ 0x01 ∷ []

abbrev pub partner_mark : List ℕ
partner_mark = 0xC1 ∷ 0x02 ∷ []

abbrev pub record_mark : List ℕ
record_mark = 0xC1 ∷ 0x03 ∷ []

-- ---- the length: "8 + 3n + 6n(3m - 2) + 4(n - 1)(3m - 2) + 4n times the sum of squares" of the found vertices' degrees: the head,
-- the partners, the records of all subproblems as if without duals, then 4 bytes for each dual of a child and for each of a neighbour

unfoldable pub squares : List ℕ → ℕ → ℕ
squares f zero = 0
squares f (suc v) = squares f v + length (neighbours f v) * length (neighbours f v)

unfoldable pub certificate_length : List ℕ → List ℕ → ℕ
certificate_length r f = certificate_head_length + partner_length * count r + subproblem_length 0 0 * subproblems r f + 4 * ((count r - 1) * width f) + 4 * (count r * squares f (count f))

-- ---- where things stand: the head, a partner for each recorded vertex, then the record of each subproblem in order

-- the partner of u, and for u = n, after the last, the first subproblem's record
abbrev pub partner_at : ℕ → ℕ
partner_at u = certificate_head_length + partner_length * u

-- the neighbours of v other than s
abbrev pub others : List ℕ → ℕ → ℕ → List ℕ
others f v s = del s (neighbours f v)

-- the record of subproblem k has a dual for each child of u, one for each neighbour of v other than s
unfoldable pub record_length : List ℕ → List ℕ → ℕ → ℕ
record_length r f k = subproblem_length (length (children r (u_at r f k))) (length (others f (v_at f k) (s_at f k)))

unfoldable pub record_at : List ℕ → List ℕ → ℕ → ℕ
record_at r f zero = partner_at (count r)
record_at r f (suc k) = record_at r f k + record_length r f k

-- "the mapping in a sheet is its n partner bytes, its weight the 4 bytes in its head"
abbrev pub weight_in : List ℕ → ℤ
weight_in z = int32_at z 4

unfoldable pub mapping_in : List ℕ → List ℕ → List ℕ
mapping_in r z = tab (λ u. byte_at z (partner_at u + 2)) (count r)

-- of record k: the value, the dual of the i-th child, that of the j-th neighbour other than s
unfoldable pub value_in : List ℕ → List ℕ → List ℕ → ℕ → ℤ
value_in r f z k = int32_at z (record_at r f k + 2)

unfoldable pub child_dual : List ℕ → List ℕ → List ℕ → ℕ → ℕ → ℤ
child_dual r f z k i = int32_at z (record_at r f k + 6 + 4 * i)

unfoldable pub other_dual : List ℕ → List ℕ → List ℕ → ℕ → ℕ → ℤ
other_dual r f z k j = int32_at z (record_at r f k + 6 + 4 * length (children r (u_at r f k)) + 4 * j)

-- the recorded value of (u, v, s)
unfoldable pub value_of : List ℕ → List ℕ → List ℕ → ℕ → ℕ → ℕ → Weight
value_of r f z u v s = weighed (value_in r f z (index r f u v s))

-- ---- the rules

unfoldable pub eq_z : ℤ → ℤ → Bool
eq_z a b = le_z a b && le_z b a

-- at most y, or left out
unfoldable pub at_most : Weight → ℤ → Bool
at_most none y = true
at_most (some x) y = le_z x y

-- 20: the length, a mark, n or m
unfoldable pub shape_ok : List ℕ → List ℕ → List ℕ → Bool
shape_ok r f z =
    eqb (length z) (certificate_length r f)
    && (is_mark z 0 head_mark
    && (eqb (byte_at z 2) (count r)
    && (eqb (byte_at z 3) (count f)
    && (every (λ u. is_mark z (partner_at u) partner_mark) (count r)
    && every (λ k. is_mark z (record_at r f k) record_mark) (subproblems r f)))))

-- 23: "a record of a forbidden pair has the forbidden value and bounds 0"
unfoldable pub forbidden_ok : List ℕ → List ℕ → List ℕ → ℕ → ℕ → ℕ → ℕ → Bool
forbidden_ok r f z k u v s =
    is_forbidden (value_in r f z k)
    && (every (λ i. eq_z (child_dual r f z k i) (pos 0)) (length (children r u))
    && every (λ j. eq_z (other_dual r f z k j) (pos 0)) (length (others f v s)))

-- "any other has bounds of 0 or more; for each child pair not left out, its two bounds add up to at least line weight plus the child's recorded
-- value; the value is the weight of (u, v) plus all bounds"
unfoldable pub cover_ok : List ℕ → List ℕ → List ℕ → List ℕ → ℕ → ℕ → ℕ → ℕ → ℕ → ℕ → Bool
cover_ok table r f z k u v s i j =
    at_most (branch table r f (value_of r f z) u v (get_or (children r u) i 0) (get_or (others f v s) j 0)) (child_dual r f z k i +ℤ other_dual r f z k j)

unfoldable pub duals_ok : List ℕ → List ℕ → List ℕ → List ℕ → ℕ → ℕ → ℕ → ℕ → ℤ → Bool
duals_ok table r f z k u v s w =
    every (λ i. le_z (pos 0) (child_dual r f z k i)) (length (children r u))
    && (every (λ j. le_z (pos 0) (other_dual r f z k j)) (length (others f v s))
    && (every (λ i. every (cover_ok table r f z k u v s i) (length (others f v s))) (length (children r u))
    && eq_z (value_in r f z k) (w +ℤ (sumℤ (length (children r u)) (child_dual r f z k) +ℤ sumℤ (length (others f v s)) (other_dual r f z k)))))

unfoldable pub pair_ok : List ℕ → List ℕ → List ℕ → List ℕ → ℕ → ℕ → ℕ → ℕ → Weight → Bool
pair_ok table r f z k u v s none = forbidden_ok r f z k u v s
pair_ok table r f z k u v s (some w) = duals_ok table r f z k u v s w

unfoldable pub subproblem_ok : List ℕ → List ℕ → List ℕ → List ℕ → ℕ → Bool
subproblem_ok table r f z k = pair_ok table r f z k (u_at r f k) (v_at f k) (s_at f k) (vertex_pair table r f (u_at r f k) (v_at f k))

-- ---- the items: 21 the mapping breaks a rule (`mapping_ok` decides `IsMapping`), 22 its weight is another, 23 a subproblem's record breaks a rule,
-- 24 the weight is not the greater of 0 and the largest value with s = v

abbrev pub certificate_items : List ℕ → List ℕ → List ℕ → List ℕ → List Item
certificate_items table r f z =
    item 20 (not (shape_ok r f z))
    ∷ item 21 (not (mapping_ok table r f (mapping_in r z)))
    ∷ item 22 (not (eq_z (weight_in z) (weight table r f (mapping_in r z))))
    ∷ item 23 (not (every (subproblem_ok table r f z) (subproblems r f)))
    ∷ item 24 (not (eq_z (weight_in z) (largest r f (value_of r f z))))
    ∷ []

-- checking: the items of every call, 1 to 12 with 25 and 26, then 20 to 24; accepted is 0
unfoldable pub check_of : List ℕ → List ℕ → List ℕ → List ℕ → ℕ
check_of table r f z = first_of (input_items table r f ++ certificate_items table r f z)
