-- The numbers that the papers fix for tables, trees and weights, each named once for the definitions, and what follows from them. The code has the
-- same in src/lib.rt as far as it uses them (`weights` and `counts` there). The lengths of records stand in `Lengths`, the limit of a job's total in `Jobs`.
use Rattle.std.specs.Prelude.{ℕ, ◌+◌, ◌*◌, ◌-◌, ◌/◌, ◌%◌, ℤ, negsuc}
use Rattle.model.specs.Lengths.{certificate_head_length, partner_length, subproblem_length}

-- a weight is from -weight_limit to weight_limit, either end included, or is the forbidden number -2,147,483,648. Paper 02, [2]
abbrev pub weight_limit : ℕ
weight_limit = 16000000

-- (`negsuc n` is -1 - n)
abbrev pub forbidden_rank : ℕ
forbidden_rank = 2147483647

abbrev pub forbidden : ℤ
forbidden = negsuc forbidden_rank

-- K, the paper's device kinds; L, its line kinds; n, its devices of a layout; its lines of a device
abbrev pub vertex_label_limit : ℕ
vertex_label_limit = 32

abbrev pub edge_label_limit : ℕ
edge_label_limit = 8

-- an edge with this label or a greater one is directed: the paper's flow lines, line kinds 4 to 7, as a label is below edge_label_limit. Paper 02, [6]
abbrev pub directed_from : ℕ
directed_from = 4

abbrev pub vertex_limit : ℕ
vertex_limit = 64

abbrev pub degree_limit : ℕ
degree_limit = 8

-- what stands where there is no vertex: for a vertex without partner, as the paper has it, and in a free place
abbrev pub no_vertex : ℕ
no_vertex = 255

-- ---- what follows from them

-- the most vertices and edges of a tree, 127 (64 and 63)
abbrev pub part_limit : ℕ
part_limit = 2 * vertex_limit - 1

-- no stored value is greater: the greatest weight for each of these, 2,032,000,000. Paper 02, [2]
abbrev pub ceiling : ℕ
ceiling = part_limit * weight_limit

-- the prefix sums over a tree's vertices, 65: of none, of the first, .. of all
abbrev pub prefix_limit : ℕ
prefix_limit = vertex_limit + 1

-- the most pairs of a child of one vertex with a neighbour of another, 64
abbrev pub pair_limit : ℕ
pair_limit = degree_limit * degree_limit

-- the most subproblems of a recorded vertex, 3m - 2, and in all, n(3m - 2): 190 and 12,160
abbrev pub width_limit : ℕ
width_limit = 3 * vertex_limit - 2

abbrev pub subproblem_limit : ℕ
subproblem_limit = vertex_limit * width_limit

-- the greatest stored value plus the greatest weight of an edge, 2,048,000,000. No gain of stored values is greater, and no dual that is written
-- (theorem `dual_fits`); a certificate has four signed bytes for it. The check knows no limit of duals but these bytes
abbrev pub dual_limit : ℕ
dual_limit = ceiling + weight_limit

-- the most that the squares of a tree's degrees add up to, 616 (theorem `squares_most`). The degrees of n vertices, two or more, are 1 each and n - 2 more in
-- all; as many vertices as can have the greatest degree, one has what is left, and the others have 1: eight of degree 8, one of 7 and 55 of 1
abbrev pub hub_limit : ℕ
hub_limit = (vertex_limit - 2) / (degree_limit - 1)

abbrev pub rest_limit : ℕ
rest_limit = (vertex_limit - 2) % (degree_limit - 1) + 1

abbrev pub square_limit : ℕ
square_limit = hub_limit * (degree_limit * degree_limit) + rest_limit * rest_limit + (vertex_limit - hub_limit - 1)

-- the longest certificate, 278,736: `certificate_length` at these (theorem `length_most`)
abbrev pub certificate_limit : ℕ
certificate_limit = certificate_head_length + partner_length * vertex_limit + subproblem_length 0 0 * subproblem_limit + 4 * ((vertex_limit - 1) * width_limit) + 4 * (vertex_limit * square_limit)
