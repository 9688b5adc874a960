-- The lengths by the marks' names: a record that the other definitions know by its mark has the length that they take for it. Assumes nothing.
use Rattle.std.specs.Prelude.{◌≡◌, Bool, List, ℕ, ◌+◌, ◌*◌, Option, Some}
use Rattle.std.proofs.Math.Path.{refl}
use Rattle.std.proofs.Math.Bool.{true, false}
use Rattle.model.specs.Bytes.{byte_at, tree_mark, vertex_mark, serial_mark, edge_mark, table_mark, vertex_row_mark, edge_row_mark}
use Rattle.model.specs.Certificate.{head_mark, partner_mark, record_mark}
use Rattle.model.specs.Lengths.{tree_head_length, vertex_length, edge_length, table_head_length, vertex_row_length, edge_row_length, serial_vertex_length, certificate_head_length, partner_length, subproblem_length, length_by_mark}
use Rattle.model.specs.Table.{vertex_labels, edge_labels, table_length}
use Rattle.model.specs.Tree.{with_serials, vertex_mark_of, vertex_size}

module _ (K L children others : ℕ) where
  -- a record with the mark m
  abbrev of_mark : List ℕ → Option ℕ
  of_mark m = length_by_mark (byte_at m 0) (byte_at m 1) K L children others

  pub tree_head : of_mark tree_mark ≡ Some tree_head_length
  tree_head = refl

  pub vertex : of_mark vertex_mark ≡ Some vertex_length
  vertex = refl

  pub edge : of_mark edge_mark ≡ Some edge_length
  edge = refl

  pub table_head : of_mark table_mark ≡ Some table_head_length
  table_head = refl

  pub vertex_row_lem : of_mark vertex_row_mark ≡ Some (vertex_row_length K)
  vertex_row_lem = refl

  pub edge_row_lem : of_mark edge_row_mark ≡ Some (edge_row_length L)
  edge_row_lem = refl

  pub serial_vertex : of_mark serial_mark ≡ Some serial_vertex_length
  serial_vertex = refl

  pub certificate_head : of_mark head_mark ≡ Some certificate_head_length
  certificate_head = refl

  pub partner : of_mark partner_mark ≡ Some partner_length
  partner = refl

  pub subproblem : of_mark record_mark ≡ Some (subproblem_length children others)
  subproblem = refl

  -- a vertex record of either kind, by the mark that all of its tree have
  pub vertex_of : (s : List ℕ) → of_mark (vertex_mark_of s) ≡ Some (vertex_size s)
  unfolding vertex_mark_of vertex_size
  vertex_of s = go (with_serials s) refl
    where
      go : (b : Bool) → with_serials s ≡ b → of_mark (vertex_mark_of s) ≡ Some (vertex_size s)
      go true e = rw e
      go false e = rw e

-- ---- the papers' length of a table is the sum of its records (of a tree: `long_with`, `long_without` of crates/trees; of a certificate: `length_closed` of
-- crates/certificate)

pub table_closed : (table : List ℕ) → table_length table ≡ 4 + vertex_labels table * (2 + 4 * vertex_labels table) + edge_labels table * (2 + 4 * edge_labels table)
table_closed table = refl
