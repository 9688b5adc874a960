-- What is known of a weight table that passes items 1 and 2; its length and its two blocks of rows. Assumes nothing.
use Rattle.std.specs.Prelude.{◌≡◌, refl, Bool, true, false, not, cond, ◌&&◌, List, ℕ, suc, ◌+◌, ◌*◌, ◌≤◌, ◌<◌, ◌^◌, length, eqb, leb}
use Rattle.std.proofs.Common.{sym, ◌∙◌, arith, suc-mul, mul-le-mul, mul-le-mul_right, eqb-true, leb-true}
use Rattle.std.proofs.Math.ListN.{get_or-eq_default}
use Rattle.foundations.specs.Tests.{and_split, and_false, cond_zero}
use Rattle.foundations.specs.Lists.{every, every_at}
use Rattle.model.specs.Limits.{vertex_label_limit, edge_label_limit}
use Rattle.model.specs.Bytes.{int32_at}
use Rattle.model.specs.Weights.{weight_ok}
use Rattle.model.specs.Refusals.{first_of}
use Rattle.model.specs.Lengths.{table_head_length, vertex_row_length, edge_row_length}
use Rattle.model.specs.Table.{vertex_labels, edge_labels, vertex_row, edge_row, table_length, column, table_sized, table_marked, row_ok, weights_ok, table_item}
use Rattle.formats.specs.declared.table.Block.{Block}

-- ---- lengths: the products, which `omega` takes as they stand

-- k rows of w bytes: k is a byte, and no row has 2^16 bytes
pub rows_small : (k w : ℕ) → k < 256 → w < 2 ^ 16 → k * w < 2 ^ 24
rows_small k w h l = let a : k ≤ 255 = omega arith in let b : w ≤ 65535 = omega arith in let p : k * w ≤ 255 * 65535 = mul-le-mul a b in omega arith

-- where the edge rows of a table of k vertex labels start
pub record EdgeRowsStart (k r : ℕ) : Type 0 where
  pub is : r ≡ table_head_length + k * vertex_row_length k
  pub small : r < table_head_length + 2 ^ 24

-- the length of a table of k vertex labels and l edge labels
abbrev pub table_size : ℕ → ℕ → ℕ
table_size k l = table_head_length + k * vertex_row_length k + l * edge_row_length l

-- ---- blocks of rows

abbrev pub vertex_block : List ℕ → Block
vertex_block table = record { start = table_head_length; rows = vertex_labels table; row = vertex_row_length (vertex_labels table) }

abbrev pub edge_block : List ℕ → Block
edge_block table = record { start = vertex_row table (vertex_labels table); rows = edge_labels table; row = edge_row_length (edge_labels table) }

-- where row i starts
abbrev pub row_start : Block → ℕ → ℕ
row_start b i = b.start + i * b.row

-- row i starts at r, and ends where the block does or before
pub record RowAt (b : Block) (i r : ℕ) : Type 0 where
  pub is : r ≡ row_start b i
  pub room : r + b.row ≤ row_start b b.rows

pub row_end_lem : (b : Block) (i : ℕ) → i < b.rows → row_start b i + b.row ≤ row_start b b.rows
row_end_lem b i h = let e = suc-mul i b.row in let l : suc i * b.row ≤ b.rows * b.row = mul-le-mul_right b.row h in omega arith

-- the table holds the block, and each row the weights, as many as there are rows
pub record BlockIn (table : List ℕ) (b : Block) : Type 0 where
  pub inside : row_start b b.rows ≤ length table
  pub wide : column 0 b.rows ≤ b.row

-- ---- a table that passes

-- the head's numbers and the length are right
pub record TableSized (table : List ℕ) : Type 0 where
  pub vertex_some : 1 ≤ vertex_labels table
  pub vertex_few : vertex_labels table ≤ vertex_label_limit
  pub edge_some : 1 ≤ edge_labels table
  pub edge_few : edge_labels table ≤ edge_label_limit
  pub long : length table ≡ table_length table

-- and every entry is forbidden or within the limit
pub record TablePassed (table : List ℕ) : Type 0 where
  pub sized : TableSized table
  pub vertex_ok_lem : (i j : ℕ) → i < vertex_labels table → j < vertex_labels table → weight_ok (int32_at table (column (vertex_row table i) j)) ≡ true
  pub edge_ok_lem : (i j : ℕ) → i < edge_labels table → j < edge_labels table → weight_ok (int32_at table (column (edge_row table i) j)) ≡ true

-- the weights of the vertex rows stand in it
pub row_inside : {table : List ℕ} → TableSized table → (i j : ℕ) → i < vertex_labels table → j < vertex_labels table → column (vertex_row table i) (j + 1) ≤ length table
row_inside {table} S i j hi hj = let e = row_end_lem (vertex_block table) i hi in let l = S.long in omega arith

-- and so do those of the edge rows
pub edge_row_inside : {table : List ℕ} → TableSized table → (i j : ℕ) → i < edge_labels table → j < edge_labels table → column (edge_row table i) (j + 1) ≤ length table
edge_row_inside {table} S i j hi hj = let e = row_end_lem (edge_block table) i hi in let l = S.long in omega arith

pub sized_says : (table : List ℕ) → table_sized table ≡ true → TableSized table
unfolding table_sized
sized_says table h =
    let p = and_split (leb 1 (vertex_labels table) && leb (vertex_labels table) vertex_label_limit) _ h in
    let q = and_split (leb 1 (edge_labels table) && leb (edge_labels table) edge_label_limit) (eqb (length table) (table_length table)) p.1 in
    let k = and_split (leb 1 (vertex_labels table)) (leb (vertex_labels table) vertex_label_limit) p.0 in
    let l = and_split (leb 1 (edge_labels table)) (leb (edge_labels table) edge_label_limit) q.0 in
    record {
      vertex_some = leb-true 1 (vertex_labels table) k.0;
      vertex_few = leb-true (vertex_labels table) vertex_label_limit k.1;
      edge_some = leb-true 1 (edge_labels table) l.0;
      edge_few = leb-true (edge_labels table) edge_label_limit l.1;
      long = eqb-true (length table) (table_length table) q.1;
    }

-- no room for the head: L is 0
pub short_head : (table : List ℕ) → length table < table_head_length → false ≡ table_sized table
unfolding table_sized
short_head table h = rw (get_or-eq_default table 0 {n = 3} (omega arith)) (sym (and_false (leb 1 (vertex_labels table) && leb (vertex_labels table) vertex_label_limit)))

-- the items in their order, as a chain of tests
pub table_item_chain : (table : List ℕ) → table_item table ≡ cond (table_sized table) (cond (table_marked table) (cond (weights_ok table) 0 2) 1) 1
unfolding table_item first_of
table_item_chain table = go (table_sized table) (table_marked table) (weights_ok table)
  where
    go : (a b d : Bool) → ◌≡◌ {A = ℕ} (cond (not (a && b)) 1 (cond (not d) 2 0)) (cond a (cond b (cond d 0 2) 1) 1)
    go true true true = refl
    go true true false = refl
    go true false d = refl
    go false b d = refl

-- every weight of a block
entries : (table : List ℕ) (b : Block) → every (λ i. row_ok table (row_start b i) b.rows) b.rows ≡ true → (i j : ℕ) → i < b.rows → j < b.rows → weight_ok (int32_at table (column (row_start b i) j)) ≡ true
unfolding row_ok
entries table b h i j li lj = every_at (λ j. weight_ok (int32_at table (column (row_start b i) j))) j b.rows (every_at (λ i. row_ok table (row_start b i) b.rows) i b.rows h li) lj

pub table_passed : (table : List ℕ) → table_item table ≡ 0 → TablePassed table
unfolding weights_ok
table_passed table h =
    let p = cond_zero (table_sized table) (cond (table_marked table) (cond (weights_ok table) 0 2) 1) 0 (sym (table_item_chain table) ∙ h) in
    let q = cond_zero (table_marked table) (cond (weights_ok table) 0 2) 0 p.1 in
    let r = cond_zero (weights_ok table) 0 1 q.1 in
    let w = and_split (every (λ i. row_ok table (vertex_row table i) (vertex_labels table)) (vertex_labels table)) _ r.0 in
    record {
      sized = sized_says table p.0;
      vertex_ok_lem = entries table (vertex_block table) w.0;
      edge_ok_lem = entries table (edge_block table) w.1;
    }
