-- Items 1 to 12, with 25 and 26, together: which part's item a call gets, and what it says that none applies. Assumes nothing.
use Rattle.std.specs.Prelude.{◌≡◌, ◌≢◌, List, ◌++◌, ℕ}
use Rattle.std.proofs.Common.{sym, ◌∙◌, ⊎_elim, arith}
use Rattle.foundations.specs.Tests.{same?}
use Rattle.model.specs.Refusals.{Item}
use Rattle.model.specs.Table.{vertex_labels, edge_labels, table_items, table_item}
use Rattle.model.specs.Tree.{tree_items, tree_item}
use Rattle.model.specs.Calls.{input_items, input_item}
use Rattle.trees.specs.Items.{Numbered, end, more, numbered_append, first_then, first_here}
use Rattle.trees.specs.Accepted.{Passed, Sound, tree_numbered, tree_passed}
use Rattle.formats.specs.Table.{TablePassed, table_passed}

table_numbered : (table : List ℕ) → Numbered (table_items table)
table_numbered table = more {k = 1} (omega arith) (more {k = 2} (omega arith) end)

-- the items of the two trees for a table
abbrev recorded_items : List ℕ → List ℕ → List Item
recorded_items table r = tree_items 3 25 r (vertex_labels table) (edge_labels table)

abbrev found_items : List ℕ → List ℕ → List Item
found_items table f = tree_items 8 26 f (vertex_labels table) (edge_labels table)

module _ (table r f : List ℕ) where
  pub input_table : table_item table ≢ 0 → input_item table r f ≡ table_item table
  unfolding input_item table_item
  input_table h = first_here (table_items table) (recorded_items table r ++ found_items table f) h

  pub input_recorded : table_item table ≡ 0 → tree_item 3 25 r (vertex_labels table) (edge_labels table) ≢ 0 → input_item table r f ≡ tree_item 3 25 r (vertex_labels table) (edge_labels table)
  unfolding input_item table_item tree_item
  input_recorded a h = first_then (recorded_items table r ++ found_items table f) (table_numbered table) a ∙ first_here (recorded_items table r) (found_items table f) h

  pub input_found : table_item table ≡ 0 → tree_item 3 25 r (vertex_labels table) (edge_labels table) ≡ 0 → input_item table r f ≡ tree_item 8 26 f (vertex_labels table) (edge_labels table)
  unfolding input_item table_item tree_item
  input_found a b = first_then (recorded_items table r ++ found_items table f) (table_numbered table) a ∙ first_then (found_items table f) (tree_numbered 3 25 r (vertex_labels table) (edge_labels table) (omega arith) (omega arith)) b

pub input_numbered : (table r f : List ℕ) → Numbered (input_items table r f)
input_numbered table r f =
    numbered_append (table_numbered table) (numbered_append (tree_numbered 3 25 r (vertex_labels table) (edge_labels table) (omega arith) (omega arith)) (tree_numbered 8 26 f (vertex_labels table) (edge_labels table) (omega arith) (omega arith)))

-- ---- no item applies

pub record Accepted (table r f : List ℕ) : Type 0 where
  pub weights : TablePassed table
  pub recorded : Passed r (vertex_labels table) (edge_labels table)
  pub found : Passed f (vertex_labels table) (edge_labels table)

pub input_accepted : (table r f : List ℕ) → input_item table r f ≡ 0 → Accepted table r f
input_accepted table r f h =
    let a : table_item table ≡ 0 = ⊎_elim (λ e. e) (λ n. sym (input_table table r f n) ∙ h) (same? (table_item table) 0) in
    let b : tree_item 3 25 r (vertex_labels table) (edge_labels table) ≡ 0 = ⊎_elim (λ e. e) (λ n. sym (input_recorded table r f a n) ∙ h) (same? (tree_item 3 25 r (vertex_labels table) (edge_labels table)) 0) in
    record { weights = table_passed table a; recorded = tree_passed 3 25 r _ _ (omega arith) (omega arith) b; found = tree_passed 8 26 f _ _ (omega arith) (omega arith) (sym (input_found table r f a b) ∙ h) }

pub accepted_sound : {table r f : List ℕ} → Accepted table r f → Sound r × Sound f
accepted_sound A =
    let few = A.weights.sized.edge_few in
    (record { K = _; L = _; few_labels = few; passed = A.recorded }, record { K = _; L = _; few_labels = few; passed = A.found })

pub input_sound : (table r f : List ℕ) → input_item table r f ≡ 0 → Sound r × Sound f
input_sound table r f h = accepted_sound (input_accepted table r f h)
