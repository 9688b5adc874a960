-- `input_item` tests the table, then the recorded tree, then the found tree, each only if the parts before it pass. Assumes nothing.
use mathlib.Core.Path.{◌≡◌, sym, ◌∙◌}
use Rattle.std.specs.Prelude.{Result, Ok, Err, MatchResult, IsErrAnd}
use borrow.Author.Rules.{rules}
use Rattle.model.proofs.Refusals.{sent_on, as_recorded, as_found}
use Rattle.model.specs.declared.refusal.TreeFault.{TreeFault}
use Rattle.model.specs.declared.refusal.Refusal.{Refusal}
use Rattle.model.specs.declared.refusal.Refusal.TheVariants.{Found}
use Rattle.model.specs.Refusals.{Answer, item_number, refusal_in, fault_in}
use Rattle.model.specs.Table.{vertex_labels, edge_labels}
use Rattle.model.specs.Tree.{tree_item}
use Rattle.formats.specs.Table.{table_passed}
use Rattle.formats.specs.Inputs.{input_table, input_recorded, input_found}
use Rattle.formats.proofs.inputs.input_item.Goals as goal

-- the found tree's fault, told by whatever gives the refusal that tells it
told_found : {A : Type 0} (r : Result A TreeFault) (a : Answer A) (Told : TreeFault → Refusal → Type 0) → MatchResult r (λ x. a ≡ Ok x) (λ e. IsErrAnd a (Told e)) → ((e : TreeFault) (d : Refusal) → Told e d → d ≡ Found e) → refusal_in a ≡ fault_in 8 26 r
told_found (Ok x) a Told h k = as_found (Ok x) a h
told_found (Err e) (Ok x) Told h k = elim h [ ]
told_found {A = A} (Err e) (Err d) Told h k = as_found {A = A} (Err e) (Err d) (k e d h)

pub returns-in_err-table_item : goal.returns-in_err-table_item
returns-in_err-table_item c = sent_on _ _ c.from_residual.ensures.1 c.in_err-table_item.ensures (input_table _ _ _)

pub invariant_of-table : goal.invariant_of-table
invariant_of-table c = record { sized = (table_passed _ (sym c.in_ok-table_item.ensures)).sized }

pub returns-in_err-map_err : goal.returns-in_err-map_err
returns-in_err-map_err c =
    let a = c.args in
    let item : item_number c.in_err-map_err.field-0.0 ≡ tree_item 3 25 a.recorded.now (vertex_labels a.table.now) (edge_labels a.table.now) =
    as_recorded _ (Err c.in_err-map_err.field-0.0) c.in_err-map_err.ensures.cases ∙ c.tree_item.ensures 3 25 ∙ rw (c.vertex_labels-k.ensures, c.edge_labels-l.ensures) in
    sent_on _ _ c.from_residual-in_err-map_err.ensures.1 item (input_recorded _ _ _ (sym c.in_ok-table_item.ensures))

pub returns : goal.returns
returns c =
    let a = c.args in
    let recorded-item : 0 ≡ tree_item 3 25 a.recorded.now (vertex_labels a.table.now) (edge_labels a.table.now) =
    as_recorded _ (Ok c.in_ok-map_err.field-0) c.in_ok-map_err.ensures.cases ∙ c.tree_item.ensures 3 25 ∙ rw (c.vertex_labels-k.ensures, c.edge_labels-l.ensures) in
    let found-item : refusal_in c.map_err-2.result ≡ tree_item 8 26 a.found.now (vertex_labels a.table.now) (edge_labels a.table.now) =
    told_found _ _ _ c.map_err-2.ensures.cases (λ e d q. search rules) ∙ c.tree_item-2.ensures 8 26 ∙ rw (c.vertex_labels-k.ensures, c.edge_labels-l.ensures) in
    found-item ∙ sym (input_found _ _ _ (sym c.in_ok-table_item.ensures) (sym recorded-item))
