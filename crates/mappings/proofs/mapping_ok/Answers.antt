-- `mapping_ok` meets its contract. Assumes nothing.
use Rattle.std.proofs.Common.{refl, sym, ◌∙◌, true≢false}
use Rattle.mappings.specs.Tested.{tested}
use Rattle.mappings.proofs.mapping_ok.Goals as goal
use Rattle.mappings.proofs.mapping_ok.Goals.{then-vertices_ok, else-vertices_ok}

pub returns-then-edges_ok : goal.returns-then-edges_ok
returns-then-edges_ok c = elim c.if-vertices_ok.branch [
  | then-vertices_ok w ↦
      let t = tested c.args.on.now.ready _ c.requires.recorded_in_bounds c.vertices_ok.result w.edges_ok.result c.tops.result c.vertices_ok.ensures w.edges_ok.ensures c.tops.ensures in
      rw (w.if-vertices_ok.true, sym w.value-is ∙ c.if-edges_ok.true) at t
  | else-vertices_ok w ↦ absurd (true≢false (sym c.if-edges_ok.true ∙ (w.value-is ∙ w.if-vertices_ok.false)))
]

pub returns-else-edges_ok : goal.returns-else-edges_ok
returns-else-edges_ok c = elim c.if-vertices_ok.branch [
  | then-vertices_ok w ↦
      let t = tested c.args.on.now.ready _ c.requires.recorded_in_bounds c.vertices_ok.result w.edges_ok.result _ c.vertices_ok.ensures w.edges_ok.ensures refl in
      c.if-edges_ok.false ∙ (rw (w.if-vertices_ok.true, sym w.value-is ∙ c.if-edges_ok.false) at t)
  | else-vertices_ok w ↦
      let t = tested c.args.on.now.ready _ c.requires.recorded_in_bounds c.vertices_ok.result _ _ c.vertices_ok.ensures refl refl in
      c.if-edges_ok.false ∙ (rw w.if-vertices_ok.false at t)
]
