-- A mapping respects the direction of flow lines. Assumes nothing.
use Rattle.std.specs.Prelude.{◌≡◌, ◌≢◌, Bool, List, ℕ}
use Rattle.std.proofs.Math.Path.{refl}
use Rattle.std.proofs.Common.{sym, ◌∙◌, true≢false}
use Rattle.std.proofs.Math.Bool.{true, false}
use Rattle.model.specs.Graph.{joined, edge_label, directed, upstream}
use Rattle.model.specs.Mapping.{Mapped, partner, IsMapping}
use Rattle.formats.specs.Inputs.{Accepted}
use Rattle.subtrees.specs.Directions.{mixed_forbidden, against_forbidden}

-- a mapping takes flow lines to flow lines, and upstream ends to upstream ends
same_or : (a b : Bool) → ((a ≢ b) → ⊥) → a ≡ b
same_or true true n = refl
same_or true false n = absurd (n true≢false)
same_or false true n = absurd (n (λ e. true≢false (sym e)))
same_or false false n = refl

module _ (table recorded found p : List ℕ) (A : Accepted table recorded found) (M : IsMapping table recorded found p) (u x : ℕ) (mu : Mapped recorded p u) (mx : Mapped recorded p x)
    (j : joined recorded u x ≡ true) where
  pub respects_flow : directed (edge_label recorded u x) ≡ directed (edge_label found (partner p u) (partner p x))
  respects_flow = same_or _ _ (λ n. M.edge_allowed u x mu mx j (mixed_forbidden table recorded found u x (partner p u) (partner p x) n))

  pub respects_upstream : directed (edge_label recorded u x) ≡ true → upstream recorded u x ≡ upstream found (partner p u) (partner p x)
  respects_upstream d = same_or _ _ (λ n. M.edge_allowed u x mu mx j
      (against_forbidden table recorded found u x (partner p u) (partner p x) A j (sym (M.joined_alike u x mu mx) ∙ j) d (sym respects_flow ∙ d) n))
