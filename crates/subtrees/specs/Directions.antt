-- What directions mean for pairs of edges and for mappings, in the words of paper 02, [6]: its flow lines are directed edges. Assumes nothing.
use Rattle.std.specs.Prelude.{◌≡◌, ◌≢◌, Bool, not, ◌&&◌, ◌||◌, List, ℕ, ◌≤◌}
use Rattle.std.proofs.Math.Path.{refl}
use Rattle.std.proofs.Common.{sym, true≢false, arith}
use Rattle.std.proofs.Math.Bool.{true, false, cond}
use Rattle.std.proofs.lemmas.Bool.{lt-leb}
use Rattle.model.specs.Graph.{edges, joined, edge_label, directed, upstream}
use Rattle.model.specs.Limits.{directed_from}
use Rattle.model.specs.Pairs.{same_direction, directions_agree, edge_pair}
use Rattle.model.specs.Table.{edge_labels, edge_weight}
use Rattle.model.specs.Tree.{count}
use Rattle.model.specs.Weights.{Weight, none}
use Rattle.trees.specs.Directions.{one_upstream, label_known}
use Rattle.trees.specs.Neighbours.{joined_says}
use Rattle.formats.specs.Inputs.{Accepted, accepted_sound}

-- the edge of u and u' with that of v and v'
module _ (table recorded found : List ℕ) (u u' v v' : ℕ) where
  abbrev table_says : Weight
  table_says = edge_weight table (edge_label recorded u u') (edge_label found v v')

  -- "Kinds 0 to 3 carry no direction, as in document 01"
  pub undirected_weigh : directed (edge_label recorded u u') ≡ false → directed (edge_label found v v') ≡ false → edge_pair table recorded found u u' v v' ≡ table_says
  unfolding edge_pair directions_agree
  undirected_weigh a b = rw (a, b)

  -- "with any other line the pair is forbidden, whatever the table says"
  pub mixed_forbidden : directed (edge_label recorded u u') ≢ directed (edge_label found v v') → edge_pair table recorded found u u' v v' ≡ none
  unfolding edge_pair directions_agree
  mixed_forbidden d = go (directed (edge_label recorded u u')) (directed (edge_label found v v')) d
    where
      go : (a b : Bool) → a ≢ b → cond (cond a (b && same_direction recorded found u u' v v') (not b)) table_says none ≡ none
      go true true n = absurd (n refl)
      go true false n = refl
      go false true n = refl
      go false false n = absurd (n refl)

  -- two flow lines of accepted trees: "upstream end to upstream end"
  module _ (A : Accepted table recorded found) (jr : joined recorded u u' ≡ true) (jf : joined found v v' ≡ true)
      (dr : directed (edge_label recorded u u') ≡ true) (df : directed (edge_label found v v') ≡ true) where
    alike : (p q : Bool) → p ≡ q → ((p && q) || (not p && not q)) ≡ true
    alike true true e = refl
    alike true false e = absurd (true≢false e)
    alike false true e = absurd (true≢false (sym e))
    alike false false e = refl

    unlike : (p q : Bool) → p ≢ q → ((p && q) || (not p && not q)) ≡ false
    unlike true true n = absurd (n refl)
    unlike true false n = refl
    unlike false true n = refl
    unlike false false n = absurd (n refl)

    way : same_direction recorded found u u' v v' ≡ ((upstream recorded u u' && upstream found v v') || (not (upstream recorded u u') && not (upstream found v v')))
    unfolding same_direction
    way =
        let a = one_upstream recorded (accepted_sound A).0 u u' (joined_says recorded (count recorded) u u' (edges recorded) jr) in
        let b = one_upstream found (accepted_sound A).1 v v' (joined_says found (count found) v v' (edges found) jf) in
        rw (a, b)

    pub along_weigh : upstream recorded u u' ≡ upstream found v v' → edge_pair table recorded found u u' v v' ≡ table_says
    unfolding edge_pair directions_agree
    along_weigh e = rw (dr, df, way, alike (upstream recorded u u') (upstream found v v') e)

    pub against_forbidden : upstream recorded u u' ≢ upstream found v v' → edge_pair table recorded found u u' v v' ≡ none
    unfolding edge_pair directions_agree
    against_forbidden n = rw (dr, df, way, unlike (upstream recorded u u') (upstream found v v') n)

-- a table with 4 edge labels or fewer has no flow line
pub few_undirected : (table recorded found : List ℕ) → Accepted table recorded found → edge_labels table ≤ directed_from
    → ((u u' : ℕ) → joined recorded u u' ≡ true → directed (edge_label recorded u u') ≡ false) × ((v v' : ℕ) → joined found v v' ≡ true → directed (edge_label found v v') ≡ false)
unfolding directed
few_undirected table recorded found A h = (
  λ u u' j. lt-leb directed_from (edge_label recorded u u') (omega (arith, label_known recorded _ _ A.recorded u u' (joined_says recorded (count recorded) u u' (edges recorded) j))),
  λ v v' j. lt-leb directed_from (edge_label found v v') (omega (arith, label_known found _ _ A.found v v' (joined_says found (count found) v v' (edges found) j))),
)
