-- Facts about each vertex and its parent that make a mapping: the test that code can afford. Assumes nothing.
use Rattle.std.specs.Prelude.{◌≡◌, refl, ◌≢◌, ◌↔◌, Bool, ℕ, ◌<◌}
use Rattle.std.proofs.Common.{inl}
use Rattle.std.proofs.Math.Dec.{T}
use Rattle.foundations.specs.Members.{mem}
use Rattle.model.specs.Weights.{none}
use Rattle.subtrees.specs.Connected.{of_inner, Joined, OneTop, connected_top}
use Rattle.subtrees.specs.Problem.{Instance, Mapping}
use Rattle.subtrees.specs.Rooted.{inner}

-- the found tree is a tree: it has a rooting
pub record FoundRooting (P : Instance) (fpar fdep : ℕ → ℕ) : Type 0 where
  pub falls : (v : ℕ) → v < P.m → v ≢ 0 → (fpar v < P.m) × (fdep (fpar v) < fdep v)
  pub edge : (v v' : ℕ) → v < P.m → v' < P.m → T (mem v' (P.neighbours v)) ↔ Joined fpar v v'

-- what a check of a mapping tests: the edges between children and parents only, and that there is one top at most
pub record Quick (P : Instance) (on : ℕ → Bool) (to : ℕ → ℕ) : Type 0 where
  pub inside : (u : ℕ) → u < P.n → T (on u) → to u < P.m
  pub apart : (u x : ℕ) → u < P.n → x < P.n → T (on u) → T (on x) → to u ≡ to x → u ≡ x
  pub near : (c : ℕ) → c < P.n → T (inner P.parent on c) → T (mem (to c) (P.neighbours (to (P.parent c))))
  pub vertices : (u : ℕ) → u < P.n → T (on u) → P.W u (to u) ≢ none
  pub edges : (c : ℕ) → c < P.n → T (inner P.parent on c) → P.E (P.parent c) c (to (P.parent c)) (to c) ≢ none
  pub one : OneTop P.n P.parent on

pub mapping_is_quick : (P : Instance) (on : ℕ → Bool) (to : ℕ → ℕ) → Mapping P on to → Quick P on to
unfolding Joined
mapping_is_quick P on to M = record {
  inside = M.inside;
  apart = M.apart;
  vertices = M.vertices;
  edges = M.edges;
  near = λ c l i. let q = of_inner P.parent on c i in (M.joins (P.parent c) c (P.rooted.up c l q.1).0 l q.2 q.0).0 (inl (q.1, refl));
  one = connected_top P.n P.parent on M.connected;
}
