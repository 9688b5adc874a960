-- The found edge between two vertices, by its place in the plan. Assumes nothing.
use Rattle.std.specs.Prelude.{◌≡◌, List, ℕ, ◌-◌, ◌≤◌, ◌<◌, length, get_or}
use Rattle.std.proofs.Common.{sym, ap, ◌∙◌, subst, ⊎_elim, arith}
use Rattle.foundations.specs.Members.{place, mem_occ, place_at, place_low, get_d_mem}
use Rattle.foundations.specs.Tests.{less?}
use Rattle.model.specs.Limits.{vertex_limit, degree_limit}
use Rattle.model.specs.Tree.{count}
use Rattle.model.specs.Graph.{neighbours}
use Rattle.trees.specs.Directions.{seen, EdgeSeen, edge_seen}
use Rattle.trees.specs.Neighbours.{Adjacent, mem_adjacent, adjacent_mem, few_neighbours}
use Rattle.plan.specs.Plan.{degree_in, neighbour_edge_in, FoundIn, Ready}
use Rattle.plan.specs.Numbers.{SlotAt, ready_accepted, ready_sound}

-- found vertex x, and the place of y among its neighbours
module _ {table r f : List ℕ} {plan : List (List ℕ)} (N : Ready table r f plan) {x : ℕ} (lx : x < count f) where
  abbrev F : FoundIn f plan x
  F = N.planned.found x lx

  -- what the code asks of x
  pub slot_asks : (x < vertex_limit) × (degree_in plan x ≤ degree_limit)
  slot_asks = let few : count f ≤ vertex_limit = (ready_accepted N).found.ends.few in (omega arith, rw F.degree (few_neighbours f _ _ (ready_accepted N).found x lx))

  module _ {y c : ℕ} (S : SlotAt plan x y c) where
    -- a neighbour has a place
    pub slot_some : Adjacent f x y → 1 ≤ c
    slot_some a =
        let o = mem_occ y (neighbours f x) (adjacent_mem f (ready_accepted N).found.ends x y a) in
        let d = F.degree in
        let l : place y (neighbours f x) < length (neighbours f x) = place_low y (neighbours f x) o in
        ⊎_elim
        (λ z. absurd (S.none (omega arith) (place y (neighbours f x)) (omega arith) (F.neighbour (place y (neighbours f x)) l ∙ place_at y (neighbours f x) o)))
        (λ h. h)
        (less? c 1)

    module _ (h : 1 ≤ c) where
      low : c - 1 < length (neighbours f x)
      low = let d = F.degree in let l = S.low in omega arith

      pub slot_low : c - 1 < degree_limit
      slot_low = let l = low in let few = few_neighbours f _ _ (ready_accepted N).found x lx in omega arith

      is : get_or (neighbours f x) (c - 1) 0 ≡ y
      is = sym (F.neighbour (c - 1) low) ∙ S.here (c - 1) (omega arith)

      -- what has a place is a neighbour
      pub slot_adjacent : Adjacent f x y
      slot_adjacent = subst (λ (z : ℕ). Adjacent f x z) is (mem_adjacent f x (get_or (neighbours f x) (c - 1) 0) (get_d_mem (neighbours f x) (c - 1) low)).1

      -- and in its place stands the edge to it
      pub slot_edge : EdgeSeen f x y (neighbour_edge_in plan x (c - 1))
      slot_edge = edge_seen f (ready_sound N) x y slot_adjacent (neighbour_edge_in plan x (c - 1)) (F.edge (c - 1) low ∙ ap (seen f x) is)
