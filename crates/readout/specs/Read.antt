-- Reading out pair (u, v) with s, as a relation between the mapping bytes before and after: each pair that was listed has a row of mates by
-- which its children were listed. Assumes nothing.
use Rattle.std.specs.Prelude.{◌≡◌, ◌⊎◌, ◌≢◌, List, ℕ, ◌+◌, ◌≤◌, ◌<◌, get_or, length, T, ℤ}
use Rattle.foundations.specs.Members.{mem}
use Rattle.model.specs.Limits.{no_vertex}
use Rattle.model.specs.Weights.{none}
use Rattle.model.specs.Tree.{count}
use Rattle.model.specs.Order.{parent, depth, children}
use Rattle.model.specs.Pairs.{vertex_pair}
use Rattle.model.specs.Mapping.{partner, mapped}
use Rattle.model.specs.Values.{Subproblem, recalled}
use Rattle.subtrees.specs.Connected.{Under}
use Rattle.solver.specs.Choice.{ChoiceAt, mate_in}

-- x lies in the recorded subtree of c
abbrev pub Lies : List ℕ → ℕ → ℕ → Type 0
Lies r c x = Under (count r) (parent r) c x

-- no vertex of c's subtree has a partner yet
abbrev pub Blank : List ℕ → ℕ → List ℕ → Type 0
Blank r c p = (x : ℕ) → Lies r c x → partner p x ≡ no_vertex

-- a row of mates was chosen at (x, v, s), and each child of x has its mate as partner, or none
pub record Row (table r f : List ℕ) (work : List ℤ) (q : List ℕ) (x v s : ℕ) : Type 0 where
  pub subproblem : Subproblem r f x v s
  pub mates : List ℕ
  pub choice : ChoiceAt table r f work x v s mates
  pub branches : (c : ℕ) → T (mem c (children r x)) → partner q c ≡ mate_in (children r x) mates c

-- each vertex of c's subtree that has a partner chose a row: c with s, any other with the partner of its parent, which has one
abbrev pub Settled : List ℕ → List ℕ → List ℕ → List ℤ → ℕ → ℕ → List ℕ → Type 0
Settled table r f work c s q =
    (x : ℕ) → Lies r c x → T (mapped q x) → ((x ≡ c) × Row table r f work q x (partner q x) s) ⊎ ((x ≢ c) × T (mapped q (parent r x)) × Row table r f work q x (partner q x) (partner q (parent r x)))

-- The bytes q are p after reading out (u, v) with s; where v is 255 nothing was listed.
pub record Read (table r f : List ℕ) (work : List ℤ) (u v s : ℕ) (p q : List ℕ) : Type 0 where
  pub size : length q ≡ length p
  pub top : partner q u ≡ v
  pub away : (x : ℕ) → ¬ (Lies r u x) → partner q x ≡ partner p x
  pub settled : Settled table r f work u s q

-- The same after the first i branch pairs of (u, v), by a row of mates.
pub record Reading (table r f : List ℕ) (work : List ℤ) (u v : ℕ) (mates p : List ℕ) (i : ℕ) (q : List ℕ) : Type 0 where
  pub size : length q ≡ length p
  pub top : partner q u ≡ v
  pub away : (x : ℕ) → ¬ (Lies r u x) → partner q x ≡ partner p x
  pub done : (j : ℕ) → j < i → j < length (children r u) → (partner q (get_or (children r u) j 0) ≡ get_or mates j 0) × Settled table r f work (get_or (children r u) j 0) v q
  pub left : (j : ℕ) → i ≤ j → j < length (children r u) → Blank r (get_or (children r u) j 0) q

-- the work number of a forbidden pair is the forbidden number (refusal 16)
abbrev pub WorkFits : List ℕ → List ℕ → List ℕ → List ℤ → Type 0
WorkFits table r f work = (u v s : ℕ) → Subproblem r f u v s → vertex_pair table r f u v ≡ none → recalled r f work u v s ≡ none

-- room for reading out (u, v) with a remaining depth of d: u's subtree is blank, and no deeper
pub record Room (r : List ℕ) (u d : ℕ) (p : List ℕ) : Type 0 where
  pub low : u < count r
  pub blank : Blank r u p
  pub long : count r ≤ length p
  pub deep : count r ≤ depth r u + d
