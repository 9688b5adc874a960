-- What passes the quick test is a mapping. Assumes nothing.
use Rattle.std.specs.Prelude.{◌≡◌, ◌⊎◌, ◌≢◌, Bool, ℕ, ◌<◌}
use Rattle.std.proofs.Common.{sym, inl, inr}
use Rattle.std.proofs.Math.Path.{subst}
use Rattle.std.proofs.Math.Dec.{T}
use Rattle.subtrees.specs.Connected.{inner_of, of_inner, Joined, joined_back, Step, ConnectedSet, top_connected, crosses}
use Rattle.subtrees.specs.Problem.{Instance, Mapping}
use Rattle.subtrees.specs.Rooted.{inner}
use Rattle.subtrees.specs.Quick.{FoundRooting, Quick}

module _ (P : Instance) (fpar fdep : ℕ → ℕ) (F : FoundRooting P fpar fdep) (on : ℕ → Bool) (to : ℕ → ℕ) (Q : Quick P on to) where
  connected : ConnectedSet P.n P.parent on
  connected = top_connected P.n P.parent on P.depth P.rooted.up Q.one

  child_joined : (c : ℕ) → c < P.n → T (inner P.parent on c) → Joined fpar (to (P.parent c)) (to c)
  child_joined c l i = let q = of_inner P.parent on c i in
      (F.edge (to (P.parent c)) (to c) (Q.inside (P.parent c) (P.rooted.up c l q.1).0 q.2) (Q.inside c l q.0)).0 (Q.near c l i)

  -- a step of the set, on the partners
  step_joined : (x y : ℕ) → Step P.n P.parent on x y → (to x < P.m) × (to y < P.m) × Joined fpar (to x) (to y)
  unfolding Joined
  step_joined x y s = (Q.inside x s.from.0 s.from.1, Q.inside y s.to.0 s.to.1, cases x y s s.edge)
    where
      lift : (u c : ℕ) → u < P.n → T (on u) → c < P.n → T (on c) → c ≢ 0 → P.parent c ≡ u → Joined fpar (to u) (to c)
      lift u c l o k p z e = subst (λ (x : ℕ). Joined fpar (to x) (to c)) e (child_joined c k (inner_of P.parent on c p z (subst (λ (x : ℕ). T (on x)) (sym e) o)))

      cases : (x y : ℕ) → Step P.n P.parent on x y → ((y ≢ 0) × (P.parent y ≡ x)) ⊎ ((x ≢ 0) × (P.parent x ≡ y)) → Joined fpar (to x) (to y)
      cases x y s (inl j) = lift x y s.from.0 s.from.1 s.to.0 s.to.1 j.0 j.1
      cases x y s (inr j) = joined_back fpar (to y) (to x) (lift y x s.to.0 s.to.1 s.from.0 s.from.1 j.0 j.1)

  -- where the partner of x is the parent of the partner of x', x and x' are joined
  parent_joined : (x' x : ℕ) → x' < P.n → T (on x') → x < P.n → T (on x) → to x' ≢ 0 → fpar (to x') ≡ to x → Joined P.parent x' x
  unfolding ConnectedSet
  parent_joined x' x l o k p z e =
      let r = crosses (Step P.n P.parent on) to P.m fpar fdep (λ v l z. (F.falls v l z).1) step_joined x' x (Q.inside x' l o) z e (connected x' x l o k p) in
      let s = r.4 in
      subst (λ (y : ℕ). Joined P.parent y x) (Q.apart r.0 x' s.from.0 l s.from.1 o r.2)
      (subst (Joined P.parent r.0) (Q.apart r.1 x s.to.0 k s.to.1 p r.3) s.edge)

  joined_of : (x y : ℕ) → x < P.n → T (on x) → y < P.n → T (on y) → Joined fpar (to x) (to y) → Joined P.parent x y
  unfolding Joined
  joined_of x y l o k p (inl j) = joined_back P.parent y x (parent_joined y x k p l o j.0 j.1)
  joined_of x y l o k p (inr j) = parent_joined x y l o k p j.0 j.1

  pub quick_is_mapping : Mapping P on to
  quick_is_mapping = record {
    inside = Q.inside;
    apart = Q.apart;
    joins = λ x y l k o p. (
      λ j. (F.edge (to x) (to y) (Q.inside x l o) (Q.inside y k p)).1 (step_joined x y (record { from = (l, o); to = (k, p); edge = j })).2,
      λ h. joined_of x y l o k p ((F.edge (to x) (to y) (Q.inside x l o) (Q.inside y k p)).0 h),
    );
    vertices = Q.vertices;
    edges = Q.edges;
    connected = connected;
  }
