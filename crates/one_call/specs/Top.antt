-- The largest value with s = v over any work numbers: what the search for it knows on its way, and that it is the model's. Assumes nothing.
use Rattle.std.specs.Prelude.{◌≡◌, refl, ◌⊎◌, ◌≢◌, Bool, true, false, cond, List, get_or, length, T, ℤ, pos, negsuc, Option, MatchOption}
use Rattle.std.proofs.Common.{sym, ◌∙◌, arith, mul-le-mul}
use Rattle.std.proofs.Math.Path.{ap, subst}
use Rattle.std.proofs.Math.Logic.{inl, inr, ⊎_elim}
use Prim.Native.Nat.{ℕ, ◌+◌, ◌*◌, ◌≤◌, ◌<◌}
use Rattle.foundations.specs.Tests.{same?}
use Rattle.foundations.specs.Int.{up, int, canon}
use Rattle.foundations.specs.Members.{mem, mem_here, mem_below, below_mem}
use Rattle.model.specs.Weights.{Weight, none, some, weighed, is_forbidden, ◌⊑◌}
use Rattle.model.specs.Limits.{vertex_limit, width_limit}
use Rattle.model.specs.Tree.{count}
use Rattle.model.specs.Graph.{neighbours}
use Rattle.model.specs.Order.{position, width, offset, index, subproblems}
use Rattle.trees.specs.Accepted.{Sound}
use Rattle.trees.specs.Positions.{index_own, position_low, offset_up, offset_all, index_low}
use Rattle.model.specs.Mapping.{num}
use Rattle.model.specs.Values.{greatest, vertices, largest, recalled}
use Rattle.plan.specs.Plan.{place_in, offset_in, Planned}
use Rattle.one_call.specs.declared.top.Top.{Top}
use Rattle.subtrees.specs.WeightLaws.{⊑_trans, ⊑_antisym, greatest_default, greatest_at, greatest_is}

-- a work number as a weight, and the greater of 0 and it
weighed_most : (z : ℤ) → weighed z ⊑ some (pos (up z))
unfolding weighed
weighed_most z = go (is_forbidden z)
  where
    go : (b : Bool) → cond b none (some z) ⊑ some (pos (up z))
    go true = tt
    go false = omega (int, canon z)

weighed_up : (z : ℤ) → 1 ≤ up z → weighed z ≡ some (pos (up z))
unfolding weighed is_forbidden
weighed_up (pos n) h = refl
weighed_up (negsuc n) h = absurd (omega arith)

-- where the values of recorded vertex u stand, and that they are lent
pub record RowValues (r f : List ℕ) (work : List ℤ) (starts : ℕ → ℕ) (base m u : ℕ) : Type 0 where
  pub vertex : u < count r
  pub few : m ≤ vertex_limit
  pub counted : m ≡ count f
  pub begins : base ≡ position r u * width f
  pub small : base ≤ vertex_limit * width_limit
  pub offsets : (v : ℕ) → v < m → starts v ≡ offset f v
  pub lent : (v : ℕ) → v < m → base + offset f v < length work
  pub narrow : (v : ℕ) → v < m → offset f v ≤ width_limit

pub row_number : {r f : List ℕ} {work : List ℤ} {starts : ℕ → ℕ} {base m u : ℕ} → RowValues r f work starts base m u → (v : ℕ) → v < m → base + starts v ≡ index r f u v v
row_number {r} {f} {work} {starts} {base} {m} {u} a v l = rw (a.offsets v l, a.begins) (sym (index_own r f u v))

-- one number compared: the greater, with its pair
pub record Raised (w u v x a b w' u' v' : ℕ) : Type 0 where
  pub old : w ≤ w'
  pub new : x ≤ w'
  pub one : ((w' ≡ w) × (u' ≡ u) × (v' ≡ v)) ⊎ ((w < x) × (w' ≡ x) × (u' ≡ a) × (v' ≡ b))

pub raised_over : {w u v x : ℕ} (a b : ℕ) → w < x → Raised w u v x a b x a b
raised_over a b h = record { old = omega arith; new = omega arith; one = inr (h, refl, refl, refl) }

pub raised_not : {w u v x : ℕ} (a b : ℕ) → x ≤ w → Raised w u v x a b w u v
raised_not a b h = record { old = omega arith; new = h; one = inl (refl, refl, refl) }

-- pairs (a, b) are done for a below i, and for a = i and b below j
abbrev Done : ℕ → ℕ → ℕ → ℕ → Type 0
Done i j a b = (a < i) ⊎ ((a ≡ i) × (b < j))

-- w is the greater of 0 and the largest of the values that are done, and (u, v) has it where it is not 0
pub record TopOf (r f : List ℕ) (work : List ℤ) (i j w u v : ℕ) : Type 0 where
  pub most : (a b : ℕ) → Done i j a b → b < count f → recalled r f work a b b ⊑ some (pos w)
  pub there : (w ≡ 0) ⊎ ((u < count r) × (v < count f) × (recalled r f work u v v ≡ some (pos w)))
  pub fits : w < 2147483648

up_more : (x : Weight) (a b : ℕ) → x ⊑ some (pos a) → a ≤ b → x ⊑ some (pos b)
up_more none a b h l = tt
up_more (some z) a b h l = omega int

module _ (r f : List ℕ) (work : List ℤ) where
  pub top_none : TopOf r f work 0 0 0 0 0
  top_none = record { most = λ a b d l. ⊎_elim (λ h. absurd (off h)) (λ h. absurd (off h.1)) d; there = inl refl; fits = omega arith }
    where
      off : {x : ℕ} → x < 0 → ⊥
      off h = omega arith

  -- one pair more
  pub top_more : (i j w u v x w' u' v' : ℕ) → TopOf r f work i j w u v → i < count r → j < count f → x ≡ up (get_or work (index r f i j j) (pos 0)) → x < 2147483648 → Raised w u v x i j w' u' v' → TopOf r f work i (j + 1) w' u' v'
  unfolding recalled
  top_more i j w u v x w' u' v' t li lj e small c = record {
    most = λ a b d l. ⊎_elim (λ h. up_more (weighed (get_or work (index r f a b b) (pos 0))) w w' (t.most a b (inl h) l) c.old) (λ h. pick a b h.0 h.1 (same? b j) l) d;
    there = ⊎_elim
        (λ o. ⊎_elim (λ z. inl (o.0 ∙ z)) (λ z. inr (kept o z)) t.there)
        (λ n. inr (found n))
        c.one;
    fits = let q = t.fits in ⊎_elim (λ o. omega (arith, o.0)) (λ n. omega (arith, n.1)) c.one;
  }
    where
      here : weighed (get_or work (index r f i j j) (pos 0)) ⊑ some (pos x)
      here = subst (λ (k : ℕ). weighed (get_or work (index r f i j j) (pos 0)) ⊑ some (pos k)) (sym e) (weighed_most (get_or work (index r f i j j) (pos 0)))

      pick : (a b : ℕ) → a ≡ i → b < j + 1 → (b ≡ j) ⊎ (b ≢ j) → b < count f → weighed (get_or work (index r f a b b) (pos 0)) ⊑ some (pos w')
      pick a b p q (inl s) l = rw (p, s) (up_more (weighed (get_or work (index r f i j j) (pos 0))) x w' here c.new)
      pick a b p q (inr s) l = up_more (weighed (get_or work (index r f a b b) (pos 0))) w w' (t.most a b (inr (p, omega arith)) l) c.old

      kept : (w' ≡ w) × (u' ≡ u) × (v' ≡ v) → (u < count r) × (v < count f) × (weighed (get_or work (index r f u v v) (pos 0)) ≡ some (pos w)) → (u' < count r) × (v' < count f) × (weighed (get_or work (index r f u' v' v') (pos 0)) ≡ some (pos w'))
      kept o z = rw (o.0, o.1, o.2) z

      found : (w < x) × (w' ≡ x) × (u' ≡ i) × (v' ≡ j) → (u' < count r) × (v' < count f) × (weighed (get_or work (index r f u' v' v') (pos 0)) ≡ some (pos w'))
      found n = rw (n.1, n.2, n.3) (li, lj, weighed_up (get_or work (index r f i j j) (pos 0)) (let g = n.0 in omega arith) ∙ ap (λ (k : ℕ). some (pos k)) (sym e))

  -- all pairs of one recorded vertex
  pub top_row : (i j w u v : ℕ) → TopOf r f work i j w u v → j ≡ count f → TopOf r f work (i + 1) 0 w u v
  top_row i j w u v t e = record {
    most = λ a b d l. ⊎_elim (λ h. ⊎_elim (λ q. t.most a b (inr (q, omega arith)) l) (λ q. t.most a b (inl (omega arith)) l) (same? a i)) (λ h. absurd (off h.1)) d;
    there = t.there;
    fits = t.fits;
  }
    where
      off : {x : ℕ} → x < 0 → ⊥
      off h = omega arith

  pub top_pair : (i w u v : ℕ) → TopOf r f work i 0 w u v → w ≢ 0 → (u < count r) × (v < count f)
  top_pair i w u v t z = ⊎_elim (λ q. absurd (z q)) (λ q. (q.0, q.1)) t.there

  -- of all pairs it is the model's largest
  pub top_largest : (i w u v : ℕ) → TopOf r f work i 0 w u v → i ≡ count r → largest r f (recalled r f work) ≡ pos w
  unfolding largest num
  top_largest i w u v t e = ap num (⊑_antisym G (some (pos w)) upper lower)
    where
      inner : ℕ → Weight
      inner a = greatest (vertices f) (λ b. recalled r f work a b b) none

      G : Weight
      G = greatest (vertices r) inner (some (pos 0))

      low : (s : List ℕ) (x : ℕ) → T (mem x (vertices s)) → x < count s
      low s x m = (mem_below (λ y. true) (count s) x m).0

      below_inner : (a : ℕ) → a < count r → inner a ⊑ some (pos w)
      below_inner a l = ⊎_elim (λ q. rw q tt) (λ q. rw q.2 (t.most a q.0 (inl (omega arith)) (low f q.0 q.1))) (greatest_is (vertices f) (λ b. recalled r f work a b b) none)

      upper : G ⊑ some (pos w)
      upper = ⊎_elim (λ q. rw q (omega int)) (λ q. rw q.2 (below_inner q.0 (low r q.0 q.1))) (greatest_is (vertices r) inner (some (pos 0)))

      lower : some (pos w) ⊑ G
      lower = ⊎_elim
          (λ z. rw z (greatest_default (vertices r) inner (some (pos 0))))
          (λ z. ⊑_trans (some (pos w)) (inner u) G
          (subst (λ (y : Weight). y ⊑ inner u) z.2 (greatest_at (vertices f) (λ b. recalled r f work u b b) none v (below_mem (λ y. true) (count f) v z.1 refl)))
          (greatest_at (vertices r) inner (some (pos 0)) u (below_mem (λ y. true) (count r) u z.0 refl)))
          t.there

-- where no value is above 0 none, else one with the largest value
abbrev pub Largest : List ℕ → List ℕ → List ℤ → Option Top → Type 0
Largest r f work o = MatchOption o (TopOf r f work (count r) 0 0 0 0) (λ t. (t.weight ≢ 0) × TopOf r f work (count r) 0 t.weight t.u t.v)

-- ---- all recorded vertices

-- two accepted trees, their plan, and work numbers enough
pub record AllAt (r f : List ℕ) (work : List ℤ) (plan : List (List ℕ)) : Type 0 where
  pub recorded : Sound r
  pub found : Sound f
  pub planned : Planned r f plan
  pub enough : subproblems r f ≤ length work

-- a vertex's place is low
pub place_low : {r f : List ℕ} {work : List ℤ} {plan : List (List ℕ)} → AllAt r f work plan → (u : ℕ) → u < count r → place_in plan u ≤ vertex_limit
place_low {r} A u l =
    let p = A.recorded.passed in
    let few : count r ≤ vertex_limit = p.ends.few in
    let e = (A.planned.recorded u l).place in
    let low : position r u < count r = position_low r p.ends p.tree u l in
    omega arith

-- where the values of u stand
pub row_at : {r f : List ℕ} {work : List ℤ} {plan : List (List ℕ)} → AllAt r f work plan → (u base m : ℕ) → u < count r → m ≡ count f → base ≡ place_in plan u * width f → RowValues r f work (offset_in plan) base m u
unfolding width
row_at {r} {f} {work} {plan} A u base m l e g =
    let er = A.recorded.passed.ends in
    let ef = A.found.passed.ends in
    let tr = A.recorded.passed.tree in
    let tf = A.found.passed.tree in
    let mf : count f ≤ vertex_limit = ef.few in
    let b : base ≡ position r u * width f = g ∙ rw (A.planned.recorded u l).place in
    let p = place_low A u l in
    let q : width f ≤ width_limit = omega arith in
    record {
      vertex = l;
      few = omega arith;
      counted = e;
      begins = b;
      small = rw g (mul-le-mul p q);
      offsets = λ v h. (A.planned.found v (omega arith)).begins;
      lent = λ v h.
          let lv : v < count f = omega arith in
          let i : index r f u v v < subproblems r f = index_low r f er tr ef tf u v v l lv (mem_here v (neighbours f v)) in
          let k : index r f u v v ≡ position r u * width f + offset f v = index_own r f u v in
          let enough : subproblems r f ≤ length work = A.enough in
          omega arith;
      narrow = λ v h. let lv : v < count f = omega arith in let a = offset_up f v (count f) lv in let c : offset f (count f) ≡ width f = offset_all f ef tf in omega arith;
    }
