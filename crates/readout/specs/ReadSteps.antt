-- Reading out step by step: nothing listed, the pair itself, one branch pair more, all of them. Assumes nothing.
use Rattle.std.specs.Prelude.{◌≡◌, refl, ◌⊎◌, ◌≢◌, not, List, ℕ, ◌+◌, ◌-◌, ◌≤◌, ◌<◌, length, set, take, drop, eqb, ℤ}
use Rattle.std.proofs.Common.{sym, ◌∙◌, inl, inr, not-suc-le-zero, arith, length-set, length-drop, get_or-set_same, get_or-set_other, length-take-le, get_or-take, get_or-drop, ext_get_or}
use Rattle.std.proofs.Math.Path.{ap, subst}
use Rattle.std.proofs.Math.Logic.{⊎_elim}
use Rattle.std.proofs.Math.ListN.{get_or, get_or-eq_default}
use Rattle.std.proofs.Math.Dec.{T}
use borrow.Author.Tests.{ne_eqb}
use Rattle.foundations.specs.Members.{mem, mem_there, del, del_mem, place, get_d_mem, mem_occ, place_low, place_at, place_one, distinct_occ}
use Rattle.foundations.specs.Tests.{same?, less?}
use Rattle.model.specs.Graph.{neighbours}
use Rattle.model.specs.Limits.{no_vertex}
use Rattle.model.specs.Mapping.{partner, mapped}
use Rattle.model.specs.Order.{parent, depth, children}
use Rattle.model.specs.Tree.{count}
use Rattle.model.specs.Values.{Subproblem}
use Rattle.subtrees.specs.Connected.{here, above, climb_cases, under_deep}
use Rattle.subtrees.specs.Onward.{under_up, under_child, under?, siblings}
use Rattle.subtrees.specs.Trees.{IsTree, falls, joined_mem, mem_joined, joined_swap}
use Rattle.trees.specs.Rooted.{depth_count, depth_deeper, child_of_lem, of_child_lem, once_children}
use Rattle.solver.specs.Choice.{ChoiceAt, mate_in, has_mate}
use Rattle.readout.specs.Read.{Lies, Blank, Row, Settled, Read, Reading, Room}

module _ (r : List ℕ) (tr : IsTree r) where
  deep : {c x : ℕ} → Lies r c x → depth r c ≤ depth r x
  deep h = under_deep (count r) (parent r) (depth r) (λ x l z. (falls r tr x l z).1) h

  lies? : (c x : ℕ) → x < count r → Lies r c x ⊎ ¬ (Lies r c x)
  lies? c x l = under? (count r) (parent r) (depth r) (falls r tr) c x l

  pub lies_low : {u x : ℕ} → u < count r → Lies r u x → x < count r
  lies_low lu h = ⊎_elim (λ e. subst (λ (y : ℕ). y < count r) (sym e) lu) (λ k. k.0.0) (climb_cases h)

  -- child j of u
  abbrev child_of : ℕ → ℕ → ℕ
  child_of u j = get_or (children r u) j 0

  module _ (u : ℕ) (lu : u < count r) where
    child_is : (j : ℕ) → j < length (children r u) → (child_of u j < count r) × (child_of u j ≢ 0) × (parent r (child_of u j) ≡ u)
    child_is j l = child_of_lem r tr.ends tr.loopless u (child_of u j) lu (get_d_mem (children r u) j l)

    child_place : (j : ℕ) → j < length (children r u) → place (child_of u j) (children r u) ≡ j
    child_place j l = place_one (child_of u j) (children r u) j (distinct_occ (child_of u j) (children r u) (once_children r u)) l refl

    -- a child's subtree is below u, without u
    child_below : (j x : ℕ) → j < length (children r u) → Lies r (child_of u j) x → Lies r u x
    child_below j x l h = let k = child_is j l in subst (λ (y : ℕ). Lies r y x) k.2 (under_up (count r) (parent r) (depth r) (falls r tr) (k.0, k.1) h)

    child_not : (j : ℕ) → j < length (children r u) → ¬ (Lies r (child_of u j) u)
    child_not j l h = let k = child_is j l in off (deep h) (falls r tr (child_of u j) k.0 k.1).1 (ap (depth r) k.2)
      where
        off : {a b c : ℕ} → a ≤ b → c < a → c ≡ b → ⊥
        off h k e = omega arith

    -- subtrees of different children have no vertex in common
    children_apart : (i j x : ℕ) → i < length (children r u) → j < length (children r u) → j ≢ i → Lies r (child_of u j) x → ¬ (Lies r (child_of u i) x)
    children_apart i j x li lj n h k =
        let a = child_is i li in
        let b = child_is j lj in
        let e = siblings (count r) (parent r) (depth r) (falls r tr) (child_of u j) (child_of u i) x (b.0, b.1) (a.0, a.1) (b.2 ∙ sym a.2) h k in
        n (sym (child_place j lj) ∙ ap (λ (y : ℕ). place y (children r u)) e ∙ child_place i li)

  -- a child of a vertex of c's subtree, and the parent of one but c, are of it too
  child_lies : (c x y : ℕ) → x < count r → Lies r c x → T (mem y (children r x)) → Lies r c y
  child_lies c x y l h m = let k = child_of_lem r tr.ends tr.loopless x y l m in above (k.0, k.1) (subst (λ (z : ℕ). Lies r c z) (sym k.2) h)

  module _ (table f : List ℕ) (work : List ℤ) where
    -- a row says the same of bytes that agree on the children
    row_same : (q q' : List ℕ) (x v v' s s' : ℕ) → v ≡ v' → s ≡ s' → ((c : ℕ) → T (mem c (children r x)) → partner q' c ≡ partner q c) → Row table r f work q x v s → Row table r f work q' x v' s'
    row_same q q' x v v' s s' e g k w = subst (λ (y : ℕ). Row table r f work q' x y s') e (subst (λ (y : ℕ). Row table r f work q' x v y) g
        (record { subproblem = w.subproblem; mates = w.mates; choice = w.choice; branches = λ c m. k c m ∙ w.branches c m }))

    mapped_same : (q q' : List ℕ) (x : ℕ) → partner q x ≡ partner q' x → T (mapped q x) → T (mapped q' x)
    unfolding mapped
    mapped_same q q' x e t = subst (λ (z : ℕ). T (not (eqb z no_vertex))) e t

    -- what happens elsewhere leaves a subtree settled
    settled_same : (c s : ℕ) (q q' : List ℕ) → ((x : ℕ) → Lies r c x → partner q' x ≡ partner q x) → Settled table r f work c s q → Settled table r f work c s q'
    settled_same c s q q' e S x h t = ⊎_elim
        (λ k. inl (k.0, row_same q q' x _ _ s s (sym (e x h)) refl (λ y m. e y (child_lies c x y k.1.subproblem.u_low h m)) k.1))
        (λ k. let up : partner q' (parent r x) ≡ partner q (parent r x) = e (parent r x) (⊎_elim (λ z. absurd (k.0 z)) (λ z. z.1) (climb_cases h)) in
        inr (
          k.0,
          mapped_same q q' (parent r x) (sym up) k.1,
          row_same q q' x _ _ _ _ (sym (e x h)) (sym up) (λ y m. e y (child_lies c x y k.2.subproblem.u_low h m)) k.2,
        ))
        (S x h (mapped_same q' q x (e x h) t))

    -- ---- nothing is listed

    pub read_none : (c s : ℕ) (p : List ℕ) → Blank r c p → Read table r f work c no_vertex s p p
    unfolding mapped
    read_none c s p B = record {
      size = refl;
      top = B c here;
      away = λ x n. refl;
      settled = λ x h t. absurd (subst (λ (z : ℕ). T (not (eqb z no_vertex))) (B x h) t);
    }

    -- ---- the pair, then its branch pairs one by one

    module _ (u v : ℕ) (mates p : List ℕ) (lu : u < count r) where
      pub reading_start : u < length p → Blank r u p → Reading table r f work u v mates p 0 (set p u v)
      reading_start lp B = record {
        size = length-set p u v;
        top = get_or-set_same p u v 0 lp;
        away = λ x n. get_or-set_other p u x v 0 (λ e. n (subst (λ (y : ℕ). Lies r u y) (sym e) here));
        done = λ j l. absurd (not-suc-le-zero l);
        left = λ j h l x k. get_or-set_other p u x v 0 (λ e. child_not u lu j l (subst (λ (y : ℕ). Lies r (child_of u j) y) e k)) ∙ B x (child_below u lu j x l k);
      }

      pub reading_more : (i : ℕ) (q q' : List ℕ) → i < length (children r u) → Reading table r f work u v mates p i q → Read table r f work (child_of u i) (get_or mates i 0) v q q' → Reading table r f work u v mates p (i + 1) q'
      reading_more i q q' l S R = record {
        size = R.size ∙ S.size;
        top = R.away u (child_not u lu i l) ∙ S.top;
        away = λ x n. R.away x (λ h. n (child_below u lu i x l h)) ∙ S.away x n;
        done = λ j h lj. ⊎_elim
            (λ e. (subst (λ (k : ℕ). partner q' (child_of u k) ≡ get_or mates k 0) (sym e) R.top, subst (λ (k : ℕ). Settled table r f work (child_of u k) v q') (sym e) R.settled))
            (λ n. let d = S.done j (omega arith) lj in
            (other j lj n (child_of u j) here ∙ d.0, settled_same (child_of u j) v q q' (other j lj n) d.1))
            (same? j i);
        left = λ j h lj x k. other j lj (λ e. omega (arith, e)) x k ∙ S.left j (omega arith) lj x k;
      }
        where
          other : (j : ℕ) → j < length (children r u) → j ≢ i → (x : ℕ) → Lies r (child_of u j) x → partner q' x ≡ partner q x
          other j lj n x h = R.away x (children_apart u lu i j x l lj n h)

      -- every child was listed
      pub reading_done : (s i : ℕ) (q : List ℕ) → length (children r u) ≤ i → Subproblem r f u v s → v ≢ no_vertex → ChoiceAt table r f work u v s mates → Reading table r f work u v mates p i q → Read table r f work u v s p q
      unfolding mapped mate_in
      reading_done s i q h sub nv C S = record {
        size = S.size;
        top = S.top;
        away = S.away;
        settled = λ x k t. ⊎_elim (own x) (λ m. below x m.0 m.1 m.2 m.3 t) (under_child (count r) (parent r) (depth r) (falls r tr) k);
      }
        where
          branches : (c : ℕ) → T (mem c (children r u)) → partner q c ≡ get_or mates (place c (children r u)) 0
          branches c m =
              let o = mem_occ c (children r u) m in
              let a = place_at c (children r u) o in
              let l = place_low c (children r u) o in
              ap (λ (y : ℕ). partner q y) (sym a) ∙ (S.done (place c (children r u)) (omega arith) l).0

          own : (x : ℕ) → x ≡ u → ((x ≡ u) × Row table r f work q x (partner q x) s) ⊎ ((x ≢ u) × T (mapped q (parent r x)) × Row table r f work q x (partner q x) (partner q (parent r x)))
          own x e = inl (
            e,
            subst (λ (y : ℕ). Row table r f work q y (partner q y) s) (sym e) (subst (λ (y : ℕ). Row table r f work q u y s) (sym S.top)
                (record { subproblem = sub; mates = mates; choice = C; branches = branches })),
          )

          below : (x c : ℕ) → (c < count r) × (c ≢ 0) → parent r c ≡ u → Lies r c x → T (mapped q x) → ((x ≡ u) × Row table r f work q x (partner q x) s) ⊎ ((x ≢ u) × T (mapped q (parent r x)) × Row table r f work q x (partner q x) (partner q (parent r x)))
          below x c z e k t =
              let m : T (mem c (children r u)) = subst (λ (y : ℕ). T (mem c (children r y))) e (of_child_lem r tr.ends tr.loopless c z.0 z.1) in
              let o = mem_occ c (children r u) m in
              let a = place_at c (children r u) o in
              let l = place_low c (children r u) o in
              let n : x ≢ u = λ w. child_not u lu (place c (children r u)) l (subst (λ (y : ℕ). Lies r y u) (sym a) (subst (λ (y : ℕ). Lies r c y) w k)) in
              ⊎_elim
              (λ g. let up : parent r x ≡ u = ap (parent r) g.0 ∙ e in
              inr (n, subst (λ (y : ℕ). T (mapped q y)) (sym up) (top_on), subst (λ (y : ℕ). Row table r f work q x (partner q x) y) (sym (ap (λ (y : ℕ). partner q y) up ∙ S.top)) g.1))
              (λ g. inr (n, g.1, g.2))
              (subst (λ (y : ℕ). Settled table r f work y v q) a (S.done (place c (children r u)) (omega arith) l).1 x k t)
            where
              top_on : T (mapped q u)
              top_on = rw (S.top, ne_eqb v no_vertex nv) tt

    -- ---- a buffer longer than the mapping: the front by itself, and the rest

    pub read_front : (u v s : ℕ) (p q : List ℕ) → u < count r → count r ≤ length p → Read table r f work u v s p q → Read table r f work u v s (take (count r) p) (take (count r) q)
    read_front u v s p q lu l R =
        let lq : count r ≤ length q = rw R.size l in
        record {
          size = length-take-le (count r) q lq ∙ sym (length-take-le (count r) p l);
          top = get_or-take (count r) q u 0 lu ∙ R.top;
          away = λ x n. ⊎_elim
              (λ k. get_or-take (count r) q x 0 k ∙ R.away x n ∙ sym (get_or-take (count r) p x 0 k))
              (λ k. get_or-eq_default (take (count r) q) 0 (rw (length-take-le (count r) q lq) k) ∙ sym (get_or-eq_default (take (count r) p) 0 (rw (length-take-le (count r) p l) k)))
              (less? x (count r));
          settled = settled_same u s q (take (count r) q) (λ x h. get_or-take (count r) q x 0 (lies_low lu h)) R.settled;
        }

    pub read_rest : (u v s : ℕ) (p q : List ℕ) → u < count r → Read table r f work u v s p q → drop (count r) q ≡ drop (count r) p
    read_rest u v s p q lu R = ext_get_or 0 (drop (count r) q) (drop (count r) p)
        (length-drop (count r) q ∙ ap (λ (k : ℕ). k - count r) R.size ∙ sym (length-drop (count r) p))
        (λ i h. get_or-drop (count r) q i 0 ∙ R.away (count r + i) (λ k. off i (lies_low lu k)) ∙ sym (get_or-drop (count r) p i 0))
      where
        off : (i : ℕ) → count r + i < count r → ⊥
        off i h = omega arith

  -- ---- the call of a branch

  pub room_deep : (u d : ℕ) (p : List ℕ) → Room r u d p → 1 ≤ d
  room_deep u d p R = let a = depth_count r tr.ends tr.loopless u R.low in let b : count r ≤ depth r u + d = R.deep in omega arith

  module _ (table f : List ℕ) (work : List ℤ) where
    pub room_child : (u v d i : ℕ) (mates p q : List ℕ) → Room r u d p → i < length (children r u) → Reading table r f work u v mates p i q → Room r (child_of u i) (d - 1) q
    room_child u v d i mates p q R l S =
        let k = child_is u R.low i l in
        let a = room_deep u d p R in
        let b : count r ≤ depth r u + d = R.deep in
        let c = depth_deeper r tr.ends tr.loopless (child_of u i) k.0 k.1 in
        let e : depth r (parent r (child_of u i)) ≡ depth r u = ap (depth r) k.2 in
        record { low = k.0; blank = S.left i (omega arith) l; long = rw S.size R.long; deep = omega arith }

  module _ (f : List ℕ) (tf : IsTree f) (table : List ℕ) (work : List ℤ) where
    -- the mate of a child makes a subproblem with it
    pub child_subproblem : (u v s i : ℕ) (mates : List ℕ) → u < count r → i < length (children r u) → ChoiceAt table r f work u v s mates → get_or mates i 0 ≢ no_vertex → Subproblem r f (child_of u i) (get_or mates i 0) v
    unfolding has_mate mate_in
    child_subproblem u v s i mates lu l C n =
        let e = child_place u lu i l in
        let has : T (not (eqb (get_or mates (place (child_of u i) (children r u)) 0) no_vertex)) = rw (e, ne_eqb (get_or mates i 0) no_vertex n) tt in
        let m : T (mem (get_or mates i 0) (del s (neighbours f v))) = subst (λ (j : ℕ). T (mem (get_or mates j 0) (del s (neighbours f v)))) e (C.free (child_of u i) (get_d_mem (children r u) i l) has) in
        let h = mem_joined f tf v (get_or mates i 0) (del_mem (get_or mates i 0) s (neighbours f v) m).0 in
        record {
          u_low = (child_is u lu i l).0;
          v_low = h.0;
          s_in = mem_there v (get_or mates i 0) (neighbours f (get_or mates i 0)) (joined_mem f tf (get_or mates i 0) v (joined_swap f tf v (get_or mates i 0) h.1));
        }
