-- Postorder of a tree that is given by its parents, 0 the root: each vertex once, children before their parent. Assumes nothing.
use Rattle.std.specs.Prelude.{◌≡◌, ◌≢◌, Bool, false, ◌&&◌, ◌||◌, not, eqb}
use Rattle.std.proofs.Math.Path.{refl, sym, ap}
use Rattle.std.proofs.Common.{◌∙◌, true≢false}
use mathlib.Core.List.{List, [], ◌∷◌, ◌++◌}
use Rattle.std.proofs.Math.Bool.{true, cond}
use Prim.Native.Nat.{ℕ, zero, suc, ◌+◌, ◌≤◌, ◌<◌}
use native.Mathlib.Omega.{arith}
use Rattle.std.proofs.Math.Decide.{ℕ_discrete, dec_lt}
use Rattle.std.proofs.Math.ListN.{length}
use borrow.Author.Tests.{eq-eqb, ne_eqb}
use Rattle.foundations.specs.Tests.{and_false, and_first, is_false}
use Rattle.foundations.specs.Counting.{cnt, cnt_none, cnt_ext, cnt_drop, pigeon, Twice}
use Rattle.foundations.specs.Lists.{below, cat}
use Rattle.foundations.specs.Members.{occ, occ_append, occ_cat, place, place_low, place_in, place_out, Ahead, ahead_append, ahead_cat, AllLow, low_append, low_cat}

-- w is a child of v; 0 is the root.
unfoldable pub child : (ℕ → ℕ) → ℕ → ℕ → Bool
child parent v w = not (eqb w 0) && eqb (parent w) v

-- The tree below v in postorder, children ascending, to the depth k.
unfoldable pub po : (ℕ → ℕ) → ℕ → ℕ → ℕ → List ℕ
po parent n zero v = []
po parent n (suc k) v = cat (λ w. po parent n k w) (below (child parent v) n) ++ (v ∷ [])

-- x is v, or climbs to v in fewer than k steps.
unfoldable pub under : (ℕ → ℕ) → ℕ → ℕ → ℕ → Bool
under parent zero x v = false
under parent (suc k) x v = eqb x v || (not (eqb x 0) && under parent k (parent x) v)

module _ (parent : ℕ → ℕ) where
  under_here : (k x v : ℕ) → x ≡ v → under parent (suc k) x v ≡ true
  unfolding under
  under_here k x v e = rw (eq-eqb x v e)

  under_in : (k x v : ℕ) → 1 ≤ k → x ≡ v → under parent k x v ≡ true
  under_in zero x v h e = absurd (omega arith)
  under_in (suc k) x v h e = under_here k x v e

  under_up : (k x v : ℕ) → x ≢ v → x ≢ 0 → under parent (suc k) x v ≡ under parent k (parent x) v
  unfolding under
  under_up k x v e z = rw (ne_eqb x v e, ne_eqb x 0 z)

  under_top : (k x v : ℕ) → x ≢ v → x ≡ 0 → under parent (suc k) x v ≡ false
  unfolding under
  under_top k x v e z = rw (ne_eqb x v e, eq-eqb x 0 z)

  pub child_yes : (v w : ℕ) → w ≢ 0 → parent w ≡ v → child parent v w ≡ true
  unfolding child
  child_yes v w z e = rw (ne_eqb w 0 z, eq-eqb (parent w) v e)

  pub child_no : (v w : ℕ) → parent w ≢ v → child parent v w ≡ false
  unfolding child
  child_no v w e = rw (ne_eqb (parent w) v e) (and_false (not (eqb w 0)))

  -- What a test says of a child.
  pub child_says : (v w : ℕ) → child parent v w ≡ true → (w ≢ 0) × (parent w ≡ v)
  unfolding child
  child_says v w h = step (ℕ_discrete w 0) (ℕ_discrete (parent w) v)
    where
      step : Dec (w ≡ 0) → Dec (parent w ≡ v) → (w ≢ 0) × (parent w ≡ v)
      step (yes z) d = absurd (true≢false (sym h ∙ rw (eq-eqb w 0 z)))
      step (no z) (yes d) = (z, d)
      step (no z) (no d) = absurd (true≢false (sym h ∙ child_no v w d))

module _
    (n : ℕ)
    (parent depth : ℕ → ℕ)
    (low : (x : ℕ) → x < n → x ≢ 0 → parent x < n)
    (deeper : (x : ℕ) → x < n → x ≢ 0 → depth x ≡ suc (depth (parent x)))
  where
    under_depth : (k x v : ℕ) → x < n → under parent k x v ≡ true → depth v ≤ depth x
    unfolding under
    under_depth zero x v l h = absurd (true≢false (sym h))
    under_depth (suc k) x v l h = step (ℕ_discrete x v) (ℕ_discrete x 0) (under_depth k (parent x) v)
      where
        step : Dec (x ≡ v) → Dec (x ≡ 0) → (parent x < n → under parent k (parent x) v ≡ true → depth v ≤ depth (parent x)) → depth v ≤ depth x
        step (yes e) d r = let q : depth x ≡ depth v = ap depth e in omega arith
        step (no e) (yes z) r = absurd (true≢false (sym h ∙ under_top parent k x v e z))
        step (no e) (no z) r = let a : depth v ≤ depth (parent x) = r (low x l z) (sym (under_up parent k x v e z) ∙ h) in let b : depth x ≡ suc (depth (parent x)) = deeper x l z in omega arith

    -- No child of x is above x.
    none_below : (k x w : ℕ) → x < n → w < n → (child parent x w && under parent k x w) ≡ false
    none_below k x w lx lw = and_first (child parent x w) (under parent k x w) (λ c. is_false (under parent k x w) (λ u. clash (child_says parent x w c) (under_depth k x w lx u)))
      where
        clash : (w ≢ 0) × (parent w ≡ x) → depth w ≤ depth x → ⊥
        clash s d = let a : depth w ≡ suc (depth (parent w)) = deeper w lw s.0 in let b : depth (parent w) ≡ depth x = ap depth s.1 in omega arith

    under_one : (x v : ℕ) → x ≢ v → under parent 1 x v ≡ false
    unfolding under
    under_one x v ne = rw (ne_eqb x v ne) (and_false (not (eqb x 0)))

    -- Exactly one child of v has x below it, where x is below v and not v.
    branch_here : (k x v : ℕ) → x < n → x ≢ v → x ≢ 0 → parent x ≡ v → cnt (λ w. child parent v w && under parent (suc k) x w) n ≡ 1
    branch_here k x v l ne z e =
        let lv : v < n = rw (← e) (low x l z) in
        cnt_drop (λ w. child parent v w && under parent (suc k) x w) (λ w. false) x n l (rw (child_yes parent v x z e) (under_here parent k x x refl)) refl
        (λ w lw d. rw (under_up parent k x w (λ q. d (sym q)) z, e) (none_below k v w lv lw))
        ∙ rw (cnt_none (λ w. false) n (λ w lw. refl))

    branch_on : (k x v w : ℕ) → x ≢ 0 → parent x ≢ v → (child parent v w && under parent (suc k) x w) ≡ (child parent v w && under parent k (parent x) w)
    branch_on k x v w z e = step (ℕ_discrete w x)
      where
        step : Dec (w ≡ x) → (child parent v w && under parent (suc k) x w) ≡ (child parent v w && under parent k (parent x) w)
        step (yes d) = let c : child parent v w ≡ false = child_no parent v w (λ q. e (ap parent (sym d) ∙ q)) in rw c
        step (no d) = rw (under_up parent k x w (λ q. d (sym q)) z)

    branch_top : (k x v w : ℕ) → x ≡ 0 → (child parent v w && under parent (suc k) x w) ≡ false
    branch_top k x v w z = and_first (child parent v w) (under parent (suc k) x w) (λ c. under_top parent k x w (λ q. (child_says parent v w c).0 (sym q ∙ z)) z)

    one_branch : (k x v : ℕ) → x < n → x ≢ v → cnt (λ w. child parent v w && under parent k x w) n ≡ cond (under parent (suc k) x v) 1 0
    unfolding under
    one_branch zero x v l ne = cnt_none (λ w. child parent v w && false) n (λ w lw. and_false (child parent v w)) ∙ sym (ap (λ t. cond t 1 0) (under_one x v ne))
    one_branch (suc k) x v l ne = step (ℕ_discrete x 0) (ℕ_discrete (parent x) v) (one_branch k (parent x) v)
      where
        step : Dec (x ≡ 0) → Dec (parent x ≡ v) → (parent x < n → parent x ≢ v → cnt (λ w. child parent v w && under parent k (parent x) w) n ≡ cond (under parent (suc k) (parent x) v) 1 0) → cnt (λ w. child parent v w && under parent (suc k) x w) n ≡ cond (under parent (suc (suc k)) x v) 1 0
        step (yes z) d r = cnt_none (λ w. child parent v w && under parent (suc k) x w) n (λ w lw. branch_top k x v w z) ∙ sym (ap (λ t. cond t 1 0) (under_top parent (suc k) x v ne z))
        step (no z) (yes e) r = branch_here k x v l ne z e ∙ sym (ap (λ t. cond t 1 0) (under_up parent (suc k) x v ne z ∙ under_here parent k (parent x) v e))
        step (no z) (no e) r = cnt_ext (λ w. child parent v w && under parent (suc k) x w) (λ w. child parent v w && under parent k (parent x) w) n (λ w lw. branch_on k x v w z e) ∙ r (low x l z) e ∙ sym (ap (λ t. cond t 1 0) (under_up parent (suc k) x v ne z))

    -- x stands once in the postorder of v where it is below v, and else not at all.
    pub occ_po : (k x v : ℕ) → x < n → occ x (po parent n k v) ≡ cond (under parent k x v) 1 0
    unfolding po occ under
    occ_po zero x v l = refl
    occ_po (suc k) x v l =
        occ_append x (cat (λ w. po parent n k w) (below (child parent v) n)) (v ∷ []) ∙ ap (λ m. m + (cond (eqb x v) 1 0 + 0)) (occ_cat x (λ w. po parent n k w) (child parent v) (λ w. under parent k x w) n (λ w lw. occ_po k x w l)) ∙ step (ℕ_discrete x v)
      where
        step : Dec (x ≡ v) → cnt (λ w. child parent v w && under parent k x w) n + (cond (eqb x v) 1 0 + 0) ≡ cond (under parent (suc k) x v) 1 0
        step (yes e) = let z : cnt (λ w. child parent v w && under parent k x w) n ≡ 0 = cnt_none (λ w. child parent v w && under parent k x w) n (λ w lw. rw (← e) (none_below k x w l lw)) in rw (z, under_here parent k x v e, eq-eqb x v e)
        step (no e) = rw (one_branch k x v l e, ne_eqb x v e) (omega arith)

    -- A child stands before its parent, where k is enough for all the vertices below v.
    pub ahead : (k v x w : ℕ) → ((y : ℕ) → y < n → depth y < depth v + k) → x < n → w < n → w ≢ 0 → parent w ≡ x → 1 ≤ occ x (po parent n k v) → Ahead w x (po parent n k v)
    unfolding po occ
    ahead zero v x w full lx lw z e o = absurd (omega arith)
    ahead (suc k) v x w full lx lw z e o = step (ℕ_discrete x v) (λ c g. ahead k c x w g lx lw z e)
      where
        C : List ℕ
        C = cat (λ c. po parent n k c) (below (child parent v) n)

        dw : depth w ≡ suc (depth x)
        dw = deeper w lw z ∙ ap (λ y. suc (depth y)) e

        count : occ w (C ++ (v ∷ [])) ≡ cond (under parent (suc k) w v) 1 0
        count = unfold po in occ_po (suc k) w v lw

        -- w below x, where x is v
        whole : x ≡ v → Ahead w x (C ++ (v ∷ []))
        whole d =
            let dv : depth x ≡ depth v = ap depth d in
            let fw : depth w < depth v + suc k = full w lw in
            let ne : w ≢ v = λ q. let g : depth w ≡ depth v = ap depth q in absurd (omega (arith, dw)) in
            let uw : under parent (suc k) w v ≡ true = under_up parent k w v ne z ∙ under_in parent k (parent w) v (omega (arith, dw)) (e ∙ d) in
            let cw : occ w (C ++ (v ∷ [])) ≡ 1 = count ∙ ap (λ t. cond t 1 0) uw in
            let cx : occ x (C ++ (v ∷ [])) ≡ 1 = unfold po in (occ_po (suc k) x v lx ∙ ap (λ t. cond t 1 0) (under_here parent k x v d)) in
            let vw : occ w (v ∷ []) ≡ 0 = rw (ne_eqb w v ne) refl in
            let vx : occ x (v ∷ []) ≡ 1 = rw (eq-eqb x v d) refl in
            let aw : occ w (C ++ (v ∷ [])) ≡ occ w C + occ w (v ∷ []) = occ_append w C (v ∷ []) in
            let ax : occ x (C ++ (v ∷ [])) ≡ occ x C + occ x (v ∷ []) = occ_append x C (v ∷ []) in
            let ow : 1 ≤ occ w C = omega arith in
            let ox : occ x C ≡ 0 = omega arith in
            let l : place w C < length C = place_low w C ow in
            record { there = omega arith; first = rw (place_in w C (v ∷ []) ow, place_out x C (v ∷ []) ox) (omega arith) }

        deeper_in : (c : ℕ) → c < n → child parent v c ≡ true → (y : ℕ) → y < n → depth y < depth c + k
        deeper_in c lc h y ly =
            let s = child_says parent v c h in
            let a : depth c ≡ suc (depth (parent c)) = deeper c lc s.0 in
            let b : depth (parent c) ≡ depth v = ap depth s.1 in
            let f : depth y < depth v + suc k = full y ly in
            omega arith

        step : Dec (x ≡ v) → ((c : ℕ) → ((y : ℕ) → y < n → depth y < depth c + k) → 1 ≤ occ x (po parent n k c) → Ahead w x (po parent n k c)) → Ahead w x (C ++ (v ∷ []))
        step (yes d) r = whole d
        step (no d) r = ahead_append w x C (v ∷ []) (ahead_cat w x (λ c. po parent n k c) (child parent v) n (λ c lc h q. r c (deeper_in c lc h) q)) (λ q. let g : 0 + 0 ≡ occ x (v ∷ []) = rw (ne_eqb x v d) refl in absurd (omega arith)) o

    -- ---- every vertex is in the postorder of the root

    module _ (root : depth 0 ≡ 0) where
      anc : ℕ → ℕ → ℕ
      anc zero x = x
      anc (suc d) x = parent (anc d x)

      anc_depth : (x d : ℕ) → x < n → d ≤ depth x → (anc d x < n) × (depth (anc d x) + d ≡ depth x)
      unfolding anc
      anc_depth x zero l h = (l, omega arith)
      anc_depth x (suc d) l h = step (anc_depth x d l (omega arith))
        where
          step : (anc d x < n) × (depth (anc d x) + d ≡ depth x) → (parent (anc d x) < n) × (depth (parent (anc d x)) + suc d ≡ depth x)
          step r =
              let e : depth (anc d x) + d ≡ depth x = r.1 in
              let z : anc d x ≢ 0 = λ q. let s : depth (anc d x) ≡ 0 = ap depth q ∙ root in absurd (omega arith) in
              let b : depth (anc d x) ≡ suc (depth (parent (anc d x))) = deeper (anc d x) r.0 z in
              (low (anc d x) r.0 z, omega arith)

      pub depth_low : (x : ℕ) → x < n → depth x < n
      depth_low x l = step (dec_lt (depth x) n)
        where
          clash : n ≤ depth x → Twice (λ d. anc d x) (suc n) → ⊥
          clash h t =
              let a : t.one < t.two = t.less in
              let b : t.two < suc n = t.low in
              let p : depth (anc t.one x) + t.one ≡ depth x = (anc_depth x t.one l (omega arith)).1 in
              let q : depth (anc t.two x) + t.two ≡ depth x = (anc_depth x t.two l (omega arith)).1 in
              let e : depth (anc t.one x) ≡ depth (anc t.two x) = ap depth t.equal in
              omega arith

          step : Dec (depth x < n) → depth x < n
          step (yes h) = h
          step (no h) = let g : n ≤ depth x = omega arith in absurd (clash g (pigeon n (λ d. anc d x) (λ d m. (anc_depth x d l (omega arith)).0)))

      under_climb : (k x : ℕ) → x < n → depth x < k → under parent k x 0 ≡ true
      under_climb zero x l h = absurd (omega arith)
      under_climb (suc k) x l h = step (ℕ_discrete x 0) (under_climb k (parent x))
        where
          step : Dec (x ≡ 0) → (parent x < n → depth (parent x) < k → under parent k (parent x) 0 ≡ true) → under parent (suc k) x 0 ≡ true
          step (yes z) r = under_here parent k x 0 z
          step (no z) r = let b : depth x ≡ suc (depth (parent x)) = deeper x l z in under_up parent k x 0 z z ∙ r (low x l z) (omega arith)

      -- With fuel for n steps or more each vertex stands once in the order.
      pub once : (k x : ℕ) → n ≤ k → x < n → occ x (po parent n k 0) ≡ 1
      once k x h l = let d : depth x < n = depth_low x l in occ_po k x 0 l ∙ ap (λ t. cond t 1 0) (under_climb k x l (omega arith))

pub low_po : (parent : ℕ → ℕ) (n k v : ℕ) → v < n → AllLow n (po parent n k v)
unfolding po
low_po parent n zero v l = λ i b. absurd (omega arith)
low_po parent n (suc k) v l = low_append n (cat (λ w. po parent n k w) (below (child parent v) n)) (v ∷ []) (low_cat n (λ w. po parent n k w) (child parent v) n (λ c lc. low_po parent n k c lc)) last
  where
    last : AllLow n (v ∷ [])
    last zero b = l
    last (suc i) b = absurd (omega arith)
