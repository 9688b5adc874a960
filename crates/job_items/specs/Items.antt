-- The items of start, advance and finish, one after the other. Assumes nothing.
use Rattle.std.specs.Prelude.{◌≡◌, refl, ◌≢◌, Bool, true, false, not, cond, ◌&&◌, List, [], ◌∷◌, ◌++◌, ℕ, ◌*◌, ◌-◌, ◌≤◌, ◌<◌, length, eqb, ltb, ℤ}
use Rattle.std.proofs.Common.{sym, ◌∙◌, ⊎_elim, true≢false, append_assoc, arith}
use Rattle.std.proofs.Math.Path.{ap}
use Rattle.std.proofs.Math.Dec.{leb}
use borrow.Author.Tests.{lt-ltb, le-ltb, eqb-true, leb-true}
use Rattle.foundations.specs.Tests.{same?, less?, and_split}
use Rattle.model.specs.declared.JobRecord.{JobRecord}
use Rattle.model.specs.Limits.{vertex_limit}
use Rattle.model.specs.Refusals.{Item, item, first_of}
use Rattle.model.specs.Tree.{count}
use Rattle.model.specs.Order.{width, subproblems}
use Rattle.model.specs.Calls.{input_items, input_item, work_item, mapping_item}
use Rattle.model.specs.Jobs.{count_ok, record_ok, same_trees, work_ok, is_left, start_items, advance_items, start_item, advance_item, finish_item}
use Rattle.trees.specs.Items.{Numbered, end, more, numbered_append, first_here, first_then}
use Rattle.formats.specs.Inputs.{input_numbered}

-- 1 to 15, 25 and 26: what an advance and a finish test before they look at the work numbers
unfoldable pub early_item : JobRecord → List ℕ → List ℕ → List ℕ → List ℤ → ℕ
early_item j table recorded found work = first_of (start_items table recorded found work ++ (item 14 (not (record_ok j)) ∷ item 15 (not (same_trees j recorded found)) ∷ []))

-- an item that applies, or does not, before a later number
not_yes : (t : Bool) (k x : ℕ) → t ≡ false → cond (not t) k x ≡ k
not_yes t k x e = rw e

not_no : (t : Bool) (k x : ℕ) → t ≡ true → cond (not t) k x ≡ x
not_no t k x e = rw e

-- none applies, so this one does not
not_off : (t : Bool) (k x : ℕ) → 1 ≤ k → cond (not t) k x ≡ 0 → (t ≡ true) × (x ≡ 0)
not_off true k x l h = (refl, h)
not_off false k x l h = absurd (omega arith)

cond_off : (t : Bool) (k x : ℕ) → 1 ≤ k → cond t k x ≡ 0 → (t ≡ false) × (x ≡ 0)
cond_off true k x l h = absurd (omega arith)
cond_off false k x l h = (refl, h)

-- ---- 14 and 17 as the code tests them

-- the record is not idle and its counts may be those of trees
abbrev early : JobRecord → Bool
early j = not j.idle && (count_ok j.n && count_ok j.m)

and_end : (a b c d : Bool) → (a && (b && c)) ≡ true → (a && (b && (c && d))) ≡ d
and_end true true true d h = refl
and_end true true false d h = absurd (true≢false (sym h))
and_end true false c d h = absurd (true≢false (sym h))
and_end false b c d h = absurd (true≢false (sym h))

and_none : (a b c d : Bool) → (a && (b && c)) ≡ false → (a && (b && (c && d))) ≡ false
and_none true true true d h = absurd (true≢false h)
and_none true true false d h = refl
and_none true false c d h = refl
and_none false b c d h = refl

pub record_fails : (j : JobRecord) → early j ≡ false → record_ok j ≡ false
unfolding record_ok
record_fails j h = and_none (not j.idle) (count_ok j.n) (count_ok j.m) (leb j.position (j.n * (3 * j.m - 2))) h

pub record_is : (j : JobRecord) → early j ≡ true → record_ok j ≡ leb j.position (j.n * (3 * j.m - 2))
unfolding record_ok
record_is j h = and_end (not j.idle) (count_ok j.n) (count_ok j.m) (leb j.position (j.n * (3 * j.m - 2))) h

-- the counts are then those of trees
pub record_counts : (j : JobRecord) → early j ≡ true → (j.n ≤ vertex_limit) × (1 ≤ j.m) × (j.m ≤ vertex_limit)
record_counts j h =
    let a = (and_split (not j.idle) (count_ok j.n && count_ok j.m) h).1 in
    let b = and_split (count_ok j.n) (count_ok j.m) a in
    let n = and_split (leb 1 j.n) (leb j.n vertex_limit) b.0 in
    let m = and_split (leb 1 j.m) (leb j.m vertex_limit) b.1 in
    (leb-true j.n vertex_limit n.1, leb-true 1 j.m m.0, leb-true j.m vertex_limit m.1)

module _ (table r f : List ℕ) (work : List ℤ) where
  -- ---- start: 1 to 13, 25 and 26

  pub start_input : input_item table r f ≢ 0 → start_item table r f work ≡ input_item table r f
  unfolding start_item input_item
  start_input h = first_here (input_items table r f) (work_item r f work ∷ []) h

  start_late : input_item table r f ≡ 0 → start_item table r f work ≡ cond (ltb (length work) (subproblems r f)) 13 0
  unfolding start_item input_item first_of
  start_late e = first_then (work_item r f work ∷ []) (input_numbered table r f) e

  pub start_work : input_item table r f ≡ 0 → length work < subproblems r f → start_item table r f work ≡ 13
  start_work e h = start_late e ∙ rw (lt-ltb (length work) (subproblems r f) h)

  pub start_none : input_item table r f ≡ 0 → subproblems r f ≤ length work → start_item table r f work ≡ 0
  start_none e h = start_late e ∙ rw (le-ltb (length work) (subproblems r f) h)

  pub start_passed : start_item table r f work ≡ 0 → (input_item table r f ≡ 0) × (subproblems r f ≤ length work)
  start_passed h = (input, enough)
    where
      input : input_item table r f ≡ 0
      input = ⊎_elim (λ e. e) (λ n. absurd (n (sym (start_input n) ∙ h))) (same? (input_item table r f) 0)

      enough : subproblems r f ≤ length work
      enough = ⊎_elim (λ l. absurd (off (sym (start_work input l) ∙ h))) (λ l. l) (less? (length work) (subproblems r f))
        where
          off : ◌≡◌ {A = ℕ} 13 0 → ⊥
          off e = omega arith

  pub start_numbered : Numbered (start_items table r f work)
  start_numbered = numbered_append (input_numbered table r f) (more {k = 13} (omega arith) end)

  pub regroup : (i : Item) → input_items table r f ++ (work_item r f work ∷ i ∷ []) ≡ start_items table r f work ++ (i ∷ [])
  regroup i = sym (append_assoc (input_items table r f) (work_item r f work ∷ []) (i ∷ []))

  -- ---- a call that tests 1 to 13, 25 and 26 and one item more (the match in one call 18, writing a certificate 19), which applies where x is less than y

  module _ (k x y : ℕ) where
    abbrev last_item : ℕ
    last_item = first_of (input_items table r f ++ (work_item r f work ∷ item k (ltb x y) ∷ []))

    pub last_start : start_item table r f work ≢ 0 → last_item ≡ start_item table r f work
    unfolding start_item
    last_start h = ap first_of (regroup (item k (ltb x y))) ∙ first_here (start_items table r f work) (item k (ltb x y) ∷ []) h

    last_late : start_item table r f work ≡ 0 → last_item ≡ cond (ltb x y) k 0
    unfolding start_item first_of
    last_late e = ap first_of (regroup (item k (ltb x y))) ∙ first_then (item k (ltb x y) ∷ []) start_numbered e

    pub last_yes : start_item table r f work ≡ 0 → x < y → last_item ≡ k
    last_yes e h = last_late e ∙ rw (lt-ltb x y h)

    pub last_none : start_item table r f work ≡ 0 → y ≤ x → last_item ≡ 0
    last_none e h = last_late e ∙ rw (le-ltb x y h)

    pub last_passed : 1 ≤ k → last_item ≡ 0 → (input_item table r f ≡ 0) × (subproblems r f ≤ length work) × (y ≤ x)
    last_passed some h =
        let s : start_item table r f work ≡ 0 = ⊎_elim (λ e. e) (λ n. absurd (n (sym (last_start n) ∙ h))) (same? (start_item table r f work) 0) in
        let p = start_passed s in
        (p.0, p.1, ⊎_elim (λ l. let e : k ≡ 0 = sym (last_yes s l) ∙ h in absurd (omega arith)) (λ l. l) (less? x y))

  module _ (j : JobRecord) where
    -- ---- 14 and 15

    pub early_start : start_item table r f work ≢ 0 → early_item j table r f work ≡ start_item table r f work
    unfolding early_item start_item
    early_start h = first_here (start_items table r f work) (item 14 (not (record_ok j)) ∷ item 15 (not (same_trees j r f)) ∷ []) h

    early_late : start_item table r f work ≡ 0 → early_item j table r f work ≡ cond (not (record_ok j)) 14 (cond (not (same_trees j r f)) 15 0)
    unfolding early_item start_item first_of
    early_late e = first_then (item 14 (not (record_ok j)) ∷ item 15 (not (same_trees j r f)) ∷ []) start_numbered e

    pub early_record : start_item table r f work ≡ 0 → record_ok j ≡ false → early_item j table r f work ≡ 14
    early_record e h = early_late e ∙ not_yes (record_ok j) 14 _ h

    pub early_trees : start_item table r f work ≡ 0 → record_ok j ≡ true → same_trees j r f ≡ false → early_item j table r f work ≡ 15
    early_trees e h k = early_late e ∙ not_no (record_ok j) 14 _ h ∙ not_yes (same_trees j r f) 15 0 k

    pub early_none : start_item table r f work ≡ 0 → record_ok j ≡ true → same_trees j r f ≡ true → early_item j table r f work ≡ 0
    early_none e h k = early_late e ∙ not_no (record_ok j) 14 _ h ∙ not_no (same_trees j r f) 15 0 k

    -- 14 and 15 do not apply: the position lies in the trees' own range
    position_in : record_ok j ≡ true → same_trees j r f ≡ true → j.position ≤ subproblems r f
    unfolding record_ok same_trees subproblems width
    position_in h k =
        let a = (and_split (not j.idle) (count_ok j.n && (count_ok j.m && leb j.position (j.n * (3 * j.m - 2)))) h).1 in
        let b = (and_split (count_ok j.n) (count_ok j.m && leb j.position (j.n * (3 * j.m - 2))) a).1 in
        let c = (and_split (count_ok j.m) (leb j.position (j.n * (3 * j.m - 2))) b).1 in
        let e = and_split (eqb j.n (count r)) (eqb j.m (count f)) k in
        rw (← eqb-true j.n (count r) e.0, ← eqb-true j.m (count f) e.1) (leb-true j.position (j.n * (3 * j.m - 2)) c)

    early_says : early_item j table r f work ≡ 0 → (start_item table r f work ≡ 0) × (record_ok j ≡ true) × (same_trees j r f ≡ true)
    early_says h =
        let s : start_item table r f work ≡ 0 = ⊎_elim (λ e. e) (λ n. absurd (n (sym (early_start n) ∙ h))) (same? (start_item table r f work) 0) in
        let a = not_off (record_ok j) 14 (cond (not (same_trees j r f)) 15 0) (omega arith) (sym (early_late s) ∙ h) in
        let b = not_off (same_trees j r f) 15 0 (omega arith) a.1 in
        (s, a.0, b.0)

    pub early_passed : early_item j table r f work ≡ 0 → (input_item table r f ≡ 0) × (subproblems r f ≤ length work) × (record_ok j ≡ true) × (same_trees j r f ≡ true) × (j.position ≤ subproblems r f)
    early_passed h =
        let a = early_says h in
        let s = start_passed a.0 in
        (s.0, s.1, a.1, a.2, position_in a.1 a.2)

    -- ---- advance: 1 to 16, 25 and 26

    advance_start : start_item table r f work ≢ 0 → advance_item j table r f work ≡ start_item table r f work
    unfolding advance_item start_item
    advance_start h = first_here (start_items table r f work) (item 14 (not (record_ok j)) ∷ item 15 (not (same_trees j r f)) ∷ item 16 (not (work_ok table r f work j.position)) ∷ []) h

    advance_late : start_item table r f work ≡ 0 → advance_item j table r f work ≡ cond (not (record_ok j)) 14 (cond (not (same_trees j r f)) 15 (cond (not (work_ok table r f work j.position)) 16 0))
    unfolding advance_item start_item first_of
    advance_late e = first_then (item 14 (not (record_ok j)) ∷ item 15 (not (same_trees j r f)) ∷ item 16 (not (work_ok table r f work j.position)) ∷ []) start_numbered e

    pub advance_early : early_item j table r f work ≢ 0 → advance_item j table r f work ≡ early_item j table r f work
    advance_early h = ⊎_elim
        (λ e. advance_late e ∙ same (record_ok j) (same_trees j r f) _ (λ z. h (early_late e ∙ z)) ∙ sym (early_late e))
        (λ n. advance_start n ∙ sym (early_start n))
        (same? (start_item table r f work) 0)
      where
        same : (a b : Bool) (x : ℕ) → (◌≡◌ {A = ℕ} (cond (not a) 14 (cond (not b) 15 0)) 0 → ⊥) → ◌≡◌ {A = ℕ} (cond (not a) 14 (cond (not b) 15 x)) (cond (not a) 14 (cond (not b) 15 0))
        same true true x n = absurd (n refl)
        same true false x n = refl
        same false b x n = refl

    advance_then : early_item j table r f work ≡ 0 → advance_item j table r f work ≡ cond (not (work_ok table r f work j.position)) 16 0
    advance_then e = let a = early_says e in advance_late a.0 ∙ not_no (record_ok j) 14 _ a.1 ∙ not_no (same_trees j r f) 15 _ a.2

    pub advance_work_lem : early_item j table r f work ≡ 0 → work_ok table r f work j.position ≡ false → advance_item j table r f work ≡ 16
    advance_work_lem e h = advance_then e ∙ not_yes (work_ok table r f work j.position) 16 0 h

    pub advance_none : early_item j table r f work ≡ 0 → work_ok table r f work j.position ≡ true → advance_item j table r f work ≡ 0
    advance_none e h = advance_then e ∙ not_no (work_ok table r f work j.position) 16 0 h

    pub advance_passed : advance_item j table r f work ≡ 0 → (early_item j table r f work ≡ 0) × (work_ok table r f work j.position ≡ true)
    advance_passed h =
        let e : early_item j table r f work ≡ 0 = ⊎_elim (λ e. e) (λ n. absurd (n (sym (advance_early n) ∙ h))) (same? (early_item j table r f work) 0) in
        (e, (not_off (work_ok table r f work j.position) 16 0 (omega arith) (sym (advance_then e) ∙ h)).0)

    advance_numbered : Numbered (advance_items j table r f work)
    advance_numbered = numbered_append start_numbered (more {k = 14} (omega arith) (more {k = 15} (omega arith) (more {k = 16} (omega arith) end)))

    -- ---- finish: 1 to 18, 25 and 26

    module _ (mapping : List ℕ) where
      pub finish_advance : advance_item j table r f work ≢ 0 → finish_item j table r f work mapping ≡ advance_item j table r f work
      unfolding finish_item advance_item
      finish_advance h = first_here (advance_items j table r f work) (item 17 (is_left j r f) ∷ mapping_item r mapping ∷ []) h

      pub finish_then : advance_item j table r f work ≡ 0 → finish_item j table r f work mapping ≡ cond (is_left j r f) 17 (cond (ltb (length mapping) (count r)) 18 0)
      unfolding finish_item advance_item first_of
      finish_then e = first_then (item 17 (is_left j r f) ∷ mapping_item r mapping ∷ []) advance_numbered e

      pub finish_early : early_item j table r f work ≢ 0 → finish_item j table r f work mapping ≡ early_item j table r f work
      finish_early h = let a = advance_early h in finish_advance (λ z. h (sym a ∙ z)) ∙ a

      pub finish_work : early_item j table r f work ≡ 0 → work_ok table r f work j.position ≡ false → finish_item j table r f work mapping ≡ 16
      finish_work e h = let a = advance_work_lem e h in finish_advance (λ z. off (sym a ∙ z)) ∙ a
        where
          off : ◌≡◌ {A = ℕ} 16 0 → ⊥
          off e = omega arith

      pub finish_left : early_item j table r f work ≡ 0 → work_ok table r f work j.position ≡ true → is_left j r f ≡ true → finish_item j table r f work mapping ≡ 17
      finish_left e h k = finish_then (advance_none e h) ∙ rw k

      pub finish_mapping : early_item j table r f work ≡ 0 → work_ok table r f work j.position ≡ true → is_left j r f ≡ false → length mapping < count r → finish_item j table r f work mapping ≡ 18
      finish_mapping e h k l = finish_then (advance_none e h) ∙ rw (k, lt-ltb (length mapping) (count r) l)

      pub finish_none : early_item j table r f work ≡ 0 → work_ok table r f work j.position ≡ true → is_left j r f ≡ false → count r ≤ length mapping → finish_item j table r f work mapping ≡ 0
      finish_none e h k l = finish_then (advance_none e h) ∙ rw (k, le-ltb (length mapping) (count r) l)

      pub finish_passed : finish_item j table r f work mapping ≡ 0 → (advance_item j table r f work ≡ 0) × (is_left j r f ≡ false) × (count r ≤ length mapping)
      finish_passed h =
          let a : advance_item j table r f work ≡ 0 = ⊎_elim (λ e. e) (λ n. absurd (n (sym (finish_advance n) ∙ h))) (same? (advance_item j table r f work) 0) in
          let b = cond_off (is_left j r f) 17 (cond (ltb (length mapping) (count r)) 18 0) (omega arith) (sym (finish_then a) ∙ h) in
          let c : count r ≤ length mapping = ⊎_elim (λ l. absurd (off (rw (lt-ltb (length mapping) (count r) l) at b.1))) (λ l. l) (less? (length mapping) (count r)) in
          (a, b.0, c)
        where
          off : ◌≡◌ {A = ℕ} 18 0 → ⊥
          off e = omega arith
