-- A job in slices over undisturbed memory: after any advances the work numbers begin with the values as far as the position, every advance is
-- accepted and counts the smaller of its budget and what is left, and at the end the mapping is a heaviest one. Assumes nothing.
use Rattle.std.specs.Prelude.{◌≡◌, refl, true, false, cond, length, get_or, ltb, ℤ, pos, Ok}
use Rattle.std.proofs.Common.{sym, ◌∙◌, add-zero, take-append-drop, length-take, length-drop, length-append, take_at, take-take, drop_at, drop-drop, get_or-take, take_all}
use Rattle.std.proofs.Math.Path.{ap, subst}
use mathlib.Core.List.{List, [], ◌∷◌, ◌++◌}
use Prim.Native.Nat.{ℕ, ◌+◌, ◌*◌, ◌-◌, ◌≤◌, ◌<◌, min}
use native.Mathlib.Omega.{arith}
use Rattle.std.proofs.Math.ListN.{take, drop}
use borrow.Author.Tests.{le-leb, le-ltb, eq-eqb}
use Rattle.model.specs.Limits.{vertex_limit}
use Rattle.model.specs.declared.JobRecord.{JobRecord}
use Rattle.model.specs.Tree.{count}
use Rattle.model.specs.Order.{width, subproblems}
use Rattle.model.specs.Calls.{input_item}
use Rattle.model.specs.Values.{values}
use Rattle.model.specs.Jobs.{total_limit, record_ok, same_trees, is_left, work_ok, advance_item, finish_item, start_of, slice_count, advanced, advance_of, advance_work}
use Rattle.formats.specs.Inputs.{Accepted, input_accepted}
use Rattle.subtrees.proofs.Filling.{values_long}
use Rattle.subtrees.proofs.Theorems.{fill_prefix}
use Rattle.job_items.specs.Items.{start_none, early_item, early_none, advance_none, finish_then, finish_none}
use Rattle.jobs.specs.Fits.{values_pass}
use Rattle.jobs.specs.Outcomes.{advance_accepted, advance_fills}

-- ---- a job in slices: a start, then advances of these budgets together. Each advance is lent a list that begins with the n(3m - 2) numbers that the
-- call before left; what lies behind may be another in each call, longer or shorter. `left` is the list as the last call left it.

pub data Sliced (table r f : List ℕ) (j₀ : JobRecord) (work₀ : List ℤ) : ℕ → JobRecord → List ℤ → Type 0 where
  begins : Sliced table r f j₀ work₀ 0 (start_of j₀ table r f work₀).job work₀
  goes : {sum : ℕ} {j : JobRecord} {left : List ℤ} → Sliced table r f j₀ work₀ sum j left → (b : ℕ) (lent : List ℤ) → take (subproblems r f) lent ≡ take (subproblems r f) left
      → Sliced table r f j₀ work₀ (sum + b) (advance_of j table r f b lent).job (advance_work j table r f b lent)

-- ---- the same where each call is lent the very list that the last one left: the record and the list after the advances of a list of budgets

unfoldable pub job_after : List ℕ → List ℕ → List ℕ → JobRecord → List ℤ → List ℕ → JobRecord
job_after table r f j work [] = j
job_after table r f j work (b ∷ bs) = job_after table r f (advance_of j table r f b work).job (advance_work j table r f b work) bs

unfoldable pub work_after : List ℕ → List ℕ → List ℕ → JobRecord → List ℤ → List ℕ → List ℤ
work_after table r f j work [] = work
work_after table r f j work (b ∷ bs) = work_after table r f (advance_of j table r f b work).job (advance_work j table r f b work) bs

unfoldable pub together : List ℕ → ℕ
together [] = 0
together (b ∷ bs) = b + together bs

pub sliced_same : {table r f : List ℕ} {j₀ : JobRecord} {work₀ : List ℤ} (bs : List ℕ) {sum : ℕ} {j : JobRecord} {left : List ℤ}
    → Sliced table r f j₀ work₀ sum j left → Sliced table r f j₀ work₀ (sum + together bs) (job_after table r f j left bs) (work_after table r f j left bs)
unfolding job_after work_after together
sliced_same {table} {r} {f} {j₀} {work₀} [] {sum} {j} {left} s = subst (λ (k : ℕ). Sliced table r f j₀ work₀ k j left) (sym (add-zero sum)) s
sliced_same {table} {r} {f} {j₀} {work₀} (b ∷ bs) {sum} {j} {left} s =
    let e : sum + b + together bs ≡ sum + (b + together bs) = omega arith in
    subst (λ (k : ℕ). Sliced table r f j₀ work₀ k (job_after table r f j left (b ∷ bs)) (work_after table r f j left (b ∷ bs))) e (sliced_same bs (goes s b left refl))

-- ---- a job that began with this total and has come to position p, and a list to lend it: it begins with the values as far as that

pub record Running (table r f : List ℕ) (total₀ p : ℕ) (j : JobRecord) (work : List ℤ) : Type 0 where
  pub active : j.idle ≡ false
  pub recorded : j.n ≡ count r
  pub found : j.m ≡ count f
  pub here : j.position ≡ p
  pub low : p ≤ subproblems r f
  pub total : total₀ ≤ total_limit → j.total ≡ min (total₀ + p) total_limit
  pub enough : subproblems r f ≤ length work
  pub front : take p work ≡ take p (values table r f)

module _ (table r f : List ℕ) (passes : input_item table r f ≡ 0) (total₀ : ℕ) where
  A : Accepted table r f
  A = input_accepted table r f passes

  abbrev N : ℕ
  N = subproblems r f

  abbrev Vs : List ℤ
  Vs = values table r f

  front_long : (p : ℕ) → p ≤ N → length (take p Vs) ≡ p
  front_long p l = let a = length-take p Vs in let b = values_long table r f A in omega arith

  front_wide : (p : ℕ) (work : List ℤ) → p ≤ N → N ≤ length work → N ≤ length (take p Vs ++ drop p work)
  front_wide p work l long = let a = length-append (take p Vs) (drop p work) in let b = front_long p l in let c = length-drop p work in omega arith

  -- behind the values as far as p stands what stood in y
  pub behind : (p d : ℕ) (x y : List ℤ) → p ≤ N → x ≡ take p Vs ++ drop p y → drop (p + d) x ≡ drop (p + d) y
  behind p d x y l e = sym (drop-drop d p x) ∙ ap (drop d) (ap (drop p) e ∙ drop_at (take p Vs) (drop p y) p (front_long p l)) ∙ drop-drop d p y

  module _ {p : ℕ} {j : JobRecord} {work : List ℤ} (R : Running table r f total₀ p j work) where
    record_ok_lem : record_ok j ≡ true
    unfolding record_ok subproblems width
    record_ok_lem =
        let rs = A.recorded.ends in
        let fs = A.found.ends in
        rw (R.active, R.recorded, R.found, R.here, le-leb 1 (count r) rs.some, le-leb (count r) vertex_limit rs.few, le-leb 1 (count f) fs.some, le-leb (count f) vertex_limit fs.few, le-leb p (count r * (3 * count f - 2)) R.low)

    trees_ok : same_trees j r f ≡ true
    unfolding same_trees
    trees_ok = rw (eq-eqb j.n (count r) R.recorded, eq-eqb j.m (count f) R.found)

    early_ok : early_item j table r f work ≡ 0
    early_ok = early_none table r f work j (start_none table r f work passes R.enough) record_ok_lem trees_ok

    same_numbers : (k : ℕ) → k < j.position → get_or work k (pos 0) ≡ get_or Vs k (pos 0)
    same_numbers k h =
        let l : k < p = rw R.here at h in
        sym (get_or-take p work k (pos 0) l) ∙ ap (λ (w : List ℤ). get_or w k (pos 0)) R.front ∙ get_or-take p Vs k (pos 0) l

    work_ok_lem : work_ok table r f work j.position ≡ true
    work_ok_lem = values_pass table r f passes work j.position (rw R.here R.low) same_numbers

    -- the next advance is accepted
    pub running_item : advance_item j table r f work ≡ 0
    running_item = advance_none table r f work j early_ok work_ok_lem

    slice_is : (b : ℕ) → slice_count j r f b ≡ min b (N - p)
    unfolding slice_count
    slice_is b = rw R.here

    -- it counts the smaller of its budget and what is left
    pub running_counts : (b : ℕ) → (advance_of j table r f b work).answer ≡ Ok (min b (N - p))
    running_counts b = ap (λ o. o.answer) (advance_accepted j table r f b work running_item) ∙ ap Ok (slice_is b)

    -- fills exactly those work numbers, with the values
    pub running_fills : (b : ℕ) → advance_work j table r f b work ≡ take (p + min b (N - p)) Vs ++ drop (p + min b (N - p)) work
    running_fills b =
        let l = R.low in
        advance_fills j table r f b work running_item ∙ rw (slice_is b, R.here) (fill_prefix table r f passes work p (min b (N - p)) (omega arith) R.enough R.front)

    -- and leaves the job so much further on
    pub running_step : (b : ℕ) → Running table r f total₀ (p + min b (N - p)) (advance_of j table r f b work).job (advance_work j table r f b work)
    unfolding advanced
    running_step b =
        let c = min b (N - p) in
        let l = R.low in
        let e = ap (λ o. o.job) (advance_accepted j table r f b work running_item) in
        let s = slice_is b in
        let fits : p + c ≤ N = omega arith in
        record {
          active = ap (λ o. o.idle) e ∙ R.active;
          recorded = ap (λ o. o.n) e ∙ R.recorded;
          found = ap (λ o. o.m) e ∙ R.found;
          here = ap (λ o. o.position) e ∙ rw (s, R.here);
          low = fits;
          total = λ t. ap (λ o. o.total) e ∙ rw (s, R.total t) (omega arith);
          enough = rw (running_fills b) (front_wide (p + c) work fits R.enough);
          front = rw (running_fills b) (take_at (take (p + c) Vs) (drop (p + c) work) (p + c) (front_long (p + c) fits));
        }

    -- another list may be lent that begins with the same n(3m - 2) numbers
    pub running_lent : (lent : List ℤ) → take N lent ≡ take N work → Running table r f total₀ p j lent
    running_lent lent e = record {
      active = R.active;
      recorded = R.recorded;
      found = R.found;
      here = R.here;
      low = R.low;
      total = R.total;
      enough = let a = length-take N lent in let b = length-take N work in let g = ap length e in let h = R.enough in omega arith;
      front = sym (take-take p N lent R.low) ∙ ap (take p) e ∙ take-take p N work R.low ∙ R.front;
    }

    -- at the end a finish is accepted
    pub running_finish : p ≡ N → (mapping : List ℕ) → count r ≤ length mapping → finish_item j table r f work mapping ≡ 0
    unfolding is_left
    running_finish e mapping l = finish_none table r f work j mapping early_ok work_ok_lem (rw (R.here, e) (le-ltb N N (omega arith))) l

    -- before that it is refused by 17, and then by nothing but 18
    pub running_ends : (mapping : List ℕ) → finish_item j table r f work mapping ≡ cond (ltb p N) 17 (cond (ltb (length mapping) (count r)) 18 0)
    unfolding is_left
    running_ends mapping = finish_then table r f work j mapping running_item ∙ rw R.here

    pub running_values : p ≡ N → take N work ≡ Vs
    running_values e = ap (λ (k : ℕ). take k work) (sym e) ∙ R.front ∙ ap (λ (k : ℕ). take k Vs) e ∙ take_all N Vs (let l = values_long table r f A in omega arith)

  -- where the very list is lent again, what it holds behind the values is what it held at first
  pub rest_same : (bs : List ℕ) {p : ℕ} {j : JobRecord} {work : List ℤ} → Running table r f total₀ p j work → work_after table r f j work bs ≡ take (min (p + together bs) N) Vs ++ drop (min (p + together bs) N) work
  unfolding job_after work_after together
  rest_same [] {p} {j} {work} R =
      let l = R.low in
      let e : p ≡ min (p + 0) N = omega arith in
      subst (λ (k : ℕ). work ≡ take k Vs ++ drop k work) e (sym (take-append-drop p work) ∙ ap (λ (w : List ℤ). w ++ drop p work) R.front)
  rest_same (b ∷ bs) {p} {j} {work} R =
      let c = min b (N - p) in
      let l = R.low in
      let next = advance_work j table r f b work in
      let q = min (p + c + together bs) N in
      let d = q - (p + c) in
      let far : p + c + d ≡ q = omega arith in
      let rest : drop q next ≡ drop q work = subst (λ (k : ℕ). drop k next ≡ drop k work) far (behind (p + c) d next work (omega arith) (running_fills R b)) in
      let e : q ≡ min (p + (b + together bs)) N = omega arith in
      rest_same bs (running_step R b) ∙ ap (λ (w : List ℤ). take q Vs ++ w) rest ∙ ap (λ (k : ℕ). take k Vs ++ drop k work) e
