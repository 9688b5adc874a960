-- The records of a pair of vertices, one for each choice of s: what the code has read for them, and that its test is the model's. Assumes nothing.
use Rattle.std.specs.Prelude.{◌≡◌, Bool, true, false, List, ℕ, ◌+◌, ◌*◌, ◌≤◌, ◌<◌, ℤ}
use Rattle.std.proofs.Math.Path.{refl, sym, ap}
use Rattle.std.proofs.Common.{◌∙◌}
use native.Mathlib.Omega.{arith}
use Rattle.std.proofs.Math.ListN.{length, get_or}
use Rattle.model.specs.Certificate.{others, record_at, value_of, subproblem_ok}
use Rattle.model.specs.Graph.{neighbours}
use Rattle.model.specs.Limits.{degree_limit}
use Rattle.model.specs.Order.{children, choices, offset, width}
use Rattle.model.specs.Pairs.{vertex_pair}
use Rattle.model.specs.Tree.{count}
use Rattle.model.specs.Values.{branch}
use Rattle.model.specs.Weights.{weighed, is_forbidden}
use Rattle.plan.specs.Plan.{child_count_in, order_in, degree_in, Pair}
use Rattle.plan.specs.Numbers.{ready_sound}
use Rattle.plan.specs.Pairs.{weighed_none, weighed_number, cell, up_w, gain_at, Filled, children_is, degree_is, children_few, degree_few}
use Rattle.records.specs.Others.{others_of, others_few, column_in, OthersAt, others_at}
use Rattle.records.specs.Places.{inputs_length, order_low, number_at}
use Rattle.record_rules.specs.Cover.{Inside, record_in, rules_none, rules_some}
use Rattle.check_records.specs.Rules.{RecordIs, record_none, record_some}
use Rattle.check_records.specs.Gains.{Given}

-- ---- the records of the i-th vertex in postorder

unfoldable pub in_row : List ℕ → List ℕ → List ℕ → List ℕ → ℕ → ℕ → Bool
in_row table r f z i k = subproblem_ok table r f z (i * width f + k)

-- those of it and v: the pair's gains and weight
pub record PairRead (table r f : List ℕ) (plan : List (List ℕ)) (z : List ℕ) (i v : ℕ) (g : List ℕ) (w : ℤ) : Type 0 where
  pub row : i < count r
  pub low : v < count f
  pub gains : Filled (length (children r (order_in plan i))) (length (neighbours f v)) (gain_at table r f (value_of r f z) (order_in plan i) v) g
  pub weighs : vertex_pair table r f (order_in plan i) v ≡ weighed w

-- the record of choice q for v, which begins at `here`
pub record ChoiceIs (table r f z : List ℕ) (i v q here n l : ℕ) (g : List ℕ) (w : ℤ) : Type 0 where
  pub inside : Inside (length z) here n l
  pub low : (j : ℕ) → j < l → column_in q j < degree_limit
  pub is : record_in z here n l q g w ≡ in_row table r f z i (offset f v + q)

module _ {table r f : List ℕ} {plan places : List (List ℕ)} {z : List ℕ} (G : Given table r f plan places z) where
  -- the i-th vertex and v are a pair
  pub row_pair : (i v : ℕ) → i < count r → v < count f → Pair r f (order_in plan i) v
  row_pair i v li lv = record { u_low = (order_low G.laid.inputs i li).0; v_low = lv }

  module _ {i v : ℕ} {g : List ℕ} {w : ℤ} (R : PairRead table r f plan z i v g w) where
    Q : Pair r f (order_in plan i) v
    Q = row_pair i v R.row R.low

    read_degree : degree_in plan v ≡ length (neighbours f v)
    read_degree = degree_is G.ready Q

    read_few : length (neighbours f v) ≤ degree_limit
    read_few = degree_few G.ready Q

    record_is : {k s here n l q : ℕ} (t : Bool) → is_forbidden w ≡ t → RecordIs r f k (order_in plan i) v s here n l → OthersAt f v q s → record_in z here n l q g w ≡ subproblem_ok table r f z k
    record_is {k} {s} {here} {n} {l} {q} true h I O = sym (rules_none z here n l q g w h) ∙ record_none table r f z k (order_in plan i) v s here n l I (R.weighs ∙ weighed_none w h)
    record_is {k} {s} {here} {n} {l} {q} false h I O = sym (rules_some z here n l q g w h) ∙ record_some table r f z k (order_in plan i) v s here n l I q g w (R.weighs ∙ weighed_number w h) cells
      where
        cells : (x j : ℕ) → x < n → j < l → cell g x (column_in q j) ≡ up_w (branch table r f (value_of r f z) (order_in plan i) v (get_or (children r (order_in plan i)) x 0) (get_or (others f v s) j 0))
        cells x j hx hj =
            let a = I.rows in
            let b = I.columns in
            let c = O.low j (omega arith) in
            (R.gains.get x (column_in q j) (omega arith) c).0
            ∙ (unfold gain_at in ap (λ (y : ℕ). up_w (branch table r f (value_of r f z) (order_in plan i) v (get_or (children r (order_in plan i)) x 0) y)) (sym (O.get j (omega arith))))

    pub choice_is : (q here n d l : ℕ) → q ≤ d → d ≡ degree_in plan v → n ≡ child_count_in plan (order_in plan i) → here ≡ record_at r f (i * width f + (offset f v + q)) → l ≡ others_of d q → ChoiceIs table r f z i v q here n l g w
    unfolding in_row
    choice_is q here n d l lq ed en eh el =
        let dd : d ≡ length (neighbours f v) = ed ∙ read_degree in
        let few = read_few in
        let rows : n ≡ length (children r (order_in plan i)) = en ∙ children_is G.ready Q in
        let rows_few = children_few G.ready Q in
        let s = get_or (choices f v) q 0 in
        let N = number_at G.ready i v q R.row R.low (omega arith) in
        let O : OthersAt f v q s = others_at f (ready_sound G.ready) v q s R.low (omega arith) refl in
        let columns : l ≡ length (others f v s) = el ∙ ap (λ (y : ℕ). others_of y q) dd ∙ sym O.number in
        let less : l ≤ d = rw el (others_few d q) in
        let inside = N.inside in
        let long = G.long in
        let most = inputs_length G.laid.inputs in
        record {
          inside = record { fits = omega arith; small = omega arith; rows = omega arith; columns = omega arith };
          low = λ j h. let c = O.low j (omega arith) in omega arith;
          is = record_is (is_forbidden w) refl (record { number = N; begins = eh; rows = rows; columns = columns }) O;
        }
