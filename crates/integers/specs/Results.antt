-- What `gain` and `stored_value` promise: the model's value, and its bounds beside it, so that callers compute with ℕ or by `omega int`.
use Rattle.std.specs.Prelude.{ℕ, ◌*◌, ◌≤◌, ◌≡◌, ℤ, pos, neg_ℤ, ◌≤ℤ◌}
use Rattle.model.specs.Limits.{weight_limit, ceiling}
use Rattle.model.specs.Weights.{gain_of, stored}

-- two numbers of 32 bits have a sum of at most 2 (2³¹ - 1), whatever the limits of weights and values
abbrev pub gain_most : ℕ
gain_most = 2 * 2147483647

pub record Gain (edge value : ℤ) (r : ℕ) : Type 0 where
  pub is : r ≡ gain_of edge value
  pub small : r ≤ gain_most

pub record StoredValue (weight : ℤ) (total : ℕ) (r : ℤ) : Type 0 where
  pub is : r ≡ stored weight total
  pub least : neg_ℤ (pos weight_limit) ≤ℤ r
  pub most : r ≤ℤ pos ceiling
