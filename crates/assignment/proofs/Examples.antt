-- The greatest weight of small tables, computed: a check of the definition itself. Assumes nothing.
use mathlib.Core.Path.{◌≡◌, refl}
use Prim.Native.Nat.{ℕ, ◌+◌, ◌*◌, ◌%◌}
use Rattle.assignment.specs.Matching.{best, best_column, minus, all}

table : ℕ → ℕ → ℕ
table i j = (3 * i + 5 * j + 7 * (i * j)) % 11

none : best 3 table 0 all ≡ 0
unfolding best
none = refl

two : best 2 (λ i j. (5 + 9 * i + 9 * j + 7 * (i * j)) % 10) 2 all ≡ 8
unfolding best best_column minus
two = refl

wide : best 3 table 2 all ≡ 14
unfolding best best_column minus table
wide = refl

three : best 3 table 3 all ≡ 20
unfolding best best_column minus table
three = refl

four : best 4 table 4 all ≡ 31
unfolding best best_column minus table
four = refl
