-- What a call has read stands for the table and the trees. Assumes nothing.
use Rattle.std.specs.Prelude.{List, ℕ, ℤ}
use Rattle.plan.specs.Plan.{Ready, Lent}
use Rattle.plan.specs.Numbers.{ready_recorded, ready_sound}
use Rattle.one_call.specs.Top.{AllAt}

-- what the search for the largest value takes
pub all_at : {table r f : List ℕ} {plan : List (List ℕ)} {work : List ℤ} → Ready table r f plan → Lent r f work → AllAt r f work plan
all_at R l = record { recorded = ready_recorded R; found = ready_sound R; planned = R.planned; enough = l.enough }
