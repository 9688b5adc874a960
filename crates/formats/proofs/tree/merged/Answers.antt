-- `merged` meets its contract: the components that the loop has passed are renamed, the others are as they were. Assumes nothing.
use Rattle.std.proofs.Common.{◌≡◌, ◌<◌, ℕ, List, length, get_or, sym, ◌∙◌, arith}
use Rattle.std.proofs.lemmas.List.{same_lists, get_or_default}
use Rattle.std.proofs.lemmas.Bool.Decides.{nat_tests}
use Rattle.foundations.specs.Lists.{tab, length_tab, get_d_tab}
use Rattle.foundations.specs.Changed.{Changed, changed_none, changed_more, changed_end}
use Rattle.model.specs.Limits.{vertex_limit}
use Rattle.formats.proofs.tree.merged.Goals as goal

all_changed : (f : ℕ → ℕ → ℕ) {n : ℕ} {l r : List ℕ} → Changed n f l r → length l ≡ n → r ≡ tab (λ x. f x (get_or l x 0)) n
all_changed f {n} {l} {r} C e =
    same_lists r (tab (λ x. f x (get_or l x 0)) n) (C.size ∙ (e ∙ sym (length_tab (λ x. f x (get_or l x 0)) n))) (λ k d h.
    let b : k < n = let s = C.size in omega arith in
    get_or_default r k d 0 h ∙ (C.done k b ∙ sym (get_d_tab (λ x. f x (get_or l x 0)) n k d b)))

pub loop-y-init : goal.loop-y-init
loop-y-init c = changed_none _ _

pub loop-y-preserved : goal.loop-y-preserved
loop-y-preserved c = changed_more c.loop-y.invariant (omega arith) (grind (arith, nat_tests))

pub returns : goal.returns
returns c = all_changed _ (changed_end {n = vertex_limit} c.loop-y.invariant (omega arith) (omega arith)) (omega arith)
