-- Values by recursion down the recorded tree: with enough steps they solve every subproblem. Assumes nothing.
use Rattle.std.specs.Prelude.{◌≡◌, ℕ, zero, suc, ◌<◌, T}
use Rattle.std.proofs.Common.{sym, ap, ◌∙◌, arith, not-suc-le-zero}
use Rattle.foundations.specs.Members.{mem}
use Rattle.model.specs.Values.{best}
use Rattle.model.specs.Weights.{Weight, plus_w}
use Rattle.subtrees.specs.Matching.{best_ext}
use Rattle.subtrees.specs.Problem.{Instance, branch_w, available, Solved}

-- `run k` goes k vertices deep; `height` falls from each vertex to its children.
module _ (P : Instance) (run : ℕ → ℕ → ℕ → ℕ → Weight)
    (step : (k u v s : ℕ) → run (suc k) u v s ≡ plus_w (P.W u v) (best (branch_w P (run k) u v) (P.children u) (available P v s)))
    (height : ℕ → ℕ) (falls : (u c : ℕ) → u < P.n → T (mem c (P.children u)) → height c < height u) where
  -- enough steps are enough
  run_enough : (k j u v s : ℕ) → u < P.n → height u < k → height u < j → run k u v s ≡ run j u v s
  run_enough zero j u v s l h i = absurd (not-suc-le-zero h)
  run_enough (suc k) zero u v s l h i = absurd (not-suc-le-zero i)
  run_enough (suc k) (suc j) u v s l h i =
      step k u v s
      ∙ ap (plus_w (P.W u v)) (best_ext _ _ (P.children u) (available P v s)
      (λ c x t a. ap (plus_w (P.E u c v x)) (let f = falls u c l t in run_enough k j c x v (P.rooted.child u c l t).0 (omega arith) (omega arith))))
      ∙ sym (step j u v s)

  pub run_solved : (k : ℕ) → ((u : ℕ) → u < P.n → height u < k) → Solved P (run k)
  run_solved k big = record { is = λ u v s l m h. run_enough k (suc k) u v s l (big u l) (omega (arith, big u l)) ∙ step k u v s }
