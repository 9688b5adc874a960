-- `tops` meets its contract: the numbers of a range that pass a test are counted. Assumes nothing.
use Rattle.std.proofs.Common.{arith, refl, sym, ◌≡◌, ◌∙◌, ℕ, zero, suc, ◌+◌, Bool, rules, ap}
use Rattle.std.specs.Prelude.{cond}
use Rattle.std.specs.List.{range_with_len, count_by}
use Rattle.std.proofs.lemmas.List.Sums.{length-filter, sum_by-cons}
use Rattle.std.proofs.lemmas.Iterator.{YieldsList-from_range}
use Rattle.std.proofs.lemmas.Iterator.Consumers.{YieldsList-at, YieldsList-from_filter, count_from_yields_List}
use Rattle.foundations.specs.Counting.{cnt, cnt_ext}
use Rattle.model.specs.Mapping.{is_top}
use Rattle.mappings.proofs.tops.Goals as goal

-- the first of n + 1 numbers, and the others
cnt_first : (p : ℕ → Bool) (n : ℕ) → cnt p (suc n) ≡ cond (p 0) 1 0 + cnt (λ k. p (suc k)) n
unfolding cnt
cnt_first p zero = omega arith
cnt_first p (suc n) = rw (cnt_first p n) (omega arith)

count_range : (p : ℕ → Bool) (a n : ℕ) → count_by p (range_with_len a n) ≡ cnt (λ k. p (a + k)) n
unfolding cnt
count_range p a zero = refl
count_range p a (suc n) =
    let first : a + 0 ≡ a = omega arith in
    let rest : count_by p (range_with_len (a + 1) n) ≡ cnt (λ k. p (a + suc k)) n = count_range p (a + 1) n ∙ cnt_ext _ _ n (λ k l. let e : a + 1 + k ≡ a + suc k = omega arith in ap p e) in
    sum_by-cons (λ x. cond (p x) 1 0) a (range_with_len (a + 1) n) ∙ (ap (λ x. cond (p a) 1 0 + x) rest ∙ sym (cnt_first (λ k. p (a + k)) n ∙ ap (λ b. cond (p b) 1 0 + cnt (λ k. p (a + suc k)) n) first))

pub returns : goal.returns
returns c =
    let p = is_top c.args.on.now.recorded.now c.args.mapping.now in
    let n = c.n-n.result in
    let same : cnt (λ k. p (0 + k)) n ≡ cnt p n = cnt_ext _ _ n (λ k l. let e : 0 + k ≡ k = omega arith in ap p e) in
    rw (← c.n-n.ensures.value) (count_from_yields_List c.filter.result _ c.count.ensures.ran
    (YieldsList-from_filter _ p (YieldsList-at c.filter.ensures.source (YieldsList-from_range 0 n n refl (omega arith))) c.filter.ensures.closure (λ x b q k. search rules))
    ∙ (length-filter p (range_with_len 0 n) ∙ (count_range p 0 n ∙ same)))
