-- `split` meets its contract: where the parts end says which they are. Assumes nothing.
use Rattle.std.proofs.Common.{◌≡◌, ◌+◌, ◌-◌, ℕ, length, ap, ◌∙◌, arith, min, drop-drop}
use Rattle.formats.specs.Split.{split_at}
use Rattle.formats.proofs.split.split.Goals as goal

pub returns-clause-at : goal.returns-clause-at
returns-clause-at c =
    let table_end = c.split_at.ensures.front_len ∙ c.min-table_end.ensures ∙ ap (λ (n : ℕ). min n (length c.args.input.now)) c.table_length.ensures in
    let recorded_end = c.split_at-2.ensures.front_len ∙ c.min-recorded_end.ensures ∙ ap (λ (n : ℕ). min n (length c.split_at.result.1.now)) c.tree_length.ensures in
    split_at _ _ _ table_end (ap (λ (n : ℕ). length c.split_at.result.0.now + n) (rw (c.split_at.ensures.front_len, ← c.split_at.ensures.back) recorded_end))

pub returns-clause-table : goal.returns-clause-table
returns-clause-table c = c.split_at.ensures.front ∙ rw (← c.split_at.ensures.front_len) (returns-clause-at c).table

pub returns-clause-recorded : goal.returns-clause-recorded
returns-clause-recorded c =
    let size : c.min-recorded_end.result ≡ (length c.split_at.result.0.now + length c.split_at-2.result.0.now) - length c.split_at.result.0.now = omega (arith, c.split_at-2.ensures.front_len) in
    c.split_at-2.ensures.front ∙ rw (size, c.split_at.ensures.back, ← c.split_at.ensures.front_len) (returns-clause-at c).recorded

pub returns-clause-found : goal.returns-clause-found
returns-clause-found c =
    c.split_at-2.ensures.back ∙ rw (← c.split_at-2.ensures.front_len, c.split_at.ensures.back, ← c.split_at.ensures.front_len, drop-drop) (returns-clause-at c).found
