-- `record_ok` multiplies only counts that are in their range. Assumes nothing.
use mathlib.Core.Bool.{true, false, not, ◌&&◌}
use mathlib.Core.Path.{◌≡◌, sym}
use Rattle.foundations.specs.Tests.{passed}
use Rattle.model.specs.Jobs.{count_ok}
use Rattle.job_items.specs.Items.{record_fails, record_is}
use mathlib.Core.Path.{ap}
use Rattle.job_items.proofs.record_ok.Goals as goal

pub returns-then-not-fine : goal.returns-then-not-fine
returns-then-not-fine c =
    let j = c.args.job in
    let h : (not j.idle && (c.count_ok-n_ok.result && c.count_ok-m_ok.result)) ≡ false = c.if-not-fine.true in
    sym (record_fails j (rw (c.count_ok-n_ok.ensures, c.count_ok-m_ok.ensures) at h))

pub returns : goal.returns
returns c =
    let fine : let j = c.args.job in
    (not j.idle && (count_ok j.n && count_ok j.m)) ≡ true = let j = c.args.job in
    passed (not j.idle && (count_ok j.n && count_ok j.m)) (not j.idle && (c.count_ok-n_ok.result && c.count_ok-m_ok.result)) (rw (c.count_ok-n_ok.ensures, c.count_ok-m_ok.ensures)) (ap not c.if-not-fine.false) in
    rw c.product.ensures.0 (sym (record_is c.args.job (fine)))
