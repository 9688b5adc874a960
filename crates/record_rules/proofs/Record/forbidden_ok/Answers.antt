-- `Record::forbidden_ok` meets its contract. Assumes nothing.
use Rattle.foundations.specs.Machine.{Same, back}
use Rattle.record_rules.specs.Cover.{zeros_in}
use Rattle.record_rules.proofs.Record.forbidden_ok.Goals as goal

pub returns : goal.returns
unfolding zeros_in
returns c =
    let d : Same c.value.result = back c.value.type_inv in
    rw (c.is_forbidden.ensures, d, c.value.ensures, c.all_zero-below.ensures, c.all_zero-across.ensures, c.first.ensures, c.next.ensures)
