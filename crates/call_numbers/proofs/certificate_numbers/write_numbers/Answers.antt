-- `write_numbers` gives the numbers of the answer of `write_certificate`. Assumes nothing.
use Rattle.call_numbers.proofs.Exports.{writes}
use Rattle.call_numbers.proofs.certificate_numbers.write_numbers.Goals as goal

pub returns : goal.returns
returns c =
    let n = c.into.ensures in
    writes c.write_certificate-a.ensures n.0 n.1
